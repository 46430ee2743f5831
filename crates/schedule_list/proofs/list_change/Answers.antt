-- `schedule_list::list_change` meets its contract.
use Rattle.schedule_list.proofs.Lists as lists
use Rattle.schedule_list.proofs.list_change.Goals as goal

pub returns-then-was-is : goal.returns-then-was-is
returns-then-was-is c =
    let a = c.args in
    lists.written_same a.moment a.input a.was a.is a.place _ _ _ c.if-was-is.true

-- there is a place for the change
pub bounds-moments-place : goal.bounds-moments-place
bounds-moments-place c = (lists.room _ _ _ _ c.requires.1 c.requires.2 c.if-was-is.false c.requires.3).0

pub bounds-inputs-place : goal.bounds-inputs-place
bounds-inputs-place c = (lists.room _ _ _ _ c.requires.1 c.requires.2 c.if-was-is.false c.requires.3).1

pub bounds-values-place : goal.bounds-values-place
bounds-values-place c = (lists.room _ _ _ _ c.requires.1 c.requires.2 c.if-was-is.false c.requires.3).2

pub returns : goal.returns
returns c = lists.written_change _ _ _ _ c.requires.1 c.requires.2 c.if-was-is.false _ _ _ _
