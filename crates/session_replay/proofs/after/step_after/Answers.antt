-- `session_replay::after::step_after` meets its contract.
use mathlib.Core.Path.{sym, ap}
use Rattle.session_printed.specs.declared.calls.Made.{Made}
use Rattle.session_replay.specs.After.{step_after}
use borrow.Author.Rules.{rules}
use Rattle.session_replay.proofs.after.step_after.Goals as goal

pub returns-in-Ended : goal.returns-in-Ended
returns-in-Ended c = sym (ap (λ (x : Made). step_after x c.args.at) c.in-Ended.is)

pub returns-in-Went : goal.returns-in-Went
returns-in-Went c = sym (ap (λ (x : Made). step_after x c.args.at) c.in-Went.is)
