-- `engine_fill_row::field::wait_mark` meets its contract.
use mathlib.Core.Path.{◌≡◌, refl, sym, ap, ◌∙◌}
use mathlib.Core.Bool.{Bool, true, false}
use Prim.Native.Nat.{ℕ}
use lib.Dec.{eqb}
use mir.Val.{bool_byte}
use borrow.Author.Tests.{eqb-true, eqb-false}
use Rattle.walk.specs.Walk.{instruction_at}
use Rattle.table.specs.Decode.{table_listing}
use Rattle.engine_rows.specs.Records.{is_wait}
use Rattle.table.specs.Entry.{Fetched}
use Rattle.table_read.proofs.Fetching.{has_entry, entry_fetched}
use Rattle.engine_blocks.specs.Blocks.{nonzero}
use Rattle.engine_fill_row.proofs.Fetching.{marked_wait, unmarked_wait}
use Rattle.engine_fill_row.proofs.field.wait_mark.Goals as goal
use Rattle.engine_fill_row.proofs.field.wait_mark.Goals.{After-fetch-e}

pub fetch-e-requires : goal.fetch-e-requires
fetch-e-requires c =
    let a = c.args in
    has_entry a.t.now c.requires.0 a.r c.requires.1 a.place c.requires.2

-- what the entry tells
read : (c : After-fetch-e) → (let a = c.args in
    let e = c.fetch-e.result in
    Fetched a.t.now a.r a.place e.kind e.operand e.cells e.first e.second)
read c = entry_fetched c.args.t.now c.requires.0 c.args.r c.requires.1 c.args.place c.requires.2 c.fetch-e.result c.fetch-e.ensures

read_back : (b : Bool) → nonzero (bool_byte b) ≡ b
unfolding nonzero
read_back true = refl
read_back false = refl

pub returns : goal.returns
returns c = ap nonzero c.from.ensures ∙ (read_back (eqb kind 5) ∙ told (eqb kind 5) refl)
  where
    kind : ℕ
    kind = c.fetch-e.result.kind

    told : (b : Bool) → eqb kind 5 ≡ b → b ≡ is_wait (instruction_at (table_listing c.args.t.now) c.args.r c.args.place)
    told true e = sym (marked_wait (read (goal.at.returns c).After-fetch-e) (eqb-true kind 5 e))
    told false e = sym (unmarked_wait (read (goal.at.returns c).After-fetch-e) (eqb-false kind 5 e))
