-- The child field that made a routine stands where the code finds it. The letters are those of specs/Filling.
use mathlib.Core.Path.{◌≡◌, sym, ap, subst, ◌∙◌}
use mathlib.Core.List.{List}
use Prim.Native.Nat.{ℕ, ◌+◌, ◌≤◌, ◌<◌}
use native.Mathlib.Omega.{arith}
use lib.ListN.{length, get_or}
use Rattle.listing.specs.Listing.{Call, Instruction, end}
use Rattle.walk.specs.Walk.{instruction_at, child_count}
use Rattle.table.specs.Decode.{word, call_at, calls_at, head_after, size_of, table_listing}
use Rattle.table.specs.Entry.{ChildStands, Fetched}
use Rattle.table.proofs.Reach.{calls_by_place}
use Rattle.engine_rows.specs.Rows.{Row, Rows}
use Rattle.engine_rows.specs.Records.{no_call_lem, calls_of}
use Rattle.engine_rows.specs.Records as records
use Rattle.engine_fill_row.specs.Filling.{MayFillChild}
use Rattle.engine_fill_row.specs.declared.field.Field.{Field}
use Rattle.engine_fill_row.specs.Field.{FieldIs}
use Rattle.engine_fill_row.proofs.Asked.{routine_there, place_there}
use Rattle.engine_fill_row.proofs.Fetching.{fork_kind, fork_calls, calls_counted}

-- The parent's instruction has child fields, so that it is there.
module _ {t : List ℕ} {rows : Rows} {p s : ℕ} (M : MayFillChild t rows p s) where
  no_end : instruction_at (table_listing t) (rows p).routine (rows p).place ≡ end → ⊥
  unfolding records.calls_at calls_of child_count
  no_end e =
      let none : child_count (records.calls_at (table_listing t) (rows p)) ≡ 0 = ap (λ (i : Instruction). child_count (calls_of i)) e in omega (arith, M.numbered, none)

  pub parent_routine : (rows p).routine < word t 2
  parent_routine = routine_there t (rows p).routine (rows p).place no_end

  pub parent_place : (rows p).place < size_of t (rows p).routine
  parent_place = place_there t (rows p).routine (rows p).place no_end

-- The entry of the parent's instruction.
module _ {t : List ℕ} {rows : Rows} {p s kind operand cells first second : ℕ} (M : MayFillChild t rows p s)
    (F : Fetched t (rows p).routine (rows p).place kind operand cells first second)
  where
    is_fork_lem : kind ≡ 6
    unfolding records.calls_at
    is_fork_lem = fork_kind F (omega (arith, M.numbered))

    pub calls_are : records.calls_at (table_listing t) (rows p) ≡ calls_at t cells first
    unfolding records.calls_at
    calls_are = fork_calls F is_fork_lem

    pub count_is : child_count (records.calls_at (table_listing t) (rows p)) ≡ first
    count_is = ap child_count calls_are ∙ calls_counted t cells first

    pub child_inside : (rows s).child < first
    child_inside = omega (arith, M.numbered, count_is)

    pub child_stands : (j : ℕ) → j < first → ChildStands t (length (rows p).bindings) (head_after t cells j)
    child_stands j h = subst (λ (n : ℕ). ChildStands t n (head_after t cells j)) (sym M.names) ((F.forks is_fork_lem).children j h)

    pub head_inside : (j : ℕ) → j < first → head_after t cells j + 2 ≤ 12288
    head_inside j h = omega (arith, (child_stands j h).arguments.inside)

    pub field_is : (r : Field) → r.head ≡ head_after t cells (rows s).child → r.callee ≡ word t (r.head + 1) → r.count ≡ first → FieldIs t rows p s r
    field_is r h c n =
        record {
          stands = subst (λ (a : ℕ). ChildStands t (length (rows p).bindings) a) (sym h) (child_stands (rows s).child child_inside);
          callee = c;
          is = ap (call_at t) h ∙ (sym (calls_by_place t first cells (rows s).child no_call_lem child_inside) ∙ ap (λ (cs : List Call). get_or cs (rows s).child no_call_lem) (sym calls_are));
          count = n ∙ sym count_is;
          numbered = omega (arith, child_inside, n);
        }

-- The entry that the code reads, by the words that it reads.
pub fetched_there : {t : List ℕ} {r at kind operand cells first second : ℕ} (x : Row) → r ≡ x.routine → at ≡ x.place → Fetched t r at kind operand cells first second
    → Fetched t x.routine x.place kind operand cells first second
fetched_there {t} {r} {at} {kind} {operand} {cells} {first} {second} x e f F =
    subst (λ (place : ℕ). Fetched t x.routine place kind operand cells first second) f
    (subst (λ (n : ℕ). Fetched t n at kind operand cells first second) e F)
