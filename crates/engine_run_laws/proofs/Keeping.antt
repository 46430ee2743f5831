-- Every routine stays at an instruction of its routine when one row is changed. Letters: t the table's words, σ rows, s a slot, r its new row.
use mathlib.Core.Path.{◌≡◌, refl, sym, ap, subst, ◌∙◌}
use mathlib.Core.Bool.{Bool, true, false}
use mathlib.Core.List.{List, [], ◌∷◌}
use Prim.Native.Nat.{ℕ, zero, suc, ◌≤◌, ◌<◌}
use native.Mathlib.Decide.{ℕ_discrete}
use native.Mathlib.Omega.{arith}
use lib.ListN.{length}
use Rattle.listing.specs.Listing.{Listing}
use Rattle.walk.specs.State.{Variable}
use Rattle.table.specs.Decode.{word, size_of}
use Rattle.engine_rows.specs.Rows.{Owner, in_environment, in_slot, Row, Rows, with_row, with_own, at_place, with_children, free_row, rows_with}
use Rattle.engine_rows.specs.Engine.{first_place}
use Rattle.engine_rows.proofs.Held.{row_for}
use Rattle.engine_rows.proofs.Standing.{head_of}
use Rattle.engine_rows.proofs.Steady.{TableFits}
use Rattle.engine_rows.proofs.Reachable.{Reached}
use Rattle.engine_blocks.proofs.RowChanges.{with_row_same, with_row_other}
use Rattle.engine_run_laws.specs.Placed.{GoesOn, Placed}

-- The routine that runs has no live children.
pub running_childless : (listing : Listing) (now : ℕ) (triggers : Owner → List ℕ) (T : TableFits listing) (left : ℕ) (σ : Rows) (environment : List Variable)
    (q : List ℕ) (live woken me : ℕ) → Reached listing now triggers T left σ environment q live woken me → (σ me).children ≡ 0
unfolding row_for
running_childless listing now triggers T left σ environment q live woken me R =
    subst (λ z. (σ z).children ≡ 0) (sym R.here) (ap (λ (r : Row). r.children) (head_of R.runs.held).row)

-- What Placed says of one row.
pub record PlacedRow (t : List ℕ) (r : Row) : Type 0 where
  pub routine : r.used ≡ true → r.routine < word t 2
  pub place : r.used ≡ true → r.place < size_of t r.routine
  pub sleeper : r.asleep ≡ true → GoesOn t r
  pub parent : 0 < r.children → GoesOn t r

module _ (t : List ℕ) where
  pub placed_each : {σ : Rows} → ((s : ℕ) → PlacedRow t (σ s)) → Placed t σ
  placed_each h = record { routine = λ s. (h s).routine; place = λ s. (h s).place; sleeper = λ s. (h s).sleeper; parent = λ s. (h s).parent }

  pub placed_row : {σ : Rows} → Placed t σ → (s : ℕ) → PlacedRow t (σ s)
  placed_row h s = record { routine = h.routine s; place = h.place s; sleeper = h.sleeper s; parent = h.parent s }

  pub placed_with : (σ : Rows) (s : ℕ) (r : Row) → Placed t σ → PlacedRow t r → Placed t (with_row σ s r)
  placed_with σ s r h new = placed_each (λ k. go k (ℕ_discrete k s))
    where
      go : (k : ℕ) → Dec (k ≡ s) → PlacedRow t (with_row σ s r k)
      go k (yes e) = subst (λ (x : Row). PlacedRow t x) (sym (ap (with_row σ s r) e ∙ with_row_same σ s r)) new
      go k (no d) = subst (λ (x : Row). PlacedRow t x) (sym (with_row_other σ s r k d)) (placed_row h k)

  -- A routine without live children goes on at an instruction.
  pub placed_on : (σ : Rows) (s place : ℕ) → Placed t σ → (σ s).children ≡ 0 → ((σ s).used ≡ true → place < size_of t (σ s).routine)
      → Placed t (with_row σ s (at_place (σ s) place))
  unfolding at_place
  placed_on σ s place h none there =
      placed_with σ s (at_place (σ s) place) h (record {
        routine = h.routine s;
        place = there;
        sleeper = λ e. let z : ◌≡◌ {A = ℕ} 0 1 = cc in absurd (omega arith);
        parent = λ l. absurd (omega arith);
      })

  -- A slot is freed.
  pub placed_free : (σ : Rows) (s : ℕ) → Placed t σ → Placed t (with_row σ s free_row)
  unfolding free_row
  placed_free σ s h =
      placed_with σ s free_row h (record {
        routine = λ e. let z : ◌≡◌ {A = ℕ} 0 1 = cc in absurd (omega arith);
        place = λ e. let z : ◌≡◌ {A = ℕ} 0 1 = cc in absurd (omega arith);
        sleeper = λ e. let z : ◌≡◌ {A = ℕ} 0 1 = cc in absurd (omega arith);
        parent = λ l. absurd (omega arith);
      })

  -- A variable is changed.
  pub placed_variable : (σ : Rows) (o : Owner) (x : Variable) → Placed t σ → Placed t (rows_with σ o x)
  unfolding rows_with with_own
  placed_variable σ (in_environment a) x h = h
  placed_variable σ (in_slot s i) x h =
      placed_with σ s _ h (record {
        routine = h.routine s;
        place = h.place s;
        sleeper = λ e. let g = h.sleeper s e in record { routine = g.routine; next = g.next };
        parent = λ l. let g = h.parent s l in record { routine = g.routine; next = g.next };
      })

  -- The first that is ready goes on: a sleeper behind its wait, a new routine where it is.
  pub placed_pop : (σ : Rows) (s : ℕ) → Placed t σ → (σ s).children ≡ 0 → Placed t (with_row σ s (at_place (σ s) (first_place (σ s).asleep (σ s).place)))
  unfolding first_place
  placed_pop σ s h none = placed_on σ s _ h none (go (σ s).asleep refl)
    where
      go : (b : Bool) → (σ s).asleep ≡ b → (σ s).used ≡ true → first_place b (σ s).place < size_of t (σ s).routine
      go true e u = (h.sleeper s e).next
      go false e u = h.place s u

  -- The children of a routine that has an instruction behind its own are counted anew.
  pub placed_count : (σ : Rows) (s n : ℕ) → Placed t σ → (0 < n → GoesOn t (σ s)) → Placed t (with_row σ s (with_children (σ s) n))
  unfolding with_children
  placed_count σ s n h on =
      placed_with σ s _ h (record {
        routine = h.routine s;
        place = h.place s;
        sleeper = λ e. let g = h.sleeper s e in record { routine = g.routine; next = g.next };
        parent = λ l. let g = on l in record { routine = g.routine; next = g.next };
      })

  -- A parent whose last child ended goes on behind its fork.
  pub placed_join : (σ : Rows) (s : ℕ) → Placed t σ → 0 < (σ s).children → Placed t (with_row σ s (at_place (with_children (σ s) 0) (suc (σ s).place)))
  unfolding with_children at_place
  placed_join σ s h some =
      let g = h.parent s some in
      placed_with σ s _ h (record {
        routine = λ u. g.routine;
        place = λ u. g.next;
        sleeper = λ e. let z : ◌≡◌ {A = ℕ} 0 1 = cc in absurd (omega arith);
        parent = λ l. absurd (omega arith);
      })
