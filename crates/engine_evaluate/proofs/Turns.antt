-- The loop over an expression's pieces: what holds before each piece.
use mathlib.Core.Path.{◌≡◌, refl, sym, ap, ◌∙◌}
use mathlib.Core.Bool.{true}
use mathlib.Core.List.{List, ◌∷◌}
use mathlib.Core.Option.{Option, none, some}
use Prim.Native.Nat.{ℕ, zero, suc, ◌+◌, ◌*◌, ◌-◌, ◌≤◌, ◌<◌}
use native.Mathlib.Omega.{arith}
use lib.ListN.{length}
use borrow.Author.Tests.{eqb-true}
use Rattle.std.specs.Prelude.{Some, None}
use Rattle.std.specs.declared.option.Option as program
use Rattle.listing.specs.Lists.{all}
use Rattle.listing.specs.Expressions.{bind, effect_of, may_come, held_with, leaves_one_from}
use Rattle.listing.specs.Listing.{Piece}
use Rattle.listing.proofs.Effects.{held_most}
use Rattle.listing.specs.Questions.{piece_is_there}
use Rattle.table.specs.Decode.{piece_at, cells_at, pieces_at}
use Rattle.walk.specs.State.{Variable}
use Rattle.walk.specs.Memory.{top, evaluate_pieces, evaluate_by}
use Rattle.engine_blocks.specs.Store.{store_of}
use Rattle.engine_evaluate.proofs.Pieces.{both}
use Rattle.engine_evaluate.specs.Bound.{Bound, bindings_of, variable_named}
use Rattle.engine_values.specs.Values.{held, held_by, left_by}
use Rattle.engine_values.specs.declared.Held.{Held}
use Rattle.engine_evaluate.specs.Evaluable.{Evaluable, PieceStands, MayCome, Past}
use Rattle.engine_evaluate.specs.Evaluable.{Evaluates}

-- ── the pieces from one on ───────────────────────────────────────────────────────
first_piece : (t : List ℕ) (at left : ℕ) → 0 < left → pieces_at t at left ≡ piece_at t at ∷ pieces_at t (at + 2) (left - 1)
unfolding cells_at
first_piece t at zero h = absurd (omega arith)
first_piece t at (suc left) h = let z : suc left - 1 ≡ left = omega arith in rw z

-- ── what the rest makes of what a piece left ─────────────────────────────────────
-- the value that these pieces leave, if they do
abbrev value_on_lem : ℕ → (ℕ → Variable) → List Piece → Option (List ℕ) → Option ℕ
value_on_lem moment names e held = bind (bind held (evaluate_pieces moment names e)) (λ left. some (top left))

-- ── before each piece ────────────────────────────────────────────────────────────
-- `left` pieces are left, the next one at `at`; h and `values` hold what those before it made
pub record Before (t m : List ℕ) (me cells pieces : ℕ) (values : List ℕ) (h : Held) (at left : ℕ) : Type 0 where
  pub place : at + 2 * left ≡ cells + 2 * pieces
  pub places : length values ≡ 8
  pub most : h.count ≤ 8
  pub form : leaves_one_from h.count (pieces_at t at left) ≡ true
  pub names : all (piece_is_there (length (bindings_of m me))) (pieces_at t at left) ≡ true
  pub value : (moment n : ℕ) → Bound (store_of n m) (bindings_of m me)
      → value_on_lem moment (variable_named n m me) (pieces_at t at left) (some (held_by values h)) ≡ evaluate_by moment (variable_named n m me) (pieces_at t cells pieces)

module _ {t m : List ℕ} {me cells pieces : ℕ} where
  pub first_turn : (values : List ℕ) → length values ≡ 8 → Evaluable t m me cells pieces → Before t m me cells pieces values (record { count = 0; top = 0 }) cells pieces
  unfolding held evaluate_by
  first_turn values size evaluable = record { place = refl; places = size; most = omega arith; form = evaluable.form; names = evaluable.names; value = λ moment n bound. refl }

  module _ {values : List ℕ} {h : Held} {at left : ℕ} (so_far : Before t m me cells pieces values h at left) where
    module _ (more : 0 < left) where
      split : (may_come h.count (effect_of (piece_at t at)) ≡ true) × (leaves_one_from (held_with h.count (effect_of (piece_at t at))) (pieces_at t (at + 2) (left - 1)) ≡ true)
      unfolding leaves_one_from
      split = both _ _ (rw (first_piece t at left more) at so_far.form)

      there : (piece_is_there (length (bindings_of m me)) (piece_at t at) ≡ true) × (all (piece_is_there (length (bindings_of m me))) (pieces_at t (at + 2) (left - 1)) ≡ true)
      unfolding all
      there = both _ _ (rw (first_piece t at left more) at so_far.names)

      pub may_come_lem : Evaluable t m me cells pieces → MayCome t m me at values h.count
      may_come_lem evaluable =
          let piece : PieceStands t m me at = record { size = evaluable.size; slot = evaluable.slot; inside = omega (arith, evaluable.inside, so_far.place); name = there.0 } in
          record { piece = piece; places = so_far.places; most = so_far.most; room = split.0 }

      -- what the pieces behind this one make of what it left is the value of the whole
      value_on : {after : List ℕ} {r : program.Option Held} → Past t m me at values h after r → (moment n : ℕ) → Bound (store_of n m) (bindings_of m me) →
          value_on_lem moment (variable_named n m me) (pieces_at t (at + 2) (left - 1)) (left_by after r) ≡
          evaluate_by moment (variable_named n m me) (pieces_at t cells pieces)
      unfolding evaluate_pieces
      value_on past moment n bound =
          ap (value_on_lem moment (variable_named n m me) (pieces_at t (at + 2) (left - 1))) ((past.values moment).equal n bound)
          ∙ (rw (first_piece t at left more) at (so_far.value moment n bound))

      pub fails_now : {after : List ℕ} → Past t m me at values h after None → Evaluates m me (pieces_at t cells pieces) none
      unfolding left_by
      fails_now past = λ moment. record { equal = λ n bound. value_on past moment n bound }

      pub next_turn : {after : List ℕ} {r : Held} → Past t m me at values h after (Some r) → Before t m me cells pieces after r (at + 2) (left - 1)
      unfolding left_by
      next_turn {after} {r} past =
          record {
            place = omega (arith, so_far.place);
            places = past.size;
            most = rw past.counted (held_most h.count (effect_of (piece_at t at)) split.0 so_far.most);
            form = rw past.counted split.1;
            names = there.1;
            value = λ moment n bound. value_on past moment n bound;
          }

    pub last_turn : left ≡ 0 → Evaluates m me (pieces_at t cells pieces) (some h.top)
    unfolding leaves_one_from evaluate_pieces cells_at held top
    last_turn z = λ moment.
        let one : h.count ≡ 1 = eqb-true h.count 1 (rw z at so_far.form) in
        record { equal = λ n bound. sym (ap (λ (k : ℕ). some (top (held values k h.top))) one) ∙ (rw z at (so_far.value moment n bound)) }
