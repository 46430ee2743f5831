-- Expressions of one piece, and of three: by their form the first adds a value; the first two add one each and the third is a sign.
use mathlib.Core.Path.{◌≡◌, refl, sym, ap, ◌∙◌}
use mathlib.Core.Bool.{Bool, true, false, cond}
use mathlib.Core.List.{List, [], ◌∷◌}
use mathlib.Core.Option.{Option, none, some}
use Prim.Native.Nat.{ℕ, ◌+◌, ◌*◌, ◌≤◌, ◌<◌}
use native.Mathlib.Omega.{arith}
use lib.Dec.{eqb}
use lib.ListN.{length}
use borrow.Author.Tests.{ne_eqb, leb-true, eqb-true}
use Rattle.listing.specs.Lists.{all}
use Rattle.listing.specs.Listing.{literal, value_of, written_mark}
use Rattle.listing.specs.Expressions.{bind, Effect, adds, joins, effect_of, may_come, held_with, leaves_one_from}
use Rattle.listing.specs.Questions.{piece_is_there}
use Rattle.table.specs.Decode.{word, no_piece, piece_of, is_sign, piece_at, cells_at, pieces_at}
use Rattle.walk.specs.Memory.{top, evaluate_pieces, evaluate_by}
use Rattle.engine_evaluate.specs.Bound.{bindings_of, variable_named}
use Rattle.engine_values.specs.Values.{sign_of, joined}
use Rattle.engine_evaluate.specs.Evaluable.{Evaluable, PieceStands, Adds, Evaluates}
use Rattle.engine_evaluate.proofs.Pieces.{both, by_kind, other_than_sign, joins_by}

-- ── signs are the pieces that join ───────────────────────────────────────────────
not_both : {e : Effect} → e ≡ adds → e ≡ joins → ⊥
not_both a j = let z : ◌≡◌ {A = ℕ} 0 1 = cc in omega arith

none_adds : (b0 b1 b2 : Bool) (v : ℕ) → effect_of (cond b0 (literal v) (cond b1 (value_of v) (cond b2 (written_mark v) no_piece))) ≡ adds
unfolding effect_of
none_adds true b1 b2 v = refl
none_adds false true b2 v = refl
none_adds false false true v = refl
none_adds false false false v = refl

no_sign_adds : (kind v : ℕ) → is_sign kind ≡ false → effect_of (piece_of kind v) ≡ adds
unfolding piece_of
no_sign_adds kind v is_none =
    let other : (sign : ℕ) → is_sign sign ≡ true → eqb kind sign ≡ false = λ sign is_one. ne_eqb kind sign (other_than_sign kind sign is_none is_one) in
    rw (other 3 refl, other 4 refl, other 5 refl, other 6 refl, other 7 refl, other 8 refl) (none_adds (eqb kind 0) (eqb kind 1) (eqb kind 2) v)

module _ (t : List ℕ) (a : ℕ) where
  adding_is_no_sign : effect_of (piece_at t a) ≡ adds → is_sign (word t a) ≡ false
  adding_is_no_sign e = go (is_sign (word t a)) refl
    where
      go : (b : Bool) → is_sign (word t a) ≡ b → is_sign (word t a) ≡ false
      go true is_one = absurd (not_both e (joins_by t a is_one).effect)
      go false is_none = is_none

  joining_is_sign : effect_of (piece_at t a) ≡ joins → is_sign (word t a) ≡ true
  joining_is_sign e = go (is_sign (word t a)) refl
    where
      go : (b : Bool) → is_sign (word t a) ≡ b → is_sign (word t a) ≡ true
      go true is_one = is_one
      go false is_none = absurd (not_both (ap effect_of (by_kind t a (word t a) refl) ∙ no_sign_adds (word t a) (word t (a + 1)) is_none) e)

-- ── what the form of so few pieces tells ─────────────────────────────────────────
-- with fewer than two values held only a piece that adds may come
few_add : (count : ℕ) (e : Effect) → count < 2 → may_come count e ≡ true → e ≡ adds
unfolding may_come
few_add count adds few may = refl
few_add count joins few may = absurd (omega (arith, leb-true 2 count may))

-- of two, one is left by a sign alone
one_left : (e : Effect) → eqb (held_with 2 e) 1 ≡ true → e ≡ joins
unfolding held_with
one_left adds one = absurd (omega (arith, eqb-true 3 1 one))
one_left joins one = refl

-- a piece that adds a value stands in the cell at a
pub record Standing (t m : List ℕ) (me a : ℕ) : Type 0 where
  pub piece : PieceStands t m me a
  pub no_sign : is_sign (word t a) ≡ false

-- two pieces that add a value, and a sign
pub record Three (t m : List ℕ) (me cells : ℕ) : Type 0 where
  pub first : Standing t m me cells
  pub second : Standing t m me (cells + 2)
  pub third : is_sign (word t (cells + 4)) ≡ true

standing : {t m : List ℕ} {me cells pieces : ℕ} → Evaluable t m me cells pieces → (a : ℕ) → a + 2 ≤ cells + 2 * pieces
    → piece_is_there (length (bindings_of m me)) (piece_at t a) ≡ true → effect_of (piece_at t a) ≡ adds → Standing t m me a
standing {t} evaluable a within there one_more =
    record {
      piece = record { size = evaluable.size; slot = evaluable.slot; inside = omega (arith, evaluable.inside); name = there };
      no_sign = adding_is_no_sign t a one_more;
    }

-- two values joined, with none below them: the value of it
alone_joined : (f : ℕ → ℕ → Option ℕ) (x y : ℕ) → f x y ≡ bind (bind (joined f (y ∷ (x ∷ []))) (λ held. some held)) (λ left. some (top left))
unfolding joined top
alone_joined f x y = go (f x y)
  where
    go : (v : Option ℕ) → v ≡ bind (bind (bind v (λ u. some (u ∷ []))) (λ held. some held)) (λ left. some (top left))
    go none = refl
    go (some v) = refl

module _ {t m : List ℕ} {me cells : ℕ} where
  pub one_piece : Evaluable t m me cells 1 → Standing t m me cells
  unfolding cells_at leaves_one_from all
  one_piece evaluable =
      let within : cells + 2 ≤ cells + 2 * 1 = omega arith in
      let few : 0 < 2 = omega arith in
      standing evaluable cells within (both _ _ evaluable.names).0 (few_add 0 (effect_of (piece_at t cells)) few (both _ _ evaluable.form).0)

  pub one_value : {v : ℕ} → Adds t m me cells v → Evaluates m me (pieces_at t cells 1) (some v)
  unfolding cells_at evaluate_by evaluate_pieces top
  one_value adding = λ moment. record { equal = λ n bound. ap (λ (z : Option (List ℕ)). bind (bind z (evaluate_pieces moment (variable_named n m me) [])) (λ left. some (top left))) ((adding.values moment []).equal n bound) }

  pub three_pieces : Evaluable t m me cells 3 → Three t m me cells
  unfolding cells_at leaves_one_from all held_with
  three_pieces evaluable =
      let past : cells + 2 + 2 ≡ cells + 4 = omega arith in
      let near : cells + 2 ≤ cells + 2 * 3 = omega arith in
      let far : cells + 2 + 2 ≤ cells + 2 * 3 = omega arith in
      let empty : 0 < 2 = omega arith in
      let one : 1 < 2 = omega arith in
      let third = effect_of (piece_at t (cells + 2 + 2)) in
      let form = both _ _ evaluable.form in
      let first-adds = few_add 0 (effect_of (piece_at t cells)) empty form.0 in
      let after = both _ _ (rw first-adds at form.1) in
      let second-adds = few_add 1 (effect_of (piece_at t (cells + 2))) one after.0 in
      let last = both (may_come 2 third) (eqb (held_with 2 third) 1) (rw second-adds at after.1) in
      let there = both _ _ evaluable.names in
      record {
        first = standing evaluable cells near there.0 first-adds;
        second = standing evaluable (cells + 2) far (both _ _ there.1).0 second-adds;
        third = rw past at (joining_is_sign t (cells + 2 + 2) (one_left third last.1));
      }

  pub three_value : {x y : ℕ} → Adds t m me cells x → Adds t m me (cells + 2) y → is_sign (word t (cells + 4)) ≡ true
      → Evaluates m me (pieces_at t cells 3) (sign_of (word t (cells + 4)) x y)
  unfolding cells_at evaluate_by evaluate_pieces
  three_value {x} {y} first second is_one = λ moment. record {
    equal = λ n bound.
        let past : cells + 2 + 2 ≡ cells + 4 = omega arith in
        let names = variable_named n m me in
        let one = (first.values moment []).equal n bound in
        let two = (second.values moment (x ∷ [])).equal n bound in
        let three = (joins_by t (cells + 4) is_one).values moment names y x [] in
        rw (past, sym one, sym two, sym three) (alone_joined (sign_of (word t (cells + 4))) x y);
  }
