-- Places in a text: where a piece and a field end, and the place past them.
use mathlib.Core.Path.{◌≡◌, refl, sym, ap, ◌∙◌}
use mathlib.Core.Bool.{Bool, true, false, cond}
use mathlib.Core.List.{List, [], ◌∷◌}
use Prim.Native.Nat.{ℕ, suc, ◌+◌, ◌≤◌, ◌<◌}
use native.Mathlib.Omega.{arith}
use lib.Dec.{eqb, ltb}
use lib.ListN.{length, get_or, drop, take, length-append, length-drop, get_or-eq_default}
use lib.Seq.{slice, get_or-drop, drop-drop, take-add, drop_at, length-take-le}
use borrow.Author.Tests.{ltb-true, ltb-false, eqb-true}
use Rattle.text_place.specs.Texts.{before, first_piece_lem, first_field, ends_piece, fields_left, piece_end, field_end, field_pieces, Within}
use Rattle.text_place.specs.Places.{passed, taken_at}
use Rattle.text_place.specs.declared.place.Place.{Place}
use Rattle.text_place.proofs.Texts.{pieces_space, pieces_one, field_space, field_piece, fields_left_lem}

-- ── places ───────────────────────────────────────────────────────────────────────
before_take : (p : ℕ → Bool) (l : List ℕ) → take (length (before p l)) l ≡ before p l
unfolding before
before_take p [] = refl
before_take p (b ∷ l) = go (p b) (before_take p l)
  where
    go : (t : Bool) → take (length (before p l)) l ≡ before p l → take (length (cond t [] (b ∷ before p l))) (b ∷ l) ≡ cond t [] (b ∷ before p l)
    go true i = refl
    go false i = rw i

before_length : (p : ℕ → Bool) (l : List ℕ) → length (before p l) ≤ length l
unfolding before
before_length p [] = omega arith
before_length p (b ∷ l) = go (p b) (before_length p l)
  where
    go : (t : Bool) → length (before p l) ≤ length l → length (cond t [] (b ∷ before p l)) ≤ length (b ∷ l)
    go true i = omega arith
    go false i = omega arith

module _ (p : ℕ → Bool) (s : List ℕ) (at : ℕ) (h : at ≤ length s) where
  pub before_slice : slice at (at + length (before p (drop at s))) s ≡ before p (drop at s)
  before_slice =
      rw (take-add at (length (before p (drop at s))) s)
      (drop_at (take at s) (take (length (before p (drop at s))) (drop at s)) at (length-take-le at s h) ∙ before_take p (drop at s))

  pub end_in : at + length (before p (drop at s)) ≤ length s
  end_in = omega (arith, before_length p (drop at s), length-drop at s)

pub past_in : (s : List ℕ) (e x : ℕ) → 0 < x → get_or s e 0 ≡ x → e < length s
past_in s e x h g = go (ltb e (length s)) refl
  where
    go : (t : Bool) → ltb e (length s) ≡ t → e < length s
    go true i = ltb-true e (length s) i
    go false i =
        let d : get_or s e 0 ≡ 0 = get_or-eq_default s 0 (ltb-false e (length s) i) in
        absurd (let z : ⊥ = omega arith in z)

pub drop_past : (s : List ℕ) (at n : ℕ) → drop (suc n) (drop at s) ≡ drop (at + n + 1) s
drop_past s at n = let e : at + suc n ≡ at + n + 1 = omega arith in drop-drop (suc n) at s ∙ rw e

-- a piece at a place within the text
pub taken_in : (s : List ℕ) (c : Place) → Within s c.offset c.line → ((taken_at s c).from ≤ (taken_at s c).to) × ((taken_at s c).to ≤ length s)
taken_in s c w = (omega arith, end_in ends_piece s c.offset w.inside)

-- the place past a byte is within the text
pub passed_in : (s : List ℕ) (at n e : ℕ) → Within s at n → at ≤ e → e ≤ length s → Within s (passed s n e).offset (passed s n e).line
passed_in s at n e w l h = go (ltb e (length s)) (eqb (get_or s e 0) 10) refl refl
  where
    go : (t u : Bool) → ltb e (length s) ≡ t → eqb (get_or s e 0) 10 ≡ u → Within s (cond t (e + 1) e) (cond u (n + 1) n)
    go true true i j = record { inside = omega (arith, ltb-true e (length s) i); counted = omega (arith, w.counted) }
    go true false i j = record { inside = omega (arith, ltb-true e (length s) i); counted = omega (arith, w.counted) }
    go false true i j = absurd (let z : e < length s = past_in s e 10 (omega arith) (eqb-true (get_or s e 0) 10 j) in let y : ⊥ = omega (arith, ltb-false e (length s) i) in y)
    go false false i j = record { inside = h; counted = omega (arith, w.counted) }

-- ── the pieces of the field at a place ───────────────────────────────────────────
module _ (s : List ℕ) (at : ℕ) where
  pub pieces_turn : get_or s (piece_end s at) 0 ≡ 32 → field_pieces s at ≡ first_piece_lem (drop at s) ∷ field_pieces s (piece_end s at + 1)
  pieces_turn e = pieces_space (drop at s) (get_or-drop at s (length (first_piece_lem (drop at s))) 0 ∙ e) ∙ rw (drop_past s at (length (first_piece_lem (drop at s))))

  pub field_turn : get_or s (piece_end s at) 0 ≡ 32 → field_end s (piece_end s at + 1) ≡ field_end s at
  field_turn e =
      let f = field_space (drop at s) (get_or-drop at s (length (first_piece_lem (drop at s))) 0 ∙ e) in
      let g : length (first_field (drop at s)) ≡ length (first_piece_lem (drop at s)) + length (32 ∷ first_field (drop (piece_end s at + 1) s)) =
      ap length f ∙ length-append (first_piece_lem (drop at s)) _ ∙ rw (drop_past s at (length (first_piece_lem (drop at s)))) in
      omega arith

  pub pieces_last : (get_or s (piece_end s at) 0 ≡ 32 → ⊥) → field_pieces s at ≡ first_piece_lem (drop at s) ∷ []
  pieces_last n = pieces_one (drop at s) (λ e. n (sym (get_or-drop at s (length (first_piece_lem (drop at s))) 0) ∙ e))

  pub field_last : (get_or s (piece_end s at) 0 ≡ 32 → ⊥) → piece_end s at ≡ field_end s at
  field_last n = ap (λ (w : List ℕ). at + length w) (sym (field_piece (drop at s) (λ e. n (sym (get_or-drop at s (length (first_piece_lem (drop at s))) 0) ∙ e))))

  -- the field at a place, and the fields left after it
  pub left_open : fields_left 9 (drop at s) ≡ field_pieces s at ∷ fields_left (get_or s (field_end s at) 0) (drop (field_end s at + 1) s)
  unfolding fields_left
  left_open = fields_left_lem (drop at s) ∙ rw (get_or-drop at s (length (first_field (drop at s))) 0, drop_past s at (length (first_field (drop at s))))
