-- From places to fields: the bridge between the reading place and the parts of a line.
use mathlib.Core.Path.{◌≡◌, refl, sym, ap, ◌∙◌}
use mathlib.Core.Bool.{Bool, true, false, cond, ◌||◌}
use mathlib.Core.List.{List, [], ◌∷◌, ◌++◌, map}
use Prim.Native.Nat.{ℕ, suc, ◌≤◌, ◌<◌}
use native.Mathlib.Omega.{arith}
use lib.Dec.{eqb}
use lib.ListN.{length, get_or, drop, drop_of_length-le}
use lib.Seq.{drop-cons}
use borrow.Author.Tests.{eqb-false, eqb-true}
use Rattle.listing.specs.Bytes.{split}
use Rattle.listing.specs.Form.{fields_of}
use Rattle.listing.proofs.Splits.{Free, free, freer, split_at, split_free}
use Rattle.text_place.specs.Texts.{before, first_piece_lem, first_field, first_line, ends_piece, ends_field, ends_line, fields_left}

module _ (p : ℕ → Bool) (s : List ℕ) (i : ℕ) where
  pub before_end : length s ≤ i → before p (drop i s) ≡ []
  unfolding before
  before_end h = rw (drop_of_length-le s h)

  pub before_stop : i < length s → p (get_or s i 0) ≡ true → before p (drop i s) ≡ []
  unfolding before
  before_stop h e = rw (drop-cons s i 0, e)

  pub before_more : i < length s → p (get_or s i 0) ≡ false → before p (drop i s) ≡ get_or s i 0 ∷ before p (drop (suc i) s)
  unfolding before
  before_more h e = rw (drop-cons s i 0, e)

-- a text up to the first byte of p, and up to the first of q, where p is q and x besides
module _ (p q : ℕ → Bool) (x : ℕ) (low : 0 < x) (px : p x ≡ true) (qx : q x ≡ false)
    (sub : (b : ℕ) → q b ≡ true → p b ≡ true) (only : (b : ℕ) → p b ≡ true → q b ≡ false → b ≡ x) where
  pub cut_at : (l : List ℕ) → get_or l (length (before p l)) 0 ≡ x
      → before q l ≡ before p l ++ (x ∷ before q (drop (suc (length (before p l))) l))
  unfolding before
  cut_at [] e = absurd (let z : ⊥ = omega arith in z)
  cut_at (b ∷ l) e = go (p b) (q b) refl refl (cut_at l) e
    where
      go : (t u : Bool) → p b ≡ t → q b ≡ u
          → (get_or l (length (before p l)) 0 ≡ x → before q l ≡ before p l ++ (x ∷ before q (drop (suc (length (before p l))) l)))
          → get_or (b ∷ l) (length (cond t [] (b ∷ before p l))) 0 ≡ x
          → cond u [] (b ∷ before q l) ≡ cond t [] (b ∷ before p l) ++ (x ∷ before q (drop (suc (length (cond t [] (b ∷ before p l)))) (b ∷ l)))
      go true true ep eq i e = absurd (let z : ◌≡◌ {A = Bool} true false = sym eq ∙ ap q e ∙ qx in let y : ◌≡◌ {A = ℕ} 0 1 = cc in omega arith)
      go true false ep eq i e = rw e
      go false true ep eq i e = absurd (let z : ◌≡◌ {A = Bool} true false = sym (sub b eq) ∙ ep in let y : ◌≡◌ {A = ℕ} 0 1 = cc in omega arith)
      go false false ep eq i e = rw (i e)

  pub no_cut : (l : List ℕ) → (get_or l (length (before p l)) 0 ≡ x → ⊥) → before q l ≡ before p l
  unfolding before
  no_cut [] n = refl
  no_cut (b ∷ l) n = go (p b) (q b) refl refl (no_cut l) n
    where
      go : (t u : Bool) → p b ≡ t → q b ≡ u → ((get_or l (length (before p l)) 0 ≡ x → ⊥) → before q l ≡ before p l)
          → (get_or (b ∷ l) (length (cond t [] (b ∷ before p l))) 0 ≡ x → ⊥)
          → cond u [] (b ∷ before q l) ≡ cond t [] (b ∷ before p l)
      go true true ep eq i n = refl
      go true false ep eq i n = absurd (n (only b ep eq))
      go false true ep eq i n = absurd (let z : ◌≡◌ {A = Bool} true false = sym (sub b eq) ∙ ep in let y : ◌≡◌ {A = ℕ} 0 1 = cc in omega arith)
      go false false ep eq i n = rw (i n)

-- a byte that p holds of is not in the text before
pub before_free : (p : ℕ → Bool) (x : ℕ) → p x ≡ true → (l : List ℕ) → Free x (before p l)
unfolding before
before_free p x e [] = free
before_free p x e (b ∷ l) = go (p b) refl (before_free p x e l)
  where
    go : (t : Bool) → p b ≡ t → Free x (before p l) → Free x (cond t [] (b ∷ before p l))
    go true h f = free
    go false h f = freer (λ (i : b ≡ x). let z : ◌≡◌ {A = Bool} true false = sym e ∙ ap p (sym i) ∙ h in let y : ◌≡◌ {A = ℕ} 0 1 = cc in let w : ⊥ = omega arith in w) f

or_right : (a b : Bool) → b ≡ true → (a || b) ≡ true
or_right true b e = refl
or_right false b e = e

or_left : (a b : Bool) → a ≡ true → (a || b) ≡ true
or_left true b e = refl
or_left false b e = absurd (let z : ◌≡◌ {A = ℕ} 0 1 = cc in omega arith)

or_only : (a b : Bool) → (a || b) ≡ true → a ≡ false → b ≡ true
or_only true b e f = absurd (let z : ◌≡◌ {A = ℕ} 0 1 = cc in omega arith)
or_only false b e f = e

or_first : (a b : Bool) → (a || b) ≡ true → b ≡ false → a ≡ true
or_first true b e f = refl
or_first false b e f = absurd (let z : ◌≡◌ {A = ℕ} 0 1 = cc in omega arith)

-- a field: its first piece, and the rest after a space
pub field_space : (l : List ℕ) → get_or l (length (first_piece_lem l)) 0 ≡ 32 → first_field l ≡ first_piece_lem l ++ (32 ∷ first_field (drop (suc (length (first_piece_lem l))) l))
field_space l e = cut_at ends_piece ends_field 32 (omega arith) refl refl (λ b h. or_left (ends_field b) (eqb b 32) h) (λ b h n. eqb-true b 32 (or_only (ends_field b) (eqb b 32) h n)) l e

pub field_piece : (l : List ℕ) → (get_or l (length (first_piece_lem l)) 0 ≡ 32 → ⊥) → first_field l ≡ first_piece_lem l
field_piece l n = no_cut ends_piece ends_field 32 (omega arith) refl refl (λ b h. or_left (ends_field b) (eqb b 32) h) (λ b h n. eqb-true b 32 (or_only (ends_field b) (eqb b 32) h n)) l n

pub line_tab : (l : List ℕ) → get_or l (length (first_field l)) 0 ≡ 9 → first_line l ≡ first_field l ++ (9 ∷ first_line (drop (suc (length (first_field l))) l))
line_tab l e = cut_at ends_field ends_line 9 (omega arith) refl refl (λ b h. or_right (eqb b 9) (ends_line b) h) (λ b h n. eqb-true b 9 (or_first (eqb b 9) (ends_line b) h n)) l e

pub line_field : (l : List ℕ) → (get_or l (length (first_field l)) 0 ≡ 9 → ⊥) → first_line l ≡ first_field l
line_field l n = no_cut ends_field ends_line 9 (omega arith) refl refl (λ b h. or_right (eqb b 9) (ends_line b) h) (λ b h n. eqb-true b 9 (or_first (eqb b 9) (ends_line b) h n)) l n

-- the pieces of a field
pub pieces_space : (l : List ℕ) → get_or l (length (first_piece_lem l)) 0 ≡ 32 → split 32 (first_field l) ≡ first_piece_lem l ∷ split 32 (first_field (drop (suc (length (first_piece_lem l))) l))
pieces_space l e = rw (field_space l e) (split_at _ (before_free ends_piece 32 refl l))

pub pieces_one : (l : List ℕ) → (get_or l (length (first_piece_lem l)) 0 ≡ 32 → ⊥) → split 32 (first_field l) ≡ first_piece_lem l ∷ []
pieces_one l n = rw (field_piece l n) (split_free (before_free ends_piece 32 refl l))

-- the fields of a line: the first, and those left after its closing byte
pub fields_left_lem : (l : List ℕ) → fields_of (first_line l) ≡ split 32 (first_field l) ∷ fields_left (get_or l (length (first_field l)) 0) (drop (suc (length (first_field l))) l)
unfolding fields_of fields_left
fields_left_lem l = go (eqb (get_or l (length (first_field l)) 0) 9) refl
  where
    go : (t : Bool) → eqb (get_or l (length (first_field l)) 0) 9 ≡ t
        → map (split 32) (split 9 (first_line l)) ≡ split 32 (first_field l) ∷ cond t (map (split 32) (split 9 (first_line (drop (suc (length (first_field l))) l)))) []
    go true e = ap (map (split 32)) (ap (split 9) (line_tab l (eqb-true _ 9 e)) ∙ split_at _ (before_free ends_field 9 refl l))
    go false e = ap (map (split 32)) (ap (split 9) (line_field l (eqb-false _ 9 e)) ∙ split_free (before_free ends_field 9 refl l))
