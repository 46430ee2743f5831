-- The check of an expression, piece by piece.
use mathlib.Core.Path.{◌≡◌, refl, sym, ap, ◌∙◌}
use mathlib.Core.Bool.{Bool, true, false, cond, ◌&&◌, ◌||◌}
use mathlib.Core.List.{List}
use Prim.Native.Nat.{ℕ, zero, suc, ◌+◌, ◌≤◌, ◌<◌}
use native.Mathlib.Omega.{arith}
use lib.Dec.{eqb, ltb, leb}
use lib.ListN.{get_or}
use borrow.Author.Tests.{eqb-true, ne_eqb, le-leb}
use Rattle.listing.specs.Lists.{all}
use Rattle.listing.specs.Listing.{Piece, literal, value_of, written_mark, plus, minus, times, less, divide, remainder}
use Rattle.listing.specs.Expressions.{effect_of, may_come, held_with, leaves_one_from}
use Rattle.listing.specs.Questions.{piece_is_there}
use Rattle.listing.proofs.Effects.{held_most}
use Rattle.listing_effect.specs.Held.{held_after, as_effect}
use Rattle.listing_effect.specs.declared.Effect.TheVariants as EV
use Rattle.listing_effect.proofs.Held.{after_effect}
use Rattle.table.specs.Areas.{words_of_each, piece_words}
use Rattle.table.specs.Decode.{word, no_piece, piece_of, is_sign, piece_at, cells_at, pieces_at}
use Rattle.table.proofs.Lengths.{piece_two}
use Rattle.table.proofs.Signs.{sign_is, neither, no_sign}
use Rattle.table.proofs.Tests.{and_no, and_yes}
use Rattle.table_check_cells.specs.Pass.{same_at, is_named, effect_by, piece_test, held_past, expression_test}
use Rattle.table_check_cells.proofs.Words.{same_split, same_number}

-- ── a piece by the number of its kind ────────────────────────────────────────────
named_is : (P : ℕ → Type 0) (kind : ℕ) → is_named kind ≡ true → P 1 → P 2 → P kind
unfolding is_named
named_is P k h a b = go (eqb k 1) refl (eqb k 2) refl h
  where
    go : (x : Bool) → eqb k 1 ≡ x → (y : Bool) → eqb k 2 ≡ y → (x || y) ≡ true → P k
    go true e y f h = rw (eqb-true k 1 e) a
    go false e true f h = rw (eqb-true k 2 f) b
    go false e false f h = absurd (let z : ◌≡◌ {A = ℕ} 0 1 = cc in omega arith)

pub sign_joins : (kind : ℕ) → is_sign kind ≡ true → EV.Joins ≡ effect_by kind
unfolding effect_by piece_of effect_of
sign_joins k h = sign_is (λ n. EV.Joins ≡ effect_by n) k h refl refl refl refl refl refl

pub other_adds : (kind : ℕ) → is_sign kind ≡ false → EV.Adds ≡ effect_by kind
unfolding effect_by effect_of
other_adds k h = rw (no_sign k 0 h) (go (eqb k 0) (eqb k 1) (eqb k 2))
  where
    go : (x y z : Bool) → EV.Adds ≡ as_effect (effect_of (cond x (literal 0) (cond y (value_of 0) (cond z (written_mark 0) no_piece))))
    go true y z = refl
    go false true z = refl
    go false false true = refl
    go false false false = refl

pub literal_test : (names value : ℕ) → true ≡ piece_test names 0 value
unfolding piece_test piece_of piece_is_there piece_words
literal_test names v = rw (same_number v)

pub sign_test : (names kind value : ℕ) → is_sign kind ≡ true → eqb value 0 ≡ piece_test names kind value
unfolding piece_test piece_of piece_is_there piece_words
sign_test names k v h = sign_is (λ n. eqb v 0 ≡ piece_test names n v) k h refl refl refl refl refl refl

pub named_test : (names kind value : ℕ) → is_named kind ≡ true → ltb value names ≡ piece_test names kind value
unfolding piece_test piece_of piece_is_there piece_words
named_test names k v h =
    let one : ltb v names ≡ (ltb v names && (true && eqb v v)) = rw (same_number v, and_yes (ltb v names)) in
    named_is (λ n. ltb v names ≡ piece_test names n v) k h one one

pub none_test : (names kind value : ℕ) → (kind ≡ 0 → ⊥) → is_named kind ≡ false → is_sign kind ≡ false → false ≡ piece_test names kind value
unfolding piece_test piece_is_there piece_words is_named
none_test names k v n h s =
    let named = neither (eqb k 1) (eqb k 2) h in
    rw (no_sign k v s, ne_eqb k 0 n, named.0, named.1) (rw (ne_eqb k 0 n))

-- the effect does not depend on the value
effect_kind : (kind value : ℕ) → effect_of (piece_of kind value) ≡ effect_of (piece_of kind 0)
unfolding piece_of effect_of
effect_kind k v = go (eqb k 0) (eqb k 1) (eqb k 2) _
  where
    go : (x y z : Bool) (p : Piece) → effect_of (cond x (literal v) (cond y (value_of v) (cond z (written_mark v) p))) ≡ effect_of (cond x (literal 0) (cond y (value_of 0) (cond z (written_mark 0) p)))
    go true y z p = refl
    go false true z p = refl
    go false false true p = refl
    go false false false p = refl

same_pair : (w : List ℕ) (a : ℕ) (p : Piece) → same_at w a (piece_words p) ≡ (eqb (word w a) (get_or (piece_words p) 0 0) && eqb (word w (a + 1)) (get_or (piece_words p) 1 0))
unfolding same_at piece_words
same_pair w a (literal v) = rw (and_yes (eqb (word w (a + 1)) v))
same_pair w a (value_of v) = rw (and_yes (eqb (word w (a + 1)) v))
same_pair w a (written_mark v) = rw (and_yes (eqb (word w (a + 1)) v))
same_pair w a plus = rw (and_yes (eqb (word w (a + 1)) 0))
same_pair w a minus = rw (and_yes (eqb (word w (a + 1)) 0))
same_pair w a times = rw (and_yes (eqb (word w (a + 1)) 0))
same_pair w a less = rw (and_yes (eqb (word w (a + 1)) 0))
same_pair w a divide = rw (and_yes (eqb (word w (a + 1)) 0))
same_pair w a remainder = rw (and_yes (eqb (word w (a + 1)) 0))

-- what is held after the cell at a, by its two words
pub held_by_words : (w : List ℕ) (names held a : ℕ) → held_past w names held a ≡ cond (piece_test names (word w (a + 0)) (word w (a + 1))) (held_after held (effect_by (word w (a + 0)))) 9
unfolding held_past piece_at piece_test effect_by
held_by_words w names held a =
    let k = word w (a + 0) in
    let v = word w (a + 1) in
    let z : a ≡ a + 0 = omega arith in
    let first : word w a ≡ k = ap (λ (j : ℕ). word w j) z in
    rw (same_pair w a (piece_of k v), first, after_effect held (effect_of (piece_of k 0)), effect_kind k v)

-- ── a row of pieces ──────────────────────────────────────────────────────────────
pub expression_none : (w : List ℕ) (names held a : ℕ) → expression_test w names held a 0 ≡ eqb held 1
unfolding expression_test cells_at leaves_one_from all words_of_each same_at
expression_none w names held a = and_yes (eqb held 1)

-- x: may the piece come; m the values held then; there, same: its tests; f, others: the rest's
one_more : (x there same : Bool) (m : ℕ) (f : ℕ → Bool) (theres sames : Bool) → (x ≡ true → m ≤ 8)
    → ((x && f m) && ((there && theres) && (same && sames)))
    ≡ cond (eqb (cond (there && same) (cond (x && true) m 9) 9) 9) false (f (cond (there && same) (cond (x && true) m 9) 9) && (theres && sames))
one_more false there same m f theres sames h = go (there && same)
  where
    go : (b : Bool) → false ≡ cond (eqb (cond b 9 9) 9) false (f (cond b 9 9) && (theres && sames))
    go true = refl
    go false = refl
one_more true false same m f theres sames h = simp and_no
one_more true true false m f theres sames h = simp and_no
one_more true true true m f theres sames h = let l : m ≤ 8 = h refl in rw (ne_eqb m 9 (λ (z : m ≡ 9). omega arith))

expression_more : (w : List ℕ) (names held a n : ℕ) → held ≤ 8 → expression_test w names held a (suc n)
    ≡ cond (eqb (held_past w names held a) 9) false (expression_test w names (held_past w names held a) (a + 2) n)
unfolding expression_test cells_at leaves_one_from all words_of_each held_past
expression_more w names held a n h =
    let p = piece_at w a in
    let e = pieces_at w (a + 2) n in
    rw (same_split w a (piece_words p) (words_of_each piece_words e), piece_two p, le-leb held 8 h)
    (one_more (may_come held (effect_of p)) (piece_is_there names p) (same_at w a (piece_words p)) (held_with held (effect_of p)) (λ m. leaves_one_from m e) _ _
    (λ t. held_most held (effect_of p) t h))

held_past_most : (w : List ℕ) (names held a : ℕ) → held ≤ 8 → held_past w names held a ≤ 9
unfolding held_past
held_past_most w names held a h =
    let p = piece_at w a in go (piece_is_there names p && same_at w a (piece_words p)) (may_come held (effect_of p)) refl (leb held 8)
  where
    go : (b x : Bool) → may_come held (effect_of (piece_at w a)) ≡ x → (y : Bool) → cond b (cond (x && y) (held_with held (effect_of (piece_at w a))) 9) 9 ≤ 9
    go false x e y = omega arith
    go true false e y = omega arith
    go true true e false = omega arith
    go true true e true = let l = held_most held (effect_of (piece_at w a)) e h in omega arith

-- ── the turns of the check, with so many pieces left ─────────────────────────────
module _ (w : List ℕ) (names held a : ℕ) (most : held ≤ 8) where
  pub expression_stop : (left : ℕ) → 0 < left → held_past w names held a ≡ 9 → expression_test w names held a left ≡ false
  expression_stop zero l h = absurd (omega arith)
  expression_stop (suc n) l h = expression_more w names held a n most ∙ rw h

  pub expression_turn : (left n b next : ℕ) → left ≡ suc n → b ≡ a + 2 → next ≡ held_past w names held a → (next ≡ 9 → ⊥)
      → expression_test w names next b n ≡ expression_test w names held a left
  expression_turn left n b next z y q h = rw (z, y) (sym (expression_more w names held a n most ∙ rw (← q, ne_eqb next 9 h)))

  pub next_most : (next : ℕ) → next ≡ held_past w names held a → (next ≡ 9 → ⊥) → next ≤ 8
  next_most next q h = let m = held_past_most w names held a most in omega arith

pub expression_end : (w : List ℕ) (names held a left : ℕ) → left ≡ 0 → expression_test w names held a left ≡ eqb held 1
expression_end w names held a left z = rw z (expression_none w names held a)
