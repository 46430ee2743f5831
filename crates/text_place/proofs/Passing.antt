-- The place past a piece: what closes the piece is the byte before the place, and the piece ends there, unless the text ends.
use mathlib.Core.Path.{◌≡◌, refl, sym, ap, ◌∙◌}
use mathlib.Core.Bool.{Bool, true, false, cond, ◌&&◌}
use mathlib.Core.List.{List, [], ◌∷◌}
use Prim.Native.Nat.{ℕ, zero, suc, ◌+◌, ◌-◌, ◌≤◌, ◌<◌}
use native.Mathlib.Omega.{arith}
use lib.Dec.{ltb}
use lib.ListN.{length, get_or, drop, length-drop, get_or-eq_default}
use lib.Seq.{get_or-drop}
use borrow.Author.Tests.{ltb-true, ltb-false, lt-ltb, le-ltb}
use Rattle.text_place.specs.Texts.{before, first_piece_lem, ends_piece, piece_end, Within}
use Rattle.text_place.specs.Places.{passed, taken_at}
use Rattle.text_place.specs.Past.{offset_past, closing_byte, moved_past, counted_past}
use Rattle.text_place.specs.declared.place.Place.{Place}
use Rattle.text_place.specs.declared.place.Taken.{Taken}
use Rattle.text_place.proofs.Places.{end_in}

-- ── the bytes before the first that passes a test do not pass it, and that one does ──
before_fails : (p : ℕ → Bool) (l : List ℕ) (k : ℕ) → k < length (before p l) → p (get_or l k 0) ≡ false
unfolding before
before_fails p [] k h = absurd (let z : ⊥ = omega arith in z)
before_fails p (b ∷ l) k h = go (p b) refl (λ i j. before_fails p l i j) k h
  where
    go : (t : Bool) → p b ≡ t → ((i : ℕ) → i < length (before p l) → p (get_or l i 0) ≡ false) → (k : ℕ) → k < length (cond t [] (b ∷ before p l)) → p (get_or (b ∷ l) k 0) ≡ false
    go true e f k h = absurd (let z : ⊥ = omega arith in z)
    go false e f zero h = e
    go false e f (suc k) h = f k (omega arith)

before_passes : (p : ℕ → Bool) (l : List ℕ) → length (before p l) < length l → p (get_or l (length (before p l)) 0) ≡ true
unfolding before
before_passes p [] h = absurd (let z : ⊥ = omega arith in z)
before_passes p (b ∷ l) h = go (p b) refl (λ i. before_passes p l i) h
  where
    go : (t : Bool) → p b ≡ t → (length (before p l) < length l → p (get_or l (length (before p l)) 0) ≡ true) → length (cond t [] (b ∷ before p l)) < length (b ∷ l) → p (get_or (b ∷ l) (length (cond t [] (b ∷ before p l))) 0) ≡ true
    go true e f h = e
    go false e f h = f (omega arith)

-- ── the byte that closes the piece passed ────────────────────────────────────────
module _ (s : List ℕ) (at : ℕ) (h : at ≤ length s) where
  pub offset_in : offset_past s at ≤ length s
  offset_in = go (ltb (piece_end s at) (length s)) refl
    where
      go : (t : Bool) → ltb (piece_end s at) (length s) ≡ t → cond t (piece_end s at + 1) (piece_end s at) ≤ length s
      go true e = omega (arith, ltb-true (piece_end s at) (length s) e)
      go false e = end_in ends_piece s at h

  closes : piece_end s at < length s → ends_piece (get_or s (piece_end s at) 0) ≡ true
  closes i = ap ends_piece (sym (get_or-drop at s (length (first_piece_lem (drop at s))) 0)) ∙ before_passes ends_piece (drop at s) (omega (arith, length-drop at s))

  -- the byte is not 0
  closes_some : piece_end s at < length s → get_or s (piece_end s at) 0 ≡ 0 → ⊥
  closes_some i e = let z : ◌≡◌ {A = Bool} false true = sym (ap ends_piece e) ∙ closes i in let y : ◌≡◌ {A = ℕ} 0 1 = cc in omega arith

  open_end : (n : ℕ) → length (first_piece_lem (drop at s)) ≡ n → (ltb at (at + n) && ends_piece (get_or s (at + n - 1) 0)) ≡ false
  open_end zero e = rw (le-ltb at (at + 0) (omega arith))
  open_end (suc n) e =
      let i : at + suc n - 1 ≡ at + n = omega arith in
      let f : ends_piece (get_or s (at + n) 0) ≡ false = ap ends_piece (sym (get_or-drop at s n 0)) ∙ before_fails ends_piece (drop at s) n (omega arith) in
      rw (lt-ltb at (at + suc n) (omega arith), i, f)

  pub closing_is : closing_byte s at (offset_past s at) ≡ get_or s (piece_end s at) 0
  closing_is = go (ltb (piece_end s at) (length s)) refl
    where
      go : (t : Bool) → ltb (piece_end s at) (length s) ≡ t → closing_byte s at (cond t (piece_end s at + 1) (piece_end s at)) ≡ get_or s (piece_end s at) 0
      go true e =
          let i : piece_end s at + 1 - 1 ≡ piece_end s at = omega arith in
          rw (lt-ltb at (piece_end s at + 1) (omega arith), i, closes (ltb-true (piece_end s at) (length s) e))
      go false e = rw (open_end (length (first_piece_lem (drop at s))) refl) (sym (get_or-eq_default s 0 (ltb-false (piece_end s at) (length s) e)))

  -- the piece's end, by that byte
  pub ends_open : closing_byte s at (offset_past s at) ≡ 0 → offset_past s at ≡ piece_end s at
  ends_open z = go (ltb (piece_end s at) (length s)) refl
    where
      go : (t : Bool) → ltb (piece_end s at) (length s) ≡ t → cond t (piece_end s at + 1) (piece_end s at) ≡ piece_end s at
      go true e = absurd (closes_some (ltb-true (piece_end s at) (length s) e) (sym closing_is ∙ z))
      go false e = refl

  pub ends_closed : (closing_byte s at (offset_past s at) ≡ 0 → ⊥) → offset_past s at ≡ piece_end s at + 1
  ends_closed n = go (ltb (piece_end s at) (length s)) refl
    where
      go : (t : Bool) → ltb (piece_end s at) (length s) ≡ t → cond t (piece_end s at + 1) (piece_end s at) ≡ piece_end s at + 1
      go true e = refl
      go false e = absurd (n (closing_is ∙ get_or-eq_default s 0 (ltb-false (piece_end s at) (length s) e)))

-- both functions that the place is lent to, one after the other
module _ (s : List ℕ) (p m : Place) (w : Within s p.offset p.line) (e : m ≡ moved_past s p) where
  pub moved_in : (m.offset ≤ length s) × (m.line ≤ p.offset + 1)
  moved_in = rw e (offset_in s p.offset w.inside, w.counted)

  pub moved_counted : (r : Place) → r ≡ counted_past s p.offset m → r ≡ passed s p.line (piece_end s p.offset)
  moved_counted r f = f ∙ ap (counted_past s p.offset) e ∙ rw (closing_is s p.offset w.inside)

-- the piece taken, by the place past it and the byte before that place
same_taken : (at t u b c : ℕ) (m n : Place) → t ≡ u → b ≡ c → m ≡ n → ◌≡◌ {A = Taken} (record { from = at; to = t; stop = b; next = m }) (record { from = at; to = u; stop = c; next = n })
same_taken at t u b c m n e f g = rw (e, f, g)

module _ (s : List ℕ) (p n : Place) (b : ℕ) (w : Within s p.offset p.line) (e : n ≡ passed s p.line (piece_end s p.offset)) (f : b ≡ closing_byte s p.offset n.offset) where
  pub next_offset : n.offset ≡ offset_past s p.offset
  next_offset = ap (λ (m : Place). m.offset) e

  byte_is : closing_byte s p.offset (offset_past s p.offset) ≡ b
  byte_is = ap (closing_byte s p.offset) (sym next_offset) ∙ sym f

  stop_is : b ≡ get_or s (piece_end s p.offset) 0
  stop_is = sym byte_is ∙ closing_is s p.offset w.inside

  pub next_in : n.offset ≤ length s
  next_in = omega (arith, next_offset, offset_in s p.offset w.inside)

  pub taken_open : b ≡ 0 → record { from = p.offset; to = n.offset; stop = 0; next = n } ≡ taken_at s p
  taken_open z = same_taken p.offset _ _ _ _ n _ (next_offset ∙ ends_open s p.offset w.inside (byte_is ∙ z)) (sym z ∙ stop_is) e

  past_some : (b ≡ 0 → ⊥) → n.offset ≡ piece_end s p.offset + 1
  past_some z = next_offset ∙ ends_closed s p.offset w.inside (λ y. z (sym byte_is ∙ y))

  pub next_past : (b ≡ 0 → ⊥) → 1 ≤ n.offset
  next_past z = omega (arith, past_some z)

  pub taken_closed : (b ≡ 0 → ⊥) → record { from = p.offset; to = n.offset - 1; stop = b; next = n } ≡ taken_at s p
  taken_closed z = let o : n.offset - 1 ≡ piece_end s p.offset = omega (arith, past_some z) in same_taken p.offset _ _ _ _ n _ o stop_is e

-- a closing byte was passed
pub closing_passed : (s : List ℕ) (from past x : ℕ) → 0 < x → closing_byte s from past ≡ x → from < past
closing_passed s from past x h e = go (ltb from past) refl e
  where
    go : (t : Bool) → ltb from past ≡ t → cond (t && ends_piece (get_or s (past - 1) 0)) (get_or s (past - 1) 0) 0 ≡ x → from < past
    go true i e = ltb-true from past i
    go false i e = absurd (let z : ⊥ = omega arith in z)
