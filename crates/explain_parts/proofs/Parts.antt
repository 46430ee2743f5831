-- The parts of a text, one after another. Letters: q the separator, l a text.
use mathlib.Core.Path.{◌≡◌, refl, sym, ap, subst, ◌∙◌}
use mathlib.Core.Bool.{Bool, true, false, cond}
use mathlib.Core.List.{List, [], ◌∷◌}
use Prim.Native.Nat.{ℕ, zero, suc, ◌+◌, ◌-◌, ◌≤◌, ◌<◌}
use native.Mathlib.Omega.{arith}
use native.Mathlib.Numerals.{add-one}
use lib.Dec.{eqb, ltb}
use lib.ListN.{length, get_or, take, drop, length-drop}
use lib.Seq.{drop-drop}
use Rattle.std.specs.Prelude.{Option, Some, None, slice_get, option_map}
use Rattle.std.specs.Slice.Iter.{split_rest, split_done, split_callee, split_steps}
use Rattle.std.specs.List.{position_or_len, slice_split, onto_first}
use Rattle.std.specs.Fn.{CalledAt}
use Rattle.std.proofs.lemmas.Iterator.{YieldsList}
use Rattle.std.specs.Iterator.{Yields}
use Rattle.std.proofs.lemmas.Iterator.Consumers.{YieldsList-turn, YieldsList-end}
use Rattle.std.proofs.lemmas.Iterator.Splits.{YieldsList-from_slice_split}
use Rattle.std.proofs.lemmas.List.{at_drop_more}
use Rattle.std.proofs.lemmas.List.Recursion.{is_position_or_len}
use denote.Ref.{Bor}
use denote.Param.Members.{Mut}
use borrow.Author.Tests.{ltb-true, ltb-false}
use Rattle.listing.specs.Bytes.{Bytes, extend, split}
use Rattle.listing.proofs.Splits.{split_has_part}
use Rattle.text_place.specs.Texts.{before}
use Rattle.explain_parts.specs.Parts.{part_of, first_part_lem, part_end}

module _ (q : ℕ) where
  -- a text with a separator: its first part, and the parts after it
  pub split_on : (l : Bytes) → length (first_part_lem q l) < length l → split q l ≡ first_part_lem q l ∷ split q (drop (suc (length (first_part_lem q l))) l)
  unfolding before split extend
  split_on [] h = absurd (let z : ⊥ = omega (arith, h) in z)
  split_on (b ∷ l) h = go (eqb b q) (split_on l) h
    where
      go : (t : Bool) → (length (first_part_lem q l) < length l → split q l ≡ first_part_lem q l ∷ split q (drop (suc (length (first_part_lem q l))) l))
          → length (cond t [] (b ∷ first_part_lem q l)) < suc (length l)
          → extend t b (split q l) ≡ cond t [] (b ∷ first_part_lem q l) ∷ split q (drop (suc (length (cond t [] (b ∷ first_part_lem q l)))) (b ∷ l))
      go true i h = refl
      go false i h = rw (i (omega (arith, h)))

  -- a text without one is its only part
  pub split_last : (l : Bytes) → length l ≤ length (first_part_lem q l) → split q l ≡ first_part_lem q l ∷ []
  unfolding before split extend
  split_last [] h = refl
  split_last (b ∷ l) h = go (eqb b q) (split_last l) h
    where
      go : (t : Bool) → (length l ≤ length (first_part_lem q l) → split q l ≡ first_part_lem q l ∷ []) → suc (length l) ≤ length (cond t [] (b ∷ first_part_lem q l))
          → extend t b (split q l) ≡ cond t [] (b ∷ first_part_lem q l) ∷ []
      go true i h = absurd (let z : ⊥ = omega (arith, h) in z)
      go false i h = rw (i (omega (arith, h)))

  -- as many bytes as the first part has are the first part
  pub first_taken : (l : Bytes) → take (length (first_part_lem q l)) l ≡ first_part_lem q l
  unfolding before
  first_taken [] = refl
  first_taken (b ∷ l) = go (eqb b q) (first_taken l)
    where
      go : (t : Bool) → take (length (first_part_lem q l)) l ≡ first_part_lem q l → take (length (cond t [] (b ∷ first_part_lem q l))) (b ∷ l) ≡ cond t [] (b ∷ first_part_lem q l)
      go true i = refl
      go false i = rw i

  -- which is no longer than the text
  pub first_most : (l : Bytes) → length (first_part_lem q l) ≤ length l
  unfolding before
  first_most [] = omega arith
  first_most (b ∷ l) = go (eqb b q) (first_most l)
    where
      go : (t : Bool) → length (first_part_lem q l) ≤ length l → length (cond t [] (b ∷ first_part_lem q l)) ≤ length (b ∷ l)
      go true i = omega arith
      go false i = omega (arith, i)

  -- ── from an offset on ──────────────────────────────────────────────────────────
  module _ (s : Bytes) (at end : ℕ) (inside : at ≤ length s) (e : end ≡ part_end q s at) where
    rest_length : length (drop at s) ≡ length s - at
    rest_length = length-drop at s

    past : drop (suc (length (first_part_lem q (drop at s)))) (drop at s) ≡ drop (end + 1) s
    past = drop-drop (suc (length (first_part_lem q (drop at s)))) at s ∙ ap (λ (n : ℕ). drop n s) (let z : at + suc (length (first_part_lem q (drop at s))) ≡ end + 1 = omega (arith, e) in z)

    pub parts_on : end < length s → split q (drop at s) ≡ first_part_lem q (drop at s) ∷ split q (drop (end + 1) s)
    parts_on h = split_on (drop at s) (rw rest_length (omega (arith, e, h))) ∙ ap (λ (l : Bytes). first_part_lem q (drop at s) ∷ split q l) past

    pub parts_last : end ≡ length s → split q (drop at s) ≡ first_part_lem q (drop at s) ∷ []
    parts_last h = split_last (drop at s) (rw rest_length (omega (arith, e, h)))

    pub part_taken : take (end - at) (drop at s) ≡ first_part_lem q (drop at s)
    part_taken =
        let d : end - at ≡ length (first_part_lem q (drop at s)) = omega (arith, e) in
        ap (λ (n : ℕ). take n (drop at s)) d ∙ first_taken (drop at s)

  -- ── the same by the library's words ────────────────────────────────────────────
  -- where the first part ends
  first_length : (l : Bytes) → length (first_part_lem q l) ≡ position_or_len (λ byte. eqb byte q) l
  unfolding before
  first_length = is_position_or_len (λ (l : Bytes). length (first_part_lem q l)) (λ (byte : ℕ). eqb byte q) refl (λ b l. go (eqb b q) b l)
    where
      go : (t : Bool) (b : ℕ) (l : Bytes) → length (cond t [] (b ∷ first_part_lem q l)) ≡ cond t 0 (1 + length (first_part_lem q l))
      go true b l = refl
      go false b l = omega arith

  module _ (s : Bytes) (at : ℕ) (inside : at ≤ length s) (r : Option ℕ)
      (e : r ≡ cond (ltb (position_or_len (λ (byte : ℕ). eqb byte q) (drop at s)) (length (drop at s))) (Some (position_or_len (λ (byte : ℕ). eqb byte q) (drop at s))) None) where
    abbrev first : ℕ
    first = position_or_len (λ (byte : ℕ). eqb byte q) (drop at s)

    rest_left : length (drop at s) ≡ length s - at
    rest_left = length-drop at s

    pub ends_at : (k : ℕ) → r ≡ Some k → (at + k ≡ part_end q s at) × (at ≤ at + k) × (at + k ≤ length s)
    ends_at k h = go (ltb first (length (drop at s))) refl (sym h ∙ e)
      where
        go : (t : Bool) → ltb first (length (drop at s)) ≡ t → Some k ≡ cond t (Some first) None → (at + k ≡ part_end q s at) × (at ≤ at + k) × (at + k ≤ length s)
        go true l i =
            let same : k ≡ first = cc in
            (omega (arith, same, first_length (drop at s)), omega arith, omega (arith, same, rest_left, inside, ltb-true first (length (drop at s)) l))
        go false l i = absurd (cc)

    pub ends_with : r ≡ None → (length s ≡ part_end q s at) × (at ≤ length s) × (length s ≤ length s)
    ends_with h = go (ltb first (length (drop at s))) refl (sym h ∙ e)
      where
        go : (t : Bool) → ltb first (length (drop at s)) ≡ t → None ≡ cond t (Some first) None → (length s ≡ part_end q s at) × (at ≤ length s) × (length s ≤ length s)
        go true l i = absurd (cc)
        go false l i = (omega (arith, first_length (drop at s), rest_left, inside, ltb-false first (length (drop at s)) l, first_most (drop at s)), inside, omega arith)

  -- the parts
  pub parts_are : (s : Bytes) → slice_split (λ byte. eqb byte q) s ≡ split q s
  unfolding split extend
  parts_are [] = refl
  parts_are (b ∷ s) = go (eqb b q) (parts_are s)
    where
      onto : (l : List Bytes) → onto_first b l ≡ extend false b l
      onto [] = refl
      onto (part ∷ parts) = refl

      go : (t : Bool) → slice_split (λ byte. eqb byte q) s ≡ split q s → cond t ([] ∷ slice_split (λ byte. eqb byte q) s) (onto_first b (slice_split (λ byte. eqb byte q) s)) ≡ extend t b (split q s)
      go true i = rw i refl
      go false i = rw i (onto (split q s))

  -- an iterator over them
  pub yields_parts : {F : Type 0} {it : _} (g : Mut F (Bor ℕ × Unit {0}) Bool) {f : F} (s : Bytes) → split_rest it ≡ s → split_done it ≡ false → split_callee it ≡ f →
      ((byte : ℕ) (b : Bool) (r : F) → CalledAt g f byte b r → (r ≡ f) × (b ≡ eqb byte q)) → YieldsList (split_steps g) (λ x. x.now) it (split q s)
  yields_parts g s rest done closure tests =
      subst (YieldsList (split_steps g) (λ x. x.now) _) (parts_are s) (YieldsList-from_slice_split g (λ byte. eqb byte q) s rest done closure tests)

  -- in a loop over them, so many of which are done: the part that comes next, and that none is left
  module _ {F : Type 0} {it it' : _} {g : Mut F (Bor ℕ × Unit {0}) Bool} {f : F} (t u : _) (done : List (Bor Bytes)) (r : Option (Bor Bytes)) (s : Bytes)
      (so_far : Yields (split_steps g) it' done t) (goes : split_steps g t r u) (same : it' ≡ it) (rest : split_rest it ≡ s) (more : split_done it ≡ false) (closure : split_callee it ≡ f)
      (tests : (byte : ℕ) (b : Bool) (r : F) → CalledAt g f byte b r → (r ≡ f) × (b ≡ eqb byte q)) where
    pub part_turn : (part : Bor Bytes) → r ≡ Some part → (length done < length (split q s)) × (part.now ≡ get_or (split q s) (length done) part.now)
    part_turn part e = YieldsList-turn (subst (λ i. YieldsList (split_steps g) (λ x. x.now) i (split q s)) (sym same) (yields_parts g s rest more closure tests)) done t so_far r u part e goes

    pub parts_end : r ≡ None → length (split q s) ≤ length done
    parts_end e = let z : length done ≡ length (split q s) = (YieldsList-end (subst (λ i. YieldsList (split_steps g) (λ x. x.now) i (split q s)) (sym same) (yields_parts g s rest more closure tests)) done t so_far r u e goes).1 in omega (arith, z)

  -- the part that is read by its number
  pub part_there : (s : Bytes) (n : ℕ) (r : Option (Bor Bytes)) (part : Bor Bytes) → r ≡ Some part → option_map (λ x. x.now) r ≡ slice_get (split q s) n → part.now ≡ part_of q s n
  part_there s n r part h e = go (split q s) n (rw h at e)
    where
      go : (l : List Bytes) (n : ℕ) → Some part.now ≡ slice_get l n → part.now ≡ get_or l n []
      go [] n e = absurd (cc)
      go (x ∷ l) zero e = cc
      go (x ∷ l) (suc n) e = go l n e

  pub part_none : (s : Bytes) (n : ℕ) (r : Option (Bor Bytes)) → r ≡ None → option_map (λ x. x.now) r ≡ slice_get (split q s) n → ◌≡◌ {A = Bytes} [] (part_of q s n)
  part_none s n r h e = go (split q s) n (rw h at e)
    where
      go : (l : List Bytes) (n : ℕ) → None ≡ slice_get l n → ◌≡◌ {A = Bytes} [] (get_or l n [])
      go [] n e = refl
      go (x ∷ l) zero e = absurd (cc)
      go (x ∷ l) (suc n) e = go l n e

-- every text has a part, and no more parts than bytes and one
pub some_part : (q : ℕ) (s : Bytes) → 1 ≤ length (split q s)
some_part q s = let p = split_has_part q s in rw p.is (omega arith)

pub few_parts : (q : ℕ) (s : Bytes) → length (split q s) ≤ length s + 1
unfolding split extend
few_parts q [] = omega arith
few_parts q (b ∷ s) = go (eqb b q) (few_parts q s)
  where
    go : (t : Bool) → length (split q s) ≤ length s + 1 → length (extend t b (split q s)) ≤ suc (length s) + 1
    go true i = omega arith
    go false i = let p = split_has_part q s in let j : length (p.head ∷ p.rest) ≤ length s + 1 = rw p.is at i in rw p.is (omega (arith, j))

-- a walk over the parts from one on begins with that one
pub next_part : {Y : Type 0} (F : List Bytes → Y) (parts : List Bytes) (n : ℕ) (part : Bytes) → (n < length parts) × (part ≡ get_or parts n part) →
    F (drop n parts) ≡ F (part ∷ drop (n + 1) parts)
next_part F parts n part h = at_drop_more F parts n part h.0 ∙ ap (λ (x : Bytes). F (x ∷ drop (n + 1) parts)) (sym h.1)
