-- The lines of a text from an offset on: the first, and those after it.
use mathlib.Core.Path.{◌≡◌, refl, sym, ap, ◌∙◌}
use mathlib.Core.Bool.{Bool, true, false, cond}
use mathlib.Core.List.{[], ◌∷◌, ◌++◌}
use Prim.Native.Nat.{ℕ, suc, ◌+◌, ◌≤◌, ◌<◌}
use native.Mathlib.Omega.{arith}
use lib.Dec.{eqb}
use lib.ListN.{length, get_or, drop, drop_of_length-le}
use lib.Seq.{drop-cons, get_or-drop}
use borrow.Author.Tests.{lt-ltb, eqb-true}
use Rattle.listing.specs.Lists.{is_empty, all_but_last, last_or}
use Rattle.listing.specs.Bytes.{Bytes, split}
use Rattle.listing.specs.Questions.{closed_lines, unclosed}
use Rattle.listing.proofs.Splits.{split_has_part, split_at, split_free}
use Rattle.text_place.specs.Texts.{before, first_line, ends_line, line_end}
use Rattle.text_place.specs.Places.{passed}
use Rattle.text_place.proofs.Texts.{before_free}
use Rattle.text_place.proofs.Places.{drop_past, past_in}

-- ── a text by its first line feed ────────────────────────────────────────────────
cut : (l : Bytes) → get_or l (length (first_line l)) 0 ≡ 10 → l ≡ first_line l ++ (10 ∷ drop (suc (length (first_line l))) l)
unfolding before
cut [] e = absurd (omega arith)
cut (b ∷ l) e = go (eqb b 10) refl (cut l) e
  where
    go : (t : Bool) → eqb b 10 ≡ t → (get_or l (length (first_line l)) 0 ≡ 10 → l ≡ first_line l ++ (10 ∷ drop (suc (length (first_line l))) l))
        → get_or (b ∷ l) (length (cond t [] (b ∷ first_line l))) 0 ≡ 10
        → (b ∷ l) ≡ cond t [] (b ∷ first_line l) ++ (10 ∷ drop (suc (length (cond t [] (b ∷ first_line l)))) (b ∷ l))
    go true i more e = rw e
    go false i more e = ap (λ (r : Bytes). b ∷ r) (more e)

uncut : (l : Bytes) → (get_or l (length (first_line l)) 0 ≡ 10 → ⊥) → l ≡ first_line l
unfolding before
uncut [] n = refl
uncut (b ∷ l) n = go (eqb b 10) refl (uncut l) n
  where
    go : (t : Bool) → eqb b 10 ≡ t → ((get_or l (length (first_line l)) 0 ≡ 10 → ⊥) → l ≡ first_line l)
        → (get_or (b ∷ l) (length (cond t [] (b ∷ first_line l))) 0 ≡ 10 → ⊥) → (b ∷ l) ≡ cond t [] (b ∷ first_line l)
    go true i more n = absurd (n (eqb-true b 10 i))
    go false i more n = ap (λ (r : Bytes). b ∷ r) (more n)

-- ── from an offset on ────────────────────────────────────────────────────────────
module _ (s : Bytes) (at : ℕ) where
  module _ (feed : get_or s (line_end s at) 0 ≡ 10) where
    lines_more : split 10 (drop at s) ≡ first_line (drop at s) ∷ split 10 (drop (line_end s at + 1) s)
    lines_more =
        let c = cut (drop at s) (get_or-drop at s (length (first_line (drop at s))) 0 ∙ feed) in
        ap (split 10) c ∙ split_at _ (before_free ends_line 10 refl (drop at s)) ∙ rw (drop_past s at (length (first_line (drop at s))))

    pub closed_more : closed_lines (drop at s) ≡ first_line (drop at s) ∷ closed_lines (drop (line_end s at + 1) s)
    unfolding closed_lines all_but_last
    closed_more = let p = split_has_part 10 (drop (line_end s at + 1) s) in rw (lines_more, p.is)

    pub unclosed_more : unclosed (drop at s) ≡ unclosed (drop (line_end s at + 1) s)
    unfolding unclosed last_or
    unclosed_more = let p = split_has_part 10 (drop (line_end s at + 1) s) in rw (lines_more, p.is)

    pub feed_within : line_end s at < length s
    feed_within = past_in s (line_end s at) 10 (omega arith) feed

    pub feed_next : (line : ℕ) → passed s line (line_end s at) ≡ record { offset = line_end s at + 1; line = line + 1 }
    feed_next line = rw (lt-ltb (line_end s at) (length s) feed_within, feed)

  -- without a line feed
  module _ (open-ended : get_or s (line_end s at) 0 ≡ 10 → ⊥) where
    lines_last : split 10 (drop at s) ≡ drop at s ∷ []
    lines_last =
        let d = uncut (drop at s) (λ e. open-ended (sym (get_or-drop at s (length (first_line (drop at s))) 0) ∙ e)) in
        ap (split 10) d ∙ split_free (before_free ends_line 10 refl (drop at s)) ∙ rw (← d)

    pub closed_last : closed_lines (drop at s) ≡ []
    unfolding closed_lines all_but_last
    closed_last = rw lines_last

    pub unclosed_last : at < length s → is_empty (unclosed (drop at s)) ≡ false
    unfolding unclosed last_or
    unclosed_last h = rw (lines_last, drop-cons s at 0 h)

  -- at the end
  pub closed_end : length s ≤ at → closed_lines (drop at s) ≡ []
  unfolding closed_lines split all_but_last
  closed_end h = rw (drop_of_length-le s h)

  pub unclosed_end : length s ≤ at → unclosed (drop at s) ≡ []
  unfolding unclosed split last_or
  unclosed_end h = rw (drop_of_length-le s h)
