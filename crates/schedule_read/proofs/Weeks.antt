-- The week of one window more, and the week of none.
use mathlib.Core.Path.{◌≡◌, sym, ap, ◌∙◌}
use mathlib.Core.Bool.{Bool, true, false, cond, ◌&&◌, ◌||◌, and-true, and-false, or-false, or_assoc, or_comm}
use mathlib.Core.List.{List, [], ◌∷◌, ◌++◌}
use Prim.Native.Nat.{ℕ, ◌*◌, ◌^◌}
use lib.Bits.{bit_or}
use lib.Dec.{eqb, leb, ltb}
use lib.ListN.{length, get_or, replicate, length-replicate, get_or-replicate}
use Rattle.openings.proofs.Mask.{has_more, none_has}
use Rattle.schedule.specs.Schedule.{Window}
use Rattle.schedule.specs.Union.{any}
use Rattle.schedule_week.specs.Week.{is_marked, Marked, begin_of, end_of, covers, WeekOf}

any_more : {A : Type 0} (test : A → Bool) (xs : List A) (x : A) → any test (xs ++ (x ∷ [])) ≡ (any test xs || test x)
unfolding any
any_more test [] x = or-false (test x)
any_more test (y ∷ xs) x = rw (any_more test xs x) (sym (or_assoc (test y) (any test xs) (test x)))

module _ (first : ℕ) (windows : List Window) (w : Window) (week week' : List ℕ) where
  -- a bit of a minute that may have been marked
  bit_more : (input n : ℕ) (t c : Bool) → is_marked n input ≡ c → is_marked (cond t (bit_or n (1 * 2 ^ w.input)) n) input ≡ (c || (eqb w.input input && t))
  bit_more input n true c e = has_more n w.input input ∙ or_comm (eqb w.input input) (is_marked n input) ∙ rw (e, and-true)
  bit_more input n false c e = e ∙ rw (and-false (eqb w.input input)) (sym (or-false c))

  pub week_more : WeekOf first windows week → Marked w.input (begin_of first w) (end_of first w) week week' → WeekOf first (windows ++ (w ∷ [])) week'
  unfolding covers
  week_more v m = record {
    size = m.size ∙ v.size;
    bits = λ input minute h.
        ap (λ (n : ℕ). is_marked n input) (m.each minute) ∙ bit_more input (get_or week minute 0) (leb (begin_of first w) minute && ltb minute (end_of first w)) _ (v.bits input minute h)
        ∙ sym (any_more _ windows w);
  }

pub week_none : (first : ℕ) (week : List ℕ) → week ≡ replicate 10080 0 → WeekOf first [] week
unfolding covers any
week_none first week e = record {
  size = ap (length {A = ℕ}) e ∙ length-replicate {A = ℕ} 10080 0;
  bits = λ input minute h. ap (λ (l : List ℕ). is_marked (get_or l minute 0) input) e ∙ ap (λ (n : ℕ). is_marked n input) (get_or-replicate {A = ℕ} 10080 minute 0 0 h) ∙ none_has input;
}
