-- The edges of a span are those of its whole minutes, if a week tells of every moment which inputs are open. Letters: s a schedule, w a week, m a moment, t a minute
-- from moment 0 on, k a number of inputs.
use mathlib.Core.Path.{◌≡◌, refl, sym, ap, ◌∙◌}
use mathlib.Core.Bool.{Bool}
use mathlib.Core.List.{List, [], ◌++◌, append-nil}
use Prim.Native.Nat.{ℕ, zero, suc, ◌+◌, ◌-◌, ◌*◌, ◌/◌, ◌%◌, ◌≤◌, ◌<◌}
use native.Mathlib.Decide.{dec_lt}
use native.Mathlib.Omega.{arith}
use Rattle.schedule.specs.Schedule.{Schedule}
use Rattle.schedule.specs.Union.{is_open}
use Rattle.schedule.specs.Edges.{Edge, changes, edges_at, edges_from, edges_in}
use Rattle.schedule_laws.proofs.Spans.{from_sum, from_one, quiet}
use Rattle.schedule_week.specs.Week.{is_marked}
use Rattle.schedule_minutes.specs.Minutes.{to_minute, minutes_between, changes_of, bits_at, minute_edges}
use Rattle.schedule_minutes.proofs.Changes.{changes_none}
use Rattle.schedule_minutes.proofs.Edges.{minute_at, minutes_none, minutes_last}
use Rattle.schedule_minutes.proofs.Whole.{First, first_is_lem, none_between, some_between}

-- the week tells of every moment which inputs are open
abbrev pub Tells : Schedule → List ℕ → Type 0
Tells s w = (k m : ℕ) → k < 16 → is_open s k m ≡ is_marked (bits_at w (m / 60000)) k

-- changes depend on what is told of the inputs alone
changes_told : (m : ℕ) (f g f' g' : ℕ → Bool) (k : ℕ) → ((i : ℕ) → i < k → f i ≡ f' i) → ((i : ℕ) → i < k → g i ≡ g' i) → changes m f g k ≡ changes m f' g' k
unfolding changes
changes_told m f g f' g' zero a b = refl
changes_told m f g f' g' (suc k) a b =
    rw (changes_told m f g f' g' k (λ i l. a i (omega arith)) (λ i l. b i (omega arith)), a k (omega arith), b k (omega arith))

module _ (s : Schedule) (w : List ℕ) (tells : Tells s w) where
  at_moment : (m : ℕ) → edges_at s (suc m) ≡ changes_of (suc m) (bits_at w (m / 60000)) (bits_at w (suc m / 60000))
  unfolding edges_at
  at_moment m = changes_told (suc m) _ _ _ _ 16 (λ i l. tells i m l) (λ i l. tells i (suc m) l)

  -- nothing changes between whole minutes, nor at moment 0
  between : (m : ℕ) → (1 ≤ m → m % 60000 ≡ 0 → ⊥) → edges_at s m ≡ []
  between zero n = unfold edges_at in refl
  between (suc m) n =
      let d : suc m % 60000 ≡ 0 → ⊥ = n (omega arith) in
      let e : suc m / 60000 ≡ m / 60000 = omega arith in
      at_moment m ∙ rw e (changes_none (suc m) _ 16)

  on_minute : (t : ℕ) → 1 ≤ t → edges_at s (t * 60000) ≡ minute_at w t
  on_minute t h =
      let m = t * 60000 - 1 in
      let e : t * 60000 ≡ suc m = omega arith in
      let a : m / 60000 ≡ t - 1 = omega arith in
      let b : suc m / 60000 ≡ t = omega arith in
      ap (edges_at s) e ∙ at_moment m ∙ ap (λ (x : ℕ). changes_of (suc m) (bits_at w x) (bits_at w (suc m / 60000))) a
      ∙ ap (λ (x : ℕ). changes_of (suc m) (bits_at w (t - 1)) (bits_at w x)) b ∙ ap (λ (x : ℕ). changes_of x (bits_at w (t - 1)) (bits_at w t)) (sym e)

  -- a whole minute, or its beginning
  one_minute : (t x : ℕ) → 1 ≤ t → 1 ≤ x → x ≤ 60000 → edges_from s (t * 60000) x ≡ minute_at w t
  one_minute t x h a b =
      let e : x ≡ 1 + (x - 1) = omega arith in
      ap (edges_from s (t * 60000)) e ∙ from_sum s (t * 60000) 1 (x - 1)
      ∙ ap (λ (l : List Edge). l ++ edges_from s (t * 60000 + 1) (x - 1)) (from_one s (t * 60000) ∙ on_minute t h)
      ∙ ap (λ (l : List Edge). minute_at w t ++ l) (quiet s (t * 60000 + 1) (x - 1) (λ m p q. between m (λ o z. omega arith)))
      ∙ append-nil (minute_at w t)

  -- so many minutes, the last one whole or not
  many_minutes : (t n x : ℕ) → 1 ≤ t → n * 60000 < x → x ≤ (n + 1) * 60000 → edges_from s (t * 60000) x ≡ minute_edges w t (n + 1)
  many_minutes t zero x h a b =
      let e : t + 0 ≡ t = omega arith in
      one_minute t x h (omega arith) (omega arith) ∙ sym (minutes_last w t 0 ∙ rw (minutes_none w t, e))
  many_minutes t (suc n) x h a b =
      let r = x - suc n * 60000 in
      let e : x ≡ suc n * 60000 + r = omega arith in
      let f : t * 60000 + suc n * 60000 ≡ (t + suc n) * 60000 = omega arith in
      let g : n + 1 ≡ suc n = omega arith in
      ap (edges_from s (t * 60000)) e ∙ from_sum s (t * 60000) (suc n * 60000) r
      ∙ ap (λ (l : List Edge). l ++ edges_from s (t * 60000 + suc n * 60000) r) (many_minutes t n (suc n * 60000) h (omega arith) (omega arith) ∙ ap (minute_edges w t) g)
      ∙ ap (λ (l : List Edge). minute_edges w t (suc n) ++ l) (ap (λ (y : ℕ). edges_from s y r) f ∙ one_minute (t + suc n) r (omega arith) (omega arith) (omega arith))
      ∙ sym (minutes_last w t (suc n))

  pub spans_agree : (from to : ℕ) → edges_in s from to ≡ minute_edges w ((from + to_minute from) / 60000) (minutes_between (from + to_minute from) to)
  unfolding edges_in
  spans_agree from to = go (dec_lt (from + to_minute from) to)
    where
      a : ℕ
      a = from + to_minute from

      first : First from a
      first = first_is_lem from

      silent : (x : ℕ) → from + x ≤ a → edges_from s from x ≡ []
      silent x h = quiet s from x (λ m p q. between m (λ o z. first.next m p o (omega arith) z))

      go : Dec (a < to) → edges_from s from (to - from) ≡ minute_edges w (a / 60000) (minutes_between a to)
      go (no h) = silent (to - from) (omega (arith, first.after)) ∙ sym (rw (none_between a to (omega arith)) (minutes_none w (a / 60000)))
      go (yes h) =
          let u = first.after in
          let v = first.whole in
          let o = first.above in
          let n = (to - a - 1) / 60000 in
          let e : to - from ≡ (a - from) + (to - a) = omega arith in
          let f : from + (a - from) ≡ a / 60000 * 60000 = omega arith in
          ap (edges_from s from) e ∙ from_sum s from (a - from) (to - a)
          ∙ ap (λ (l : List Edge). l ++ edges_from s (from + (a - from)) (to - a)) (silent (a - from) (omega arith))
          ∙ ap (λ (y : ℕ). edges_from s y (to - a)) f
          ∙ many_minutes (a / 60000) n (to - a) (omega arith) (omega arith) (omega arith)
          ∙ ap (minute_edges w (a / 60000)) (sym (some_between a to h))
