-- The edges of minutes: side by side, at their end, a week later, and how many. Letters: w a week, t a minute from moment 0 on, n and x and y numbers
-- of minutes, m a moment, f and g what tells of an input whether it is open, k a number of inputs.
use mathlib.Core.Path.{◌≡◌, refl, sym, ap, ◌∙◌}
use mathlib.Core.Bool.{Bool, true, false}
use mathlib.Core.List.{List, [], ◌∷◌, ◌++◌, map, map-append, append_assoc, append-nil}
use Prim.Native.Nat.{ℕ, zero, suc, ◌+◌, ◌-◌, ◌*◌, ◌/◌, ◌%◌, ◌≤◌, ◌<◌}
use native.Mathlib.Omega.{arith}
use lib.ListN.{length, get_or, length-append, length-map, get_or-append, get_or-map}
use lib.Seq.{get_or-append-add}
use Rattle.schedule.specs.Edges.{Edge, change, changes}
use Rattle.schedule_week.specs.Week.{is_marked}
use Rattle.schedule_minutes.specs.Minutes.{changes_of, bits_at, minute_edges}

-- ── the changes at a moment ───────────────────────────────────────────────────────────────────────
-- an edge so much later
abbrev pub later : ℕ → Edge → Edge
later d e = record { moment = e.moment + d; input = e.input; value = e.value }

change_later : (m d k : ℕ) (a b : Bool) → change (m + d) k a b ≡ map (later d) (change m k a b)
unfolding change
change_later m d k true true = refl
change_later m d k true false = refl
change_later m d k false true = refl
change_later m d k false false = refl

changes_later : (m d : ℕ) (f g : ℕ → Bool) (k : ℕ) → changes (m + d) f g k ≡ map (later d) (changes m f g k)
unfolding changes
changes_later m d f g zero = refl
changes_later m d f g (suc k) =
    ap (λ (l : List Edge). l ++ change (m + d) k (f k) (g k)) (changes_later m d f g k)
    ∙ ap (λ (l : List Edge). map (later d) (changes m f g k) ++ l) (change_later m d k (f k) (g k))
    ∙ sym (map-append (later d) (changes m f g k) (change m k (f k) (g k)))

change_most : (m k : ℕ) (a b : Bool) → length (change m k a b) ≤ 1
unfolding change
change_most m k true true = omega arith
change_most m k true false = omega arith
change_most m k false true = omega arith
change_most m k false false = omega arith

pub changes_most : (m : ℕ) (f g : ℕ → Bool) (k : ℕ) → length (changes m f g k) ≤ k
unfolding changes
changes_most m f g zero = omega arith
changes_most m f g (suc k) =
    omega (arith, length-append (changes m f g k) (change m k (f k) (g k)), changes_most m f g k, change_most m k (f k) (g k))

-- ── minutes side by side ──────────────────────────────────────────────────────────────────────────
module _ (w : List ℕ) where
  -- the edges of one minute
  abbrev pub minute_at : ℕ → List Edge
  minute_at t = changes_of (t * 60000) (bits_at w (t - 1)) (bits_at w t)

  pub minutes_append : (t x y : ℕ) → minute_edges w t (x + y) ≡ minute_edges w t x ++ minute_edges w (t + x) y
  unfolding minute_edges
  minutes_append t zero y =
      let e : 0 + y ≡ y = omega arith in
      let f : t + 0 ≡ t = omega arith in
      rw (e, f)
  minutes_append t (suc x) y =
      let e : suc x + y ≡ suc (x + y) = omega arith in
      let f : suc t + x ≡ t + suc x = omega arith in
      rw (e, minutes_append (suc t) x y, f) (sym (append_assoc (minute_at t) (minute_edges w (suc t) x) (minute_edges w (t + suc x) y)))

  pub minutes_none : (t : ℕ) → minute_edges w t 0 ≡ []
  unfolding minute_edges
  minutes_none t = refl

  pub minutes_one : (t : ℕ) → minute_edges w t 1 ≡ minute_at t
  unfolding minute_edges
  minutes_one t = append-nil (minute_at t)

  pub minutes_last : (t n : ℕ) → minute_edges w t (n + 1) ≡ minute_edges w t n ++ minute_at (t + n)
  minutes_last t n = minutes_append t n 1 ∙ ap (λ (l : List Edge). minute_edges w t n ++ l) (minutes_one (t + n))

  pub minutes_most : (t n : ℕ) → length (minute_edges w t n) ≤ 16 * n
  unfolding minute_edges
  minutes_most t zero = omega arith
  minutes_most t (suc n) =
      omega (arith, length-append (minute_at t) (minute_edges w (suc t) n), minutes_most (suc t) n, changes_most (t * 60000) (is_marked (bits_at w (t - 1))) (is_marked (bits_at w t)) 16)

  -- ── the week repeats ──
  minute_later : (t : ℕ) → 1 ≤ t → minute_at (t + 10080) ≡ map (later 604800000) (minute_at t)
  minute_later t h =
      let a : (t + 10080) * 60000 ≡ t * 60000 + 604800000 = omega arith in
      let b : (t + 10080 - 1) % 10080 ≡ (t - 1) % 10080 = omega arith in
      let c : (t + 10080) % 10080 ≡ t % 10080 = omega arith in
      rw (a, b, c) (changes_later (t * 60000) 604800000 _ _ 16)

  pub minutes_later : (t n : ℕ) → 1 ≤ t → minute_edges w (t + 10080) n ≡ map (later 604800000) (minute_edges w t n)
  unfolding minute_edges
  minutes_later t zero h = refl
  minutes_later t (suc n) h =
      ap (λ (l : List Edge). l ++ minute_edges w (suc (t + 10080)) n) (minute_later t h)
      ∙ ap (λ (l : List Edge). map (later 604800000) (minute_at t) ++ l) (ap (λ (u : ℕ). minute_edges w u n) (omega arith) ∙ minutes_later (suc t) n (omega arith))
      ∙ sym (map-append (later 604800000) (minute_at t) (minute_edges w (suc t) n))

  pub weeks_alike : (t v : ℕ) → 1 ≤ t → length (minute_edges w t (v * 10080)) ≡ v * length (minute_edges w t 10080)
  weeks_alike t zero h = ap length (minutes_none t) ∙ omega arith
  weeks_alike t (suc v) h =
      let e : suc v * 10080 ≡ 10080 + v * 10080 = omega arith in
      let sum = ap length (minutes_append t 10080 (v * 10080)) ∙ length-append (minute_edges w t 10080) (minute_edges w (t + 10080) (v * 10080)) in
      let rest = ap length (minutes_later t (v * 10080) h) ∙ length-map (minute_edges w t (v * 10080)) (later 604800000) in
      rw e (omega (arith, weeks_alike t v h))

  -- "the week repeats: count": what is left over beside whole weeks, and the weeks
  pub by_weeks : (t n : ℕ) → 1 ≤ t → length (minute_edges w t n) ≡ length (minute_edges w t (n % 10080)) + n / 10080 * length (minute_edges w (t + n % 10080) 10080)
  by_weeks t n h =
      let e : n ≡ n % 10080 + n / 10080 * 10080 = omega arith in
      ap (λ (k : ℕ). length (minute_edges w t k)) e
      ∙ ap length (minutes_append t (n % 10080) (n / 10080 * 10080))
      ∙ length-append (minute_edges w t (n % 10080)) (minute_edges w (t + n % 10080) (n / 10080 * 10080))
      ∙ ap (λ (k : ℕ). length (minute_edges w t (n % 10080)) + k) (weeks_alike (t + n % 10080) (n / 10080) (omega arith))

  -- an edge past the first week is the one a week before it, a week later
  pub week_before : (t n j : ℕ) (d : Edge) → 1 ≤ t → 10080 ≤ n → length (minute_edges w t 10080) ≤ j → j < length (minute_edges w t n) →
      get_or (minute_edges w t n) j (later 604800000 d) ≡ later 604800000 (get_or (minute_edges w t n) (j - length (minute_edges w t 10080)) d)
  week_before t n j d h l a b =
      let e = length (minute_edges w t 10080) in
      let i = j - e in
      let rest = n - 10080 in
      let front : minute_edges w t n ≡ minute_edges w t 10080 ++ map (later 604800000) (minute_edges w t rest) =
      ap (minute_edges w t) (omega arith) ∙ minutes_append t 10080 rest ∙ ap (λ (x : List Edge). minute_edges w t 10080 ++ x) (minutes_later t rest h) in
      let back : minute_edges w t n ≡ minute_edges w t rest ++ minute_edges w (t + rest) 10080 = ap (minute_edges w t) (omega arith) ∙ minutes_append t rest 10080 in
      let size : length (minute_edges w t n) ≡ e + length (minute_edges w t rest) =
      ap length front ∙ length-append (minute_edges w t 10080) _ ∙ ap (λ (x : ℕ). e + x) (length-map (minute_edges w t rest) (later 604800000)) in
      let at : j ≡ e + i = omega arith in
      let low : i < length (minute_edges w t rest) = omega arith in
      ap (λ (x : List Edge). get_or x j (later 604800000 d)) front
      ∙ ap (λ (x : ℕ). get_or (minute_edges w t 10080 ++ map (later 604800000) (minute_edges w t rest)) x (later 604800000 d)) at
      ∙ get_or-append-add (minute_edges w t 10080) (map (later 604800000) (minute_edges w t rest)) i (later 604800000 d)
      ∙ get_or-map (later 604800000) (minute_edges w t rest) i d
      ∙ ap (later 604800000) (sym (get_or-append (minute_edges w t rest) (minute_edges w (t + rest) 10080) d i low) ∙ ap (λ (x : List Edge). get_or x i d) (sym back))

-- ── moments ───────────────────────────────────────────────────────────────────────────────────────
-- every edge of a list is before a moment
abbrev pub Before : ℕ → List Edge → Type 0
Before b es = (j : ℕ) (d : Edge) → j < length es → (get_or es j d).moment < b

before_append : (b : ℕ) (xs ys : List Edge) → Before b xs → Before b ys → Before b (xs ++ ys)
before_append b [] ys p q j d h = q j d h
before_append b (x ∷ xs) ys p q zero d h = p 0 d (omega arith)
before_append b (x ∷ xs) ys p q (suc j) d h =
    before_append b xs ys (λ i e l. p (suc i) e (omega arith)) q j d (omega arith)

change_before : (b m k : ℕ) (x y : Bool) → m < b → Before b (change m k x y)
unfolding change
change_before b m k true true h j d l = absurd (omega arith)
change_before b m k true false h zero d l = h
change_before b m k true false h (suc j) d l = absurd (omega arith)
change_before b m k false true h zero d l = h
change_before b m k false true h (suc j) d l = absurd (omega arith)
change_before b m k false false h j d l = absurd (omega arith)

changes_before : (b m : ℕ) (f g : ℕ → Bool) (k : ℕ) → m < b → Before b (changes m f g k)
unfolding changes
changes_before b m f g zero h = λ j d l. absurd (omega arith)
changes_before b m f g (suc k) h = before_append b (changes m f g k) _ (changes_before b m f g k h) (change_before b m k (f k) (g k) h)

pub minutes_before : (b : ℕ) (w : List ℕ) (t n : ℕ) → (n ≡ 0 → ⊥) → (t + (n - 1)) * 60000 < b → Before b (minute_edges w t n)
unfolding minute_edges
minutes_before b w t zero z h = absurd (z refl)
minutes_before b w t (suc zero) z h = before_append b (minute_at w t) [] (changes_before b (t * 60000) _ _ 16 (omega arith)) (λ j d l. absurd (omega arith))
minutes_before b w t (suc (suc n)) z h =
    before_append b (minute_at w t) (minute_edges w (suc t) (suc n)) (changes_before b (t * 60000) _ _ 16 (omega arith)) (minutes_before b w (suc t) (suc n) (λ e. omega arith) (omega arith))
