-- Edges fall on minutes: an input opens at the opening minute of one of its windows, and closes at the closing minute of one.
-- s is a schedule, k an input, m a moment, w a window, d a date, e an edge.
use mathlib.Core.Path.{◌≡◌, refl, sym, ap, ◌∙◌}
use mathlib.Core.Bool.{Bool, true, false, ◌&&◌, ◌||◌, not}
use mathlib.Core.List.Memᴰ
use mathlib.Core.List.{List, [], ◌∷◌, Memᴰ}
use mathlib.Core.Logic.{◌⊎◌, ⊎_elim, inl, inr}
use Prim.Native.Nat.{ℕ, zero, suc, ◌-◌, ◌*◌, ◌/◌, ◌%◌, ◌≤◌, ◌<◌}
use native.Mathlib.Omega.{arith}
use lib.Dec.{eqb}
use borrow.Author.Tests.{eqb-true, eqb-false, eq-eqb, le-leb, lt-ltb}
use Rattle.listing.specs.Lists.{all}
use Rattle.listing.proofs.Tests.{no_test, and_left, and_right, all_head, all_tail}
use Rattle.schedule.specs.Calendar.{Date, weekday_after}
use Rattle.schedule.specs.Schedule.{Window, Schedule, IsSchedule, is_window}
use Rattle.schedule.specs.Union.{day_length, minute_length, any, lies, is_open}
use Rattle.schedule.specs.Members.{OpensAt, ClosesAt, OnMinute}
use Rattle.schedule.specs.Edges.{Edge, edges_in}
use Rattle.schedule.specs.Sentence.{open_value}
use Rattle.schedule_laws.proofs.Windows.{Lies, lies_there, Numbers, window_numbers}
use Rattle.schedule_laws.proofs.Members.{member_in}

-- ── an element that passes ───────────────────────────────────────────────────────
pub record Passes {A : Type 0} (test : A → Bool) (xs : List A) : Type 0 where
  pub one : A
  pub member : Memᴰ one xs
  pub passes : test one ≡ true

module _ {A : Type 0} (test : A → Bool) where
  pub any_passes : (xs : List A) → any test xs ≡ true → Passes test xs
  unfolding any
  any_passes [] h = no_test h
  any_passes (x ∷ xs) h = go (test x) refl h (λ h. any_passes xs h)
    where
      go : (t : Bool) → test x ≡ t → (t || any test xs) ≡ true → (any test xs ≡ true → Passes test xs) → Passes test (x ∷ xs)
      go true e h i = record { one = x; member = Memᴰ.head refl; passes = e }
      go false e h i = let p = i h in record { one = p.one; member = Memᴰ.tail p.member; passes = p.passes }

  pub passes_any : {x : A} (xs : List A) → Memᴰ x xs → test x ≡ true → any test xs ≡ true
  unfolding any
  passes_any [] m e = absurd (Memᴰ.not-nil m)
  passes_any {x} (y ∷ ys) m e = ⊎_elim (λ z. here (test y) (rw z at e)) (λ u. later (test y) (passes_any ys u e)) (Memᴰ.cases_cons m)
    where
      here : (t : Bool) → t ≡ true → (t || any test ys) ≡ true
      here true e = refl
      here false e = no_test e

      later : (t : Bool) → any test ys ≡ true → (t || any test ys) ≡ true
      later true e = refl
      later false e = e

  pub all_member : {x : A} (xs : List A) → all test xs ≡ true → Memᴰ x xs → test x ≡ true
  all_member [] h m = absurd (Memᴰ.not-nil m)
  all_member (y ∷ ys) h m = ⊎_elim (λ z. rw z (all_head test y ys h)) (λ u. all_member ys (all_tail test y ys h) u) (Memᴰ.cases_cons m)

-- ── a window in which a moment lies, and the moment before or after it does not ──
lies_so : (d : Date) (m : ℕ) (w : Window) → w.weekday ≡ weekday_after d (m / day_length) → w.opening * minute_length ≤ m % day_length
    → m % day_length < w.closing * minute_length → lies d m w ≡ true
unfolding lies
lies_so d m w e l h = rw (eq-eqb _ _ e, le-leb _ _ l, lt-ltb _ _ h)

module _ (d : Date) (m : ℕ) (w : Window) where
  opens_at : Lies d (suc m) w → (lies d m w ≡ true → ⊥) → w.opening * minute_length ≡ suc m % day_length
  opens_at h n = go (eqb (w.opening * minute_length) (suc m % day_length)) refl
    where
      go : (t : Bool) → eqb (w.opening * minute_length) (suc m % day_length) ≡ t → w.opening * minute_length ≡ suc m % day_length
      go true e = eqb-true _ _ e
      go false e =
          let other : w.opening * minute_length ≡ suc m % day_length → ⊥ = eqb-false _ _ e in
          let day : suc m / day_length ≡ m / day_length = omega arith in
          absurd (n (lies_so d m w (rw day at h.on) (omega arith) (omega arith)))

  closes_at : Numbers w → Lies d m w → (lies d (suc m) w ≡ true → ⊥) → w.closing * minute_length ≡ suc (m % day_length)
  closes_at g h n = go (eqb (w.closing * minute_length) (suc (m % day_length))) refl
    where
      go : (t : Bool) → eqb (w.closing * minute_length) (suc (m % day_length)) ≡ t → w.closing * minute_length ≡ suc (m % day_length)
      go true e = eqb-true _ _ e
      go false e =
          let other : w.closing * minute_length ≡ suc (m % day_length) → ⊥ = eqb-false _ _ e in
          let day : m / day_length ≡ suc m / day_length = omega arith in
          absurd (n (lies_so d (suc m) w (rw day at h.on) (omega arith) (omega arith)))

-- ── edges ────────────────────────────────────────────────────────────────────────
module _ (s : Schedule) (k : ℕ) where
  abbrev test : ℕ → Window → Bool
  test m w = eqb w.input k && lies s.date m w

  lies_passes : (m : ℕ) (w : Window) → w.input ≡ k → lies s.date m w ≡ true → test m w ≡ true
  lies_passes m w i h = rw (eq-eqb w.input k i, h)

  pub opens_on_minute : (m : ℕ) → is_open s k m ≡ false → is_open s k (suc m) ≡ true → OpensAt s k (suc m)
  unfolding is_open
  opens_on_minute m n h =
      let p = any_passes (test (suc m)) s.windows h in
      let w = p.one in
      let i : w.input ≡ k = eqb-true w.input k (and_left (eqb w.input k) (lies s.date (suc m) w) p.passes) in
      let l = lies_there s.date (suc m) w (and_right (eqb w.input k) (lies s.date (suc m) w) p.passes) in
      let out : lies s.date m w ≡ true → ⊥ = λ h. no_test (sym n ∙ passes_any (test m) s.windows p.member (lies_passes m w i h)) in
      record { window = w; member = p.member; input_is = i; on = l.on; at = opens_at s.date m w l out }

  pub closes_on_minute : (m : ℕ) → IsSchedule s → is_open s k m ≡ true → is_open s k (suc m) ≡ false → ClosesAt s k (suc m)
  unfolding is_open
  closes_on_minute m g h n =
      let p = any_passes (test m) s.windows h in
      let w = p.one in
      let i : w.input ≡ k = eqb-true w.input k (and_left (eqb w.input k) (lies s.date m w) p.passes) in
      let l = lies_there s.date m w (and_right (eqb w.input k) (lies s.date m w) p.passes) in
      let out : lies s.date (suc m) w ≡ true → ⊥ = λ h. no_test (sym n ∙ passes_any (test (suc m)) s.windows p.member (lies_passes (suc m) w i h)) in
      let numbers = window_numbers w (all_member is_window s.windows g.windows_are p.member) in
      let q : suc m - 1 ≡ m = omega arith in
      record { window = w; member = p.member; input_is = i; on = rw q l.on; at = rw q (closes_at s.date m w numbers l out) }

  opens_minute : (m : ℕ) → OpensAt s k m → m % minute_length ≡ 0
  opens_minute m o = omega (arith, o.at)

  closes_minute : (m : ℕ) → 0 < m → ClosesAt s k m → m % minute_length ≡ 0
  closes_minute m h c = omega (arith, c.at)

  -- a change of an input falls on a minute at which one of its windows opens, if it is open then, or closes
  abbrev pub Changes : ℕ → Type 0
  Changes m = (m % minute_length ≡ 0) × (((is_open s k m ≡ true) × OpensAt s k m) ⊎ ((is_open s k m ≡ false) × ClosesAt s k m))

  pub changes_on_minute : (m : ℕ) → IsSchedule s → 0 < m → is_open s k (m - 1) ≡ not (is_open s k m) → Changes m
  changes_on_minute zero g h n = absurd (let z : ⊥ = omega arith in z)
  changes_on_minute (suc m) g h n =
      let p : suc m - 1 ≡ m = omega arith in
      go (is_open s k (suc m)) refl (rw p at n)
    where
      go : (q : Bool) → is_open s k (suc m) ≡ q → is_open s k m ≡ not (is_open s k (suc m)) → Changes (suc m)
      go true e n = let o = opens_on_minute m (n ∙ ap not e) e in (opens_minute (suc m) o, inl (e, o))
      go false e n = let c = closes_on_minute m g (n ∙ ap not e) e in (closes_minute (suc m) (omega arith) c, inr (e, c))

-- every listed edge
pub edges_on_minutes : (s : Schedule) → IsSchedule s → (a b : ℕ) (e : Edge) → Memᴰ e (edges_in s a b) → OnMinute s e
edges_on_minutes s g a b e m =
    let h = (member_in s a b e m).is in
    let c = changes_on_minute s e.input e.moment g h.above h.differs in
    (c.0, ⊎_elim (λ o. inl (h.value_is ∙ ap open_value o.0, o.1)) (λ o. inr (h.value_is ∙ ap open_value o.0, o.1)) c.1)
