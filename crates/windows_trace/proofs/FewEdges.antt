-- How many inputs a span has: at most 16 in a minute.
-- Letters: a the first moment of a span, n how many moments it has, m a moment.
use mathlib.Core.Path.{◌≡◌, refl, ap, ◌∙◌}
use mathlib.Core.List.{List, [], ◌∷◌, ◌++◌, Memᴰ}
use Prim.Native.Nat.{ℕ, zero, suc, ◌+◌, ◌-◌, ◌*◌, ◌%◌, ◌≤◌, ◌<◌}
use native.Mathlib.Omega.{arith}
use lib.ListN.{length, length-append}
use Rattle.schedule.specs.Schedule.{Schedule, IsSchedule}
use Rattle.schedule.specs.Edges.{edges_at, edges_from, edges_in}
use Rattle.schedule_laws.proofs.Spans.{from_sum, from_one, quiet}
use Rattle.schedule_laws.proofs.Members.{member_at}
use Rattle.schedule_laws.proofs.OnMinutes.{changes_on_minute}
use Rattle.schedule_minutes.proofs.Edges.{changes_most}

no_member : {A : Type 0} (xs : List A) → ((x : A) → Memᴰ x xs → ⊥) → xs ≡ []
no_member [] h = refl
no_member (x ∷ xs) h = absurd (h x (Memᴰ.head refl))

module _ (s : Schedule) (good : IsSchedule s) where
  between_minutes : (m : ℕ) → (m % 60000 ≡ 0 → ⊥) → edges_at s m ≡ []
  between_minutes m h = no_member (edges_at s m) (λ e l.
      let p = member_at s m e l in
      let i = p.0 in
      let on = (changes_on_minute s e.input e.moment good i.above i.differs).0 in
      h (rw p.1 at on))

  at_moment : (m : ℕ) → length (edges_at s m) ≤ 16
  unfolding edges_at
  at_moment zero = omega arith
  at_moment (suc m) = changes_most _ _ _ 16

  no_minute_lem : (a n : ℕ) → ((m : ℕ) → a ≤ m → m < a + n → m % 60000 ≡ 0 → ⊥) → edges_from s a n ≡ []
  no_minute_lem a n h = quiet s a n (λ m i j. between_minutes m (h m i j))

  -- in a minute's moments one is a whole minute
  in_a_minute : (a : ℕ) → length (edges_from s a 60000) ≤ 16
  in_a_minute a =
      let r = (60000 - a % 60000) % 60000 in
      let q = 59999 - r in
      let n : 60000 ≡ r + (1 + q) = omega arith in
      let before : edges_from s a r ≡ [] = no_minute_lem a r (λ m i j k. omega arith) in
      let after : edges_from s (a + r + 1) q ≡ [] = no_minute_lem (a + r + 1) q (λ m i j k. omega arith) in
      let parts : edges_from s a 60000 ≡ edges_from s a r ++ (edges_from s (a + r) 1 ++ edges_from s (a + r + 1) q) =
      ap (edges_from s a) n ∙ from_sum s a r (1 + q) ∙ ap (λ l. edges_from s a r ++ l) (from_sum s (a + r) 1 q) in
      rw (parts, before, after, length-append, from_one s (a + r)) (omega (arith, at_moment (a + r)))

  none_long : (a : ℕ) → length (edges_from s a 0) ≤ 0
  unfolding edges_from
  none_long a = omega arith

  both : (a x y k l : ℕ) → length (edges_from s a x) ≤ k → length (edges_from s (a + x) y) ≤ l → length (edges_from s a (x + y)) ≤ k + l
  both a x y k l h g = rw (from_sum s a x y, length-append) (omega arith)

  in_minutes : (n a : ℕ) → length (edges_from s a (n * 60000)) ≤ 16 * n
  in_minutes zero a = none_long a
  in_minutes (suc n) a =
      let e : 60000 + n * 60000 ≡ suc n * 60000 = omega arith in
      let f : 16 + 16 * n ≡ 16 * suc n = omega arith in
      rw (← e, ← f) (both a 60000 (n * 60000) 16 (16 * n) (in_a_minute a) (in_minutes n (a + 60000)))

  no_more : (a x y : ℕ) → length (edges_from s a x) ≤ length (edges_from s a (x + y))
  no_more a x y = rw (from_sum s a x y, length-append) (omega arith)

  pub in_an_hour : (a b : ℕ) → b ≤ a + 3600000 → length (edges_in s a b) ≤ 960
  unfolding edges_in
  in_an_hour a b h =
      let e : (b - a) + (3600000 - (b - a)) ≡ 60 * 60000 = omega arith in
      omega (arith, no_more a (b - a) (3600000 - (b - a)), in_minutes 60 a, ap (λ n. length (edges_from s a n)) e)
