-- The edges of neighbouring spans, and of spans in which nothing changes.
-- s is a schedule; a, b and c are moments, x and y numbers of moments.
use mathlib.Core.Path.{◌≡◌, refl, sym}
use mathlib.Core.List.{[], ◌++◌, append-nil, append_assoc}
use Prim.Native.Nat.{ℕ, zero, suc, ◌+◌, ◌-◌, ◌≤◌, ◌<◌}
use native.Mathlib.Omega.{arith}
use Rattle.schedule.specs.Schedule.{Schedule}
use Rattle.schedule.specs.Edges.{edges_at, edges_from, edges_in}

module _ (s : Schedule) where
  -- so many moments, and so many more after them
  pub from_sum : (a x y : ℕ) → edges_from s a (x + y) ≡ edges_from s a x ++ edges_from s (a + x) y
  unfolding edges_from
  from_sum a zero y =
      let p : 0 + y ≡ y = omega arith in
      let q : a + 0 ≡ a = omega arith in
      rw (p, q)
  from_sum a (suc x) y =
      let p : suc x + y ≡ suc (x + y) = omega arith in
      let q : a + suc x ≡ suc a + x = omega arith in
      rw (p, q, from_sum (suc a) x y) (sym (append_assoc (edges_at s a) (edges_from s (suc a) x) (edges_from s (suc a + x) y)))

  -- neighbouring spans joined are the span of both
  pub joined : (a b c : ℕ) → a ≤ b → b ≤ c → edges_in s a b ++ edges_in s b c ≡ edges_in s a c
  unfolding edges_in
  joined a b c h k =
      let p : a + (b - a) ≡ b = omega arith in
      let q : c - a ≡ (b - a) + (c - b) = omega arith in
      rw q (sym (rw p at (from_sum a (b - a) (c - b))))

  -- a span that ends at or before its start has no edge
  pub no_span : (a b : ℕ) → b ≤ a → edges_in s a b ≡ []
  unfolding edges_in edges_from
  no_span a b h = let p : b - a ≡ 0 = omega arith in rw p

  -- one moment
  pub from_one : (a : ℕ) → edges_from s a 1 ≡ edges_at s a
  unfolding edges_from
  from_one a = append-nil (edges_at s a)

  -- a span in which no moment has an edge has none
  pub quiet : (a x : ℕ) → ((m : ℕ) → a ≤ m → m < a + x → edges_at s m ≡ []) → edges_from s a x ≡ []
  unfolding edges_from
  quiet a zero h = refl
  quiet a (suc x) h = rw (h a (omega arith) (omega arith), quiet (suc a) x (λ m l k. h m (omega arith) (omega arith)))
