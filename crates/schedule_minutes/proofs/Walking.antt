-- Minutes walked through one after another. Letters: w a week, t the first minute, k how many are passed, x and y the bits of the minute before and of this one.
use mathlib.Core.Path.{◌≡◌, sym, ap, ◌∙◌}
use mathlib.Core.List.{List, ◌++◌}
use Prim.Native.Nat.{ℕ, ◌+◌, ◌-◌, ◌*◌, ◌%◌, ◌<◌}
use native.Mathlib.Omega.{arith}
use lib.ListN.{length, get_or, length-append}
use Rattle.schedule_minutes.specs.Minutes.{changes_of, bits_at, minute_edges}
use Rattle.schedule_minutes.proofs.Edges.{minutes_last}

-- where the walk stands: the next minute of the week, and the bits of the one before it
pub record Stands (w : List ℕ) (t k before at : ℕ) : Type 0 where
  pub here : at ≡ (t + k) % 10080
  pub last : before ≡ bits_at w (t + k - 1)

pub stands_first : (w : List ℕ) (t : ℕ) → Stands w t 0 (bits_at w (t - 1)) (t % 10080)
stands_first w t = let e : t + 0 ≡ t = omega arith in record { here = rw e; last = rw e }

module _ (w : List ℕ) (t k x at : ℕ) (s : Stands w t k x at) where
  pub in_week : at < 10080
  in_week = rw s.here (omega arith)

  pub stands_next : (next : ℕ) → next ≡ (at + 1) % 10080 → Stands w t (k + 1) (get_or w at 0) next
  stands_next next e =
      let h = s.here in
      let b : t + (k + 1) - 1 ≡ t + k = omega arith in
      record { here = e ∙ omega arith; last = rw (b, ← s.here) }

  -- the edges of one minute more
  pub edges_next : minute_edges w t (k + 1) ≡ minute_edges w t k ++ changes_of ((t + k) * 60000) x (get_or w at 0)
  edges_next = minutes_last w t k ∙ rw (s.here, s.last)

  pub count_next : (n c : ℕ) → n ≡ length (minute_edges w t k) → c ≡ length (changes_of ((t + k) * 60000) x (get_or w at 0)) → n + c ≡ length (minute_edges w t (k + 1))
  count_next n c p q = sym (ap length edges_next ∙ length-append (minute_edges w t k) _ ∙ omega arith)
