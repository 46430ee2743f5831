-- The edges of minutes written one minute after another. Letters: w a week, f the moment of the first minute, k how many minutes are written, x the bits of
-- the minute before.
use mathlib.Core.Path.{◌≡◌, ap, ◌∙◌}
use mathlib.Core.List.{List, ◌++◌}
use Prim.Native.Nat.{ℕ, ◌+◌, ◌-◌, ◌*◌, ◌/◌, ◌%◌, ◌≤◌, ◌<◌}
use native.Mathlib.Omega.{arith}
use lib.ListN.{length, get_or, length-append}
use Rattle.schedule_minutes.specs.Minutes.{changes_of, minute_edges}
use Rattle.schedule_minutes.proofs.Edges.{minutes_append}
use Rattle.schedule_minutes.proofs.Walking.{Stands, edges_next}
use Rattle.schedule_list.specs.Lists.{Fits, Written}
use Rattle.schedule_list.proofs.Lists.{written_more, fits_more, fits_shorter}

-- fewer minutes have no more edges
pub minutes_mono : (w : List ℕ) (t j n : ℕ) → j ≤ n → length (minute_edges w t j) ≤ length (minute_edges w t n)
minutes_mono w t j n h =
    let e : n ≡ j + (n - j) = omega arith in
    let s = ap length (ap (minute_edges w t) e ∙ minutes_append w t j (n - j)) ∙ length-append (minute_edges w t j) (minute_edges w (t + j) (n - j)) in
    omega arith

module _ (w : List ℕ) (f k x at : ℕ) (whole : f % 60000 ≡ 0) (s : Stands w (f / 60000) k x at) {q : ℕ} {m i v m' i' v' : List ℕ}
    (so_far : Written (minute_edges w (f / 60000) k) 0 m i v m' i' v' q) where
  step : minute_edges w (f / 60000) (k + 1) ≡ minute_edges w (f / 60000) k ++ changes_of (f + k * 60000) x (get_or w at 0)
  step =
      let e : (f / 60000 + k) * 60000 ≡ f + k * 60000 = omega arith in
      edges_next w (f / 60000) k x at s ∙ ap (λ (t : ℕ). minute_edges w (f / 60000) k ++ changes_of t x (get_or w at 0)) e

  pub minute_fits : (n : ℕ) → k < n → Fits (minute_edges w (f / 60000) n) 0 m i v → Fits (changes_of (f + k * 60000) x (get_or w at 0)) q m' i' v'
  minute_fits n h fits =
      let mono = minutes_mono w (f / 60000) (k + 1) n (omega arith) in
      fits_more so_far (changes_of (f + k * 60000) x (get_or w at 0)) (rw step at (fits_shorter {xs = minute_edges w (f / 60000) (k + 1)} mono fits))

  pub minute_written : {m'' i'' v'' : List ℕ} {r : ℕ} → Written (changes_of (f + k * 60000) x (get_or w at 0)) q m' i' v' m'' i'' v'' r →
      Written (minute_edges w (f / 60000) (k + 1)) 0 m i v m'' i'' v'' r
  minute_written n = rw step (written_more so_far n)
