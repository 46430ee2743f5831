-- In every state that is reached the running routine's parent is one level above it, so it is another routine. Letters as in scheduler's Reachable.
use mathlib.Core.Path.{◌≡◌, refl, sym, ap, subst, ◌∙◌}
use mathlib.Core.Bool.{false}
use mathlib.Core.List.{List, [], ◌∷◌}
use Prim.Native.Nat.{ℕ, zero, suc, ◌+◌, ◌≤◌, ◌<◌}
use native.Mathlib.Omega.{arith}
use lib.ListN.{length}
use Rattle.listing.specs.Listing.{Listing}
use Rattle.walk.specs.State.{Variable}
use Rattle.engine_rows.specs.Rows.{Owner, Row, Rows}
use Rattle.engine_rows.proofs.Place.{Frame, memory_of}
use Rattle.engine_rows.proofs.Held.{path_of, parent_slot, row_for, HeldUp, held_top, held_under, path_length}
use Rattle.engine_rows.proofs.Standing.{head_of}
use Rattle.engine_rows.proofs.Steady.{TableFits}
use Rattle.engine_rows.proofs.Reachable.{Reached}

frame_level : {σ : Rows} {environment : List Variable} {n : ℕ} {fs : List Frame} (k : ℕ) → HeldUp σ environment n fs → length fs ≡ suc k
    → (σ (parent_slot (path_of environment fs))).level ≡ k
unfolding path_of parent_slot row_for
frame_level k held_top e = absurd (omega arith)
frame_level {environment = environment} k (held_under {fs = fs} e d c u) l =
    let long : length (path_of environment fs) ≡ length fs = path_length environment fs in
    let short : length fs ≡ k = omega arith in
    ap (λ (r : Row). r.level) e ∙ long ∙ short

frame_children : {σ : Rows} {environment : List Variable} {n : ℕ} {fs : List Frame} (k : ℕ) → HeldUp σ environment n fs → length fs ≡ suc k
    → (σ (parent_slot (path_of environment fs))).children ≡ n
unfolding path_of parent_slot row_for
frame_children k held_top e = absurd (omega arith)
frame_children k (held_under e d c u) l = ap (λ (r : Row). r.children) e

module _ (listing : Listing) (now : ℕ) (triggers : Owner → List ℕ) (T : TableFits listing) where
  pub parent_above : (left : ℕ) (σ : Rows) (environment : List Variable) (q : List ℕ) (live woken me : ℕ)
      → Reached listing now triggers T left σ environment q live woken me → (k : ℕ) → (σ me).level ≡ suc k → (σ (σ me).parent).level ≡ k
  unfolding row_for
  parent_above left σ environment q live woken me R k =
      subst (λ z. (σ z).level ≡ suc k → (σ (σ z).parent).level ≡ k) (sym R.here) mine
    where
      fs : List Frame
      fs = R.frames

      row : σ R.frame.self.slot ≡ row_for false (path_of environment fs) (length (memory_of environment fs)) 0 R.frame.self
      row = (head_of R.runs.held).row

      mine : (σ R.frame.self.slot).level ≡ suc k → (σ (σ R.frame.self.slot).parent).level ≡ k
      mine h =
          let long : length (path_of environment fs) ≡ length fs = path_length environment fs in
          let level : (σ R.frame.self.slot).level ≡ length (path_of environment fs) = ap (λ (r : Row). r.level) row in
          ap (λ (r : Row). (σ r.parent).level) row ∙ frame_level k (head_of R.runs.held).up (omega arith)

  pub parent_apart : (left : ℕ) (σ : Rows) (environment : List Variable) (q : List ℕ) (live woken me : ℕ)
      → Reached listing now triggers T left σ environment q live woken me → (k : ℕ) → (σ me).level ≡ suc k → (σ me).parent ≡ me → ⊥
  parent_apart left σ environment q live woken me R k e same =
      let above = parent_above left σ environment q live woken me R k e in
      let here : (σ (σ me).parent).level ≡ (σ me).level = ap (λ (s : ℕ). (σ s).level) same in
      omega arith

  pub parent_children : (left : ℕ) (σ : Rows) (environment : List Variable) (q : List ℕ) (live woken me : ℕ)
      → Reached listing now triggers T left σ environment q live woken me → (k : ℕ) → (σ me).level ≡ suc k → 0 < (σ (σ me).parent).children
  unfolding row_for
  parent_children left σ environment q live woken me R k =
      subst (λ z. (σ z).level ≡ suc k → 0 < (σ (σ z).parent).children) (sym R.here) mine
    where
      fs : List Frame
      fs = R.frames

      row : σ R.frame.self.slot ≡ row_for false (path_of environment fs) (length (memory_of environment fs)) 0 R.frame.self
      row = (head_of R.runs.held).row

      mine : (σ R.frame.self.slot).level ≡ suc k → 0 < (σ (σ R.frame.self.slot).parent).children
      mine h =
          let long : length (path_of environment fs) ≡ length fs = path_length environment fs in
          let level : (σ R.frame.self.slot).level ≡ length (path_of environment fs) = ap (λ (r : Row). r.level) row in
          let up : (σ (σ R.frame.self.slot).parent).children ≡ (σ (parent_slot (path_of environment fs))).children =
          ap (λ (r : Row). (σ r.parent).children) row in
          let count = frame_children k (head_of R.runs.held).up (omega arith) in
          omega arith
