-- What holds of an answer, if there is one: a stop promises nothing. Letters: P and Q say what holds, of an answer a of the result x.
use mathlib.Core.Path.{◌≡◌}
use Prim.Native.Nat.{ℕ}
use native.Mathlib.Omega.{arith}
use Rattle.walk.specs.State.{Result, stop, ok, ◌>>=◌}

pub data IfOk {A : Type 0} (P : A → Type 0) : Result A → Type 0 where
  stopped : {k : ℕ} → IfOk P (stop k)
  answered : {a : A} → P a → IfOk P (ok a)

pub stop_is_not_ok : {A B : Type 0} {k : ℕ} {a : A} → stop k ≡ ok a → B
stop_is_not_ok e = absurd (let z : ◌≡◌ {A = ℕ} 0 1 = cc in let impossible : ⊥ = omega arith in impossible)

module _ {A : Type 0} {P : A → Type 0} where
  pub holds_of_answer : {x : Result A} (a : A) → IfOk P x → x ≡ ok a → P a
  holds_of_answer a h e = only (rw e at h)
    where
      only : IfOk P (ok a) → P a
      only (answered p) = p

  -- Going on with the answer.
  pub then_if_ok : {B : Type 0} {Q : B → Type 0} {x : Result A} (f : A → Result B) → IfOk P x → ((a : A) → P a → IfOk Q (f a)) → IfOk Q (x >>= f)
  unfolding ◌>>=◌
  then_if_ok f stopped g = stopped
  then_if_ok f (answered {a = a} p) g = g a p

  -- What follows holds too.
  pub weaken_if_ok : {Q : A → Type 0} {x : Result A} → IfOk P x → ((a : A) → P a → Q a) → IfOk Q x
  weaken_if_ok stopped g = stopped
  weaken_if_ok (answered {a = a} p) g = answered (g a p)
