-- Values held, the one on top beside the array: one more put on top, and the two on top joined.
use mathlib.Core.Path.{◌≡◌, refl}
use mathlib.Core.Bool.{Bool, true, false}
use mathlib.Core.List.{List, ◌∷◌}
use mathlib.Core.Option.{Option, none, some}
use Prim.Native.Nat.{ℕ, zero, suc, ◌-◌, ◌≤◌, ◌<◌}
use native.Mathlib.Omega.{arith}
use lib.Dec.{eqb}
use lib.ListN.{length, get_or, set}
use borrow.Author.Tests.{lt-ltb, le-ltb, eqb-true, eqb-false}
use Rattle.listing.specs.Expressions.{bind}
use lib.Seq.{get_or-set_same, get_or-set_other}
use Rattle.engine_values.specs.Values.{below, held, given, divided, sign_of, joined}

-- A store past the values below the top changes none of them.
below_past : (values : List ℕ) (count at v : ℕ) → count < at → below (set values at v) count ≡ below values count
unfolding below
below_past values zero at v h = refl
below_past values (suc count) at v h =
    let ne : suc count ≡ at → ⊥ = λ e. omega arith in
    let lt : count < at = omega arith in
    rw (get_or-set_other values at (suc count) v 0 ne, below_past values count at v lt)

-- The old top is stored, and v comes on top.
pub one_more : (values : List ℕ) (count top v : ℕ) → count < length values → held (set values count top) (suc count) v ≡ v ∷ held values count top
unfolding held below
one_more values zero top v room = refl
one_more values (suc count) top v room =
    let lt : count < suc count = omega arith in
    rw (get_or-set_same values (suc count) top 0, below_past values count (suc count) top lt)

-- The value stored last is joined with the top.
pub two_joined : (values : List ℕ) (count top : ℕ) (f : ℕ → ℕ → Option ℕ) → 2 ≤ count →
    joined f (held values count top) ≡ bind (f (get_or values (count - 1) 0) top) (λ v. some (held values (count - 1) v))
unfolding held below joined
two_joined values zero top f h = absurd (omega arith)
two_joined values (suc zero) top f h = absurd (omega arith)
two_joined values (suc (suc count)) top f h = let e : suc (suc count) - 1 ≡ suc count = omega arith in rw e refl

-- A number below 2 to the 32 is a value, any other none.
pub value_given : (r : ℕ) → r < 4294967296 → given r ≡ some r
unfolding given
value_given r h = rw (lt-ltb r 4294967296 h)

pub none_given : (r : ℕ) → 4294967296 ≤ r → given r ≡ none
unfolding given
none_given r h = rw (le-ltb r 4294967296 h)

-- A division by 0 gives none, by either sign.
pub by_zero : (kind x : ℕ) → 7 ≤ kind → kind ≤ 8 → sign_of kind x 0 ≡ none
unfolding sign_of divided
by_zero kind x low high = go (eqb kind 7) refl
  where
    go : (b : Bool) → eqb kind 7 ≡ b → sign_of kind x 0 ≡ none
    go true e = rw (eqb-true kind 7 e)
    go false e =
        let other : kind ≡ 8 = omega (arith, eqb-false kind 7 e) in
        rw other
