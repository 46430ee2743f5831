-- Due writes, inputs and the end of the marks over lists of variables: lengths, parts, and what stays due.
-- Letters: t a moment, m variables, own further ones, ws inputs, k the number of inputs that the listing has.
use mathlib.Core.Path.{◌≡◌, refl, sym, ap, ap₂, ◌∙◌}
use mathlib.Core.Bool.{true}
use mathlib.Core.List.{List, [], ◌∷◌, ◌++◌}
use Prim.Native.Nat.{ℕ, zero, suc, ◌≤◌, ◌<◌}
use native.Mathlib.Omega.{arith}
use borrow.Author.Tests.{ltb-true}
use lib.Dec.{ltb, leb}
use lib.ListN.{length, take, length-set}
use lib.Seq.{set-append_left}
use Rattle.walk.specs.State.{Variable, input_to}
use Rattle.walk.specs.Memory.{input_at}
use Rattle.walk.specs.Instant.{due_writes, Write, apply_inputs, unmarked, due_of, due_of_variables}
use Rattle.walk.specs.Calls.{inputs_rise}
use Rattle.walk_laws.proofs.Booleans.{and_left, and_right}
use Rattle.walk_halves.proofs.Due.{NotBefore, nothing_due, set_not_before}

-- ── due writes ────────────────────────────────────────────────────────────────────────────────────
pub due_writes-append : (t : ℕ) (m own : List Variable) → due_writes t (m ++ own) ≡ due_writes t m ++ due_writes t own
unfolding due_writes
due_writes-append t [] own = refl
due_writes-append t (x ∷ m) own = ap₂ ◌∷◌ refl (due_writes-append t m own)

-- ── marks ─────────────────────────────────────────────────────────────────────────────────────────
pub unmarked_append : (m own : List Variable) → unmarked (m ++ own) ≡ unmarked m ++ unmarked own
unfolding unmarked
unmarked_append [] own = refl
unmarked_append (x ∷ m) own = ap₂ ◌∷◌ refl (unmarked_append m own)

pub unmarked_take : (k : ℕ) (m : List Variable) → take k (unmarked m) ≡ unmarked (take k m)
unfolding unmarked
unmarked_take zero m = refl
unmarked_take (suc k) [] = refl
unmarked_take (suc k) (x ∷ m) = ap₂ ◌∷◌ refl (unmarked_take k m)

-- ── inputs ────────────────────────────────────────────────────────────────────────────────────────
pub length_inputs : (t : ℕ) (ws : List Write) (m : List Variable) → length (apply_inputs t ws m) ≡ length m
unfolding apply_inputs input_at
length_inputs t [] m = refl
length_inputs t (w ∷ ws) m = length_inputs t ws (input_at t m w.number w.value) ∙ length-set m w.number _

pub inputs_not_before : (now t : ℕ) (ws : List Write) (m : List Variable) → NotBefore t (due_of_variables m) → NotBefore t (due_of_variables (apply_inputs now ws m))
unfolding apply_inputs input_at input_to due_of
inputs_not_before now t [] m h = h
inputs_not_before now t (w ∷ ws) m h = inputs_not_before now t ws (input_at now m w.number w.value)
    (set_not_before t m w.number _ h nothing_due)

input_append : (t : ℕ) (m own : List Variable) (a v : ℕ) → a < length m → input_at t m a v ++ own ≡ input_at t (m ++ own) a v
unfolding input_at input_to
input_append t m own a v h = sym (set-append_left m own a _ h)

pub inputs_append : (t k least : ℕ) (ws : List Write) (m own : List Variable) → inputs_rise k least ws ≡ true → k ≤ length m →
    apply_inputs t ws m ++ own ≡ apply_inputs t ws (m ++ own)
unfolding apply_inputs inputs_rise
inputs_append t k least [] m own e l = refl
inputs_append t k least (w ∷ ws) m own e l =
    let rest = and_right (leb least w.number) _ e in
    let below : w.number < k = ltb-true w.number k (and_left (ltb w.number k) _ rest) in
    let same = input_append t m own w.number w.value (omega arith) in
    inputs_append t k (suc w.number) ws (input_at t m w.number w.value) own (and_right (ltb w.number k) _ rest)
    (unfold input_at in simp length-set l) ∙ ap (apply_inputs t ws) same
