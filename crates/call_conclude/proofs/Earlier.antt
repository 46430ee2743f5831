-- A call that concludes from the words after its run concludes from those before it, whose number and later words it kept.
-- Letters: w₀ to w₃ the machine's words before, after the beginning, after the run and after the end.
use mathlib.Core.Path.{◌≡◌, ap, ◌∙◌}
use mathlib.Core.List.{List, ◌++◌}
use Prim.Native.Nat.{ℕ}
use lib.ListN.{length, drop}
use Rattle.listing.specs.Listing.{Listing}
use Rattle.walk.specs.State as walk
use Rattle.walk.specs.Instant.{Done}
use Rattle.walk.specs.Calls.{halted_words}
use Rattle.call_conclude.specs.Answers.{Answer}
use Rattle.call_conclude.specs.Conclusions.{Leaves, leaves_stopped, leaves_state, Concludes}

leaves_from : {listing : Listing} {w₀ w₂ w₃ : List ℕ} {o : walk.Result Done} → length w₂ ≡ length w₀ → drop 12288 w₂ ≡ drop 12288 w₀ →
    Leaves listing w₂ w₃ o → Leaves listing w₀ w₃ o
leaves_from {w₀ = w₀} size past (leaves_stopped {k = k} e) = leaves_stopped (e ∙ ap (λ (l : List ℕ). halted_words k ++ l) past)
leaves_from size past (leaves_state e l p) = leaves_state e (l ∙ size) (p ∙ past)

pub concludes_from : (listing : Listing) (w₀ w₂ w₃ numbers values numbers' values' : List ℕ) (o : walk.Result Done) (r : Answer) →
    length w₂ ≡ length w₀ → drop 12288 w₂ ≡ drop 12288 w₀ →
    Concludes listing w₂ numbers values w₃ numbers' values' o r → Concludes listing w₀ numbers values w₃ numbers' values' o r
concludes_from listing w₀ w₂ w₃ numbers values numbers' values' o r size past C =
    record { result = C.result; machine = leaves_from size past C.machine; numbers_are = C.numbers_are; values_are = C.values_are }
