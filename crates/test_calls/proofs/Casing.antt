-- A case: its listing loaded, its items run.
use mathlib.Core.Path.{◌≡◌, refl, ap, subst, ◌∙◌}
use mathlib.Core.Bool.{Bool, true, false, not}
use mir.Val.{bool_byte}
use mathlib.Core.List.{List}
use Prim.Native.Nat.{ℕ, ◌+◌, ◌-◌}
use lib.ListN.{take, drop}
use Rattle.test_cases.specs.Frame.{word_at, onward}
use Rattle.test_lending.specs.Memories.{unused_memory}
use Rattle.test_calls.specs.Cases.{LoadsInto, failures, after_items, ItemsFailing, RanItems, listing_from, listing_to, listing_text, items_at, item_count, case, RanCase}
use Rattle.test_calls.specs.declared.Run.{Run}

-- a listing that does not load counts as a failure
pub counted : (b : Bool) → bool_byte (not b) ≡ failures b
counted true = refl
counted false = refl

-- p is the place of the listing's length; first and count are those of the items
pub case_ran : (s : List ℕ) (at p from to first count : ℕ) (b : Bool) (blank machine kept table table' machine' kept' : List ℕ) (r q : Run) → p ≡ onward s at 4 → from ≡ onward s p 4
    → to ≡ onward s from (word_at s p) → first ≡ onward s to 4 → count ≡ word_at s to → blank ≡ unused_memory → machine ≡ unused_memory → kept ≡ unused_memory
    → LoadsInto (take (to - from) (drop from s)) blank table b → RanItems s first table machine kept table' machine' kept' count r → q.next ≡ r.next → q.failed ≡ failures b + r.failed → RanCase s at q
case_ran s at p from to first count b blank machine kept table table' machine' kept' r q ep ef et ei ec eb em ek l k en eq =
    let f : from ≡ listing_from s at = ef ∙ ap (λ (x : ℕ). onward s x 4) ep in
    let t : to ≡ listing_to s at = et ∙ (ap (λ (x : ℕ). onward s x (word_at s p)) f ∙ ap (λ (x : ℕ). onward s (listing_from s at) (word_at s x)) ep) in
    let i : first ≡ items_at s at = ei ∙ ap (λ (x : ℕ). onward s x 4) t in
    let n : count ≡ item_count s at = ec ∙ ap (word_at s) t in
    let text : take (to - from) (drop from s) ≡ listing_text s at =
    ap (λ (x : ℕ). take (x - from) (drop from s)) t ∙ ap (λ (x : ℕ). take (listing_to s at - x) (drop x s)) f in
    record {
      next = en ∙ (k.next ∙ (ap (λ (x : ℕ). after_items s x count) i ∙ ap (after_items s (items_at s at)) n));
      counts =
          case
          (subst (λ (x : List ℕ). LoadsInto x unused_memory table b) text (subst (λ (m : List ℕ). LoadsInto (take (to - from) (drop from s)) m table b) eb l))
          (subst (λ (x : ℕ). ItemsFailing s table machine' kept' unused_memory unused_memory (items_at s at) x r.failed) n
          (subst (λ (x : ℕ). ItemsFailing s table machine' kept' unused_memory unused_memory x count r.failed) i
          (subst (λ (m : List ℕ). ItemsFailing s table machine' kept' unused_memory m first count r.failed) ek
          (subst (λ (m : List ℕ). ItemsFailing s table machine' kept' m kept first count r.failed) em k.counts))))
          eq;
    }
