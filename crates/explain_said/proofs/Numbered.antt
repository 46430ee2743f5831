-- The sentences of a question's number.
use mathlib.Core.Path.{◌≡◌, refl, sym, ap, ◌∙◌}
use mathlib.Core.Bool.{true}
use mathlib.Core.List.{[]}
use Prim.Native.Nat.{ℕ, zero, suc, ◌+◌, ◌≤◌}
use native.Mathlib.Omega.{arith}
use lib.Dec.{leb}
use lib.ListN.{length, get_or-eq_default}
use borrow.Author.Tests.{leb-true}
use Rattle.listing.specs.Bytes.{Bytes}
use Rattle.session_print.specs.Puts.{Puts}
use Rattle.session_print.proofs.LineBytes.{same_bytes}
use Rattle.explain_said.specs.Sentences.{sentences, sentence_of}

pub said : {text before after : Bytes} {at r : ℕ} (number k : ℕ) → number ≡ k → leb (length (sentence_of k)) 300 ≡ true → text ≡ sentence_of k →
    Puts before at text after r → Puts before at (sentence_of number) after r × (r ≤ at + 300)
said number k e few t p =
    let whole = same_bytes (t ∙ ap sentence_of (sym e)) p in
    let same : length (sentence_of number) ≡ length (sentence_of k) = ap (λ (n : ℕ). length (sentence_of n)) e in
    (whole, omega (arith, whole.past, same, leb-true (length (sentence_of k)) 300 few))

none_of : (n : ℕ) → (n ≡ 1 → ⊥) → (n ≡ 2 → ⊥) → (n ≡ 3 → ⊥) → (n ≡ 4 → ⊥) → (n ≡ 5 → ⊥) → [] ≡ sentence_of n
unfolding sentences
none_of zero a b c d e = refl
none_of (suc n) a b c d e = sym (get_or-eq_default sentences [] (let h : 6 ≤ suc n = omega arith in h))

-- none for other numbers
pub none_said : (before : Bytes) (at number : ℕ) → (number ≡ 1 → ⊥) → (number ≡ 2 → ⊥) → (number ≡ 3 → ⊥) → (number ≡ 4 → ⊥) → (number ≡ 5 → ⊥) →
    Puts before at (sentence_of number) before at × (at ≤ at + 300)
none_said before at number a b c d e = (same_bytes (none_of number a b c d e) (record { past = omega arith; stored = refl }), omega arith)
