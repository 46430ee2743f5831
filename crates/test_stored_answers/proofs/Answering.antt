-- What the tests of an answer tell.
use mathlib.Core.Bool.{Bool, true, false}
use mathlib.Core.Path.{◌≡◌, sym, ap, subst, ◌∙◌}
use mathlib.Core.List.{List}
use Prim.Native.Nat.{ℕ}
use Rattle.test_cases.specs.Frame.{onward}
use Rattle.test_cases.specs.Words.{Tells}
use Rattle.test_cases.proofs.Telling.{tells_no, tells_same, tells_else}
use Rattle.test_stored_answers.specs.Pairs.{fitting, PairsPut}
use Rattle.test_stored_answers.specs.declared.Report.{Report}
use Rattle.test_stored_answers.specs.Answers.{AnswerAt, unlisted, AnswerRight}

-- ── two reports compared part by part ─────────────────────────────────────────────────────────────
-- a report of these figures
report : ℕ → ℕ → ℕ → ℕ → Report
report n s l d = record { number = n; steps = s; listed = l; due = d }

pub same_parts : (a b : Report) → a.number ≡ b.number → a.steps ≡ b.steps → a.listed ≡ b.listed → a.due ≡ b.due → a ≡ b
unfolding report
same_parts a b n s l d =
    let first : a ≡ report b.number a.steps a.listed a.due = ap (λ (x : ℕ). report x a.steps a.listed a.due) n in
    let second : report b.number a.steps a.listed a.due ≡ report b.number b.steps a.listed a.due =
    ap (λ (x : ℕ). report b.number x a.listed a.due) s in
    let third : report b.number b.steps a.listed a.due ≡ report b.number b.steps b.listed a.due =
    ap (λ (x : ℕ). report b.number b.steps x a.due) l in
    let last : report b.number b.steps b.listed a.due ≡ b = ap (report b.number b.steps b.listed) d in
    first ∙ (second ∙ (third ∙ last))

-- ── an answer ─────────────────────────────────────────────────────────────────────────────────────
-- one answer stands at a place
one_answer : {s : List ℕ} {at : ℕ} (a b : Report) → AnswerAt s at a → AnswerAt s at b → a ≡ b
one_answer a b x y =
    same_parts a b (x.number_is_lem ∙ sym y.number_is_lem) (x.steps_are ∙ sym y.steps_are) (x.listed_is ∙ sym y.listed_is) (x.due_is ∙ sym y.due_is)

pub other_answer : {s : List ℕ} {at : ℕ} {numbers values : List ℕ} (expected found : Report) → AnswerAt s at expected → (expected ≡ found → ⊥)
    → Tells false (AnswerRight s at found numbers values)
other_answer expected found x differs = tells_no (λ a. differs (one_answer expected found x a.answer))

pub by_outputs : {s : List ℕ} {at place : ℕ} {numbers values : List ℕ} {r : Bool} (expected found : Report) → AnswerAt s at expected → expected ≡ found
    → place ≡ onward s at 24 → Tells r (PairsPut s place (fitting found.listed unlisted unlisted) unlisted unlisted numbers values)
    → Tells r (AnswerRight s at found numbers values)
by_outputs {s} {at} {place} {numbers} {values} expected found x same p u =
    tells_same
    (λ o. record {
      answer = subst (λ (a : Report). AnswerAt s at a) same x;
      outputs = subst (λ (n : ℕ). PairsPut s n (fitting found.listed unlisted unlisted) unlisted unlisted numbers values) p o;
    })
    (λ a. subst (λ (n : ℕ). PairsPut s n (fitting found.listed unlisted unlisted) unlisted unlisted numbers values) (sym p) a.outputs)
    u

-- two lists held against the pairs put
pub other_numbers_lem : {s : List ℕ} {at n : ℕ} {a b numbers values stored stored_values : List ℕ} {y : Bool} → PairsPut s at n a b stored stored_values
    → Tells y (numbers ≡ stored) → y ≡ false → Tells false (PairsPut s at n a b numbers values)
other_numbers_lem p t e = tells_else t e (λ q. q.numbers_are ∙ sym p.numbers_are)

pub by_values : {s : List ℕ} {at n : ℕ} {a b numbers values stored stored_values : List ℕ} {y r : Bool} → PairsPut s at n a b stored stored_values
    → Tells y (numbers ≡ stored) → y ≡ true → Tells r (values ≡ stored_values) → Tells r (PairsPut s at n a b numbers values)
by_values p t e u =
    tells_same (λ v. record { numbers_are = t.means e ∙ p.numbers_are; values_are = v ∙ p.values_are }) (λ q. q.values_are ∙ sym p.values_are) u
