-- What the tests of a case tell.
use mathlib.Core.Bool.{Bool, true, false}
use mathlib.Core.Path.{◌≡◌, refl, sym, ap, subst, ◌∙◌}
use mathlib.Core.List.{List, [], ◌∷◌}
use Prim.Native.Nat.{ℕ, zero, suc, ◌≤◌}
use native.Mathlib.Omega.{arith}
use lib.Dec.{eqb}
use lib.ListN.{length, take, length-take, length-replicate}
use borrow.Author.Tests.{eqb-true, eq-eqb}
use Rattle.windows.specs.Call.{WindowsFigures}
use Rattle.windows.specs.declared.answer.Listed.{Listed}
use Rattle.test_cases.specs.Words.{Tells}
use Rattle.test_cases.proofs.Telling.{tells_same, tells_else}
use Rattle.test_stored_windows.specs.Lists.{junk_moments, junk_words, moments_put, WordsPut}
use Rattle.test_stored_windows.specs.Cases.{schedule_in}
use Rattle.test_stored_windows.specs.declared.cases.Case.{Case}
use Rattle.test_windows.specs.Cases.{stored_figures, ListsRight, LineRight, CaseAgrees}

-- ── figures compared part by part ─────────────────────────────────────────────────
figures : ℕ → ℕ → ℕ → Listed
figures n p l = record { number = n; place = p; listed = l }

same_parts : (a b : Listed) → a.number ≡ b.number → a.place ≡ b.place → a.listed ≡ b.listed → a ≡ b
unfolding figures
same_parts a b n p l =
    let first : a ≡ figures b.number a.place a.listed = ap (λ (x : ℕ). figures x a.place a.listed) n in
    let second : figures b.number a.place a.listed ≡ figures b.number b.place a.listed = ap (λ (x : ℕ). figures b.number x a.listed) p in
    let last : figures b.number b.place a.listed ≡ b = ap (figures b.number b.place) l in
    first ∙ (second ∙ last)

-- ── the lists lent: the first places of lists of junk ─────────────────────────────
first_of : (n : ℕ) (l : List ℕ) → take (length (take n l)) l ≡ take n l
first_of zero l = refl
first_of (suc n) [] = refl
first_of (suc n) (x ∷ l) = ap (λ (m : List ℕ). x ∷ m) (first_of n l)

-- a list that was lent so is as long as what it was taken of
lent_again : (before after junk : List ℕ) (n : ℕ) → before ≡ take n junk → length after ≡ length before → take (length after) junk ≡ before
lent_again before after junk n e k = ap (λ (j : ℕ). take j junk) (k ∙ ap length e) ∙ first_of n junk ∙ sym e

pub few_moments : (l after : List ℕ) (n : ℕ) → l ≡ take n junk_moments → length after ≡ length l → length after ≤ 100
unfolding junk_moments
few_moments l after n e k = omega (arith, k, ap length e, length-take n junk_moments, length-replicate {A = ℕ} 100 11936128518282651045)

pub few_words : (l after : List ℕ) (n : ℕ) → l ≡ take n junk_words → length after ≡ length l → length after ≤ 100
unfolding junk_words
few_words l after n e k = omega (arith, k, ap length e, length-take n junk_words, length-replicate {A = ℕ} 100 2779096485)

-- ── a call on lists of junk ───────────────────────────────────────────────────────
module _ (s : List ℕ) (c : Case) (ms is vs ms' is' vs' : List ℕ) (found : Listed)
    (g : WindowsFigures (schedule_in s c) c.first c.end ms is vs ms' is' vs' found) where
  pub figures_differ : {y : Bool} → Tells y (stored_figures c ≡ found) → y ≡ false → Tells false (ListsRight s c ms is vs)
  figures_differ t e =
      tells_else t e
      (λ a. same_parts (stored_figures c) found (a.number_is_lem ∙ sym g.number_is_lem) (a.place_is_lem ∙ sym g.place_is_lem) (a.listed_is ∙ sym g.listed_is))

  module _ (msAre : ms ≡ take c.moments junk_moments) (msLong : length ms' ≡ length ms) where
    abbrev pub MomentsTold : Bool → Type 0
    MomentsTold y = Tells y (ms' ≡ moments_put s c.edges c.listed (take (length ms') junk_moments))

    told : {y : Bool} → MomentsTold y → Tells y (ms' ≡ moments_put s c.edges c.listed ms)
    told {y} t = subst (λ (l : List ℕ). Tells y (ms' ≡ moments_put s c.edges c.listed l)) (lent_again ms ms' junk_moments c.moments msAre msLong) t

    pub moments_differ : {y : Bool} → MomentsTold y → y ≡ false → Tells false (ListsRight s c ms is vs)
    moments_differ t e = tells_else (told t) e (λ a. g.moments_are ∙ sym a.moments_are)

    pub by_words : {y z r : Bool} → Tells z (stored_figures c ≡ found) → z ≡ true → MomentsTold y → y ≡ true
        → is ≡ take c.inputs junk_words → length is' ≡ length is → vs ≡ take c.values junk_words → length vs' ≡ length vs
        → Tells r (WordsPut s c.pairs c.listed (take (length is') junk_words) (take (length vs') junk_words) is' vs') → Tells r (ListsRight s c ms is vs)
    by_words {y} {z} {r} t e u f isAre isLong vsAre vsLong w =
        let same : stored_figures c ≡ found = t.means e in
        let i = lent_again is is' junk_words c.inputs isAre isLong in
        let v = lent_again vs vs' junk_words c.values vsAre vsLong in
        let words : Tells r (WordsPut s c.pairs c.listed is vs is' vs') =
        subst (λ (l : List ℕ). Tells r (WordsPut s c.pairs c.listed is l is' vs')) v
        (subst (λ (l : List ℕ). Tells r (WordsPut s c.pairs c.listed l (take (length vs') junk_words) is' vs')) i w) in
        tells_same
        (λ p. record {
          number_is_lem = ap (λ (x : Listed). x.number) same ∙ g.number_is_lem;
          place_is_lem = ap (λ (x : Listed). x.place) same ∙ g.place_is_lem;
          listed_is = ap (λ (x : Listed). x.listed) same ∙ g.listed_is;
          moments_are = sym ((told u).means f) ∙ g.moments_are;
          inputs_are_lem = sym p.numbers_are ∙ g.inputs_are_lem;
          values_are = sym p.values_are ∙ g.values_are;
        })
        (λ a. record { numbers_are = g.inputs_are_lem ∙ sym a.inputs_are_lem; values_are = g.values_are ∙ sym a.values_are })
        words

-- ── the line, and both ────────────────────────────────────────────────────────────
pub by_line : (found place line : ℕ) → found ≡ place → Tells (eqb found line) (place ≡ line)
by_line found place line e =
    record { means = λ y. sym e ∙ eqb-true found line y; whenever = λ f. eq-eqb found line (e ∙ f) }

module _ (s : List ℕ) (c : Case) {ms is vs : List ℕ} (m : ms ≡ junk_moments) (i : is ≡ junk_words) (v : vs ≡ junk_words) where
  abbrev pub ListsTold : Bool → Type 0
  ListsTold y = Tells y (ListsRight s c (take c.moments ms) (take c.inputs is) (take c.values vs))

  lent : {y : Bool} → ListsTold y → Tells y (ListsRight s c (take c.moments junk_moments) (take c.inputs junk_words) (take c.values junk_words))
  lent t = rw (m, i, v) at t

  pub lists_differ : {y : Bool} → ListsTold y → y ≡ false → Tells false (CaseAgrees s c)
  lists_differ t e = tells_else (lent t) e (λ a. a.lists)

  pub lists_agree : {y r : Bool} → ListsTold y → y ≡ true → Tells r (LineRight s c) → Tells r (CaseAgrees s c)
  lists_agree t e u = tells_same (λ l. record { lists = (lent t).means e; line = l }) (λ a. a.line) u
