-- What a case that passes shows of the defined outcome.
use mathlib.Core.Bool.{Bool, true, false}
use mathlib.Core.Path.{◌≡◌, sym, ap, subst, ◌∙◌}
use mathlib.Core.List.{List}
use Prim.Native.Nat.{ℕ}
use lib.Dec.{leb}
use lib.ListN.{length, replicate, length-replicate}
use Rattle.test_cases.specs.Words.{Tells}
use Rattle.test_cases.proofs.Telling.{tells_same, tells_else}
use Rattle.walk.specs.Promises.{TableAfter}
use Rattle.layout.specs.Layout.{layout}
use Rattle.listing.specs.Load.{Loading, loading, is_long_enough}
use Rattle.test_load.specs.Cases.{FiguresOf, pattern, TablesRight, Agrees, Ran}
use Rattle.test_load.specs.declared.figures.Figures.{Figures}

-- two pairs of figures compared part by part
figures : ℕ → ℕ → Figures
figures n p = record { number = n; place = p }

same_parts : (a b : Figures) → a.number ≡ b.number → a.place ≡ b.place → a ≡ b
unfolding figures
same_parts a b n p =
    let f : Figures = record { number = b.number; place = a.place } in
    let first : a ≡ f = ap (λ (x : ℕ). figures x a.place) n in
    let second : f ≡ b = ap (figures b.number) p in
    first ∙ second

-- one outcome has one pair of figures
one_figures : {o : Loading} (a b : Figures) → FiguresOf o a → FiguresOf o b → a ≡ b
one_figures a b x y = same_parts a b (x.number_is_lem ∙ sym y.number_is_lem) (x.place_is_lem ∙ sym y.place_is_lem)

-- a table that was filled is as long as before
as_long : (before filled : List ℕ) (w : ℕ) → filled ≡ replicate (length before) w → is_long_enough filled ≡ is_long_enough before
as_long before filled w e = ap (λ (n : ℕ). leb 12288 n) (ap length e ∙ length-replicate (length before) w)

figures_filled : (text before filled : List ℕ) (w : ℕ) (f : Figures) → filled ≡ replicate (length before) w
    → FiguresOf (loading (is_long_enough filled) text) f → FiguresOf (loading (is_long_enough before) text) f
figures_filled text before filled w f e k = subst (λ (b : Bool). FiguresOf (loading b text) f) (as_long before filled w e) k

table_filled : (text before filled after : List ℕ) (w : ℕ) → filled ≡ replicate (length before) w
    → TableAfter layout filled after (loading (is_long_enough filled) text) → TableAfter layout (replicate (length before) w) after (loading (is_long_enough before) text)
table_filled text before filled after w e k =
    subst (λ (m : List ℕ). TableAfter layout m after (loading (is_long_enough before) text)) e
    (subst (λ (b : Bool). TableAfter layout filled after (loading b text)) (as_long before filled w e) k)

-- ── a listing loaded into two tables, each filled before ──────────────────────────────────────────
abbrev pub LoadedInto : List ℕ → List ℕ → List ℕ → Figures → Type 0
LoadedInto text before after f = FiguresOf (loading (is_long_enough before) text) f × TableAfter layout before after (loading (is_long_enough before) text)

module _ {text table other table₁ other₁ table₂ other₂ : List ℕ} {expected found again : Figures}
    (fill : table₁ ≡ replicate (length table) pattern) (fill' : other₁ ≡ replicate (length other) 0)
    (l : LoadedInto text table₁ table₂ found) (l' : LoadedInto text other₁ other₂ again) where
  ran : {r : Bool} → Tells r (Agrees text table other table₂ other₂ expected) → Ran text table other table₂ other₂ expected r
  ran t = record {
    table_is_lem = table_filled text table table₁ table₂ pattern fill l.1;
    other_is = table_filled text other other₁ other₂ 0 fill' l'.1;
    tells = t;
  }

  pub first_differs : {y : Bool} → Tells y (expected ≡ found) → y ≡ false → Ran text table other table₂ other₂ expected false
  first_differs t e = ran (tells_else t e (λ a. one_figures expected found a.first (figures_filled text table table₁ pattern found fill l.0)))

  pub second_differs : {y : Bool} → Tells y (expected ≡ again) → y ≡ false → Ran text table other table₂ other₂ expected false
  second_differs t e = ran (tells_else t e (λ a. one_figures expected again a.second (figures_filled text other other₁ 0 again fill' l'.0)))

  pub by_tables : {y z r : Bool} → Tells y (expected ≡ found) → y ≡ true → Tells z (expected ≡ again) → z ≡ true
      → Tells r (TablesRight found.number table₂ other₂) → Ran text table other table₂ other₂ expected r
  by_tables t y u z v =
      let e : expected ≡ found = t.means y in
      let n : expected.number ≡ found.number = ap (λ (x : Figures). x.number) e in
      ran (tells_same
      (λ right. record {
        first = subst (λ (x : Figures). FiguresOf (loading (is_long_enough table) text) x) (sym e) (figures_filled text table table₁ pattern found fill l.0);
        second = subst (λ (x : Figures). FiguresOf (loading (is_long_enough other) text) x) (sym (u.means z)) (figures_filled text other other₁ 0 again fill' l'.0);
        tables = subst (λ (k : ℕ). TablesRight k table₂ other₂) (sym n) right;
      })
      (λ a. subst (λ (k : ℕ). TablesRight k table₂ other₂) n a.tables)
      v)
