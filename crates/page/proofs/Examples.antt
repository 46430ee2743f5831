-- Pages and outcomes by computation.
use mathlib.Core.Path.{◌≡◌, refl}
use mathlib.Core.Bool.{true, false}
use mathlib.Core.List.{List, [], ◌∷◌, map}
use mathlib.Core.Option.{none}
use Prim.Native.Nat.{ℕ}
use lib.ListN.{length, replicate}
use Rattle.openings.specs.Writes as Writes
use Rattle.openings.specs.Openings.{Opening}
use Rattle.openings.specs.Questions as Questions
use Rattle.page.specs.Pages.{page_count, is_page, openings_on}
use Rattle.page.specs.Call.{ask, printed_page, page_call, outcome_number}

-- 59 openings fill a page
the_counts_agree : map page_count (0 ∷ 1 ∷ 59 ∷ 60 ∷ 118 ∷ 119 ∷ []) ≡ 1 ∷ 1 ∷ 1 ∷ 2 ∷ 2 ∷ 3 ∷ []
unfolding page_count
the_counts_agree = refl

-- pages are counted from 1
the_pages_agree : map (λ page. is_page page 60) (0 ∷ 1 ∷ 2 ∷ 3 ∷ 18446744073709551615 ∷ []) ≡ false ∷ true ∷ true ∷ false ∷ false ∷ []
unfolding page_count
the_pages_agree = refl

sixty : List Opening
sixty = replicate 60 (record { output = 0; opened = 0; closed = none })

the_openings_agree : map (λ page. length (openings_on page sixty)) (1 ∷ 2 ∷ 3 ∷ []) ≡ 59 ∷ 1 ∷ 0 ∷ []
unfolding sixty
the_openings_agree = refl

-- ── the questions in their order: moments, outputs and values of equal length, then not ───────────
number_of : List ℕ → List ℕ → List ℕ → ℕ → ℕ
number_of moments outputs values size = outcome_number (page_call moments outputs values 1 (replicate size 170))

the-numbers-agree :
    number_of [] [] [] 2700
    ∷ number_of [] [] [] 2699
    ∷ number_of (5 ∷ []) [] [] 2700
    ∷ number_of (5 ∷ []) (1 ∷ []) [] 2700
    ∷ number_of (5 ∷ 5 ∷ 3 ∷ []) (1 ∷ 1 ∷ 1 ∷ []) (1 ∷ 1 ∷ 1 ∷ []) 2700
    ∷ number_of (5 ∷ 5 ∷ 6 ∷ []) (1 ∷ 1 ∷ 1 ∷ []) (1 ∷ 1 ∷ 1 ∷ []) 2700
    ∷ number_of (5 ∷ []) (16 ∷ []) (0 ∷ []) 2700
    ∷ number_of (5 ∷ 5 ∷ []) (1 ∷ 0 ∷ []) (1 ∷ 1 ∷ []) 2700
    ∷ [] ≡ 0 ∷ 1 ∷ 1 ∷ 1 ∷ 9 ∷ 11 ∷ 11 ∷ 0 ∷ []
unfolding number_of outcome_number page_call ask printed_page Writes.writes_of Questions.rise_from Questions.listed_among Questions.once_after
the-numbers-agree = refl
