-- The order of the questions in whole calls: each of 1, 6, 7 and 8 refuses where those before it pass, and where all pass the rest is put.
use mathlib.Core.Path.{◌≡◌, refl, sym, ap, ◌∙◌}
use mathlib.Core.Bool.{Bool, true, false, true≢false, ◌&&◌}
use mathlib.Core.List.{List, [], ◌∷◌}
use mathlib.Core.Option.{Option, none, some}
use Prim.Native.Nat.{ℕ}
use lib.Dec.{leb}
use lib.ListN.{length}
use Rattle.listing.specs.Listing.{Listing}
use Rattle.walk.specs.State.{State}
use Rattle.walk.specs.Calls.{Machine, halted, running, Layout, Outcome, refused, first_words, memory_words, ask, found, unstopped, inputs_of, start_long_enough, instant_long_enough, start_on, instant_from, start_call, instant_call}
use Rattle.walk.specs.Comparison.{Compared, not_compared, both_states, on_listing, ask_compared, alike_call}

-- ── one question ──────────────────────────────────────────────────────────────────────────────────
pub no_refuses : (k : ℕ) (answer : Bool) (next : Outcome) → answer ≡ false → ask k answer next ≡ refused k
unfolding ask
no_refuses k true next e = absurd (true≢false e)
no_refuses k false next e = refl

pub yes_goes_on : (k : ℕ) (answer : Bool) (next : Outcome) → answer ≡ true → ask k answer next ≡ next
unfolding ask
yes_goes_on k true next e = refl
yes_goes_on k false next e = absurd (true≢false (sym e))

pub none_refuses : {A : Type 0} (k : ℕ) (read : Option A) (next : A → Outcome) → read ≡ none → found k read next ≡ refused k
unfolding found
none_refuses k read next e = ap (λ r. found k r next) e

pub some_goes_on : {A : Type 0} (k : ℕ) (read : Option A) (a : A) (next : A → Outcome) → read ≡ some a → found k read next ≡ next a
unfolding found
some_goes_on k read a next e = ap (λ r. found k r next) e

-- ── "The start puts 1, 6, 12" ─────────────────────────────────────────────────────────────────────
module _ (layout : Layout) (table machine outNumbers outValues : List ℕ) (allowance : ℕ) where
  pub start_puts_1 : start_long_enough table machine outNumbers outValues ≡ false → start_call layout table machine outNumbers outValues allowance ≡ refused 1
  unfolding start_call
  start_puts_1 e = no_refuses 1 _ _ e

  pub start_puts_6 : start_long_enough table machine outNumbers outValues ≡ true → layout.read_table (first_words table) ≡ none →
      start_call layout table machine outNumbers outValues allowance ≡ refused 6
  unfolding start_call
  start_puts_6 e f = yes_goes_on 1 _ _ e ∙ none_refuses 6 _ _ f

  pub start_goes_on : {listing : Listing} → start_long_enough table machine outNumbers outValues ≡ true →
      layout.read_table (first_words table) ≡ some listing → start_call layout table machine outNumbers outValues allowance ≡ start_on listing allowance
  unfolding start_call
  start_goes_on e f = yes_goes_on 1 _ _ e ∙ some_goes_on 6 _ _ _ f

-- ── the instant call puts 1, 6, 7, 8, and then what `instant_from` puts ────────────────────────────
module _ (layout : Layout) (table machine : List ℕ) (t : ℕ) (in_numbers in_values outNumbers outValues : List ℕ) (allowance : ℕ) where
  -- the whole call; question 1's answer
  abbrev pub called : Outcome
  called = instant_call layout table machine t in_numbers in_values outNumbers outValues allowance

  abbrev pub long : Bool
  long = instant_long_enough table machine in_numbers in_values outNumbers outValues

  pub instant_puts_1 : long ≡ false → called ≡ refused 1
  unfolding instant_call
  instant_puts_1 e = no_refuses 1 _ _ e

  pub instant_puts_6 : long ≡ true → layout.read_table (first_words table) ≡ none → called ≡ refused 6
  unfolding instant_call
  instant_puts_6 e f = yes_goes_on 1 _ _ e ∙ none_refuses 6 _ _ f

  pub instant_puts_7 : {listing : Listing} → long ≡ true → layout.read_table (first_words table) ≡ some listing →
      layout.read_machine listing (first_words machine) ≡ none → called ≡ refused 7
  unfolding instant_call
  instant_puts_7 e f g = yes_goes_on 1 _ _ e ∙ some_goes_on 6 _ _ _ f ∙ none_refuses 7 _ _ g

  pub instant_puts_8 : {listing : Listing} {k : ℕ} → long ≡ true → layout.read_table (first_words table) ≡ some listing →
      layout.read_machine listing (first_words machine) ≡ some (halted k) → called ≡ refused 8
  unfolding instant_call unstopped
  instant_puts_8 e f g = yes_goes_on 1 _ _ e ∙ some_goes_on 6 _ _ _ f ∙ some_goes_on 7 _ _ _ g

  pub instant_goes_on : {listing : Listing} {s : State} → long ≡ true → layout.read_table (first_words table) ≡ some listing →
      layout.read_machine listing (first_words machine) ≡ some (running s) → called ≡ instant_from listing s t (inputs_of in_numbers in_values) allowance
  unfolding instant_call unstopped
  instant_goes_on e f g = yes_goes_on 1 _ _ e ∙ some_goes_on 6 _ _ _ f ∙ some_goes_on 7 _ _ _ g

-- ── "the comparison 1, 6, then 7 for both machines, then 8 for both" ──────────────────────────────
pub no_refuses_to_compare : (answer : Bool) (next : Compared) → answer ≡ false → ask_compared answer next ≡ not_compared 1
unfolding ask_compared
no_refuses_to_compare answer next e = ap (λ b. ask_compared b next) e

pub yes_compares : (answer : Bool) (next : Compared) → answer ≡ true → ask_compared answer next ≡ next
unfolding ask_compared
yes_compares answer next e = ap (λ b. ask_compared b next) e

module _ (layout : Layout) (table a b : List ℕ) where
  abbrev pub all_long : Bool
  all_long = leb memory_words (length table) && (leb memory_words (length a) && leb memory_words (length b))

  pub comparison_puts_1 : all_long ≡ false → alike_call layout table a b ≡ not_compared 1
  unfolding alike_call
  comparison_puts_1 e = no_refuses_to_compare _ _ e

  pub comparison_puts_6 : all_long ≡ true → layout.read_table (first_words table) ≡ none → alike_call layout table a b ≡ not_compared 6
  unfolding alike_call on_listing
  comparison_puts_6 e f = yes_compares _ _ e ∙ ap (λ l. on_listing layout l a b) f

  -- of 7 and 8 see `both_states`
  pub comparison_goes_on : {listing : Listing} → all_long ≡ true → layout.read_table (first_words table) ≡ some listing →
      alike_call layout table a b ≡ both_states (layout.read_machine listing (first_words a)) (layout.read_machine listing (first_words b))
  unfolding alike_call on_listing
  comparison_goes_on e f = yes_compares _ _ e ∙ ap (λ l. on_listing layout l a b) f
