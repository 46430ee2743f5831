-- Each number of the comparison has one cause: its outcome is c exactly if c's cause holds (specs Causes).
-- Letters: a and b the two machines' words, l the table's listing, c the comparison's outcome, x and y what a and b are read as.
use mathlib.Core.Path.{◌≡◌, refl, subst}
use mathlib.Core.Bool.{Bool, true, false, ◌&&◌}
use mathlib.Core.List.{List}
use mathlib.Core.Option.{Option, none, some}
use mathlib.Core.Logic.{◌↔◌}
use Prim.Native.Nat.{ℕ}
use lib.Dec.{leb}
use lib.ListN.{length}
use Rattle.listing.specs.Listing.{Listing}
use Rattle.walk.specs.Calls.{Layout, Machine, halted, running, memory_words, first_words}
use Rattle.walk.specs.Comparison.{Compared, both_running, both_states, on_listing, ask_compared, alike_call}
use Rattle.walk_laws.specs.Causes.{ComparedCause}
use Rattle.walk_laws.specs.Causes as Causes

module _ (layout : Layout) (table a b : List ℕ) where
  abbrev long : Bool
  long = leb memory_words (length table) && (leb memory_words (length a) && leb memory_words (length b))

  has_a_cause : ComparedCause layout table a b (alike_call layout table a b)
  unfolding alike_call ask_compared on_listing both_states both_running
  has_a_cause = at_1 long refl
    where
      at_8 : (l : Listing) (x y : Machine) → long ≡ true → layout.read_table (first_words table) ≡ some l → layout.read_machine l (first_words a) ≡ some x →
          layout.read_machine l (first_words b) ≡ some y → ComparedCause layout table a b (both_running x y)
      at_8 l (halted k) y e f g h = Causes.first_stopped e f g h
      at_8 l (running s) (halted k) e f g h = Causes.second_stopped e f g h
      at_8 l (running s) (running u) e f g h = Causes.both_run e f g h

      at_7 : (l : Listing) (x y : Option Machine) → long ≡ true → layout.read_table (first_words table) ≡ some l → layout.read_machine l (first_words a) ≡ x →
          layout.read_machine l (first_words b) ≡ y → ComparedCause layout table a b (both_states x y)
      at_7 l none y e f g h = Causes.no_first_state e f g
      at_7 l (some x) none e f g h = Causes.no_second_state e f g h
      at_7 l (some x) (some y) e f g h = at_8 l x y e f g h

      at_6 : (r : Option Listing) → long ≡ true → layout.read_table (first_words table) ≡ r → ComparedCause layout table a b (on_listing layout r a b)
      at_6 none e f = Causes.no_table e f
      at_6 (some l) e f = at_7 l (layout.read_machine l (first_words a)) (layout.read_machine l (first_words b)) e f refl refl

      at_1 : (t : Bool) → long ≡ t → ComparedCause layout table a b (ask_compared t (on_listing layout (layout.read_table (first_words table)) a b))
      at_1 false e = Causes.too_short e
      at_1 true e = at_6 (layout.read_table (first_words table)) e refl

  cause_decides : {c : Compared} → ComparedCause layout table a b c → alike_call layout table a b ≡ c
  unfolding alike_call ask_compared on_listing both_states both_running
  cause_decides (Causes.too_short e) = rw e
  cause_decides (Causes.no_table e f) = rw (e, f)
  cause_decides (Causes.no_first_state e f g) = rw (e, f, g)
  cause_decides (Causes.no_second_state e f g h) = rw (e, f, g, h)
  cause_decides (Causes.first_stopped e f g h) = rw (e, f, g, h)
  cause_decides (Causes.second_stopped e f g h) = rw (e, f, g, h)
  cause_decides (Causes.both_run e f g h) = rw (e, f, g, h)

  pub comparison_exactly_if : (c : Compared) → (alike_call layout table a b ≡ c) ↔ ComparedCause layout table a b c
  comparison_exactly_if c = (λ e. subst (ComparedCause layout table a b) e has_a_cause, cause_decides)
