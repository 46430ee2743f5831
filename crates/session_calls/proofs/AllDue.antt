-- Every due instant before t, from a state: the next of them and then every due instant before t, or none. Letters: l the listing, s the state, m the next moment due.
use mathlib.Core.Path.{◌≡◌, refl, ◌∙◌}
use mathlib.Core.Bool.{false}
use mathlib.Core.List.{List, []}
use Prim.Native.Nat.{ℕ, ◌≤◌, ◌<◌}
use lib.Dec.{ltb}
use borrow.Author.Tests.{lt-ltb}
use Rattle.listing.specs.Listing.{Listing}
use Rattle.walk.specs.State.{State}
use Rattle.walk.specs.Instant.{NextDue, never, moment, next_due}
use Rattle.walk.specs.Question7.{IsState}
use Rattle.walk.specs.Calls.{due_before}
use Rattle.walk.specs.Session.{goes_on_lem, Played, and_then, call_from, due_next, due_or, all_due_before}
use Rattle.session_calls.proofs.Lawful.{Lawful}
use Rattle.session_calls.proofs.OneDue.{next_due_first}

none_due : (l : Listing) (t : ℕ) (rest : State → Played) (s : State) (x : NextDue) → due_before x t ≡ false → due_or l x t rest s ≡ record { writes = []; next = goes_on_lem s }
unfolding due_before due_or due_next
none_due l t rest s never e = refl
none_due l t rest s (moment m) e = rw e

one_is_due : (l : Listing) (t m : ℕ) (rest : State → Played) (s : State) (x : NextDue) → x ≡ moment m → m < t → due_or l x t rest s ≡ and_then (call_from l m [] s) rest
unfolding due_or due_next
one_is_due l t m rest s x e h = rw (e, lt-ltb m t h)

module _ (l : Listing) (s : State) (lawful : Lawful l) (h : IsState l s) where
  pub all_due_first : (t m : ℕ) → t ≤ 18446744073709551616 → next_due s ≡ moment m → m < t → all_due_before l t s ≡ and_then (call_from l m [] s) (all_due_before l t)
  all_due_first t m fits e b = next_due_first l lawful.literals t fits s h ∙ one_is_due l t m (all_due_before l t) s (next_due s) e b

  pub all_due_none : (t : ℕ) → t ≤ 18446744073709551616 → due_before (next_due s) t ≡ false → all_due_before l t s ≡ record { writes = []; next = goes_on_lem s }
  all_due_none t fits e = next_due_first l lawful.literals t fits s h ∙ none_due l t (all_due_before l t) s (next_due s) e
