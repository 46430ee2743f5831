-- The ready list of an instant, due writes and inputs made, however its members are put in.
-- Letters as in Place and Held.
use mathlib.Core.Path.{◌≡◌, refl, sym, ap, subst, ◌∙◌}
use mathlib.Core.Bool.{true, false}
use mathlib.Core.List.{List, []}
use Prim.Native.Nat.{ℕ}
use lib.ListN.{length}
use Rattle.listing.specs.Listing.{Listing}
use Rattle.walk.specs.State.{Variable, State}
use Rattle.walk.specs.Instant.{due_writes, Write, apply_inputs}
use Rattle.walk.specs.Question7.{IsState, all_at_rest}
use Rattle.engine_rows.specs.Rows.{Rows}
use Rattle.engine_rows.specs.Ready.{insert_all_lem}
use Rattle.engine_rows.specs.Triggers.{wakes_now, ready_of}
use Rattle.engine_rows.specs.Beginning.{due_in_rows}
use Rattle.engine_rows.proofs.Place.{Tree, Rests}
use Rattle.engine_rows.proofs.Priority.{Range}
use Rattle.engine_rows.proofs.Sorted.{In}
use Rattle.engine_rows.proofs.Held.{Held}
use Rattle.engine_rows.proofs.Kept.{Known}
use Rattle.engine_rows.proofs.Begun.{Settled, state_settled, tree_rests}
use Rattle.engine_rows.proofs.Begin.{Brief, ready_of-is_ready, any_order}
use Rattle.engine_rows.proofs.Instant.{steady_brief}
use Rattle.engine_rows.proofs.Changing.{changed, due_rows, due_length, inputs_length, changed_slots, changed_range, changed_rests, changed_steady, changed_held, changed_asleep}
use Rattle.engine_rows.proofs.Holds.{Holds}

pub ready_any_order : {listing : Listing} {σ : Rows} {environment : List Variable} (s : State) (t : ℕ) (inputs : List Write) (ss : List ℕ) →
    Holds true listing σ environment s → IsState listing s →
    ((q : ℕ) → In q ss → wakes_now listing (due_in_rows t σ) (apply_inputs t inputs (due_writes t environment)) q ≡ true) →
    ((q : ℕ) → wakes_now listing (due_in_rows t σ) (apply_inputs t inputs (due_writes t environment)) q ≡ true → In q ss) →
    insert_all_lem (due_in_rows t σ) ss [] ≡ ready_of listing (due_in_rows t σ) (apply_inputs t inputs (due_writes t environment))
ready_any_order {listing} {σ} {environment} s t inputs ss H I sound full =
    any_order listing σ' environment' 0 4294967296 tree' ss range rests held brief known sound full ∙
    sym (ready_of-is_ready listing σ' environment' 0 4294967296 tree' range rests held brief known)
  where
    σ' : Rows
    σ' = due_in_rows t σ

    environment' : List Variable
    environment' = apply_inputs t inputs (due_writes t environment)

    tree' : Tree
    tree' = changed (due_writes t) H.tree

    len : length environment' ≡ length environment
    len = inputs_length t inputs (due_writes t environment) ∙ due_length t environment

    range : Range 0 4294967296 tree'
    range = changed_range (due_writes t) (due_length t) H.range

    rests : Rests listing false tree'
    rests = changed_rests (due_writes t) (due_length t) listing
        (tree_rests listing (all_at_rest s.now) H.tree H.begun
        (subst (λ f. Settled listing (all_at_rest s.now) 0 f) (sym H.tree_is) (state_settled listing (all_at_rest s.now) I.tree)))

    held : Held σ' true [] (length environment') tree'
    held = subst (λ z. Held z true [] (length environment') tree') (sym (due_rows t σ))
        (rw len (changed_held (due_writes t) (due_length t) H.held))

    brief : Brief listing (length environment') tree'
    brief = rw len (steady_brief listing (changed_steady (due_writes t) (due_length t) listing H.steady))

    known : Known σ' tree'
    known = record {
      all = λ n a. rw (changed_slots (due_writes t) (due_length t) H.tree)
          (H.marked refl n (sym (changed_asleep (due_writes t) (due_length t) σ n) ∙ sym (ap (λ r. (r n).asleep) (due_rows t σ)) ∙ a));
    }
