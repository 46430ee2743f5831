-- Exactly the records of the states that meet question 7's condition pass.
use mathlib.Core.Path.{◌≡◌, refl, sym, ap, ap₂, ◌∙◌}
use mathlib.Core.Bool.{Bool, true, false}
use mathlib.Core.List.{List, [], ◌∷◌, append-nil}
use Prim.Native.Nat.{ℕ, suc, ◌+◌, ◌<◌, ◌≤◌}
use lib.ListN.{length, length-append}
use native.Mathlib.Nat.{le_refl}
use Rattle.listing.specs.Listing.{Listing, Call}
use Rattle.walk.specs.State.{Variable, Node, Forest, live_in_node, live_in_forest, State}
use Rattle.walk.specs.Instant.{environment_size, environment_names, main_call}
use Rattle.walk.specs.Question7.{Asleep, waits, joins, LiveChildren, no_more, ended, lives, all_at_rest, IsState}
use Rattle.machine.specs.Records.{Record, records_of_node, records_of, scan, forest_from, main_frame, records_pass, state_from}
use Rattle.machine.proofs.Basics.{clash}
use Rattle.machine.proofs.StatesPass.{above_end, children_pass}
use Rattle.machine.proofs.PassingIsState.{passing_records_are_children}
use Rattle.machine.proofs.ForestBack.{records_give_forest}

module _ {listing : Listing} {ok : List Variable → Bool} where
  mutual
    unfolding records_of live_in_forest

    record_count_node : {level base : ℕ} {callerNames : List ℕ} {c : Call} {n : Node} (a : Asleep listing ok level base callerNames c n) (i : ℕ) → length (records_of_node a i) ≡ live_in_node n
    record_count_node (waits m e) i = refl
    record_count_node (joins m e d l k) i = ap suc (record_count k 0)

    pub record_count : {level base : ℕ} {callerNames : List ℕ} {cs : List Call} {f : Forest} (k : LiveChildren listing ok level base callerNames cs f) (i : ℕ) → length (records_of k i) ≡ live_in_forest f
    record_count no_more i = refl
    record_count (ended k) i = record_count k (suc i)
    record_count (lives a k) i = length-append (records_of_node a i) (records_of k (suc i)) ∙ ap₂ (λ x y. x + y) (record_count_node a i) (record_count k (suc i))

-- every state has records that pass, and they stand for it
pub state_records_pass : (listing : Listing) (s : State) (h : IsState listing s) → records_pass listing s.now (records_of h.tree 0) ≡ true
unfolding records_pass main_frame scan
state_records_pass listing s h =
    ap (λ l. scan listing s.now l false (main_frame listing ∷ [])) (sym (append-nil (records_of h.tree 0)))
    ∙ children_pass listing s.now h.tree 0 [] false (main_frame listing) [] refl (le_refl 0) refl above_end (λ z. clash z)

pub state_from_records : (listing : Listing) (s : State) (h : IsState listing s) → state_from listing s.now s.environment (records_of h.tree 0) ≡ s
unfolding state_from
state_from_records listing s h = ap (λ f. record { now = s.now; environment = s.environment; tree = f }) (records_give_forest listing s.now h.tree)

-- what records that pass stand for is a state, and they are its records
pub record PassingState (listing : Listing) (now : ℕ) (environment : List Variable) (xs : List Record) (tree : Forest) : Type 0 where
  pub state : IsState listing (record { now = now; environment = environment; tree = tree })
  pub records : records_of state.tree 0 ≡ xs

pub passing_records_are_a_state : (listing : Listing) (now : ℕ) (environment : List Variable) (xs : List Record) → records_pass listing now xs ≡ true → length xs ≤ 64 →
    now < 18446744073709551616 → length environment ≡ environment_size listing → all_at_rest now environment ≡ true →
    PassingState listing now environment xs (forest_from listing xs 0 (length environment) (environment_names listing) (main_call listing ∷ []))
unfolding records_pass main_frame
passing_records_are_a_state listing now environment xs p n t l q =
    go ((passing_records_are_children listing now xs (main_frame listing) p).made (length environment) (environment_names listing))
  where
    go : (f : Forest) × (k : LiveChildren listing (all_at_rest now) 0 (length environment) (environment_names listing) (main_call listing ∷ []) f) × (records_of k 0 ≡ xs) →
        PassingState listing now environment xs (forest_from listing xs 0 (length environment) (environment_names listing) (main_call listing ∷ []))
    go (f, k, e) =
        let same : forest_from listing xs 0 (length environment) (environment_names listing) (main_call listing ∷ []) ≡ f =
        ap (λ z. forest_from listing z 0 (length environment) (environment_names listing) (main_call listing ∷ [])) (sym e) ∙ records_give_forest listing now k in
        rw same (record { state = record { moment = t; size = l; resting = q; tree = k; few = rw (← record_count k 0, e) n }; records = e })
