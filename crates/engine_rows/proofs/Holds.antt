-- Rows and environment that hold a state of the walk, and what follows: number of live routines, walking order, next moment due.
-- Letters as in Place and Held.
use mathlib.Core.Path.{◌≡◌, refl, sym, ap, ap₂, ◌∙◌}
use mathlib.Core.Bool.{Bool, true}
use mathlib.Core.List.{List, [], ◌∷◌}
use Prim.Native.Nat.{ℕ, ◌+◌, ◌*◌, ◌^◌, ◌≤◌, ◌<◌}
use native.Mathlib.Nat.{le_refl, zero-add, zero-mul}
use native.Mathlib.Omega.{arith}
use Rattle.listing.specs.Listing.{Listing}
use Rattle.walk.specs.State.{Variable, Node, node, Forest, empty, more, live_in_forest, State, unmarked_of}
use Rattle.walk.specs.Walk.{child_count}
use Rattle.walk.specs.Instant.{unmarked, unmarked_node, unmarked_forest, earlier, due_of, due_of_variables, due_of_node, due_of_forest, next_due}
use Rattle.engine_rows.specs.Rows.{Row, Rows}
use Rattle.engine_rows.specs.Order.{walking_order}
use Rattle.engine_rows.specs.Beginning.{unmarked_rows, next_due_of_rows}
use Rattle.engine_rows.proofs.Place.{Tree}
use Rattle.engine_rows.proofs.Priority.{Rising, Range, parts}
use Rattle.engine_rows.proofs.Sorted.{In, here, there, in_cases, Either, this, that}
use Rattle.engine_rows.proofs.Held.{Entry, root_count, row_for, Held, held_nil, held_put}
use Rattle.engine_rows.proofs.Kept.{slots_of, slots_small}
use Rattle.engine_rows.proofs.Children.{used_below}
use Rattle.engine_rows.proofs.Steady.{above_main, Steady, steady_nil, steady_put}
use Rattle.engine_rows.proofs.Order.{order_keys, walking_rises, order_made}
use Rattle.engine_rows.proofs.Folding.{Distinct, rising_distinct, used_count, slots_live, next_due_lem}
use Rattle.engine_rows.proofs.Changing.{changed, unmarked_rows_lem, changed_unmarked, unmarked_length, changed_slots, changed_range, changed_begun, changed_steady, changed_held, changed_used, changed_asleep}
pub use Rattle.engine_rows.specs.Holds.{Holds}
unfoldable pub use Rattle.engine_rows.specs.Holds.{unmarked_state}

-- ── main is alone at the top ────────────────────────────────────────────────────────────────────
pub steady_single : (listing : Listing) {c lo hi : ℕ} {t : Tree} → Range lo hi t → Steady listing (above_main listing) 0 c t → root_count t ≤ 1
unfolding root_count above_main child_count
steady_single listing r steady_nil = omega arith
steady_single listing r (steady_put a b steady_nil) = le_refl 1
steady_single listing r (steady_put {x = x} a b (steady_put {x = y} a' b' d)) =
    let q = parts r in
    let q' = parts q.siblings in
    let first : y.child ≡ 0 = omega (arith, a'.numbered) in
    let low : y.low ≡ 0 = a'.lowest ∙ ap (λ z. 0 + z * 2 ^ y.bits) first ∙ zero-add (0 * 2 ^ y.bits) ∙ zero-mul (2 ^ y.bits) in
    absurd (omega (arith, q.wider, q'.lowest, low))

held_used : {σ : Rows} {d : Bool} {p : List Entry} {b : ℕ} {t : Tree} (s : ℕ) → Held σ d p b t → In s (slots_of t) → (σ s).used ≡ true
unfolding slots_of row_for
held_used s held_nil i = elim i [ ]
held_used {σ} s (held_put {x = x} {k = k} {f = f} z m e hk hf) (here q) = ap (λ y. (σ y).used) q ∙ ap (λ (r : Row). r.used) e
held_used {σ} s (held_put {x = x} {k = k} {f = f} z m e hk hf) (there i) = go (in_cases (slots_of k) (slots_of f) i) (held_used s hk) (held_used s hf)
  where
    go : Either (In s (slots_of k)) (In s (slots_of f)) → (In s (slots_of k) → (σ s).used ≡ true) → (In s (slots_of f) → (σ s).used ≡ true) →
        (σ s).used ≡ true
    go (this j) a b = a j
    go (that j) a b = b j

-- ── what rows that hold a state give ────────────────────────────────────────────────────────────
module _ {marks : Bool} {listing : Listing} {σ : Rows} {environment : List Variable} {state : State} (H : Holds marks listing σ environment state)
  where
    in_order : Rising 0 (4294967296 * 16) (order_keys σ (slots_of H.tree))
    in_order = walking_rises listing σ 0 (omega arith) (omega arith) H.held H.range H.steady

    pub sits : (s : ℕ) → In s (slots_of H.tree) → (σ s).used ≡ true
    sits s i = held_used s H.held i

    pub slot_below : (s : ℕ) → In s (slots_of H.tree) → s < 64
    slot_below s i = slots_small s H.range i

    pub holds_distinct : Distinct (slots_of H.tree)
    holds_distinct = rising_distinct σ (slots_of H.tree) in_order

    -- the slots in use, rising by (lowest priority, level), are the live routines in walking order
    pub holds_order : walking_order σ ≡ slots_of H.tree
    holds_order = order_made σ (slots_of H.tree) in_order slot_below sits H.whole

    pub holds_live : used_below σ 64 ≡ live_in_forest state.tree
    holds_live = used_count σ (slots_of H.tree) holds_distinct slot_below sits H.whole ∙ slots_live H.tree ∙ ap live_in_forest H.tree_is

    pub holds_due : next_due_of_rows σ environment ≡ next_due state
    unfolding next_due
    holds_due = next_due_lem environment H.held holds_distinct slot_below H.whole ∙
        ap₂ (λ e f. earlier (due_of_variables e) (due_of_forest f)) H.environment_is H.tree_is

-- ── the written marks gone ──────────────────────────────────────────────────────────────────────
pub unmarked_holds : {marks : Bool} {listing : Listing} {σ : Rows} {environment : List Variable} {state : State} →
    Holds marks listing σ environment state →
    Holds marks listing (unmarked_rows σ) (unmarked environment) (unmarked_state state)
unfolding unmarked_state
unmarked_holds {marks} {listing} {σ} {environment} {state} H = rw (unmarked_rows_lem σ) (record {
  environment_is = ap unmarked H.environment_is;
  tree = changed unmarked H.tree;
  tree_is = changed_unmarked H.tree ∙ ap unmarked_forest H.tree_is;
  held = rw (unmarked_length environment) (changed_held unmarked unmarked_length H.held);
  range = changed_range unmarked unmarked_length H.range;
  steady = rw (unmarked_length environment) (changed_steady unmarked unmarked_length listing H.steady);
  begun = changed_begun unmarked unmarked_length H.begun;
  whole = λ s u. rw (changed_slots unmarked unmarked_length H.tree) (H.whole s (sym (changed_used unmarked unmarked_length σ s) ∙ u));
  marked = λ m s u. rw (changed_slots unmarked unmarked_length H.tree) (H.marked m s (sym (changed_asleep unmarked unmarked_length σ s) ∙ u));
})

due_unmarked : (xs : List Variable) → due_of_variables (unmarked xs) ≡ due_of_variables xs
unfolding due_of_variables unmarked unmarked_of
due_unmarked [] = refl
due_unmarked (x ∷ xs) = ap (earlier (due_of x.waiting)) (due_unmarked xs)

mutual
  unfolding due_of_forest unmarked_forest

  due_unmarked_node : (n : Node) → due_of_node (unmarked_node n) ≡ due_of_node n
  due_unmarked_node (node r place names own children) = ap₂ earlier (due_unmarked own) (due_unmarked_forest children)

  due_unmarked_forest : (f : Forest) → due_of_forest (unmarked_forest f) ≡ due_of_forest f
  due_unmarked_forest empty = refl
  due_unmarked_forest (more n f) = ap₂ earlier (due_unmarked_node n) (due_unmarked_forest f)

pub next_due_unmarked : (s : State) → next_due (unmarked_state s) ≡ next_due s
unfolding next_due unmarked_state
next_due_unmarked s = ap₂ earlier (due_unmarked s.environment) (due_unmarked_forest s.tree)
