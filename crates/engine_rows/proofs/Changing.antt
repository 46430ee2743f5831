-- All own variables changed in one way, in the tree and in the rows: due writes made, written marks gone.
-- Letters as in Place and Held.
use mathlib.Core.Path.{◌≡◌, refl, ap, ap₂, ◌∙◌}
use mathlib.Core.Bool.{Bool, ◌&&◌, not}
use mathlib.Core.List.{List, [], ◌∷◌}
use Prim.Native.Nat.{ℕ, suc, ◌+◌}
use lib.ListN.{length, length-set}
use Rattle.listing.specs.Listing.{Listing}
use Rattle.walk.specs.State.{Variable, Node, node, Forest, empty, more, live_in_node, live_in_forest}
use Rattle.walk.specs.Memory.{input_at}
use Rattle.walk.specs.Instant.{due_writes, due_in_node, due_in_forest, unmarked, unmarked_node, unmarked_forest, Write, apply_inputs}
use Rattle.engine_rows.specs.Rows.{Row, Rows, with_own}
use Rattle.engine_rows.specs.Beginning.{own_if, due_in_rows, unmarked_rows}
use Rattle.engine_rows.proofs.Place.{Record, Tree, nil, put, erase, Rests, rests_nil, rests_new, rests_wait, rests_join}
use Rattle.engine_rows.proofs.Priority.{Range, range_nil, range_put}
use Rattle.engine_rows.proofs.Writing.{record_with_own}
use Rattle.engine_rows.proofs.Held.{Entry, root_count, row_for, is_leaf, Held, held_nil, held_put}
use Rattle.engine_rows.proofs.Kept.{slots_of}
use Rattle.engine_rows.proofs.Begun.{AllBegun, begun_nil, begun_put}
use Rattle.engine_rows.proofs.Steady.{Above, above_of, Steady, steady_nil, steady_put, steady_own}

unfoldable pub rows_changed : (List Variable → List Variable) → Rows → Rows
rows_changed g σ s = with_own (σ s) (own_if (σ s).used (g (σ s).own) (σ s).own)

unfoldable pub changed : (List Variable → List Variable) → Tree → Tree
changed g nil = nil
changed g (put x k f) = put (record_with_own x (g x.own)) (changed g k) (changed g f)

pub due_rows : (t : ℕ) (σ : Rows) → due_in_rows t σ ≡ rows_changed (due_writes t) σ
unfolding due_in_rows rows_changed
due_rows t σ = refl

pub unmarked_rows_lem : (σ : Rows) → unmarked_rows σ ≡ rows_changed unmarked σ
unfolding unmarked_rows rows_changed
unmarked_rows_lem σ = refl

-- ── the tree of the walk ────────────────────────────────────────────────────────────────────────
pub changed_due : (τ : ℕ) (t : Tree) → erase (changed (due_writes τ) t) ≡ due_in_forest (erase t) τ
unfolding changed erase due_in_forest record_with_own
changed_due τ nil = refl
changed_due τ (put x k f) = rw (changed_due τ k, changed_due τ f)

pub changed_unmarked : (t : Tree) → erase (changed unmarked t) ≡ unmarked_forest (erase t)
unfolding changed erase unmarked_forest record_with_own
changed_unmarked nil = refl
changed_unmarked (put x k f) = rw (changed_unmarked k, changed_unmarked f)

mutual
  unfolding live_in_forest due_in_forest

  due_live_node : (τ : ℕ) (n : Node) → live_in_node (due_in_node n τ) ≡ live_in_node n
  due_live_node τ (node r place names own children) = ap suc (due_live τ children)

  pub due_live : (τ : ℕ) (f : Forest) → live_in_forest (due_in_forest f τ) ≡ live_in_forest f
  due_live τ empty = refl
  due_live τ (more n f) = ap₂ ◌+◌ (due_live_node τ n) (due_live τ f)

mutual
  unfolding live_in_forest unmarked_forest

  unmarked_live_node : (n : Node) → live_in_node (unmarked_node n) ≡ live_in_node n
  unmarked_live_node (node r place names own children) = ap suc (unmarked_live children)

  pub unmarked_live : (f : Forest) → live_in_forest (unmarked_forest f) ≡ live_in_forest f
  unmarked_live empty = refl
  unmarked_live (more n f) = ap₂ ◌+◌ (unmarked_live_node n) (unmarked_live f)

pub due_length : (t : ℕ) (xs : List Variable) → length (due_writes t xs) ≡ length xs
unfolding due_writes
due_length t [] = refl
due_length t (x ∷ xs) = ap suc (due_length t xs)

pub unmarked_length : (xs : List Variable) → length (unmarked xs) ≡ length xs
unfolding unmarked
unmarked_length [] = refl
unmarked_length (x ∷ xs) = ap suc (unmarked_length xs)

pub inputs_length : (t : ℕ) (ws : List Write) (xs : List Variable) → length (apply_inputs t ws xs) ≡ length xs
unfolding apply_inputs input_at
inputs_length t [] xs = refl
inputs_length t (w ∷ ws) xs = inputs_length t ws (input_at t xs w.number w.value) ∙ length-set xs w.number _

-- ── what stays ──────────────────────────────────────────────────────────────────────────────────
module _ (g : List Variable → List Variable) (same : (xs : List Variable) → length (g xs) ≡ length xs) where
  pub changed_slots : (t : Tree) → slots_of (changed g t) ≡ slots_of t
  unfolding changed slots_of record_with_own
  changed_slots nil = refl
  changed_slots (put x k f) = rw (changed_slots k, changed_slots f)

  changed_count : (t : Tree) → root_count t ≡ root_count (changed g t)
  unfolding changed root_count
  changed_count nil = refl
  changed_count (put x k f) = ap suc (changed_count f)

  changed_leaf : (t : Tree) → is_leaf t ≡ is_leaf (changed g t)
  unfolding changed is_leaf
  changed_leaf nil = refl
  changed_leaf (put x k f) = refl

  pub changed_range : {lo hi : ℕ} {t : Tree} → Range lo hi t → Range lo hi (changed g t)
  unfolding changed record_with_own
  changed_range (range_nil e) = range_nil e
  changed_range (range_put e w s k f) = range_put e w s (changed_range k) (changed_range f)

  pub changed_begun : {t : Tree} → AllBegun t → AllBegun (changed g t)
  unfolding changed record_with_own
  changed_begun begun_nil = begun_nil
  changed_begun (begun_put e k f) = begun_put e (changed_begun k) (changed_begun f)

  pub changed_rests : (listing : Listing) {n : Bool} {t : Tree} → Rests listing n t → Rests listing n (changed g t)
  unfolding changed record_with_own
  changed_rests listing rests_nil = rests_nil
  changed_rests listing (rests_new b r) = rests_new b (changed_rests listing r)
  changed_rests listing (rests_wait b i r) = rests_wait b i (changed_rests listing r)
  changed_rests listing (rests_join b i q r) = rests_join b i (changed_rests listing q) (changed_rests listing r)

  above_changed : (listing : Listing) (x : Record) → above_of listing x ≡ above_of listing (record_with_own x (g x.own))
  unfolding above_of record_with_own
  above_changed listing x = refl

  own_changed : (x : Record) → length (record_with_own x (g x.own)).own ≡ length x.own
  unfolding record_with_own
  own_changed x = same x.own

  pub changed_steady : (listing : Listing) {u : Above} {level c : ℕ} {t : Tree} → Steady listing u level c t → Steady listing u level c (changed g t)
  unfolding changed
  changed_steady listing steady_nil = steady_nil
  changed_steady listing {u} {level} {c} (steady_put {x = x} {k = k} {f = f} a b d) =
      steady_put {x = record_with_own x (g x.own)} {k = changed g k} {f = changed g f}
      (steady_own listing u level c x (g x.own) (same x.own) a) (rw (← above_changed listing x, own_changed x) (changed_steady listing b))
      (changed_steady listing d)

  changed_row : (z : Bool) (p : List Entry) (b n : ℕ) (x : Record) →
      with_own (row_for z p b n x) (own_if (row_for z p b n x).used (g (row_for z p b n x).own) (row_for z p b n x).own) ≡ row_for z p b n
      (record_with_own x (g x.own))
  unfolding with_own row_for own_if record_with_own
  changed_row z p b n x = refl

  pub changed_held : {σ : Rows} {d : Bool} {p : List Entry} {b : ℕ} {t : Tree} → Held σ d p b t → Held (rows_changed g σ) d p b (changed g t)
  unfolding changed rows_changed record_with_own
  changed_held held_nil = held_nil
  changed_held {σ} {d} {p} {b} (held_put {x = x} {k = k} {f = f} z m e hk hf) =
      held_put {x = record_with_own x (g x.own)} z (λ q. m q ∙ ap (λ y. y && not x.is_new) (changed_leaf k))
      (ap (λ (r : Row). with_own r (own_if r.used (g r.own) r.own)) e ∙ changed_row z p b (root_count k) x ∙
      ap (λ n. row_for z p b n (record_with_own x (g x.own))) (changed_count k))
      (rw (same x.own) (changed_held hk)) (changed_held hf)

  pub changed_used : (σ : Rows) (s : ℕ) → (rows_changed g σ s).used ≡ (σ s).used
  unfolding rows_changed with_own
  changed_used σ s = refl

  pub changed_asleep : (σ : Rows) (s : ℕ) → (rows_changed g σ s).asleep ≡ (σ s).asleep
  unfolding rows_changed with_own
  changed_asleep σ s = refl
