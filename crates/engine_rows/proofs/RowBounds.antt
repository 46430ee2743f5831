-- What holds of every row in use between instants, and of the ready list in every state that is reached.
-- Letters as in Place and Held.
use mathlib.Core.Path.{◌≡◌, refl, sym, subst, ◌∙◌}
use mathlib.Core.Bool.{Bool, true}
use mathlib.Core.List.{List, [], ◌∷◌}
use Prim.Native.Nat.{ℕ, suc, ◌/◌, ◌%◌, ◌≤◌, ◌<◌}
use native.Mathlib.Omega.{arith}
use lib.ListN.{length}
use Rattle.listing.specs.Listing.{Listing}
use Rattle.walk.specs.State.{Variable, State}
use Rattle.walk.specs.Question7.{owned_by}
use Rattle.engine_rows.specs.Rows.{Owner, Row, Rows}
use Rattle.engine_rows.proofs.Place.{Record, Tree, nil, plug, ready_up}
use Rattle.engine_rows.proofs.Priority.{Spread, spread_low, spread_put, ready_apart}
use Rattle.engine_rows.proofs.Sorted.{In, here, there, in_cases, Either, this, that, slots_in}
use Rattle.engine_rows.proofs.Held.{Entry, row_for, Held, held_nil, held_put}
use Rattle.engine_rows.proofs.Kept.{slots_of}
use Rattle.engine_rows.proofs.Waking.{key_at}
use Rattle.engine_rows.proofs.ReadyList.{up_keyed}
use Rattle.engine_rows.proofs.Steady.{name_count, TableFits, Above, SteadyRecord, Steady, steady_put}
use Rattle.engine_rows.proofs.Holds.{Holds}
use Rattle.engine_rows.proofs.Bounds.{length_owners}
use Rattle.engine_rows.proofs.Reachable.{Reached}

-- ── rows in use ─────────────────────────────────────────────────────────────────────────────────
pub record RowBounds (listing : Listing) (r : Row) : Type 0 where
  pub names : length r.bindings ≡ name_count listing r.routine
  pub owned : length r.own ≡ owned_by listing r.routine
  pub deepest : r.level ≤ 10

of_record : {listing : Listing} {u : Above} {c : ℕ} {x : Record} (z : Bool) (p : List Entry) (n : ℕ) → SteadyRecord listing u (length p) c x →
    RowBounds listing (row_for z p c n x)
unfolding row_for
of_record {c = c} {x = x} z p n st =
    record { names = length_owners (record { slot = x.slot; base = c } ∷ p) x.names ∙ st.many; owned = st.owned; deepest = st.high }

of_tree : {listing : Listing} {σ : Rows} {d : Bool} {p : List Entry} {c : ℕ} {t : Tree} {u : Above} (s : ℕ) → Held σ d p c t →
    Steady listing u (length p) c t → In s (slots_of t) → RowBounds listing (σ s)
unfolding slots_of
of_tree s held_nil st i = elim i [ ]
of_tree {listing} {σ} {p = p} s (held_put {x = x} {k = k} {f = f} z m e hk hf) (steady_put a b q) (here i) =
    subst (λ v. RowBounds listing (σ v)) (sym i) (subst (RowBounds listing) (sym e) (of_record z p _ a))
of_tree {listing} {σ} s (held_put {x = x} {k = k} {f = f} z m e hk hf) (steady_put a b q) (there i) =
    by_side (in_cases (slots_of k) (slots_of f) i) (of_tree s hk b) (of_tree s hf q)
  where
    by_side : Either (In s (slots_of k)) (In s (slots_of f)) → (In s (slots_of k) → RowBounds listing (σ s)) →
        (In s (slots_of f) → RowBounds listing (σ s)) → RowBounds listing (σ s)
    by_side (this j) v w = v j
    by_side (that j) v w = w j

-- Between instants every row in use is within these bounds.
pub holds_bounds : {marks : Bool} {listing : Listing} {σ : Rows} {environment : List Variable} {state : State} →
    Holds marks listing σ environment state →
    (s : ℕ) → (σ s).used ≡ true → RowBounds listing (σ s)
holds_bounds H s u = of_tree s H.held H.steady (H.whole s u)

-- ── the ready list ──────────────────────────────────────────────────────────────────────────────
-- slots below 64, rising by the lowest of their priorities, from a on
pub data LowsRise (σ : Rows) : ℕ → List ℕ → Type 0 where
  rise_none : {a : ℕ} → LowsRise σ a []
  rise_put : {a s : ℕ} {ss : List ℕ} → s < 64 → a ≤ (σ s).low → LowsRise σ (suc (σ s).low) ss → LowsRise σ a (s ∷ ss)

low_of_key : (σ : Rows) (k : ℕ) → key_at σ (k % 64) ≡ k → k / 64 ≡ (σ (k % 64)).low
unfolding key_at
low_of_key σ k e = omega (arith, e)

keys_rise : (σ : Rows) {a b : ℕ} (ks : List ℕ) → Spread a b ks → ((k : ℕ) → In k ks → key_at σ (k % 64) ≡ k) → LowsRise σ a (slots_in ks)
unfolding slots_in
keys_rise σ [] s h = rise_none
keys_rise σ {a} (k ∷ ks) (spread_put e s) h =
    let low : k / 64 ≡ (σ (k % 64)).low = low_of_key σ k (h k (here refl)) in
    let small : k % 64 < 64 = omega arith in
    let from : a ≤ (σ (k % 64)).low = omega (arith, e, low) in
    rise_put small from (subst (λ z. LowsRise σ (suc z) (slots_in ks)) low (keys_rise σ {a = suc (k / 64)} ks s (λ j i. h j (there i))))

-- In every state that is reached the ready list rises, above the routine that runs.
pub ready_rises : (listing : Listing) (now : ℕ) (triggers : Owner →
    List ℕ) (T : TableFits listing) (left : ℕ) (σ : Rows) (environment : List Variable)
    (q : List ℕ) (live woken me : ℕ) → Reached listing now triggers T left σ environment q live woken me → LowsRise σ 0 q
unfolding ready_up plug
ready_rises listing now triggers T left σ environment q live woken me R =
    subst (λ z. LowsRise σ 0 z) (sym R.runs.queue)
    (keys_rise σ (ready_up listing environment (R.frame ∷ R.frames)) (spread_low 0 (omega arith) apart)
    (λ k i. up_keyed listing 0 4294967296 k nil R.runs.range R.runs.held i))
  where
    apart : Spread R.frame.self.low 4294967296 (ready_up listing environment (R.frame ∷ R.frames))
    apart = ready_apart listing environment 0 4294967296 R.frames R.frame.done R.frame.self nil R.frame.todo R.runs.range
