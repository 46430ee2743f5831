-- In every state that is reached the ready slots are live routines, so there are no more of them than live routines.
-- Letters as in scheduler's Place and Held; σ and τ rows, q a list of slots, k a key.
use mathlib.Core.Path.{◌≡◌, refl, sym, ap, subst, ◌∙◌}
use mathlib.Core.Bool.{Bool, true, false}
use mathlib.Core.List.{List, [], ◌∷◌, ◌++◌}
use Prim.Native.Nat.{ℕ, zero, suc, ◌+◌, ◌%◌, ◌≤◌, ◌<◌}
use native.Mathlib.Omega.{arith}
use lib.ListN.{length}
use Rattle.listing.specs.Listing.{Listing}
use Rattle.walk.specs.State.{Variable}
use Rattle.engine_rows.specs.Rows.{Owner, Row, Rows, with_row, free_row}
use Rattle.engine_rows.proofs.Place.{Record, Tree, nil, put, ◌⋈◌, Frame, plug, memory_of, key, ready, ready_up}
use Rattle.engine_rows.proofs.Priority.{Range, range_split, parts}
use Rattle.engine_rows.proofs.Sorted.{In, here, there, in_cases, Either, this, that, slots_in}
use Rattle.engine_rows.proofs.Held.{Entry, root_count, row_for, Held, held_nil, held_put, HeldUp, held_top, held_under, hole}
use Rattle.engine_rows.proofs.Waking.{cons_if-cases}
use Rattle.engine_rows.proofs.Children.{one, used_below, used-with_row}
use Rattle.engine_rows.proofs.Steady.{TableFits}
use Rattle.engine_rows.proofs.Reachable.{Reached}
use Rattle.engine_blocks.proofs.RowChanges.{with_row_other}
use Rattle.engine_ready.specs.Ordered.{Later, later_none, later_one, Ordered, ordered_none, ordered_one}

-- ── distinct live slots are no more than the live slots ───────────────────────────────────────────
pub data AllLive (σ : Rows) : List ℕ → Type 0 where
  live_none : AllLive σ []
  live_one : {s : ℕ} {q : List ℕ} → (σ s).used ≡ true → AllLive σ q → AllLive σ (s ∷ q)

others_live : {σ τ : Rows} {s : ℕ} {q : List ℕ} → Later τ s q → AllLive σ q → AllLive (with_row σ s free_row) q
others_live later_none live_none = live_none
others_live {σ} {s = s} (later_one {x = x} l other later) (live_one u rest) =
    live_one (ap (λ (r : Row). r.used) (with_row_other σ s free_row x other) ∙ u) (others_live later rest)

pub live_few : {τ σ : Rows} {q : List ℕ} → Ordered τ q → AllLive σ q → length q ≤ used_below σ 64
unfolding one free_row
live_few ordered_none live_none = omega arith
live_few {σ = σ} (ordered_one {s = s} small later rest) (live_one u all) =
    let deep = live_few {σ = with_row σ s free_row} rest (others_live later all) in
    let count = used-with_row σ s free_row 64 small in
    let mine : one (σ s).used ≡ 1 = ap one u in
    omega (arith, deep, count, mine)

-- ── the ready list is made of the tree's routines ─────────────────────────────────────────────────
module _ (listing : Listing) where
  slot_live : (σ : Rows) (z : Bool) (p : List Entry) (c n : ℕ) (x : Record) → x.slot < 64 → σ x.slot ≡ row_for z p c n x → (σ (key x % 64)).used ≡ true
  unfolding key row_for
  slot_live σ z p c n x h e = ap (λ (s : ℕ). (σ s).used) s ∙ ap (λ (r : Row). r.used) e
    where
      s : key x % 64 ≡ x.slot
      s = omega arith

  tree_live : {σ : Rows} {d : Bool} {p : List Entry} {c : ℕ} {t : Tree} {lo hi : ℕ} (m : List Variable) (k : ℕ) → Range lo hi t →
      Held σ d p c t → In k (ready listing m t) → (σ (k % 64)).used ≡ true
  unfolding ready
  tree_live m k r held_nil i = elim i [ ]
  tree_live {σ} {d} {p} {c} m k r (held_put {x = x} {k = nil} {f = f} z a e hk hf) i =
      go (cons_if-cases _ (key x) (ready listing m f) i) (tree_live m k (parts r).siblings hf)
    where
      go : {w : Bool} → Either ((w ≡ true) × (k ≡ key x)) (In k (ready listing m f)) → (In k (ready listing m f) → (σ (k % 64)).used ≡ true) →
          (σ (k % 64)).used ≡ true
      go (this h) deep = rw h.1 (slot_live σ z p c (root_count nil) x (parts r).slots e)
      go (that j) deep = deep j
  tree_live {σ} m k r (held_put {x = x} {k = put y g h} {f = f} z a e hk hf) i =
      go (in_cases (ready listing (m ++ x.own) (put y g h)) (ready listing m f) i) (tree_live (m ++ x.own) k (parts r).children hk)
      (tree_live m k (parts r).siblings hf)
    where
      go : Either (In k (ready listing (m ++ x.own) (put y g h))) (In k (ready listing m f)) →
          (In k (ready listing (m ++ x.own) (put y g h)) → (σ (k % 64)).used ≡ true) → (In k (ready listing m f) → (σ (k % 64)).used ≡ true) →
          (σ (k % 64)).used ≡ true
      go (this j) u v = u j
      go (that j) u v = v j

  up_live : {σ : Rows} {environment : List Variable} {n : ℕ} {fs : List Frame} (lo hi k : ℕ) (t : Tree) → Range lo hi (plug fs t) →
      HeldUp σ environment n fs → In k (ready_up listing environment fs) → (σ (k % 64)).used ≡ true
  unfolding plug ready_up
  up_live lo hi k t r held_top i = elim i [ ]
  up_live {σ} {environment} lo hi k t r (held_under {f = f} {fs = fs} e d c u) i =
      go (in_cases (ready listing (memory_of environment fs) f.todo) (ready_up listing environment fs) i)
      (tree_live (memory_of environment fs) k (parts (range_split f.done (put f.self t f.todo)
      (hole lo hi fs (f.done ⋈ put f.self t f.todo) r).inside).right).siblings c)
      (up_live lo hi k (f.done ⋈ put f.self t f.todo) r u)
    where
      go : Either (In k (ready listing (memory_of environment fs) f.todo)) (In k (ready_up listing environment fs)) →
          (In k (ready listing (memory_of environment fs) f.todo) → (σ (k % 64)).used ≡ true) →
          (In k (ready_up listing environment fs) → (σ (k % 64)).used ≡ true) → (σ (k % 64)).used ≡ true
      go (this j) x y = x j
      go (that j) x y = y j

  keys_live : (σ : Rows) (ks : List ℕ) → ((k : ℕ) → In k ks → (σ (k % 64)).used ≡ true) → AllLive σ (slots_in ks)
  unfolding slots_in
  keys_live σ [] h = live_none
  keys_live σ (k ∷ ks) h = live_one (h k (here refl)) (keys_live σ ks (λ j i. h j (there i)))

  pub ready_live : (now : ℕ) (triggers : Owner → List ℕ) (T : TableFits listing) (left : ℕ) (σ : Rows) (environment : List Variable) (q : List ℕ)
      (live woken me : ℕ) → Reached listing now triggers T left σ environment q live woken me → AllLive σ q
  ready_live now triggers T left σ environment q live woken me R =
      subst (λ z. AllLive σ z) (sym R.runs.queue)
      (keys_live σ (ready_up listing environment (R.frame ∷ R.frames)) (λ k i. up_live 0 4294967296 k nil R.runs.range R.runs.held i))
