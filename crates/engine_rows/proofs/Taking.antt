-- The slots that new children take, and the number of slots taken.
-- Letters as in Place and Held.
use mathlib.Core.Path.{◌≡◌, refl, sym, ap, ap₂, subst, ◌∙◌}
use mathlib.Core.Bool.{true, false}
use mathlib.Core.List.{List, [], ◌∷◌}
use Prim.Native.Nat.{ℕ, zero, suc, ◌+◌, ◌≤◌, ◌<◌}
use native.Mathlib.Omega.{arith}
use native.Mathlib.Decide.{ℕ_discrete}
use lib.ListN.{length, set, length-append, length-set}
use Rattle.listing.specs.Listing.{Listing, Call}
use Rattle.walk.specs.Memory.{address_of, top, variable_at}
use Rattle.walk.specs.State.{Variable}
use Rattle.walk.specs.Walk.{child_count}
use Rattle.engine_rows.specs.Rows.{Owner, in_environment, in_slot, Row, Rows, at_place, environment_with, named, rows_with, with_children, with_own, with_row}
use Rattle.engine_rows.specs.Engine.{Caller, caller_at, child_row, free_slot, rows_with_child, rows_with_new, new_slots}
use Rattle.engine_rows.proofs.Place.{Record, Tree, put, ◌⋈◌, Frame, plug, memory_of}
use Rattle.engine_rows.proofs.Priority.{new_child, new_children, later_slots, Small, small_nil, small_put}
use Rattle.engine_rows.proofs.Writing.{set_up, record_with_own, set_from}
use Rattle.engine_rows.proofs.Held.{Entry, owners_at, path_of, root_count, row_for, Held, held_put, HeldUp, held_top, held_under, with_row-same, with_row-other}
use Rattle.engine_rows.proofs.Moves.{focus}
use Rattle.engine_rows.proofs.Standing.{root_count-⋈, held_done, held_join}
use Rattle.engine_rows.proofs.Forking.{allocated, FreeFor, free_for_nil, free_for_put, root_slots}
use Rattle.engine_rows.proofs.Children.{caller_on, child_row_lem, free_slot-free, used_below, used-with_row, one}
use Rattle.engine_rows.proofs.Steady.{CallsFit, calls_nil, calls_put}

pub bool_not : {A : Type 0} → true ≡ false → A
bool_not e = let z : ◌≡◌ {A = ℕ} 0 1 = cc in absurd (omega arith)

-- ── small facts ─────────────────────────────────────────────────────────────────────────────────
pub with_row-used : (σ : Rows) (s : ℕ) (r : Row) → r.used ≡ (σ s).used → (n : ℕ) → (with_row σ s r n).used ≡ (σ n).used
with_row-used σ s r e n = go (ℕ_discrete n s)
  where
    go : Dec (n ≡ s) → (with_row σ s r n).used ≡ (σ n).used
    go (yes p) = ap (λ z. (with_row σ s r z).used) p ∙ ap (λ y. y.used) (with_row-same σ s r) ∙ e ∙ ap (λ z. (σ z).used) (sym p)
    go (no p) = ap (λ y. y.used) (with_row-other σ s r n p)

pub used_ext : (σ σ' : Rows) → ((s : ℕ) → (σ' s).used ≡ (σ s).used) → (n : ℕ) → used_below σ' n ≡ used_below σ n
unfolding used_below
used_ext σ σ' h zero = refl
used_ext σ σ' h (suc n) = ap₂ (λ x y. one x + y) (h n) (used_ext σ σ' h n)

pub used_keep : (σ : Rows) (s : ℕ) (r : Row) (n : ℕ) → r.used ≡ (σ s).used → used_below (with_row σ s r) n ≡ used_below σ n
used_keep σ s r n e = used_ext σ (with_row σ s r) (with_row-used σ s r e) n

pub owner_used : (σ : Rows) (o : Owner) (v : Variable) (n : ℕ) → (rows_with σ o v n).used ≡ (σ n).used
unfolding rows_with with_own
owner_used σ (in_environment a) v n = refl
owner_used σ (in_slot s i) v n = with_row-used σ s (with_own (σ s) (set (σ s).own i v)) refl n

pub at_place-used : (r : Row) (place : ℕ) → (at_place r place).used ≡ r.used
unfolding at_place
at_place-used r place = refl

pub with_children-used : (r : Row) (n : ℕ) → (with_children r n).used ≡ r.used
unfolding with_children
with_children-used r n = refl

pub root_count-plug : (fs : List Frame) (t t' : Tree) → root_count t ≡ root_count t' → root_count (plug fs t) ≡ root_count (plug fs t')
unfolding plug root_count
root_count-plug [] t t' e = e
root_count-plug (f ∷ fs) t t' e = root_count-plug fs _ _ (root_count-⋈ f.done (put f.self t f.todo) ∙
    sym (root_count-⋈ f.done (put f.self t' f.todo)))

pub root_count-over : (x : Record) (f : Frame) (fs : List Frame) (t t' : Tree) →
    root_count (plug (focus x f.done f.todo ∷ fs) t) ≡ root_count (plug (f ∷ fs) t')
unfolding plug root_count focus
root_count-over x f fs t t' = root_count-plug fs _ _ (root_count-⋈ f.done (put x t f.todo) ∙
    sym (root_count-⋈ f.done (put f.self t' f.todo)))

pub root_count-set : (environment : List Variable) (fs : List Frame) (t : Tree) (a : ℕ) (v : Variable) →
    root_count (plug (set_up environment fs a v) t) ≡ root_count (plug fs t)
unfolding plug set_up root_count
root_count-set environment [] t a v = refl
root_count-set environment (f ∷ fs) t a v = root_count-set environment fs _ a v ∙
    root_count-plug fs _ _ (root_count-⋈ f.done (put (record_with_own f.self (set_from (length (memory_of environment fs)) f.self.own a v)) t
    f.todo) ∙ sym (root_count-⋈ f.done (put f.self t f.todo)))

pub plug_held : {σ : Rows} {environment : List Variable} {n : ℕ} {fs : List Frame} (t : Tree) → n ≡ root_count t → HeldUp σ environment n fs →
    Held σ false (path_of environment fs) (length (memory_of environment fs)) t → Held σ false [] (length environment) (plug fs t)
unfolding plug path_of memory_of root_count
plug_held t e held_top h = h
plug_held {σ} {environment} {n} t e (held_under {f = f} {fs = fs} r d c u) h =
    plug_held (f.done ⋈ put f.self t f.todo) (sym (root_count-⋈ f.done (put f.self t f.todo))) u
    (held_join d (held_put false (λ z. bool_not (sym z)) (r ∙
    ap (λ k. row_for false (path_of environment fs) (length (memory_of environment fs)) k f.self) e)
    (rw (length-append (memory_of environment fs) f.self.own) at h) (held_done c)))

pub length-environment_with : (o : Owner) (environment : List Variable) (v : Variable) → length (environment_with o environment v) ≡ length environment
unfolding environment_with
length-environment_with (in_environment a) environment v = length-set environment a v
length-environment_with (in_slot s i) environment v = refl

-- ── the children's slots ────────────────────────────────────────────────────────────────────────
-- whoever sat in a slot before still does
abbrev pub Keeps : Rows → Rows → Type 0
Keeps σ₀ σ = (s : ℕ) → (σ₀ s).used ≡ true → σ s ≡ σ₀ s

keeps_then : (σ₀ σ : Rows) (s : ℕ) (r : Row) → Keeps σ₀ σ → (σ s).used ≡ false → Keeps σ₀ (with_row σ s r)
keeps_then σ₀ σ s r k h n u =
    with_row-other σ s r n (λ e. let z : true ≡ false = sym u ∙ ap (λ y. y.used) (sym (k n u)) ∙ ap (λ y. (σ y).used) e ∙ h in bool_not z) ∙ k n u

module _ (listing : Listing) (now : ℕ) (m : List Variable) (ns : List ℕ) (P : List Entry) (environment : List Variable) (me n low b : ℕ) (σ₀ : Rows)
    (sits : (σ₀ me).used ≡ true)
    (caller : (σ : Rows) → σ me ≡ σ₀ me → caller_at σ environment me n ≡ caller_on P m ns low b (named σ environment (owners_at P ns)))
    (reads : (σ : Rows) → Keeps σ₀ σ → (k : ℕ) → named σ environment (owners_at P ns) k ≡ variable_at m (address_of ns k))
    (near : (x : ℕ) → x < length ns → address_of ns x < length m) where
  abbrev tree_of : Rows → List Call → ℕ → Tree
  tree_of σ cs i = new_children listing now m ns cs (new_slots listing now σ environment me n cs i) i low b

  pub record Taken (σ : Rows) (cs : List Call) (i : ℕ) : Type 0 where
    pub fresh : FreeFor P (length m) σ (tree_of σ cs i)
    pub rows : rows_with_new listing now σ environment me n cs i ≡ allocated σ P (length m) (tree_of σ cs i)
    pub slots : new_slots listing now σ environment me n cs i ≡ root_slots (tree_of σ cs i)
    pub small : Small (new_slots listing now σ environment me n cs i)
    pub used : used_below (rows_with_new listing now σ environment me n cs i) 64 ≡ used_below σ 64 + child_count cs
    pub counted : root_count (tree_of σ cs i) ≡ child_count cs

  child_row-used : (k : Caller) (c : Call) (i s : ℕ) → (child_row listing now k c i s).used ≡ true
  unfolding child_row
  child_row-used k c i s = refl

  pub taken : (cs : List Call) (σ : Rows) (i : ℕ) → CallsFit listing (length ns) cs → Keeps σ₀ σ → used_below σ 64 + child_count cs ≤ 64 → Taken σ cs i
  unfolding new_slots rows_with_new rows_with_child new_children allocated root_slots child_count root_count one new_child top later_slots
  taken _ σ i calls_nil k h = record { fresh = free_for_nil; rows = refl; slots = refl; small = small_nil; used = omega arith; counted = refl }
  taken _ σ i (calls_put {c = c} {cs = cs} g r) k h =
      let s = free_slot σ 64 in
      let x = new_child listing now m ns c i s low b in
      let row = child_row listing now (caller_at σ environment me n) c i s in
      let e : row ≡ row_for false P (length m) 0 x =
      ap (λ z. child_row listing now z c i s) (caller σ (k me sits)) ∙
      child_row_lem listing now m ns c i s low b P (named σ environment (owners_at P ns)) (reads σ k) near g in
      let free = free_slot-free σ (omega arith) in
      let u : used_below (with_row σ s row) 64 + one (σ s).used ≡ used_below σ 64 + one row.used = used-with_row σ s row 64 free.1 in
      let u₁ : one (σ s).used ≡ 0 = ap one free.0 in
      let u₂ : one row.used ≡ 1 = ap one (child_row-used (caller_at σ environment me n) c i s) in
      let I = taken cs (with_row σ s row) (suc i) r (keeps_then σ₀ σ s row k free.0) (omega arith) in
      let tree = tree_of (with_row σ s row) cs (suc i) in
      record {
        fresh = free_for_put free.0 refl (subst (λ z. FreeFor P (length m) (with_row σ s z) tree) e I.fresh);
        rows = I.rows ∙ ap (λ z. allocated (with_row σ s z) P (length m) tree) e;
        slots = ap (λ l. s ∷ l) I.slots;
        small = small_put free.1 I.small;
        used = omega (arith, I.used);
        counted = ap suc I.counted;
      }
