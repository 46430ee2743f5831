-- A child's row from its parent's bindings; free slots by a count.
-- Letters as in Place and Held.
use mathlib.Core.Path.{◌≡◌, refl, sym, ap, ap₂, ◌∙◌, fun_ext}
use mathlib.Core.Bool.{Bool, true, false}
use mathlib.Core.List.{List, ◌∷◌}
use Prim.Native.Nat.{ℕ, zero, suc, ◌+◌, ◌-◌, ◌≤◌, ◌<◌}
use native.Mathlib.Nat.{le_refl, add-zero, add-suc}
use native.Mathlib.Omega.{arith}
use native.Mathlib.Decide.{ℕ_discrete}
use lib.ListN.{length}
use borrow.Author.Tests.{lt-ltb, le-ltb}
use Rattle.listing.specs.Listing.{Kind, by_reference, by_value, Call, Listing}
use Rattle.walk.specs.Memory.{address_of, addresses_of, bind_names, consecutive, own_variables, variable_at, named_in}
use Rattle.walk.specs.State.{Variable}
use Rattle.walk.specs.Walk.{routine_at}
use Rattle.engine_rows.specs.Engine.{Caller, child_bindings, child_row, free_else, free_slot, own_bindings}
use Rattle.engine_rows.specs.Rows.{Row, Rows, in_slot, with_row}
use Rattle.engine_rows.proofs.Priority.{new_child}
use Rattle.engine_rows.proofs.Held.{Entry, owner_at, owners_at, pick_owner, parent_slot, row_for, with_row-same, with_row-other}
use Rattle.engine_rows.proofs.Reading.{bound_owner}
pub use Rattle.engine_rows.specs.Steady.{Passed, passed_nil, passed_put}
unfoldable pub use Rattle.engine_rows.specs.Holds.{one, used_below}

-- ── the bindings ────────────────────────────────────────────────────────────────────────────────

own_at : (s b i : ℕ) (P : List Entry) → owner_at (record { slot = s; base = b } ∷ P) (b + i) ≡ in_slot s i
unfolding owner_at pick_owner
own_at s b i P = let e : b + i - b ≡ i = omega arith in rw (le-ltb (b + i) b (omega arith), e)

below : (s b a : ℕ) (P : List Entry) → a < b → owner_at (record { slot = s; base = b } ∷ P) a ≡ owner_at P a
unfolding owner_at pick_owner
below s b a P h = rw (lt-ltb a b h)

own_bindings-of : (s b : ℕ) (P : List Entry) (k i : ℕ) → owners_at (record { slot = s; base = b } ∷ P) (consecutive k (b + i)) ≡ own_bindings k s i
unfolding owners_at own_bindings consecutive
own_bindings-of s b P zero i = refl
own_bindings-of s b P (suc k) i = ap₂ ◌∷◌ (own_at s b i P)
    (ap (λ z. owners_at (record { slot = s; base = b } ∷ P) (consecutive k z)) (sym (add-suc b i)) ∙ own_bindings-of s b P k (suc i))

module _ (s b : ℕ) (P : List Entry) (ns : List ℕ) (near : (x : ℕ) → x < length ns → address_of ns x < b) where
  pub bind_same : (ks : List Kind) (xs : List ℕ) (loc i : ℕ) → Passed (length ns) ks xs →
      owners_at (record { slot = s; base = b } ∷ P) (bind_names ks (addresses_of ns xs) loc (b + i)) ≡ child_bindings ks xs loc (owners_at P ns) s i
  unfolding bind_names addresses_of owners_at child_bindings
  bind_same _ _ loc i passed_nil = own_bindings-of s b P loc i
  bind_same _ _ loc i (passed_put {k = by_reference} {ks = ks} {x = x} {xs = xs} h r) =
      ap₂ ◌∷◌ (below s b (address_of ns x) P (near x h) ∙ sym (bound_owner P ns x h)) (bind_same ks xs loc i r)
  bind_same _ _ loc i (passed_put {k = by_value} {ks = ks} {x = x} {xs = xs} h r) =
      ap₂ ◌∷◌ (own_at s b i P) (ap (λ z. owners_at (record { slot = s; base = b } ∷ P) (bind_names ks (addresses_of ns xs) loc z)) (sym (add-suc b i)) ∙
      bind_same ks xs loc (suc i) r)

module _ (rd : ℕ → Variable) (m : List Variable) (ns : List ℕ) (same : (n : ℕ) → rd n ≡ variable_at m (address_of ns n)) where
  pub own_same : (now : ℕ) (ks : List Kind) (xs : List ℕ) (loc : ℕ) → own_variables now ks xs loc (named_in m ns) ≡ own_variables now ks xs loc rd
  own_same now ks xs loc = sym (ap (λ (name : ℕ → Variable). own_variables now ks xs loc name) (fun_ext same))

unfoldable pub caller_on : List Entry → List Variable → List ℕ → ℕ → ℕ → (ℕ → Variable) → Caller
caller_on P m ns low b name = record {
  slot = parent_slot P;
  level = length P;
  base = length m;
  low = low;
  bits = b;
  bindings = owners_at P ns;
  name = name;
}

pub child_row_lem : (listing : Listing) (now : ℕ) (m : List Variable) (ns : List ℕ) (c : Call) (i s low b : ℕ) (P : List Entry) (rd : ℕ → Variable) →
    ((n : ℕ) → rd n ≡ variable_at m (address_of ns n)) → ((x : ℕ) → x < length ns → address_of ns x < length m) →
    Passed (length ns) (routine_at listing c.callee).kinds c.arguments →
    child_row listing now (caller_on P m ns low b rd) c i s ≡ row_for false P (length m) 0 (new_child listing now m ns c i s low b)
unfolding child_row caller_on row_for new_child
child_row_lem listing now m ns c i s low d P rd same near fit =
    let q = routine_at listing c.callee in
    let b : child_bindings q.kinds c.arguments q.locals (owners_at P ns) s 0 ≡ owners_at (record { slot = s; base = length m } ∷ P)
    (bind_names q.kinds (addresses_of ns c.arguments) q.locals (length m)) =
    sym (bind_same s (length m) P ns near q.kinds c.arguments q.locals 0 fit) ∙
    ap (λ z. owners_at (record { slot = s; base = length m } ∷ P) (bind_names q.kinds (addresses_of ns c.arguments) q.locals z))
    (add-zero (length m)) in
    let o : own_variables now q.kinds c.arguments q.locals rd ≡ own_variables now q.kinds c.arguments q.locals (named_in m ns) =
    sym (own_same rd m ns same now q.kinds c.arguments q.locals) in
    rw (b, o)

-- ── free slots by a count ───────────────────────────────────────────────────────────────────────
one_le : (b : Bool) → one b ≤ 1
unfolding one
one_le true = omega arith
one_le false = omega arith

-- one slot of the first n is free
some_free : (σ : Rows) (n : ℕ) → used_below σ n < n → (s : ℕ) × ((σ s).used ≡ false) × (s < n)
unfolding used_below one
some_free σ zero h = absurd (omega arith)
some_free σ (suc n) h = go (σ n).used refl (some_free σ n)
  where
    go : (b : Bool) → (σ n).used ≡ b → (used_below σ n < n → (s : ℕ) × ((σ s).used ≡ false) × (s < n)) → (s : ℕ) × ((σ s).used ≡ false) × (s < suc n)
    go true p deep =
        let q : one (σ n).used ≡ 1 = ap one p in
        let d = deep (omega arith) in (d.0, d.1, omega (arith, d.2))
    go false p deep = (n, p, le_refl (suc n))

-- the search finds one, if there is one from where it begins
found_free : (σ : Rows) (n s : ℕ) → n ≤ 64 → (σ s).used ≡ false → 64 - n ≤ s → s < 64 → ((σ (free_slot σ n)).used ≡ false) × (free_slot σ n < 64)
unfolding free_slot free_else
found_free σ zero s l u a b = absurd (omega arith)
found_free σ (suc n) s l u a b = go (σ (63 - n)).used refl (found_free σ n s (omega arith) u)
  where
    go : (w : Bool) → (σ (63 - n)).used ≡ w → (64 - n ≤ s → s < 64 → ((σ (free_slot σ n)).used ≡ false) × (free_slot σ n < 64)) →
        ((σ (free_else w (63 - n) (free_slot σ n))).used ≡ false) × (free_else w (63 - n) (free_slot σ n) < 64)
    go true p deep = deep (past (ℕ_discrete s (63 - n))) b
      where
        past : Dec (s ≡ 63 - n) → 64 - n ≤ s
        past (yes e) = let z : ◌≡◌ {A = Bool} true false = sym p ∙ (ap (λ (k : ℕ). (σ k).used) (sym e) ∙ u) in let w : ◌≡◌ {A = ℕ} 0 1 = cc in absurd (let v : ⊥ = omega arith in v)
        past (no e) = omega (arith, e)
    go false p deep = (p, omega arith)

pub free_slot-free : (σ : Rows) → used_below σ 64 < 64 → ((σ (free_slot σ 64)).used ≡ false) × (free_slot σ 64 < 64)
free_slot-free σ h = let d = some_free σ 64 h in found_free σ 64 d.0 (le_refl 64) d.1 (omega arith) d.2

used_other : (σ : Rows) (s : ℕ) (r : Row) (n : ℕ) → n ≤ s → used_below (with_row σ s r) n ≡ used_below σ n
unfolding used_below
used_other σ s r zero h = refl
used_other σ s r (suc n) h = ap₂ (λ x y. one x + y) (ap (λ y. y.used) (with_row-other σ s r n (λ e. omega arith))) (used_other σ s r n (omega arith))

-- a row changed at s: the count moves by its flag
pub used-with_row : (σ : Rows) (s : ℕ) (r : Row) (n : ℕ) → s < n → used_below (with_row σ s r) n + one (σ s).used ≡ used_below σ n + one r.used
unfolding used_below
used-with_row σ s r zero h = absurd (omega arith)
used-with_row σ s r (suc n) h = go (ℕ_discrete n s) (used-with_row σ s r n)
  where
    go : Dec (n ≡ s) → (s < n → used_below (with_row σ s r) n + one (σ s).used ≡ used_below σ n + one r.used) →
        one (with_row σ s r n).used + used_below (with_row σ s r) n + one (σ s).used ≡ one (σ n).used + used_below σ n + one r.used
    go (yes e) deep =
        let a : one (with_row σ s r n).used ≡ one r.used = ap (λ z. one (with_row σ s r z).used) e ∙
        ap (λ y. one y.used) (with_row-same σ s r) in
        let b : one (σ n).used ≡ one (σ s).used = ap (λ z. one (σ z).used) e in
        omega (arith, used_other σ s r n (omega arith))
    go (no e) deep =
        let a : one (with_row σ s r n).used ≡ one (σ n).used = ap (λ y. one y.used) (with_row-other σ s r n e) in
        omega (arith, deep (omega arith))
