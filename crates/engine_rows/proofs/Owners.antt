-- A variable has one owner, however it is reached: whom a write wakes, by address and by owner.
-- Letters as in Place and Held.
use mathlib.Core.Path.{◌≡◌, refl, sym, ap, ap₂, ◌∙◌}
use mathlib.Core.Bool.{Bool, true, false, ◌||◌, ◌&&◌, not}
use mathlib.Core.List.{List, [], ◌∷◌, ◌++◌}
use Prim.Native.Nat.{ℕ, zero, suc, ◌+◌, ◌-◌, ◌≤◌, ◌<◌}
use native.Mathlib.Nat.{le_refl, le_trans}
use native.Mathlib.Decide.{ℕ_discrete, dec_lt}
use native.Mathlib.Omega.{arith}
use lib.Dec.{ltb, eqb}
use lib.ListN.{length, get_or, length-append}
use borrow.Author.Tests.{ltb-false, eqb-true, lt-ltb, le-ltb, eq-eqb, ne_eqb}
use Rattle.listing.specs.Listing.{Listing}
use Rattle.walk.specs.Memory.{address_of, nowhere}
use Rattle.walk.specs.State.{Variable}
use Rattle.walk.specs.Walk.{instruction_at}
use Rattle.engine_rows.specs.Rows.{Owner, Row, Rows, in_environment, in_slot}
use Rattle.engine_rows.specs.Triggers.{awaited, cons_if, same_owner}
use Rattle.engine_rows.proofs.Place.{Record, width, Tree, nil, put, ◌⋈◌, Frame, plug, memory_of, key}
use Rattle.engine_rows.proofs.Priority.{Range, range_le, range_split, parts}
use Rattle.engine_rows.proofs.Writing.{awaits_address, awaits_it, woken_by, woken_if, woken_up}
use Rattle.engine_rows.proofs.Held.{Entry, owner_at, owners_at, pick_owner, path_of, row_for, Held, held_nil, held_put, HeldUp, held_top, held_under, hole, hole_in}
unfoldable pub use Rattle.engine_rows.specs.Reached.{awaits_owner}

pub bool_not : {A : Type 0} → true ≡ false → A
bool_not e = let z : ◌≡◌ {A = ℕ} 0 1 = cc in absurd (omega arith)

pub and_true : (a b : Bool) → a && b ≡ true → (a ≡ true) × (b ≡ true)
and_true true b e = (refl, e)
and_true false b e = bool_not (sym e)

pub same_owner-refl : (o : Owner) → same_owner o o ≡ true
unfolding same_owner
same_owner-refl (in_environment a) = eq-eqb a a refl
same_owner-refl (in_slot s i) = rw (eq-eqb s s refl, eq-eqb i i refl)

pub same_owner-true : (o q : Owner) → same_owner o q ≡ true → o ≡ q
unfolding same_owner
same_owner-true (in_environment a) (in_environment b) e = ap in_environment (eqb-true a b e)
same_owner-true (in_environment a) (in_slot s i) e = bool_not (sym e)
same_owner-true (in_slot s i) (in_environment a) e = bool_not (sym e)
same_owner-true (in_slot s i) (in_slot t j) e = ap₂ in_slot (eqb-true s t (and_true (eqb s t) (eqb i j) e).0)
    (eqb-true i j (and_true (eqb s t) (eqb i j) e).1)

same_owner-not : (o q : Owner) → (o ≡ q → ⊥) → same_owner o q ≡ false
same_owner-not o q h = go (same_owner o q) refl
  where
    go : (b : Bool) → same_owner o q ≡ b → b ≡ false
    go true e = absurd (h (same_owner-true o q e))
    go false e = refl

-- from an owner back to the address
unfoldable pub back : Rows → Owner → ℕ
back σ (in_environment a) = a
back σ (in_slot s i) = (σ s).base + i

pub data GoodPath (σ : Rows) : List Entry → Type 0 where
  good_nil : GoodPath σ []
  good_put : {e : Entry} {p : List Entry} → (σ e.slot).base ≡ e.base → GoodPath σ p → GoodPath σ (e ∷ p)

pub owner_back : (σ : Rows) (p : List Entry) (a : ℕ) → GoodPath σ p → back σ (owner_at p a) ≡ a
unfolding back owner_at pick_owner
owner_back σ _ a good_nil = refl
owner_back σ _ a (good_put {e = e} {p = p} b g) = go (ltb a e.base) refl (owner_back σ p a g)
  where
    go : (w : Bool) → ltb a e.base ≡ w → back σ (owner_at p a) ≡ a → back σ (pick_owner w (owner_at p a) (in_slot e.slot (a - e.base))) ≡ a
    go true h up = up
    go false h up = let l : e.base ≤ a = ltb-false a e.base h in rw b (omega arith)

-- a path that goes on from P, whose memory has length b, through rows of Q
pub data Ext (σ : Rows) (P : List Entry) (b : ℕ) (Q : Row → Type 0) : List Entry → Type 0 where
  ext_one : {e : Entry} → e.base ≡ b → (σ e.slot).base ≡ e.base → Q (σ e.slot) → Ext σ P b Q (e ∷ P)
  ext_more : {e : Entry} {p : List Entry} → b ≤ e.base → (σ e.slot).base ≡ e.base → Q (σ e.slot) → Ext σ P b Q p → Ext σ P b Q (e ∷ p)

module _ (σ : Rows) (P : List Entry) (b : ℕ) (gP : GoodPath σ P) where
  ext_good : {Q : Row → Type 0} {p : List Entry} → Ext σ P b Q p → GoodPath σ p
  ext_good (ext_one e h q) = good_put h gP
  ext_good (ext_more l h q x) = good_put h (ext_good x)

  ext_below : {Q : Row → Type 0} {p : List Entry} (a : ℕ) → a < b → Ext σ P b Q p → owner_at p a ≡ owner_at P a
  unfolding owner_at pick_owner
  ext_below a l (ext_one {e = e} h g q) = rw (lt-ltb a e.base (omega arith))
  ext_below a l (ext_more {e = e} {p = p} h g q x) = rw (lt-ltb a e.base (omega arith)) (ext_below a l x)

  pub record Within (Q : Row → Type 0) (o : Owner) : Type 0 where
    pub slot : ℕ
    pub index : ℕ
    pub is : o ≡ in_slot slot index
    pub row : Q (σ slot)

  ext_in : {Q : Row → Type 0} {p : List Entry} (a : ℕ) → b ≤ a → Ext σ P b Q p → Within Q (owner_at p a)
  unfolding owner_at pick_owner
  ext_in a l (ext_one {e = e} h g q) = record { slot = e.slot; index = a - e.base; is = rw (le-ltb a e.base (omega arith)); row = q }
  ext_in {Q} a l (ext_more {e = e} {p = p} h g q x) = go (ltb a e.base) (ext_in a l x)
    where
      go : (w : Bool) → Within Q (owner_at p a) → Within Q (pick_owner w (owner_at p a) (in_slot e.slot (a - e.base)))
      go true up = up
      go false up = record { slot = e.slot; index = a - e.base; is = refl; row = q }

  -- one address awaited below, one written: the same variable just if the same address, in the shared part
  module _ (U : ℕ) {p q : List Entry} (xp : Ext σ P b (λ r. U ≤ r.low) p) (xq : Ext σ P b (λ r. r.low < U) q) where
    pub same_owner_lem : (a' a : ℕ) → same_owner (owner_at p a') (owner_at q a) ≡ eqb a' a && ltb a b
    same_owner_lem a' a = go (ℕ_discrete a' a) (dec_lt a b)
      where
        lose : (a' ≡ a → ⊥) → same_owner (owner_at p a') (owner_at q a) ≡ false
        lose n = same_owner-not _ _ (λ e. n (sym (owner_back σ p a' (ext_good xp)) ∙ ap (back σ) e ∙ owner_back σ q a (ext_good xq)))

        apart : a' ≡ a → b ≤ a → owner_at p a' ≡ owner_at q a → ⊥
        apart i l e =
            let u = ext_in a' (omega arith) xp in
            let v = ext_in a l xq in
            let o : in_slot u.slot u.index ≡ in_slot v.slot v.index = sym u.is ∙ e ∙ v.is in
            let s : u.slot ≡ v.slot = cc in
            let w : (σ u.slot).low ≡ (σ v.slot).low = ap (λ z. (σ z).low) s in
            omega (arith, u.row, v.row)

        go : Dec (a' ≡ a) → Dec (a < b) → same_owner (owner_at p a') (owner_at q a) ≡ eqb a' a && ltb a b
        go (no n) d = rw (ne_eqb a' a n) (lose n)
        go (yes i) (yes l) = rw (i, eq-eqb a a refl, lt-ltb a b l, ext_below a l xp, ext_below a l xq) (same_owner-refl (owner_at P a))
        go (yes i) (no l) = rw (eq-eqb a' a i, le-ltb a b (omega arith)) (same_owner-not _ _ (apart i (omega arith)))

-- ── the awaited owners of a row ─────────────────────────────────────────────────────────────────
or_and : (x y l : Bool) → (x && l) || (y && l) ≡ (x || y) && l
or_and true y true = refl
or_and true true false = refl
or_and true false false = refl
or_and false y l = refl

module _ (σ : Rows) (P : List Entry) (b : ℕ) (gP : GoodPath σ P) (U : ℕ) {q : List Entry} (xq : Ext σ P b (λ r. r.low < U) q) (a : ℕ)
    (small : a < 65536) where
  one_same : {p : List Entry} (ns : List ℕ) (w : ℕ) → Ext σ P b (λ r. U ≤ r.low) p →
      same_owner (get_or (owners_at p ns) w (in_environment nowhere)) (owner_at q a) ≡ eqb (address_of ns w) a && ltb a b
  unfolding owners_at address_of back
  one_same [] w xp =
      rw (ne_eqb nowhere a (omega arith)) (same_owner-not (in_environment nowhere) (owner_at q a) λ e. let z : nowhere ≡ a = ap (back σ) e ∙
      owner_back σ q a (ext_good σ P b gP xq) in omega arith)
  one_same {p} (n ∷ ns) zero xp = same_owner_lem σ P b gP U xp xq n a
  one_same (n ∷ ns) (suc w) xp = one_same ns w xp

  awaits_same : {p : List Entry} (ns ws : List ℕ) → Ext σ P b (λ r. U ≤ r.low) p →
      awaits_owner (owners_at p ns) ws (owner_at q a) ≡ awaits_address ns ws a && ltb a b
  unfolding awaits_owner awaits_address
  awaits_same ns [] xp = refl
  awaits_same ns (w ∷ ws) xp = rw (one_same ns w xp, awaits_same ns ws xp) (or_and (eqb (address_of ns w) a) (awaits_address ns ws a) (ltb a b))

-- ── the woken of a pending forest, by owner ─────────────────────────────────────────────────────
pub data Reach (σ : Rows) (P : List Entry) (b : ℕ) (Q : Row → Type 0) : List Entry → ℕ → Type 0 where
  at_start_lem : Reach σ P b Q P b
  deeper : {p : List Entry} {c : ℕ} → b ≤ c → Ext σ P b Q p → Reach σ P b Q p c

reach_step : {σ : Rows} {P : List Entry} {b : ℕ} {Q : Row → Type 0} {p : List Entry} {c : ℕ} (s : ℕ) → Reach σ P b Q p c → (σ s).base ≡ c → Q (σ s) →
    Ext σ P b Q (record { slot = s; base = c } ∷ p)
reach_step s at_start_lem e q = ext_one refl e q
reach_step s (deeper l x) e q = ext_more l e q x

reach_le : {σ : Rows} {P : List Entry} {b : ℕ} {Q : Row → Type 0} {p : List Entry} {c : ℕ} → Reach σ P b Q p c → b ≤ c
reach_le at_start_lem = le_refl _
reach_le (deeper l x) = l

module _ (listing : Listing) where
  unfoldable pub awaits_it_by : Owner → List Entry → ℕ → Record → Bool
  awaits_it_by o p b x = not x.is_new && awaits_owner (owners_at (record { slot = x.slot; base = b } ∷ p) x.names)
      (awaited (instruction_at listing x.routine x.place)) o

  unfoldable pub woken_by_owner : Owner → List Entry → ℕ → Tree → List ℕ
  woken_by_owner o p b nil = []
  woken_by_owner o p b (put x nil f) = cons_if (awaits_it_by o p b x) (key x) (woken_by_owner o p b f)
  woken_by_owner o p b (put x (put y k g) f) = woken_by_owner o (record { slot = x.slot; base = b } ∷ p) (b + length x.own)
      (put y k g) ++ woken_by_owner o p b f

  unfoldable pub woken_by_owner_up : Owner → List Variable → List Frame → List ℕ
  woken_by_owner_up o environment [] = []
  woken_by_owner_up o environment (f ∷ fs) = woken_by_owner o (path_of environment fs) (length (memory_of environment fs)) f.todo ++ woken_by_owner_up o
      environment fs

  woken_if-cons_if : (w : Bool) (a : ℕ) (x : Record) (f : Tree) →
      woken_if listing w a (put x nil f) ≡ cons_if (awaits_it listing a x && w) (key x) (woken_if listing w a f)
  unfolding woken_if woken_by cons_if
  woken_if-cons_if true a x f = ap (λ z. cons_if z (key x) (woken_by listing a f)) (and_yes (awaits_it listing a x))
    where
      and_yes : (b : Bool) → b ≡ b && true
      and_yes true = refl
      and_yes false = refl
  woken_if-cons_if false a x f = ap (λ z. cons_if z (key x) []) (and_no (awaits_it listing a x))
    where
      and_no : (b : Bool) → false ≡ b && false
      and_no true = refl
      and_no false = refl

  woken_if-append : (w : Bool) (a : ℕ) (x y : Record) (k g f : Tree) →
      woken_if listing w a (put x (put y k g) f) ≡ woken_if listing w a (put y k g) ++ woken_if listing w a f
  unfolding woken_if woken_by
  woken_if-append true a x y k g f = refl
  woken_if-append false a x y k g f = refl

  woken_if-nil : (w : Bool) (a : ℕ) → woken_if listing w a nil ≡ []
  unfolding woken_if woken_by
  woken_if-nil true a = refl
  woken_if-nil false a = refl

  and_assoc : (x y z : Bool) → x && (y && z) ≡ (x && y) && z
  and_assoc true y z = refl
  and_assoc false y z = refl

  module _ (σ : Rows) (P : List Entry) (b : ℕ) (gP : GoodPath σ P) (U : ℕ) {q : List Entry} (xq : Ext σ P b (λ r. r.low < U) q) (a : ℕ)
      (small : a < 65536) where
    pub forest_same : {p : List Entry} {c : ℕ} {t : Tree} {lo hi : ℕ} → U ≤ lo → Range lo hi t → Held σ true p c t →
        Reach σ P b (λ r. U ≤ r.low) p c → woken_by_owner (owner_at q a) p c t ≡ woken_if listing (ltb a b) a t
    unfolding woken_by_owner awaits_it_by awaits_it row_for
    forest_same l r held_nil h = sym (woken_if-nil (ltb a b) a)
    forest_same {p} {c} l r (held_put {x = x} {k = nil} {f = f} z m e hk hf) h =
        let w = parts r in
        let bindings_are : (σ x.slot).base ≡ c = ap (λ y. y.base) e in
        let lw : (σ x.slot).low ≡ x.low = ap (λ y. y.low) e in
        rw (
          awaits_same σ P b gP U xq a small x.names (awaited (instruction_at listing x.routine x.place))
              (reach_step x.slot h bindings_are (omega (arith, w.lowest))),
          forest_same {p = p} {c = c} {t = f} (omega (arith, w.lowest)) w.siblings hf h,
          and_assoc (not x.is_new) (awaits_address x.names (awaited (instruction_at listing x.routine x.place)) a) (ltb a b),
        )
        (sym (woken_if-cons_if (ltb a b) a x f))
    forest_same {p} {c} l r (held_put {x = x} {k = put y k g} {f = f} z m e hk hf) h =
        let w = parts r in
        let bindings_are : (σ x.slot).base ≡ c = ap (λ y. y.base) e in
        let lw : (σ x.slot).low ≡ x.low = ap (λ y. y.low) e in
        let bc : b ≤ c = reach_le h in
        rw (
          forest_same {t = put y k g} (omega (arith, w.lowest)) w.children hk
              (deeper (omega arith) (reach_step x.slot h bindings_are (omega (arith, w.lowest)))),
          forest_same {p = p} {c = c} {t = f} (omega (arith, w.lowest)) w.siblings hf h,
        )
        (sym (woken_if-append (ltb a b) a x y k g f))

  -- ── the same along the frames ─────────────────────────────────────────────────────────────────
  pub up_good : {σ : Rows} {environment : List Variable} {n : ℕ} {fs : List Frame} → HeldUp σ environment n fs → GoodPath σ (path_of environment fs)
  unfolding path_of row_for
  up_good held_top = good_nil
  up_good (held_under e d c u) = good_put (ap (λ y. y.base) e) (up_good u)

  ext_outer : {σ : Rows} {e : Entry} {P : List Entry} {b : ℕ} {T W : ℕ} {q : List Entry} → T ≤ W → (σ e.slot).base ≡ e.base →
      (σ e.slot).low < W → e.base ≤ b →
      Ext σ (e ∷ P) b (λ r. r.low < T) q → Ext σ P e.base (λ r. r.low < W) q
  ext_outer {σ} {e} {P} {b} l g lw m (ext_one {e = i} h k j) = let n : e.base ≤ i.base =
      omega arith in ext_more n k (le_trans j l) (ext_one refl g lw)
  ext_outer {σ} {e} {P} {b} l g lw m (ext_more {e = i} h k j x) = let n : e.base ≤ i.base =
      omega arith in ext_more n k (le_trans j l) (ext_outer l g lw m x)

  reach_outer : {σ : Rows} {e : Entry} {P : List Entry} {b : ℕ} {T W c : ℕ} {q : List Entry} → T ≤ W → (σ e.slot).base ≡ e.base →
      (σ e.slot).low < W → e.base ≤ b →
      Reach σ (e ∷ P) b (λ r. r.low < T) q c → Ext σ P e.base (λ r. r.low < W) q
  reach_outer l g lw m at_start_lem = ext_one refl g lw
  reach_outer l g lw m (deeper h x) = ext_outer l g lw m x

  pub up_same : {σ : Rows} {environment : List Variable} {n : ℕ} {fs : List Frame} {q : List Entry} {c : ℕ} (lo hi T : ℕ) (t : Tree) (a : ℕ) →
      a < 65536 → (r : Range lo hi (plug fs t)) → T ≤ (hole lo hi fs t r).upto → HeldUp σ environment n fs →
      Reach σ (path_of environment fs) (length (memory_of environment fs)) (λ r. r.low < T) q c →
      woken_by_owner_up (owner_at q a) environment fs ≡ woken_up listing environment fs a
  unfolding plug hole hole_in path_of memory_of woken_by_owner_up woken_up row_for
  up_same lo hi T t a small r v held_top h = refl
  up_same {σ} {environment} {n} {q = q} lo hi T t a small r v (held_under {f = f} {fs = fs} e d k u) h =
      let o = hole lo hi fs (f.done ⋈ put f.self t f.todo) r in
      let s = range_split f.done (put f.self t f.todo) o.inside in
      let w = parts s.right in
      let bindings_are : (σ f.self.slot).base ≡ length (memory_of environment fs) = ap (λ y. y.base) e in
      let lw : (σ f.self.slot).low ≡ f.self.low = ap (λ y. y.low) e in
      let up : f.self.low + width f.self ≤ o.upto = range_le w.siblings in
      let le : length (memory_of environment fs) ≤ length (memory_of environment fs ++ f.self.own) = simp length-append (omega arith) in
      let x : Ext σ (path_of environment fs) (length (memory_of environment fs)) (λ r. r.low < f.self.low + width f.self) q =
      reach_outer v bindings_are (omega (arith, w.wider)) le h in
      rw (
        forest_same σ (path_of environment fs) (length (memory_of environment fs)) (up_good u) (f.self.low + width f.self) x a small (le_refl _)
            w.siblings k at_start_lem,
        up_same lo hi (f.self.low + width f.self) (f.done ⋈ put f.self t f.todo) a small r up u (deeper (le_refl _) x),
      )
