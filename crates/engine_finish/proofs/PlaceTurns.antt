-- Places written slot by slot, the header made 0 word by word; the slots of an order differ.
use mathlib.Core.Path.{◌≡◌, refl, sym, ap, subst, ◌∙◌}
use mathlib.Core.Bool.{Bool, true, false}
use mathlib.Core.List.{List, [], ◌∷◌, ◌++◌}
use Prim.Native.Nat.{ℕ, zero, suc, ◌+◌, ◌-◌, ◌≤◌, ◌<◌}
use native.Mathlib.Decide.{ℕ_discrete}
use native.Mathlib.Omega.{arith}
use lib.Dec.{ltb}
use Rattle.std.proofs.lemmas.List.{length-replicate, get_or-replicate, get_or_append_left, get_or-append_right}
use lib.ListN.{replicate, length, get_or, drop, length-append, length-drop}
use lib.Seq.{get_or-drop}
use Rattle.engine_rows.specs.Rows.{Rows}
use Rattle.engine_rows.specs.Order.{order_key, before_else, insert_in_order, order_if, order_below_lem}
use Rattle.engine_rows.proofs.Sorted.{In, here, there, Either, this, that}
use Rattle.engine_rows.proofs.Folding.{Distinct, distinct_nil, distinct_put}
use Rattle.engine_blocks.specs.Blocks.{Block, block, rows_of}
use Rattle.engine_blocks.specs.Changes.{InBlock, put_in}
use Rattle.engine_blocks.proofs.InBlocks.{other_block}
use Rattle.engine_order.specs.Listed.{listed_in_lem, SlotsBelow, OrderBuilt}
use Rattle.engine_order.specs.Placed.{SlotsDiffer, PlacesSet, HeaderCleared}
use Rattle.engine_finish.proofs.KeptRecords.{place_of, distinct_places}
use Rattle.engine_order.proofs.Ordering.{listed_length, listed_word}
use Rattle.engine_order.proofs.OrderTurns.{order_below}

-- ── the header ────────────────────────────────────────────────────────────────────────────────────
-- the first n words filled with 0
pub first_zero : (n : ℕ) {m zeros : List ℕ} → n ≤ length m → zeros ≡ replicate n 0 → HeaderCleared n m (zeros ++ drop n m)
first_zero n {m} {zeros} room e =
    rw e (record {
      size = simp (length-append, length-replicate, length-drop) (omega arith);
      zero = λ j h. get_or_append_left (replicate n 0) (drop n m) 0 j (omega (arith, length-replicate {A = ℕ} n 0)) ∙ get_or-replicate n j 0 0 h;
      later = λ j h. let back : n + (j - n) ≡ j = omega arith in get_or-append_right (replicate n 0) (drop n m) n j 0 (length-replicate {A = ℕ} n 0) h ∙ (get_or-drop n m (j - n) 0 ∙ ap (λ (k : ℕ). get_or m k 0) back);
    })

-- ── places ────────────────────────────────────────────────────────────────────────────────────────
pub none_placed : (m : List ℕ) → PlacesSet 0 m m
none_placed m =
    record { size = refl; header = λ j h. refl; past = λ j h. refl; placed = λ k h. absurd (let z : ⊥ = omega arith in z); others = λ s h n. refl }

module _ (k count : ℕ) {a m : List ℕ} (h : k < count) (few : count ≤ 64) (long : 12288 ≤ length a) (below : SlotsBelow (listed_in_lem a count))
    (differ : SlotsDiffer (listed_in_lem a count)) (done : PlacesSet k a m) where
  listed : length (listed_in_lem a count) ≡ count
  listed = listed_length a count (omega arith)

  same_slot : get_or m (64 + k) 0 ≡ get_or a (64 + k) 0
  same_slot = done.header (64 + k) (omega arith)

  small_here : get_or a (64 + k) 0 < 64
  small_here = rw (listed_word a count k h) at (below.below k (omega (arith, listed)))

  pub slot_small : get_or m (64 + k) 0 < 64
  slot_small = rw same_slot small_here

  other_slot : (j : ℕ) → j < k → get_or a (64 + j) 0 ≡ get_or a (64 + k) 0 → ⊥
  other_slot j l e =
      let z : j ≡ k = differ.differ j k (omega (arith, listed)) (omega (arith, listed)) (listed_word a count j (omega arith) ∙ (e ∙ sym (listed_word a count k h))) in
      omega arith

  module _ {m' : List ℕ} (next : InBlock (get_or m (64 + k) 0) m m' (put_in (block m (get_or m (64 + k) 0)) 0 (k + 1))) where
    here_now : InBlock (get_or a (64 + k) 0) m m' (put_in (block m (get_or a (64 + k) 0)) 0 (k + 1))
    here_now = subst (λ (s : ℕ). InBlock s m m' (put_in (block m s) 0 (k + 1))) same_slot next

    pub one_more_placed : PlacesSet (k + 1) a m'
    one_more_placed =
        record {
          size = next.size ∙ done.size;
          header = λ j l. here_now.below j (omega arith) ∙ done.header j l;
          past = λ j l. here_now.above j (omega (arith, small_here)) ∙ done.past j l;
          placed = λ j l. which j l (ℕ_discrete j k);
          others = λ s l none. other_block here_now s (λ e. none k (omega arith) (sym e)) ∙ done.others s l (λ j g e. none j (omega arith) e);
        }
      where
        which : (j : ℕ) → j < k + 1 → Dec (j ≡ k) → block m' (get_or a (64 + j) 0) ≡ put_in (block a (get_or a (64 + j) 0)) 0 (suc j)
        which j l (yes e) =
            let f : k + 1 ≡ suc k = omega arith in
            rw (e, ← f) (here_now.words ∙ ap (λ (b : Block). put_in b 0 (k + 1)) (done.others (get_or a (64 + k) 0) (omega (arith, small_here)) other_slot))
        which j l (no n) = other_block here_now (get_or a (64 + j) 0) (other_slot j (omega (arith, n))) ∙ done.placed j (omega (arith, n))

-- ── the slots of an order differ ──────────────────────────────────────────────────────────────────
in_insert : (rows : Rows) (s x : ℕ) (l : List ℕ) → In x (insert_in_order rows s l) → Either (x ≡ s) (In x l)
unfolding insert_in_order before_else
in_insert rows s x [] (here e) = this e
in_insert rows s x [] (there i) = that i
in_insert rows s x (y ∷ l) i = go (ltb (order_key (rows s)) (order_key (rows y))) (in_insert rows s x l) i
  where
    further : Either (x ≡ s) (In x l) → Either (x ≡ s) (In x (y ∷ l))
    further (this e) = this e
    further (that j) = that (there j)

    go : (t : Bool) → (In x (insert_in_order rows s l) → Either (x ≡ s) (In x l)) → In x (before_else t s y l (insert_in_order rows s l)) → Either (x ≡ s) (In x (y ∷ l))
    go true rest (here e) = this e
    go true rest (there j) = that j
    go false rest (here e) = that (here e)
    go false rest (there j) = further (rest j)

distinct_insert : (rows : Rows) (s : ℕ) (l : List ℕ) → (In s l → ⊥) → Distinct l → Distinct (insert_in_order rows s l)
unfolding insert_in_order before_else
distinct_insert rows s [] n d = distinct_put n d
distinct_insert rows s (x ∷ l) n (distinct_put f d) = go (ltb (order_key (rows s)) (order_key (rows x))) (distinct_insert rows s l (λ i. n (there i)) d)
  where
    absent : Either (x ≡ s) (In x l) → ⊥
    absent (this e) = n (here (sym e))
    absent (that i) = f i

    go : (t : Bool) → Distinct (insert_in_order rows s l) → Distinct (before_else t s x l (insert_in_order rows s l))
    go true rest = distinct_put n (distinct_put f d)
    go false rest = distinct_put (λ i. absent (in_insert rows s x l i)) rest

order_distinct : (rows : Rows) (n : ℕ) → Distinct (order_below_lem rows n)
unfolding order_below_lem order_if
order_distinct rows zero = distinct_nil
order_distinct rows (suc n) = go (rows n).used (order_distinct rows n)
  where
    absent : In n (order_below_lem rows n) → ⊥
    absent i =
        let p = place_of (order_below_lem rows n) i in
        let z : get_or (order_below_lem rows n) p.place 0 < n = (order_below rows n).below p.place p.within in
        omega (arith, p.is)

    go : (t : Bool) → Distinct (order_below_lem rows n) → Distinct (order_if t rows n (order_below_lem rows n))
    go true d = distinct_insert rows n (order_below_lem rows n) absent d
    go false d = d

pub built_differ : {n count : ℕ} {a m : List ℕ} → OrderBuilt n count a m → SlotsDiffer (listed_in_lem m count)
built_differ {n} {count} {a} {m} done = rw done.listed (record { differ = distinct_places (order_below_lem (rows_of a) n) (order_distinct (rows_of a) n) })
