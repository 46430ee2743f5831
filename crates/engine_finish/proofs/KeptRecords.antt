-- What is kept in the rows, in an order of slots, as the machine's records; slots of an order by their place in it.
-- Letters: σ rows, ss slots, k a place in the order.
use mathlib.Core.Path.{◌≡◌, refl, sym, ap, ap₂, ◌∙◌}
use mathlib.Core.Bool.{Bool, true, false}
use mathlib.Core.List.{List, [], ◌∷◌, ◌++◌}
use Prim.Native.Nat.{ℕ, zero, suc, ◌<◌}
use native.Mathlib.Omega.{arith}
use lib.ListN.{length, get_or}
use Rattle.listing.specs.Listing.{Listing, Call}
use Rattle.walk.specs.State.{Variable, Node, Forest}
use Rattle.walk.specs.Question7.{Asleep, waits, joins, LiveChildren, no_more, ended, lives}
use Rattle.engine_rows.specs.Rows.{Row, Rows, with_own}
use Rattle.engine_rows.specs.Beginning.{unmarked_rows}
use Rattle.engine_rows.specs.Order.{order_key, insert_in_order, before_else, order_if, order_below_lem, walking_order}
use Rattle.engine_rows.specs.Records.{Kept, kept_of_row, kept_in, kept_of_node, kept_of}
use Rattle.engine_rows.proofs.Sorted.{In, here, there}
use Rattle.engine_rows.proofs.Folding.{Distinct, distinct_put}
use Rattle.machine.specs.Records.{Record, records_of_node, records_of}
use Rattle.machine.specs.Layout.{no_record}

-- ── records of what is kept ───────────────────────────────────────────────────────────────────────
unfoldable pub to_record : Kept → Record
to_record x = record { level = x.level; child = x.child; place = x.place; own = x.own }

unfoldable pub to_records : List Kept → List Record
to_records [] = []
to_records (x ∷ xs) = to_record x ∷ to_records xs

append_records : (xs ys : List Kept) → to_records (xs ++ ys) ≡ to_records xs ++ to_records ys
unfolding to_records
append_records [] ys = refl
append_records (x ∷ xs) ys = ap (λ (l : List Record). to_record x ∷ l) (append_records xs ys)

module _ {listing : Listing} {rest : List Variable → Bool} where
  mutual
    unfolding records_of kept_of to_records to_record

    node_records : {level base : ℕ} {names : List ℕ} {c : Call} {n : Node} (a : Asleep listing rest level base names c n) (i : ℕ) →
        records_of_node a i ≡ to_records (kept_of_node a i)
    node_records (waits m e) i = refl
    node_records (joins {level = level} {place = place} {own = own} m e l a d) i =
        ap (λ (q : List Record). record { level = level; child = i; place = place; own = own } ∷ q) (forest_records d 0)

    pub forest_records : {level base : ℕ} {names : List ℕ} {cs : List Call} {f : Forest} (d : LiveChildren listing rest level base names cs f) (i : ℕ) →
        records_of d i ≡ to_records (kept_of d i)
    forest_records no_more i = refl
    forest_records (ended d) i = forest_records d (suc i)
    forest_records (lives a d) i = ap₂ ◌++◌ (node_records a i) (forest_records d (suc i)) ∙ sym (append_records (kept_of_node a i) (kept_of d (suc i)))

-- ── the records in an order of slots ──────────────────────────────────────────────────────────────
unfoldable pub row_record : Row → Record
row_record r = record { level = r.level; child = r.child; place = r.place; own = r.own }

pub kept_length : (σ : Rows) (ss : List ℕ) → length (to_records (kept_in σ ss)) ≡ length ss
unfolding to_records kept_in
kept_length σ [] = refl
kept_length σ (s ∷ ss) = ap suc (kept_length σ ss)

pub kept_at : (σ : Rows) (ss : List ℕ) (k : ℕ) → k < length ss → get_or (to_records (kept_in σ ss)) k no_record ≡ row_record (σ (get_or ss k 0))
unfolding to_records kept_in to_record kept_of_row row_record
kept_at σ [] k h = absurd (let z : ⊥ = omega arith in z)
kept_at σ (s ∷ ss) zero h = refl
kept_at σ (s ∷ ss) (suc k) h = kept_at σ ss k (omega arith)

module _ {listing : Listing} {rest : List Variable → Bool} {level base : ℕ} {names : List ℕ} {cs : List Call} {f : Forest}
    (d : LiveChildren listing rest level base names cs f) (σ : Rows) (ss : List ℕ) (kept : kept_in σ ss ≡ kept_of d 0) where
  records_are : records_of d 0 ≡ to_records (kept_in σ ss)
  records_are = forest_records d 0 ∙ ap to_records (sym kept)

  pub records_length : length (records_of d 0) ≡ length ss
  records_length = ap length records_are ∙ kept_length σ ss

  pub record_at_lem : (k : ℕ) → k < length ss → get_or (records_of d 0) k no_record ≡ row_record (σ (get_or ss k 0))
  record_at_lem k h = ap (λ (l : List Record). get_or l k no_record) records_are ∙ kept_at σ ss k h

-- ── the order, with and without marks ─────────────────────────────────────────────────────────────
insert_unmarked : (σ : Rows) (s : ℕ) (l : List ℕ) → insert_in_order (unmarked_rows σ) s l ≡ insert_in_order σ s l
unfolding insert_in_order order_key unmarked_rows with_own before_else
insert_unmarked σ s [] = refl
insert_unmarked σ s (x ∷ l) = rw (insert_unmarked σ s l)

order_unmarked : (σ : Rows) (n : ℕ) → order_below_lem (unmarked_rows σ) n ≡ order_below_lem σ n
unfolding order_below_lem order_if unmarked_rows with_own
order_unmarked σ zero = refl
order_unmarked σ (suc n) = ap (order_if (σ n).used (unmarked_rows σ) n) (order_unmarked σ n) ∙ go (σ n).used
  where
    go : (b : Bool) → order_if b (unmarked_rows σ) n (order_below_lem σ n) ≡ order_if b σ n (order_below_lem σ n)
    go true = insert_unmarked σ n (order_below_lem σ n)
    go false = refl

pub walking_order_unmarked : (σ : Rows) → walking_order (unmarked_rows σ) ≡ walking_order σ
unfolding walking_order
walking_order_unmarked σ = order_unmarked σ 64

-- ── places in an order ────────────────────────────────────────────────────────────────────────────
pub slot_in : (l : List ℕ) (k : ℕ) → k < length l → In (get_or l k 0) l
slot_in [] k h = absurd (let z : ⊥ = omega arith in z)
slot_in (x ∷ l) zero h = here refl
slot_in (x ∷ l) (suc k) h = there (slot_in l k (omega arith))

pub record PlaceOf (s : ℕ) (l : List ℕ) : Type 0 where
  pub place : ℕ
  pub within : place < length l
  pub is : get_or l place 0 ≡ s

pub place_of : {s : ℕ} (l : List ℕ) → In s l → PlaceOf s l
place_of (x ∷ l) (here e) = record { place = 0; within = omega arith; is = sym e }
place_of (x ∷ l) (there i) = let p = place_of l i in record { place = suc p.place; within = omega (arith, p.within); is = p.is }
place_of {s = s} [] x' = elim x' [ ]

pub distinct_places : (l : List ℕ) → Distinct l → (i k : ℕ) → i < length l → k < length l → get_or l i 0 ≡ get_or l k 0 → i ≡ k
distinct_places [] d i k h g e = absurd (let z : ⊥ = omega arith in z)
distinct_places (x ∷ l) d zero zero h g e = refl
distinct_places (x ∷ l) (distinct_put n d) zero (suc k) h g e = absurd (n (rw e (slot_in l k (omega arith))))
distinct_places (x ∷ l) (distinct_put n d) (suc i) zero h g e = absurd (n (rw (sym e) (slot_in l i (omega arith))))
distinct_places (x ∷ l) (distinct_put n d) (suc i) (suc k) h g e = ap suc (distinct_places l d i k (omega arith) (omega arith) e)
