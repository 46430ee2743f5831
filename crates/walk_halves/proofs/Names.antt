-- Main's names are its addresses, and the names in one child field stand in no other.
-- Letters: n a name, ns names, args the names in the grower's field c, d another child field, cs child fields.
use mathlib.Core.Path.{◌≡◌, refl, sym, ap, ap₂, ◌∙◌}
use mathlib.Core.Bool.{Bool, true, false, ◌||◌, not}
use mathlib.Core.List.{List, [], ◌∷◌, ◌++◌, Memᴰ}
use Prim.Native.Nat.{ℕ, zero, suc, ◌+◌, ◌≤◌, ◌<◌}
use native.Mathlib.Omega.{arith}
use native.Mathlib.Nat.{zero-add, add-zero, suc-add, add-suc}
use native.Mathlib.Decide.{dec_lt}
use borrow.Author.Tests.{eqb-true, eq-eqb, not-true}
use lib.Dec.{eqb}
use lib.ListN.{length, replicate, get_or-eq_default}
use Rattle.listing.specs.Lists.{all}
use Rattle.listing.specs.Questions.{is_by_reference}
use Rattle.listing.specs.Listing.{Call, Kind, by_reference, by_value}
use Rattle.walk.specs.State.{Variable, new_variable}
use Rattle.walk.specs.Memory.{nowhere, address_of, addresses_of, consecutive, bind_names, own_variables}
use Rattle.walk_halves.specs.Halves.{among, share_none, all_apart_lem}
use Rattle.walk_laws.proofs.Booleans.{false_is_not_true, and_left, and_right}
use Rattle.walk_halves.proofs.Reach.{Zone, AllIn, none_passed, one_passed}

-- ── main's names ──────────────────────────────────────────────────────────────────────────────────
consecutive_at : (k a n : ℕ) → n < k → address_of (consecutive k a) n ≡ a + n
unfolding address_of consecutive
consecutive_at zero a n h = absurd (omega arith)
consecutive_at (suc k) a zero h = sym (add-zero a)
consecutive_at (suc k) a (suc n) h = consecutive_at k (suc a) n (omega arith) ∙ omega arith

length_consecutive : (k a : ℕ) → length (consecutive k a) ≡ k
unfolding consecutive
length_consecutive zero a = refl
length_consecutive (suc k) a = ap suc (length_consecutive k (suc a))

-- Each of main's names has its own number as its address; any other lies past main's variables.
pub data OwnNumber (floor n a : ℕ) : Type 0 where
  own_number : a ≡ n → OwnNumber floor n a
  past_main : floor ≤ a → OwnNumber floor n a

pub main_names_lem : (floor n : ℕ) → floor ≤ 65536 → OwnNumber floor n (address_of (consecutive floor 0) n)
main_names_lem floor n h = go (dec_lt n floor)
  where
    go : Dec (n < floor) → OwnNumber floor n (address_of (consecutive floor 0) n)
    go (yes l) = own_number (consecutive_at floor 0 n l ∙ zero-add n)
    go (no l) =
        let out : address_of (consecutive floor 0) n ≡ nowhere = unfold address_of in
        get_or-eq_default (consecutive floor 0) nowhere (omega (arith, length_consecutive floor 0)) in
        past_main (omega arith)

addresses_of_environment : (k j a : ℕ) → a + j ≤ k → addresses_of (consecutive k 0) (consecutive j a) ≡ consecutive j a
unfolding addresses_of consecutive
addresses_of_environment k zero a h = refl
addresses_of_environment k (suc j) a h = ap₂ ◌∷◌ (consecutive_at k 0 a (omega arith) ∙ zero-add a) (addresses_of_environment k j (suc a) (omega arith))

bound_in_a_row : (j a locals : ℕ) → bind_names (replicate j by_reference) (consecutive j a) locals (a + j) ≡ consecutive (j + locals) a
unfolding bind_names consecutive
bound_in_a_row zero a locals = rw (add-zero a, zero-add locals)
bound_in_a_row (suc j) a locals = rw (add-suc a j, ← (suc-add a j), bound_in_a_row j (suc a) locals, suc-add j locals)

-- All of main's arguments are by reference: its names are 0, 1, 2 and so on.
pub main_bound : (size locals : ℕ) → bind_names (replicate size by_reference) (addresses_of (consecutive size 0) (consecutive size 0)) locals size ≡
    consecutive (size + locals) 0
main_bound size locals =
    ap (λ passed. bind_names (replicate size by_reference) passed locals size) (addresses_of_environment size size 0 (omega arith)) ∙
    ap (bind_names (replicate size by_reference) (consecutive size 0) locals) (sym (zero-add size)) ∙ bound_in_a_row size 0 locals

pub all_references : (size : ℕ) (kinds : List Kind) → length kinds ≡ size → all is_by_reference kinds ≡ true → kinds ≡ replicate size by_reference
unfolding all
all_references zero [] l h = refl
all_references (suc size) [] l h = absurd (omega arith)
all_references zero (k ∷ kinds) l h = absurd (omega arith)
all_references (suc size) (by_reference ∷ kinds) l h = ap (λ ks. by_reference ∷ ks) (all_references size kinds (omega arith) h)
all_references (suc size) (by_value ∷ kinds) l h = false_is_not_true h

pub main_owns : (now size : ℕ) (arguments : List ℕ) (locals : ℕ) (name : ℕ → Variable) →
    own_variables now (replicate size by_reference) arguments locals name ≡ replicate locals (new_variable now 0)
unfolding own_variables
main_owns now zero arguments locals name = refl
main_owns now (suc size) [] locals name = main_owns now size [] locals name
main_owns now (suc size) (n ∷ arguments) locals name = main_owns now size arguments locals name

-- ── names apart ───────────────────────────────────────────────────────────────────────────────────
or_left : (a b : Bool) → a ≡ true → a || b ≡ true
or_left a b e = rw e

or_right : (a b : Bool) → b ≡ true → a || b ≡ true
or_right true b e = refl
or_right false b e = e

none_among : (n : ℕ) (ns ms : List ℕ) → all (λ k. not (among k ms)) ns ≡ true → among n ns ≡ true → among n ms ≡ false
unfolding all among
none_among n [] ms h e = false_is_not_true e
none_among n (m ∷ ns) ms h e = go (eqb n m) refl (none_among n ns ms (and_right (not (among m ms)) _ h)) e
  where
    go : (x : Bool) → eqb n m ≡ x → (among n ns ≡ true → among n ms ≡ false) → x || among n ns ≡ true → among n ms ≡ false
    go true k rest f = rw (eqb-true n m k) (not-true (among m ms) (and_left (not (among m ms)) _ h))
    go false k rest f = rest f

-- Two fields that share no name: a name of the first is none of the second's, and the other way round.
first_aside : (c d : Call) → share_none c d ≡ true → (n : ℕ) → among n c.arguments ≡ true → among n d.arguments ≡ false
unfolding share_none
first_aside c d h n e = none_among n c.arguments d.arguments h e

second_aside : (c d : Call) → share_none c d ≡ true → (n : ℕ) → among n d.arguments ≡ true → among n c.arguments ≡ false
second_aside c d h n e = go (among n c.arguments) refl
  where
    go : (x : Bool) → among n c.arguments ≡ x → among n c.arguments ≡ false
    go true k = false_is_not_true (sym (first_aside c d h n k) ∙ e)
    go false k = k

-- Child fields with none of the grower's names.
pub data Aside (args : List ℕ) : List Call → Type 0 where
  none_aside : Aside args []
  one_aside : {d : Call} {cs : List Call} → ((n : ℕ) → among n d.arguments ≡ true → among n args ≡ false) → Aside args cs → Aside args (d ∷ cs)

all_aside : (c : Call) (cs : List Call) → all (share_none c) cs ≡ true → Aside c.arguments cs
unfolding all
all_aside c [] h = none_aside
all_aside c (d ∷ cs) h = one_aside (second_aside c d (and_left (share_none c d) _ h)) (all_aside c cs (and_right (share_none c d) _ h))

aside_from : (d c : Call) (before after : List Call) → all (share_none d) (before ++ c ∷ after) ≡ true → share_none d c ≡ true
unfolding all
aside_from d c [] after h = and_left (share_none d c) _ h
aside_from d c (e ∷ before) after h = aside_from d c before after (and_right (share_none d e) _ h)

pub record Apart (c : Call) (before after : List Call) : Type 0 where
  pub earlier : Aside c.arguments before
  pub later : Aside c.arguments after

pub apart : (c : Call) (before after : List Call) → all_apart_lem (before ++ c ∷ after) ≡ true → Apart c before after
unfolding all_apart_lem
apart c [] after h = record { earlier = none_aside; later = all_aside c after (and_left (all (share_none c) after) _ h) }
apart c (d ∷ before) after h =
    let rest = apart c before after (and_right (all (share_none d) (before ++ c ∷ after)) _ h) in
    let none = aside_from d c before after (and_left (all (share_none d) (before ++ c ∷ after)) _ h) in
    record { earlier = one_aside (first_aside d c none) rest.earlier; later = rest.later }

-- A grower's field with those before and after it.
pub record Between (c : Call) (cs : List Call) : Type 0 where
  pub before : List Call
  pub after : List Call
  pub all : cs ≡ before ++ c ∷ after

pub between : (c : Call) (cs : List Call) → Memᴰ c cs → Between c cs
between c _ (Memᴰ.head {x = d} {xs = cs} e) = record { before = []; after = cs; all = rw e }
between c _ (Memᴰ.tail {x = d} {xs = cs} m) =
    let rest = between c cs m in record { before = d ∷ rest.before; after = rest.after; all = ap (λ l. d ∷ l) rest.all }

-- ── the names passed to a child ───────────────────────────────────────────────────────────────────
pub passed_in : (zone : Zone) (names ns : List ℕ) → ((n : ℕ) → among n ns ≡ true → zone.In (address_of names n)) → AllIn zone (addresses_of names ns)
unfolding addresses_of among
passed_in zone names [] h = none_passed
passed_in zone names (n ∷ ns) h =
    one_passed (h n (or_left (eqb n n) _ (eq-eqb n n refl))) (passed_in zone names ns (λ m e. h m (or_right (eqb m n) _ e)))
