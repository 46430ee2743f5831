-- Entries of an array, the last one first; an entry stored.
use mathlib.Core.List.{List, [], ◌∷◌, ◌++◌, append_assoc}
use mathlib.Core.Path.{◌≡◌, refl, sym, ap, ap₂, ◌∙◌}
use Prim.Native.Nat.{ℕ, zero, suc, ◌+◌, ◌-◌, ◌≤◌, ◌<◌}
use native.Mathlib.Omega.{arith}
use lib.ListN.{length, get_or, set, take}
use lib.Seq.{get_or-set_same, get_or-set_other, get_or-take, length-take-le, take-suc}
use borrow.Rule.Slice.PartMut.{put_mid, post_of}
use Rattle.std.proofs.lemmas.List.{get_or_append_left, get_or-append_right}
use Rattle.engine_ready.specs.Slots.{falling, slots_of}
use Rattle.engine_ready.specs.declared.ReadyList.{ReadyList}

pub length_falling : (p : List ℕ) (i n : ℕ) → length (falling p i n) ≡ n
unfolding falling
length_falling p i zero = refl
length_falling p i (suc n) = ap suc (length_falling p i n)

-- The lowest entry comes last.
pub falling_last : (p : List ℕ) (i n : ℕ) → falling p i (suc n) ≡ falling p (suc i) n ++ (get_or p i 0 ∷ [])
unfolding falling
falling_last p i zero = let e : i + 0 ≡ i = omega arith in rw e
falling_last p i (suc n) =
    let e : i + suc n ≡ suc i + n = omega arith in
    ap₂ (λ (k : ℕ) (r : List ℕ). get_or p k 0 ∷ r) e (falling_last p i n)

-- The entries from i on, then those before i.
pub falling_split : (p : List ℕ) (i n : ℕ) → falling p 0 (i + n) ≡ falling p i n ++ falling p 0 i
unfolding falling
falling_split p i zero = let e : i + 0 ≡ i = omega arith in rw e
falling_split p i (suc n) =
    let e : i + suc n ≡ suc (i + n) = omega arith in
    let z : 0 + (i + n) ≡ i + n = omega arith in
    rw (e, z) (ap (λ (r : List ℕ). get_or p (i + n) 0 ∷ r) (falling_split p i n))

-- The same entries from i on in one array and from j on in another.
pub falling_alike : (p q : List ℕ) (i j n : ℕ) → ((k : ℕ) → k < n → get_or p (i + k) 0 ≡ get_or q (j + k) 0) → falling p i n ≡ falling q j n
unfolding falling
falling_alike p q i j zero h = refl
falling_alike p q i j (suc n) h = ap₂ (λ (x : ℕ) (r : List ℕ). x ∷ r) (h n (omega arith)) (falling_alike p q i j n (λ k l. h k (omega arith)))

-- A store outside of the entries.
pub falling_set : (p : List ℕ) (k v i n : ℕ) → ((j : ℕ) → i ≤ j → j < i + n → j ≡ k → ⊥) → falling (set p k v) i n ≡ falling p i n
falling_set p k v i n h = falling_alike (set p k v) p i i n (λ j l. get_or-set_other p k (i + j) v 0 (h (i + j) (omega arith) (omega arith)))

-- v stored at i, behind the n entries after it.
pub falling_stored : (p : List ℕ) (i n v : ℕ) → i < length p → falling (set p i v) 0 (suc (i + n)) ≡ falling p (suc i) n ++ (v ∷ falling p 0 i)
falling_stored p i n v h =
    let e : suc (i + n) ≡ i + suc n = omega arith in
    ap (falling (set p i v) 0) e
    ∙ falling_split (set p i v) i (suc n)
    ∙ ap₂ (λ (a b : List ℕ). a ++ b) (falling_last (set p i v) i n) (falling_set p i v 0 i (λ j a b q. omega arith))
    ∙ rw (falling_set p i v (suc i) n (λ j a b q. omega arith), get_or-set_same p i v 0 h, append_assoc)

pub length_slots : (q : ReadyList) → length (slots_of q) ≡ q.count
unfolding slots_of
length_slots q = length_falling q.places 0 q.count

-- ── new slots before the others ───────────────────────────────────────────────────────────────────
-- v stored behind the n entries in use.
pub falling_put : (p : List ℕ) (n v : ℕ) → n < length p → falling (set p n v) 0 (suc n) ≡ v ∷ falling p 0 n
unfolding falling
falling_put p n v room =
    let z : 0 + n ≡ n = omega arith in
    ap₂ (λ (x : ℕ) (r : List ℕ). x ∷ r) (rw z (get_or-set_same p n v 0 room)) (falling_set p n v 0 n (λ j a b q. omega arith))

-- New slot i stored below those before it, which end at e.
pub put_below : (p new : List ℕ) (e i : ℕ) → i < length new → i < e → e ≤ length p → falling p (e - i) i ≡ take i new
    → falling (set p (e - 1 - i) (get_or new i 0)) (e - suc i) (suc i) ≡ take (suc i) new
put_below p new e i few room long h =
    let a = e - suc i in
    let x = get_or new i 0 in
    let down : e - 1 - i ≡ a = omega arith in
    let up : e - i ≡ suc a = omega arith in
    rw down (
    falling_last (set p a x) a i
    ∙ rw (falling_set p a x (suc a) i (λ j l m q. omega arith), get_or-set_same p a x 0 (omega arith)) (ap (λ (r : List ℕ). r ++ (x ∷ [])) (rw up at h))
    ∙ sym (take-suc new i 0 few)
    )

-- The new slots and, below them, the others.
pub put_all : (p new others : List ℕ) (n count : ℕ) → falling p n count ≡ take count new → falling p 0 n ≡ others → falling p 0 (n + count) ≡ take count new ++ others
put_all p new others n count h e = falling_split p n count ∙ ap₂ (λ (a b : List ℕ). a ++ b) h e

-- The slots of `new` over the entries from n on.
pub falling_over : (p new : List ℕ) (n k : ℕ) → n + length new ≤ length p → k ≡ length new → falling (put_mid n k p new) 0 (n + length new) ≡ falling new 0 (length new) ++ falling p 0 n
falling_over p new n k room e =
    let rest = new ++ post_of n k p in
    let long : length (take n p) ≡ n = length-take-le n p (omega arith) in
    let front = falling_alike (put_mid n k p new) p 0 0 n (λ j h. let o : 0 + j ≡ j = omega arith in rw o (get_or_append_left (take n p) rest 0 j (omega arith) ∙ get_or-take n p j 0 h)) in
    let back = falling_alike (put_mid n k p new) new n 0 (length new) (λ j h.
    let z : n + j - n ≡ j = omega arith in
    let o : 0 + j ≡ j = omega arith in
    get_or-append_right (take n p) rest n (n + j) 0 long (omega arith) ∙ rw (z, o) (get_or_append_left new (post_of n k p) 0 j h)) in
    falling_split (put_mid n k p new) n (length new) ∙ ap₂ (λ (a b : List ℕ). a ++ b) back front
