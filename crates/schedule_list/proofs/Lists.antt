-- Edges written into the three lists, one run behind another. Letters: xs and ys runs of edges, p the place of the first.
use mathlib.Core.Path.{◌≡◌, refl, sym, ap, ◌∙◌}
use mathlib.Core.List.{List, [], ◌∷◌, ◌++◌, map, map-append}
use Prim.Native.Nat.{ℕ, ◌+◌, ◌-◌, ◌≤◌, ◌<◌}
use native.Mathlib.Omega.{arith}
use lib.Dec.{eqb}
use lib.ListN.{length, set, length-append, length-map}
use lib.Seq.{sets, length-sets}
use Rattle.page_rows.proofs.Stores.{sets_append}
use Rattle.schedule.specs.Edges.{Edge, change, changes}
use Rattle.schedule_week.specs.Week.{is_marked}
use Rattle.schedule_minutes.specs.Minutes.{changes_of}
use Rattle.schedule_minutes.proofs.Changes.{bit, change_is, change_none, changes_turn, changes_none, changes_mono}
use Rattle.schedule_list.specs.Lists.{Fits, Written}

-- one figure of each edge
one_list : (f : Edge → ℕ) (l l' l'' : List ℕ) (p q : ℕ) (xs ys : List Edge) → l' ≡ sets l p (map f xs) → q ≡ p + length xs → l'' ≡ sets l' q (map f ys) →
    l'' ≡ sets l p (map f (xs ++ ys))
one_list f l l' l'' p q xs ys a b c =
    c ∙ ap (λ (k : List ℕ). sets k q (map f ys)) a
    ∙ ap (λ (k : ℕ). sets (sets l p (map f xs)) k (map f ys)) (b ∙ ap (λ (k : ℕ). p + k) (sym (length-map xs f)))
    ∙ sym (sets_append l p (map f xs) (map f ys))
    ∙ ap (sets l p) (sym (map-append f xs ys))

module _ {m i v m' i' v' : List ℕ} {p q : ℕ} {xs : List Edge} (w : Written xs p m i v m' i' v' q) where
  pub moments_size : length m' ≡ length m
  moments_size = ap length w.moments_are_lem ∙ simp length-sets

  pub inputs_size : length i' ≡ length i
  inputs_size = ap length w.inputs_are ∙ simp length-sets

  pub values_size : length v' ≡ length v
  values_size = ap length w.values_are_lem ∙ simp length-sets

  pub written_more : {m'' i'' v'' : List ℕ} {r : ℕ} {ys : List Edge} → Written ys q m' i' v' m'' i'' v'' r → Written (xs ++ ys) p m i v m'' i'' v'' r
  written_more {ys = ys} n =
      record {
        moments_are_lem = one_list (λ e. e.moment) m m' _ p q xs ys w.moments_are_lem w.next_is_lem n.moments_are_lem;
        inputs_are = one_list (λ e. e.input) i i' _ p q xs ys w.inputs_are w.next_is_lem n.inputs_are;
        values_are_lem = one_list (λ e. e.value) v v' _ p q xs ys w.values_are_lem w.next_is_lem n.values_are_lem;
        next_is_lem = n.next_is_lem ∙ omega (arith, w.next_is_lem, length-append xs ys);
      }

  -- what is still to come fits behind what is written
  pub fits_more : (ys : List Edge) → Fits (xs ++ ys) p m i v → Fits ys q m' i' v'
  fits_more ys f =
      let l = length-append xs ys in
      let e = w.next_is_lem in
      record {
        moments_long = rw moments_size (omega (arith, f.moments_long));
        inputs_long = rw inputs_size (omega (arith, f.inputs_long));
        values_long = rw values_size (omega (arith, f.values_long));
      }

pub written_none : (p : ℕ) (m i v : List ℕ) → Written [] p m i v m i v p
written_none p m i v = record { moments_are_lem = refl; inputs_are = refl; values_are_lem = refl; next_is_lem = omega arith }

pub fits_shorter : {xs ys : List Edge} {p : ℕ} {m i v : List ℕ} → length xs ≤ length ys → Fits ys p m i v → Fits xs p m i v
fits_shorter h f = record { moments_long = omega (arith, f.moments_long); inputs_long = omega (arith, f.inputs_long); values_long = omega (arith, f.values_long) }

-- ── the change of one input ───────────────────────────────────────────────────────────────────────
module _ (t k a b : ℕ) (h : a < 2) (l : b < 2) (n : a ≡ b → ⊥) where
  pub room : {p : ℕ} {m i v : List ℕ} → Fits (change t k (eqb a 1) (eqb b 1)) p m i v → (p < length m) × (p < length i) × (p < length v)
  room {p} {m} {i} {v} f =
      let g : Fits (record { moment = t; input = k; value = b } ∷ []) p m i v = rw (change_is t k a b h l n) at f in
      (omega (arith, g.moments_long), omega (arith, g.inputs_long), omega (arith, g.values_long))

  pub written_change : (p : ℕ) (m i v : List ℕ) → Written (change t k (eqb a 1) (eqb b 1)) p m i v (set m p t) (set i p k) (set v p b) (p + 1)
  written_change p m i v = rw (change_is t k a b h l n) (record { moments_are_lem = refl; inputs_are = refl; values_are_lem = refl; next_is_lem = refl })

pub written_same : (t k a b p : ℕ) (m i v : List ℕ) → a ≡ b → Written (change t k (eqb a 1) (eqb b 1)) p m i v m i v p
written_same t k a b p m i v e = rw (e, change_none t k (eqb b 1)) (written_none p m i v)

-- the changes of one input more; a and b are its bits
module _ (t x y k a b : ℕ) (h : k < 16) (e : a ≡ bit x k) (g : b ≡ bit y k) {p q : ℕ} {m i v m' i' v' : List ℕ}
    (w : Written (changes t (is_marked x) (is_marked y) k) p m i v m' i' v' q) where
  turn : changes t (is_marked x) (is_marked y) (k + 1) ≡ changes t (is_marked x) (is_marked y) k ++ change t k (eqb a 1) (eqb b 1)
  turn = changes_turn t (is_marked x) (is_marked y) k ∙ rw (e, g)

  pub change_fits : Fits (changes_of t x y) p m i v → Fits (change t k (eqb a 1) (eqb b 1)) q m' i' v'
  change_fits f =
      let s : k + 1 + (15 - k) ≡ 16 = omega arith in
      let mono : length (changes t (is_marked x) (is_marked y) (k + 1)) ≤ length (changes_of t x y) = rw s at (changes_mono t (is_marked x) (is_marked y) (k + 1) (15 - k)) in
      fits_more w (change t k (eqb a 1) (eqb b 1)) (rw turn at (fits_shorter {xs = changes t (is_marked x) (is_marked y) (k + 1)} mono f))

  pub changes_written : {m'' i'' v'' : List ℕ} {r : ℕ} → Written (change t k (eqb a 1) (eqb b 1)) q m' i' v' m'' i'' v'' r →
      Written (changes t (is_marked x) (is_marked y) (k + 1)) p m i v m'' i'' v'' r
  changes_written n = rw turn (written_more w n)

-- minutes with the same bits have no change
pub written_alike : (t x y p : ℕ) (m i v : List ℕ) → x ≡ y → Written (changes_of t x y) p m i v m i v p
written_alike t x y p m i v e = rw (e, changes_none t (is_marked y) 16) (written_none p m i v)

-- as many as there are
pub written_all : {es : List Edge} {m i v m' i' v' : List ℕ} {r : ℕ} → Written es 0 m i v m' i' v' r → (n : ℕ) → n ≡ length es → Written es 0 m i v m' i' v' n
written_all w n e = record { moments_are_lem = w.moments_are_lem; inputs_are = w.inputs_are; values_are_lem = w.values_are_lem; next_is_lem = omega arith }

-- lists of the same lengths
pub fits_same : {es : List Edge} {p q : ℕ} {xs : List Edge} {m i v l k u m' i' v' : List ℕ} {r : ℕ} → Written xs q m i v m' i' v' r → {ys : List Edge} {o n : ℕ} → Written ys o l k u m' i' v' n →
    Fits es p m i v → Fits es p l k u
fits_same a b f =
    record {
      moments_long = omega (arith, moments_size a, moments_size b, f.moments_long);
      inputs_long = omega (arith, inputs_size a, inputs_size b, f.inputs_long);
      values_long = omega (arith, values_size a, values_size b, f.values_long);
    }
