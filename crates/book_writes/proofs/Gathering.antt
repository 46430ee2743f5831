-- Writes put into the three lists, one behind another. Letters: ms moments, os outputs, vs values, ns, ws numbers and words of one moment, t the moment,
-- k, n, at places.
use mathlib.Core.Path.{◌≡◌, refl, sym, ap, ◌∙◌}
use mathlib.Core.Bool.{Bool, true, false}
use mathlib.Core.List.{List, [], ◌∷◌, ◌++◌, map, append-nil, append_assoc}
use mathlib.Core.Logic.{◌⊎◌, inl, inr}
use denote.Enum.Declared.{tag_of}
use Prim.Native.Nat.{ℕ, zero, suc, ◌+◌, ◌-◌, ◌≤◌, ◌<◌}
use native.Mathlib.Numerals.{add-one}
use native.Mathlib.Omega.{arith}
use lib.ListN.{length, get_or, set, take, drop, replicate, length-append, drop_of_length-le}
use lib.Seq.{take_all, length-take-le}
use Rattle.listing.specs.Bytes.{Bytes}
use Rattle.walk.specs.Instant as Walk
use Rattle.walk.specs.Calls.{inputs_of}
use Rattle.walk.specs.Trace.{last_at, broken, script}
use Rattle.openings.specs.Writes.{Write, writes_of}
use Rattle.openings.proofs.Writes.{writes_length}
use Rattle.session_trace.specs.Groups.{CallIs, NextIs}
use Rattle.session_trace.specs.declared.group.Next.{Next}
use Rattle.session_trace.specs.declared.group.Next.TheVariants as NV
use Rattle.session_trace.specs.contracts.group.Next.{the_type}
use Rattle.book_writes.specs.Gathered.{writes_of_moment, writes_in, first_writes, Holds, GatheredIs}

-- ── bytes changed one after another ───────────────────────────────────────────────────────────────
mapped_so_far : (f : ℕ → ℕ) (m : List ℕ) (k : ℕ) → k < length m →
    set (map f (take k m) ++ drop k m) k (f (get_or (map f (take k m) ++ drop k m) k 0)) ≡ map f (take (suc k) m) ++ drop (suc k) m
mapped_so_far f [] k h = absurd (omega arith)
mapped_so_far f (x ∷ m) zero h = refl
mapped_so_far f (x ∷ m) (suc k) h = ap (λ (l : List ℕ). f x ∷ l) (mapped_so_far f m k (omega arith))

pub mapped_next : (f : ℕ → ℕ) (m l : List ℕ) (k : ℕ) → k < length m → l ≡ map f (take k m) ++ drop k m →
    set l k (f (get_or l k 0)) ≡ map f (take (k + 1) m) ++ drop (k + 1) m
mapped_next f m l k h e = rw (e, add-one k) (mapped_so_far f m k h)

pub mapped_all : (f : ℕ → ℕ) (m l : List ℕ) (k : ℕ) → length m ≤ k → l ≡ map f (take k m) ++ drop k m → l ≡ map f m
mapped_all f m l k h e = e ∙ rw (take_all k m h, drop_of_length-le m {i = k} h) (append-nil (map f m))

-- ── the writes of one moment put behind others ────────────────────────────────────────────────────
writes_joined : (xs ys zs xs' ys' zs' : List ℕ) → length xs ≡ length ys → length xs ≡ length zs →
    writes_of (xs ++ xs') (ys ++ ys') (zs ++ zs') ≡ writes_of xs ys zs ++ writes_of xs' ys' zs'
unfolding writes_of
writes_joined [] [] [] xs' ys' zs' e f = refl
writes_joined [] [] (z ∷ zs) xs' ys' zs' e f = absurd (omega arith)
writes_joined [] (y ∷ ys) zs xs' ys' zs' e f = absurd (omega arith)
writes_joined (x ∷ xs) [] zs xs' ys' zs' e f = absurd (omega arith)
writes_joined (x ∷ xs) (y ∷ ys) [] xs' ys' zs' e f = absurd (omega arith)
writes_joined (x ∷ xs) (y ∷ ys) (z ∷ zs) xs' ys' zs' e f =
    ap (λ (l : List Write). record { moment = x; output = y; value = z } ∷ l) (writes_joined xs ys zs xs' ys' zs' (omega arith) (omega arith))

one_moment : (t : ℕ) (ns ws : List ℕ) → length ns ≡ length ws → writes_of (replicate (length ns) t) ns ws ≡ writes_of_moment t (inputs_of ns ws)
unfolding writes_of writes_of_moment inputs_of
one_moment t [] ws e = refl
one_moment t (n ∷ ns) [] e = absurd (omega arith)
one_moment t (n ∷ ns) (w ∷ ws) e = ap (λ (l : List Write). record { moment = t; output = n; value = w } ∷ l) (one_moment t ns ws (omega arith))

-- the lists whose first places hold these
pub put_behind : (at t : ℕ) (ms os vs ns ws ms' os' vs' : List ℕ) → at ≤ length ms → at ≤ length os → at ≤ length vs → length ns ≡ length ws →
    take (at + length ns) ms' ≡ take at ms ++ replicate (length ns) t → take (at + length ns) os' ≡ take at os ++ ns → take (at + length ns) vs' ≡ take at vs ++ ws →
    first_writes (at + length ns) ms' os' vs' ≡ first_writes at ms os vs ++ writes_of_moment t (inputs_of ns ws)
put_behind at t ms os vs ns ws ms' os' vs' a b c same x y z =
    let l = length-take-le at ms a in
    let m = length-take-le at os b in
    let n = length-take-le at vs c in
    rw (x, y, z) (writes_joined (take at ms) (take at os) (take at vs) (replicate (length ns) t) ns ws (l ∙ sym m) (l ∙ sym n)
    ∙ ap (λ (w : List Write). first_writes at ms os vs ++ w) (one_moment t ns ws same))

moment_length : (t : ℕ) (k : ℕ) (ns ws : List ℕ) → k ≤ length ns → k ≤ length ws → length (writes_of_moment t (inputs_of (take k ns) (take k ws))) ≡ k
unfolding writes_of_moment inputs_of
moment_length t zero ns ws a b = refl
moment_length t (suc k) [] ws a b = absurd (omega arith)
moment_length t (suc k) (x ∷ ns) [] a b = absurd (omega arith)
moment_length t (suc k) (x ∷ ns) (y ∷ ws) a b = ap suc (moment_length t k ns ws (omega arith) (omega arith))

-- ── one moment after another ──────────────────────────────────────────────────────────────────────
-- the writes before the offset `at` stand in the lists
pub record Going (print : Bytes) (ms os vs : List ℕ) (count at : ℕ) : Type 0 where
  pub moments_long : length ms ≡ 16384
  pub outputs_long : length os ≡ 16384
  pub values_long : length vs ≡ 16384
  pub few : count ≤ 16384
  pub inside : at ≤ length print
  pub rest : first_writes count ms os vs ++ writes_in (script (drop at print)) ≡ writes_in (script print)

pub going_begun : (print : Bytes) (ms os vs : List ℕ) → length ms ≡ 16384 → length os ≡ 16384 → length vs ≡ 16384 → Going print ms os vs 0 0
unfolding writes_of
going_begun print ms os vs a b c =
    record { moments_long = a; outputs_long = b; values_long = c; few = omega arith; inside = omega arith; rest = refl }

module _ (print : Bytes) (ms os vs : List ℕ) (count at : ℕ) (v : Going print ms os vs count at) where
  ended : writes_in (script (drop at print)) ≡ [] → first_writes count ms os vs ≡ writes_in (script print)
  ended e = sym (append-nil (first_writes count ms os vs)) ∙ ap (λ (l : List Write). first_writes count ms os vs ++ l) (sym e) ∙ v.rest

  gathered : writes_in (script (drop at print)) ≡ [] → GatheredIs print 16384 ms os vs (record { count = count; all = true })
  unfolding Holds
  gathered e = record {
    holds = ended e;
    most = v.few;
    moments_long = v.moments_long;
    outputs_long = v.outputs_long;
    values_long = v.values_long;
  }

  gathered_last : (t : ℕ) (b : Bool) → script (drop at print) ≡ last_at t b → GatheredIs print 16384 ms os vs (record { count = count; all = true })
  unfolding writes_in
  gathered_last t b e = gathered (ap writes_in e)

  gathered_broken : script (drop at print) ≡ broken → GatheredIs print 16384 ms os vs (record { count = count; all = true })
  unfolding writes_in
  gathered_broken e = gathered (ap writes_in e)

  -- what is next is no call
  pub gathered_other : (ns ws : List ℕ) (r : Next) → NextIs print at ns ws r → (tag_of the_type r ≡ 1) ⊎ (tag_of the_type r ≡ 2) →
      GatheredIs print 16384 ms os vs (record { count = count; all = true })
  gathered_other ns ws (NV.Call t more next) e (inl i) = let z : ◌≡◌ {A = ℕ} 0 1 = i in absurd (omega arith)
  gathered_other ns ws (NV.Call t more next) e (inr i) = let z : ◌≡◌ {A = ℕ} 0 2 = i in absurd (omega arith)
  gathered_other ns ws (NV.Last t b) e i = gathered_last t b e
  gathered_other ns ws NV.Broken e i = gathered_broken e

  module _ (ns ws : List ℕ) (t more next : ℕ) (c : CallIs print at ns ws t more next) where
    in_two : writes_in (script (drop at print)) ≡ writes_of_moment t (inputs_of (take more ns) (take more ws)) ++ writes_in (script (drop next print))
    unfolding writes_in
    in_two = ap writes_in c.is ∙ ap (λ (l : List Walk.Write). writes_of_moment t l ++ writes_in (script (drop next print))) c.kept

    pub too_many : 17 ≤ length ns → 17 ≤ length ws → 16384 - count < more → GatheredIs print 16384 ms os vs (record { count = count; all = false })
    unfolding Holds
    too_many a b h =
        let few = v.few in
        let most = c.few in
        let x = v.moments_long in
        let y = v.outputs_long in
        let z = v.values_long in
        let lx = length-take-le count ms (omega arith) in
        let ly = length-take-le count os (omega arith) in
        let lz = length-take-le count vs (omega arith) in
        let first = writes_length (take count ms) (take count os) (take count vs) (lx ∙ sym ly) (lx ∙ sym lz) in
        let next-long = moment_length t more ns ws (omega arith) (omega arith) in
        let whole : length (writes_in (script print)) ≡
        length (first_writes count ms os vs) + (length (writes_of_moment t (inputs_of (take more ns) (take more ws))) + length (writes_in (script (drop next print)))) =
        ap length (sym v.rest ∙ ap (λ (l : List Write). first_writes count ms os vs ++ l) in_two)
        ∙ length-append (first_writes count ms os vs) _
        ∙ ap (λ (n : ℕ). length (first_writes count ms os vs) + n) (length-append (writes_of_moment t (inputs_of (take more ns) (take more ws))) _) in
        record { holds = omega arith; most = few; moments_long = x; outputs_long = y; values_long = z }

    pub going_on : (ms' os' vs' : List ℕ) → more ≤ 16384 - count →
        first_writes (count + more) ms' os' vs' ≡ first_writes count ms os vs ++ writes_of_moment t (inputs_of (take more ns) (take more ws)) →
        length ms' ≡ 16384 → length os' ≡ 16384 → length vs' ≡ 16384 → Going print ms' os' vs' (count + more) next
    going_on ms' os' vs' h e x y z =
        let few = v.few in
        record {
          moments_long = x;
          outputs_long = y;
          values_long = z;
          few = omega arith;
          inside = c.inside;
          rest =
              ap (λ (l : List Write). l ++ writes_in (script (drop next print))) e
              ∙ append_assoc (first_writes count ms os vs) (writes_of_moment t (inputs_of (take more ns) (take more ws))) (writes_in (script (drop next print)))
              ∙ ap (λ (l : List Write). first_writes count ms os vs ++ l) (sym in_two)
              ∙ v.rest;
        }
