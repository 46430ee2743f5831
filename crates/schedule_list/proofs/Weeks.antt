-- Edges past the first week, each written from the one a week before it. Letters: w a week, t the first minute, n the number of minutes, p the place that comes
-- next, l a list's words before anything is written.
use mathlib.Core.Path.{◌≡◌, refl, sym, ap, ◌∙◌}
use mathlib.Core.List.{List, [], ◌∷◌, ◌++◌, map}
use Prim.Native.Nat.{ℕ, zero, suc, ◌+◌, ◌-◌, ◌*◌, ◌/◌, ◌≤◌, ◌<◌}
use native.Mathlib.Numerals.{add-one}
use native.Mathlib.Omega.{arith}
use lib.ListN.{length, get_or, set, take, drop, length-map, get_or-append, get_or-map}
use lib.Seq.{sets, sets-eq, take_at, take-suc, get_or-take, length-take-le}
use Rattle.schedule.specs.Edges.{Edge}
use Rattle.schedule_minutes.specs.Minutes.{minute_edges}
use Rattle.schedule_minutes.proofs.Edges.{later, minutes_append, weeks_alike, week_before, minutes_before}
use Rattle.schedule_list.specs.Lists.{Fits, Written}
use Rattle.schedule_list.proofs.Lists.{written_more, moments_size, inputs_size, values_size}
use Rattle.schedule_list.proofs.Minutes.{minutes_mono}

-- stands for an edge where there is none
abbrev no_edge : Edge
no_edge = record { moment = 0; input = 0; value = 0 }

-- an element that is there does not depend on what stands for one that is not
there : {A : Type 0} (xs : List A) (j : ℕ) (a b : A) → j < length xs → get_or xs j a ≡ get_or xs j b
there [] j a b h = absurd (omega arith)
there (x ∷ xs) zero a b h = refl
there (x ∷ xs) (suc j) a b h = there xs j a b (omega arith)

-- what is written in a list is there to be read
read_back : (f : Edge → ℕ) → f no_edge ≡ 0 → (es : List Edge) (l l' : List ℕ) (p j : ℕ) → p ≤ length es → p ≤ length l → l' ≡ sets l 0 (map f (take p es)) → j < p →
    get_or l' j 0 ≡ f (get_or es j no_edge)
read_back f z es l l' p j h k e i =
    let xs = map f (take p es) in
    let size : length xs ≡ p = length-map (take p es) f ∙ length-take-le p es h in
    let whole : sets l 0 xs ≡ take 0 l ++ xs ++ drop (0 + length xs) l = sets-eq xs l 0 (omega arith) in
    ap (λ (x : List ℕ). get_or x j 0) (e ∙ whole)
    ∙ get_or-append xs (drop (0 + length xs) l) 0 j (omega arith)
    ∙ ap (get_or xs j) (sym z)
    ∙ get_or-map f (take p es) j no_edge
    ∙ ap f (get_or-take p es j no_edge i)

module _ (w : List ℕ) (t n : ℕ) (h : 1 ≤ t) (long : 10080 ≤ n) where
  abbrev all : List Edge
  all = minute_edges w t n

  -- the edges of the first week
  abbrev weekly : ℕ
  weekly = length (minute_edges w t 10080)

  pub first_week : take weekly all ≡ minute_edges w t 10080
  first_week =
      let e : n ≡ 10080 + (n - 10080) = omega arith in
      ap (take weekly) (ap (minute_edges w t) e ∙ minutes_append w t 10080 (n - 10080)) ∙ take_at (minute_edges w t 10080) _ weekly refl

  -- a week without an edge is a span without one
  pub some_weekly : (p : ℕ) → p < length all → 1 ≤ weekly
  some_weekly p l = go weekly refl
    where
      go : (x : ℕ) → weekly ≡ x → 1 ≤ x
      go (suc x) e = omega arith
      go zero e =
          let most = minutes_mono w t n ((n / 10080 + 1) * 10080) (omega arith) in
          let none = weeks_alike w t (n / 10080 + 1) h ∙ ap (λ (x : ℕ). (n / 10080 + 1) * x) e in
          absurd (omega arith)

  module _ (below : (t + (n - 1)) * 60000 < 18446744073709551616) (p : ℕ) (past : weekly ≤ p) (inside : p < length all) {l k v l' k' v' : List ℕ}
      (fits : Fits all 0 l k v) (so_far : Written (take p all) 0 l k v l' k' v' p) where
    -- the place a week before
    abbrev back : ℕ
    back = p - weekly

    behind : back < p
    behind = let o = some_weekly p inside in omega arith

    edge_is : get_or all p no_edge ≡ later 604800000 (get_or all back no_edge)
    edge_is = there all p no_edge (later 604800000 no_edge) inside ∙ week_before w t n p no_edge h long past inside

    moment_read : get_or l' back 0 ≡ (get_or all back no_edge).moment
    moment_read = read_back (λ e. e.moment) refl all l l' p back (omega arith) (omega (arith, fits.moments_long)) so_far.moments_are_lem behind

    input_read : get_or k' back 0 ≡ (get_or all back no_edge).input
    input_read = read_back (λ e. e.input) refl all k k' p back (omega arith) (omega (arith, fits.inputs_long)) so_far.inputs_are behind

    value_read : get_or v' back 0 ≡ (get_or all back no_edge).value
    value_read = read_back (λ e. e.value) refl all v v' p back (omega arith) (omega (arith, fits.values_long)) so_far.values_are_lem behind

    -- what is asked before the edge is written
    pub again_fits : (back < p) × (p < length l') × (p < length k') × (p < length v') × (get_or l' back 0 + 604800000 < 18446744073709551616)
    again_fits =
        let b : (get_or all p no_edge).moment < 18446744073709551616 = minutes_before 18446744073709551616 w t n (λ z. omega arith) below p no_edge inside in
        let s : (get_or all p no_edge).moment ≡ get_or l' back 0 + 604800000 = ap (λ (e : Edge). e.moment) edge_is ∙ rw moment_read in
        (behind, omega (arith, moments_size so_far, fits.moments_long), omega (arith, inputs_size so_far, fits.inputs_long), omega (arith, values_size so_far, fits.values_long), omega arith)

    one_more : Written (get_or all p no_edge ∷ []) p l' k' v' (set l' p (get_or l' back 0 + 604800000)) (set k' p (get_or k' back 0)) (set v' p (get_or v' back 0)) (p + 1)
    one_more = rw (edge_is, moment_read, input_read, value_read) (record { moments_are_lem = refl; inputs_are = refl; values_are_lem = refl; next_is_lem = refl })

    pub again_written : {l'' k'' v'' : List ℕ} → l'' ≡ set l' p (get_or l' back 0 + 604800000) → k'' ≡ set k' p (get_or k' back 0) → v'' ≡ set v' p (get_or v' back 0) →
        Written (take (p + 1) all) 0 l k v l'' k'' v'' (p + 1)
    again_written a b c =
        let e : take (p + 1) all ≡ take p all ++ (get_or all p no_edge ∷ []) = ap (λ (x : ℕ). take x all) (add-one p) ∙ take-suc all p no_edge inside in
        rw (a, b, c, e) (written_more so_far one_more)

  -- what the first week's minutes leave is the beginning of all
  pub week_written : {l k v l' k' v' : List ℕ} {r : ℕ} → Written (minute_edges w t 10080) 0 l k v l' k' v' r → Written (take r all) 0 l k v l' k' v' r
  week_written {r = r} x =
      let e : r ≡ weekly = x.next_is_lem ∙ omega arith in
      let f : take r all ≡ minute_edges w t 10080 = ap (λ (i : ℕ). take i all) e ∙ first_week in
      rw f x
