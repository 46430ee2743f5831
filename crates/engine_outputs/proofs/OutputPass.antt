-- Outputs listed one after the other: those listed so far and those left are all that were written.
-- Letters: e the environment, i the next variable, ws the writes listed so far, ns and vs the lent lists.
use mathlib.Core.Path.{◌≡◌, refl, sym, ap, ◌∙◌, subst}
use mathlib.Core.Bool.{Bool, true, false}
use mathlib.Core.List.{List, [], ◌∷◌, ◌++◌, map, append_assoc, append-nil}
use Prim.Native.Nat.{ℕ, suc, ◌+◌, ◌≤◌, ◌<◌, min}
use native.Mathlib.Numerals.{add-one}
use native.Mathlib.Omega.{arith}
use lib.ListN.{length, get_or, drop, set}
use lib.Seq.{drop-cons, drop-length}
use Rattle.walk.specs.State.{Variable, no_variable}
use Rattle.walk.specs.Instant.{Write, listed_if, written_from}
use Rattle.engine_blocks.specs.Blocks.{block, variable_in, variables_in, environment_of}
use Rattle.engine_blocks.proofs.Tabulated.{get_d_tabulate, length_tabulate}
use Rattle.engine_outputs.specs.Outputs.{put_if, count_if, ListedOne, Listed}

pub record ListedSoFar (all : List Write) (e : List Variable) (i : ℕ) (ns vs ns' vs' : List ℕ) (r : ℕ) : Type 0 where
  pub ws : List Write
  pub whole : ws ++ written_from i (drop i e) ≡ all
  pub listed : Listed ws ns vs ns' vs' r
  pub few : length ws ≤ i

-- One more word behind those put so far.
put_behind : (xs l : List ℕ) (x : ℕ) → length xs < length l → set (xs ++ drop (length xs) l) (length xs) x ≡ (xs ++ (x ∷ [])) ++ drop (suc (length xs)) l
put_behind [] [] x h = absurd (let z : ⊥ = omega arith in z)
put_behind [] (y ∷ l) x h = refl
put_behind (z ∷ xs) [] x h = absurd (let z : ⊥ = omega arith in z)
put_behind (z ∷ xs) (y ∷ l) x h = ap (λ (q : List ℕ). z ∷ q) (put_behind xs l x (omega arith))

map_snoc : (f : Write → ℕ) (ws : List Write) (w : Write) → map f (ws ++ (w ∷ [])) ≡ map f ws ++ (f w ∷ [])
map_snoc f [] w = refl
map_snoc f (x ∷ ws) w = ap (λ (q : List ℕ). f x ∷ q) (map_snoc f ws w)

length_mapped : (f : Write → ℕ) (ws : List Write) → length (map f ws) ≡ length ws
length_mapped f [] = refl
length_mapped f (x ∷ ws) = ap suc (length_mapped f ws)

length_snoc : (ws : List Write) (w : Write) → length (ws ++ (w ∷ [])) ≡ suc (length ws)
length_snoc [] w = refl
length_snoc (x ∷ ws) w = ap suc (length_snoc ws w)

snoc_put : (f : Write → ℕ) (ws : List Write) (w : Write) (l : List ℕ) → length ws < length l →
    set (map f ws ++ drop (length ws) l) (length ws) (f w) ≡ map f (ws ++ (w ∷ [])) ++ drop (length (ws ++ (w ∷ []))) l
snoc_put f ws w l h =
    let e = length_mapped f ws in
    let p : set (map f ws ++ drop (length (map f ws)) l) (length (map f ws)) (f w) ≡ (map f ws ++ (f w ∷ [])) ++ drop (suc (length (map f ws))) l =
    put_behind (map f ws) l (f w) (omega (arith, e)) in
    rw (map_snoc f ws w, length_snoc ws w) (rw e at p)

written_next : (e : List Variable) (i : ℕ) → i < length e →
    written_from i (drop i e) ≡ listed_if (get_or e i no_variable).written i (get_or e i no_variable).value (written_from (suc i) (drop (suc i) e))
unfolding written_from
written_next e i h = rw (drop-cons e i no_variable h)

length_environment : (n : ℕ) (m : List ℕ) → n ≤ 16 → length (environment_of n m) ≡ n
unfolding environment_of variables_in
length_environment n m h = length_tabulate 0 (min n 16) (variable_in (block m 64)) ∙ (let q : min n 16 ≡ n = omega arith in q)

environment_at : (n : ℕ) (m : List ℕ) (i : ℕ) → n ≤ 16 → i < n → get_or (environment_of n m) i no_variable ≡ variable_in (block m 64) i
unfolding environment_of variables_in
environment_at n m i h l = get_d_tabulate (min n 16) (variable_in (block m 64)) i no_variable (omega arith)

pub none_listed : (e : List Variable) (i : ℕ) (ns vs : List ℕ) → ListedSoFar (written_from i (drop i e)) e i ns vs ns vs 0
none_listed e i ns vs = record { ws = []; whole = refl; listed = record { count = refl; numbers = refl; values = refl }; few = omega arith }

module _ (all : List Write) (n : ℕ) (m : List ℕ) (few : n ≤ 16) (i : ℕ) (l : i < n) {ns vs ns₁ vs₁ ns₂ vs₂ : List ℕ} {r₁ r₂ : ℕ}
    (long : 16 ≤ length ns) (long' : 16 ≤ length vs) where
  by_mark : (b : Bool) (v : ℕ) → ListedSoFar all (environment_of n m) i ns vs ns₁ vs₁ r₁ →
      written_from i (drop i (environment_of n m)) ≡ listed_if b i v (written_from (suc i) (drop (suc i) (environment_of n m))) →
      r₂ ≡ count_if b r₁ → ns₂ ≡ put_if b ns₁ r₁ i → vs₂ ≡ put_if b vs₁ r₁ v → ListedSoFar all (environment_of n m) (suc i) ns vs ns₂ vs₂ r₂
  unfolding count_if put_if listed_if
  by_mark true v done next c x y =
      let w : Write = record { number = i; value = v } in
      let ws = done.ws in
      let d = done.listed in
      let room : length ws < 16 = omega (arith, done.few) in
      record {
        ws = ws ++ (w ∷ []);
        whole = append_assoc ws (w ∷ []) (written_from (suc i) (drop (suc i) (environment_of n m))) ∙ (ap (λ (q : List Write). ws ++ q) (sym next) ∙ done.whole);
        listed = record {
          count = c ∙ (let z : r₁ + 1 ≡ suc (length ws) = omega (arith, d.count) in z) ∙ sym (length_snoc ws w);
          numbers = x ∙ rw (d.numbers, d.count) (snoc_put (λ (q : Write). q.number) ws w ns (omega arith));
          values = y ∙ rw (d.values, d.count) (snoc_put (λ (q : Write). q.value) ws w vs (omega arith));
        };
        few = omega (arith, length_snoc ws w, done.few);
      }
  by_mark false v done next c x y =
      let d = done.listed in
      record {
        ws = done.ws;
        whole = ap (λ (q : List Write). done.ws ++ q) (sym next) ∙ done.whole;
        listed = record { count = c ∙ d.count; numbers = x ∙ d.numbers; values = y ∙ d.values };
        few = omega (arith, done.few);
      }

  pub one_more_listed : ListedSoFar all (environment_of n m) i ns vs ns₁ vs₁ r₁ → ListedOne m i r₁ ns₁ vs₁ ns₂ vs₂ r₂ →
      ListedSoFar all (environment_of n m) (i + 1) ns vs ns₂ vs₂ r₂
  one_more_listed done one =
      let e = environment_at n m i few l in
      let x = variable_in (block m 64) i in
      rw add-one (by_mark x.written x.value done
      (written_next (environment_of n m) i (omega (arith, length_environment n m few)) ∙ rw e)
      one.count one.numbers one.values)

none_written_past : (e : List Variable) → written_from (length e) (drop (length e) e) ≡ []
unfolding written_from
none_written_past e = rw (drop-length e)

pub all_listed : (all : List Write) (n : ℕ) (m : List ℕ) → n ≤ 16 → {ns vs ns' vs' : List ℕ} {r : ℕ} → ListedSoFar all (environment_of n m) n ns vs ns' vs' r → Listed all ns vs ns' vs' r
all_listed all n m few {ns} {vs} {ns'} {vs'} {r} done =
    let e : written_from n (drop n (environment_of n m)) ≡ [] =
    ap (λ (k : ℕ). written_from k (drop k (environment_of n m))) (sym (length_environment n m few)) ∙ none_written_past (environment_of n m) in
    let q : done.ws ≡ all = sym (append-nil done.ws) ∙ (ap (λ (z : List Write). done.ws ++ z) (sym e) ∙ done.whole) in
    subst (λ (z : List Write). Listed z ns vs ns' vs' r) q done.listed

-- One variable, by its mark.
module _ (m : List ℕ) (i place : ℕ) (ns vs : List ℕ) where
  pub listed_written : (v : ℕ) → (variable_in (block m 64) i).written ≡ true → v ≡ (variable_in (block m 64) i).value →
      ListedOne m i place ns vs (set ns place i) (set vs place v) (place + 1)
  unfolding put_if count_if
  listed_written v e q = record { count = rw e; numbers = rw e; values = rw (e, ← q) }

  pub listed_unwritten : (variable_in (block m 64) i).written ≡ false → ListedOne m i place ns vs ns vs place
  unfolding put_if count_if
  listed_unwritten e = record { count = rw e; numbers = rw e; values = rw e }
