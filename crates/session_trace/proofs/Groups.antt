-- A call's inputs, line by line: the lists that keep them, and the loop over the lines of one time.
use mathlib.Core.Path.{◌≡◌, refl, sym, ap, ◌∙◌}
use mathlib.Core.Logic.{◌⊎◌, inl, inr}
use mathlib.Core.Bool.{Bool, true, false, cond}
use mathlib.Core.List.{List, [], ◌∷◌, ◌++◌}
use Prim.Native.Nat.{ℕ, ◌+◌, ◌-◌, ◌≤◌, ◌<◌, min}
use native.Mathlib.Omega.{arith}
use native.Mathlib.Numerals.{add-one}
use lib.Dec.{eqb, ltb}
use lib.ListN.{length, take, drop, set, length-set, length-append}
use lib.Seq.{take_all, take-append-le, take-suc-set, length-take-le, drop-drop, drop-set-lt}
use borrow.Author.Tests.{eq-eqb, ne_eqb, lt-ltb, le-ltb, ltb-true, ltb-false, eqb-true, eqb-false}
use denote.Enum.Declared.{tag_of}
use Rattle.walk.specs.Instant.{Write}
use Rattle.walk.specs.Calls.{inputs_of}
use Rattle.walk.specs.Trace as W
use Rattle.walk.specs.Trace.{script, with_input, join_input}
use Rattle.text_place.specs.declared.place.Place.{Place}
use Rattle.session_trace_lines.specs.Lines.{line_answer}
use Rattle.session_trace.specs.Groups.{CallIs, NextIs, NextRead, Behind, ended_by, put_at, Put, JoinsOn, Apart}
use Rattle.session_trace_lines.specs.declared.line.TraceLine.{TraceLine}
use Rattle.session_trace_lines.specs.declared.line.TraceLine.TheVariants as LV
use Rattle.session_trace.specs.declared.group.Next.{Next}
use Rattle.session_trace.specs.declared.group.Next.TheVariants as NV
use Rattle.session_trace_lines.specs.contracts.line.TraceLine.{the_type}
use Rattle.session_trace.proofs.Scripts.{here, from_bad, from_input, from_last, last_open}

-- ── scripts that no input of a time begins ───────────────────────────────────────
pub broken_apart : (time : ℕ) (rest : W.Script) → rest ≡ W.Script.broken → Apart time rest
unfolding with_input
broken_apart time rest e w = rw e

pub last_apart : (time u : ℕ) (t : Bool) (rest : W.Script) → rest ≡ W.Script.last_at u t → Apart time rest
unfolding with_input
last_apart time u t rest e w = rw e

-- a script that an input of another time begins
other_apart : (time t : ℕ) (w : Write) (rest : W.Script) → (time ≡ t → ⊥) → Apart time (with_input t w rest)
unfolding with_input join_input
other_apart time t w (W.Script.call_at u ws rest) n x = go (eqb t u)
  where
    go : (b : Bool) → with_input time x (join_input b t w u ws rest) ≡ W.Script.call_at time (x ∷ []) (join_input b t w u ws rest)
    go true = rw (ne_eqb time t n)
    go false = rw (ne_eqb time t n)
other_apart time t w (W.Script.last_at u b) n x = rw (ne_eqb time t n)
other_apart time t w W.Script.broken n x = rw (ne_eqb time t n)

-- ── the line at an offset ────────────────────────────────────────────────────────
module _ (s : List ℕ) (at : ℕ) where
  pub other_time : (time t n v b : ℕ) (next : Place) → LV.Input t n v b next ≡ line_answer s (here at) → b ≡ 10 → (t ≡ time → ⊥) → Apart time (script (drop at s))
  other_time time t n v b next e f m =
      let j = from_input s at t n v b next e f in
      λ x. rw j.is (other_apart time t (record { number = n; value = v }) (script (drop next.offset s)) (λ i. m (sym i)) x)

  -- a line that is no input
  pub no_input_apart : (time : ℕ) (line : TraceLine) → line ≡ line_answer s (here at) → (tag_of the_type line ≡ 1) ⊎ (tag_of the_type line ≡ 2) → Apart time (script (drop at s))
  no_input_apart time (LV.Input t n v b next) e (inl i) = let z : ◌≡◌ {A = ℕ} 0 1 = i in absurd (omega arith)
  no_input_apart time (LV.Input t n v b next) e (inr i) = let z : ◌≡◌ {A = ℕ} 0 2 = i in absurd (omega arith)
  no_input_apart time (LV.Last t b next) e i = go (eqb b 10) refl
    where
      go : (u : Bool) → eqb b 10 ≡ u → Apart time (script (drop at s))
      go true f = last_apart time _ _ _ (from_last s at t b next e (eqb-true b 10 f))
      go false f = broken_apart time _ (last_open s at t b next e (eqb-false b 10 f))
  no_input_apart time LV.Bad e i = broken_apart time _ (from_bad s at e)

  pub no_input_next : (ns vs : List ℕ) (line : TraceLine) → line ≡ line_answer s (here at) → (tag_of the_type line ≡ 1) ⊎ (tag_of the_type line ≡ 2)
      → NextIs s at ns vs (ended_by (length s) line)
  no_input_next ns vs (LV.Input t n v b next) e (inl i) = let z : ◌≡◌ {A = ℕ} 0 1 = i in absurd (omega arith)
  no_input_next ns vs (LV.Input t n v b next) e (inr i) = let z : ◌≡◌ {A = ℕ} 0 2 = i in absurd (omega arith)
  no_input_next ns vs (LV.Last t b next) e i = go (eqb b 10) refl
    where
      go : (u : Bool) → eqb b 10 ≡ u → NextIs s at ns vs (cond u (NV.Last t (eqb next.offset (length s))) NV.Broken)
      go true f = from_last s at t b next e (eqb-true b 10 f)
      go false f = last_open s at t b next e (eqb-false b 10 f)
  no_input_next ns vs LV.Bad e i = from_bad s at e

-- nothing is put into the lists
pub nothing_read : (s : List ℕ) (at : ℕ) (ns vs : List ℕ) (r : Next) → NextIs s at ns vs r → NextRead s at ns vs ns vs r
nothing_read s at ns vs r i = record { is = i; numbers_stay = record { size = refl; behind = refl }; values_stay = record { size = refl; behind = refl } }

pub ended_other : (n : ℕ) (line : TraceLine) → (tag_of the_type line ≡ 0) ⊎ (tag_of the_type line ≡ 2) → NV.Broken ≡ ended_by n line
ended_other n (LV.Input t m v b next) i = refl
ended_other n (LV.Last t b next) (inl i) = let z : ◌≡◌ {A = ℕ} 1 0 = i in absurd (omega arith)
ended_other n (LV.Last t b next) (inr i) = let z : ◌≡◌ {A = ℕ} 1 2 = i in absurd (omega arith)
ended_other n LV.Bad i = refl

-- ── the lists ────────────────────────────────────────────────────────────────────
inputs_snoc : (ns vs : List ℕ) (n v : ℕ) → length ns ≡ length vs → inputs_of (ns ++ (n ∷ [])) (vs ++ (v ∷ [])) ≡ inputs_of ns vs ++ (record { number = n; value = v } ∷ [])
unfolding inputs_of
inputs_snoc [] [] n v e = refl
inputs_snoc [] (y ∷ vs) n v e = absurd (omega arith)
inputs_snoc (x ∷ ns) [] n v e = absurd (omega arith)
inputs_snoc (x ∷ ns) (y ∷ vs) n v e = rw (inputs_snoc ns vs n v (omega arith))

-- the first 17 of a call's inputs are in the lists
pub record Kept (ws : List Write) (numbers values : List ℕ) (count : ℕ) : Type 0 where
  pub kept : take 17 ws ≡ inputs_of (take count numbers) (take count values)
  pub counted : count ≡ min 17 (length ws)
  pub long_numbers : 17 ≤ length numbers
  pub long_values : 17 ≤ length values

pub kept_none : (numbers values : List ℕ) → 17 ≤ length numbers → 17 ≤ length values → Kept [] numbers values 0
unfolding inputs_of
kept_none numbers values a b = record { kept = refl; counted = refl; long_numbers = a; long_values = b }

module _ (ws : List Write) (n v : ℕ) (ns vs : List ℕ) (count : ℕ) (k : Kept ws ns vs count) where
  abbrev added : List Write
  added = ws ++ (record { number = n; value = v } ∷ [])

  one_longer : length added ≡ length ws + 1
  one_longer = length-append ws _

  put_in : count < 17 → Kept added (set ns count n) (set vs count v) (count + 1)
  put_in h =
      let size : length ws ≡ count = omega (arith, k.counted) in
      let all : take 17 ws ≡ ws = take_all 17 ws (omega arith) in
      let long-ns : count < length ns = omega (arith, k.long_numbers) in
      let long-vs : count < length vs = omega (arith, k.long_values) in
      let a = length-take-le count ns (omega arith) in
      let b = length-take-le count vs (omega arith) in
      record {
        kept = take_all 17 added (omega (arith, one_longer))
            ∙ ap (λ (us : List Write). us ++ (record { number = n; value = v } ∷ [])) (sym all ∙ k.kept)
            ∙ sym (simp add-one (rw (take-suc-set ns count n long-ns, take-suc-set vs count v long-vs) (inputs_snoc (take count ns) (take count vs) n v (a ∙ sym b))));
        counted = omega (arith, one_longer);
        long_numbers = simp length-set k.long_numbers;
        long_values = simp length-set k.long_values;
      }

  put_out : 17 ≤ count → Kept added ns vs count
  put_out h =
      let size : 17 ≤ length ws = omega (arith, k.counted) in
      record {
        kept = take-append-le 17 ws (record { number = n; value = v } ∷ []) size ∙ k.kept;
        counted = omega (arith, one_longer, k.counted);
        long_numbers = k.long_numbers;
        long_values = k.long_values;
      }

  module _ (ns' vs' : List ℕ) (count' : ℕ) (p : Put count n v ns vs ns' vs' count') where
    pub put_kept : Kept added ns' vs' count'
    put_kept = rw (p.numbers_are_lem, p.values_are_lem, p.count_is) (go (ltb count 17) refl)
      where
        go : (t : Bool) → ltb count 17 ≡ t → Kept added (cond t (set ns count n) ns) (cond t (set vs count v) vs) (cond t (count + 1) count)
        go true i = put_in (ltb-true count 17 i)
        go false i = put_out (ltb-false count 17 i)

pub put_below : (count n v : ℕ) (ns vs : List ℕ) → count < 17 → Put count n v ns vs (set ns count n) (set vs count v) (count + 1)
put_below count n v ns vs h =
    let e = lt-ltb count 17 h in record { numbers_are_lem = rw e; values_are_lem = rw e; count_is = rw e }

pub put_full : (count n v : ℕ) (ns vs : List ℕ) → 17 ≤ count → Put count n v ns vs ns vs count
put_full count n v ns vs h =
    let e = le-ltb count 17 h in record { numbers_are_lem = rw e; values_are_lem = rw e; count_is = rw e }

put_length : (count x : ℕ) (xs : List ℕ) → length (put_at count x xs) ≡ length xs
put_length count x xs = go (ltb count 17)
  where
    go : (t : Bool) → length (cond t (set xs count x) xs) ≡ length xs
    go true = length-set xs count x
    go false = refl

module _ {count n v : ℕ} {ns vs ns' vs' : List ℕ} {count' : ℕ} (p : Put count n v ns vs ns' vs' count') where
  pub put_numbers : length ns' ≡ length ns
  put_numbers = ap length p.numbers_are_lem ∙ put_length count n ns

  pub put_values : length vs' ≡ length vs
  put_values = ap length p.values_are_lem ∙ put_length count v vs

-- the words behind those kept stay
pub stays : (xs : List ℕ) (n : ℕ) → Behind xs xs n
stays xs n = record { size = refl; behind = refl }

behind_then : {before between after : List ℕ} {m n : ℕ} → Behind before between m → Behind between after n → m ≤ n → Behind before after n
behind_then {before} {between} {after} {m} {n} b c l =
    let same : m + (n - m) ≡ n = omega arith in
    let later : drop n between ≡ drop n before = rw same at (sym (drop-drop (n - m) m between) ∙ ap (drop (n - m)) b.behind ∙ drop-drop (n - m) m before) in
    record { size = c.size ∙ b.size; behind = c.behind ∙ later }

put_behind : (count x : ℕ) (xs : List ℕ) → Behind xs (put_at count x xs) (cond (ltb count 17) (count + 1) count)
put_behind count x xs = go (ltb count 17)
  where
    go : (t : Bool) → Behind xs (cond t (set xs count x) xs) (cond t (count + 1) count)
    go true = record { size = length-set xs count x; behind = drop-set-lt (count + 1) xs count x (omega arith) }
    go false = stays xs count

put_more : (count : ℕ) → count ≤ cond (ltb count 17) (count + 1) count
put_more count = go (ltb count 17)
  where
    go : (t : Bool) → count ≤ cond t (count + 1) count
    go true = omega arith
    go false = omega arith

module _ {count n v : ℕ} {ns vs ns' vs' : List ℕ} {count' : ℕ} (p : Put count n v ns vs ns' vs' count') where
  put_stays : Behind ns ns' count' × Behind vs vs' count' × (count ≤ count')
  put_stays = rw (p.numbers_are_lem, p.values_are_lem, p.count_is) (put_behind count n ns, put_behind count v vs, put_more count)

-- ── the loop over the lines of one time ──────────────────────────────────────────
-- inputs of one time ahead of a script
unfoldable pub ahead : ℕ → List Write → W.Script → W.Script
ahead time [] rest = rest
ahead time (w ∷ ws) rest = with_input time w (ahead time ws rest)

ahead_more : (time : ℕ) (ws : List Write) (w : Write) (rest : W.Script) → ahead time ws (with_input time w rest) ≡ ahead time (ws ++ (w ∷ [])) rest
unfolding ahead
ahead_more time [] w rest = refl
ahead_more time (x ∷ ws) w rest = ap (with_input time x) (ahead_more time ws w rest)

ahead_call : (time : ℕ) (w : Write) (ws : List Write) (rest : W.Script) → Apart time rest → ahead time (w ∷ ws) rest ≡ W.Script.call_at time (w ∷ ws) rest
unfolding ahead with_input join_input
ahead_call time w [] rest a = a w
ahead_call time w (x ∷ ws) rest a = ap (with_input time w) (ahead_call time x ws rest a) ∙ rw (eq-eqb time time refl)

-- the call at the offset `at`, as far as the offset `next`
pub record Grouped (s : List ℕ) (at time : ℕ) (ns₀ vs₀ ns vs : List ℕ) (count next : ℕ) : Type 0 where
  pub first : Write
  pub others : List Write
  pub is : script (drop at s) ≡ ahead time (first ∷ others) (script (drop next s))
  pub kept : Kept (first ∷ others) ns vs count
  pub forward : at < next
  pub inside : next ≤ length s
  pub same_numbers : Behind ns₀ ns count
  pub same_values_lem : Behind vs₀ vs count

module _ (s : List ℕ) (at time n v next : ℕ) (ns vs ns' vs' : List ℕ) (count : ℕ) where
  pub group_begun : JoinsOn s at time n v next → 17 ≤ length ns → 17 ≤ length vs → Put 0 n v ns vs ns' vs' count → Grouped s at time ns' vs' ns' vs' count next
  unfolding ahead
  group_begun j a b p =
      record {
        first = record { number = n; value = v };
        others = [];
        is = j.is;
        kept = put_kept [] n v ns vs 0 (kept_none ns vs a b) ns' vs' count p;
        forward = j.forward;
        inside = j.inside;
        same_numbers = stays ns' count;
        same_values_lem = stays vs' count;
      }

module _ {s : List ℕ} {at time : ℕ} {ns₀ vs₀ ns vs : List ℕ} {count next : ℕ} (g : Grouped s at time ns₀ vs₀ ns vs count next) where
  pub group_few : count ≤ 17
  group_few = omega (arith, g.kept.counted)

  pub group_on : (n v past : ℕ) (ns' vs' : List ℕ) (count' : ℕ) → JoinsOn s next time n v past → Put count n v ns vs ns' vs' count' → Grouped s at time ns₀ vs₀ ns' vs' count' past
  group_on n v past ns' vs' count' j p =
      let w : Write = record { number = n; value = v } in
      record {
        first = g.first;
        others = g.others ++ (w ∷ []);
        is = g.is ∙ ap (ahead time (g.first ∷ g.others)) j.is ∙ ahead_more time (g.first ∷ g.others) w (script (drop past s));
        kept = put_kept (g.first ∷ g.others) n v ns vs count g.kept ns' vs' count' p;
        forward = omega (arith, g.forward, j.forward);
        inside = j.inside;
        same_numbers = behind_then g.same_numbers (put_stays p).0 (put_stays p).2;
        same_values_lem = behind_then g.same_values_lem (put_stays p).1 (put_stays p).2;
      }

  pub group_done : Apart time (script (drop next s)) → CallIs s at ns vs time count next
  group_done a =
      record {
        inputs = g.first ∷ g.others;
        is = g.is ∙ ahead_call time g.first g.others (script (drop next s)) a;
        kept = g.kept.kept;
        few = group_few;
        forward = g.forward;
        inside = g.inside;
      }

  -- the lists before the first input was put, and after the last
  module _ {n v : ℕ} {ns₋ vs₋ : List ℕ} {count₀ : ℕ} (p : Put 0 n v ns₋ vs₋ ns₀ vs₀ count₀) where
    one : count₀ ≤ count
    one = omega (arith, p.count_is, g.kept.counted)

    pub group_read : Apart time (script (drop next s)) → NextRead s at ns₋ vs₋ ns vs (NV.Call time count next)
    group_read a =
        record {
          is = group_done a;
          numbers_stay = behind_then (put_stays p).0 g.same_numbers one;
          values_stay = behind_then (put_stays p).1 g.same_values_lem one;
        }
