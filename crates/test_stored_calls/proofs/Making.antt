-- A call made on what is lent of the memories.
use mathlib.Core.Path.{◌≡◌, ap, subst, ◌∙◌}
use mathlib.Core.List.{List, ◌++◌}
use Prim.Native.Nat.{ℕ, ◌≤◌, min}
use lib.ListN.{length, take, drop}
use borrow.Author.Tests.{eq-eqb, ne_eqb}
use Rattle.walk.specs.Calls.{Outcome}
use Rattle.test_cases.proofs.Storing.{front_is, rest_is_lem}
use Rattle.walk.specs.Promises.{Result, StartPromise, InstantPromise}
use Rattle.layout.specs.Layout.{layout}
use Rattle.test_stored_calls.specs.Reports.{report_of, Reported}
use Rattle.test_lending.specs.Places.{lent_places}
use Rattle.test_lending.proofs.Lending.{lent_within}
use Rattle.test_stored_calls.specs.Calls.{call_outcome, lent_outcome, stored_outcome, Made}
use Rattle.test_stored_answers.specs.Pairs.{each_pair, values_at, PairsPut}
use Rattle.test_cases.specs.Frame.{word_at, onward}
use Rattle.test_stored_answers.proofs.Pairing.{pairs_taken}
use Rattle.test_stored_calls.specs.declared.calls.Call.{Call}
use Rattle.test_stored_answers.specs.declared.Report.{Report}

-- ── from what the call left of the lent parts p, q and v ──────────────────────────────────────────
pub made : (c : Call) (table machine numbers values p q v : List ℕ) (o : ℕ → ℕ → ℕ → ℕ → ℕ → Outcome) (r : Report) (lt lm ln lv lw lw' : ℕ)
    → lt ≡ lent_places c.spoil 1 12287 table → lm ≡ lent_places c.spoil 2 12287 machine → ln ≡ lent_places c.spoil 3 15 numbers
    → lv ≡ lent_places c.spoil 4 15 values → lw ≡ lw' → length p ≡ length (take lm machine)
    → Reported (take lt table) (take lm machine) (take ln numbers) (take lv values) p q v (o lt lm ln lv lw) r
    → Made c table machine numbers values (p ++ drop lm machine) (q ++ drop ln numbers) (v ++ drop lv values)
    (o (lent_places c.spoil 1 12287 table) (lent_places c.spoil 2 12287 machine) (lent_places c.spoil 3 15 numbers) (lent_places c.spoil 4 15 values) lw') r
made c table machine numbers values p q v o r lt lm ln lv lw lw' et em en ev ew kp k =
    let hm : lm ≤ length machine = rw em (lent_within c.spoil 2 12287 machine) in
    record {
      report = rw (← et, ← em, ← en, ← ev, ← ew) k.report;
      machine_is = record {
        lent_is = rw (← et, ← em, ← en, ← ev, ← ew, front_is lm p machine kp hm) k.machine_is;
        rest_is = rw (← em) (rest_is_lem lm p machine kp hm);
      };
      numbers_are = rw (← et, ← em, ← en, ← ev, ← ew) (ap (λ (x : List ℕ). x ++ drop ln numbers) k.numbers_are);
      values_are = rw (← et, ← em, ← en, ← ev, ← ew) (ap (λ (x : List ℕ). x ++ drop lv values) k.values_are);
    }

-- ── either call, by its kind ──────────────────────────────────────────────────────────────────────
pub by_start : (c : Call) {table machine numbers values machine' numbers' values' : List ℕ} {r : Report} {x : Result} (ins news : List ℕ) → c.kind ≡ 0 → r ≡ report_of x
    → StartPromise layout table machine numbers values c.allowance machine' numbers' values' x
    → Reported table machine numbers values machine' numbers' values' (call_outcome c table machine ins news numbers values) r
unfolding call_outcome
by_start c ins news e f k =
    rw (eq-eqb c.kind 0 e)
    (record { report = f ∙ ap (λ (y : Result). report_of y) k.result; machine_is = k.machine_is; numbers_are = k.numbers_are; values_are = k.values_are })

pub by_instant : (c : Call) {table machine numbers values machine' numbers' values' : List ℕ} {r : Report} {x : Result} (ins news : List ℕ) → (c.kind ≡ 0 → ⊥) → r ≡ report_of x
    → InstantPromise layout table machine c.t ins news numbers values c.allowance machine' numbers' values' x
    → Reported table machine numbers values machine' numbers' values' (call_outcome c table machine ins news numbers values) r
unfolding call_outcome
by_instant c ins news n f k =
    rw (ne_eqb c.kind 0 n)
    (record { report = f ∙ ap (λ (y : Result). report_of y) k.result; machine_is = k.machine_is; numbers_are = k.numbers_are; values_are = k.values_are })

-- ── with the inputs of the file ───────────────────────────────────────────────────────────────────
-- the inputs that are lent are the pairs read
lent_pairs : (f : ℕ → ℕ) (s : List ℕ) (at n k : ℕ) (l l' : List ℕ) → l' ≡ each_pair f s at n ++ drop n l → k ≡ n → take k l' ≡ each_pair f s at n
lent_pairs f s at n k l l' e h =
    ap (λ (i : ℕ). take i l') h ∙ (ap (take n) e ∙ pairs_taken f s at n (drop n l))

pub by_stored : {s : List ℕ} {c : Call} {table machine numbers values machine' numbers' values' ins news ins' news' : List ℕ} {r : Report} (a b : ℕ)
    → PairsPut s c.at (min c.inputs 16) ins news ins' news' → a ≡ min c.inputs 16 → b ≡ min c.inputs 16
    → Made c table machine numbers values machine' numbers' values' (lent_outcome c table machine (take a ins') (take b news') numbers values) r
    → Made c table machine numbers values machine' numbers' values' (stored_outcome s c table machine numbers values) r
by_stored {s} {c} {table} {machine} {numbers} {values} {machine'} {numbers'} {values'} {ins} {news} {ins'} {news'} {r} a b p ea eb m =
    let i = lent_pairs (word_at s) s c.at (min c.inputs 16) a ins ins' p.numbers_are ea in
    let v = lent_pairs (λ (x : ℕ). word_at s (onward s x 4)) s c.at (min c.inputs 16) b news news' p.values_are eb in
    subst (λ (x : List ℕ). Made c table machine numbers values machine' numbers' values' (lent_outcome c table machine x (values_at s c.at (min c.inputs 16)) numbers values) r) i
    (subst (λ (x : List ℕ). Made c table machine numbers values machine' numbers' values' (lent_outcome c table machine (take a ins') x numbers values) r) v m)
