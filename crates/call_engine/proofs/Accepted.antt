-- What the questions give once they all pass, and the promises from the work's conclusion or from a refusal.
-- Letters: ns and vs the input lists, on and ov the output lists, l the table's listing, s the machine's state, o an outcome.
use mathlib.Core.Path.{◌≡◌, refl, sym, ap, ◌∙◌}
use mathlib.Core.Bool.{Bool, true, false, cond, not}
use mathlib.Core.List.{List}
use mathlib.Core.Option.{some, none}
use Prim.Native.Nat.{ℕ, ◌≤◌, ◌<◌}
use native.Mathlib.Omega.{arith}
use lib.Dec.{leb}
use lib.ListN.{length}
use borrow.Author.Tests.{ltb-true, leb-true, eqb-true}
use lib.Seq.{get_or-take}
use Rattle.listing.specs.Listing.{Listing}
use Rattle.walk.specs.State.{State}
use Rattle.walk.specs.State as walk
use Rattle.walk.specs.Instant.{Done, Write, environment_size, next_due, start, instant}
use Rattle.walk.specs.Calls.{Outcome, refused, answered, outcome_number, outcome_place, MachineAfter, untouched, halts, runs, numbers_after, values_after, due_before, inputs_rise, inputs_of, allowed, start_long_enough, instant_long_enough, start_call, instant_call, first_words, no_figures, outcome_figures}
use Rattle.walk.specs.Promises.{Keeps}
use Rattle.walk.specs.Promises as promises
use Rattle.table.specs.Question6.{is_table, read_table}
use Rattle.table.specs.Decode.{table_listing}
use Rattle.machine_words.specs.Tests.{Dues}
use Rattle.machine.proofs.Basics.{and_left, and_right}
use Rattle.machine.proofs.MachineWords.{running_first_word_is_0}
use Rattle.layout.specs.Layout.{layout}
use Rattle.call_engine.proofs.Ways.{StateWay, not_after, due_before_lem, not_rising_lem, walks, InstantWay, no_state, stopped_before, from_state, instant_way, start_way}
use Rattle.call_engine.proofs.Ways as ways
use Rattle.std.specs.Prelude.{Result, Ok, Err, is_ok, ⊤}
use Rattle.call_arguments.specs.Refusals.{number_of}
use Rattle.call_arguments.specs.declared.questions.Refusal.{Refusal}
use Rattle.call_conclude.specs.declared.answers.Failure.TheVariants.{Refused}
use Rattle.call_arguments.specs.Asked.{long_enough, asked, InstantAsked, StartAsked}
use Rattle.call_conclude.specs.Answers.{Answer, result_of}
use Rattle.call_conclude.specs.Conclusions.{Leaves, leaves_stopped, leaves_state, Concludes}
use Rattle.call_instant_work.specs.Works.{MayInstant}
use Rattle.call_questions.proofs.Calling.{Long, long}

-- ── a refusal ─────────────────────────────────────────────────────────────────────────────────────
-- Nothing is touched, and the figures are 0.
refusal_keeps : (table machine on ov : List ℕ) (o : Outcome) (k : Refusal) → o ≡ refused (number_of k) → Keeps layout table machine on ov machine on ov o (result_of (Err (Refused k)))
unfolding result_of promises.result_of outcome_number outcome_place no_figures outcome_figures numbers_after values_after
refusal_keeps table machine on ov o k e = rw e (record { result = refl; machine_is = untouched refl; numbers_are = refl; values_are = refl })

asked_refuses : (r : Result ⊤ Refusal) (next o : Outcome) (k : Refusal) → asked r next ≡ o → r ≡ Err k → o ≡ refused (number_of k)
unfolding asked
asked_refuses r next o k e h = sym e ∙ ap (λ (x : Result ⊤ Refusal). asked x next) h

asked_passes : (r : Result ⊤ Refusal) (next o : Outcome) → asked r next ≡ o → r ≡ Ok tt → o ≡ next
unfolding asked
asked_passes r next o e h = sym e ∙ ap (λ (x : Result ⊤ Refusal). asked x next) h

never_refused : {A : Type 0} (k : ℕ) (x : walk.Result Done) → refused k ≡ answered x → A
unfolding answered
never_refused k (walk.stop j) e = let z : ◌≡◌ {A = ℕ} 0 1 = cc in absurd (omega arith)
never_refused k (walk.ok d) e = let z : ◌≡◌ {A = ℕ} 0 1 = cc in absurd (omega arith)

-- ── the conclusion of the work ────────────────────────────────────────────────────────────────────
machine_after_lem : (table before after : List ℕ) (o : walk.Result Done) → read_table (first_words table) ≡ some (table_listing (first_words table)) →
    Leaves (table_listing (first_words table)) before after o → MachineAfter layout table before after (answered o)
unfolding answered
machine_after_lem table before after _ e (leaves_stopped h) = halts h
machine_after_lem table before after _ e (leaves_state h l p) =
    runs e h (sym (get_or-take 12288 after 0 0 (omega arith)) ∙ running_first_word_is_0 (table_listing (first_words table)) (first_words after) _ h) l p

pub conclusion_keeps : (table machine on ov machine' on' ov' : List ℕ) (call : Outcome) (o : walk.Result Done) (r : Answer) →
    is_table (first_words table) ≡ true → call ≡ answered o →
    Concludes (table_listing (first_words table)) machine on ov machine' on' ov' o r → Keeps layout table machine on ov machine' on' ov' call (result_of r)
unfolding read_table
conclusion_keeps table machine on ov machine' on' ov' call o r pass e C =
    rw e (record {
      result = C.result;
      machine_is = machine_after_lem table machine machine' o (rw pass) C.machine;
      numbers_are = C.numbers_are;
      values_are = C.values_are;
    })

-- ── what passing gives ────────────────────────────────────────────────────────────────────────────
table_read : (b : Bool) (l m : Listing) → cond b (some l) none ≡ some m → (b ≡ true) × (l ≡ m)
table_read true l m h = (refl, cc)
table_read false l m h = let z : ◌≡◌ {A = ℕ} 0 1 = cc in absurd (omega arith)

allowed_most : (a : ℕ) → allowed a ≡ true → a ≤ 1000000
unfolding allowed
allowed_most a e = leb-true _ _ (and_right (leb 1 a) _ e)

record Through (l : Listing) (s : State) (t : ℕ) (inputs : List Write) (allowance : ℕ) (o : Outcome) : Type 0 where
  later : s.now < t
  nothing_due : due_before (next_due s) t ≡ false
  rise : inputs_rise l.inputs 0 inputs ≡ true
  most : allowance ≤ 1000000
  is : o ≡ answered (instant l s t inputs allowance)

state_passes : {l : Listing} {s : State} {t : ℕ} {inputs : List Write} {allowance : ℕ} {o : Outcome} → StateWay l s t inputs allowance o →
    (x : walk.Result Done) → o ≡ answered x → Through l s t inputs allowance o
state_passes (not_after a) x e = never_refused 9 x e
state_passes (due_before_lem a b) x e = never_refused 10 x e
state_passes (not_rising_lem a b c) x e = never_refused 11 x e
state_passes (ways.StateWay.not_allowed a b c d) x e = never_refused 12 x e
state_passes (walks a b c d) x e =
    record { later = ltb-true _ _ a; nothing_due = not_false_is _ b; rise = c; most = allowed_most _ d; is = refl }
  where
    not_false_is : (b : Bool) → not b ≡ true → b ≡ false
    not_false_is true e = sym e
    not_false_is false e = refl

pub record Accepted (table machine : List ℕ) (t : ℕ) (ns vs on ov : List ℕ) (allowance : ℕ) (dues : List ℕ) : Type 0 where
  pub may : MayInstant (first_words table) machine t dues ns vs allowance
  pub lengths : Long (length table) (length machine) (length on) (length ov)
  pub outcome : instant_call layout table machine t ns vs on ov allowance ≡ answered (instant (table_listing (first_words table)) may.state t (inputs_of ns vs) allowance)

module _ (table machine : List ℕ) (t : ℕ) (ns vs on ov : List ℕ) (allowance : ℕ) (dues : List ℕ) where
  lengths_of : instant_long_enough table machine ns vs on ov ≡ true → Long (length table) (length machine) (length on) (length ov) × (length ns ≡ length vs)
  unfolding instant_long_enough start_long_enough long_enough
  lengths_of e = (
    long _ _ _ _ (and_left (long_enough (length table) (length machine) (length on) (length ov)) _ e),
    eqb-true _ _ (and_right (long_enough (length table) (length machine) (length on) (length ov)) _ e),
  )

  by_way : {o : Outcome} → length dues ≡ 65 → Dues (environment_size (table_listing (first_words table))) (first_words machine) dues →
      InstantWay layout table machine t ns vs on ov allowance o → (x : walk.Result Done) → o ≡ answered x →
      instant_call layout table machine t ns vs on ov allowance ≡ o → Accepted table machine t ns vs on ov allowance dues
  unfolding read_table
  by_way places each (ways.InstantWay.too_short e) x f g = never_refused 1 x f
  by_way places each (ways.InstantWay.no_table e h) x f g = never_refused 6 x f
  by_way places each (no_state e h i) x f g = never_refused 7 x f
  by_way places each (stopped_before e h i) x f g = never_refused 8 x f
  by_way places each (from_state {l = l} {s = s} e h i c) x f g =
      let p = state_passes c x f in
      let (q, q') = lengths_of e in
      let (a, b) = table_read (is_table (first_words table)) (table_listing (first_words table)) l h in
      record {
        may = record {
          size = q.machine_long;
          same = q';
          table = a;
          state = s;
          stands = rw b i;
          later = p.later;
          places = places;
          each = each;
          nothing_due = p.nothing_due;
          inputs = rw b p.rise;
          most = p.most;
        };
        lengths = q;
        outcome = g ∙ (p.is ∙ ap (λ (z : Listing). answered (instant z s t (inputs_of ns vs) allowance)) (sym b));
      }

  pub instant_refused : (r : Result ⊤ Refusal) (k : Refusal) → InstantAsked table machine t ns vs on ov allowance dues r → r ≡ Err k →
      Keeps layout table machine on ov machine on ov (instant_call layout table machine t ns vs on ov allowance) (result_of (Err (Refused k)))
  instant_refused r k A h = refusal_keeps table machine on ov _ k (asked_refuses r _ _ k A.outcome h)

  pub instant_accepted : (r : Result ⊤ Refusal) → InstantAsked table machine t ns vs on ov allowance dues r → r ≡ Ok tt → Accepted table machine t ns vs on ov allowance dues
  instant_accepted r A z =
      let e = asked_passes r _ _ A.outcome z in
      by_way A.places (A.each (ap (λ (x : Result ⊤ Refusal). is_ok x) z)) (instant_way layout table machine t ns vs on ov allowance) _ e refl

-- ── the start ─────────────────────────────────────────────────────────────────────────────────────
pub record StartAccepted (table machine on ov : List ℕ) (allowance : ℕ) : Type 0 where
  pub lengths : Long (length table) (length machine) (length on) (length ov)
  pub passes : is_table (first_words table) ≡ true
  pub most : allowance ≤ 1000000
  pub outcome : start_call layout table machine on ov allowance ≡ answered (start (table_listing (first_words table)) allowance)

module _ (table machine on ov : List ℕ) (allowance : ℕ) where
  by_start_way : {o : Outcome} → ways.StartWay layout table machine on ov allowance o → (x : walk.Result Done) → o ≡ answered x →
      start_call layout table machine on ov allowance ≡ o → StartAccepted table machine on ov allowance
  unfolding read_table start_long_enough long_enough
  by_start_way (ways.StartWay.too_short e) x f g = never_refused 1 x f
  by_start_way (ways.StartWay.no_table e h) x f g = never_refused 6 x f
  by_start_way (ways.StartWay.not_allowed e h i) x f g = never_refused 12 x f
  by_start_way (ways.StartWay.walks {l = l} e h i) x f g =
      let (a, b) = table_read (is_table (first_words table)) (table_listing (first_words table)) l h in
      record {
        lengths = long _ _ _ _ e;
        passes = a;
        most = allowed_most allowance i;
        outcome = g ∙ ap (λ (z : Listing). answered (start z allowance)) (sym b);
      }

  pub start_refused : (r : Result ⊤ Refusal) (k : Refusal) → StartAsked table machine on ov allowance r → r ≡ Err k →
      Keeps layout table machine on ov machine on ov (start_call layout table machine on ov allowance) (result_of (Err (Refused k)))
  start_refused r k A h = refusal_keeps table machine on ov _ k (asked_refuses r _ _ k A.outcome h)

  pub start_accepted : (r : Result ⊤ Refusal) → StartAsked table machine on ov allowance r → r ≡ Ok tt → StartAccepted table machine on ov allowance
  start_accepted r A z =
      let e = asked_passes r _ _ A.outcome z in
      by_start_way (start_way layout table machine on ov allowance) _ e refl
