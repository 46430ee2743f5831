-- The look's answers by their cases.
use mathlib.Core.Path.{◌≡◌, refl, sym, ap}
use mathlib.Core.Bool.{Bool, true, false, ◌&&◌}
use mathlib.Core.List.{List}
use mathlib.Core.Option.{Option, none, some}
use Prim.Native.Nat.{ℕ, zero, suc, ◌<◌, ◌≤◌}
use native.Mathlib.Omega.{arith}
use lib.Dec.{leb}
use lib.ListN.{length}
use borrow.Author.Tests.{le-leb, lt-leb}
use Rattle.listing.specs.Listing.{Listing}
use Rattle.walk.specs.Calls.{Machine, halted, running, first_words}
use Rattle.table.specs.Question6.{is_table, read_table}
use Rattle.table.specs.Decode.{table_listing}
use Rattle.machine.specs.Records.{state_from}
use Rattle.machine.specs.Words.{moment_at, state_of}
use Rattle.machine.specs.Due.{due_at}
use Rattle.machine.specs.ReadMachine.{read_machine}
use Rattle.machine_check.specs.declared.MachineCheck.TheVariants.{Running}
use Rattle.machine_check.specs.Answer.{check_of, answer_of}
use Rattle.layout.specs.Layout.{layout}
use Rattle.call_arguments.proofs.Refusals.{read_by_refusal, due_by_answer, refusal_running}
use Rattle.std.specs.Prelude.{Err, is_ok}
use Rattle.call_arguments.specs.Refusals.{number_of}
use Rattle.call_arguments.specs.Asked.{machine_refusal}
use Rattle.call_arguments.specs.declared.questions.Refusal.{Refusal}
use Rattle.call_arguments.specs.declared.questions.Refusal.TheVariants.{NoState, Halted}
use Rattle.call_look.specs.declared.Sight.{Sight}
use Rattle.call_look.specs.Figures.{figures_of}
use Rattle.call_look.specs.Look.{not_seen_lem, seen, seen_unstopped, seen_machine, seen_table, ask_looked, look_call}

-- ── the figures ───────────────────────────────────────────────────────────────────────────────────
pub none_due : (now due : ℕ) → due ≡ 0 → ◌≡◌ {A = Sight} (record { number = 0; place = 0; due_known = 0; moment = now; due = 0 }) (figures_of (seen now (due_at due)))
unfolding figures_of due_at
none_due now zero e = refl
none_due now (suc due) e = absurd (omega arith)

pub some_due : (now due : ℕ) → (due ≡ 0 → ⊥) → ◌≡◌ {A = Sight} (record { number = 0; place = 0; due_known = 1; moment = now; due = due }) (figures_of (seen now (due_at due)))
unfolding figures_of due_at
some_due now zero e = absurd (e refl)
some_due now (suc due) e = refl

-- ── 7 and 8 ───────────────────────────────────────────────────────────────────────────────────────
pub not_seen_by : (o : Option Machine) (k : Refusal) → Err k ≡ machine_refusal o → not_seen_lem (number_of k) ≡ seen_machine o
unfolding machine_refusal seen_machine seen_unstopped
not_seen_by none k e = let f : k ≡ NoState = cc in rw f refl
not_seen_by (some (halted j)) k e = let f : k ≡ Halted = cc in rw f refl
not_seen_by (some (running s)) k e = let z : ◌≡◌ {A = ℕ} 0 1 = cc in absurd (omega arith)

pub a_state : (listing : Listing) (w : List ℕ) (now due : ℕ) → check_of (Running due) ≡ answer_of (read_machine listing w) → now ≡ moment_at w 1
    → seen now (due_at due) ≡ seen_machine (read_machine listing w)
unfolding seen_machine seen_unstopped state_of state_from
a_state listing w now due e m =
    let is = read_by_refusal listing w (ap is_ok (sym (refusal_running (read_machine listing w) due e))) in
    rw (is, m, due_by_answer listing w due (state_of listing w) e is)

-- ── 1 and 6 ───────────────────────────────────────────────────────────────────────────────────────
module _ (table machine : List ℕ) where
  long_by : (x y : Bool) → leb 12288 (length table) ≡ x → leb 12288 (length machine) ≡ y →
      look_call layout table machine ≡ ask_looked (x && y) (seen_table layout (read_table (first_words table)) machine)
  unfolding look_call
  long_by x y e f = rw (e, f)

  pub short_table : length table < 12288 → not_seen_lem 1 ≡ look_call layout table machine
  unfolding ask_looked
  short_table h = sym (long_by false _ (lt-leb _ _ h) refl)

  pub short_machine : 12288 ≤ length table → length machine < 12288 → not_seen_lem 1 ≡ look_call layout table machine
  unfolding ask_looked
  short_machine g h = sym (long_by true false (le-leb _ _ g) (lt-leb _ _ h))

  module _ (long : 12288 ≤ length table) (long_machine : 12288 ≤ length machine) where
    all_long_lem : look_call layout table machine ≡ seen_table layout (read_table (first_words table)) machine
    unfolding ask_looked
    all_long_lem = long_by true true (le-leb _ _ long) (le-leb _ _ long_machine)

    pub no_table : is_table (first_words table) ≡ false → not_seen_lem 6 ≡ look_call layout table machine
    unfolding seen_table read_table
    no_table e = rw (all_long_lem, e)

    pub on_table : is_table (first_words table) ≡ true → seen_machine (read_machine (table_listing (first_words table)) (first_words machine)) ≡ look_call layout table machine
    unfolding seen_table read_table
    on_table e = rw (all_long_lem, e)
