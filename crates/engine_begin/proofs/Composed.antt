-- The beginning of an instant, from one part to the next: filled in, sleepers listed, due writes made, inputs written.
-- Letters: t the table's words; m₀ the machine's at the entry, m with the blocks noted where a waiting write may stand, m₁ to m₄ filled in, with the trigger lists, after due writes, after inputs; s the state that m₀
-- is read as; n the number of environment variables; σ rows.
use mathlib.Core.Path.{◌≡◌, refl, sym, ap, ◌∙◌}
use mathlib.Core.Bool.{true, false}
use mathlib.Core.List.{List, []}
use mathlib.Core.Option.{some}
use Prim.Native.Nat.{ℕ, ◌+◌, ◌*◌, ◌≤◌, ◌<◌}
use native.Mathlib.Omega.{arith}
use lib.ListN.{length, get_or, take}
use Rattle.listing.specs.Listing.{Listing}
use Rattle.walk.specs.State.{Variable, State}
use Rattle.walk.specs.Instant.{Write, environment_size, due_writes, apply_inputs, next_due}
use Rattle.walk.specs.Calls.{Words32, running, inputs_of, due_before}
use Rattle.walk.specs.Question7.{IsState}
use Rattle.table.specs.Decode.{word, table_listing}
use Rattle.table.specs.Question6.{is_table}
use Rattle.machine.specs.ReadMachine.{read_machine}
use Rattle.machine.specs.Limits.{WithinLimits}
use Rattle.machine_words.specs.Tests.{Dues}
use Rattle.machine_check.proofs.FromQuestion6.{table_within_limits}
use Rattle.engine_rows.specs.Rows.{Rows}
use Rattle.engine_rows.specs.Ready.{insert_all_lem}
use Rattle.engine_rows.specs.Triggers.{triggers_of, wakes_now, ready_of}
use Rattle.engine_rows.specs.Beginning.{due_in_rows}
use Rattle.engine_rows.specs.Records.{filled_rows}
use Rattle.engine_rows.proofs.Sorted.{In}
use Rattle.engine_rows.proofs.Holds.{Holds}
use Rattle.engine_rows.proofs.Marking.{none_wakes}
use Rattle.engine_rows.proofs.AnyOrder.{ready_any_order}
use Rattle.engine_blocks.specs.Blocks.{Block, block, owner_at, rows_of, environment_of}
use Rattle.engine_blocks.specs.Changes.{SameOutside, SameRows}
use Rattle.engine_blocks.proofs.Staying.{outside_then, rows_of_same, environment_of_same}
use Rattle.engine_clean.specs.Clean.{CleanBlock, CleanSlot, Clean}
use Rattle.engine_ready.specs.declared.ReadyList.{ReadyList}
use Rattle.engine_ready.specs.Slots.{slots_of}
use Rattle.engine_ready.specs.Ordered.{Ordered, ordered_none}
use Rattle.engine_triggers.specs.Chains.{triggers_at, NoTriggers, OnlyTriggers}
use Rattle.engine_triggers.specs.Awaited.{Sleepers, NamesOf}
use Rattle.engine_fill_row.specs.Filling.{order_of, ports_of, FillsRows, MayFillAll}
use Rattle.engine_due.specs.Beginnings.{DueMade, DuesTell, InputsWritten, NumbersBelow}
use Rattle.engine_inputs.proofs.InputNumbers.{rising_numbers_below}
use Rattle.engine_due.specs.Reaching.{ReadySoFar, Reaches, NothingWritten}
use Rattle.engine_queue.specs.Queue.{Queued}
use Rattle.engine_begin_laws.proofs.QueuedWords.{queued_clean, may_fill_queued, filled_queued}
use Rattle.engine_begin.specs.Begun.{MayBegin, BegunFrom, Begun}
use Rattle.engine_begin_laws.proofs.Found.{slot_found, found_live, found_few, found_environment, found_no_triggers, false_not}
use Rattle.engine_begin_laws.proofs.Filled.{state_found, filled_from, filled_from_holds, filled_own, filled_rows_lem, may_fill_all}
use Rattle.engine_begin_laws.proofs.NotDue.{dues_tell}
use Rattle.engine_begin_laws.proofs.AtRest.{words_unwritten, nothing_written}
use Rattle.engine_begin_laws.proofs.Made.{own_as_it_is, own_after_due, made_placed, made_sleepers, made_names}

-- ── the environment's size ─────────────────────────────────────────────────────────────────────────
pub size_of_table : (t : List ℕ) → is_table t ≡ true → (n : ℕ) → n ≡ word t 0 + word t 1 → (n ≡ environment_size (table_listing t)) × (n ≤ 16)
unfolding environment_size table_listing
size_of_table t table n e = let p = (table_within_limits t table).ports in (e, omega (arith, e, p))

-- ── trigger words do not make words unclean ────────────────────────────────────────────────────────
block_clean : {c : ℕ} (a b : Block) → ((k : ℕ) → k < 144 → b k ≡ a k) → CleanBlock c a → CleanBlock c b
block_clean a b same T =
    record {
      few = T.few;
      kept = λ k l h. same k (omega arith) ∙ T.kept k l h;
      spare_low = λ i h. same (12 + i * 6) (omega arith) ∙ T.spare_low i h;
      spare_high = λ i h. same (13 + i * 6) (omega arith) ∙ T.spare_high i h;
      past = λ i l h. let B = T.past i l h in record {
        value = same (8 + i * 6) (omega arith) ∙ B.value;
        waiting = same (9 + i * 6) (omega arith) ∙ B.waiting;
        low = same (10 + i * 6) (omega arith) ∙ B.low;
        high = same (11 + i * 6) (omega arith) ∙ B.high;
      };
      idle = λ i h e. same (9 + i * 6) (omega arith) ∙ T.idle i h (rw (same (10 + i * 6) (omega arith), same (11 + i * 6) (omega arith)) at e);
      quiet = λ e i h. rw (same (10 + i * 6) (omega arith), same (11 + i * 6) (omega arith)) (T.quiet (sym (same 7 (omega arith)) ∙ e) i h);
    }

slot_clean : (a b : Block) → ((k : ℕ) → k < 144 → b k ≡ a k) → CleanSlot a → CleanSlot b
slot_clean a b same T = record {
  clean = rw (same 4 (omega arith)) (block_clean a b same T.clean);
  free = λ e k h. same k h ∙ T.free (sym (same 0 (omega arith)) ∙ e) k h;
}

pub listed_clean : {n : ℕ} {a m : List ℕ} → SameRows a m → Clean n a → Clean n m
listed_clean {a = a} {m = m} R T = record {
  slots = λ s h. slot_clean (block a s) (block m s) (λ k l. R.same s k (omega arith) l) (T.slots s h);
  environment = record {
    clean = block_clean (block a 64) (block m 64) (λ k l. R.same 64 k (omega arith) l) T.environment.clean;
    before = λ k h. R.same 64 k (omega arith) (omega arith) ∙ T.environment.before k h;
  };
}

-- ── words that stand for rows and an environment ──────────────────────────────────────────────────
-- They are clean, and differ from m₀ in blocks alone.
record Stands (n : ℕ) (m₀ m : List ℕ) (σ : Rows) (environment : List Variable) : Type 0 where
  rows : rows_of m ≡ σ
  outer : environment_of n m ≡ environment
  clean : Clean n m
  outside : SameOutside m₀ m

module _ {n : ℕ} {m₀ m m' : List ℕ} {σ : Rows} {environment : List Variable} (S : Stands n m₀ m σ environment) where
  listed_stand : OnlyTriggers m m' → Stands n m₀ m' σ environment
  listed_stand O = record {
    rows = rows_of_same O.rows ∙ S.rows;
    outer = environment_of_same O.rows n ∙ S.outer;
    clean = listed_clean O.rows S.clean;
    outside = outside_then S.outside O.outside;
  }

  due_stand : (moment : ℕ) → DueMade n moment m m' → Stands n m₀ m' (due_in_rows moment σ) (due_writes moment environment)
  due_stand moment D = record {
    rows = D.rows ∙ ap (due_in_rows moment) S.rows;
    outer = D.environment ∙ ap (due_writes moment) S.outer;
    clean = D.clean S.clean;
    outside = outside_then S.outside D.outside;
  }

  inputs_stand : (moment : ℕ) (inputs : List Write) → InputsWritten n inputs m m' → Stands n m₀ m' σ (apply_inputs moment inputs environment)
  inputs_stand moment inputs W = record {
    rows = W.rows ∙ S.rows;
    outer = W.environment moment ∙ ap (apply_inputs moment inputs) S.outer;
    clean = W.clean S.clean;
    outside = outside_then S.outside W.outside;
  }

-- ── the ready list ────────────────────────────────────────────────────────────────────────────────
-- The trigger lists of m' are those of the rows of m.
abbrev ListsOf : Listing → List ℕ → List ℕ → Type 0
ListsOf listing m m' = (q index : ℕ) → q ≤ 64 → index < 16 → triggers_at m' q index ≡ triggers_of listing (rows_of m) (owner_at q index)

-- Nobody is ready where nothing is written.
none_ready_yet : (listing : Listing) (n : ℕ) (m : List ℕ) → ((s : ℕ) → wakes_now listing (rows_of m) (environment_of n m) s ≡ false) →
    ListsOf listing m m → ReadySoFar listing n m []
unfolding insert_all_lem
none_ready_yet listing n m none lists =
    record { woken = []; made = refl; sound = λ s i. elim i [ ]; full = λ s w. false_not (sym (none s) ∙ w); lists = lists }

-- ── the parts, for a state that m₀ is read as ─────────────────────────────────────────────────────
-- m₁ filled in, from m, as the rows of m₀ are.
abbrev FilledIn : List ℕ → List ℕ → List ℕ → List ℕ → Type 0
FilledIn t m₀ m m₁ = FillsRows m (filled_rows (table_listing t) (rows_of m₀) (ports_of t m₀) (λ level. 64) (order_of m₀)) m₁

module _ (t m₀ : List ℕ) (table : is_table t ≡ true) (small : Words32 m₀) (s : State) (e : read_machine (table_listing t) (take 12288 m₀) ≡ some (running s)) where
  abbrev listing : Listing
  listing = table_listing t

  abbrev n : ℕ
  n = environment_size listing

  abbrev filled : Rows
  filled = filled_from t m₀ table small s e

  limits : WithinLimits listing
  limits = table_within_limits t table

  held : Holds true listing filled s.environment s
  held = filled_from_holds t m₀ table small s e

  state : IsState listing s
  state = state_found t m₀ table small s e

  module _ (dues m : List ℕ) (D : Dues n (take 12288 m₀) dues) (Q : Queued 65 dues m₀ m) (m₁ : List ℕ) (F : FilledIn t m₀ m m₁) where
    filled_stand : Stands n m₀ m₁ filled s.environment
    filled_stand = record {
      rows = F.rows ∙ filled_rows_lem t m₀ table small s e;
      outer = F.environment n ∙ (Q.environment n ∙ found_environment listing limits m₀ small s e);
      clean = F.clean n (queued_clean listing limits m₀ small s e dues m D Q);
      outside = outside_then Q.outside F.outside;
    }

    -- before the sleepers are listed
    no_triggers_yet : NoTriggers m₁
    no_triggers_yet = record {
      none = λ q i h l.
          F.triggers.same q (144 + i) h (omega arith) ∙ (Q.triggers.same q (144 + i) h (omega arith) ∙ (found_no_triggers listing limits m₀ small s e).none q i h l);
    }

    sleepers_named : Sleepers t m₁
    sleepers_named = made_sleepers t m₁ s filled table held state _ (filled_stand.rows ∙ own_as_it_is filled)

    names_listed : NamesOf listing t m₁
    names_listed = made_names t m₁ s filled table held state _ (filled_stand.rows ∙ own_as_it_is filled)

    module _ (m₂ : List ℕ) (O : OnlyTriggers m₁ m₂) where
      abbrev listed : Stands n m₀ m₂ filled s.environment
      listed = listed_stand filled_stand O

      -- before due writes
      unwritten : NothingWritten n m₂
      unwritten = nothing_written listing n m₂ filled s held state listed.rows listed.outer listed.clean

      told : (moment : ℕ) → 0 < moment → due_before (next_due s) moment ≡ false → DuesTell n moment dues m₂
      told moment pos quiet =
          dues_tell listing n moment m₀ m₂ dues filled s held pos quiet D limits.ports (filled_own t m₀ table small s e)
          (λ q h. (slot_found listing limits m₀ small s e q h).rests.few) (found_environment listing limits m₀ small s e)
          listed.rows listed.outer unwritten

      nobody_ready : ListsOf listing m₁ m₂ → ReadySoFar listing n m₂ []
      nobody_ready lists =
          none_ready_yet listing n m₂
          (none_wakes listing (rows_of m₂) (environment_of n m₂) (words_unwritten listing n m₂ filled s held state listed.rows listed.outer listed.clean))
          (λ q i h l. lists q i h l ∙ ap (λ (σ : Rows). triggers_of listing σ (owner_at q i)) (sym (rows_of_same O.rows)))

      -- at the end
      module _ (moment : ℕ) (inputs : List Write) (m₃ m₄ : List ℕ) (made : DueMade n moment m₂ m₃) (W : InputsWritten n inputs m₃ m₄) where
        abbrev written : Stands n m₀ m₄ (due_in_rows moment filled) (apply_inputs moment inputs (due_writes moment s.environment))
        written = inputs_stand (due_stand listed moment made) moment inputs W

        begun_from : (r : ReadyList) → Ordered (rows_of m₄) (slots_of r) → ReadySoFar listing n m₄ (slots_of r) → BegunFrom t m₀ m₄ moment inputs r s
        begun_from r order R =
            record {
              filled = filled;
              filled_holds = held;
              rows = written.rows;
              environment = written.outer;
              lists = R.lists;
              ready_slots = R.made ∙ all_ready R.woken R.sound R.full;
              order = order;
              live = found_live listing limits m₀ small s e;
              clean = written.clean;
              placed = made_placed t m₄ s filled table held state _ (written.rows ∙ own_after_due moment filled) written.clean;
              size = written.outside.size;
              past = written.outside.past;
            }
          where
            all_ready : (woken : List ℕ) → ((q : ℕ) → In q woken → wakes_now listing (rows_of m₄) (environment_of n m₄) q ≡ true) →
                ((q : ℕ) → wakes_now listing (rows_of m₄) (environment_of n m₄) q ≡ true → In q woken) →
                insert_all_lem (rows_of m₄) woken [] ≡ ready_of listing (rows_of m₄) (environment_of n m₄)
            all_ready = rw (written.rows, written.outer) (λ woken sound full. ready_any_order s moment inputs woken held state sound full)

-- ── the parts of `begin_instant` ──────────────────────────────────────────────────────────────────
module _ (t m₀ : List ℕ) (moment : ℕ) (dues numbers values : List ℕ) (P : MayBegin t m₀ moment dues numbers values) where
  inputs_few : (table_listing t).inputs ≤ environment_size (table_listing t)
  unfolding environment_size
  inputs_few = omega arith

  numbers_below : (k : ℕ) → (table_listing t).inputs ≤ k → NumbersBelow k numbers
  numbers_below k h =
      let N = rising_numbers_below (table_listing t).inputs 0 numbers values P.same P.inputs in
      record { below = λ i l. let b = N.below i l in omega arith }

  numbers_of_ports : NumbersBelow (environment_size (table_listing t)) numbers
  numbers_of_ports = numbers_below (environment_size (table_listing t)) inputs_few

  numbers_of_names : NumbersBelow 16 numbers
  numbers_of_names = let a = inputs_few in let b = (table_within_limits t P.table).ports in numbers_below 16 (omega arith)

  module _ (small : Words32 m₀) where
    few_live : get_or m₀ 3 0 ≤ 64
    few_live = found_few (table_listing t) (table_within_limits t P.table) m₀ small P.state P.stands

    module _ (m : List ℕ) (Q : Queued 65 dues m₀ m) where
      pub may_begin_pass : MayFillAll t m
      may_begin_pass = may_fill_queued t m₀ dues m Q few_live (may_fill_all t m₀ P.table small P.state P.stands P.size)

      module _ (m₁ : List ℕ) (F₀ : FillsRows m (filled_rows (table_listing t) (rows_of m) (ports_of t m) (λ level. 64) (order_of m)) m₁) where
        F : FilledIn t m₀ m m₁
        F = filled_queued t m₀ dues m Q few_live m₁ F₀

        pub may_list_sleepers : (12288 ≤ length m₁) × NoTriggers m₁ × Sleepers t m₁
        may_list_sleepers =
            let noted = Q.outside.size in
            let size = F.outside.size in
            let long = P.size in (
              omega arith,
              no_triggers_yet t m₀ P.table small P.state P.stands dues m P.each Q m₁ F,
              sleepers_named t m₀ P.table small P.state P.stands dues m P.each Q m₁ F,
            )

        -- k is the number of ports as the code has it
        module _ (k : ℕ) (ports : (k ≡ environment_size (table_listing t)) × (k ≤ 16)) (m₂ : List ℕ) (O : OnlyTriggers m₁ m₂) (q₀ : ReadyList) (none : slots_of q₀ ≡ []) where
          dues_told : DuesTell k moment dues m₂
          dues_told = rw ports.0 (told t m₀ P.table small P.state P.stands dues m P.each Q m₁ F m₂ O moment P.later P.nothing_due)

          pub may_make_due : (12288 ≤ length m₂) × (k ≤ 16) × (0 < moment) × (length dues ≡ 65) × DuesTell k moment dues m₂ × Ordered (rows_of m₂) (slots_of q₀)
          may_make_due =
              let noted = Q.outside.size in
              let a = F.outside.size in
              let b = O.outside.size in
              let long = P.size in
              (omega arith, ports.1, P.later, P.places, dues_told, rw none ordered_none)

          module _ (m₃ : List ℕ) (q₁ : ReadyList)
              (D : DueMade k moment m₂ m₃ × Ordered (rows_of m₃) (slots_of q₁) × (NothingWritten k m₂ → Reaches k m₂ m₃ (slots_of q₀) (slots_of q₁))) where
            pub may_write_inputs : (12288 ≤ length m₃) × (length numbers ≡ length values) × NumbersBelow 16 numbers × Ordered (rows_of m₃) (slots_of q₁)
            may_write_inputs =
                let noted = Q.outside.size in
                let a = F.outside.size in
                let b = O.outside.size in
                let d = D.0.outside.size in
                let long = P.size in
                (omega arith, P.same, numbers_of_names, D.1)

            pub begun : (m₄ : List ℕ) (r : ReadyList) → ((listing : Listing) → NamesOf listing t m₁ → ListsOf listing m₁ m₂) →
                Ordered (rows_of m₄) (slots_of r) × ((n : ℕ) → NumbersBelow n numbers →
                InputsWritten n (inputs_of numbers values) m₃ m₄ × Reaches n m₃ m₄ (slots_of q₁) (slots_of r)) → Begun t m₀ m₄ moment numbers values r
            begun m₄ r lists W = record { holds = all }
              where
                n : ℕ
                n = environment_size (table_listing t)

                made : DueMade n moment m₂ m₃ × Ordered (rows_of m₃) (slots_of q₁) × (NothingWritten n m₂ → Reaches n m₂ m₃ [] (slots_of q₁))
                made = rw (ports.0, none) at D

                last : InputsWritten n (inputs_of numbers values) m₃ m₄ × Reaches n m₃ m₄ (slots_of q₁) (slots_of r)
                last = W.1 n numbers_of_ports

                all : (s : State) → read_machine (table_listing t) (take 12288 m₀) ≡ some (running s) → BegunFrom t m₀ m₄ moment (inputs_of numbers values) r s
                all s e =
                    let names = names_listed t m₀ P.table small s e dues m P.each Q m₁ F in
                    let first = nobody_ready t m₀ P.table small s e dues m P.each Q m₁ F m₂ O (lists (table_listing t) names) in
                    let due = (made.2 (unwritten t m₀ P.table small s e dues m P.each Q m₁ F m₂ O)).goes_on (table_listing t) first in
                    begun_from t m₀ P.table small s e dues m P.each Q m₁ F m₂ O moment (inputs_of numbers values) m₃ m₄ made.0 last.0 r W.0 (last.1.goes_on (table_listing t) due)
