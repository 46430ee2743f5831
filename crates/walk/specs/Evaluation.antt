-- Sessions and lists of calls by computation: where one of these is unfolded, `refl` plays a quoted listing.
use Rattle.std.specs.Prelude.{List, [], ◌∷◌, ℕ}
use Prim.Native.String.{String}
use Rattle.listing.specs.Bytes.{Bytes, bytes_of}
use Rattle.listing.specs.Bytes as Bytes
use Rattle.listing.specs.Text as Text
use Rattle.listing.specs.Load.{Loading, refused, loaded}
use Rattle.listing.specs.Evaluation.{load}
use Rattle.words_division.specs.Division as Division
use Rattle.walk.specs.State as State
use Rattle.walk.specs.Memory as Memory
use Rattle.walk.specs.Walk as Walk
use Rattle.walk.specs.Instant as Instant
use Rattle.walk.specs.Calls as Calls
use Rattle.walk.specs.Events as Events
use Rattle.walk.specs.Trace as Trace
use Rattle.walk.specs.Session as Session
use Rattle.walk.specs.Runs as Runs
use Rattle.walk.specs.Instant.{Write, NextDue}
use Rattle.walk.specs.Calls.{Outcome, outcome_number, outcome_figures, start_on}
use Rattle.walk.specs.Session.{session, session_of}
use Rattle.walk.specs.Runs.{InstantCall, Answered, answers_from, machine_after}

-- What is seen of a call: number, steps, outputs listed, next moment due.
pub record Seen : Type 0 where
  pub number : ℕ
  pub steps : ℕ
  pub listed : List Write
  pub due : NextDue

unfoldable pub seen : Outcome → Seen
seen o = let f = outcome_figures o in record { number = outcome_number o; steps = f.steps; listed = f.listed; due = f.due }

unfoldable pub all_seen : List Answered → List Seen
all_seen [] = []
all_seen (a ∷ xs) = seen a.outcome ∷ all_seen xs

-- The start with an allowance and then the calls; nothing where the listing is refused. (A refused start leaves no machine: 0 stands for it.)
unfoldable pub seen_on : Loading → ℕ → List InstantCall → List Seen
seen_on (refused number place) allowance calls = []
seen_on (loaded listing) allowance calls =
    let o = start_on listing allowance in seen o ∷ all_seen (answers_from listing (machine_after (Calls.halted 0) o) calls)

-- A list of calls on a quoted listing, and a session of a quoted listing and trace.
unfoldable pub calls_quoted : String → ℕ → List InstantCall → List Seen
unfolding load seen all_seen seen_on
    Bytes.bytes_of
    State.no_variable State.new_variable State.written_to State.input_to State.scheduled_on State.unmarked_of State.made_if_due State.due_write
    State.made_due State.◌⊕◌ State.◌>>=◌ State.live_in_node
    Memory.variable_at Memory.write_at Memory.input_at Memory.schedule_at Memory.address_of Memory.addresses_of Memory.any_written
    Memory.operate Memory.top Division.signed_quotient Division.signed_remainder Memory.divide_by
    Memory.evaluate_piece Memory.evaluate_pieces Memory.evaluate_by Memory.evaluate Memory.consecutive
    Memory.bind_names Memory.own_variables
    Walk.no_routine Walk.routine_at Walk.instruction_at Walk.new_routine Walk.new_routines Walk.child_count Walk.enter Walk.sleep Walk.leave
    Walk.in_turn Walk.begin Walk.join Walk.asking Walk.with_value Walk.branch_place Walk.move Walk.carry_out Walk.execute Walk.step Walk.run
    Walk.passed_wait Walk.wake Walk.resume Walk.visit
    Instant.due_writes Instant.apply_inputs Instant.unmarked Instant.earlier_of Instant.earlier Instant.due_of Instant.due_of_variables
    Instant.next_due Instant.listed_if Instant.written_from Instant.written_outputs Instant.finish Instant.environment_size
    Instant.main_call Instant.environment_names Instant.start Instant.instant Instant.due_in_node Instant.unmarked_node Instant.due_of_node
    Calls.is_stop Calls.halted_words Calls.outcome_number Calls.outcome_place Calls.no_figures Calls.outcome_figures Calls.numbers_after
    Calls.values_after Calls.ask Calls.found Calls.unstopped Calls.due_before Calls.inputs_rise Calls.allowed Calls.answered
    Calls.start_long_enough Calls.instant_long_enough Calls.inputs_of Calls.start_on Calls.instant_from Calls.start_call Calls.instant_call
    Events.events_at
    Trace.read_below Trace.read_signed Trace.read_trace_fields Trace.read_trace_line Trace.join_input Trace.with_input Trace.with_line
    Trace.script_of Trace.script
    Session.played Session.after_then Session.and_then Session.call_from Session.due_next Session.due_or Session.due_instants_before
    Session.all_due_before Session.end_code Session.play Session.play_all Session.write_line Session.write_lines Session.end_line
    Session.end_of Session.printed Session.on_loading Session.before_loading Session.session_of Session.session
    Runs.call_on Runs.machine_after Runs.answers_from Runs.accepted_by Runs.accepted Runs.reported Runs.time_after Runs.time_from
    Runs.answers Runs.accepted_inputs Runs.reported_writes Runs.time_of
calls_quoted listing allowance calls = seen_on (load (bytes_of listing)) allowance calls

unfoldable pub session_quoted : String → String → Bytes
unfolding calls_quoted Bytes.digits Bytes.figure Text.signed_figure
session_quoted listing trace = session (bytes_of listing) (bytes_of trace)
