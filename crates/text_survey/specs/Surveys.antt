-- The routines of a listing as a pass over its lines finds them, and where the pass of question 4 is.
use Rattle.std.specs.Prelude.{◌≡◌, Bool, true, false, map, ◌++◌, ℕ, ◌+◌, ◌-◌, ◌≤◌, min, ltb, length, replicate, set}
use Rattle.listing.specs.Listing as L
use Rattle.text_jumps.specs.declared.record.Record.{Record}
use Rattle.text_jumps.specs.declared.record.Record.TheVariants as CV
use Rattle.text_main.specs.Stated.{is_stated}
use Rattle.text_main.specs.declared.main_routine.Here.{Here}
use Rattle.text_survey.specs.declared.routines.Survey.{Survey}

-- the arguments that a routine takes
abbrev pub arity : L.Routine → ℕ
arity routine = length routine.kinds

pub record SurveyFits (survey : Survey) : Type 0 where
  pub long : length survey.counts ≡ 64
  pub few : survey.routines ≤ 64

-- the survey of a listing's routines: the arguments of each in order, and 0 behind the last
abbrev pub survey_of : L.Listing → Survey
survey_of listing =
    let routines = length listing.routines in
    record { counts = map arity listing.routines ++ replicate (64 - routines) 0; routines = routines }

abbrev pub survey_opens : Survey → ℕ → Bool → Survey
survey_opens survey arguments true = record { counts = set survey.counts survey.routines (min arguments 100); routines = survey.routines + 1 }
survey_opens survey arguments false = survey

abbrev pub survey_one : Survey → Record → Survey
survey_one survey (CV.Ports i o) = survey
survey_one survey (CV.Opens arguments locals by_reference) = survey_opens survey arguments (ltb survey.routines 64)
survey_one survey (CV.Instruction pieces there last) = survey

abbrev pub is_instruction : Record → Bool
is_instruction (CV.Ports i o) = false
is_instruction (CV.Opens arguments locals by_reference) = false
is_instruction (CV.Instruction pieces there last) = true

-- ── the pass of question 4 ───────────────────────────────────────────────────────
abbrev pub answers_here : Here → Record → Bool
answers_here here (CV.Ports i o) = true
answers_here here (CV.Opens arguments locals by_reference) = is_stated here arguments by_reference
answers_here here (CV.Instruction pieces there last) = there

-- past a record, before which so many instructions follow
abbrev pub moved_here_lem : ℕ → Here → Record → Here
moved_here_lem size here (CV.Ports i o) = record { inputs = i; outputs = o; unopened = here.unopened; names = here.names; size = here.size }
moved_here_lem size here (CV.Opens arguments locals by_reference) =
    record { inputs = here.inputs; outputs = here.outputs; unopened = false; names = min arguments 100 + min locals 100; size = min size 1000 }
moved_here_lem size here (CV.Instruction pieces there last) = here
