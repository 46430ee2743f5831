-- Question 7 on words: what passes stands for a state, every state has words that pass, and no word of them is free.
use mathlib.Core.Path.{◌≡◌, refl, sym, ap, ◌∙◌}
use mathlib.Core.Bool.{Bool, true, false}
use mathlib.Core.List.{List, [], ◌∷◌}
use mathlib.Core.Option.{some}
use Prim.Native.Nat.{ℕ, zero, suc, ◌+◌, ◌<◌, ◌≤◌}
use lib.ListN.{length, get_or, replicate, length-replicate}
use lib.Seq.{ext_get_or}
use native.Mathlib.Omega.{arith}
use Rattle.listing.specs.Listing.{Listing}
use Rattle.walk.specs.State.{Variable, empty, live_in_forest, State, new_variable}
use Rattle.walk.specs.Memory.{consecutive}
use Rattle.walk.specs.Instant.{environment_size, environment_names, main_call, next_due}
use Rattle.walk.specs.Question7.{all_at_rest, at_rest, due_after, no_more, ended, IsState}
use Rattle.walk.specs.Calls.{halted, running, is_stop, halted_words}
use Rattle.machine.specs.Records.{Record, records_of, forest_from, state_from}
use Rattle.machine.specs.Words.{block_at, environment_block, moment_at, variables_in, records_in, zero_from, words_in_place, running_words, state_of}
use Rattle.machine.specs.ReadMachine.{stopped_words, machine_by, read_machine}
use Rattle.machine.specs.Layout.{header_words, environment_words, variables_words, waiting_value, waiting_moment, laid_out, words_of, SlotsFor, Holds}
use Rattle.machine.specs.Limits.{WithinLimits}
use Rattle.machine.specs.Due.{words_due}
use Rattle.machine.proofs.Basics.{and_left, and_right}
use Rattle.machine.proofs.RecordsExact.{record_count, state_records_pass, state_from_records, PassingState, passing_records_are_a_state}
use Rattle.machine.proofs.HeldWordsPass.{get_or-nil, zero_from_lem, RecordsRest, held_first, held_moment, held_records, held_environment, held_in_place}
use Rattle.machine.proofs.LaidOutHolds.{laid_out_length, laid_out_holds, holds_determines}
use Rattle.machine.proofs.InPlace.{zeros_read, in_place}
use Rattle.machine.proofs.PassingWordsHold.{Words32, slots_here, environment_here, records_here, slots_here_lem, records_rest_here, words_hold, environment_rests, environment_size_lem, few_here}
use Rattle.machine.proofs.StateRecords.{plain_rests, state_records_plain}
use Rattle.machine.proofs.LaidOut32.{laid_out_32}
use Rattle.machine.proofs.NextDue.{next_due_of_records}

-- ── the cases of what is read ─────────────────────────────────────────────────────────────────────
running_case : (a b : Bool) (k : ℕ) (t s : State) → machine_by a b k t ≡ some (running s) → (b ≡ true) × (t ≡ s)
unfolding machine_by
running_case true b k t s e = let z : ◌≡◌ {A = ℕ} 0 1 = cc in absurd (let y : ⊥ = omega arith in y)
running_case false true k t s e = (refl, cc)
running_case false false k t s e = let z : ◌≡◌ {A = ℕ} 0 1 = cc in absurd (let y : ⊥ = omega arith in y)

halted_case : (a b : Bool) (k j : ℕ) (t : State) → machine_by a b k t ≡ some (halted j) → (a ≡ true) × (k ≡ j)
unfolding machine_by
halted_case true b k j t e = (refl, cc)
halted_case false true k j t e = let z : ◌≡◌ {A = ℕ} 0 1 = cc in absurd (let y : ⊥ = omega arith in y)
halted_case false false k j t e = let z : ◌≡◌ {A = ℕ} 0 1 = cc in absurd (let y : ⊥ = omega arith in y)

not_stopped : (w : List ℕ) → get_or w 0 0 ≡ 0 → stopped_words w ≡ false
unfolding stopped_words is_stop
not_stopped w e = rw e

-- ── what is read is a state, laid out at distinct slots ───────────────────────────────────────────
-- The words are the layout of the state's records at slots of their own: they are determined by the state, the slot of
-- each record and, where two child fields of an `F` bind alike, the number of the field.
pub record LaidOut (listing : Listing) (w : List ℕ) (s : State) : Type 0 where
  pub state : IsState listing s
  pub slots : List ℕ
  pub distinct : SlotsFor slots (records_of state.tree 0)
  pub holds : Holds w slots s.now s.environment (records_of state.tree 0)
  pub words : length w ≡ 12288 → w ≡ laid_out slots s.now s.environment (records_of state.tree 0)

module _ (listing : Listing) (w : List ℕ) (small : Words32 w) (pass : running_words listing w ≡ true) where
  size : ℕ
  size = environment_size listing

  placed : words_in_place size w ≡ true
  unfolding running_words size
  placed = and_left (words_in_place (environment_size listing) w) _ pass

  env : List Variable
  env = variables_in w (environment_block + 8) size

  xs : List Record
  xs = records_in w 0 (get_or w 3 0)

  env_size : length env ≡ size
  unfolding env environment_here
  env_size = (environment_size_lem w small size placed).0

  env_narrow : length env ≤ 16
  unfolding size
  env_narrow = rw env_size (environment_size_lem w small size placed).1

  passing : PassingState listing (moment_at w 1) env xs (forest_from listing xs 0 (length env) (environment_names listing) (main_call listing ∷ []))
  unfolding running_words env xs size environment_here records_here
  passing = passing_records_are_a_state listing (moment_at w 1) env xs (and_right (words_in_place (environment_size listing) w) _ pass)
      (few_here w small size placed) (omega (arith, small 1, small 2)) env_size (environment_rests w small size placed)

  held : Holds w (slots_here w small size placed) (moment_at w 1) env (records_of passing.state.tree 0)
  unfolding environment_here records_here env xs
  held = rw passing.records (words_hold w small size placed)

  own_slots : SlotsFor (slots_here w small size placed) (records_of passing.state.tree 0)
  unfolding records_here xs
  own_slots = rw passing.records (slots_here_lem w small size placed)

  few_own : length (records_of passing.state.tree 0) ≤ 64
  unfolding records_here xs
  few_own = rw passing.records (few_here w small size placed)

  rest_own : RecordsRest (moment_at w 1) (records_of passing.state.tree 0)
  unfolding records_here xs
  rest_own = rw passing.records (records_rest_here w small size placed)

  passing_words : LaidOut listing w (state_of listing w)
  unfolding state_of state_from env xs size
  passing_words = record {
    state = passing.state;
    slots = slots_here w small size placed;
    distinct = own_slots;
    holds = held;
    words = λ l. holds_determines w (laid_out (slots_here w small size placed) (moment_at w 1) env (records_of passing.state.tree 0))
        (slots_here w small size placed) (moment_at w 1) env (records_of passing.state.tree 0) held
        (laid_out_holds (slots_here w small size placed) (moment_at w 1) env (records_of passing.state.tree 0) own_slots env_narrow (λ k h. rest_own.few k h) few_own)
        l (laid_out_length (slots_here w small size placed) (moment_at w 1) env (records_of passing.state.tree 0) own_slots env_narrow (λ k h. rest_own.few k h) few_own);
  }

-- Facts 2 and 5: memory that passes as running stands for a state of the walk, and is the layout of that state.
pub read_is_laid_out : (listing : Listing) (w : List ℕ) (s : State) → Words32 w → read_machine listing w ≡ some (running s) → LaidOut listing w s
unfolding read_machine
read_is_laid_out listing w s small e =
    let (p, q) = running_case (stopped_words w) (running_words listing w) (get_or w 0 0) (state_of listing w) s e in
    rw q at (passing_words listing w small p)

pub read_is_a_state : (listing : Listing) (w : List ℕ) (s : State) → Words32 w → read_machine listing w ≡ some (running s) → IsState listing s
read_is_a_state listing w s small e = (read_is_laid_out listing w s small e).state

-- "The machine's first word holds the number (0 while running)"
pub running_first_word_is_0 : (listing : Listing) (w : List ℕ) (s : State) → read_machine listing w ≡ some (running s) → get_or w 0 0 ≡ 0
unfolding read_machine running_words
running_first_word_is_0 listing w s e =
    let (p, q) = running_case (stopped_words w) (running_words listing w) (get_or w 0 0) (state_of listing w) s e in
    (in_place w (environment_size listing) (and_left (words_in_place (environment_size listing) w) _ p)).first

-- ── words that hold a state are read as that state ────────────────────────────────────────────────
module _ (listing : Listing) (L : WithinLimits listing) (s : State) (h : IsState listing s) where
  few_records : length (records_of h.tree 0) ≤ 64
  few_records = rw (record_count h.tree 0) h.few

  narrow : length s.environment ≤ 16
  narrow = rw h.size L.ports

  rests : RecordsRest s.now (records_of h.tree 0)
  rests = plain_rests s.now (records_of h.tree 0) (state_records_plain listing L s h)

  module _ (w slots : List ℕ) (S : SlotsFor slots (records_of h.tree 0)) (H : Holds w slots s.now s.environment (records_of h.tree 0)) where
    held_passes : running_words listing w ≡ true
    unfolding running_words
    held_passes =
        rw (
          ← h.size,
          held_in_place w slots s.now s.environment (records_of h.tree 0) S H h.resting narrow rests few_records,
          held_moment w slots s.now s.environment (records_of h.tree 0) S H h.resting narrow rests few_records,
          held_records w slots s.now s.environment (records_of h.tree 0) S H h.resting narrow rests few_records,
        ) (state_records_pass listing s h)

    held_state : state_of listing w ≡ s
    unfolding state_of
    held_state =
        rw (
          ← h.size,
          held_environment w slots s.now s.environment (records_of h.tree 0) S H h.resting narrow rests few_records,
          held_moment w slots s.now s.environment (records_of h.tree 0) S H h.resting narrow rests few_records,
          held_records w slots s.now s.environment (records_of h.tree 0) S H h.resting narrow rests few_records,
        ) (state_from_records listing s h)

    -- Fact 4: header, order list and blocks with a state's records in walking order at any distinct slots, all else 0.
    pub held_words_are_read : read_machine listing w ≡ some (running s)
    unfolding read_machine machine_by
    held_words_are_read =
        rw (not_stopped w (held_first w slots s.now s.environment (records_of h.tree 0) S H h.resting narrow rests few_records), held_passes, held_state)

  -- The layout of a state's records at any distinct slots is read as that state.
  pub laid_out_is_read : (slots : List ℕ) → SlotsFor slots (records_of h.tree 0) →
      read_machine listing (laid_out slots s.now s.environment (records_of h.tree 0)) ≡ some (running s)
  laid_out_is_read slots S =
      held_words_are_read (laid_out slots s.now s.environment (records_of h.tree 0)) slots S
      (laid_out_holds slots s.now s.environment (records_of h.tree 0) S narrow (λ k l. rests.few k l) few_records)

consecutive_at : (n b j : ℕ) → j < n → get_or (consecutive n b) j 0 ≡ b + j
unfolding consecutive
consecutive_at zero b j h = absurd (let z : ⊥ = omega arith in z)
consecutive_at (suc n) b zero h = let p : b + 0 ≡ b = omega arith in rw p
consecutive_at (suc n) b (suc j) h = let p : suc b + j ≡ b + suc j = omega arith in rw (← p) (consecutive_at n (suc b) j (omega arith))

length_consecutive : (n b : ℕ) → length (consecutive n b) ≡ n
unfolding consecutive
length_consecutive zero b = refl
length_consecutive (suc n) b = ap suc (length_consecutive n (suc b))

first_slots : (xs : List Record) → length xs ≤ 64 → SlotsFor (consecutive (length xs) 0) xs
first_slots xs few = record {
  size = length_consecutive (length xs) 0;
  below = λ k h. rw (consecutive_at (length xs) 0 k h) (omega arith);
  distinct = λ i k h g e. omega (arith, consecutive_at (length xs) 0 i h, consecutive_at (length xs) 0 k g, e);
}

-- Fact 3: every state has 12,288 words of 32 bits that are read as it.
pub record HasWords (listing : Listing) (s : State) (w : List ℕ) : Type 0 where
  pub long : length w ≡ 12288
  pub words32 : Words32 w
  pub read : read_machine listing w ≡ some (running s)

pub every_state_has_words : (listing : Listing) → WithinLimits listing → (s : State) (h : IsState listing s) →
    HasWords listing s (words_of s.now s.environment (records_of h.tree 0))
unfolding words_of
every_state_has_words listing L s h =
    let xs = records_of h.tree 0 in
    let slots = consecutive (length xs) 0 in
    let few = few_records listing L s h in
    let S = first_slots xs few in
    let R = rests listing L s h in
    record {
      long = laid_out_length slots s.now s.environment xs S (narrow listing L s h) (λ k l. R.few k l) few;
      words32 = laid_out_32 slots s.now s.environment xs S h.moment h.resting (state_records_plain listing L s h) few;
      read = laid_out_is_read listing L s h slots S;
    }

-- ── the stopped form ──────────────────────────────────────────────────────────────────────────────
zero_list : (n j : ℕ) → get_or {A = ℕ} (replicate n 0) j 0 ≡ 0
zero_list zero j = get_or-nil j
zero_list (suc n) zero = refl
zero_list (suc n) (suc j) = zero_list n j

zero_tail : (k n j : ℕ) → get_or {A = ℕ} (k ∷ replicate n 0) (1 + j) 0 ≡ 0
zero_tail k n j = let p : 1 + j ≡ suc j = omega arith in rw p (zero_list n j)

pub halted_words_are_read : (listing : Listing) (k : ℕ) → is_stop k ≡ true → read_machine listing (halted_words k) ≡ some (halted k)
unfolding read_machine machine_by stopped_words halted_words
halted_words_are_read listing k e = rw (e, zero_from_lem (halted_words k) 1 12287 (λ j h. zero_tail k 12287 j))

same_as_halted : (w : List ℕ) (n : ℕ) → length w ≡ suc n → zero_from w 1 n ≡ true → w ≡ get_or w 0 0 ∷ replicate n 0
unfolding zero_from
same_as_halted w n l e = ext_get_or 0 w (get_or w 0 0 ∷ replicate n 0) (l ∙ ap suc (sym (length-replicate n 0))) (λ i h. at i h)
  where
    at : (i : ℕ) → i < length w → get_or w i 0 ≡ get_or (get_or w 0 0 ∷ replicate n 0) i 0
    at zero h = refl
    at (suc i) h = let p : 1 + i ≡ suc i = omega arith in rw p at (zeros_read w 1 n i (omega arith) e) ∙ sym (zero_list n i)

-- Memory that passes as stopped is the stopped form.
pub read_halted_is_the_stopped_form : (listing : Listing) (w : List ℕ) (k : ℕ) → length w ≡ 12288 → read_machine listing w ≡ some (halted k) →
    (is_stop k ≡ true) × (w ≡ halted_words k)
unfolding read_machine stopped_words halted_words
read_halted_is_the_stopped_form listing w k l e =
    let (p, q) = halted_case (stopped_words w) (running_words listing w) (get_or w 0 0) k (state_of listing w) e in
    (rw q at (and_left (is_stop (get_or w 0 0)) _ p), same_as_halted w 12287 l (and_right (is_stop (get_or w 0 0)) _ p) ∙ ap (λ j. j ∷ replicate 12287 0) q)

-- ── all words 0: moment 0, main ended, all values 0, nothing waiting ──────────────────────────────
unfoldable pub zero_state : Listing → State
zero_state listing = record { now = 0; environment = replicate (environment_size listing) (new_variable 0 0); tree = empty }

fresh_rest : (n : ℕ) → all_at_rest 0 (replicate n (new_variable 0 0)) ≡ true
unfolding all_at_rest at_rest new_variable due_after
fresh_rest zero = refl
fresh_rest (suc n) = fresh_rest n

fresh_words : (n j : ℕ) → get_or (variables_words (replicate n (new_variable 0 0))) j 0 ≡ 0
unfolding variables_words new_variable waiting_value waiting_moment
fresh_words zero j = get_or-nil j
fresh_words (suc n) zero = refl
fresh_words (suc n) (suc zero) = refl
fresh_words (suc n) (suc (suc zero)) = refl
fresh_words (suc n) (suc (suc (suc zero))) = refl
fresh_words (suc n) (suc (suc (suc (suc zero)))) = refl
fresh_words (suc n) (suc (suc (suc (suc (suc zero))))) = refl
fresh_words (suc n) (suc (suc (suc (suc (suc (suc j)))))) = fresh_words n j

zero_state_lem : (listing : Listing) → IsState listing (zero_state listing)
unfolding zero_state live_in_forest
zero_state_lem listing = record {
  moment = omega arith;
  size = length-replicate (environment_size listing) (new_variable 0 0);
  resting = fresh_rest (environment_size listing);
  tree = ended no_more;
  few = omega arith;
}

zero_header : (j : ℕ) → get_or (header_words 0 0) j 0 ≡ 0
unfolding header_words
zero_header zero = refl
zero_header (suc zero) = refl
zero_header (suc (suc zero)) = refl
zero_header (suc (suc (suc zero))) = refl
zero_header (suc (suc (suc (suc j)))) = get_or-nil j

zero_outer : (n j : ℕ) → get_or (environment_words (replicate n (new_variable 0 0))) j 0 ≡ 0
unfolding environment_words
zero_outer n zero = refl
zero_outer n (suc zero) = refl
zero_outer n (suc (suc zero)) = refl
zero_outer n (suc (suc (suc zero))) = refl
zero_outer n (suc (suc (suc (suc zero)))) = refl
zero_outer n (suc (suc (suc (suc (suc zero))))) = refl
zero_outer n (suc (suc (suc (suc (suc (suc zero)))))) = refl
zero_outer n (suc (suc (suc (suc (suc (suc (suc zero))))))) = refl
zero_outer n (suc (suc (suc (suc (suc (suc (suc (suc j)))))))) = fresh_words n j

pub zero_words_are_read : (listing : Listing) → WithinLimits listing → (w : List ℕ) → ((i : ℕ) → get_or w i 0 ≡ 0) → read_machine listing w ≡ some (running (zero_state listing))
unfolding zero_state records_of zero_state_lem
zero_words_are_read listing L w z =
    held_words_are_read listing L (zero_state listing) (zero_state_lem listing) w []
    (record { size = refl; below = λ k h. absurd (let y : ⊥ = omega arith in y); distinct = λ i k h g e. absurd (let y : ⊥ = omega arith in y) })
    (record {
      header = λ j h. z (0 + j) ∙ sym (zero_header j);
      order = λ j h. z (64 + j) ∙ sym (get_or-nil j);
      used = λ k h. absurd (let y : ⊥ = omega arith in y);
      free = λ s h f j l. z (block_at s + j) ∙ sym (get_or-nil j);
      outer = λ j h. z (environment_block + j) ∙ sym (zero_outer (environment_size listing) j);
    })

-- ── the next moment due ───────────────────────────────────────────────────────────────────────────
pub words_due_is_next_due : (listing : Listing) (w : List ℕ) → Words32 w → running_words listing w ≡ true → next_due (state_of listing w) ≡ words_due (environment_size listing) w
unfolding state_of state_from words_due xs env size
words_due_is_next_due listing w small pass =
    let P = passing listing w small pass in
    next_due_of_records listing (state_of listing w) P.state ∙ rw P.records
