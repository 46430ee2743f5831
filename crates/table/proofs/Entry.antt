-- The five words of an instruction's entry tell the instruction, in a table that passes question 6.
use mathlib.Core.Path.{◌≡◌, refl, sym, ap, ◌∙◌}
use mathlib.Core.Bool.{true, false, ◌&&◌}
use mathlib.Core.List.{List, ◌++◌}
use Prim.Native.Nat.{ℕ, zero, suc, ◌+◌, ◌*◌, ◌≤◌, ◌<◌}
use native.Mathlib.Omega.{arith}
use lib.Dec.{eqb, ltb, leb}
use lib.ListN.{length, drop, length-append}
use borrow.Author.Tests.{ltb-true, leb-true, eqb-true}
use Rattle.listing.specs.Lists.{all}
use Rattle.listing.specs.Listing.{less, Instruction, assign, schedule, branch, jump, wait, fork, end, Listing, name_count}
use Rattle.listing.specs.Expressions.{leaves_one}
use Rattle.listing.specs.Form.{one_to}
use Rattle.listing.specs.Questions.{piece_is_there, argument_count, call_is_there, is_there, may_be_last}
use Rattle.listing.specs.WellFormed.{piece_has_form, expression_has_form, instruction_has_form}
use Rattle.walk.specs.Walk.{no_routine, routine_at, instruction_at}
use Rattle.table.specs.Areas.{words_of_each, piece_words, name_words, call_words, cell_words, entry_words}
use Rattle.table.specs.Decode.{word, piece_at, name_at, pieces_at, names_at, call_at, after_call, calls_at, head_after, instruction_of, instruction_at_entry, routine_entry, instruction_entry, names_of, size_of, table_listing}
use Rattle.table.specs.Question6.{is_table}
use Rattle.table.specs.Entry.{ExpressionStands, NamesStand, ChildStands, Assigns, Schedules, Branches, Jumps, Waits, Forks, Ends, Fetched}
use Rattle.table.proofs.Tests.{and_left, and_right}
use Rattle.table.proofs.Lengths.{piece_two, name_two, each_two, call_length}
use Rattle.table.proofs.ReadBack.{word_at_lem}
use Rattle.table.proofs.Reach.{cells_count, cells_by_place, calls_count, routine_total, arguments_by_number, locals_by_number, code_length_by_number, instruction_by_address}
use Rattle.table.proofs.Table.{table_meets}
use Rattle.table.proofs.Stands.{Stands, routine_stands}
use Rattle.table.proofs.Asked.{all_at, instruction_there, instruction_form, instruction_next}

-- ── words of cells ───────────────────────────────────────────────────────────────
pieces_length : (w : List ℕ) (a n : ℕ) → length (words_of_each piece_words (pieces_at w a n)) ≡ 2 * n
pieces_length w a n = each_two piece_words piece_two (pieces_at w a n) ∙ rw (cells_count (piece_at w) n a)

names_length : (w : List ℕ) (a n : ℕ) → length (words_of_each name_words (names_at w a n)) ≡ 2 * n
names_length w a n = each_two name_words name_two (names_at w a n) ∙ rw (cells_count (name_at w) n a)

-- ── the first word is a kind ─────────────────────────────────────────────────────
kind_known : (w : List ℕ) (e cells : ℕ) (i : Instruction) (rest : List ℕ) → drop e w ≡ entry_words cells i ++ rest → (1 ≤ word w (e + 0)) × (word w (e + 0) ≤ 7)
unfolding entry_words
kind_known w e cells (assign n x) rest h = let k = word_at_lem w e 0 _ h in (omega arith, omega arith)
kind_known w e cells (schedule n d x) rest h = let k = word_at_lem w e 0 _ h in (omega arith, omega arith)
kind_known w e cells (branch x j) rest h = let k = word_at_lem w e 0 _ h in (omega arith, omega arith)
kind_known w e cells (jump j) rest h = let k = word_at_lem w e 0 _ h in (omega arith, omega arith)
kind_known w e cells (wait ns) rest h = let k = word_at_lem w e 0 _ h in (omega arith, omega arith)
kind_known w e cells (fork cs) rest h = let k = word_at_lem w e 0 _ h in (omega arith, omega arith)
kind_known w e cells end rest h = let k = word_at_lem w e 0 _ h in (omega arith, omega arith)

cells_word : (w : List ℕ) (e cells : ℕ) (i : Instruction) (rest : List ℕ) → drop e w ≡ entry_words cells i ++ rest → word w (e + 2) ≡ cells
unfolding entry_words
cells_word w e cells (assign n x) rest h = word_at_lem w e 2 _ h
cells_word w e cells (schedule n d x) rest h = word_at_lem w e 2 _ h
cells_word w e cells (branch x j) rest h = word_at_lem w e 2 _ h
cells_word w e cells (jump j) rest h = word_at_lem w e 2 _ h
cells_word w e cells (wait ns) rest h = word_at_lem w e 2 _ h
cells_word w e cells (fork cs) rest h = word_at_lem w e 2 _ h
cells_word w e cells end rest h = word_at_lem w e 2 _ h

-- ── child fields ─────────────────────────────────────────────────────────────────
arguments_there : (w : List ℕ) (r : ℕ) → r < word w 2 → argument_count (table_listing w).routines r ≡ word w (routine_entry r + 0)
unfolding argument_count routine_at no_routine
arguments_there w r l = arguments_by_number w r l

child : (w : List ℕ) (names a : ℕ) → call_is_there (table_listing w).routines names (call_at w a) ≡ true → a + (2 + 2 * word w (a + 0)) ≤ 11080 → ChildStands w names a
unfolding call_is_there call_at
child w names a h b =
    let rs = (table_listing w).routines in
    let n = word w (a + 0) in
    let callee = word w (a + 1) in
    let ns = names_at w (a + 2) n in
    let c = ltb callee (length rs) in
    let q = eqb (length ns) (argument_count rs callee) in
    let cq = and_left (c && q) (all (λ m. ltb m names) ns) h in
    let in_list : callee < length rs = ltb-true callee (length rs) (and_left c q cq) in
    let there : callee < word w 2 = let t = routine_total w in omega arith in
    let count : length ns ≡ argument_count rs callee = eqb-true (length ns) (argument_count rs callee) (and_right c q cq) in
    record {
      callee = there;
      count = sym (cells_count (name_at w) n (a + 2)) ∙ (count ∙ arguments_there w callee there);
      arguments = record { inside = omega arith; there = and_right (c && q) (all (λ m. ltb m names) ns) h };
    }

call_words_lem : (w : List ℕ) (a : ℕ) → length (call_words (call_at w a)) ≡ 2 + 2 * word w (a + 0)
unfolding call_at
call_words_lem w a = call_length (call_at w a) ∙ rw (cells_count (name_at w) (word w (a + 0)) (a + 2))

children : (w : List ℕ) (names n a : ℕ) → all (call_is_there (table_listing w).routines names) (calls_at w a n) ≡ true
    → a + length (words_of_each call_words (calls_at w a n)) ≤ 11080 → (j : ℕ) → j < n → ChildStands w names (head_after w a j)
unfolding calls_at words_of_each all head_after after_call
children w names zero a h b j l = absurd (omega arith)
children w names (suc n) a h b zero l =
    let c = call_words_lem w a in
    let t = length-append (call_words (call_at w a)) (words_of_each call_words (calls_at w (after_call w a) n)) in
    child w names a (and_left (call_is_there (table_listing w).routines names (call_at w a)) _ h) (omega arith)
children w names (suc n) a h b (suc j) l =
    let c = call_words_lem w a in
    let t = length-append (call_words (call_at w a)) (words_of_each call_words (calls_at w (after_call w a) n)) in
    children w names n (after_call w a) (and_right (call_is_there (table_listing w).routines names (call_at w a)) _ h) (omega arith) j (omega arith)

-- ── instruction `place` of routine r ─────────────────────────────────────────────
module _ (w : List ℕ) (h : is_table w ≡ true) (r : ℕ) (l : r < word w 2) (place : ℕ) (k : place < size_of w r) where
  abbrev listing : Listing
  listing = table_listing w

  abbrev names : ℕ
  names = names_of w r

  abbrev size : ℕ
  size = size_of w r

  abbrev e : ℕ
  e = instruction_entry w r place

  in_list : r < length listing.routines
  in_list = let n = routine_total w in omega arith

  in_code : place < length (routine_at listing r).code
  in_code = let n = code_length_by_number w r l in omega arith

  name_count_lem : name_count (routine_at listing r) ≡ names
  name_count_lem = rw (arguments_by_number w r l, locals_by_number w r l)

  -- what is asked of it, and where it stands, whatever it is
  record Known (i : Instruction) : Type 0 where
    is : instruction_at listing r place ≡ i
    there : is_there listing.routines names size i ≡ true
    form : instruction_has_form i ≡ true
    next : may_be_last i ≡ false → suc place < size
    room : word w (e + 2) + length (cell_words i) ≤ 11080

  stands : Stands w e 2888 11080 (instruction_at listing r place)
  unfolding instruction_at
  stands =
      let s = routine_stands w h r l in
      let z : 328 + 5 * s.first + 5 * place ≡ e = ap (λ (x : ℕ). 328 + 5 * x + 5 * place) (sym s.is) in
      rw (← z) (s.code place in_code)

  pub kind_least : 1 ≤ word w (e + 0)
  kind_least = (kind_known w e stands.cells (instruction_at listing r place) stands.behind stands.entry).0

  pub kind_most : word w (e + 0) ≤ 7
  kind_most = (kind_known w e stands.cells (instruction_at listing r place) stands.behind stands.entry).1

  known : Known (instruction_at listing r place)
  known =
      let m = table_meets w h in
      let i = instruction_at listing r place in
      let c = code_length_by_number w r l in
      let t : is_there listing.routines (name_count (routine_at listing r)) (length (routine_at listing r).code) i ≡ true = instruction_there listing m r in_list place in_code in
      let at = cells_word w e stands.cells i stands.behind stands.entry in
      let most = stands.most in
      record {
        is = refl;
        there = rw (name_count_lem, c) at t;
        form = instruction_form listing m r in_list place in_code;
        next = λ n. let x = instruction_next listing m r in_list place in_code n in omega arith;
        room = omega arith;
      }

  -- by the kind
  known_as : (i : Instruction) → instruction_at_entry w e ≡ i → Known i
  known_as i d = let z : instruction_at listing r place ≡ i = instruction_by_address w r l place k ∙ d in rw z at known

  abbrev operand : ℕ
  operand = word w (e + 1)

  abbrev cells : ℕ
  cells = word w (e + 2)

  abbrev first : ℕ
  first = word w (e + 3)

  abbrev second : ℕ
  second = word w (e + 4)

  expression : (a n : ℕ) → a + 2 * n ≤ 11080 → expression_has_form (pieces_at w a n) ≡ true → all (piece_is_there names) (pieces_at w a n) ≡ true → ExpressionStands w names a n
  expression a n room form there =
      record { inside = room; form = and_right (all piece_has_form (pieces_at w a n)) (leaves_one (pieces_at w a n)) form; there = there }

  assigns : word w (e + 0) ≡ 1 → Assigns w r place operand cells first second
  unfolding instruction_at_entry instruction_of is_there instruction_has_form may_be_last cell_words
  assigns z =
      let x = pieces_at w cells first in
      let i = known_as (assign operand x) (rw z) in
      let n = ltb operand names in
      let room = i.room in
      let c = pieces_length w cells first in
      record {
        is = i.is;
        name = ltb-true operand names (and_left n (all (piece_is_there names) x) i.there);
        value = expression cells first (omega arith) i.form (and_right n (all (piece_is_there names) x) i.there);
        next = i.next refl;
      }

  schedules : word w (e + 0) ≡ 2 → Schedules w r place operand cells first second
  unfolding instruction_at_entry instruction_of is_there instruction_has_form may_be_last cell_words
  schedules z =
      let x = pieces_at w cells first in
      let y = pieces_at w (cells + 2 * first) second in
      let i = known_as (schedule operand x y) (rw z) in
      let n = ltb operand names in
      let tx = all (piece_is_there names) x in
      let ty = all (piece_is_there names) y in
      let room = i.room in
      let c = pieces_length w cells first in
      let d = pieces_length w (cells + 2 * first) second in
      let b = length-append (words_of_each piece_words x) (words_of_each piece_words y) in
      let there = and_left (n && tx) ty i.there in
      record {
        is = i.is;
        name = ltb-true operand names (and_left n tx there);
        delay = expression cells first (omega arith) (and_left (expression_has_form x) (expression_has_form y) i.form) (and_right n tx there);
        value = expression (cells + 2 * first) second (omega arith) (and_right (expression_has_form x) (expression_has_form y) i.form) (and_right (n && tx) ty i.there);
        next = i.next refl;
      }

  branches : word w (e + 0) ≡ 3 → Branches w r place operand cells first second
  unfolding instruction_at_entry instruction_of is_there instruction_has_form may_be_last cell_words
  branches z =
      let x = pieces_at w cells first in
      let i = known_as (branch x operand) (rw z) in
      let room = i.room in
      let c = pieces_length w cells first in
      record {
        is = i.is;
        target = ltb-true operand size (and_right (all (piece_is_there names) x) (ltb operand size) i.there);
        value = expression cells first (omega arith) i.form (and_left (all (piece_is_there names) x) (ltb operand size) i.there);
        next = i.next refl;
      }

  jumps : word w (e + 0) ≡ 4 → Jumps w r place operand cells first second
  unfolding instruction_at_entry instruction_of is_there
  jumps z = let i = known_as (jump operand) (rw z) in record { is = i.is; target = ltb-true operand size i.there }

  waits : word w (e + 0) ≡ 5 → Waits w r place operand cells first second
  unfolding instruction_at_entry instruction_of is_there instruction_has_form may_be_last cell_words one_to
  waits z =
      let ns = names_at w cells first in
      let i = known_as (wait ns) (rw z) in
      let n = cells_count (name_at w) first cells in
      let room = i.room in
      let c = names_length w cells first in
      let some = leb-true 1 (length ns) (and_left (leb 1 (length ns)) (leb (length ns) 4) i.form) in
      let most = leb-true (length ns) 4 (and_right (leb 1 (length ns)) (leb (length ns) 4) i.form) in
      record { is = i.is; some = omega arith; most = omega arith; names = record { inside = omega arith; there = i.there }; next = i.next refl }

  forks : word w (e + 0) ≡ 6 → Forks w r place operand cells first second
  unfolding instruction_at_entry instruction_of is_there instruction_has_form may_be_last cell_words one_to
  forks z =
      let cs = calls_at w cells first in
      let i = known_as (fork cs) (rw z) in
      let n = calls_count w first cells in
      let some = leb-true 1 (length cs) (and_left (leb 1 (length cs)) (leb (length cs) 8) i.form) in
      let most = leb-true (length cs) 8 (and_right (leb 1 (length cs)) (leb (length cs) 8) i.form) in
      record { is = i.is; some = omega arith; most = omega arith; children = children w names first cells i.there i.room; next = i.next refl }

  ends : word w (e + 0) ≡ 7 → Ends w r place operand cells first second
  unfolding instruction_at_entry instruction_of
  ends z = record { is = (known_as end (rw z)).is }

  pub fetched : Fetched w r place (word w (e + 0)) operand cells first second
  fetched =
      record {
        least = kind_least;
        most = kind_most;
        assigns = assigns;
        schedules = schedules;
        branches = branches;
        jumps = jumps;
        waits = waits;
        forks = forks;
        ends = ends;
      }

-- ── a name and a piece by their places ───────────────────────────────────────────
pub name_there : (w : List ℕ) (names cells n : ℕ) → NamesStand w names cells n → (j : ℕ) → j < n → name_at w (cells + 2 * j) < names
name_there w names cells n s j l =
    let c = cells_count (name_at w) n cells in
    let t = all_at (λ (m : ℕ). ltb m names) (names_at w cells n) s.there j (omega arith) 0 in
    ltb-true (name_at w (cells + 2 * j)) names (sym (ap (λ (m : ℕ). ltb m names) (cells_by_place (name_at w) n cells j 0 l)) ∙ t)

pub piece_there : (w : List ℕ) (names cells n : ℕ) → ExpressionStands w names cells n → (j : ℕ) → j < n → piece_is_there names (piece_at w (cells + 2 * j)) ≡ true
piece_there w names cells n s j l =
    let c = cells_count (piece_at w) n cells in
    let t = all_at (piece_is_there names) (pieces_at w cells n) s.there j (omega arith) less in
    sym (ap (piece_is_there names) (cells_by_place (piece_at w) n cells j less l)) ∙ t
