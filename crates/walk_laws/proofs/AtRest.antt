-- Variables while an instant runs. A variable is steady if its value is a word and its waiting write is due after the present
-- moment: at rest (question 7), but for the mark of this instant. Memory stays steady under writes, schedules and the binding
-- of new routines, as long as words are written; the value of an expression whose literals are words is a word.
-- Letters: now the present moment, xs variables, a an address, v a value, names a routine's names, held the values held.
use mathlib.Core.Path.{◌≡◌, refl, sym, ap}
use mathlib.Core.Bool.{Bool, true, false, cond, ◌&&◌}
use mathlib.Core.List.{List, [], ◌∷◌, ◌++◌}
use mathlib.Core.Option.{Option, none, some}
use Prim.Native.Nat.{ℕ, zero, suc, ◌+◌, ◌*◌, ◌-◌, ◌≤◌, ◌<◌}
use lib.Dec.{eqb, ltb}
use lib.ListN.{length, get_or, take, drop, set, replicate, length-replicate}
use borrow.Author.Tests.{lt-ltb, ltb-true}
use native.Mathlib.Omega.{arith}
use native.Mathlib.Nat.{mod-lt}
use Rattle.words.specs.Words.{bit, wrapping_add, wrapping_subtract, wrapping_multiply, signed_less}
use Rattle.words_division.specs.Division.{signed_quotient, signed_remainder}
use Rattle.words_division.proofs.Words.{quotient_is_word, remainder_is_word}
use Rattle.listing.specs.Expressions.{bind}
use Rattle.listing.specs.Listing.{Listing, Instruction, assign, schedule, branch, jump, wait, fork, end, Piece, literal, value_of, written_mark, plus, minus, times, less, divide, remainder, Kind, by_reference, by_value}
use Rattle.walk.specs.State.{Variable, no_variable, new_variable, unmarked_of, written_to, scheduled_on, input_to}
use Rattle.walk.specs.Memory.{variable_at, write_at, schedule_at, address_of, operate, divide_by, evaluate_piece, evaluate_pieces, top, evaluate, own_variables, input_at, named_in, evaluate_by}
use Rattle.walk.specs.Walk.{instruction_at}
use Rattle.walk.specs.Instant.{unmarked}
use Rattle.walk.specs.Question7.{due_after, at_rest, all_at_rest, owned_count}
use Rattle.walk_laws.proofs.Booleans.{and_left, and_right}
use Rattle.walk_laws.proofs.Failing.{some_is_not_none, some_once}

unfoldable pub steady : ℕ → Variable → Bool
steady now x = ltb x.value 4294967296 && due_after now x.waiting

unfoldable pub all_steady : ℕ → List Variable → Bool
all_steady now [] = true
all_steady now (x ∷ xs) = steady now x && all_steady now xs

-- ── parts of memory ───────────────────────────────────────────────────────────────────────────────
pub append_steady : (now : ℕ) (xs ys : List Variable) → all_steady now xs ≡ true → all_steady now ys ≡ true → all_steady now (xs ++ ys) ≡ true
unfolding all_steady
append_steady now [] ys h k = k
append_steady now (x ∷ xs) ys h k = rw (and_left (steady now x) _ h, append_steady now xs ys (and_right (steady now x) _ h) k)

pub take_steady : (now n : ℕ) (xs : List Variable) → all_steady now xs ≡ true → all_steady now (take n xs) ≡ true
unfolding all_steady
take_steady now zero xs h = refl
take_steady now (suc n) [] h = refl
take_steady now (suc n) (x ∷ xs) h = rw (and_left (steady now x) _ h, take_steady now n xs (and_right (steady now x) _ h))

pub drop_steady : (now n : ℕ) (xs : List Variable) → all_steady now xs ≡ true → all_steady now (drop n xs) ≡ true
unfolding all_steady
drop_steady now zero xs h = h
drop_steady now (suc n) [] h = refl
drop_steady now (suc n) (x ∷ xs) h = drop_steady now n xs (and_right (steady now x) _ h)

set_steady : (now : ℕ) (xs : List Variable) (a : ℕ) (x : Variable) → all_steady now xs ≡ true → steady now x ≡ true → all_steady now (set xs a x) ≡ true
unfolding all_steady
set_steady now [] a x h k = refl
set_steady now (y ∷ xs) zero x h k = rw (k, and_right (steady now y) _ h)
set_steady now (y ∷ xs) (suc a) x h k = rw (and_left (steady now y) _ h, set_steady now xs a x (and_right (steady now y) _ h) k)

-- ── one variable ──────────────────────────────────────────────────────────────────────────────────
fresh_steady : (now v : ℕ) → v < 4294967296 → steady now (new_variable now v) ≡ true
unfolding steady no_variable new_variable due_after
fresh_steady now v h = rw (lt-ltb _ _ h)

get_or-steady : (now : ℕ) (xs : List Variable) (a : ℕ) → all_steady now xs ≡ true → steady now (get_or xs a no_variable) ≡ true
unfolding all_steady no_variable new_variable
get_or-steady now [] a h = fresh_steady now 0 (omega arith)
get_or-steady now (x ∷ xs) zero h = and_left (steady now x) _ h
get_or-steady now (x ∷ xs) (suc a) h = get_or-steady now xs a (and_right (steady now x) _ h)

variable_steady : (now : ℕ) (xs : List Variable) (a : ℕ) → all_steady now xs ≡ true → steady now (variable_at xs a) ≡ true
unfolding variable_at
variable_steady now xs a h = get_or-steady now xs a h

pub value_is_word : (now : ℕ) (xs : List Variable) (a : ℕ) → all_steady now xs ≡ true → (variable_at xs a).value < 4294967296
unfolding steady
value_is_word now xs a h = ltb-true _ _ (and_left (ltb (variable_at xs a).value 4294967296) _ (variable_steady now xs a h))

waiting_is_later : (now : ℕ) (xs : List Variable) (a : ℕ) → all_steady now xs ≡ true → due_after now (variable_at xs a).waiting ≡ true
unfolding steady
waiting_is_later now xs a h = and_right (ltb (variable_at xs a).value 4294967296) _ (variable_steady now xs a h)

-- ── writes and waiting writes ─────────────────────────────────────────────────────────────────────
pub write_steady : (now : ℕ) (xs : List Variable) (a v : ℕ) → all_steady now xs ≡ true → v < 4294967296 → all_steady now (write_at now xs a v) ≡ true
unfolding write_at steady written_to
write_steady now xs a v h l = set_steady now xs a _ h (rw (lt-ltb _ _ l, waiting_is_later now xs a h))

pub input_steady : (now : ℕ) (xs : List Variable) (a v : ℕ) → all_steady now xs ≡ true → v < 4294967296 → all_steady now (input_at now xs a v) ≡ true
unfolding input_at input_to steady due_after
input_steady now xs a v h l = set_steady now xs a _ h (rw (lt-ltb _ _ l))

pub schedule_steady : (now : ℕ) (xs : List Variable) (a t v : ℕ) → all_steady now xs ≡ true → now < t → t < 18446744073709551616 → v < 4294967296 →
    all_steady now (schedule_at xs a t v) ≡ true
unfolding schedule_at steady due_after scheduled_on
schedule_steady now xs a t v h later fits l =
    set_steady now xs a _ h (rw (lt-ltb _ _ (value_is_word now xs a h), lt-ltb _ _ later, lt-ltb _ _ fits, lt-ltb _ _ l))

-- ── the end of the instant ────────────────────────────────────────────────────────────────────────
pub unmarked_at_rest : (now : ℕ) (xs : List Variable) → all_steady now xs ≡ true → all_at_rest now (unmarked xs) ≡ true
unfolding all_steady steady unmarked all_at_rest at_rest unmarked_of
unmarked_at_rest now [] h = refl
unmarked_at_rest now (x ∷ xs) h =
    let word = ltb x.value 4294967296 in
    let first = and_left (word && due_after now x.waiting) _ h in
    rw (and_left word _ first, and_right word _ first, unmarked_at_rest now xs (and_right (word && due_after now x.waiting) _ h))

pub length_unmarked : (xs : List Variable) → length (unmarked xs) ≡ length xs
unfolding unmarked
length_unmarked [] = refl
length_unmarked (x ∷ xs) = ap suc (length_unmarked xs)

-- ── what a new routine owns ───────────────────────────────────────────────────────────────────────
pub replicate_steady : (now n : ℕ) → all_steady now (replicate n (new_variable now 0)) ≡ true
unfolding all_steady
replicate_steady now zero = refl
replicate_steady now (suc n) = rw (fresh_steady now 0 (omega arith), replicate_steady now n)

pub own_steady : (now : ℕ) (kinds : List Kind) (arguments : List ℕ) (locals : ℕ) (name : ℕ → Variable) → ((n : ℕ) → (name n).value < 4294967296) →
    all_steady now (own_variables now kinds arguments locals name) ≡ true
unfolding own_variables all_steady
own_steady now [] arguments locals name h = replicate_steady now locals
own_steady now (by_reference ∷ kinds) [] locals name h = own_steady now kinds [] locals name h
own_steady now (by_reference ∷ kinds) (n ∷ arguments) locals name h = own_steady now kinds arguments locals name h
own_steady now (by_value ∷ kinds) [] locals name h = rw (fresh_steady now 0 (omega arith), own_steady now kinds [] locals name h)
own_steady now (by_value ∷ kinds) (n ∷ arguments) locals name h =
    rw (fresh_steady now (name n).value (h n), own_steady now kinds arguments locals name h)

pub length_own : (now : ℕ) (kinds : List Kind) (arguments : List ℕ) (locals : ℕ) (name : ℕ → Variable) →
    length (own_variables now kinds arguments locals name) ≡ owned_count kinds locals
unfolding own_variables owned_count
length_own now [] arguments locals name = length-replicate locals (new_variable now 0)
length_own now (by_reference ∷ kinds) [] locals name = length_own now kinds [] locals name
length_own now (by_reference ∷ kinds) (n ∷ arguments) locals name = length_own now kinds arguments locals name
length_own now (by_value ∷ kinds) [] locals name = ap suc (length_own now kinds [] locals name)
length_own now (by_value ∷ kinds) (n ∷ arguments) locals name = ap suc (length_own now kinds arguments locals name)

-- ── literals: "`#v` (a signed 32-bit literal)" ────────────────────────────────────────────────────
unfoldable pub piece_in_words : Piece → Bool
piece_in_words (literal v) = ltb v 4294967296
piece_in_words (value_of n) = true
piece_in_words (written_mark n) = true
piece_in_words plus = true
piece_in_words minus = true
piece_in_words times = true
piece_in_words less = true
piece_in_words divide = true
piece_in_words remainder = true

unfoldable pub expression_in_words : List Piece → Bool
expression_in_words [] = true
expression_in_words (p ∷ ps) = piece_in_words p && expression_in_words ps

unfoldable pub instruction_in_words : Instruction → Bool
instruction_in_words (assign n e) = expression_in_words e
instruction_in_words (schedule n d e) = expression_in_words d && expression_in_words e
instruction_in_words (branch e k) = expression_in_words e
instruction_in_words (jump k) = true
instruction_in_words (wait ns) = true
instruction_in_words (fork cs) = true
instruction_in_words end = true

-- Every literal of the listing is a word.
abbrev pub LiteralsAreWords : Listing → Type 0
LiteralsAreWords listing = (r place : ℕ) → instruction_in_words (instruction_at listing r place) ≡ true

-- ── expressions ───────────────────────────────────────────────────────────────────────────────────
data Words : List ℕ → Type 0 where
  no_word : Words []
  word : {v : ℕ} {held : List ℕ} → v < 4294967296 → Words held → Words (v ∷ held)

bit_is_word : (b : Bool) → bit b < 4294967296
bit_is_word true = omega arith
bit_is_word false = omega arith

operate_holds_words : (f : ℕ → ℕ → ℕ) → ((x y : ℕ) → f x y < 4294967296) → (held : List ℕ) → Words held → Words (operate f held)
unfolding operate
operate_holds_words f h _ no_word = no_word
operate_holds_words f h _ (word l no_word) = no_word
operate_holds_words f h _ (word l (word m rest)) = word (h _ _) rest

-- What is left, if anything is, holds words.
unfoldable WordsIf : Option (List ℕ) → Type 0
WordsIf none = 0 ≤ 0
WordsIf (some held) = Words held

divide_holds_words : (f : ℕ → ℕ → ℕ) → ((x y : ℕ) → f x y < 4294967296) → (held : List ℕ) → Words held → WordsIf (divide_by f held)
unfolding divide_by WordsIf
divide_holds_words f h held rest = go (eqb (top held) 0)
  where
    go : (b : Bool) → WordsIf (cond b none (some (operate f held)))
    go true = omega arith
    go false = operate_holds_words f h held rest

module _ (now : ℕ) (name : ℕ → Variable) (words : (n : ℕ) → (name n).value < 4294967296) where
  piece_holds_words : (p : Piece) (held : List ℕ) → piece_in_words p ≡ true → Words held → WordsIf (evaluate_piece now name p held)
  unfolding evaluate_piece piece_in_words WordsIf
  piece_holds_words (literal v) held l rest = word (ltb-true _ _ l) rest
  piece_holds_words (value_of n) held l rest = word (words n) rest
  piece_holds_words (written_mark n) held l rest = word (bit_is_word (name n).written) rest
  piece_holds_words plus held l rest = operate_holds_words wrapping_add (λ x y. mod-lt (x + y) (omega arith)) held rest
  piece_holds_words minus held l rest = operate_holds_words wrapping_subtract (λ x y. mod-lt (x + (4294967296 - y)) (omega arith)) held rest
  piece_holds_words times held l rest = operate_holds_words wrapping_multiply (λ x y. mod-lt (x * y) (omega arith)) held rest
  piece_holds_words less held l rest = operate_holds_words (λ x y. bit (signed_less x y)) (λ x y. bit_is_word (signed_less x y)) held rest
  piece_holds_words divide held l rest = divide_holds_words signed_quotient quotient_is_word held rest
  piece_holds_words remainder held l rest = divide_holds_words signed_remainder remainder_is_word held rest

  pieces_hold_words : (e : List Piece) (held : List ℕ) → expression_in_words e ≡ true → Words held → WordsIf (evaluate_pieces now name e held)
  unfolding evaluate_pieces expression_in_words WordsIf
  pieces_hold_words [] held l rest = rest
  pieces_hold_words (p ∷ ps) held l rest =
      go (λ left h. pieces_hold_words ps left (and_right (piece_in_words p) _ l) h) (evaluate_piece now name p held) (piece_holds_words p held (and_left (piece_in_words p) _ l) rest)
    where
      go : ((left : List ℕ) → Words left → WordsIf (evaluate_pieces now name ps left)) → (r : Option (List ℕ)) → WordsIf r →
          WordsIf (bind r (evaluate_pieces now name ps))
      go others none h = h
      go others (some left) h = others left h

top_is_word : (held : List ℕ) → Words held → top held < 4294967296
unfolding top
top_is_word _ no_word = omega arith
top_is_word _ (word l rest) = l

pub evaluate_gives_word : (now : ℕ) (xs : List Variable) (names : List ℕ) (e : List Piece) → all_steady now xs ≡ true → expression_in_words e ≡ true →
    (v : ℕ) → evaluate now xs names e ≡ some v → v < 4294967296
unfolding evaluate evaluate_by WordsIf
evaluate_gives_word now xs names e h l v given =
    go (evaluate_pieces now (named_in xs names) e []) (pieces_hold_words now (named_in xs names) (λ n. value_is_word now xs (address_of names n) h) e [] l no_word) given
  where
    go : (r : Option (List ℕ)) → WordsIf r → bind r (λ held. some (top held)) ≡ some v → v < 4294967296
    go none w g = some_is_not_none (sym g)
    go (some held) w g = let same : top held ≡ v = some_once g in let small = top_is_word held w in omega arith
