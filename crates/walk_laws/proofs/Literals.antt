-- Every literal of a listing in form is a word, and so are the values of inputs that stand in words.
use mathlib.Core.Path.{◌≡◌, refl}
use mathlib.Core.Bool.{Bool, true}
use mathlib.Core.List.{List, [], ◌∷◌}
use Prim.Native.Nat.{ℕ, zero, suc}
use lib.ListN.{get_or}
use borrow.Author.Tests.{lt-ltb}
use Rattle.listing.specs.Lists.{all}
use Rattle.listing.specs.Listing.{Piece, literal, value_of, written_mark, plus, minus, times, less, divide, remainder, Instruction, assign, schedule, branch, jump, wait, fork, end, Routine, Listing}
use Rattle.listing.specs.Expressions.{leaves_one}
use Rattle.listing.specs.WellFormed.{piece_has_form, expression_has_form, instruction_has_form, has_form}
use Rattle.listing.proofs.Tests.{and_left, and_right, all_head, all_tail}
use Rattle.walk.specs.Walk.{no_routine, routine_at, instruction_at}
use Rattle.walk.specs.Calls.{Words32, inputs_of}
use Rattle.walk_laws.proofs.AtRest.{piece_in_words, expression_in_words, instruction_in_words, LiteralsAreWords}
use Rattle.walk_laws.proofs.Stays.{values_are_words}

piece_in_words_lem : (p : Piece) → piece_has_form p ≡ true → piece_in_words p ≡ true
unfolding piece_has_form piece_in_words
piece_in_words_lem (literal v) h = h
piece_in_words_lem (value_of n) h = refl
piece_in_words_lem (written_mark n) h = refl
piece_in_words_lem plus h = refl
piece_in_words_lem minus h = refl
piece_in_words_lem times h = refl
piece_in_words_lem less h = refl
piece_in_words_lem divide h = refl
piece_in_words_lem remainder h = refl

pieces_in_words : (ps : List Piece) → all piece_has_form ps ≡ true → expression_in_words ps ≡ true
unfolding expression_in_words
pieces_in_words [] h = refl
pieces_in_words (p ∷ ps) h = rw (piece_in_words_lem p (all_head piece_has_form p ps h), pieces_in_words ps (all_tail piece_has_form p ps h))

expression_in_words_lem : (ps : List Piece) → expression_has_form ps ≡ true → expression_in_words ps ≡ true
expression_in_words_lem ps h = pieces_in_words ps (and_left (all piece_has_form ps) (leaves_one ps) h)

instruction_in_words_lem : (i : Instruction) → instruction_has_form i ≡ true → instruction_in_words i ≡ true
unfolding instruction_has_form instruction_in_words
instruction_in_words_lem (assign n e) h = expression_in_words_lem e h
instruction_in_words_lem (schedule n d e) h =
    rw (expression_in_words_lem d (and_left (expression_has_form d) (expression_has_form e) h), expression_in_words_lem e (and_right (expression_has_form d) (expression_has_form e) h))
instruction_in_words_lem (branch e k) h = expression_in_words_lem e h
instruction_in_words_lem (jump k) h = refl
instruction_in_words_lem (wait ns) h = refl
instruction_in_words_lem (fork cs) h = refl
instruction_in_words_lem end h = refl

-- a test that all elements pass is passed by any of them, and by the default
all_at : {A : Type 0} (test : A → Bool) (xs : List A) (i : ℕ) (default : A) → all test xs ≡ true → test default ≡ true → test (get_or xs i default) ≡ true
all_at test [] i default h d = d
all_at test (x ∷ xs) zero default h d = all_head test x xs h
all_at test (x ∷ xs) (suc i) default h d = all_at test xs i default (all_tail test x xs h) d

pub form_gives_words : (listing : Listing) → has_form listing ≡ true → LiteralsAreWords listing
unfolding instruction_at routine_at has_form instruction_has_form no_routine all
form_gives_words listing h r place =
    instruction_in_words_lem _ (all_at instruction_has_form (routine_at listing r).code place end
    (all_at (λ (routine : Routine). all instruction_has_form routine.code) listing.routines r no_routine h refl) refl)

pub inputs_are_words : (ns vs : List ℕ) → Words32 vs → values_are_words (inputs_of ns vs) ≡ true
unfolding values_are_words inputs_of
inputs_are_words [] vs h = refl
inputs_are_words (n ∷ ns) [] h = refl
inputs_are_words (n ∷ ns) (v ∷ vs) h = rw (lt-ltb v 4294967296 (h 0), inputs_are_words ns vs (λ k. h (suc k)))
