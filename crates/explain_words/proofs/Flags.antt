-- Which words are flags.
use mathlib.Core.Path.{◌≡◌}
use lib.ListN.{length, get_or}
use borrow.Author.Tests.{eq-eqb, ne_eqb}
use Rattle.listing.specs.Bytes.{Bytes}
use Rattle.explain_words.specs.Words.{letter_flag, flag_of}
use Rattle.explain_words.specs.declared.Awaited.TheVariants as AV

pub other_length : (word : Bytes) → (length word ≡ 2 → ⊥) → AV.Word ≡ flag_of word
unfolding flag_of
other_length word n = rw (ne_eqb (length word) 2 n)

pub other_first : (word : Bytes) → length word ≡ 2 → (get_or word 0 0 ≡ 45 → ⊥) → AV.Word ≡ flag_of word
unfolding flag_of
other_first word e n = rw (eq-eqb (length word) 2 e, ne_eqb (get_or word 0 0) 45 n)

pub by_second : (word : Bytes) → length word ≡ 2 → get_or word 0 0 ≡ 45 → letter_flag (get_or word 1 0) ≡ flag_of word
unfolding flag_of
by_second word e f = rw (eq-eqb (length word) 2 e, eq-eqb (get_or word 0 0) 45 f)
