-- The arguments of the program, one after another: `explain LISTING [-t TRACE] ..`.
use Rattle.std.specs.Prelude.{◌≡◌, Bool, true, false, cond, [], ℕ, eqb, ltb, length, get_or, Some, None}
use Prim.Native.Char.{code}
use Rattle.listing.specs.Bytes.{Bytes}
use Rattle.session_print.specs.Puts.{Puts}
use Rattle.explain_listing.specs.Said.{FileSaid, usage}
use Rattle.explain.specs.Traced.{TraceSaid}
use Rattle.explain.specs.declared.arguments.Held.{Held}

-- is a word `-t`?
unfoldable pub is_flag : Bytes → Bool
is_flag word = cond (eqb (length word) 2) (cond (eqb (get_or word 0 0) (code "-")) (eqb (get_or word 1 0) (code "t")) false) false

-- what is held after argument number k, this word: after `-t` comes a trace; any other word is a listing
unfoldable pub held_after : ℕ → Bytes → Held → Held
held_after k word held =
    cond held.flagged (record { listing = held.listing; flagged = false })
    (cond (is_flag word) (record { listing = held.listing; flagged = true }) (record { listing = Some k; flagged = false }))

-- What is put at a word, if `name` is the listing's: of a trace what is said of it on that listing, or the usage if there is none; nothing at `-t`; of a
-- listing what loading says. Which word an argument is, std does not promise.
pub data WordSaid (held : Held) (word name before after : Bytes) : ℕ → Type 0 where
  no_listing : {count : ℕ} → held.flagged ≡ true → held.listing ≡ None → Puts before 0 usage after count → WordSaid held word name before after count
  trace : {k count : ℕ} → held.flagged ≡ true → held.listing ≡ Some k → TraceSaid word name before after count → WordSaid held word name before after count
  flag : held.flagged ≡ false → is_flag word ≡ true → after ≡ before → WordSaid held word name before after 0
  listing : {count : ℕ} → held.flagged ≡ false → is_flag word ≡ false → FileSaid word before after count → WordSaid held word name before after count

-- what is put behind the last of so many words, the program's own among them: the usage, if a trace is still to come or there was no argument
unfoldable pub at_end : ℕ → Held → Bytes
at_end count held = cond held.flagged usage (cond (ltb count 2) usage [])
