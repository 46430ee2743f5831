-- The call that prints a page: its questions in their order, its outcome, and what the memory holds afterwards.
-- Document 02, Change 1: "A call writes the page asked for, counted from 1, into 2,700 bytes (no such page: rows of spaces) and gives the number of
-- pages." "Question 1 turns away short memory or unequal lists, 9 a moment that falls, 11 an output of 16 or more or listed twice in a moment."
use Rattle.std.specs.Prelude.{◌≡◌, Bool, true, false, cond, ◌&&◌, List, ◌++◌, ℕ, ◌-◌, ◌*◌, leb, length, drop}
use Rattle.listing.specs.Bytes.{Bytes}
use Rattle.openings.specs.Writes.{writes_of}
use Rattle.openings.specs.Openings.{Opening}
use Rattle.openings.specs.Order.{sorted_openings}
use Rattle.openings.specs.Questions.{equally_long, none_falls, listed_once}
use Rattle.page.specs.Pages.{openings_on_page, page_count, page_bytes}
use Rattle.page.specs.declared.Printed.{Printed}

-- "into 2,700 bytes"
abbrev pub page_length : ℕ
page_length = 2700

-- a call is refused with a number, or gives the number of pages and a page's bytes
pub data Outcome : Type 0 where
  refused : ℕ → Outcome
  printed : ℕ → Bytes → Outcome

-- a question with its number; the next is put only if the answer is yes
unfoldable pub ask : ℕ → Bool → Outcome → Outcome
ask number true next = next
ask number false next = refused number

unfoldable pub printed_page : ℕ → List Opening → Outcome
printed_page page openings = printed (page_count (length openings)) (page_bytes page openings)

-- the outcome, of the three lists, the page asked for, and the memory
unfoldable pub page_call : List ℕ → List ℕ → List ℕ → ℕ → Bytes → Outcome
page_call moments outputs values page memory =
    ask 1 (leb page_length (length memory) && equally_long moments outputs values)
    (ask 9 (none_falls moments)
    (ask 11 (listed_once (writes_of moments outputs values))
    (printed_page page (sorted_openings (writes_of moments outputs values)))))

-- document 01: "A call that goes through has number 0", and a refusal's other figures are 0
unfoldable pub outcome_number : Outcome → ℕ
outcome_number (refused number) = number
outcome_number (printed pages bytes) = 0

unfoldable pub outcome_pages : Outcome → ℕ
outcome_pages (refused number) = 0
outcome_pages (printed pages bytes) = pages

-- a refusal leaves the memory untouched; a page takes its first 2,700 bytes, and the others stay
unfoldable pub memory_after : Outcome → Bytes → Bytes
memory_after (refused number) memory = memory
memory_after (printed pages bytes) memory = bytes ++ drop page_length memory

-- what the call gives and leaves, of an outcome; "place 0 from here on" (document 01, after question 6)
pub record PrintedAs (o : Outcome) (memory memory' : Bytes) (r : Printed) : Type 0 where
  pub number_is_lem : r.number ≡ outcome_number o
  pub place_is_lem : r.place ≡ 0
  pub pages_is : r.pages ≡ outcome_pages o
  pub memory_is : memory' ≡ memory_after o memory

-- What a call promises, of any lists, page number and memory: the defined outcome.
abbrev pub PageFigures : List ℕ → List ℕ → List ℕ → ℕ → Bytes → Bytes → Printed → Type 0
PageFigures moments outputs values page before after r = PrintedAs (page_call moments outputs values page before) before after r

abbrev pub refusal : ℕ → Printed
refusal number = record { number = number; place = 0; pages = 0 }

-- the number of a page's first opening, from 0; 2 to the 64 less 1, which no opening has, if there is no such page or the number is higher
unfoldable pub first_opening : ℕ → ℕ
first_opening page =
    cond (leb 1 page && leb (openings_on_page * (page - 1)) 18446744073709551615) (openings_on_page * (page - 1)) 18446744073709551615
