-- The loop that writes a table: a text that loads, the first line, and the end.
use mathlib.Core.Path.{◌≡◌, refl, sym, ap, ◌∙◌}
use mathlib.Core.Bool.{true}
use mathlib.Core.List.{List, [], ◌++◌, append-nil}
use Prim.Native.Nat.{ℕ, ◌≤◌}
use native.Mathlib.Omega.{arith}
use lib.ListN.{length, drop, replicate, drop_of_length-le}
use Rattle.listing.specs.Lists.{last_or}
use Rattle.listing.specs.Listing as L
use Rattle.listing.specs.Load.{Loads}
use Rattle.listing.specs.Questions.{listing_in, place2}
use Rattle.listing.proofs.Causes.{loaded_exactly_if}
use Rattle.listing.proofs.Determine.{loads_exactly_if, well_formed_parts}
use Rattle.listing.proofs.Records.{lines_of_listing}
use Rattle.listing.proofs.ShortText.{length_needs_no_test}
use Rattle.listing.proofs.Texts.{question_2_passed}
use Rattle.table.specs.Areas.{table_words, all_code, all_cells, words_of_each}
use Rattle.table.proofs.Table.{Meets, meets}
use Rattle.machine_halt.specs.Zeroed.{blank_words}
use Rattle.text_records.specs.Onward.{records_from}
use Rattle.text_records.proofs.Lines.{formed_whole, records_whole, records_end}
use Rattle.call_load.specs.Growing.{nothing_said, with_lines}
use Rattle.call_load.specs.Writing.{Writing}
use Rattle.table_progress.specs.declared.progress.Progress.{Progress}
use Rattle.call_load.proofs.Growing.{lines_say}
use Rattle.call_load.proofs.Words.{nothing_written}
use Rattle.call_load.proofs.Fitting.{lines_fit}

-- ── a text that loads ────────────────────────────────────────────────────────────
module _ (s : List ℕ) (loads : Loads s (listing_in s)) where
  pub meets_all : Meets (listing_in s)
  meets_all = meets (listing_in s) (sym (length_needs_no_test (listing_in s)) ∙ ((loads_exactly_if s (listing_in s)).0 loads).1)

  pub is_short : length s ≤ 49152
  is_short =
      let e = (loads_exactly_if s (listing_in s)).0 loads in
      omega (arith, ap length e.0, (well_formed_parts (listing_in s) e.1).short)

  form : place2 s ≡ 0
  form = ((loaded_exactly_if true s (listing_in s)).0 loads).1

  lines_are : records_from 1 (drop 0 s) ≡ L.lines_of (listing_in s)
  unfolding listing_in
  lines_are = let f = question_2_passed s form in records_whole s ∙ sym (lines_of_listing f.begun f.standing)

  -- ── the first line ─────────────────────────────────────────────────────────────
  abbrev start : Progress
  start = record { place = record { offset = 0; line = 1 }; routines = 0; instructions = 0; cells = 0; code = 0 }

  all_zero : (t t₀ : List ℕ) → length t₀ ≡ 12288 → t ≡ blank_words ++ drop 12288 t₀ → t ≡ replicate 12288 0
  unfolding blank_words
  all_zero t t₀ l e = e ∙ (ap (λ (z : List ℕ). replicate 12288 0 ++ z) (drop_of_length-le t₀ {i = 12288} (omega arith)) ∙ append-nil (replicate 12288 0))

  -- over cleared words
  pub writing_begun : (t t₀ : List ℕ) → length t₀ ≡ 12288 → t ≡ blank_words ++ drop 12288 t₀ → Writing s t start
  unfolding all_code all_cells words_of_each last_or
  writing_begun t t₀ l e =
      record {
        so_far = nothing_said;
        words = all_zero t t₀ l e ∙ sym nothing_written;
        counted = record { routines = refl; instructions = refl; cells = refl; code = refl };
        formed = formed_whole s form;
        left = ap (with_lines nothing_said) lines_are ∙ lines_say (listing_in s);
        fit = rw lines_are (lines_fit (listing_in s) meets_all);
        opened = λ h. absurd (let z : ⊥ = omega (arith, h) in z);
      }

  -- ── the end ────────────────────────────────────────────────────────────────────
  pub writing_done : (t : List ℕ) (p : Progress) → Writing s t p → length s ≤ p.place.offset → t ≡ table_words (listing_in s)
  unfolding with_lines
  writing_done t p v h =
      let e : with_lines v.so_far [] ≡ listing_in s = rw (records_end s p.place.offset p.place.line h) at v.left in
      v.words ∙ ap table_words e
