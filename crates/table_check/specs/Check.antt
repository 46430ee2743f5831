-- What the check of a whole table computes: one pass over the routines, with running numbers of the instructions and of the cells' words,
-- then the unused words and the limit of pieces.
use Rattle.std.specs.Prelude.{Bool, true, false, cond, ◌&&◌, not, List, [], ◌∷◌, ℕ, zero, suc, ◌+◌, ◌*◌, eqb, leb, length, Option, Some, None}
use Rattle.std.specs.Option.{option_map_or}
use Rattle.listing.specs.Lists.{all, is_empty, all_yes}
use Rattle.listing.specs.Listing.{Routine, Listing, name_count}
use Rattle.listing.specs.Limits.{instruction_limit, name_limit}
use Rattle.listing.specs.Questions.{opens_as_stated, last_answers}
use Rattle.table.specs.Areas.{cell_end, entry_area, kind_bits, routine_words, all_routines, all_code, all_cells, all_entries}
use Rattle.table.specs.Decode.{word, kinds_of_bits, routine_entry, routine_at_entry, table_listing}
use Rattle.table_check_cells.specs.Pass.{same_at, instruction_passes}
use Rattle.table_check_ends.specs.Ends.{tail_test}

-- ── a routine ────────────────────────────────────────────────────────────────────
-- what questions 2 to 5 ask of the routine of this number
unfoldable pub routine_passes : Listing → ℕ → Routine → Bool
routine_passes listing number r =
    (leb (name_count r) name_limit && opens_as_stated listing number r)
    && (all (instruction_passes listing.routines (name_count r) (length r.code)) r.code
    && (not (is_empty r.code) && all_yes (last_answers r.code)))

-- it passes, its entry stands where its number says, its instructions' entries from number `first` on, their cells from `cells` on
unfoldable pub routine_test : List ℕ → ℕ → ℕ → ℕ → Routine → Bool
routine_test w number first cells r =
    routine_passes (table_listing w) number r
    && (leb (first + length r.code) instruction_limit
    && (leb (cells + length (all_cells r.code)) cell_end
    && (same_at w (routine_entry number) (routine_words first r)
    && (same_at w (entry_area + 5 * first) (all_entries cells r.code) && same_at w cells (all_cells r.code)))))

-- the part of it that the routine's entry alone tells
unfoldable pub opening_test : List ℕ → ℕ → ℕ → Bool
opening_test w number first =
    let r = routine_at_entry w (routine_entry number) in
    (leb (name_count r) name_limit && opens_as_stated (table_listing w) number r)
    && (not (is_empty r.code) && (leb (first + length r.code) instruction_limit && same_at w (routine_entry number) (routine_words first r)))

-- the same word by word, apart from what is asked of main
unfoldable pub entry_test : List ℕ → ℕ → ℕ → Bool
entry_test w a first =
    leb (word w (a + 0) + word w (a + 2)) name_limit
    && (eqb (word w (a + 3)) first
    && (leb 1 (word w (a + 4))
    && (leb (first + word w (a + 4)) instruction_limit
    && eqb (word w (a + 1)) (kind_bits (kinds_of_bits (word w (a + 0)) (word w (a + 1)))))))

-- the address behind its cells; none for a no
unfoldable pub routine_past : List ℕ → ℕ → ℕ → ℕ → Option ℕ
routine_past w number first cells =
    let r = routine_at_entry w (routine_entry number) in cond (routine_test w number first cells r) (Some (cells + length (all_cells r.code))) None

-- ── n routines from a number on, then the rest ───────────────────────────────────
unfoldable pub pass_from : List ℕ → ℕ → ℕ → ℕ → ℕ → Bool
pass_from w number first cells zero = tail_test w number first cells
pass_from w number first cells (suc n) =
    option_map_or (λ m. pass_from w (suc number) (first + word w (routine_entry number + 4)) m n) (routine_past w number first cells) false

-- the same of all together
unfoldable pub routines_pass : Listing → ℕ → List Routine → Bool
routines_pass listing number [] = true
routines_pass listing number (r ∷ rs) = routine_passes listing number r && routines_pass listing (suc number) rs

unfoldable pub routines_test : List ℕ → ℕ → ℕ → ℕ → List Routine → Bool
routines_test w number first cells rs =
    routines_pass (table_listing w) number rs
    && (leb (first + length (all_code rs)) instruction_limit
    && (leb (cells + length (all_cells (all_code rs))) cell_end
    && (same_at w (routine_entry number) (all_routines first rs)
    && (same_at w (entry_area + 5 * first) (all_entries cells (all_code rs)) && same_at w cells (all_cells (all_code rs))))))

-- the whole: 1 to 64 routines, and all of the pass
unfoldable pub table_test : List ℕ → Bool
table_test w = (leb 1 (word w 2) && leb (word w 2) 64) && pass_from w 0 0 2888 (word w 2)
