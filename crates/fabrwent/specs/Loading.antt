-- What the exported loader promises: the figures of the defined outcome, and the table that goes with it.
use Rattle.std.specs.Prelude.{◌≡◌, List, ◌++◌, ℕ}
use Rattle.listing.specs.Load.{Loading, refused, loaded, loading_number, loading_place, loading, is_long_enough}
use Rattle.walk.specs.Calls.{later_words}
use Rattle.walk.specs.Promises.{TableAfter}
use Rattle.table.specs.Areas.{table_words}
use Rattle.layout.specs.Layout.{layout}
use Rattle.call_figures.specs.declared.loading.FabrwentLoad.{FabrwentLoad}

-- The table afterwards: "a refusal leaves all lent memory untouched"; else the listing's 12,288 words, and "The loader clears the table's unused
-- words among the 12,288. Words past 12,288 are never touched." (table `unused_words_are_0`: a word that holds nothing of the listing is 0.)
unfoldable pub table_left : List ℕ → Loading → List ℕ
table_left before (refused number place) = before
table_left before (loaded listing) = table_words listing ++ later_words before

-- "A call that goes through has number 0 and place 0"; a refusal has the question's number and its place
pub record LoadFigures (text before after : List ℕ) (r : FabrwentLoad) : Type 0 where
  pub number : r.number ≡ loading_number (loading (is_long_enough before) text)
  pub place : r.place ≡ loading_place (loading (is_long_enough before) text)
  pub words : after ≡ table_left before (loading (is_long_enough before) text)
  -- and these words are read as the listing (question 6)
  pub table : TableAfter layout before after (loading (is_long_enough before) text)
