-- The outcome that the loader's answer to a text reports.
use Rattle.listing.specs.Bytes.{Bytes}
use Rattle.listing.specs.Load.{Loading, refused, loaded}
use Rattle.listing.specs.Questions.{listing_in}
use Rattle.text_questions.specs.declared.answer.Loaded.{Loaded}
use Rattle.text_questions.specs.declared.answer.Loaded.TheVariants as LV

-- The listing that the text says, or the refusal with the number of the question and the place. Document 01's number and place of
-- an outcome are `loading_number` and `loading_place`: "A call that goes through has number 0 and place 0."
abbrev pub outcome_of : Bytes → Loaded → Loading
outcome_of text LV.Done = loaded (listing_in text)
outcome_of text (LV.Refused number place) = refused number place
