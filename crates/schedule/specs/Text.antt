-- The text of a schedule: what its lines are written as, in the listing's style.
use Rattle.std.specs.Prelude.{List, [], ◌∷◌, ◌++◌}
use Rattle.listing.specs.Bytes.{Bytes, line_feed}
use Rattle.listing.specs.Form.{Field}
use Rattle.listing.specs.Text.{figure_field, join_fields}
use Rattle.schedule.specs.Calendar.{Date}
use Rattle.schedule.specs.Schedule.{Window, Schedule}

abbrev pub date_fields_of : Date → List Field
date_fields_of d = figure_field d.year ∷ figure_field d.month ∷ figure_field d.day ∷ []

abbrev pub window_fields_of : Window → List Field
window_fields_of w = figure_field w.input ∷ figure_field w.weekday ∷ figure_field w.opening ∷ figure_field w.closing ∷ []

-- "each line closed by a line feed"
unfoldable pub windows_text : List Window → Bytes
windows_text [] = []
windows_text (w ∷ windows) = join_fields (window_fields_of w) ++ (line_feed ∷ windows_text windows)

abbrev pub schedule_text : Schedule → Bytes
schedule_text s = join_fields (date_fields_of s.date) ++ (line_feed ∷ windows_text s.windows)
