-- The starred sessions on paper, a to i, proved jointly.
use mathlib.Core.Path.{◌≡◌, refl}
use Rattle.walk.specs.Paper.{outcomes, prints_quoted, starred, expected}

pub starred_sessions : outcomes starred ≡ expected
unfolding outcomes prints_quoted
starred_sessions = refl
