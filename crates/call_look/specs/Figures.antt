-- The figures of a look.
use Rattle.walk.specs.Instant.{never, moment}
use Rattle.call_look.specs.Look.{Looked, not_seen_lem, seen}
use Rattle.call_look.specs.declared.Sight.{Sight}

-- "A call that goes through has number 0 and place 0"; "place 0 from here on". "[A refusal’s] other result figures are 0 and due is none."
-- A moment due is told by 1 and the moment, none by 0 and 0.
unfoldable pub figures_of : Looked → Sight
figures_of (not_seen_lem k) = record { number = k; place = 0; due_known = 0; moment = 0; due = 0 }
figures_of (seen now never) = record { number = 0; place = 0; due_known = 0; moment = now; due = 0 }
figures_of (seen now (moment t)) = record { number = 0; place = 0; due_known = 1; moment = now; due = t }
