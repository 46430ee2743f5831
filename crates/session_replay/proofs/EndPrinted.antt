-- The step that prints the `X` line. Letters: n how many bytes it is.
use mathlib.Core.Path.{refl}
use mathlib.Core.List.{List}
use Prim.Native.Nat.{ℕ, ◌+◌, ◌≤◌}
use native.Mathlib.Omega.{arith}
use lib.ListN.{length}
use Rattle.walk.specs.Session.{end_line}
use Rattle.session_print.specs.Puts.{Puts}
use Rattle.session_printed.proofs.PiecePrinted.{put_begins}
use Rattle.session_replay.specs.After.{EndsWith}
use Rattle.session_replay.specs.declared.phase.Phase.TheVariants.{Over}

pub end_printed : (before after : List ℕ) (code present n : ℕ) → 1100 ≤ length before → Puts before 0 (end_line code present) after n → n ≤ 0 + 44 →
    EndsWith before code present after (record { phase = Over; printed = n })
end_printed before after code present n long p l = record { over = refl; prints = put_begins before (end_line code present) after n p (omega arith) }
