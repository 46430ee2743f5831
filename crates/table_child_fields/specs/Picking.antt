-- The child field that is looked for. w stands for the table's words.
use Rattle.std.specs.Prelude.{cond, List, ℕ, ◌+◌, ◌-◌, ltb, leb, Option, Some, None}
use Rattle.table.specs.Decode.{head_after, word}
use Rattle.table_child_fields.specs.declared.pick.Maker.{Maker}

-- The child field that follows `skip` others, the first head at `first`: its routine, the head after it, and how many are left.
abbrev pub maker_after : List ℕ → ℕ → ℕ → ℕ → Maker
maker_after w first left skip = record {
  routine = word w (head_after w first skip + 1);
  head = head_after w first (skip + 1);
  left = left - skip - 1;
}

-- The child field numbered `child` among the `left` ones from `next` on, the first head at `first`.
unfoldable pub maker_of : List ℕ → ℕ → ℕ → ℕ → ℕ → Option Maker
maker_of w first left next child = cond (ltb child next) None (cond (leb left (child - next)) None (Some (maker_after w first left (child - next))))
