-- Who goes before all who are ready.
use Rattle.std.specs.Prelude.{Bool, ◌&&◌, ℕ, ◌-◌, ◌/◌, leb, ltb}
use Rattle.std.specs.declared.option.Option.{Option}
use Rattle.engine_rows.specs.Rows.{Rows}
use Rattle.engine_ready.specs.Ordered.{comes_first}

-- Trigger `next` is one of those numbered up to `most`; its slot sleeps, and comes before the first to run, whose lowest priority is `low`.
unfoldable pub goes_first : Rows → ℕ → ℕ → Option ℕ → Bool
goes_first rows next most low = ltb 0 next && (leb next most && ((rows ((next - 1) / 4)).asleep && comes_first (rows ((next - 1) / 4)).low low))
