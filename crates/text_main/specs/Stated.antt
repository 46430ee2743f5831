-- Whether an `R` is main's as stated: "Main has i + o arguments, all `r`".
use Rattle.std.specs.Prelude.{Bool, true, false, ◌&&◌, ℕ, ◌+◌, eqb}
use Rattle.text_main.specs.declared.main_routine.Here.{Here}

-- of an `R` that opens main, or of another
abbrev pub stated_if : Bool → ℕ → ℕ → Bool → Bool
stated_if true arguments ports by_reference = eqb arguments ports && by_reference
stated_if false arguments ports by_reference = true

abbrev pub is_stated : Here → ℕ → Bool → Bool
is_stated here arguments by_reference = stated_if here.unopened arguments (here.inputs + here.outputs) by_reference
