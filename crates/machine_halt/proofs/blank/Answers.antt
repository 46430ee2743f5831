use Rattle.machine_halt.proofs.Zeroes.{blank_form}
use mathlib.Core.Path.{◌∙◌}
use Rattle.machine_halt.proofs.blank.Goals as goal

pub returns : goal.returns
returns c = c.clear_from.ensures ∙ blank_form c.args.m.now
