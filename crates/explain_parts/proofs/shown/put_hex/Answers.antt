-- `explain_parts::shown::put_hex` meets its contract.
use Rattle.explain_parts.proofs.Showing.{hex_put}
use Rattle.explain_parts.proofs.shown.put_hex.Goals as goal

pub returns : goal.returns
returns c = hex_put _ c.put_byte.ensures c.put_byte-2.ensures c.put_byte-3.ensures c.put_byte-4.ensures c.hex_digit.ensures c.hex_digit-2.ensures
