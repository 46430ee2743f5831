-- The bytes of the heading are those that the columns give, right-aligned.
use Rattle.listing.specs.Bytes.{bytes_of}
use Rattle.page_rows.specs.Rows.{heading, row_of, right_aligned}
use Rattle.page_rows.proofs.rows.put_heading.Goals as goal

pub returns : goal.returns
unfolding heading row_of right_aligned bytes_of
returns c = c.put_bytes.ensures
