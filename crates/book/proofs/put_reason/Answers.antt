-- `book::put_reason` meets its contract.
use native.Mathlib.Omega.{arith}
use Rattle.listing.specs.Bytes.{bytes_of}
use Rattle.book.specs.Reasons.{too_long_lem, too_many_lem, turned_away}
use Rattle.book.proofs.Saying.{too_long, too_many, printed, turned_away_lem}
use Rattle.book.proofs.put_reason.Goals as goal

pub returns-then-read-eq-PRINT_BYTES : goal.returns-then-read-eq-PRINT_BYTES
unfolding too_long_lem bytes_of
returns-then-read-eq-PRINT_BYTES c = let p = c.put_text.ensures in (too_long _ _ _ c.if-read-eq-PRINT_BYTES.true p.0, omega (arith, p.1))

pub returns-then-not-all : goal.returns-then-not-all
unfolding too_many_lem bytes_of
returns-then-not-all c = let p = c.put_text-then-not-all.ensures in (too_many _ _ _ c.if-read-eq-PRINT_BYTES.false c.if-not-all.true p.0, omega (arith, p.1))

pub returns-then-number-eq0 : goal.returns-then-number-eq0
returns-then-number-eq0 c = (printed _ _ _ _ c.if-read-eq-PRINT_BYTES.false c.if-not-all.false c.if-number-eq0.true, omega arith)

pub returns : goal.returns
unfolding turned_away bytes_of
returns c = let p = c.put_text-2.ensures in (turned_away_lem _ _ _ c.if-read-eq-PRINT_BYTES.false c.if-not-all.false c.if-number-eq0.false p.0, omega (arith, p.1))
