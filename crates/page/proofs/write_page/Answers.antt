-- `page::write_page` meets its contract.
use native.Mathlib.Omega.{arith}
use Rattle.page_book.proofs.OwnLines.{apart_none}
use Rattle.page.proofs.Written as written
use borrow.Author.Rules.{rules}
use Rattle.page.proofs.write_page.Goals as goal

pub enter_writes-openings-requires : goal.enter_writes-openings-requires
enter_writes-openings-requires c = (search rules, search rules, search rules, search rules, apart_none _, search rules)

pub returns-then-page-eq0 : goal.returns-then-page-eq0
returns-then-page-eq0 c =
    let a = c.args in
    let p = c.requires in
    written.left_none a.moments.now a.outputs.now a.values.now a.page a.memory.now p.0 p.3 p.4
    (λ k. omega (arith, c.type_inv.moments k)) c.put_blank_rows.ensures c.first_opening-first.ensures _ _ _ _ c.enter_writes-openings.ensures
    (omega arith) c.page_count-pages.ensures c.if-page-eq0.true

pub returns-then-page-pages : goal.returns-then-page-pages
returns-then-page-pages c =
    let a = c.args in
    let p = c.requires in
    written.left_past a.moments.now a.outputs.now a.values.now a.page a.memory.now p.0 p.3 p.4
    (λ k. omega (arith, c.type_inv.moments k)) c.put_blank_rows.ensures c.first_opening-first.ensures _ _ _ _ c.enter_writes-openings.ensures
    (omega arith) c.page_count-pages.ensures c.if-page-eq0.false c.if-page-pages.true

pub returns : goal.returns
returns c =
    let a = c.args in
    let p = c.requires in
    written.left_there a.moments.now a.outputs.now a.values.now a.page a.memory.now p.0 p.3 p.4
    (λ k. omega (arith, c.type_inv.moments k)) c.put_blank_rows.ensures c.first_opening-first.ensures _ _ _ _ c.enter_writes-openings.ensures
    (omega arith) c.page_count-pages.ensures c.if-page-eq0.false c.if-page-pages.false c.put_heading.ensures
