-- `text_fields::expression_field` meets its contract.
use Rattle.std.proofs.Common.{sym, ap, ◌∙◌, Bool, cond, arith, eq-eqb, ne_eqb, None}
use Rattle.text_fields.proofs.Gather as gather
use Rattle.text_fields.proofs.field.expression_field.Goals as goal

pub returns-in_err-field : goal.returns-in_err-field
returns-in_err-field c =
    c.from_residual.ensures ∙ ap gather.expression_by (sym c.in_err-field.was) ∙ gather.expression_by_lem c.args.names (omega arith) c.args.s.now c.args.place _ _ c.pieces_field.ensures

pub returns-then-g-ne1 : goal.returns-then-g-ne1
returns-then-g-ne1 c =
    let v = c.in_ok-field.field in
    ap (λ (t : Bool). cond t (gather.expression_with v.value.count v.value.there v.stop v.next) None) (sym (ne_eqb v.value.held 1 c.if-g-ne1.true))
    ∙ ap gather.expression_by (sym c.in_ok-field.was) ∙ gather.expression_by_lem c.args.names (omega arith) c.args.s.now c.args.place _ _ c.pieces_field.ensures

pub returns : goal.returns
returns c =
    let v = c.in_ok-field.field in
    ap (λ (t : Bool). cond t (gather.expression_with v.value.count v.value.there v.stop v.next) None) (sym (eq-eqb v.value.held 1 c.if-g-ne1.false))
    ∙ ap gather.expression_by (sym c.in_ok-field.was) ∙ gather.expression_by_lem c.args.names (omega arith) c.args.s.now c.args.place _ _ c.pieces_field.ensures
