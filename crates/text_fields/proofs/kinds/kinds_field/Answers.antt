-- `text_fields::kinds_field` meets its contract.
use Rattle.std.proofs.Common.{◌≡◌, ◌≤◌, sym, ap, ◌∙◌, ◌+◌, ◌-◌, take, drop, get_or, arith, ℕ, List}
use Rattle.std.proofs.lemmas.List.{drop-take}
use Rattle.std.specs.Prelude as P
use Rattle.std.proofs.Math.Seq.{slice}
use Rattle.text_place.specs.Texts.{first_piece_lem, ends_piece, piece_end, Within}
use Rattle.text_place.specs.Places.{taken_at, passed}
use Rattle.text_fields.specs.Fields.{kinds_answer, kinding, kinds_field_answer}
use Rattle.text_place.specs.declared.place.Place.{Place}
use Rattle.text_fields.specs.declared.kinds.Kinds.{Kinds}
use Rattle.text_place.specs.declared.place.Taken.{Taken}
use Rattle.text_place.proofs.Places as places
use Rattle.text_fields.proofs.Letters as kinds
use Rattle.text_fields.proofs.kinds.kinds_field.Goals as goal

pub returns-then-stop-ne9 : goal.returns-then-stop-ne9
returns-then-stop-ne9 c = sym (kinds.kinds_shut c.args.s.now c.args.place c.args.stop c.if-stop-ne9.true)

pub returns-then-t-eq32 : goal.returns-then-t-eq32
returns-then-t-eq32 c =
    let a = c.args in
    let stop_is : c.take_piece-t.result.stop ≡ get_or a.s.now (piece_end a.s.now a.place.offset) 0 = ap (λ (t : Taken). t.stop) c.take_piece-t.ensures in
    sym (kinds.kinds_space a.s.now a.place a.stop c.if-stop-ne9.false (sym stop_is ∙ c.if-t-eq32.true))

pub slice_bounds-kinds_of-end : goal.slice_bounds-kinds_of-end
slice_bounds-kinds_of-end c =
    let t = places.taken_in c.args.s.now c.args.place c.requires in
    let g : c.take_piece-t.result.to ≡ (taken_at c.args.s.now c.args.place).to = ap (λ (t : Taken). t.to) c.take_piece-t.ensures in
    rw g t.1

-- the kinds of the piece that was taken
module _ (s : List ℕ) (place : Place) (w : Within s place.offset place.line) (t : Taken) (ens : t ≡ taken_at s place) where
  in_order : t.from ≤ t.to
  in_order = rw ens (places.taken_in s place w).0

  piece_is : kinds_answer (take (t.to - t.from) (drop t.from s)) ≡ kinds_answer (first_piece_lem (drop place.offset s))
  piece_is =
      let n : t.from + (t.to - t.from) ≡ t.to = omega (arith, in_order) in
      ap kinds_answer (sym (drop-take t.from (t.to - t.from) s) ∙ ap (λ (n : ℕ). slice t.from n s) n ∙ rw ens (places.before_slice ends_piece s place.offset w.inside))

  pub field_is : (stop : ℕ) → stop ≡ 9 → (t.stop ≡ 32 → ⊥) → (o : P.Option Kinds) → o ≡ kinds_answer (take (t.to - t.from) (drop t.from s)) → kinding o t.stop t.next ≡ kinds_field_answer s place stop
  field_is stop h n o e =
      let stop_is : t.stop ≡ get_or s (piece_end s place.offset) 0 = ap (λ (t : Taken). t.stop) ens in
      sym (kinds.kinds_piece s place stop h (λ z. n (stop_is ∙ z)) ∙ ap (λ (k : P.Option Kinds). kinding k (get_or s (piece_end s place.offset) 0) (passed s place.line (piece_end s place.offset))) (sym (e ∙ piece_is))
      ∙ ap (λ (t : Taken). kinding o t.stop t.next) (sym ens))

pub returns-in_err-kinds : goal.returns-in_err-kinds
returns-in_err-kinds c =
    c.from_residual.ensures ∙ ap (λ (o : P.Option Kinds). kinding o c.take_piece-t.result.stop c.take_piece-t.result.next) (sym c.in_err-kinds.was)
    ∙ field_is c.args.s.now c.args.place c.requires _ c.take_piece-t.ensures _ c.if-stop-ne9.false c.if-t-eq32.false _ c.kinds_of.ensures

pub returns : goal.returns
returns c =
    ap (λ (o : P.Option Kinds). kinding o c.take_piece-t.result.stop c.take_piece-t.result.next) (sym c.in_ok-kinds.was)
    ∙ field_is c.args.s.now c.args.place c.requires _ c.take_piece-t.ensures _ c.if-stop-ne9.false c.if-t-eq32.false _ c.kinds_of.ensures
