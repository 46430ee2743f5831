-- `text_records::read_line` meets its contract.
use Rattle.std.proofs.Common.{◌≡◌, ◌≤◌, sym, ap, ◌∙◌, arith, get_or, ℕ, List, length}
use Rattle.listing.specs.Form.{read_by_letter}
use Rattle.text_place.specs.Texts.{ends_piece, piece_end, Within}
use Rattle.text_place.specs.Places.{passed, taken_at}
use Rattle.text_place.specs.declared.place.Place.{Place}
use Rattle.text_place.specs.declared.place.Taken.{Taken}
use Rattle.text_place.proofs.Places as places
use Rattle.text_jumps.specs.Records.{stand_ins, rest_answer}
use Rattle.text_records.proofs.Letters as letters
use Rattle.text_records.proofs.line.read_line.Goals as goal

-- the first piece of the line, taken
module _ (s : List ℕ) (place : Place) (w : Within s place.offset place.line) (t : Taken) (ens : t ≡ taken_at s place) where
  from_is : t.from ≡ place.offset
  from_is = ap (λ (t : Taken). t.from) ens

  to_is : t.to ≡ piece_end s place.offset
  to_is = ap (λ (t : Taken). t.to) ens

  stop_is : t.stop ≡ get_or s (piece_end s place.offset) 0
  stop_is = ap (λ (t : Taken). t.stop) ens

  next_is_lem : t.next ≡ passed s place.line (piece_end s place.offset)
  next_is_lem = ap (λ (t : Taken). t.next) ens

  in_order : (t.from ≤ t.to) × (t.to ≤ length s)
  in_order = rw ens (places.taken_in s place w)

  next_in : Within s t.next.offset t.next.line
  next_in = rw next_is_lem (places.passed_in s place.offset place.line (piece_end s place.offset) w (omega arith) (places.end_in ends_piece s place.offset w.inside))

pub take_piece-letter-requires : goal.take_piece-letter-requires
take_piece-letter-requires c = c.requires.0

pub returns-then-letter-eq32 : goal.returns-then-letter-eq32
returns-then-letter-eq32 c =
    let a = c.args in
    let w = c.requires.0 in
    letters.line_space _ a.scope a.s.now a.place (sym (stop_is a.s.now a.place w _ c.take_piece-letter.ensures) ∙ c.if-letter-eq32.true)

pub overflow_sub-letter : goal.overflow_sub-letter
overflow_sub-letter c = (in_order c.args.s.now c.args.place c.requires.0 _ c.take_piece-letter.ensures).0

pub returns-then-letter-from-ne1 : goal.returns-then-letter-from-ne1
returns-then-letter-from-ne1 c =
    let a = c.args in
    let w = c.requires.0 in
    let ens = c.take_piece-letter.ensures in
    letters.line_short _ a.scope a.s.now a.place (λ e. c.if-letter-eq32.false (stop_is a.s.now a.place w _ ens ∙ e))
    (λ e. c.if-letter-from-ne1.true (omega (arith, from_is a.s.now a.place w _ ens, to_is a.s.now a.place w _ ens, e)))

pub bounds-s-from : goal.bounds-s-from
bounds-s-from c =
    let a = c.args in
    omega (arith, in_order a.s.now a.place c.requires.0 _ c.take_piece-letter.ensures, c.if-letter-from-ne1.false)

pub read_rest-requires : goal.read_rest-requires
read_rest-requires c = (next_in c.args.s.now c.args.place c.requires.0 _ c.take_piece-letter.ensures, c.requires.1)

pub returns : goal.returns
returns c =
    let a = c.args in
    let s = a.s.now in
    let w = c.requires.0 in
    let ens = c.take_piece-letter.ensures in
    let rs = stand_ins a.arguments.now in
    c.read_rest.ensures ∙ ap (λ (t : Taken). rest_answer rs a.scope s t.next t.stop (read_by_letter (get_or s t.from 0))) ens
    ∙ letters.line_is_lem rs a.scope s a.place w (λ e. c.if-letter-eq32.false (stop_is s a.place w _ ens ∙ e))
    (omega (arith, in_order s a.place w _ ens, c.if-letter-from-ne1.false, from_is s a.place w _ ens, to_is s a.place w _ ens))
