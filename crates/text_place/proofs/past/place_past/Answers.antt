-- `text_place::place_past` meets its contract: the place is moved, and then its line counted.
use Rattle.text_place.proofs.Passing.{moved_in, moved_counted}
use Rattle.text_place.proofs.past.place_past.Goals as goal

pub count_line-requires : goal.count_line-requires
count_line-requires c = moved_in c.args.s.now c.args.place c.move_past.new.place c.requires c.move_past.ensures

pub returns : goal.returns
returns c =
    moved_counted c.args.s.now c.args.place c.move_past.new.place c.requires c.move_past.ensures c.count_line.new.place c.count_line.ensures
