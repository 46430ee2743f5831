use Rattle.test_load.proofs.figures.load_figures.Goals as goal

pub returns : goal.returns
returns c = let l = c.fabrwent_load-loaded.ensures in (record { number_is_lem = l.number; place_is_lem = l.place }, l.table)
