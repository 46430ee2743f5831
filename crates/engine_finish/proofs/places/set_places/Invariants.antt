use Rattle.engine_order.specs.Placed.{PlacesSet}
use Rattle.engine_finish.proofs.places.set_places.Given as goal

abbrev pub invariant-loop-k : goal.invariant-loop-k
invariant-loop-k l = PlacesSet l.k l.initial.m l.m
