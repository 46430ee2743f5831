-- The whole claim for a run: the engine on rows ends as the walk ends, by induction on the steps left.
-- Letters as in Place and Held.
use mathlib.Core.Path.{refl, ◌∙◌}
use mathlib.Core.List.{List, ◌∷◌}
use Prim.Native.Nat.{ℕ, zero, suc}
use Rattle.listing.specs.Listing.{Listing}
use Rattle.walk.specs.State.{Result, Turn, Variable}
use Rattle.walk.specs.Walk.{instruction_at}
use Rattle.engine_rows.specs.Engine.{run_rows}
use Rattle.engine_rows.specs.Rows.{Owner, Rows}
use Rattle.engine_rows.proofs.Place.{nil, Frame, plug}
use Rattle.engine_rows.proofs.Moves.{move_none}
use Rattle.engine_rows.proofs.EngineState.{Runs}
use Rattle.engine_rows.proofs.Steady.{TableFits}
use Rattle.engine_rows.proofs.Outcomes.{Goal, stops_alike, AsWalk, Sound}
use Rattle.engine_rows.proofs.Loop.{routine_is, place_is, instruction_as_walk}

module _ (listing : Listing) (now : ℕ) (triggers : Owner → List ℕ) (hi : ℕ) (T : TableFits listing) where
  -- the run's own goal
  run_goal : (j : ℕ) (whole : Result Turn) →
      ((σ : Rows) (environment : List Variable) (q : List ℕ) (l woken : ℕ) (f : Frame) (fs : List Frame) →
      Runs listing now triggers hi σ environment q j l woken f fs whole → Sound listing now triggers hi T σ environment l (plug (f ∷ fs) nil) →
      AsWalk listing now triggers hi T whole (run_rows listing now triggers j σ environment q l woken f.self.slot)) →
      Goal listing now triggers hi T j whole (AsWalk listing now triggers hi T whole) (run_rows listing now triggers j)
  run_goal j whole deep = record { deep = deep; stops = stops_alike; finishes = λ h. h }

  pub run_as_walk : (j : ℕ) (whole : Result Turn) (σ : Rows) (environment : List Variable) (q : List ℕ) (l woken : ℕ) (f : Frame) (fs : List Frame) →
      Runs listing now triggers hi σ environment q j l woken f fs whole → Sound listing now triggers hi T σ environment l (plug (f ∷ fs) nil) →
      AsWalk listing now triggers hi T whole (run_rows listing now triggers j σ environment q l woken f.self.slot)
  unfolding run_rows
  run_as_walk zero whole σ environment q l woken f fs R S = stops_alike (R.same ∙ move_none listing now environment l woken f fs)
  run_as_walk (suc j) whole σ environment q l woken f fs R S =
      rw (
        routine_is listing now triggers hi T j whole (run_goal j whole (run_as_walk j whole)) σ environment q l woken f fs R S,
        place_is listing now triggers hi T j whole (run_goal j whole (run_as_walk j whole)) σ environment q l woken f fs R S,
      )
      (instruction_as_walk listing now triggers hi T j whole (run_goal j whole (run_as_walk j whole)) σ environment q l woken f fs R S
      (instruction_at listing f.self.routine f.self.place) refl)

  pub run_meets : (j : ℕ) (whole : Result Turn) → Goal listing now triggers hi T j whole (AsWalk listing now triggers hi T whole)
      (run_rows listing now triggers j)
  run_meets j whole = run_goal j whole (run_as_walk j whole)
