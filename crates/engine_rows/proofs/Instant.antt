-- An instant's run: the engine on rows that hold a tree ends as the walk's visit of that tree.
-- Letters as in Place and Held.
use mathlib.Core.Bool.{true, false}
use mathlib.Core.List.{List, []}
use Prim.Native.Nat.{ℕ, ◌+◌, ◌≤◌}
use native.Mathlib.Omega.{arith}
use lib.ListN.{length}
use Rattle.listing.specs.Listing.{Listing}
use Rattle.walk.specs.State.{Variable}
use Rattle.walk.specs.Walk.{visit_forest}
use Rattle.engine_rows.specs.Rows.{Owner, Rows}
use Rattle.engine_rows.specs.Triggers.{ready_of}
use Rattle.engine_rows.specs.Engine.{RowsResult, RowsRunner, next_ready, run_rows}
use Rattle.engine_rows.specs.Agenda.{running_with}
use Rattle.engine_rows.proofs.Place.{Tree, nil, erase, Full, Rests, plug, ◌⋈◌}
use Rattle.engine_rows.proofs.Priority.{Range}
use Rattle.engine_rows.proofs.Held.{Held}
use Rattle.engine_rows.proofs.Waking.{Triggers}
use Rattle.engine_rows.proofs.Kept.{Known}
use Rattle.engine_rows.proofs.Begin.{Brief, brief_nil, brief_put, begin_idle}
use Rattle.engine_rows.proofs.Steady.{TableFits, Above, Steady, steady_nil, steady_put}
use Rattle.engine_rows.proofs.Outcomes.{Goal, Sound, AsWalk, idle_as_walk}
use Rattle.engine_rows.proofs.Running.{run_meets}

pub steady_brief : (listing : Listing) {u : Above} {level c : ℕ} {t : Tree} → Steady listing u level c t → Brief listing c t
steady_brief listing steady_nil = brief_nil
steady_brief listing (steady_put {level = level} {c = c} {x = x} f k s) =
    let l : c + length x.own ≤ 65536 = omega (arith, f.short, f.high) in brief_put l (steady_brief listing k) (steady_brief listing s)

module _ (listing : Listing) (now : ℕ) (triggers : Owner → List ℕ) (hi : ℕ) (T : TableFits listing) where
  -- whatever is to be shown of the outcome, by any rest of the run
  pub visit_meets : {G : RowsResult → Type 0} {go : RowsRunner} (σ : Rows) (environment : List Variable) (j l woken : ℕ) (t : Tree) →
      Goal listing now triggers hi T j (visit_forest listing now (erase t) 0 (running_with environment j l woken)) G
      go →
      Triggers listing σ triggers → Range 0 hi t → Rests listing false t → Held σ true [] (length environment) t → Known σ t → Full t →
      Sound listing now triggers hi T σ environment l t → G (next_ready go j σ environment (ready_of listing σ environment) l woken)
  unfolding plug ◌⋈◌
  visit_meets σ environment j l woken t D tr r rs h K fl S =
      idle_as_walk listing now triggers hi T j _ D σ environment (ready_of listing σ environment) l woken []
      nil t (begin_idle listing now σ triggers environment hi j l woken t tr r rs h (steady_brief listing S.steady) K fl) S

  pub run_as_visit : (σ : Rows) (environment : List Variable) (j l woken : ℕ) (t : Tree) → Triggers listing σ triggers → Range 0 hi t →
      Rests listing false t → Held σ true [] (length environment) t → Known σ t → Full t → Sound listing now triggers hi T σ environment l t →
      AsWalk listing now triggers hi T (visit_forest listing now (erase t) 0 (running_with environment j l woken))
      (next_ready (run_rows listing now triggers j) j σ environment (ready_of listing σ environment) l woken)
  run_as_visit σ environment j l woken t tr r rs h K fl S = visit_meets σ environment j l woken t (run_meets listing now triggers hi T j _) tr r rs h
      K fl S
