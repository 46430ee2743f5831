-- Two runs of one subtree, the whole: unless one of them stops, both leave the same tree and memories that show it the same again, and
-- what lies out of its reach stays as it was. Steps left, live routines and waits passed may differ freely.
-- Letters as in `Twin`; listing and listing' are the two listings, go and go' the rest of a run on each.
use mathlib.Core.Path.{◌≡◌, refl, sym, ◌∙◌}
use mathlib.Core.Bool.{Bool, true, false}
use mathlib.Core.List.{List, ◌++◌}
use mathlib.Core.Option.{Option, none, some}
use Prim.Native.Nat.{ℕ, zero, suc, ◌+◌, ◌≤◌}
use native.Mathlib.Omega.{arith}
use lib.ListN.{length, length-append, length-set}
use Rattle.words.specs.Words.{is_positive}
use Rattle.listing.specs.Listing.{Listing, Piece, Call, Instruction, assign, schedule, branch, jump, wait, fork, end}
use Rattle.walk.specs.State.{Variable, Node, node, Forest, empty, more, Frame, frame, go_to, next, Running, Turn, Result, with_left}
use Rattle.walk.specs.Memory.{write_at, schedule_at, address_of, evaluate}
use Rattle.walk.specs.Walk.{routine_at, instruction_at, instruction_of, new_routine, new_routines, enter, Runner, begin, Move, goes_to, sleeps, forks, ends, stops, asking, with_value, move, carry_out, execute, step, run, passed_wait, wake, resume, visit, visit_forest}
use Rattle.walk.specs.Instant.{due_of_variables, due_of_node, due_of_forest}
use Rattle.walk_halves.proofs.Due.{NotBefore, nothing_due, neither_before}
use Rattle.walk_halves.proofs.Reach.{Zone, append_alike, evaluate_same, any_written-same, write_alike, schedule_alike, named_same, own_later, bound_leads, addresses_in, kept_refl, kept_then, write_keeps, schedule_keeps, append_keeps}
use Rattle.walk_halves.proofs.Twin as Twin
use Rattle.walk_halves.proofs.Twin.{Both, first_stopped, second_stopped, both_went, both_then, AllIts, no_child, one_child, Code, Has, waits, more_asleep, is_new_lem, none_new, more_new, from_before, sleep_twins, leave_twins, nobody_twins, then_twins, in_turn-twins, begin_twins, join_twins, parts_asleep, placed_at}

module _ (zone : Zone) (code : Code) (now : ℕ) where
  abbrev In : ℕ → Type 0
  In x = zone.In x

  abbrev floor : ℕ
  floor = zone.floor

  abbrev Its : ℕ → Type 0
  Its r = code.Its r

  abbrev model : Listing
  model = code.model

  abbrev Alike : List Variable → List Variable → Type 0
  Alike m m' = Twin.Alike zone code now m m'

  abbrev Leads : List ℕ → Type 0
  Leads names = Twin.Leads zone code names

  abbrev Asleep : Node → Type 0
  Asleep n = Twin.Asleep zone code n

  abbrev AllAsleep : Forest → Type 0
  AllAsleep f = Twin.AllAsleep zone code f

  abbrev AllNew : Forest → Type 0
  AllNew f = Twin.AllNew zone code now f

  abbrev Ends : ℕ → List Variable → Turn → Turn → Type 0
  Ends base before a a' = Twin.Ends zone code now base before a a'

  abbrev Kept : List Variable → List Variable → Type 0
  Kept m m' = Twin.Kept zone code m m'

  abbrev Placed : Frame → List Variable → List Variable → Type 0
  Placed me m m' = Twin.Placed zone code now me m m'

  abbrev Twins : Runner → Runner → Type 0
  Twins go go' = Twin.Twins zone code now go go'

  module _ (listing listing' : Listing) (has : Has code listing) (has' : Has code listing') where
    children_new : (m : List Variable) (names : List ℕ) (cs : List Call) → Leads names → floor ≤ length m → AllIts Its cs →
        AllNew (new_routines listing now m names cs)
    unfolding new_routines new_routine
    children_new m names _ h l no_child = none_new
    children_new m names _ h l (one_child {c = c} {cs = cs} i k) =
        more_new (is_new_lem i (bound_leads zone _ _ _ (length m) (addresses_in zone names h c.arguments) l) (own_later zone now _ _ _ _))
        (children_new m names cs h l k)

    children_same : (m m' : List Variable) (names : List ℕ) (cs : List Call) → Alike m m' → Leads names → AllIts Its cs →
        new_routines listing now m names cs ≡ new_routines listing' now m' names cs
    unfolding new_routines new_routine
    children_same m m' names _ g h no_child = refl
    children_same m m' names _ g h (one_child {c = c} {cs = cs} i k) =
        let called = routine_at listing' c.callee in
        rw (
          children_same m m' names cs g h k,
          sym (has c.callee i) ∙ has' c.callee i,
          g.long,
          named_same zone now m m' names g h,
        )

    -- ── one instruction ─────────────────────────────────────────────────────────────────────────
    -- The routine `me` is at it in both.
    module _ (me : Frame) (s s' : Running) (p : Placed me s.memory s'.memory) where
      -- Its moves: one stops, or both are alike.
      data Paired : Move → Move → Type 0 where
        first_stops : {k : ℕ} {m : Move} → Paired (stops k) m
        second_stops : {k : ℕ} {m : Move} → Paired m (stops k)
        both_go : {k : ℕ} {memory memory' : List Variable} → length memory ≡ length s.memory → Kept s.memory memory → Alike memory memory' →
            Paired (goes_to k memory) (goes_to k memory')
        both_sleep : {ns : List ℕ} → instruction_of model me ≡ wait ns → Paired sleeps sleeps
        both_fork : {cs : List Call} → instruction_of model me ≡ fork cs → Paired (forks cs) (forks cs)
        both_end : Paired ends ends

      carry_out-twins : (go go' : Runner) → Twins go go' → (m m' : Move) → Paired m m' →
          Both (Ends me.base s.memory) (carry_out listing now go m me s) (carry_out listing' now go' m' me s')
      unfolding carry_out
      carry_out-twins go go' h _ _ first_stops = first_stopped
      carry_out-twins go go' h _ _ second_stops = second_stopped
      carry_out-twins go go' h _ _ (both_go {k = k} {memory = memory} e kept alike) =
          from_before zone code now me.base _ _ _ _ kept
          (h (go_to me k) _ _ (record { its = p.its; leads = p.leads; above = p.above; within = omega (arith, e, p.within); alike = alike }))
      carry_out-twins go go' h _ _ (both_sleep i) =
          sleep_twins zone code now me empty s s' p (λ own. waits p.its p.leads i) (unfold due_of_forest in nothing_due)
      carry_out-twins go go' h _ _ (both_fork {cs = cs} i) =
          let its = code.closed me.routine me.place cs p.its i in
          let high : floor ≤ length s.memory = omega (arith, p.above, p.within) in
          both_then {R = Ends (length s.memory) s.memory} _ _ _ _
          (rw (← (children_same s.memory s'.memory me.names cs p.alike p.leads its))
          (in_turn-twins zone code now (begin go (suc me.level)) (begin go' (suc me.level)) (begin_twins zone code now go go' h (suc me.level))
          (new_routines listing now s.memory me.names cs) _ _
          (children_new s.memory me.names cs p.leads high its) high p.alike))
          λ a a' e. rw (← e.tree) (from_before zone code now _ _ _ _ _ e.kept
          (join_twins zone code now go go' h me cs a.tree a.running a'.running
          (record { its = p.its; leads = p.leads; above = p.above; within = omega (arith, e.long, p.within); alike = e.alike }) i e.asleep
          e.later))
      carry_out-twins go go' h _ _ both_end = leave_twins zone code now me s s' p

      asking_paired : (k : ℕ) (x x' : Bool) (m m' : Move) → Paired m m' → Paired (asking k x m) (asking k x' m')
      unfolding asking
      asking_paired k false x' m m' h = first_stops
      asking_paired k true false m m' h = second_stops
      asking_paired k true true m m' h = h

      schedule_paired : (k a d v : ℕ) (x : Bool) → is_positive d ≡ x → (y : Bool) → In a →
          Paired (asking 16 x (asking 17 y (goes_to k (schedule_at s.memory a (now + d) v))))
          (asking 16 x (asking 17 y (goes_to k (schedule_at s'.memory a (now + d) v))))
      unfolding asking schedule_at
      schedule_paired k a d v false e y i = first_stops
      schedule_paired k a d v true e y i =
          asking_paired 17 y y _ _ (both_go (length-set s.memory a _) (schedule_keeps zone s.memory a (now + d) v i)
          (schedule_alike zone now s.memory s'.memory a d v e i p.alike))

      same_value : (e : List Piece) → evaluate now s.memory me.names e ≡ evaluate now s'.memory me.names e
      same_value e = evaluate_same zone now s.memory s'.memory me.names p.alike p.leads e

      valued_paired : (r : Option ℕ) (m m' : ℕ → Move) → ((v : ℕ) → Paired (m v) (m' v)) → Paired (with_value r m) (with_value r m')
      unfolding with_value
      valued_paired none m m' h = first_stops
      valued_paired (some v) m m' h = h v

      move_paired : (i : Instruction) → instruction_of model me ≡ i →
          Paired (move now i me s.live s.memory) (move now i me s'.live s'.memory)
      unfolding move write_at
      move_paired (assign n e) i =
          rw (same_value e) (valued_paired _ _ _ λ v.
          both_go (length-set s.memory _ _)
          (write_keeps zone now s.memory (address_of me.names n) v (p.leads.to n))
          (write_alike zone now s.memory s'.memory (address_of me.names n) _ _ (p.leads.to n) p.alike refl))
      move_paired (schedule n d e) i =
          rw (same_value d, same_value e) (valued_paired _ _ _ λ delay. valued_paired _ _ _ λ v.
          schedule_paired (suc me.place) (address_of me.names n) delay v _ refl _ (p.leads.to n))
      move_paired (branch e k) i = rw (same_value e) (valued_paired _ _ _ λ v. both_go refl (kept_refl zone) p.alike)
      move_paired (jump k) i = both_go refl (kept_refl zone) p.alike
      move_paired (wait ns) i = both_sleep i
      move_paired (fork cs) i = asking_paired 14 _ _ _ _ (asking_paired 15 _ _ _ _ (both_fork i))
      move_paired end i = both_end

    execute_twins : (go go' : Runner) → Twins go go' → (i : Instruction) (me : Frame) (s s' : Running) →
        instruction_of model me ≡ i → Placed me s.memory s'.memory →
        Both (Ends me.base s.memory) (execute listing now go i me s) (execute listing' now go' i me s')
    unfolding execute
    execute_twins go go' h i me s s' at p = carry_out-twins me s s' p go go' h _ _ (move_paired me s s' p i at)

    step_twins : (base : ℕ) (f f' : Running → Result Turn) (j j' : ℕ) (s s' : Running) →
        ((k k' : ℕ) → Both (Ends base s.memory) (f (with_left s k))
        (f' (with_left s' k'))) →
        Both (Ends base s.memory) (step f j s) (step f' j' s')
    unfolding step
    step_twins base f f' zero j' s s' h = first_stopped
    step_twins base f f' (suc j) zero s s' h = second_stopped
    step_twins base f f' (suc j) (suc j') s s' h = h j j'

    instruction_of_lem : (r place : ℕ) → Its r → instruction_at listing r place ≡ instruction_at model r place
    unfolding instruction_at
    instruction_of_lem r place i = rw (has r i)

    instruction_of' : (r place : ℕ) → Its r → instruction_at listing' r place ≡ instruction_at model r place
    unfolding instruction_at
    instruction_of' r place i = rw (has' r i)

    pub run_twins : (bound bound' : ℕ) → Twins (run listing now bound) (run listing' now bound')
    unfolding run
    run_twins zero bound' me s s' p = first_stopped
    run_twins (suc bound) zero me s s' p = second_stopped
    run_twins (suc bound) (suc bound') me s s' p =
        step_twins me.base _ _ s.left s'.left s s' λ k k'.
        rw (instruction_of_lem me.routine me.place p.its, instruction_of' me.routine me.place p.its)
        (execute_twins (run listing now bound) (run listing' now bound') (run_twins bound bound') (instruction_of model me) me _ _ refl p)

    -- ── the visit ───────────────────────────────────────────────────────────────────────────────
    wake_twins : (x : Bool) (me : Frame) (ns : List ℕ) (s s' : Running) → Placed me s.memory s'.memory → instruction_of model me ≡ wait ns →
        Both (Ends me.base s.memory) (wake listing now x me s) (wake listing' now x me s')
    unfolding wake passed_wait
    wake_twins true me ns s s' p i = run_twins s.left s'.left (next me) _ _ (placed_at zone code now _ p)
    wake_twins false me ns s s' p i =
        sleep_twins zone code now me empty s s' p (λ own. waits p.its p.leads i) (unfold due_of_forest in nothing_due)

    resume_twins : (i : Instruction) (me : Frame) (children : Forest) (s s' : Running) → instruction_of model me ≡ i →
        Placed me s.memory s'.memory → AllAsleep children → NotBefore (suc now) (due_of_forest children) →
        Both (Ends me.base s.memory) (resume listing now i me children s) (resume listing' now i me children s')
    unfolding resume
    resume_twins (wait ns) me children s s' i p k l =
        rw (any_written-same zone now s.memory s'.memory me.names p.alike p.leads ns) (wake_twins _ me ns s s' p i)
    resume_twins (fork cs) me children s s' i p k l =
        join_twins zone code now _ _ (run_twins s.left s'.left) me cs children s s' p i k l
    resume_twins (assign n e) me children s s' i p k l = first_stopped
    resume_twins (schedule n d e) me children s s' i p k l = first_stopped
    resume_twins (branch e j) me children s s' i p k l = first_stopped
    resume_twins (jump j) me children s s' i p k l = first_stopped
    resume_twins end me children s s' i p k l = first_stopped

    -- A routine's turn after its children's.
    after_children : (level r place : ℕ) (names : List ℕ) (own : List Variable) (s s' : Running) → Its r → Leads names →
        floor ≤ length s.memory → Alike s.memory s'.memory →
        (a a' : Turn) → Ends (length (s.memory ++ own)) (s.memory ++ own) a a' →
        Both (Ends (length s.memory) s.memory) (resume listing now (instruction_at listing r place) (frame level r place names (length s.memory))
        a.tree a.running)
        (resume listing' now (instruction_at listing' r place) (frame level r place names (length s'.memory)) a'.tree a'.running)
    after_children level r place names own s s' i k l g a a' e =
        rw (instruction_of_lem r place i, instruction_of' r place i, ← g.long, ← e.tree)
        (from_before zone code now _ _ _ _ _ (kept_then zone (append_keeps zone s.memory own l) e.kept)
        (resume_twins (instruction_at model r place) (frame level r place names (length s.memory)) a.tree a.running a'.running refl
        (record { its = i; leads = k; above = l; within = omega (arith, e.long, length-append s.memory own); alike = e.alike }) e.asleep
        e.later))

    mutual
      unfolding visit enter due_of_forest

      pub visit_twins : (n : Node) (level : ℕ) (s s' : Running) → Asleep n → NotBefore (suc now) (due_of_node n) → floor ≤ length s.memory →
          Alike s.memory s'.memory →
          Both (Ends (length s.memory) s.memory) (visit listing now n level s) (visit listing' now n level s')
      visit_twins (node r place names own children) level s s' k d l g =
          let (mine, theirs) = neither_before (suc now) (due_of_variables own) (due_of_forest children) d in
          let is = parts_asleep zone code r place names own children k in
          both_then _ _ _ _ (visit_forest-twins children (suc level) _ _ is.children theirs (simp length-append (omega arith))
          (append_alike zone now _ _ own g mine))
          (after_children level r place names own s s' is.its is.leads l g)

      pub visit_forest-twins : (f : Forest) (level : ℕ) (s s' : Running) → AllAsleep f → NotBefore (suc now) (due_of_forest f) →
          floor ≤ length s.memory → Alike s.memory s'.memory →
          Both (Ends (length s.memory) s.memory) (visit_forest listing now f level s) (visit_forest listing' now f level s')
      visit_forest-twins empty level s s' k d l g = nobody_twins zone code now s s' g
      visit_forest-twins (more n f) level s s' (more_asleep kn k) d l g =
          let (first, rest) = neither_before (suc now) (due_of_node n) (due_of_forest f) d in
          both_then _ _ _ _ (visit_twins n level s s' kn first l g) λ a a' d.
          both_then _ _ _ _ (visit_forest-twins f level a.running a'.running k rest (omega (arith, d.long)) d.alike) λ b b' e.
          both_went (then_twins zone code now _ _ a a' b b' d e)
