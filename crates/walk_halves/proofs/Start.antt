-- The start: main forks all growers at once, from variables that are all new, so that the grower's first part and its reports at
-- moment 0 are the same in every run that has the grower's routines.
-- Letters as in `Standing`; locals the number of main's own variables, before and after the child fields round the grower's.
use mathlib.Core.Path.{◌≡◌, refl, sym, ap, ap₂, ◌∙◌, subst}
use mathlib.Core.Bool.{Bool, true, false}
use mathlib.Core.List.{List, [], ◌∷◌, ◌++◌}
use Prim.Native.Nat.{ℕ, zero, suc, ◌+◌}
use native.Mathlib.Omega.{arith}
use lib.Dec.{leb}
use lib.ListN.{length, replicate, length-replicate, length-append}
use Rattle.listing.specs.Listing.{Listing, Call, Kind, by_reference, fork, end}
use Rattle.walk.specs.State.{Variable, node, Forest, empty, more, ◌⊕◌, State, Running, Turn, ok, with_memory, with_left, with_live, frame, no_variable, new_variable}
use Rattle.walk.specs.Memory.{address_of, addresses_of, consecutive, bind_names, own_variables}
use Rattle.walk.specs.Walk.{routine_at, instruction_at, new_routine, new_routines, child_count, enter, forks, asking, move, Runner, in_turn, begin, carry_out, execute, step, run}
use Rattle.walk.specs.Instant.{earlier, due_of, due_of_variables, Done, environment_size, main_call, environment_names, start, at_start}
use Rattle.walk.specs.Events.{events_at}
use Rattle.walk_halves.specs.Halves.{among, only_of, its_own}
use Rattle.walk_laws.proofs.Results.{stop_is_not_ok}
use Rattle.walk_halves.proofs.Due.{NotBefore, nothing_due, append_not_before}
use Rattle.walk_halves.proofs.Reach.{bound_leads, own_later}
use Rattle.walk_halves.proofs.Twin.{Has, is_new_lem, AllNew, none_new, more_new, in_turn-twins, begin_twins}
use Rattle.walk_halves.proofs.TwinRuns.{run_twins}
use Rattle.walk_halves.proofs.Lent.{lent}
use Rattle.walk_halves.proofs.Turns.{in_sequence}
use Rattle.walk_halves.proofs.Part.{Grower, args, size, floor, Mine, a_name, mine, its, part_after, reports_after, ends_same, shown_alike}
use Rattle.walk_halves.proofs.Part as Part
use Rattle.walk_halves.proofs.Children as Children
use Rattle.walk_halves.proofs.Children.{Theirs, no_name, theirs, anyone, Children, children, begun_alone}
use Rattle.walk_halves.proofs.Standing.{MainRests, main_rests, Standing, standing_after, reports_after_lem}
use Rattle.walk_halves.proofs.Instants.{Leaves, finished}
use Rattle.walk_halves.proofs.Names.{OwnNumber, own_number, past_main, main_names_lem, main_bound, main_owns, Aside, none_aside, one_aside, Apart, passed_in}

-- ── main's first steps ────────────────────────────────────────────────────────────────────────────
record Forks (listing : Listing) (growers : List Call) (names : List ℕ) (base : ℕ) (m : List Variable) (x : Turn) : Type 0 where
  bound : ℕ
  s : Running
  memory : s.memory ≡ m
  y : Turn
  turns : in_turn (begin (run listing 0 bound) 1) (new_routines listing 0 m names growers) s ≡ ok y
  rests : MainRests names base y x

module _ (listing : Listing) (growers : List Call) (names : List ℕ) (base : ℕ) (at_Fork : instruction_at listing 0 0 ≡ fork growers)
    (then_ends : instruction_at listing 0 1 ≡ end) where
  forks_with : (bound : ℕ) (x y : Bool) (s : Running) (z : Turn) →
      carry_out listing 0 (run listing 0 bound) (asking 14 x (asking 15 y (forks growers))) (frame 0 0 0 names base) s ≡ ok z →
      Forks listing growers names base s.memory z
  unfolding asking carry_out
  forks_with bound false y s z e = stop_is_not_ok e
  forks_with bound true false s z e = stop_is_not_ok e
  forks_with bound true true s z e =
      let u : Running = with_live s (s.live + child_count growers) in
      let q = in_sequence (in_turn (begin (run listing 0 bound) 1) (new_routines listing 0 s.memory names growers) u) _ z e in
      record {
        bound = bound;
        s = u;
        memory = refl;
        y = q.a;
        turns = q.came;
        rests = main_rests listing 0 names base then_ends bound q.a z q.rest;
      }

  first_step : (bound : ℕ) (s : Running) (x : Turn) (left : ℕ) →
      step (λ (u : Running). execute listing 0 (run listing 0 bound) (instruction_at listing 0 0) (frame 0 0 0 names base) u) left s ≡ ok x →
      Forks listing growers names base s.memory x
  unfolding step execute move
  first_step bound s x zero e = stop_is_not_ok e
  first_step bound s x (suc left) e =
      let u : Running = with_left s left in
      let goes : carry_out listing 0 (run listing 0 bound) (asking 14 (leb (s.live + child_count growers) 64) (asking 15 (leb 0 9) (forks growers)))
      (frame 0 0 0 names base) u ≡ ok x = rw at_Fork at e in
      forks_with bound _ _ u x goes

  main_forks : (bound : ℕ) (s : Running) (x : Turn) → run listing 0 bound (frame 0 0 0 names base) s ≡ ok x →
      Forks listing growers names base s.memory x
  unfolding run
  main_forks zero s x e = stop_is_not_ok e
  main_forks (suc bound) s x e = first_step bound s x s.left e

-- Main's memory at the start, and that nothing is due in it.
unfoldable pub new_memory : ℕ → ℕ → List Variable
new_memory size locals = replicate size (new_variable 0 0) ++ replicate locals (new_variable 0 0)

length_new : (size locals : ℕ) → length (new_memory size locals) ≡ size + locals
unfolding new_memory
length_new size locals = length-append (replicate size (new_variable 0 0)) (replicate locals (new_variable 0 0)) ∙
    ap₂ ◌+◌ (length-replicate size (new_variable 0 0)) (length-replicate locals (new_variable 0 0))

fresh_later : (n t : ℕ) → NotBefore t (due_of_variables (replicate n (new_variable 0 0)))
unfolding due_of_variables due_of no_variable new_variable earlier
fresh_later zero t = nothing_due
fresh_later (suc n) t = fresh_later n t

new_later : (size locals t : ℕ) → NotBefore t (due_of_variables (new_memory size locals))
unfolding new_memory
new_later size locals t = append_not_before t (replicate size (new_variable 0 0)) (replicate locals (new_variable 0 0)) (fresh_later size t) (fresh_later locals t)

-- ── the start on a listing whose main is as stated ────────────────────────────────────────────────
record Starts (listing : Listing) (growers : List Call) (size locals : ℕ) (d : Done) : Type 0 where
  x : Turn
  forks : Forks listing growers (consecutive (size + locals) 0) size (new_memory size locals) x
  leaves : Leaves listing 0 x d

begin_main : (listing : Listing) (go : Runner) (kinds : List Kind) (passed arguments : List ℕ) (size locals : ℕ) (name : ℕ → Variable)
    (s : Running) → kinds ≡ replicate size by_reference →
    passed ≡ addresses_of (consecutive size 0) (consecutive size 0) → s.memory ≡ replicate size (new_variable 0 0) →
    begin go 0 (node 0 0 (bind_names kinds passed locals (length s.memory)) (own_variables 0 kinds arguments locals name) empty) s ≡
    go (frame 0 0 0 (consecutive (size + locals) 0) size) (with_memory s (new_memory size locals))
unfolding begin enter new_memory
begin_main listing go kinds passed arguments size locals name s k p m =
    rw (
      k,
      p,
      m,
      length-replicate size (new_variable 0 0),
      main_bound size locals,
      main_owns 0 size arguments locals name,
    )

starts : (listing : Listing) (growers : List Call) (allowance : ℕ) (d : Done) → instruction_at listing 0 0 ≡ fork growers →
    instruction_at listing 0 1 ≡ end →
    (routine_at listing 0).kinds ≡ replicate (environment_size listing) by_reference → start listing allowance ≡ ok d →
    Starts listing growers (environment_size listing) (routine_at listing 0).locals d
unfolding start new_routine main_call environment_names
starts listing growers allowance d at_Fork then_ends kinds e =
    let size = environment_size listing in
    let r : Running = at_start listing allowance in
    let q = in_sequence (begin (run listing 0 allowance) 0 (new_routine listing 0 (replicate size (new_variable 0 0)) (environment_names listing)
    (main_call listing)) r) _ d e in
    let began = begin_main listing (run listing 0 allowance) (routine_at listing 0).kinds _ _ size (routine_at listing 0).locals _ r kinds refl refl in
    record {
      x = q.a;
      forks = main_forks listing growers _ size at_Fork then_ends allowance _ q.a (sym began ∙ q.came);
      leaves = finished listing 0 allowance q.a d q.rest;
    }

-- ── the new children ──────────────────────────────────────────────────────────────────────────────
new_both : (listing : Listing) (m : List Variable) (names : List ℕ) (before : List Call) (c : Call) (after : List Call) →
    new_routines listing 0 m names (before ++ c ∷ after) ≡
    new_routines listing 0 m names before ⊕ (new_routines listing 0 m names (c ∷ []) ⊕ new_routines listing 0 m names after)
unfolding new_routines ◌⊕◌
new_both listing m names [] c after = refl
new_both listing m names (d ∷ before) c after = ap (more (new_routine listing 0 m names d)) (new_both listing m names before c after)

-- Main's names, and its memory when it forks.
abbrev pub main_names : Grower → List ℕ
main_names g = consecutive (floor g) 0

abbrev pub main_memory : Grower → List Variable
main_memory g = new_memory (size g) (routine_at g.model 0).locals

-- The routine that the grower's field makes.
abbrev pub child : Grower → Listing → Forest
child g listing = new_routines listing 0 (main_memory g) (main_names g) (g.field ∷ [])

module _ (g : Grower) (listing : Listing) where
  long_new : length (main_memory g) ≡ floor g
  long_new = length_new (size g) (routine_at g.model 0).locals

  my_name : (n : ℕ) → among n (args g) ≡ true → Mine g (address_of (main_names g) n)
  my_name n h = go (main_names_lem (floor g) n g.small)
    where
      go : OwnNumber (floor g) n (address_of (main_names g) n) → Mine g (address_of (main_names g) n)
      go (own_number e) = a_name (rw e h)
      go (past_main l) = Part.past_main l

  their_name : (n : ℕ) → among n (args g) ≡ false → Theirs g (address_of (main_names g) n)
  their_name n h = go (main_names_lem (floor g) n g.small)
    where
      go : OwnNumber (floor g) n (address_of (main_names g) n) → Theirs g (address_of (main_names g) n)
      go (own_number e) = no_name (rw e h)
      go (past_main l) = Children.past_main l

  mine_new : AllNew (mine g) (its g) 0 (child g listing)
  unfolding new_routines new_routine
  mine_new =
      let passed = passed_in (mine g) (main_names g) (args g) my_name in
      more_new (is_new_lem its_own (bound_leads (mine g) _ _ _ (length (main_memory g)) passed (omega (arith, long_new)))
      (own_later (mine g) 0 _ _ _ _)) none_new

  theirs_new : (ds : List Call) → Aside (args g) ds → AllNew (theirs g) (anyone listing) 0 (new_routines listing 0 (main_memory g) (main_names g) ds)
  unfolding new_routines new_routine
  theirs_new _ none_aside = none_new
  theirs_new _ (one_aside {d = d} {cs = ds} h k) =
      let passed = passed_in (theirs g) (main_names g) d.arguments (λ n e. their_name n (h n e)) in
      more_new (is_new_lem tt (bound_leads (theirs g) _ _ _ (length (main_memory g)) passed (omega (arith, long_new)))
      (own_later (theirs g) 0 _ _ _ _))
      (theirs_new ds k)

  -- ── what the start leaves ─────────────────────────────────────────────────────────────────────
  -- The grower's first turn: from memory that shows it new variables.
  pub record Begun (d : Done) : Type 0 where
    pub bound : ℕ
    pub s : Running
    pub b : Turn
    pub shown : lent (args g) s.memory ≡ lent (args g) (main_memory g)
    pub long : length s.memory ≡ floor g
    pub later : NotBefore 1 (due_of_variables s.memory)
    pub turn : in_turn (begin (run listing 0 bound) 1) (child g listing) s ≡ ok b
    pub standing : Standing g listing d.state (part_after g b)
    pub reports : only_of g.field (events_at 0 d.listed) ≡ reports_after g 0 b
    pub now : d.state.now ≡ 0

  module _ (has : Has (its g) listing) where
    all_turns : (before after : List Call) → Apart g.field before after → (bound : ℕ) (s : Running) (y : Turn) → s.memory ≡ main_memory g →
        in_turn (begin (run listing 0 bound) 1) (new_routines listing 0 (main_memory g) (main_names g) (before ++ g.field ∷ after)) s ≡ ok y →
        Children g listing 0 (begin (run listing 0 bound) 1) (child g listing) s.memory y
    all_turns before after apart bound s y m e =
        let new = new_routines listing 0 (main_memory g) (main_names g) in
        let long : length s.memory ≡ floor g = ap length m ∙ long_new in
        let later : NotBefore 1 (due_of_variables s.memory) = rw m (new_later (size g) (routine_at g.model 0).locals 1) in
        let their_turn = begun_alone (theirs g) (anyone listing) 0 listing (λ x i. refl) bound in
        children g listing 0 (begin (run listing 0 bound) 1) (new before) (child g listing) (new after) s y long later
        (λ a h. their_turn (new before) 1 s a (theirs_new before apart.earlier) long later h)
        (λ u b l k h. begun_alone (mine g) (its g) 0 listing has bound (child g listing) 1 u b mine_new l k h)
        (λ u a l k h. their_turn (new after) 1 u a (theirs_new after apart.later) l k h)
        (ap (λ f. in_turn (begin (run listing 0 bound) 1) f s) (sym (new_both listing (main_memory g) (main_names g) before g.field after)) ∙ e)

    begun_from : (before after : List Call) → Apart g.field before after → listing.inputs ≡ g.model.inputs → (d : Done) →
        Starts listing (before ++ g.field ∷ after) (size g) (routine_at g.model 0).locals d → Begun d
    begun_from before after apart inputs d st =
        let forks = st.forks in
        let all = all_turns before after apart forks.bound forks.s forks.y forks.memory forks.turns in
        record {
          bound = forks.bound;
          s = all.s;
          b = all.b;
          shown = all.shown ∙ ap (lent (args g)) forks.memory;
          long = all.long;
          later = all.later;
          turn = all.turn;
          standing = subst (λ z. Standing g listing z (part_after g all.b)) (sym st.leaves.state)
              (standing_after g listing 0 _ _ _ forks.y (main_names g) all st.x forks.rests);
          reports = ap (λ l. only_of g.field (events_at 0 l)) st.leaves.listed ∙
              reports_after_lem g listing 0 _ _ _ forks.y (main_names g) all st.x inputs forks.rests;
          now = ap (λ (z : State). z.now) st.leaves.state;
        }

    pub begun : (before after : List Call) → Apart g.field before after → (allowance : ℕ) (d : Done) → listing.inputs ≡ g.model.inputs →
        instruction_at listing 0 0 ≡ fork (before ++ g.field ∷ after) → instruction_at listing 0 1 ≡ end →
        (routine_at listing 0).kinds ≡ replicate (environment_size listing) by_reference → environment_size listing ≡ size g →
        (routine_at listing 0).locals ≡ (routine_at g.model 0).locals → start listing allowance ≡ ok d → Begun d
    begun before after apart allowance d inputs at_Fork then_ends kinds sized owns e =
        begun_from before after apart inputs d (rw (sized, owns) at (starts listing (before ++ g.field ∷ after) allowance d at_Fork then_ends kinds e))

-- ── two starts ────────────────────────────────────────────────────────────────────────────────────
pub begun_alike : (g : Grower) (listing listing' : Listing) (d d' : Done) → Has (its g) listing → Has (its g) listing' →
    (h : Begun g listing d) (h' : Begun g listing' d') → (part_after g h.b ≡ part_after g h'.b) ×
    (reports_after g 0 h.b ≡ reports_after g 0 h'.b)
unfolding new_routines new_routine
begun_alike g listing listing' d d' has has' h h' =
    let go = run listing 0 h.bound in
    let go' = run listing' 0 h'.bound in
    let same : child g listing' ≡ child g listing = rw (sym (has' g.field.callee its_own) ∙ has g.field.callee its_own) in
    let alike = shown_alike g 0 h.s.memory h'.s.memory h.long (h.shown ∙ sym h'.shown) h.later in
    let begins = begin_twins (mine g) (its g) 0 go go' (run_twins (mine g) (its g) 0 listing listing' has has' h.bound h'.bound) 1 in
    let twins = in_turn-twins (mine g) (its g) 0 (begin go 1) (begin go' 1) begins (child g listing) h.s h'.s (mine_new g listing)
    (omega (arith, h.long)) alike in
    ends_same g 0 _ _ h.b h'.b (rw (h.turn, rw same at h'.turn) at twins)
