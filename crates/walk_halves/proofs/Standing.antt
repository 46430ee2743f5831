-- A whole state and the grower's part of it. Main either has ended or stands at its `F` over its live children; after the children
-- have had their turns main sleeps again, or ends if none is left, and the part stands in the state that the instant leaves.
-- Letters: g the grower, listing the run's own; names main's names, own its variables; t the moment; y the turn of all children,
-- b the grower's, x main's.
use mathlib.Core.Path.{◌≡◌, refl, sym, ap, ◌∙◌}
use mathlib.Core.List.{List, ◌++◌}
use Prim.Native.Nat.{ℕ, zero, suc, ◌+◌}
use native.Mathlib.Omega.{arith}
use lib.ListN.{length, take, drop, length-drop, take-append-drop}
use lib.Seq.{length-take-le, take_all, take-append-le}
use Rattle.listing.specs.Listing.{Listing, end}
use Rattle.walk.specs.State.{Variable, Node, node, Forest, empty, more, ◌⊕◌, State, Running, Turn, Result, ok, with_left, frame}
use Rattle.walk.specs.Walk.{instruction_at, sleep, leave, join, move, carry_out, execute, step, run}
use Rattle.walk.specs.Instant.{unmarked, unmarked_forest, due_of_variables, written_from, written_outputs}
use Rattle.walk.specs.Events.{events_at}
use Rattle.walk_halves.specs.Halves.{only_of}
use Rattle.walk_laws.proofs.AtRest.{length_unmarked}
use Rattle.walk_laws.proofs.Results.{stop_is_not_ok}
use Rattle.walk_halves.proofs.Due.{NotBefore, both_not_before, take_not_before, unmarking_keeps_due, unmarking_keeps_due_of_forest, unmarked_twice, unmarked_forest_twice, unmarked_both}
use Rattle.walk_halves.proofs.Twin.{AllAsleep}
use Rattle.walk_halves.proofs.Quiet.{unmarking_keeps_asleep}
use Rattle.walk_halves.proofs.Inputs.{unmarked_append, unmarked_take}
use Rattle.walk_halves.proofs.Lent.{lent, take_lent, unmarked_lent, later_lent, reports_lent, only_events}
use Rattle.walk_halves.proofs.Turns.{ok_same}
use Rattle.walk_halves.proofs.Part.{Grower, args, size, floor, mine, its, Part, next_of, MineAsleep, trim, take_trim, part_after, reports_after}
use Rattle.walk_halves.proofs.Children.{theirs, anyone, MyTurn, Children}

-- ── main's own turn: it sleeps over its children, or ends ─────────────────────────────────────────
unfoldable pub main_over : List ℕ → Forest → List Variable → Forest
main_over names empty own = empty
main_over names (more n f) own = more (node 0 0 names own (more n f)) empty

pub record MainRests (names : List ℕ) (base : ℕ) (y x : Turn) : Type 0 where
  pub memory : x.running.memory ≡ take base y.running.memory
  pub tree : x.tree ≡ main_over names y.tree (drop base y.running.memory)

module _ (listing : Listing) (t : ℕ) (names : List ℕ) (base : ℕ) (then_ends : instruction_at listing 0 1 ≡ end) where
  last_step : (bound : ℕ) (s : Running) (x : Turn) (left : ℕ) →
      step (λ (u : Running). execute listing t (run listing t bound) (instruction_at listing 0 1) (frame 0 0 1 names base) u) left s ≡ ok x →
      MainRests names base (record { running = s; tree = empty }) x
  unfolding step leave execute move carry_out main_over
  last_step bound s x zero e = stop_is_not_ok e
  last_step bound s x (suc left) e =
      let u : Running = with_left s left in
      let leaves : leave (frame 0 0 1 names base) u ≡ ok x = rw then_ends at e in
      let same = ok_same _ x leaves in
      record { memory = sym (ap (λ (a : Turn). a.running.memory) same); tree = sym (ap (λ (a : Turn). a.tree) same) }

  main_ends : (bound : ℕ) (s : Running) (x : Turn) → run listing t bound (frame 0 0 1 names base) s ≡ ok x →
      MainRests names base (record { running = s; tree = empty }) x
  unfolding run
  main_ends zero s x e = stop_is_not_ok e
  main_ends (suc bound) s x e = last_step bound s x s.left e

  main_joins : (bound : ℕ) (f : Forest) (s : Running) (x : Turn) → join (run listing t bound) (frame 0 0 0 names base) f s ≡ ok x →
      MainRests names base (record { running = s; tree = f }) x
  unfolding join sleep main_over
  main_joins bound empty s x e = main_ends bound s x e
  main_joins bound (more n f) s x e =
      let same = ok_same _ x e in record { memory = sym (ap (λ (a : Turn). a.running.memory) same); tree = sym (ap (λ (a : Turn). a.tree) same) }

  pub main_rests : (bound : ℕ) (y x : Turn) → join (run listing t bound) (frame 0 0 0 names base) y.tree y.running ≡ ok x → MainRests names base y x
  main_rests bound y x e = main_joins bound y.tree y.running x e

-- ── the part in its state ─────────────────────────────────────────────────────────────────────────
module _ (g : Grower) (listing : Listing) where
  pub data Place (environment : List Variable) (tree : Forest) (p : Part) : Type 0 where
    main_ended : tree ≡ empty → p.tree ≡ empty → p.variables ≡ lent (args g) environment → Place environment tree p
    main_lives : (names : List ℕ) (own : List Variable) (f₁ f₂ : Forest) → tree ≡ more (node 0 0 names own (f₁ ⊕ (p.tree ⊕ f₂))) empty →
        size g + length own ≡ floor g → AllAsleep (theirs g) (anyone listing) f₁ → AllAsleep (theirs g) (anyone listing) f₂ →
        p.variables ≡ trim g p.tree (lent (args g) (environment ++ own)) → Place environment tree p

  pub record Standing (s : State) (p : Part) : Type 0 where
    pub sized : length s.environment ≡ size g
    pub asleep : MineAsleep g p.tree
    pub unmarked_variables : unmarked p.variables ≡ p.variables
    pub unmarked_tree : unmarked_forest p.tree ≡ p.tree
    pub later : NotBefore (suc s.now) (next_of p)
    pub place : Place s.environment s.tree p

  -- ── what trimming does ────────────────────────────────────────────────────────────────────────
  unmarked_trim : (f : Forest) (m : List Variable) → unmarked (trim g f m) ≡ trim g (unmarked_forest f) (unmarked m)
  unfolding trim unmarked_forest
  unmarked_trim empty m = sym (unmarked_take (size g) m)
  unmarked_trim (more n f) m = refl

  pub trim_not_before : (t : ℕ) (f : Forest) (m : List Variable) → NotBefore t (due_of_variables m) → NotBefore t (due_of_variables (trim g f m))
  unfolding trim
  trim_not_before t empty m h = take_not_before t (size g) m h
  trim_not_before t (more n f) m h = h

  pub trim_ended : (f : Forest) (m : List Variable) → f ≡ empty → trim g f m ≡ take (size g) m
  unfolding trim
  trim_ended f m e = rw e

  -- The environment's variables, as far as they are lent to the grower, are those of its part.
  pub part_shows : (s : State) (p : Part) → Standing s p → take (size g) p.variables ≡ lent (args g) s.environment
  part_shows s p st = go st.place
    where
      whole : take (size g) s.environment ≡ s.environment
      whole = take_all (size g) s.environment (omega (arith, st.sized))

      go : Place s.environment s.tree p → take (size g) p.variables ≡ lent (args g) s.environment
      go (main_ended e f v) = ap (take (size g)) v ∙ take_lent (args g) (size g) s.environment ∙ ap (lent (args g)) whole
      go (main_lives names own f₁ f₂ e l a b v) =
          ap (take (size g)) v ∙ take_trim g p.tree (lent (args g) (s.environment ++ own)) ∙ take_lent (args g) (size g) (s.environment ++ own) ∙
          ap (lent (args g)) (take-append-le (size g) s.environment own (omega (arith, st.sized)) ∙ whole)

  -- ── after the children's turns ────────────────────────────────────────────────────────────────
  beside_empty : (f h : Forest) → f ⊕ h ≡ empty → (f ≡ empty) × (h ≡ empty)
  unfolding ◌⊕◌
  beside_empty empty h e = (refl, e)
  beside_empty (more n f) h e = let z : ◌≡◌ {A = ℕ} 0 1 = cc in absurd (omega arith)

  after_later : (t : ℕ) (s : Running) (b : Turn) → MyTurn g listing t s b → NotBefore (suc t) (next_of (part_after g b))
  unfolding next_of part_after
  after_later t s b h =
      both_not_before (suc t) _ _
      (rw (unmarking_keeps_due (trim g b.tree (lent (args g) b.running.memory)))
      (trim_not_before (suc t) b.tree _ (later_lent (args g) (suc t) b.running.memory h.later)))
      (rw (unmarking_keeps_due_of_forest b.tree) h.later_tree)

  module _ (t : ℕ) (go : Node → Running → Result Turn) (f : Forest) (m : List Variable) (y : Turn) (names : List ℕ)
      (all : Children g listing t go f m y) where
    abbrev last : List Variable
    last = y.running.memory

    abbrev my_tree : Forest
    my_tree = all.b.tree

    part_last : trim g (unmarked_forest my_tree) (unmarked (lent (args g) last)) ≡ (part_after g all.b).variables
    unfolding part_after
    part_last = ap (λ l. trim g (unmarked_forest my_tree) (unmarked l)) all.end_shown ∙ sym (unmarked_trim my_tree _)

    place_after : (h : Forest) → y.tree ≡ h → Place (unmarked (take (size g) last)) (unmarked_forest (main_over names h (drop (size g) last)))
        (part_after g all.b)
    unfolding main_over unmarked_forest part_after
    place_after empty e =
        let gone = (beside_empty my_tree all.f₂ (beside_empty all.f₁ _ (sym all.tree ∙ e)).1).0 in
        let no-tree : unmarked_forest my_tree ≡ empty = ap unmarked_forest gone in
        main_ended refl no-tree
        (sym part_last ∙ trim_ended _ _ no-tree ∙ unmarked_take (size g) _ ∙ ap unmarked (take_lent (args g) (size g) last) ∙
        sym (unmarked_lent (args g) (take (size g) last)))
    place_after (more n h) e =
        let own = unmarked (drop (size g) last) in
        let beside : unmarked_forest (more n h) ≡ unmarked_forest all.f₁ ⊕ (unmarked_forest my_tree ⊕ unmarked_forest all.f₂) =
        ap unmarked_forest (sym e ∙ all.tree) ∙ unmarked_both all.f₁ _ ∙
        ap (λ k. unmarked_forest all.f₁ ⊕ k) (unmarked_both my_tree all.f₂) in
        let whole : lent (args g) (unmarked (take (size g) last) ++ own) ≡ unmarked (lent (args g) last) =
        ap (lent (args g)) (sym (unmarked_append (take (size g) last) (drop (size g) last)) ∙ ap unmarked (take-append-drop (size g) last)) ∙
        unmarked_lent (args g) last in
        main_lives names own (unmarked_forest all.f₁) (unmarked_forest all.f₂) (ap (λ k. more (node 0 0 names own k) empty) beside)
        (omega (arith, length_unmarked (drop (size g) last), length-drop (size g) last, all.end_long))
        (unmarking_keeps_asleep (theirs g) (anyone listing) all.f₁ all.before)
        (unmarking_keeps_asleep (theirs g) (anyone listing) all.f₂ all.after)
        (sym part_last ∙ ap (trim g (unmarked_forest my_tree)) (sym whole))

    pub standing_after : (x : Turn) → MainRests names (size g) y x →
        Standing (record { now = t; environment = unmarked x.running.memory; tree = unmarked_forest x.tree }) (part_after g all.b)
    standing_after x r = record {
      sized = length_unmarked _ ∙ ap length r.memory ∙ length-take-le (size g) last (omega (arith, all.end_long));
      asleep = unfold part_after in unmarking_keeps_asleep (mine g) (its g) my_tree all.my_turn.asleep;
      unmarked_variables = unfold part_after in unmarked_twice _;
      unmarked_tree = unfold part_after in unmarked_forest_twice my_tree;
      later = after_later t all.s all.b all.my_turn;
      place = rw (r.memory, r.tree) (place_after y.tree refl);
    }

    pub reports_after_lem : (x : Turn) → listing.inputs ≡ g.model.inputs → MainRests names (size g) y x →
        only_of g.field (events_at t (written_outputs listing x.running.memory)) ≡ reports_after g t all.b
    unfolding written_outputs reports_after
    reports_after_lem x inputs r =
        let shown = ap (lent (args g)) r.memory ∙ sym (take_lent (args g) (size g) last) ∙ ap (take (size g)) all.end_shown in
        only_events g.field t _ ∙ ap (events_at t) (rw inputs (reports_lent (args g) g.model.inputs x.running.memory ∙
        ap (λ l. written_from g.model.inputs (drop g.model.inputs l)) shown))
