-- The outcome on rows against the walk's: when the next is popped, and when a routine ends.
-- Letters as in Place and Held.
use mathlib.Core.Path.{◌≡◌, refl, sym, ap, ap₂, subst, ◌∙◌}
use mathlib.Core.Bool.{Bool, true, false}
use mathlib.Core.List.{List, [], ◌∷◌, ◌++◌}
use Prim.Native.Nat.{ℕ, suc, ◌+◌, ◌-◌, ◌≤◌, ◌<◌}
use native.Mathlib.Omega.{arith}
use native.Mathlib.Decide.{ℕ_discrete}
use lib.Dec.{eqb}
use lib.ListN.{length}
use borrow.Author.Tests.{eqb-true, eqb-false, ne_eqb}
use Rattle.listing.specs.Listing.{Listing, end}
use Rattle.walk.specs.State.{Result, Turn, Variable, ok, stop}
use Rattle.walk.specs.Walk.{instruction_at}
use Rattle.engine_rows.specs.Engine.{RowsRunner, first_place, count_if, RowsResult, end_rows, ends, halts, join_rows, next_ready}
use Rattle.engine_rows.specs.Rows.{Owner, Rows, at_place, free_row, with_children, with_row}
use Rattle.engine_rows.specs.Triggers.{cons_if}
use Rattle.engine_rows.proofs.Place.{Record, Tree, nil, put, erase, ◌⋈◌, Frame, plug, memory_of, Full, full}
use Rattle.engine_rows.proofs.Priority.{Range, range_nil}
use Rattle.engine_rows.proofs.Sorted.{In, here, there, in_cases, Either, this, that}
use Rattle.engine_rows.proofs.Held.{path_of, root_count, row_for, parent_slot, Held, held_nil, with_row-same, with_row-other, path_length}
use Rattle.engine_rows.proofs.Moves.{placed, focus}
use Rattle.engine_rows.proofs.Standing.{Head, head_of, root_count-⋈, held_done, held_join}
use Rattle.engine_rows.proofs.Kept.{slots_of, slots_up, plug_in, in_plug, up_plug, slots_left, slots_right}
use Rattle.engine_rows.proofs.EngineState.{Runs, Idle, nil_nil, slot_small, same_slots}
use Rattle.engine_rows.proofs.Popping.{pop, finished}
use Rattle.engine_rows.proofs.Ending.{runs-E, runs-E-last, runs-E-main, freed}
use Rattle.engine_rows.proofs.Children.{used_below, used-with_row, one}
use Rattle.engine_rows.proofs.Taking.{bool_not, with_row-used, used_ext, used_keep, at_place-used, with_children-used, root_count-over, plug_held}
use Rattle.engine_rows.proofs.Steady.{above_main, above_up, TableFits, Steady, steady_nil, steady_record, steady_head, steady_placed, SteadyHole, steady_hole, steady_node, steady_join, steady_left, steady_right}
pub use Rattle.engine_rows.specs.Reached.{Sound}
use Rattle.engine_rows.specs.Agenda.{running_with}

module _ (listing : Listing) (now : ℕ) (triggers : Owner → List ℕ) (hi : ℕ) (T : TableFits listing) where
  -- the outcome on rows is the walk's: the same stop, or rows that hold the walk's tree with its environment and counts
  pub data AsWalk (whole : Result Turn) : RowsResult → Type 0 where
    stops_alike : {k : ℕ} → whole ≡ stop k → AsWalk whole (halts k)
    ends_alike : {σ : Rows} {environment : List Variable} {j l woken : ℕ} (t : Tree) →
        whole ≡ ok (record { running = running_with environment j l woken; tree = erase t }) →
        Held σ false [] (length environment) t → Range 0 hi t →
        Steady listing (above_main listing) 0 (length environment) t → used_below σ 64 ≡ l → ((s : ℕ) → (σ s).used ≡ true → In s (slots_of t)) →
        AsWalk whole (ends σ environment j l woken)

  -- what is to be shown of an outcome, by the rest of the run: of what the rest gives, of a stop, of an end
  pub record Goal (j : ℕ) (whole : Result Turn) (G : RowsResult → Type 0) (go : RowsRunner) : Type 0 where
    pub deep : (σ : Rows) (environment : List Variable) (q : List ℕ) (l woken : ℕ) (f : Frame) (fs : List Frame) →
        Runs listing now triggers hi σ environment q j l woken f fs whole → Sound listing now triggers hi T σ environment l (plug (f ∷ fs) nil) →
        G (go σ environment q l woken f.self.slot)
    pub stops : {k : ℕ} → whole ≡ stop k → G (halts k)
    pub finishes : {σ : Rows} {environment : List Variable} {l woken : ℕ} → AsWalk whole (ends σ environment j l woken) →
        G (ends σ environment j l woken)

  pub at_slot : (G : RowsResult → Type 0) (go : RowsRunner) (σ : Rows) (environment : List Variable) (q : List ℕ) (l woken a b : ℕ) → a ≡ b →
      G (go σ environment q l woken b) → G (go σ environment q l woken a)
  at_slot G go σ environment q l woken a b e g = rw e g

  -- the fixed facts when the innermost record changes its place
  pub move_in : (f g : Frame) (fs gs : List Frame) → slots_up (g ∷ gs) ≡ slots_up (f ∷ fs) → (s : ℕ) → In s (slots_of (plug (f ∷ fs) nil)) →
      In s (slots_of (plug (g ∷ gs) nil))
  unfolding slots_of
  move_in f g fs gs e s i = go (plug_in (f ∷ fs) nil i)
    where
      go : Either (In s (slots_of nil)) (In s (slots_up (f ∷ fs))) → In s (slots_of (plug (g ∷ gs) nil))
      go (this k) = elim k [ ]
      go (that k) = up_plug (g ∷ gs) nil (rw e k)

  pub placed_slot : (x : Record) (place : ℕ) → (placed x place).slot ≡ x.slot
  unfolding placed
  placed_slot x place = refl

  pub sound_placed : (σ σ' : Rows) (environment : List Variable) (l place : ℕ) (f : Frame) (fs : List Frame) →
      ((s : ℕ) → (σ' s).used ≡ (σ s).used) → Sound listing now triggers hi T σ environment l (plug (f ∷ fs) nil) →
      Sound listing now triggers hi T σ' environment l (plug (focus (placed f.self place) f.done f.todo ∷ fs) nil)
  sound_placed σ σ' environment l place f fs e S =
      record {
        steady = steady_head listing environment f fs nil nil (placed f.self place) S.steady
            (steady_placed listing (above_up listing fs) (length fs) (length (memory_of environment fs)) place f.self
            (steady_record listing environment f fs nil S.steady)) steady_nil;
        used = used_ext σ σ' e 64 ∙ S.used;
        lone = root_count-over (placed f.self place) f fs nil nil ∙ S.lone;
        whole = λ s a. move_in f (focus (placed f.self place) f.done f.todo) fs fs
            (same_slots f (placed f.self place) fs (placed_slot f.self place)) s (S.whole s (sym (e s) ∙ a));
      }

  pub idle_as_walk : {G : RowsResult → Type 0} {go : RowsRunner} (j : ℕ) (whole : Result Turn) → Goal j whole G go →
      (σ : Rows) (environment : List Variable) (q : List ℕ) (l woken : ℕ) (fs : List Frame) (d t : Tree) →
      Idle listing now triggers hi σ environment q j l woken fs d t whole → Sound listing now triggers hi T σ environment l (plug fs (d ⋈ t)) →
      G (next_ready go j σ environment q l woken)
  unfolding next_ready focus placed
  idle_as_walk {G} {go} j whole D σ environment [] l woken fs d t I S =
      D.finishes (ends_alike (plug fs (d ⋈ t)) (finished listing now triggers hi I)
      (plug_held (d ⋈ t) (sym (root_count-⋈ d t)) I.stands.up (held_join I.stands.done (held_done I.stands.todo))) I.range
      S.steady S.used S.whole)
  idle_as_walk {G} {go} j whole D σ environment (s ∷ ss) l woken fs d t I S =
      let P = pop listing now triggers hi s ss refl I in
      let r = at_place (σ s) (first_place (σ s).asleep (σ s).place) in
      let σ' = with_row σ s r in
      let S' : Sound listing now triggers hi T σ environment l (plug (P.before ∷ P.frames) nil) = rw P.tree_is at S in
      at_slot G go σ' environment ss l (count_if (σ s).asleep woken) s P.before.self.slot P.who
      (D.deep σ' environment ss l (count_if (σ s).asleep woken) (focus (placed P.before.self P.place) P.before.done P.before.todo)
      P.frames P.runs
      (sound_placed σ σ' environment l P.place P.before P.frames
      (with_row-used σ s r (at_place-used (σ s) (first_place (σ s).asleep (σ s).place))) S'))

  free_used : (σ : Rows) (s l : ℕ) → s < 64 → (σ s).used ≡ true → used_below σ 64 ≡ l → used_below (with_row σ s free_row) 64 ≡ l - 1
  unfolding one free_row
  free_used σ s l h u e = let d = used-with_row σ s free_row 64 h in let w : one (σ s).used ≡ 1 = ap one u in omega arith

  pub empty : (t : Tree) → root_count t ≡ 0 → t ≡ nil
  unfolding root_count
  empty nil e = refl
  empty (put x k f) e = absurd (omega arith)

  pub filled : (t : Tree) → (root_count t ≡ 0 → ⊥) → Full t
  unfolding root_count
  filled nil e = absurd (e refl)
  filled (put x k f) e = full

  none_left : (x : Record) (d t : Tree) → root_count d + root_count (put x nil t) ≡ 1 → (root_count d ≡ 0) × (root_count t ≡ 0)
  unfolding root_count
  none_left x d t e = (omega arith, omega arith)

  -- whoever is used after an end was in the tree without the one that ended
  without : (σ : Rows) (f : Frame) (fs : List Frame) → ((s : ℕ) → (σ s).used ≡ true → In s (slots_of (plug (f ∷ fs) nil))) → (s : ℕ) →
      (with_row σ f.self.slot free_row s).used ≡ true → In s (slots_of (plug fs (f.done ⋈ f.todo)))
  unfolding slots_of slots_up free_row
  without σ f fs W s a = go (ℕ_discrete s f.self.slot)
    where
      three : Either (In s (slots_of f.todo)) (In s (slots_up fs)) → In s (slots_of (plug fs (f.done ⋈ f.todo)))
      three (this i) = in_plug fs (f.done ⋈ f.todo) (slots_right f.done f.todo i)
      three (that i) = up_plug fs (f.done ⋈ f.todo) i

      two : Either (In s (slots_of f.done)) (In s (slots_of f.todo ++ slots_up fs)) → In s (slots_of (plug fs (f.done ⋈ f.todo)))
      two (this i) = in_plug fs (f.done ⋈ f.todo) (slots_left f.done f.todo i)
      two (that i) = three (in_cases (slots_of f.todo) (slots_up fs) i)

      one' : (s ≡ f.self.slot → ⊥) → In s (f.self.slot ∷ (slots_of f.done ++ (slots_of f.todo ++ slots_up fs))) →
          In s (slots_of (plug fs (f.done ⋈ f.todo)))
      one' n (here e) = absurd (n e)
      one' n (there i) = two (in_cases (slots_of f.done) (slots_of f.todo ++ slots_up fs) i)

      cons_if : (s ≡ f.self.slot → ⊥) → Either (In s (slots_of nil)) (In s (slots_up (f ∷ fs))) → In s (slots_of (plug fs (f.done ⋈ f.todo)))
      cons_if n (this i) = elim i [ ]
      cons_if n (that i) = one' n i

      go : Dec (s ≡ f.self.slot) → In s (slots_of (plug fs (f.done ⋈ f.todo)))
      go (yes e) = bool_not (sym a ∙ ap (λ z. (with_row σ f.self.slot free_row z).used) e ∙
          ap (λ y. y.used) (with_row-same σ f.self.slot free_row))
      go (no n) = cons_if n (plug_in (f ∷ fs) nil (W s (ap (λ y. y.used) (sym (with_row-other σ f.self.slot free_row s n)) ∙ a)))

  pub end_as_walk : {G : RowsResult → Type 0} {go : RowsRunner} (j : ℕ) (whole : Result Turn) → Goal j whole G go →
      (σ : Rows) (environment : List Variable) (q : List ℕ) (l woken : ℕ) (f : Frame) (fs : List Frame) →
      Runs listing now triggers hi σ environment q (suc j) l woken f fs whole → Sound listing now triggers hi T σ environment l (plug (f ∷ fs) nil) →
      instruction_at listing f.self.routine f.self.place ≡ end →
      G (end_rows (eqb (σ f.self.slot).level 0) go j (with_row σ f.self.slot free_row)
      environment q (l - 1) woken (σ f.self.slot).parent)
  unfolding end_rows join_rows row_for path_of parent_slot plug erase focus placed
  end_as_walk {G} {go} j whole D σ environment q l woken f [] R S i =
      let row = (head_of R.held).row in
      let level : (σ f.self.slot).level ≡ 0 = ap (λ y. y.level) row in
      let n : root_count f.done + root_count (put f.self nil f.todo) ≡ 1 = sym (root_count-⋈ f.done (put f.self nil f.todo)) ∙
      S.lone in
      let z : 0 ≤ hi = omega arith in
      rw level (D.finishes (ends_alike nil (runs-E-main listing now triggers hi σ environment q j l woken f whole R i
      (empty f.done (none_left f.self f.done f.todo n).0) (empty f.todo (none_left f.self f.done f.todo n).1))
      held_nil (range_nil z) steady_nil (free_used σ f.self.slot l (slot_small 0 hi [] f.done f.self nil f.todo R.range)
      (ap (λ y. y.used) row) S.used) (λ s a. subst (λ z. In s (slots_of z))
      (ap₂ ◌⋈◌ (empty f.done (none_left f.self f.done f.todo n).0) (empty f.todo (none_left f.self f.done f.todo n).1) ∙
      nil_nil) (without σ f [] S.whole s a))))
  end_as_walk {G} {go} j whole D σ environment q l woken f (g ∷ gs) R S i =
      subst (λ b. G (end_rows b go j σ₁ environment q (l - 1) woken (σ me).parent)) (sym not_main)
      (subst (λ b. G (end_rows false go j σ₁ environment q (l - 1) woken b)) (sym (ap (λ y. y.parent) row))
      (by_count (eqb (σ₁ p).children 1) refl))
    where
      me : ℕ
      me = f.self.slot

      p : ℕ
      p = g.self.slot

      σ₁ : Rows
      σ₁ = with_row σ me free_row

      W : Tree
      W = f.done ⋈ put f.self nil f.todo

      row : σ me ≡ row_for false (path_of environment (g ∷ gs)) (length (memory_of environment (g ∷ gs))) 0 f.self
      row = (head_of R.held).row

      level : (σ me).level ≡ suc (length gs)
      level = ap (λ y. y.level) row ∙ ap suc (path_length environment gs)

      not_main : eqb (σ me).level 0 ≡ false
      not_main = ne_eqb (σ me).level 0 (λ z. omega (arith, level))

      H : Head σ₁ environment (root_count f.done + suc (root_count f.todo)) g gs
      H = head_of (freed listing now triggers hi σ environment q j l woken f whole (g ∷ gs) R).up

      children : (σ₁ p).children ≡ root_count f.done + suc (root_count f.todo)
      children = ap (λ y. y.children) H.row

      place : (σ₁ p).place ≡ g.self.place
      place = ap (λ y. y.place) H.row

      used₁ : used_below σ₁ 64 ≡ l - 1
      used₁ = free_used σ me l (slot_small 0 hi (g ∷ gs) f.done f.self nil f.todo R.range) (ap (λ y. y.used) row) S.used

      o : SteadyHole listing environment (g ∷ gs) W
      o = steady_hole listing environment (g ∷ gs) W S.steady

      by_count : (b : Bool) → eqb (σ₁ p).children 1 ≡ b → G (join_rows b go j σ₁ environment q (l - 1) woken p)
      by_count true e =
          let k : (σ₁ p).children ≡ 1 = eqb-true (σ₁ p).children 1 e in
          let d : f.done ≡ nil = empty f.done (omega (arith, children)) in
          let t : f.todo ≡ nil = empty f.todo (omega (arith, children)) in
          subst (λ z. G (go (with_row σ₁ p (at_place (with_children (σ₁ p) 0) (suc z))) environment q (l - 1)
          woken p)) (sym place) (D.deep (with_row σ₁ p (at_place (with_children (σ₁ p) 0) (suc g.self.place))) environment q (l - 1) woken
          (focus (placed g.self (suc g.self.place)) g.done g.todo) gs
          (runs-E-last listing now triggers hi σ environment q j l woken f whole g gs R i d t)
          (record {
            steady = steady_head listing environment g gs W nil (placed g.self (suc g.self.place)) S.steady
                (steady_placed listing (above_up listing gs) (length gs) (length (memory_of environment gs)) (suc g.self.place) g.self
                (steady_record listing environment g gs W S.steady)) steady_nil;
            used = used_keep σ₁ p (at_place (with_children (σ₁ p) 0) (suc g.self.place)) 64
                (at_place-used (with_children (σ₁ p) 0) (suc g.self.place) ∙ with_children-used (σ₁ p) 0) ∙ used₁;
            lone = root_count-over (placed g.self (suc g.self.place)) g gs nil W ∙ S.lone;
            whole = λ s a. move_in g (focus (placed g.self (suc g.self.place)) g.done g.todo) gs gs
                (same_slots g (placed g.self (suc g.self.place)) gs (placed_slot g.self (suc g.self.place))) s
                (subst (λ z. In s (slots_of (plug (g ∷ gs) z))) (ap₂ ◌⋈◌ d t ∙
                nil_nil) (without σ f (g ∷ gs) S.whole s (sym (with_row-used σ₁ p (at_place (with_children (σ₁ p) 0) (suc g.self.place))
                (at_place-used (with_children (σ₁ p) 0) (suc g.self.place) ∙ with_children-used (σ₁ p) 0) s) ∙ a)));
          }))
      by_count false e =
          let k : (σ₁ p).children ≡ 1 → ⊥ = eqb-false (σ₁ p).children 1 e in
          idle_as_walk j whole D _ environment q (l - 1) woken (g ∷ gs) f.done f.todo
          (runs-E listing now triggers hi σ environment q j l woken f whole g gs R i
          (filled (f.done ⋈ f.todo) (λ z. k (omega (arith, children, root_count-⋈ f.done f.todo)))))
          (record {
            steady = o.again (f.done ⋈ f.todo) (steady_join listing (steady_left listing f.done (put f.self nil f.todo) o.inside)
                (steady_node listing (steady_right listing f.done (put f.self nil f.todo) o.inside)).siblings);
            used = used_keep σ₁ p (with_children (σ₁ p) ((σ₁ p).children - 1)) 64 (with_children-used (σ₁ p) ((σ₁ p).children - 1)) ∙ used₁;
            lone = root_count-over g.self g gs (f.done ⋈ f.todo) W ∙ S.lone;
            whole = λ s a. without σ f (g ∷ gs) S.whole s (sym
                (with_row-used σ₁ p (with_children (σ₁ p) ((σ₁ p).children - 1)) (with_children-used (σ₁ p) ((σ₁ p).children - 1)) s) ∙ a);
          })
