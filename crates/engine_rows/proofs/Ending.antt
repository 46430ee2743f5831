-- An end frees a slot; the last child's end lets the parent go on.
-- Letters as in Place and Held.
use mathlib.Core.Path.{◌≡◌, refl, sym, ap, ap₂, ◌∙◌}
use mathlib.Core.Bool.{true, false}
use mathlib.Core.List.{List, [], ◌∷◌, ◌++◌}
use Prim.Native.Nat.{ℕ, suc, ◌+◌, ◌-◌}
use native.Mathlib.Omega.{arith}
use lib.ListN.{length}
use Rattle.listing.specs.Listing.{Listing, end, less}
use Rattle.walk.specs.Memory.{operate}
use Rattle.walk.specs.State.{Result, Turn, Variable, empty, ok}
use Rattle.walk.specs.Walk.{instruction_at}
use Rattle.engine_rows.specs.Rows.{Owner, Row, Rows, at_place, free_row, with_children, with_row}
use Rattle.engine_rows.specs.Agenda.{running_with}
use Rattle.engine_rows.proofs.Place.{nil, put, erase, ◌⋈◌, Frame, plug, memory_of, tasks, up, dones, ready, ready_up, between, Paused, under, Full}
use Rattle.engine_rows.proofs.Agenda.{rest}
use Rattle.engine_rows.proofs.Priority.{Range, range_low, range_join, Split, range_split, parts}
use Rattle.engine_rows.proofs.Sorted.{In, here, there, in_cases, Either, this, that, slots_in}
use Rattle.engine_rows.proofs.Held.{Entry, path_of, root_count, row_for, with_row-other, held_keep, path_length, Hole, hole}
use Rattle.engine_rows.proofs.Moves.{placed, focus, move-E, joined}
use Rattle.engine_rows.proofs.Kept.{Freed, head_free, head_change, Calmer, calmer-with_row, calmer_then, triggers_calm, slots_of, slots_up, plug_in, in_plug, up_plug, Known, slots_left, slots_right}
use Rattle.engine_rows.proofs.Standing.{Head, head_of}
use Rattle.engine_rows.proofs.EngineState.{known_same, at_place-asleep, range_placed, with_children-of, nil_nil, same_slots, at_place-of, row_asleep, free_asleep, row_children, row_level, bool_not, Idle, row_low, Runs}

module _ (listing : Listing) (now : ℕ) (triggers : Owner → List ℕ) (hi : ℕ) where
  -- ── an end ────────────────────────────────────────────────────────────────────────────────────
  at_end_lem : (environment : List Variable) (j l woken : ℕ) →
      between listing now environment j l woken [] nil nil ≡ ok
      (record { running = running_with environment j l woken; tree = empty })
  unfolding between tasks up rest memory_of erase dones
  at_end_lem environment j l woken = refl

  module _ (σ : Rows) (environment : List Variable) (q : List ℕ) (j l woken : ℕ) (f : Frame) (whole : Result Turn) where
    -- the tree without the one that ends
    range-E : (fs : List Frame) → Range 0 hi (plug (f ∷ fs) nil) → Range 0 hi (plug fs (f.done ⋈ f.todo))
    unfolding plug
    range-E fs r =
        let o = hole 0 hi fs (f.done ⋈ put f.self nil f.todo) r in
        let s = range_split f.done (put f.self nil f.todo) o.inside in
        let p = parts s.right in
        o.again _ (range_join s.left (range_low s.mid (omega (arith, p.lowest)) p.siblings))

    known-E : (fs : List Frame) {σ' : Rows} → Calmer σ σ' → (σ f.self.slot).asleep ≡ false → Known σ (plug (f ∷ fs) nil) →
        Known σ' (plug fs (f.done ⋈ f.todo))
    unfolding slots_of slots_up
    known-E fs c z k = record { all = λ s a. let b = (c.was s a).asleep in go s b (plug_in (f ∷ fs) nil (k.all s b)) }
      where
        three : (s : ℕ) → Either (In s (slots_of f.todo)) (In s (slots_up fs)) → In s (slots_of (plug fs (f.done ⋈ f.todo)))
        three s (this i) = in_plug fs (f.done ⋈ f.todo) (slots_right f.done f.todo i)
        three s (that i) = up_plug fs (f.done ⋈ f.todo) i

        operate : (s : ℕ) → Either (In s (slots_of f.done)) (In s (slots_of f.todo ++ slots_up fs)) → In s (slots_of (plug fs (f.done ⋈ f.todo)))
        operate s (this i) = in_plug fs (f.done ⋈ f.todo) (slots_left f.done f.todo i)
        operate s (that i) = three s (in_cases (slots_of f.todo) (slots_up fs) i)

        one : (s : ℕ) → (σ s).asleep ≡ true → In s (f.self.slot ∷ (slots_of f.done ++ (slots_of f.todo ++ slots_up fs))) →
            In s (slots_of (plug fs (f.done ⋈ f.todo)))
        one s a (here e) = bool_not (sym a ∙ ap (λ y. (σ y).asleep) e ∙ z)
        one s a (there i) = operate s (in_cases (slots_of f.done) (slots_of f.todo ++ slots_up fs) i)

        go : (s : ℕ) → (σ s).asleep ≡ true → Either (In s (slots_of nil)) (In s (slots_up (f ∷ fs))) → In s (slots_of (plug fs (f.done ⋈ f.todo)))
        go s a (this i) = elim i [ ]
        go s a (that i) = one s a i

    abbrev rows-E : Rows
    rows-E = with_row σ f.self.slot free_row

    pub freed : (fs : List Frame) → Runs listing now triggers hi σ environment q (suc j) l woken f fs whole → Freed rows-E environment f fs
    freed fs R =
        let H = head_of R.held in
        head_free 0 hi nil f fs free_row R.range (ap (λ y. y.level) H.row ∙
        row_level false (path_of environment fs) (length (memory_of environment fs)) 0 f.self) (ap (λ y. y.low) H.row ∙
        row_low false (path_of environment fs) (length (memory_of environment fs)) 0 f.self) H.done H.todo H.up

    calm-E : Calmer σ rows-E
    calm-E = calmer-with_row σ f.self.slot free_row free_asleep

    mine : (fs : List Frame) → Runs listing now triggers hi σ environment q (suc j) l woken f fs whole → (σ f.self.slot).asleep ≡ false
    mine fs R = ap (λ y. y.asleep) (head_of R.held).row ∙ row_asleep false (path_of environment fs) (length (memory_of environment fs)) 0 f.self

    -- main has ended
    pub runs-E-main : Runs listing now triggers hi σ environment q (suc j) l woken f [] whole →
        instruction_at listing f.self.routine f.self.place ≡ end → f.done ≡ nil → f.todo ≡ nil →
        whole ≡ ok (record { running = running_with environment j (l - 1) woken; tree = empty })
    runs-E-main R i d t = R.same ∙ move-E listing now environment j l woken f [] i ∙ ap₂ (between listing now environment j (l - 1) woken []) d t ∙
        at_end_lem environment j (l - 1) woken

    -- siblings live: the parent counts one less
    pub runs-E : (g : Frame) (gs : List Frame) → Runs listing now triggers hi σ environment q (suc j) l woken f (g ∷ gs) whole →
        instruction_at listing f.self.routine f.self.place ≡ end → Full (f.done ⋈ f.todo) →
        Idle listing now triggers hi (with_row rows-E g.self.slot
        (with_children (rows-E g.self.slot) ((rows-E g.self.slot).children - 1))) environment q j (l - 1) woken (g ∷ gs) f.done
        f.todo whole
    unfolding plug ready_up focus
    runs-E g gs R i w =
        record {
          stands = record {
            up = head_change 0 hi (f.done ⋈ put f.self nil f.todo) row (root_count f.done + root_count f.todo) g.self refl row_is
                R.range F.up;
            done = held_keep σ₂ F.done s.left (λ x us below a b. with_row-other rows-E g.self.slot row x (λ p. omega (
              arith,
              level,
              path_length environment (g ∷ gs),
              path_length environment gs,
              ap (λ z. (rows-E z).level) p,
            )));
            todo = held_keep σ₂ F.todo (parts s.right).siblings
                (λ x us below a b. with_row-other rows-E g.self.slot row x (λ p. omega (
                  arith,
                  level,
                  path_length environment (g ∷ gs),
                  path_length environment gs,
                  ap (λ z. (rows-E z).level) p,
                )));
          };
          range = range-E (g ∷ gs) R.range;
          queue = R.queue;
          lists_right = triggers_calm listing calm R.lists_right;
          known = known-E (g ∷ gs) calm (mine (g ∷ gs) R) R.known;
          rests = R.rests;
          paused = R.paused;
          living = w;
          same = R.same ∙ move-E listing now environment j l woken f (g ∷ gs) i;
        }
      where
        F : Freed rows-E environment f (g ∷ gs)
        F = freed (g ∷ gs) R

        H : Head rows-E environment (root_count f.done + suc (root_count f.todo)) g gs
        H = head_of F.up

        row : Row
        row = with_children (rows-E g.self.slot) ((rows-E g.self.slot).children - 1)

        σ₂ : Rows
        σ₂ = with_row rows-E g.self.slot row

        P : List Entry
        P = path_of environment gs

        b : ℕ
        b = length (memory_of environment gs)

        less : (row_for false P b (root_count f.done + suc (root_count f.todo)) g.self).children - 1 ≡ root_count f.done + root_count
            f.todo
        less = omega (arith, row_children false P b (root_count f.done + suc (root_count f.todo)) g.self)

        row_is : row ≡ row_for false P b (root_count f.done + root_count f.todo) g.self
        row_is = ap (λ y. with_children y (y.children - 1)) H.row ∙
            with_children-of false P b (root_count f.done + suc (root_count f.todo)) _ g.self ∙ ap (λ n. row_for false P b n g.self) less

        level : (rows-E g.self.slot).level ≡ length P
        level = ap (λ y. y.level) H.row ∙ row_level false P b (root_count f.done + suc (root_count f.todo)) g.self

        calm : Calmer σ σ₂
        calm = calmer_then calm-E (calmer-with_row rows-E g.self.slot row (ap (λ y. y.asleep) row_is ∙
            row_asleep false P b (root_count f.done + root_count f.todo) g.self))

        o : Hole 0 hi (g ∷ gs) (f.done ⋈ put f.self nil f.todo)
        o = hole 0 hi (g ∷ gs) (f.done ⋈ put f.self nil f.todo) R.range

        s : Split o.from o.upto f.done (put f.self nil f.todo)
        s = range_split f.done (put f.self nil f.todo) o.inside

    -- the last child: the parent goes on at once
    pub runs-E-last : (g : Frame) (gs : List Frame) → Runs listing now triggers hi σ environment q (suc j) l woken f (g ∷ gs) whole →
        instruction_at listing f.self.routine f.self.place ≡ end → f.done ≡ nil → f.todo ≡ nil →
        Runs listing now triggers hi (with_row rows-E g.self.slot (at_place (with_children (rows-E g.self.slot) 0) (suc g.self.place)))
        environment q j (l - 1) woken (focus (placed g.self (suc g.self.place)) g.done g.todo) gs whole
    unfolding plug ready_up ready focus placed
    runs-E-last g gs R i d t = go R.paused
      where
        F : Freed rows-E environment f (g ∷ gs)
        F = freed (g ∷ gs) R

        H : Head rows-E environment (root_count f.done + suc (root_count f.todo)) g gs
        H = head_of F.up

        row : Row
        row = at_place (with_children (rows-E g.self.slot) 0) (suc g.self.place)

        σ₂ : Rows
        σ₂ = with_row rows-E g.self.slot row

        P : List Entry
        P = path_of environment gs

        b : ℕ
        b = length (memory_of environment gs)

        row_is : row ≡ row_for false P b 0 (placed g.self (suc g.self.place))
        row_is = ap (λ y. at_place (with_children y 0) (suc g.self.place)) H.row ∙
            ap (λ y. at_place y (suc g.self.place)) (with_children-of false P b (root_count f.done + suc (root_count f.todo)) 0 g.self) ∙
            at_place-of false P b 0 g.self (suc g.self.place)

        calm : Calmer σ σ₂
        calm = calmer_then calm-E (calmer-with_row rows-E g.self.slot row
            (at_place-asleep (with_children (rows-E g.self.slot) 0) (suc g.self.place)))

        empty : f.done ⋈ f.todo ≡ nil
        empty = ap₂ ◌⋈◌ d t ∙ nil_nil

        r : Range 0 hi (plug (g ∷ gs) nil)
        r = rw empty at (range-E (g ∷ gs) R.range)

        K : Known σ₂ (plug (g ∷ gs) nil)
        K = rw empty at (known-E (g ∷ gs) calm (mine (g ∷ gs) R) R.known)

        go : Paused listing (g ∷ gs) → Runs listing now triggers hi σ₂ environment q j (l - 1) woken
            (focus (placed g.self (suc g.self.place)) g.done g.todo) gs whole
        go (under {cs = cs} y z rs p) =
            record {
              held = head_change 0 hi (f.done ⋈ put f.self nil f.todo) row 0 (placed g.self (suc g.self.place)) placed_slot row_is
                  R.range F.up;
              range = range_placed 0 hi g gs (suc g.self.place) r;
              queue = R.queue ∙ ap slots_in (ap (λ z. ready listing (memory_of environment (g ∷ gs)) z ++ ready_up listing environment (g ∷ gs)) t ∙
                  ready_nil (memory_of environment (g ∷ gs)));
              lists_right = triggers_calm listing calm R.lists_right;
              known = known_same σ₂ g (focus (placed g.self (suc g.self.place)) g.done g.todo) gs
                  (same_slots g (placed g.self (suc g.self.place)) gs placed_slot) K;
              rests = rs;
              paused = p;
              begun = placed_born;
              same = R.same ∙ move-E listing now environment j l woken f (g ∷ gs) i ∙
                  ap₂ (between listing now environment j (l - 1) woken (g ∷ gs)) d t ∙ joined listing now environment j (l - 1) woken g gs cs z;
            }
          where
            placed_slot : (placed g.self (suc g.self.place)).slot ≡ g.self.slot
            placed_slot = refl

            placed_born : (placed g.self (suc g.self.place)).is_new ≡ false
            placed_born = refl

            ready_nil : (m : List Variable) → ready listing m nil ++ ready_up listing environment (g ∷ gs) ≡ ready listing (memory_of environment gs)
                g.todo ++ ready_up listing environment gs
            ready_nil m = refl
