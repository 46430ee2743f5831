-- One instruction of a run: if the rest of the run on rows ends as the walk ends, so does the run from here.
-- Letters as in Place and Held.
use mathlib.Core.Path.{◌≡◌, refl, sym, ap, subst, ◌∙◌}
use mathlib.Core.Bool.{Bool, true, false}
use mathlib.Core.List.{List, ◌∷◌, ◌++◌}
use mathlib.Core.Option.{Option, none, some}
use Prim.Native.Nat.{ℕ, suc, ◌+◌, ◌*◌, ◌-◌, ◌^◌, ◌≤◌, ◌<◌}
use native.Mathlib.Omega.{arith}
use lib.Dec.{ltb, eqb, leb}
use lib.ListN.{length, set, length-append, length-set}
use borrow.Author.Tests.{leb-true}
use Rattle.words.specs.Words.{is_positive}
use Rattle.listing.specs.Listing.{Call, Instruction, Listing, Piece, assign, branch, end, fork, jump, schedule, wait}
use Rattle.walk.specs.Memory.{address_of, evaluate, variable_at, evaluate_by}
use Rattle.walk.specs.State.{Result, Turn, Variable, written_to, scheduled_on}
use Rattle.walk.specs.Walk.{child_count, instruction_at, branch_place}
use Rattle.engine_rows.specs.Engine.{RowsRunner, caller_at, RowsResult, end_rows, execute_rows, fork_rows, new_slots, next_ready, or_halt, value_or_halt}
use Rattle.engine_rows.specs.Ready.{insert_all_lem}
use Rattle.engine_rows.specs.Rows.{Owner, Rows, at_place, environment_with, free_row, named, owner_of, rows_with, variable_of, with_children, with_row}
use Rattle.engine_rows.specs.Triggers.{triggered}
use Rattle.engine_rows.proofs.Place.{Tree, nil, put, ◌⋈◌, Frame, plug, memory_of}
use Rattle.engine_rows.proofs.Priority.{new_children, fork_fits}
use Rattle.engine_rows.proofs.Sorted.{In, Either, this, that}
use Rattle.engine_rows.proofs.Writing.{set_up, record_with_own, set_from}
use Rattle.engine_rows.proofs.Held.{Entry, owners_at, path_of, root_count, row_for, parent_slot, HeldUp, with_row-same, path_length, up_keep, hole, hole_in}
use Rattle.engine_rows.proofs.Moves.{placed, focus, stop_14, stop_15, stop_16, stop_17, stop_18-S, stop_18-U, stop_18_delay, stop_18-A}
use Rattle.engine_rows.proofs.Standing.{head_of}
use Rattle.engine_rows.proofs.Kept.{slots_of, slots_up, plug_in, in_plug, up_plug, head_change}
use Rattle.engine_rows.proofs.EngineState.{Runs, one_more, slots_set}
use Rattle.engine_rows.proofs.Stepping.{runs-G, runs-S, runs-W}
use Rattle.engine_rows.proofs.Reading.{read_bound}
use Rattle.engine_rows.proofs.Forking.{allocated, allocated_used, FreeFor, root_slots, runs-F}
use Rattle.engine_rows.proofs.Delaying.{runs-U, runs-A, evaluates}
use Rattle.engine_rows.proofs.Children.{caller_on, used_below}
use Rattle.engine_rows.proofs.Taking.{with_row-used, used_keep, owner_used, at_place-used, with_children-used, root_count-over, root_count-set, length-environment_with, Keeps, Taken, taken}
use Rattle.engine_rows.proofs.Steady.{CallsFit, Above, above_of, above_up, above_at, TableFits, SteadyRecord, Steady, steady_record, steady_set, steady_children, steady_hole}
use Rattle.engine_rows.proofs.Outcomes.{sound_placed, Goal, filled, end_as_walk, move_in, idle_as_walk, Sound}
use Rattle.engine_fork_bits.specs.ForkBits.{fork_bits}
use Rattle.engine_fork_bits.proofs.ForkBits.{fork_bits_are_at_most_three}

module _ (listing : Listing) (now : ℕ) (triggers : Owner → List ℕ) (hi : ℕ) (T : TableFits listing) where
  module _ {G : RowsResult → Type 0} {go : RowsRunner} (j : ℕ) (whole : Result Turn) (D : Goal listing now triggers hi T j whole G go) (σ : Rows)
      (environment : List Variable) (q : List ℕ)
      (l woken : ℕ) (f : Frame) (fs : List Frame) (R : Runs listing now triggers hi σ environment q (suc j) l woken f fs whole)
      (S : Sound listing now triggers hi T σ environment l (plug (f ∷ fs) nil)) where
    abbrev me : ℕ
    me = f.self.slot

    row : σ me ≡ row_for false (path_of environment fs) (length (memory_of environment fs)) 0 f.self
    row = (head_of R.held).row

    pub place_is : (σ me).place ≡ f.self.place
    unfolding row_for
    place_is = ap (λ y. y.place) row

    pub routine_is : (σ me).routine ≡ f.self.routine
    unfolding row_for
    routine_is = ap (λ y. y.routine) row

    pub level_is : (σ me).level ≡ length fs
    unfolding row_for
    level_is = ap (λ y. y.level) row ∙ path_length environment fs

    parent_is : (σ me).parent ≡ parent_slot (path_of environment fs)
    unfolding row_for
    parent_is = ap (λ y. y.parent) row

    fine : SteadyRecord listing (above_up listing fs) (length fs) (length (memory_of environment fs)) f.self
    fine = steady_record listing environment f fs nil S.steady

    small : length (memory_of environment (f ∷ fs)) ≤ 65536
    unfolding memory_of
    small = omega (arith, fine.short, fine.high, length-append (memory_of environment fs) f.self.own)

    good-G : (k : ℕ) → instruction_at listing f.self.routine f.self.place ≡ jump k →
        G (go (with_row σ me (at_place (σ me) k)) environment q l woken me)
    unfolding focus placed
    good-G k i = D.deep (with_row σ me (at_place (σ me) k)) environment q l woken (focus (placed f.self k) f.done f.todo) fs
        (runs-G listing now triggers hi k R i) (sound_placed listing now triggers hi T σ _ environment l k f fs
        (with_row-used σ me (at_place (σ me) k) (at_place-used (σ me) k)) S)

    same_value : (e : List Piece) →
        evaluate_by now (named σ environment (σ me).bindings) e ≡ evaluate now (memory_of environment (f ∷ fs)) f.self.names e
    same_value e = evaluates listing now triggers hi σ environment q j l woken f fs whole R small e

    good-U : (e : List Piece) (k : ℕ) → instruction_at listing f.self.routine f.self.place ≡ branch e k →
        G (value_or_halt (evaluate_by now (named σ environment (σ me).bindings) e) (λ v.
        go (with_row σ me (at_place (σ me) (branch_place (eqb v 0) k (suc f.self.place)))) environment q l woken me))
    unfolding focus placed value_or_halt
    good-U e k i = cases (evaluate_by now (named σ environment (σ me).bindings) e) refl
      where
        cases : (r : Option ℕ) → evaluate_by now (named σ environment (σ me).bindings) e ≡ r →
            G (value_or_halt r (λ v. go (with_row σ me (at_place (σ me) (branch_place (eqb v 0) k (suc f.self.place)))) environment q l woken me))
        cases none x = D.stops (R.same ∙ stop_18-U listing now environment j l woken f fs e k i (sym (same_value e) ∙ x))
        cases (some v) x =
            let place = branch_place (eqb v 0) k (suc f.self.place) in
            D.deep (with_row σ me (at_place (σ me) place)) environment q l woken (focus (placed f.self place) f.done f.todo) fs
            (runs-U listing now triggers hi σ environment q j l woken f fs whole R small e k v i x)
            (sound_placed listing now triggers hi T σ _ environment l place f fs
            (with_row-used σ me (at_place (σ me) place) (at_place-used (σ me) place)) S)

    sound_w : Sound listing now triggers hi T σ environment l (plug fs (f.done ⋈ put (placed f.self f.self.place) nil f.todo))
    unfolding plug focus
    sound_w = sound_placed listing now triggers hi T σ σ environment l f.self.place f fs (λ s. refl) S

    good-W : (ws : List ℕ) → instruction_at listing f.self.routine f.self.place ≡ wait ws →
        G (next_ready go j σ environment q l woken)
    good-W ws i = idle_as_walk listing now triggers hi T j whole D σ environment q l woken fs _ _ (runs-W listing now triggers hi ws R i)
        (rw (ap (plug fs) (sym (one_more f.done (placed f.self f.self.place) f.todo))) at (sound_w))

    -- a set keeps the fixed facts
    sound_set : (o : Owner) (u : Variable) (a : ℕ) (v : Variable) →
        Sound listing now triggers hi T (with_row (rows_with σ o u) me (at_place (rows_with σ o u me) (suc f.self.place)))
        (environment_with o environment u) l
        (plug (focus (placed (record_with_own f.self (set_from (length (memory_of environment fs)) f.self.own a v)) (suc f.self.place))
        f.done f.todo ∷ set_up environment fs a v) nil)
    unfolding set_up focus
    sound_set o u a v =
        record { steady = rw len P.steady; used = P.used; lone = P.lone; whole = P.whole }
      where
        g : Frame
        g = focus (record_with_own f.self (set_from (length (memory_of environment fs)) f.self.own a v)) f.done f.todo

        σ₁ : Rows
        σ₁ = with_row (rows_with σ o u) me (at_place (rows_with σ o u me) (suc f.self.place))

        S₁ : Sound listing now triggers hi T σ (set environment a v) l (plug (g ∷ set_up environment fs a v) nil)
        S₁ = record {
          steady = steady_set listing environment (f ∷ fs) nil a v S.steady;
          used = S.used;
          lone = root_count-set environment (f ∷ fs) nil a v ∙
              S.lone;
          whole = λ s i. move_in listing now triggers hi T f g fs (set_up environment fs a v) (slots_set environment (f ∷ fs) a v) s
              (S.whole s i);
        }

        P : Sound listing now triggers hi T σ₁ (set environment a v) l
            (plug (focus (placed g.self (suc f.self.place)) f.done f.todo ∷ set_up environment fs a v) nil)
        P = sound_placed listing now triggers hi T σ σ₁ (set environment a v) l (suc f.self.place) g (set_up environment fs a v)
            (λ s. with_row-used (rows_with σ o u) me (at_place (rows_with σ o u me) (suc f.self.place))
            (at_place-used (rows_with σ o u me) (suc f.self.place)) s ∙ owner_used σ o u s) S₁

        len : length (environment_with o environment u) ≡ length (set environment a v)
        len = length-environment_with o environment u ∙ sym (length-set environment a v)

    good-S : (n : ℕ) (e : List Piece) → instruction_at listing f.self.routine f.self.place ≡ assign n e →
        let o = owner_of (σ me).bindings n in
        G (value_or_halt (evaluate_by now (named σ environment (σ me).bindings) e) (λ v.
        let x = written_to now (variable_of σ environment o) v in
        go (with_row (rows_with σ o x) me (at_place (rows_with σ o x me) (suc f.self.place))) (environment_with o environment x)
        (insert_all_lem σ (triggered σ (σ me).low (triggers o)) q) l woken me))
    unfolding focus placed record_with_own value_or_halt
    good-S n e i = cases (evaluate_by now (named σ environment (σ me).bindings) e) refl
      where
        o : Owner
        o = owner_of (σ me).bindings n

        is_name : n < length f.self.names
        is_name = omega (arith, fine.many, T.sets f.self.routine f.self.place n e i)

        near : address_of f.self.names n < length (memory_of environment fs) + length f.self.own
        near = fine.near n is_name

        cases : (r : Option ℕ) → evaluate_by now (named σ environment (σ me).bindings) e ≡ r →
            G (value_or_halt r (λ v.
            let x = written_to now (variable_of σ environment o) v in
            go (with_row (rows_with σ o x) me (at_place (rows_with σ o x me) (suc f.self.place))) (environment_with o environment x)
            (insert_all_lem σ (triggered σ (σ me).low (triggers o)) q) l woken me))
        cases none x = D.stops (R.same ∙ stop_18-S listing now environment j l woken f fs n e i (sym (same_value e) ∙ x))
        cases (some v) x =
            D.deep _ _ _ l woken _ _ (runs-S listing now triggers hi n e R i is_name small (omega (arith, near, fine.short, fine.high)) v x)
            (sound_set o (written_to now (variable_of σ environment o) v) (address_of f.self.names n)
            (written_to now (variable_at (memory_of environment (f ∷ fs)) (address_of f.self.names n)) v))

    good-A : (n : ℕ) (d e : List Piece) → instruction_at listing f.self.routine f.self.place ≡ schedule n d e →
        let o = owner_of (σ me).bindings n in
        G (value_or_halt (evaluate_by now (named σ environment (σ me).bindings) d) (λ t.
        value_or_halt (evaluate_by now (named σ environment (σ me).bindings) e) (λ v.
        let x = scheduled_on (variable_of σ environment o) (now + t) v in
        or_halt (is_positive t) 16 (or_halt (ltb (now + t) 18446744073709551616) 17 (go
        (with_row (rows_with σ o x) me (at_place (rows_with σ o x me) (suc f.self.place))) (environment_with o environment x) q l woken me)))))
    unfolding focus placed record_with_own or_halt value_or_halt
    good-A n d e i =
        valued (evaluate_by now (named σ environment (σ me).bindings) d) refl (evaluate_by now (named σ environment (σ me).bindings) e) refl
      where
        o : Owner
        o = owner_of (σ me).bindings n

        is_name : n < length f.self.names
        is_name = omega (arith, fine.many, T.delays f.self.routine f.self.place n d e i)

        after : ℕ → ℕ → RowsResult
        after t v =
            let x = scheduled_on (variable_of σ environment o) (now + t) v in
            go (with_row (rows_with σ o x) me (at_place (rows_with σ o x me) (suc f.self.place))) (environment_with o environment x) q l woken me

        cases : (t v : ℕ) → evaluate_by now (named σ environment (σ me).bindings) d ≡ some t →
            evaluate_by now (named σ environment (σ me).bindings) e ≡ some v → (x y : Bool) → is_positive t ≡ x →
            ltb (now + t) 18446744073709551616 ≡ y → G (or_halt x 16 (or_halt y 17 (after t v)))
        cases t v a b false y p r =
            D.stops (R.same ∙ stop_16 listing now environment j l woken f fs n d e i t (sym (same_value d) ∙ a) v (sym (same_value e) ∙ b) p)
        cases t v a b true false p r =
            D.stops (R.same ∙ stop_17 listing now environment j l woken f fs n d e i t (sym (same_value d) ∙ a) v (sym (same_value e) ∙ b) p r)
        cases t v a b true true p r =
            D.deep _ _ _ l woken _ _ (runs-A listing now triggers hi σ environment q j l woken f fs whole R small n d e i is_name t v a b p r)
            (sound_set o (scheduled_on (variable_of σ environment o) (now + t) v) (address_of f.self.names n)
            (scheduled_on (variable_at (memory_of environment (f ∷ fs)) (address_of f.self.names n)) (now + t) v))

        valued : (r : Option ℕ) → evaluate_by now (named σ environment (σ me).bindings) d ≡ r → (u : Option ℕ) →
            evaluate_by now (named σ environment (σ me).bindings) e ≡ u →
            G (value_or_halt r (λ t. value_or_halt u (λ v. or_halt (is_positive t) 16 (or_halt (ltb (now + t) 18446744073709551616) 17 (after t v)))))
        valued none a u b = D.stops (R.same ∙ stop_18_delay listing now environment j l woken f fs n d e i (sym (same_value d) ∙ a))
        valued (some t) a none b =
            D.stops (R.same ∙ stop_18-A listing now environment j l woken f fs n d e i t (sym (same_value d) ∙ a) (sym (same_value e) ∙ b))
        valued (some t) a (some v) b = cases t v a b (is_positive t) (ltb (now + t) 18446744073709551616) refl refl

    good-E : instruction_at listing f.self.routine f.self.place ≡ end →
        G (end_rows (eqb (σ me).level 0) go j (with_row σ me free_row) environment
        q (l - 1) woken (σ me).parent)
    good-E i = end_as_walk listing now triggers hi T j whole D σ environment q l woken f fs R S i

    fork_whole : {P : List Entry} {b : ℕ} {σ₁ : Rows} (t : Tree) (s : ℕ) → FreeFor P b σ₁ t →
        ((σ₁ s).used ≡ true → In s (slots_of (plug (f ∷ fs) nil))) → (allocated σ₁ P b t s).used ≡ true → In s (slots_of (plug (f ∷ fs) t))
    unfolding slots_of
    fork_whole {P} {b} {σ₁} t s fr old a = cases (allocated_used s fr a)
      where
        up : Either (In s (slots_of nil)) (In s (slots_up (f ∷ fs))) → In s (slots_of (plug (f ∷ fs) t))
        up (this k) = elim k [ ]
        up (that k) = up_plug (f ∷ fs) t k

        cases : Either ((σ₁ s).used ≡ true) (In s (slots_of t)) → In s (slots_of (plug (f ∷ fs) t))
        cases (this v) = up (plug_in (f ∷ fs) nil (old v))
        cases (that i) = in_plug (f ∷ fs) t i

    caller_of : (τ : Rows) (n : ℕ) → τ me ≡ row_for false (path_of environment fs) (length (memory_of environment fs)) n f.self →
        caller_at τ environment me n ≡ caller_on (path_of environment (f ∷ fs)) (memory_of environment (f ∷ fs)) f.self.names f.self.low
        (f.self.bits - fork_bits n) (named τ environment (owners_at (path_of environment (f ∷ fs)) f.self.names))
    unfolding caller_at caller_on row_for path_of memory_of parent_slot
    caller_of τ n e =
        rw (e, length-append (memory_of environment fs) f.self.own)

    fork_steady : (cs : List Call) (ss : List ℕ) (b : ℕ) → b ≡ f.self.bits - fork_bits (child_count cs) →
        instruction_at listing f.self.routine f.self.place ≡ fork cs → length fs ≤ 9 → CallsFit listing (length f.self.names) cs →
        Steady listing (above_up listing (f ∷ fs)) (length (f ∷ fs)) (length (memory_of environment (f ∷ fs)))
        (new_children listing now (memory_of environment (f ∷ fs)) f.self.names cs ss 0 f.self.low b)
    unfolding above_up memory_of
    fork_steady cs ss b e i shallow called =
        subst (λ z. Steady listing z (suc (length fs)) (length m) (new_children listing now m f.self.names cs ss 0 f.self.low b))
        (sym above_is)
        (steady_children listing T now u m (suc (length fs)) (omega (arith, fork_bits_are_at_most_three (child_count cs), fine.deep, shallow, e)) near short (omega arith)
        cs ss 0 refl called)
      where
        m : List Variable
        m = memory_of environment fs ++ f.self.own

        u : Above
        u = record { calls = cs; names = f.self.names; low = f.self.low; bits = b }

        above_is : above_of listing f.self ≡ u
        above_is = above_at listing f.self cs i ∙ ap (λ z. record { calls = cs; names = f.self.names; low = f.self.low; bits = z }) (sym e)

        near : (n : ℕ) → n < length f.self.names → address_of f.self.names n < length m
        near n h = subst (λ z. address_of f.self.names n < z) (sym (length-append (memory_of environment fs) f.self.own)) (fine.near n h)

        short : length m + 16 ≤ 16 * (suc (length fs) + 2)
        short = omega (arith, fine.short, length-append (memory_of environment fs) f.self.own)

    same_outcome : (K : Rows → List ℕ → RowsResult) (a a' : Rows) (b b' : List ℕ) → a ≡ a' → b ≡ b' →
        G (K a' b') → G (K a b)
    same_outcome K a a' b b' p₁ p₂ g = rw (p₁, p₂) g

    fork_as_walk : (cs : List Call) → instruction_at listing f.self.routine f.self.place ≡ fork cs → leb (l + child_count cs) 64 ≡ true →
        leb (length fs) 9 ≡ true → G (fork_rows listing now go j σ environment q l woken
        me cs)
    unfolding fork_rows row_for path_of memory_of parent_slot plug ◌⋈◌ focus hole hole_in with_children
    fork_as_walk cs i p r =
        same_outcome (λ rows ss. next_ready go j rows environment (ss ++ q) (l + child_count cs) woken) _ _ _ _
        (TK.rows ∙ ap (λ z. allocated z P (length m) young) (sym rows_eq)) TK.slots
        (idle_as_walk listing now triggers hi T j whole D _ environment (root_slots young ++ q) (l + child_count cs) woken (f ∷ fs) nil young
        (runs-F listing now triggers hi σ environment q j l woken f fs whole cs ss b R i p r fits TK.small
        (subst (λ z. FreeFor P (length m) z young) (sym rows_eq) TK.fresh)
        (filled listing now triggers hi T young (λ z. omega (arith, TK.counted, eight.0))))
        (record {
          steady = (steady_hole listing environment (f ∷ fs) nil S.steady).again young young_steady;
          used = ap (λ z. used_below z 64) (ap (λ z. allocated z P (length m) young) rows_eq ∙ sym TK.rows) ∙ TK.used ∙
              ap (λ z. z + child_count cs) (used_keep σ me (with_children (σ me) (child_count cs)) 64 (with_children-used (σ me) (child_count cs)) ∙
              S.used);
          lone = root_count-over f.self f fs young nil ∙ S.lone;
          whole = λ s a. fork_whole young s (subst (λ z. FreeFor P (length m) z young) (sym rows_eq) TK.fresh)
              (λ b. S.whole s (sym (with_row-used σ me (with_children (σ me) (root_count young)) (with_children-used (σ me) (root_count young)) s) ∙
              b)) a;
        }))
      where
        m : List Variable
        m = memory_of environment (f ∷ fs)

        ns : List ℕ
        ns = f.self.names

        P : List Entry
        P = path_of environment (f ∷ fs)

        σc : Rows
        σc = with_row σ me (with_children (σ me) (child_count cs))

        eight : (1 ≤ child_count cs) × (child_count cs ≤ 8)
        eight = T.some f.self.routine f.self.place cs i

        shallow : length fs ≤ 9
        shallow = leb-true (length fs) 9 r

        b : ℕ
        b = f.self.bits - fork_bits (child_count cs)

        enough : fork_bits (child_count cs) ≤ f.self.bits
        enough = omega (arith, fork_bits_are_at_most_three (child_count cs), fine.deep, shallow)

        fits : child_count cs * 2 ^ b ≤ 2 ^ f.self.bits
        fits = fork_fits (child_count cs) f.self.bits eight.1 enough

        length_m : length m ≡ length (memory_of environment fs) + length f.self.own
        length_m = length-append (memory_of environment fs) f.self.own

        near : (n : ℕ) → n < length ns → address_of ns n < length m
        near n h = subst (λ z. address_of ns n < z) (sym length_m) (fine.near n h)

        called : CallsFit listing (length ns) cs
        called = subst (λ z. CallsFit listing z cs) (sym fine.many) (T.forks f.self.routine f.self.place cs i)

        room : used_below σc 64 + child_count cs ≤ 64
        room = omega (
          arith,
          used_keep σ me (with_children (σ me) (child_count cs)) 64 (with_children-used (σ me) (child_count cs)),
          S.used,
          leb-true (l + child_count cs) 64 p,
        )

        row_c : σc me ≡ row_for false (path_of environment fs) (length (memory_of environment fs)) (child_count cs) f.self
        row_c = with_row-same σ me (with_children (σ me) (child_count cs)) ∙ ap (λ z. with_children z (child_count cs)) row

        held_c : HeldUp σc environment (child_count cs) (f ∷ fs)
        held_c = head_change 0 hi nil (with_children (σ me) (child_count cs)) (child_count cs) f.self refl
            (ap (λ z. with_children z (child_count cs)) row) R.range R.held

        sits : (σc me).used ≡ true
        sits = ap (λ y. y.used) row_c

        caller_is : (τ : Rows) → τ me ≡ σc me → caller_at τ environment me (child_count cs) ≡ caller_on P m ns f.self.low b
            (named τ environment (owners_at P ns))
        caller_is τ e = caller_of τ (child_count cs) (e ∙ row_c)

        reads_are : (τ : Rows) → Keeps σc τ → (k : ℕ) → named τ environment (owners_at P ns) k ≡ variable_at m (address_of ns k)
        reads_are τ e k = read_bound τ environment (child_count cs) (f ∷ fs) small (up_keep τ 0 hi nil R.range held_c (λ s us a. e s us)) ns k

        ss : List ℕ
        ss = new_slots listing now σc environment me (child_count cs) cs 0

        young : Tree
        young = new_children listing now m ns cs ss 0 f.self.low b

        TK : Taken listing now m ns P environment me (child_count cs) f.self.low b σc sits caller_is reads_are near σc cs 0
        TK = taken listing now m ns P environment me (child_count cs) f.self.low b σc sits caller_is reads_are near cs σc 0 called (λ s us. refl)
            room

        rows_eq : with_row σ me (with_children (σ me) (root_count young)) ≡ σc
        rows_eq = ap (λ n. with_row σ me (with_children (σ me) n)) TK.counted

        young_steady : Steady listing (above_up listing (f ∷ fs)) (length (f ∷ fs)) (length m) young
        young_steady = fork_steady cs ss b refl i shallow called

    good-F : (cs : List Call) → instruction_at listing f.self.routine f.self.place ≡ fork cs →
        G (or_halt (leb (l + child_count cs) 64) 14
        (or_halt (leb (σ me).level 9) 15 (fork_rows listing now go j σ environment q l woken me cs)))
    unfolding or_halt
    good-F cs i = cases (leb (l + child_count cs) 64) (leb (σ me).level 9) refl refl
      where
        cases : (x y : Bool) → leb (l + child_count cs) 64 ≡ x → leb (σ me).level 9 ≡ y →
            G (or_halt x 14
            (or_halt y 15 (fork_rows listing now go j σ environment q l woken me cs)))
        cases false y p r = D.stops (R.same ∙ stop_14 listing now environment j l woken f fs cs i p)
        cases true false p r = D.stops (R.same ∙ stop_15 listing now environment j l woken f fs cs i p (ap (λ z. leb z 9) (sym level_is) ∙ r))
        cases true true p r = fork_as_walk cs i p (ap (λ z. leb z 9) (sym level_is) ∙ r)

    pub instruction_as_walk : (I : Instruction) → instruction_at listing f.self.routine f.self.place ≡ I →
        G (execute_rows listing now triggers go j I σ environment q l woken me)
    unfolding execute_rows at_place
    instruction_as_walk (assign n e) i = rw place_is (good-S n e i)
    instruction_as_walk (schedule n d e) i = rw place_is (good-A n d e i)
    instruction_as_walk (branch e k) i = rw place_is (good-U e k i)
    instruction_as_walk (jump k) i = good-G k i
    instruction_as_walk (wait ws) i = good-W ws i
    instruction_as_walk (fork cs) i = good-F cs i
    instruction_as_walk end i = good-E i
