-- A waiting write leaves the marks, and so the ready list.
-- Letters as in Place and Held.
use mathlib.Core.Path.{◌≡◌, refl, sym, ap, ap₂, ◌∙◌}
use mathlib.Core.Bool.{true, false, ◌||◌}
use mathlib.Core.List.{List, [], ◌∷◌, ◌++◌}
use mathlib.Core.Option.{some}
use Prim.Native.Nat.{ℕ, suc, ◌+◌, ◌≤◌, ◌<◌}
use native.Mathlib.Omega.{arith}
use native.Mathlib.Decide.{ℕ_discrete, dec_lt}
use lib.Dec.{ltb, eqb}
use lib.ListN.{length, get_or, set, length-append, get_or-append}
use lib.Seq.{get_or-set_same, get_or-set_other, set_out, set-append_left}
use Rattle.words.specs.Words.{is_positive}
use Rattle.listing.specs.Listing.{Listing, Piece, branch, schedule}
use Rattle.walk.specs.Memory.{address_of, any_written, evaluate, variable_at, evaluate_by}
use Rattle.walk.specs.State.{Result, Turn, Variable, no_variable, scheduled_on}
use Rattle.walk.specs.Walk.{instruction_at, branch_place}
use Rattle.engine_rows.specs.Rows.{Owner, Rows, at_place, environment_with, named, owner_of, rows_with, variable_of, with_row}
use Rattle.engine_rows.specs.Triggers.{awaited, cons_if}
use Rattle.engine_rows.proofs.Place.{Record, Tree, nil, put, Frame, plug, memory_of, key, will_run, ready, ready_up}
use Rattle.engine_rows.proofs.Priority.{Range}
use Rattle.engine_rows.proofs.Sorted.{slots_in}
use Rattle.engine_rows.proofs.Writing.{set_up, record_with_own, set_from, memory_set, range_set}
use Rattle.engine_rows.proofs.Held.{owner_at, owners_at, path_of, HeldUp, set_held, environment_past, up_out}
use Rattle.engine_rows.proofs.Moves.{placed, focus, move-A, move-U}
use Rattle.engine_rows.proofs.Kept.{head_change, Calmer, calmer-with_row, calmer_own, calmer_then, triggers_calm, slots_up}
use Rattle.engine_rows.proofs.Standing.{head_of}
use Rattle.engine_rows.proofs.EngineState.{Runs, bind_of, at_place-of, at_place-asleep, known_then, slots_set, paused_set, range_placed, same_slots}
use Rattle.engine_rows.proofs.Reading.{evaluate_by-same, read_bound, bound_owner, environment_set}

at_keep : (m : List Variable) (a x : ℕ) (v : Variable) → a < length m → v.written ≡ (variable_at m a).written →
    (variable_at (set m a v) x).written ≡ (variable_at m x).written
unfolding variable_at
at_keep m a x v h e = go (ℕ_discrete x a)
  where
    go : Dec (x ≡ a) → (get_or (set m a v) x no_variable).written ≡ (get_or m x no_variable).written
    go (yes p) = rw (p, get_or-set_same m a v no_variable h) e
    go (no p) = rw (get_or-set_other m a x v no_variable p)

any_written-keep : (m : List Variable) (ns ws : List ℕ) (a : ℕ) (v : Variable) → a < length m → v.written ≡ (variable_at m a).written →
    any_written (set m a v) ns ws ≡ any_written m ns ws
unfolding any_written
any_written-keep m ns [] a v h e = refl
any_written-keep m ns (w ∷ ws) a v h e = ap₂ ◌||◌ (at_keep m a (address_of ns w) v h e) (any_written-keep m ns ws a v h e)

at_left : (m o : List Variable) (a : ℕ) → a < length m → variable_at m a ≡ variable_at (m ++ o) a
unfolding variable_at
at_left m o a h = sym (get_or-append m o no_variable a h)

module _ (listing : Listing) where
  will_run-keep : (m : List Variable) (x : Record) (a : ℕ) (v : Variable) → a < length m → v.written ≡ (variable_at m a).written →
      will_run listing (set m a v) x ≡ will_run listing m x
  unfolding will_run
  will_run-keep m x a v h e =
      ap (λ z. x.is_new || z) (ap (λ z. any_written z x.names (awaited (instruction_at listing x.routine x.place)))
      (sym (set-append_left m x.own a v h)) ∙
      any_written-keep (m ++ x.own) x.names (awaited (instruction_at listing x.routine x.place)) a v (simp length-append (omega arith)) (e ∙
      ap (λ z. z.written) (at_left m x.own a h)))

  ready_keep : (m : List Variable) (t : Tree) (a : ℕ) (v : Variable) → a < length m → v.written ≡ (variable_at m a).written →
      ready listing (set m a v) t ≡ ready listing m t
  unfolding ready
  ready_keep m nil a v h e = refl
  ready_keep m (put x nil f) a v h e = ap₂ (λ w l. cons_if w (key x) l) (will_run-keep m x a v h e) (ready_keep m f a v h e)
  ready_keep m (put x (put y k g) f) a v h e =
      ap₂ ◌++◌ (ap (λ z. ready listing z (put y k g)) (sym (set-append_left m x.own a v h)) ∙
      ready_keep (m ++ x.own) (put y k g) a v (simp length-append (omega arith)) (e ∙ ap (λ z. z.written) (at_left m x.own a h)))
      (ready_keep m f a v h e)

  ready_keep' : (m : List Variable) (t : Tree) (a : ℕ) (v : Variable) → (a < length m → v.written ≡ (variable_at m a).written) →
      ready listing (set m a v) t ≡ ready listing m t
  ready_keep' m t a v e = go (dec_lt a (length m))
    where
      go : Dec (a < length m) → ready listing (set m a v) t ≡ ready listing m t
      go (yes h) = ready_keep m t a v h (e h)
      go (no h) = ap (λ z. ready listing z t) (set_out m a v (omega arith))

  pub ready_up-keep : (environment : List Variable) (fs : List Frame) (a : ℕ) (v : Variable) →
      v.written ≡ (variable_at (memory_of environment fs) a).written →
      ready_up listing (set environment a v) (set_up environment fs a v) ≡ ready_up listing environment fs
  unfolding ready_up set_up memory_of
  ready_up-keep environment [] a v e = refl
  ready_up-keep environment (f ∷ fs) a v e =
      ap₂ ◌++◌ (ap (λ z. ready listing z f.todo) (memory_set environment fs a v) ∙
      ready_keep' (memory_of environment fs) f.todo a v (λ h. e ∙
      ap (λ z. z.written) (sym (at_left (memory_of environment fs) f.self.own a h))))
      (deep (dec_lt a (length (memory_of environment fs))) (λ h. ready_up-keep environment fs a v (e ∙
      ap (λ z. z.written) (sym (at_left (memory_of environment fs) f.self.own a h)))))
    where
      deep : Dec (a < length (memory_of environment fs)) →
          (a < length (memory_of environment fs) → ready_up listing (set environment a v) (set_up environment fs a v) ≡ ready_up listing environment fs) →
          ready_up listing (set environment a v) (set_up environment fs a v) ≡ ready_up listing environment fs
      deep (yes h) deeper = deeper h
      deep (no h) deeper = ap₂ (ready_up listing) (environment_past environment fs a v (omega arith)) (up_out environment fs a v (omega arith))

slots_eq : (f : Frame) (fs : List Frame) (a : ℕ) (v : Variable) (environment : List Variable) →
    slots_up (focus (placed (record_with_own f.self (set_from (length (memory_of environment fs)) f.self.own a v)) (suc f.self.place))
    f.done f.todo ∷ set_up environment fs a v) ≡ slots_up (f ∷ fs)
unfolding slots_up focus placed record_with_own
slots_eq f fs a v environment = rw (slots_set environment fs a v)

module _ (listing : Listing) (now : ℕ) (triggers : Owner → List ℕ) (hi : ℕ) where
  module _ (σ : Rows) (environment : List Variable) (q : List ℕ) (j l woken : ℕ) (f : Frame) (fs : List Frame) (whole : Result Turn)
      (R : Runs listing now triggers hi σ environment q (suc j) l woken f fs whole) (small : length (memory_of environment (f ∷ fs)) ≤ 65536) where
    abbrev me : ℕ
    me = f.self.slot

    abbrev m : List Variable
    m = memory_of environment (f ∷ fs)

    abbrev ns : List ℕ
    ns = f.self.names

    pub bindings_are : (σ me).bindings ≡ owners_at (path_of environment (f ∷ fs)) ns
    unfolding path_of
    bindings_are = bind_of listing now triggers hi σ false (path_of environment fs) (length (memory_of environment fs)) 0 f.self
        (head_of R.held).row

    pub reads : (w : ℕ) → named σ environment (σ me).bindings w ≡ variable_at m (address_of ns w)
    reads w = ap (λ z. named σ environment z w) bindings_are ∙ read_bound σ environment 0 (f ∷ fs) small R.held ns w

    pub evaluates : (e : List Piece) → evaluate_by now (named σ environment (σ me).bindings) e ≡ evaluate now m ns e
    evaluates e = evaluate_by-same (named σ environment (σ me).bindings) m ns reads now e

    -- a test: the engine's own value decides
    pub runs-U : (e : List Piece) (k given : ℕ) → instruction_at listing f.self.routine f.self.place ≡ branch e k →
        evaluate_by now (named σ environment (σ me).bindings) e ≡ some given →
        let place = branch_place (eqb given 0) k (suc f.self.place) in
        Runs listing now triggers hi (with_row σ me (at_place (σ me) place)) environment q j l woken
        (focus (placed f.self place) f.done f.todo) fs whole
    unfolding focus placed ready_up
    runs-U e k given i evaluated =
        record {
          held = head_change 0 hi nil (at_place (σ me) place) 0 (placed f.self place) refl (ap (λ y. at_place y place) (head_of R.held).row ∙
              at_place-of false (path_of environment fs) (length (memory_of environment fs)) 0 f.self place) R.range R.held;
          range = range_placed 0 hi f fs place R.range;
          queue = R.queue;
          lists_right = triggers_calm listing c R.lists_right;
          known = known_then f (focus (placed f.self place) f.done f.todo) fs fs c (same_slots f (placed f.self place) fs refl)
              R.known;
          rests = R.rests;
          paused = R.paused;
          begun = refl;
          same = R.same ∙ move-U listing now environment j l woken f fs e k given (eqb given 0) i (sym (evaluates e) ∙ evaluated) refl;
        }
      where
        place : ℕ
        place = branch_place (eqb given 0) k (suc f.self.place)

        c : Calmer σ (with_row σ me (at_place (σ me) place))
        c = calmer-with_row σ me (at_place (σ me) place) (at_place-asleep (σ me) place)

    module _ (n : ℕ) (d e : List Piece) (i : instruction_at listing f.self.routine f.self.place ≡ schedule n d e) (is_name : n < length ns)
        (waiting given : ℕ) (delayed : evaluate_by now (named σ environment (σ me).bindings) d ≡ some waiting)
        (evaluated : evaluate_by now (named σ environment (σ me).bindings) e ≡ some given)
      where
        abbrev target : Owner
        target = owner_of (σ me).bindings n

        abbrev put_in : Variable
        put_in = scheduled_on (variable_of σ environment target) (now + waiting) given

        abbrev a : ℕ
        a = address_of ns n

        abbrev v : Variable
        v = scheduled_on (variable_at m a) (now + waiting) given

        abbrev rows-A : Rows
        rows-A = with_row (rows_with σ target put_in) me (at_place (rows_with σ target put_in me) (suc f.self.place))

        abbrev fs' : List Frame
        fs' = set_up environment fs a v

        abbrev g : Frame
        g = focus (record_with_own f.self (set_from (length (memory_of environment fs)) f.self.own a v)) f.done f.todo

        abbrev f' : Frame
        f' = focus (placed (record_with_own f.self (set_from (length (memory_of environment fs)) f.self.own a v)) (suc f.self.place))
            f.done f.todo

        target_is : target ≡ owner_at (path_of environment (f ∷ fs)) a
        target_is = ap (λ z. owner_of z n) bindings_are ∙ bound_owner (path_of environment (f ∷ fs)) ns n is_name

        v_is : put_in ≡ v
        unfolding named
        v_is = ap (λ o. scheduled_on o (now + waiting) given) (reads n)

        held₁ : HeldUp (rows_with σ target put_in) (set environment a v) 0 (g ∷ fs')
        unfolding set_up focus
        held₁ = rw (ap₂ (rows_with σ) target_is v_is) (set_held 0 hi nil a v R.range R.held)

        range₁ : Range 0 hi (plug (g ∷ fs') nil)
        unfolding set_up focus
        range₁ = range_set listing environment 0 hi (f ∷ fs) nil a v R.range

        calm : Calmer σ rows-A
        calm = calmer_then (calmer_own σ target put_in) (calmer-with_row (rows_with σ target put_in) me
            (at_place (rows_with σ target put_in me) (suc f.self.place)) (at_place-asleep (rows_with σ target put_in me) (suc f.self.place)))

        queue₁ : q ≡ slots_in (ready_up listing (set environment a v) (f' ∷ fs'))
        unfolding set_up focus ready_up scheduled_on
        queue₁ = R.queue ∙ ap slots_in (sym (ready_up-keep listing environment (f ∷ fs) a v refl))

        pub runs-A : is_positive waiting ≡ true → ltb (now + waiting) 18446744073709551616 ≡ true →
            Runs listing now triggers hi rows-A (environment_with target environment put_in) q j l woken f' fs' whole
        unfolding focus placed record_with_own
        runs-A p t = rw (ap₂ (λ o u. environment_with o environment u) target_is v_is ∙ environment_set environment (f ∷ fs) a v) (record {
          held = head_change 0 hi nil (at_place (rows_with σ target put_in me) (suc f.self.place)) 0 f'.self refl
              (ap (λ y. at_place y (suc f.self.place)) (head_of held₁).row ∙
              at_place-of false (path_of (set environment a v) fs') (length (memory_of (set environment a v) fs')) 0 g.self
              (suc f.self.place)) range₁ held₁;
          range = range_placed 0 hi g fs' (suc f.self.place) range₁;
          queue = queue₁;
          lists_right = triggers_calm listing calm R.lists_right;
          known = known_then f f' fs fs' calm (slots_eq f fs a v environment) R.known;
          rests = R.rests;
          paused = paused_set listing environment fs a v R.paused;
          begun = refl;
          same = R.same ∙ move-A listing now environment j l woken f fs n d e waiting given i (sym (evaluates d) ∙ delayed) (sym (evaluates e) ∙ evaluated) p t;
        })
