-- A jump, a write and a wait: each keeps the engine in step with the walk.
-- Letters as in Place and Held.
use mathlib.Core.Path.{◌≡◌, refl, sym, ap, ap₂, ◌∙◌}
use mathlib.Core.Bool.{false}
use mathlib.Core.List.{List, ◌∷◌}
use mathlib.Core.Option.{some}
use Prim.Native.Nat.{ℕ, suc, ◌+◌, ◌%◌, ◌≤◌, ◌<◌}
use native.Mathlib.Omega.{arith}
use lib.ListN.{length, set}
use Rattle.listing.specs.Listing.{Listing, Piece, assign, jump, wait}
use Rattle.walk.specs.Memory.{address_of, evaluate, variable_at, evaluate_by}
use Rattle.walk.specs.State.{Result, Turn, Variable, written_to}
use Rattle.walk.specs.Walk.{instruction_at}
use Rattle.engine_rows.specs.Ready.{insert_all_lem}
use Rattle.engine_rows.specs.Rows.{Owner, Rows, at_place, environment_with, named, owner_of, rows_with, variable_of, with_row}
use Rattle.engine_rows.specs.Triggers.{triggered}
use Rattle.engine_rows.proofs.Place.{Record, nil, put, ◌⋈◌, Frame, plug, memory_of, up, ready_up}
use Rattle.engine_rows.proofs.Finding.{full_then, then_full}
use Rattle.engine_rows.proofs.Priority.{Range, ready_apart}
use Rattle.engine_rows.proofs.Sorted.{In, Either, this, that, insert_keys, all_in, all_only, spread_one, slots_in}
use Rattle.engine_rows.proofs.Writing.{set_up, record_with_own, set_from, written_ready, woken_up, range_set}
use Rattle.engine_rows.proofs.Held.{owner_at, owners_at, path_of, root_count, held_nil, held_put, HeldUp, set_held}
use Rattle.engine_rows.proofs.Waking.{Marked, key_at, keys_at, keys_in, keys_only, triggered_from_lem, triggered_sound, triggered_full}
use Rattle.engine_rows.proofs.ReadyList.{Keyed, slot_of_lem, insert_all_slots, up_keyed}
use Rattle.engine_rows.proofs.Moves.{placed, focus, move-S, move-W, move-G}
use Rattle.engine_rows.proofs.Kept.{head_change, Calmer, calmer-with_row, calmer_own, calmer_then, triggers_calm, slots_up, marked_of, slots_small}
use Rattle.engine_rows.proofs.Standing.{Head, head_of, held_join, root_count-⋈}
use Rattle.engine_rows.proofs.Reading.{read_bound, environment_set, evaluate_by-same, bound_owner}
use Rattle.engine_rows.proofs.EngineState.{known_then, at_place-asleep, range_placed, slots_set, same_slots, row_placed, at_place-of, bind_of, one_more, bool_not, low_of, Idle, Runs, paused_set}

module _ (listing : Listing) (now : ℕ) (triggers : Owner → List ℕ) (hi : ℕ) where
  -- a jump
  pub runs-G : {σ : Rows} {environment : List Variable} {q : List ℕ} {j l woken : ℕ} {f : Frame} {fs : List Frame} {whole : Result Turn} (k : ℕ) →
      Runs listing now triggers hi σ environment q (suc j) l woken f fs whole →
      instruction_at listing f.self.routine f.self.place ≡ jump k →
      Runs listing now triggers hi (with_row σ f.self.slot (at_place (σ f.self.slot) k)) environment q j l woken
      (focus (placed f.self k) f.done f.todo) fs whole
  unfolding focus placed ready_up slots_up
  runs-G {σ} {environment} {q} {j} {l} {woken} {f} {fs} k R i =
      record {
        held = head_change 0 hi nil (at_place (σ f.self.slot) k) 0 (placed f.self k) refl (ap (λ y. at_place y k) (head_of R.held).row ∙
            at_place-of false (path_of environment fs) (length (memory_of environment fs)) 0 f.self k) R.range R.held;
        range = range_placed 0 hi f fs k R.range;
        queue = R.queue;
        lists_right = triggers_calm listing c R.lists_right;
        known = known_then f (focus (placed f.self k) f.done f.todo) fs fs c refl R.known;
        rests = R.rests;
        paused = R.paused;
        begun = refl;
        same = R.same ∙ move-G listing now environment j l woken f fs k i;
      }
    where
      c : Calmer σ (with_row σ f.self.slot (at_place (σ f.self.slot) k))
      c = calmer-with_row σ f.self.slot (at_place (σ f.self.slot) k) (at_place-asleep (σ f.self.slot) k)

  -- a write: the owner's variable, the place, the ready list
  module _ {σ : Rows} {environment : List Variable} {q : List ℕ} {j l woken : ℕ} {f : Frame} {fs : List Frame} {whole : Result Turn} (n : ℕ)
      (e : List Piece) (R : Runs listing now triggers hi σ environment q (suc j) l woken f fs whole)
      (i : instruction_at listing f.self.routine f.self.place ≡ assign n e)
      (is_name : n < length f.self.names) (small : length (memory_of environment (f ∷ fs)) ≤ 65536)
      (aimed : address_of f.self.names n < 65536) (given : ℕ)
      (evaluated : evaluate_by now (named σ environment (σ f.self.slot).bindings) e ≡ some given) where
    abbrev me : ℕ
    me = f.self.slot

    abbrev target : Owner
    target = owner_of (σ me).bindings n

    abbrev put_in : Variable
    put_in = written_to now (variable_of σ environment target) given

    abbrev rows-S : Rows
    rows-S = with_row (rows_with σ target put_in) me (at_place (rows_with σ target put_in me) (suc f.self.place))

    bindings_are : (σ me).bindings ≡ owners_at (path_of environment (f ∷ fs)) f.self.names
    unfolding path_of
    bindings_are = bind_of listing now triggers hi σ false (path_of environment fs) (length (memory_of environment fs)) 0 f.self
        (head_of R.held).row

    reads : (w : ℕ) → named σ environment (σ me).bindings w ≡ variable_at (memory_of environment (f ∷ fs)) (address_of f.self.names w)
    reads w = ap (λ z. named σ environment z w) bindings_are ∙ read_bound σ environment 0 (f ∷ fs) small R.held f.self.names w

    abbrev a : ℕ
    a = address_of f.self.names n

    abbrev v : Variable
    v = written_to now (variable_at (memory_of environment (f ∷ fs)) a) given

    target_is : target ≡ owner_at (path_of environment (f ∷ fs)) a
    target_is = ap (λ z. owner_of z n) bindings_are ∙ bound_owner (path_of environment (f ∷ fs)) f.self.names n is_name

    v_is : put_in ≡ v
    unfolding named
    v_is = ap (λ o. written_to now o given) (reads n)

    walk_evaluated : evaluate now (memory_of environment (f ∷ fs)) f.self.names e ≡ some given
    walk_evaluated =
        sym (evaluate_by-same (named σ environment (σ me).bindings) (memory_of environment (f ∷ fs)) f.self.names reads now e) ∙ evaluated

    abbrev fs' : List Frame
    fs' = set_up environment fs a v

    abbrev g : Frame
    g = focus (record_with_own f.self (set_from (length (memory_of environment fs)) f.self.own a v)) f.done f.todo

    abbrev f' : Frame
    f' = focus (placed (record_with_own f.self (set_from (length (memory_of environment fs)) f.self.own a v)) (suc f.self.place)) f.done
        f.todo

    rows_eq : rows_with σ target put_in ≡ rows_with σ (owner_at (path_of environment (f ∷ fs)) a) v
    rows_eq = ap₂ (rows_with σ) target_is v_is

    environment_after : environment_with target environment put_in ≡ set environment a v
    environment_after = ap₂ (λ o u. environment_with o environment u) target_is v_is ∙ environment_set environment (f ∷ fs) a v

    held₁ : HeldUp (rows_with σ target put_in) (set environment a v) 0 (g ∷ fs')
    unfolding set_up focus
    held₁ = rw rows_eq (set_held 0 hi nil a v R.range R.held)

    range₁ : Range 0 hi (plug (g ∷ fs') nil)
    unfolding set_up focus
    range₁ = range_set listing environment 0 hi (f ∷ fs) nil a v R.range

    calm : Calmer σ rows-S
    calm = calmer_then (calmer_own σ target put_in) (calmer-with_row (rows_with σ target put_in) me
        (at_place (rows_with σ target put_in me) (suc f.self.place)) (at_place-asleep (rows_with σ target put_in me) (suc f.self.place)))

    -- whom the write wakes
    abbrev waking : List ℕ
    waking = triggered σ f.self.low (triggers (owner_at (path_of environment (f ∷ fs)) a))

    keys_after : insert_keys (keys_at σ waking) (ready_up listing environment (f ∷ fs)) ≡ ready_up listing (set environment a v) (f' ∷ fs')
    unfolding ready_up focus woken_up plug written_to
    keys_after =
        written_ready listing environment 0 hi fs f.done f.self f.todo a v (keys_at σ waking) R.range refl
        (triggered_sound listing σ triggers environment 0 0 hi f fs nil R.lists_right M R.range R.held a aimed)
        (triggered_full listing σ triggers environment 0 0 hi f fs nil R.lists_right M R.range R.held a aimed)
      where
        M : Marked listing σ f.self.low (f ∷ fs)
        M = marked_of listing 0 hi R.range R.held R.known

    slots_after : insert_all_lem σ waking (slots_in (ready_up listing environment (f ∷ fs))) ≡ slots_in
        (insert_keys (keys_at σ waking) (ready_up listing environment (f ∷ fs)))
    unfolding ready_up focus plug
    slots_after = insert_all_slots σ R'' K waking R₀ (λ s i. (below s i, all_in (keys_at σ waking) R₀ (this (keys_in σ s waking i))))
        (λ k i. all_in (keys_at σ waking) R₀ (that i))
      where
        R₀ : List ℕ
        R₀ = ready_up listing environment (f ∷ fs)

        R'' : List ℕ
        R'' = insert_keys (keys_at σ waking) R₀

        below : (s : ℕ) → In s waking → s < 64
        below s i = slots_small s R.range (R.known.all s
            (triggered_from_lem σ f.self.low s (triggers (owner_at (path_of environment (f ∷ fs)) a)) i).1)

        keyed : (k : ℕ) → Either (In k (keys_at σ waking)) (In k R₀) → key_at σ (k % 64) ≡ k
        keyed k (this i) = let d = keys_only σ k waking i in ap (λ z. key_at σ (z % 64)) d.2 ∙
            ap (key_at σ) (slot_of_lem σ d.0 (below d.0 d.1)) ∙ sym d.2
        keyed k (that i) = up_keyed listing 0 hi k nil R.range R.held i

        K : Keyed σ R''
        K = record {
          keyed = λ k i. keyed k (all_only (keys_at σ waking) R₀ i);
          apart = λ j k x y h. spread_one (ready_apart listing (set environment a v) 0 hi fs' f.done f'.self nil f.todo
              (range_placed 0 hi g fs' (suc f.self.place) range₁)) (rw keys_after at x) (rw keys_after at y) h;
        }

    ready₁ : insert_all_lem σ (triggered σ (σ me).low (triggers target)) q ≡ slots_in (ready_up listing (set environment a v) (f' ∷ fs'))
    ready₁ =
        rw (
          low_of listing now triggers hi σ false (path_of environment fs) (length (memory_of environment fs)) 0 f.self (head_of R.held).row,
          target_is,
          R.queue,
        )
        (slots_after ∙ ap slots_in keys_after)

    pub runs-S : Runs listing now triggers hi rows-S (environment_with target environment put_in)
        (insert_all_lem σ (triggered σ (σ me).low (triggers target)) q) j l woken f' fs' whole
    unfolding focus placed record_with_own slots_up
    runs-S = rw environment_after (record {
      held = head_change 0 hi nil (at_place (rows_with σ target put_in me) (suc f.self.place)) 0 f'.self refl
          (ap (λ y. at_place y (suc f.self.place)) (head_of held₁).row ∙
          at_place-of false (path_of (set environment a v) fs') (length (memory_of (set environment a v) fs')) 0 g.self (suc f.self.place))
          range₁ held₁;
      range = range_placed 0 hi g fs' (suc f.self.place) range₁;
      queue = ready₁;
      lists_right = triggers_calm listing calm R.lists_right;
      known = known_then f f' fs fs' calm (rw (slots_set environment fs a v)) R.known;
      rests = R.rests;
      paused = paused_set listing environment fs a v R.paused;
      begun = refl;
      same = R.same ∙ move-S listing now environment j l woken f fs n e given i walk_evaluated;
    })

  -- a wait: no word changes
  pub runs-W : {σ : Rows} {environment : List Variable} {q : List ℕ} {j l woken : ℕ} {f : Frame} {fs : List Frame} {whole : Result Turn}
      (ws : List ℕ) → Runs listing now triggers hi σ environment q (suc j) l woken f fs whole →
      instruction_at listing f.self.routine f.self.place ≡ wait ws →
      Idle listing now triggers hi σ environment q j l woken fs (f.done ⋈ put (placed f.self f.self.place) nil nil) f.todo whole
  unfolding ready_up root_count placed focus plug
  runs-W {σ} {environment} {q} {j} {l} {woken} {f} {fs} ws R i =
      record {
        stands = record {
          up = rw n at H.up;
          done = held_join H.done (held_put false (λ z. bool_not (sym z)) (H.row ∙
              row_placed (path_of environment fs) (length (memory_of environment fs)) 0 f.self) held_nil held_nil);
          todo = H.todo;
        };
        range = rw tree at (range_placed 0 hi f fs f.self.place R.range);
        queue = R.queue;
        lists_right = R.lists_right;
        known = rw tree at (known_then {σ = σ} {σ' = σ} f (focus (placed f.self f.self.place) f.done f.todo) fs fs
            (record { was = λ s a. record { asleep = a; low = refl; bindings = refl; routine = refl; place = refl } }) slots_eq R.known);
        rests = R.rests;
        paused = R.paused;
        living = full_then listing now (f.done ⋈ put x nil nil) f.todo (then_full listing now f.done x nil nil);
        same = R.same ∙ move-W listing now environment j l woken f fs ws i;
      }
    where
      x : Record
      x = placed f.self f.self.place

      H : Head σ environment 0 f fs
      H = head_of R.held

      n : root_count f.done + suc (root_count f.todo) ≡ root_count (f.done ⋈ put x nil nil) + root_count f.todo
      n = omega (arith, root_count-⋈ f.done (put x nil nil))

      tree : plug fs (f.done ⋈ put x nil f.todo) ≡ plug fs ((f.done ⋈ put x nil nil) ⋈ f.todo)
      tree = ap (plug fs) (sym (one_more f.done x f.todo))

      slots_eq : slots_up (focus x f.done f.todo ∷ fs) ≡ slots_up (f ∷ fs)
      slots_eq = same_slots f x fs refl
