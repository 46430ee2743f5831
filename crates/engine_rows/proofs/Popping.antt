-- The first of the ready list is the next that the walk runs; an empty list ends the walk.
-- Letters as in Place and Held.
use mathlib.Core.Path.{◌≡◌, refl, sym, ap, ◌∙◌}
use mathlib.Core.Bool.{true, not}
use mathlib.Core.List.{List, [], ◌∷◌, ◌++◌}
use Prim.Native.Nat.{ℕ, suc, ◌%◌}
use native.Mathlib.Omega.{arith}
use lib.ListN.{length}
use Rattle.listing.specs.Listing.{Listing}
use Rattle.walk.specs.State.{Result, Turn, Variable, ok}
use Rattle.engine_rows.specs.Engine.{first_place, count_if}
use Rattle.engine_rows.specs.Rows.{Owner, Row, Rows, at_place, with_row}
use Rattle.engine_rows.specs.Agenda.{running_with}
use Rattle.engine_rows.proofs.Place.{Record, Tree, nil, put, erase, ◌⋈◌, Frame, plug, memory_of, up, key, ready, ready_up, Rests, rests_new, rests_wait, Paused}
use Rattle.engine_rows.proofs.Finding.{Found, next, over}
use Rattle.engine_rows.proofs.Priority.{Range}
use Rattle.engine_rows.proofs.Sorted.{slots_in}
use Rattle.engine_rows.proofs.Held.{Entry, path_of, root_count, is_leaf}
use Rattle.engine_rows.proofs.Waking.{Triggers}
use Rattle.engine_rows.proofs.Moves.{placed, focus, going_on_lem, wakes, begins}
use Rattle.engine_rows.proofs.Kept.{head_put, Calmer, calmer-with_row, triggers_calm, Known}
use Rattle.engine_rows.proofs.Standing.{Stands, HeldNode, node_of, silent_stands}
use Rattle.engine_rows.proofs.EngineState.{known_then, slot_small, start_of, at_place-asleep, range_placed, same_slots, at_place-of, key_slot, asleep_of, row_level, Idle, row_low, Runs}

module _ (listing : Listing) (now : ℕ) (triggers : Owner → List ℕ) (hi : ℕ) where
  -- the ready list's first
  pub record Popped (σ : Rows) (environment : List Variable) (s : ℕ) (ss : List ℕ) (j l woken : ℕ) (tree : Tree) (whole : Result Turn) : Type 0 where
    pub before : Frame
    pub place : ℕ
    pub frames : List Frame
    pub tree_is : tree ≡ plug (before ∷ frames) nil
    pub who : s ≡ before.self.slot
    pub runs : Runs listing now triggers hi (with_row σ s (at_place (σ s) (first_place (σ s).asleep (σ s).place))) environment ss j l
        (count_if (σ s).asleep woken) (focus (placed before.self place) before.done before.todo) frames whole

  pop_at : {σ : Rows} {environment : List Variable} {s : ℕ} {ss : List ℕ} {j l woken : ℕ} {whole : Result Turn} (fs : List Frame) (d : Tree)
      (x : Record) (t : Tree) (place after : ℕ) → Stands σ environment fs d (put x nil t) → Range 0 hi (plug fs (d ⋈ put x nil t)) →
      Triggers listing σ triggers → Known σ (plug fs (d ⋈ put x nil t)) → Rests listing true t → Paused listing fs →
      slots_in (ready listing (memory_of environment fs) t ++ ready_up listing environment fs) ≡ ss → s ≡ x.slot →
      first_place (σ x.slot).asleep (σ x.slot).place ≡ place →
      count_if (σ x.slot).asleep woken ≡ after → whole ≡ going_on_lem listing now environment j l after (focus (placed x place) d t) fs →
      Popped σ environment s ss j l woken (plug fs (d ⋈ put x nil t)) whole
  unfolding plug focus placed ready_up root_count
  pop_at {σ} {environment} {s} {ss} {j} {l} {woken} {whole} fs d x t place after S r T K rs p qs slot pe we w =
      record { before = f; place = place; frames = fs; tree_is = refl; who = slot; runs = rw slot (rw (pe, we) runs) }
    where
      N : HeldNode σ true (path_of environment fs) (length (memory_of environment fs)) x nil t
      N = node_of S.todo

      f : Frame
      f = focus x d t

      row : Row
      row = at_place (σ x.slot) place

      c : Calmer σ (with_row σ x.slot row)
      c = calmer-with_row σ x.slot row (at_place-asleep (σ x.slot) place)

      P : List Entry
      P = path_of environment fs

      b : ℕ
      b = length (memory_of environment fs)

      runs : Runs listing now triggers hi (with_row σ x.slot row) environment ss j l after (focus (placed x place) d t) fs whole
      runs = record {
        held = head_put 0 hi nil f fs row 0 (placed x place) refl (ap (λ y. at_place y place) N.row ∙
            at_place-of N.mark P b 0 x place) r (ap (λ y. y.level) N.row ∙ row_level N.mark P b 0 x) (ap (λ y. y.low) N.row ∙
            row_low N.mark P b 0 x) S.done N.siblings S.up;
        range = range_placed 0 hi f fs place r;
        queue = sym qs;
        lists_right = triggers_calm listing c T;
        known = known_then f (focus (placed x place) d t) fs fs c (same_slots f (placed x place) fs refl) K;
        rests = rs;
        paused = p;
        begun = refl;
        same = w;
      }

  -- the ready list of slots has its first: so has the list of keys
  pub record First (ks : List ℕ) (s : ℕ) (ss : List ℕ) : Type 0 where
    pub key : ℕ
    pub keys : List ℕ
    pub is : ks ≡ key ∷ keys
    pub slot : key % 64 ≡ s
    pub slots : slots_in keys ≡ ss

  first_key : (ks : List ℕ) (s : ℕ) (ss : List ℕ) → slots_in ks ≡ s ∷ ss → First ks s ss
  unfolding slots_in
  first_key [] s ss e = let z : ◌≡◌ {A = ℕ} 0 1 = cc in absurd (omega arith)
  first_key (k ∷ ks) s ss e = record { key = k; keys = ks; is = refl; slot = cc; slots = cc }

  pub pop : {σ : Rows} {environment : List Variable} {q : List ℕ} {j l woken : ℕ} {fs : List Frame} {d t : Tree} {whole : Result Turn} (s : ℕ)
      (ss : List ℕ) → q ≡ s ∷ ss → Idle listing now triggers hi σ environment q j l woken fs d t whole →
      Popped σ environment s ss j l woken (plug fs (d ⋈ t)) whole
  unfolding is_leaf first_place count_if
  pop {σ} {environment} {q} {j} {l} {woken} {fs} {d} {t} {whole} s ss e I = rw C.tree (go C.rests)
    where
      F : First (ready listing (memory_of environment fs) t ++ ready_up listing environment fs) s ss
      F = first_key _ s ss (sym I.queue ∙ e)

      C : Found listing now environment j l woken fs d t F.key F.keys
      C = next listing now environment j l woken fs d t F.key F.keys I.paused I.rests I.living F.is

      S : Stands σ environment C.fs C.done (put C.who nil C.todo)
      S = silent_stands C.moves I.stands

      N : HeldNode σ true (path_of environment C.fs) (length (memory_of environment C.fs)) C.who nil C.todo
      N = node_of S.todo

      r : Range 0 hi (plug C.fs (C.done ⋈ put C.who nil C.todo))
      r = rw C.tree at I.range

      K : Known σ (plug C.fs (C.done ⋈ put C.who nil C.todo))
      K = rw C.tree at I.known

      its_slot : s ≡ C.who.slot
      its_slot = sym F.slot ∙ ap (λ z. z % 64) (sym C.its) ∙ key_slot C.who (slot_small 0 hi C.fs C.done C.who nil C.todo r)

      rest_slots : slots_in (ready listing (memory_of environment C.fs) C.todo ++ ready_up listing environment C.fs) ≡ ss
      rest_slots = ap slots_in C.others ∙ F.slots

      P : List Entry
      P = path_of environment C.fs

      b : ℕ
      b = length (memory_of environment C.fs)

      at_first : first_place (σ C.who.slot).asleep (σ C.who.slot).place ≡ first_place (not C.who.is_new) C.who.place
      at_first = start_of σ N.mark P b (root_count nil) C.who N.row (N.marked refl)

      sleeps : count_if (σ C.who.slot).asleep woken ≡ count_if (not C.who.is_new) woken
      sleeps = ap (λ z. count_if z woken) (asleep_of σ N.mark P b (root_count nil) C.who N.row (N.marked refl))

      go : Rests listing true (put C.who nil C.todo) →
          Popped σ environment s ss j l woken (plug C.fs (C.done ⋈ put C.who nil C.todo)) whole
      go (rests_new n rs) =
          pop_at C.fs C.done C.who C.todo C.who.place woken S r I.lists_right K rs C.paused rest_slots its_slot
          (at_first ∙ ap (λ z. first_place (not z) C.who.place) n) (sleeps ∙ ap (λ z. count_if (not z) woken) n)
          (I.same ∙ C.same ∙ begins listing now environment j l woken C.fs C.done C.who C.todo n)
      go (rests_wait {ws = ws} n i rs) =
          pop_at C.fs C.done C.who C.todo (suc C.who.place) (suc woken) S r I.lists_right K rs C.paused rest_slots its_slot
          (at_first ∙ ap (λ z. first_place (not z) C.who.place) n) (sleeps ∙ ap (λ z. count_if (not z) woken) n)
          (I.same ∙ C.same ∙ wakes listing now environment j l woken C.fs C.done C.who C.todo ws n i C.is_ready)

  no_key : (ks : List ℕ) → slots_in ks ≡ [] → ks ≡ []
  unfolding slots_in
  no_key [] e = refl
  no_key (k ∷ ks) e = let z : ◌≡◌ {A = ℕ} 0 1 = cc in absurd (omega arith)

  -- nobody is ready: the walk is over, its tree the one in the rows
  pub finished : {σ : Rows} {environment : List Variable} {j l woken : ℕ} {fs : List Frame} {d t : Tree} {whole : Result Turn} →
      Idle listing now triggers hi σ environment [] j l woken fs d t whole →
      whole ≡ ok (record { running = running_with environment j l woken; tree = erase (plug fs (d ⋈ t)) })
  finished {σ} {environment} {j} {l} {woken} {fs} {d} {t} I = I.same ∙
      over listing now environment j l woken fs d t I.paused I.rests I.living (no_key _ (sym I.queue))
