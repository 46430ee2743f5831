-- A fork: children in slots that are free, whatever stood there before.
-- Letters as in Place and Held.
use mathlib.Core.Path.{◌≡◌, refl, sym, ap, ap₂, ◌∙◌}
use mathlib.Core.Bool.{Bool, true, false, not}
use mathlib.Core.List.{List, [], ◌∷◌, ◌++◌}
use Prim.Native.Nat.{ℕ, suc, ◌+◌, ◌*◌, ◌^◌, ◌%◌, ◌≤◌, ◌<◌}
use native.Mathlib.Nat.{zero-add, zero-mul}
use native.Mathlib.Omega.{arith}
use native.Mathlib.Decide.{ℕ_discrete}
use lib.Dec.{leb}
use lib.ListN.{length}
use Rattle.listing.specs.Listing.{Call, Listing, fork}
use Rattle.walk.specs.State.{Result, Turn, Variable}
use Rattle.walk.specs.Walk.{child_count, instruction_at}
use Rattle.engine_rows.specs.Rows.{Owner, Rows, with_children, with_row}
use Rattle.engine_rows.specs.Triggers.{cons_if}
use Rattle.engine_rows.proofs.Place.{Record, width, Tree, nil, put, ◌⋈◌, Frame, plug, memory_of, key, will_run, ready, ready_up, Rests, rests_nil, rests_new, under, Full}
use Rattle.engine_rows.proofs.Priority.{Range, parts, range_high, new_children, new_children-range, Small}
use Rattle.engine_rows.proofs.Sorted.{In, here, there, Either, this, that, slots_in, slots_in-append}
use Rattle.engine_rows.proofs.Held.{Entry, path_of, root_count, row_for, is_leaf, Held, held_nil, held_put, HeldUp, with_row-same, with_row-other, up_keep, hole, hole_in}
use Rattle.engine_rows.proofs.Moves.{focus, move-F}
use Rattle.engine_rows.proofs.Kept.{head_change, Calmer, calmer-with_row, calmer_then, triggers_calm, slots_of, slots_up, plug_in, up_plug}
use Rattle.engine_rows.proofs.Standing.{Head, head_of}
use Rattle.engine_rows.proofs.EngineState.{Runs, Idle, with_children-of}

bool_not : {A : Type 0} → true ≡ false → A
bool_not e = let z : ◌≡◌ {A = ℕ} 0 1 = cc in absurd (omega arith)

unfoldable pub allocated : Rows → List Entry → ℕ → Tree → Rows
allocated σ p b nil = σ
allocated σ p b (put x k f) = allocated (with_row σ x.slot (row_for false p b 0 x)) p b f

-- each new one's slot is free when it is taken
pub data FreeFor (p : List Entry) (b : ℕ) : Rows → Tree → Type 0 where
  free_for_nil : {σ : Rows} → FreeFor p b σ nil
  free_for_put : {σ : Rows} {x : Record} {f : Tree} → (σ x.slot).used ≡ false → x.is_new ≡ true →
      FreeFor p b (with_row σ x.slot (row_for false p b 0 x)) f → FreeFor p b σ (put x nil f)

row_used : (z : Bool) (p : List Entry) (b n : ℕ) (x : Record) → (row_for z p b n x).used ≡ true
unfolding row_for
row_used z p b n x = refl

row_asleep : (z : Bool) (p : List Entry) (b n : ℕ) (x : Record) → (row_for z p b n x).asleep ≡ z
unfolding row_for
row_asleep z p b n x = refl

pub allocated_keeps : {p : List Entry} {b : ℕ} {σ : Rows} {t : Tree} (s : ℕ) → FreeFor p b σ t → (σ s).used ≡ true → allocated σ p b t s ≡ σ s
unfolding allocated
allocated_keeps s free_for_nil u = refl
allocated_keeps {p} {b} {σ} s (free_for_put {x = x} {f = f} e w r) u = allocated_keeps s r (ap (λ y. y.used) other ∙ u) ∙ other
  where
    other : with_row σ x.slot (row_for false p b 0 x) s ≡ σ s
    other = with_row-other σ x.slot (row_for false p b 0 x) s (λ q. let z : true ≡ false = sym u ∙ ap (λ i. (σ i).used) q ∙ e in bool_not z)

pub allocated_held : {p : List Entry} {b : ℕ} {σ : Rows} {t : Tree} → FreeFor p b σ t → Held (allocated σ p b t) true p b t
unfolding allocated root_count is_leaf
allocated_held free_for_nil = held_nil
allocated_held {p} {b} {σ} (free_for_put {x = x} {f = f} e w r) =
    held_put false (λ q. sym (ap not w)) (allocated_keeps x.slot r (ap (λ y. y.used) (with_row-same σ x.slot (row_for false p b 0 x)) ∙
    row_used false p b 0 x) ∙ with_row-same σ x.slot (row_for false p b 0 x)) held_nil (allocated_held r)

pub allocated_used : {p : List Entry} {b : ℕ} {σ : Rows} {t : Tree} (s : ℕ) → FreeFor p b σ t → (allocated σ p b t s).used ≡ true →
    Either ((σ s).used ≡ true) (In s (slots_of t))
unfolding allocated slots_of
allocated_used s free_for_nil u = this u
allocated_used {p} {b} {σ} s (free_for_put {x = x} {f = f} e w r) u = go (allocated_used s r u)
  where
    old : Dec (s ≡ x.slot) → (with_row σ x.slot (row_for false p b 0 x) s).used ≡ true → Either ((σ s).used ≡ true) (In s (x.slot ∷ slots_of f))
    old (yes q) v = that (here q)
    old (no q) v = this (ap (λ y. y.used) (sym (with_row-other σ x.slot (row_for false p b 0 x) s q)) ∙ v)

    go : Either ((with_row σ x.slot (row_for false p b 0 x) s).used ≡ true) (In s (slots_of f)) →
        Either ((σ s).used ≡ true) (In s (x.slot ∷ slots_of f))
    go (this v) = old (ℕ_discrete s x.slot) v
    go (that i) = that (there i)

pub allocated_calmer : {p : List Entry} {b : ℕ} {σ : Rows} {t : Tree} → FreeFor p b σ t → Calmer σ (allocated σ p b t)
unfolding allocated
allocated_calmer {σ = σ} free_for_nil = record { was = λ s a. record { asleep = a; low = refl; bindings = refl; routine = refl; place = refl } }
allocated_calmer {p} {b} {σ} (free_for_put {x = x} {f = f} e w r) =
    calmer_then (calmer-with_row σ x.slot (row_for false p b 0 x) (row_asleep false p b 0 x)) (allocated_calmer r)

unfoldable pub keys : Tree → List ℕ
keys nil = []
keys (put x k f) = key x ∷ keys f

unfoldable pub root_slots : Tree → List ℕ
root_slots nil = []
root_slots (put x k f) = x.slot ∷ root_slots f

root_slots_lem : {t : Tree} {lo hi : ℕ} → Range lo hi t → slots_in (keys t) ≡ root_slots t
unfolding keys root_slots slots_in key
root_slots_lem {t = nil} r = refl
root_slots_lem {t = put x k f} r = let h : x.slot < 64 = (parts r).slots in let e : (x.low * 64 + x.slot) % 64 ≡ x.slot =
    omega arith in ap₂ ◌∷◌ e (root_slots_lem {t = f} (parts r).siblings)

module _ (listing : Listing) where
  fresh_ready : {p : List Entry} {b : ℕ} {σ : Rows} {t : Tree} (m : List Variable) → FreeFor p b σ t → keys t ≡ ready listing m t
  unfolding keys ready will_run cons_if
  fresh_ready m free_for_nil = refl
  fresh_ready m (free_for_put {x = x} {f = f} e w r) = rw (w, fresh_ready m r)

  fresh_rests : {p : List Entry} {b : ℕ} {σ : Rows} {t : Tree} → FreeFor p b σ t → Rests listing true t
  fresh_rests free_for_nil = rests_nil
  fresh_rests (free_for_put e w r) = rests_new w (fresh_rests r)

module _ (listing : Listing) (now : ℕ) (triggers : Owner →
    List ℕ) (hi : ℕ) (σ : Rows) (environment : List Variable) (q : List ℕ) (j l woken : ℕ) (f : Frame) (fs : List Frame) (whole : Result Turn)
    (cs : List Call) (ss : List ℕ) (b : ℕ) where
  abbrev me : ℕ
  me = f.self.slot

  abbrev young : Tree
  young = new_children listing now (memory_of environment (f ∷ fs)) f.self.names cs ss 0 f.self.low b

  abbrev rows₁ : Rows
  rows₁ = with_row σ me (with_children (σ me) (root_count young))

  abbrev path : List Entry
  path = path_of environment (f ∷ fs)

  abbrev base : ℕ
  base = length (memory_of environment (f ∷ fs))

  pub runs-F : Runs listing now triggers hi σ environment q (suc j) l woken f fs whole →
      instruction_at listing f.self.routine f.self.place ≡ fork cs → leb (l + child_count cs) 64 ≡ true → leb (length fs) 9 ≡ true →
      child_count cs * 2 ^ b ≤ width f.self → Small ss → FreeFor path base rows₁ young → Full young →
      Idle listing now triggers hi (allocated rows₁ path base young) environment (root_slots young ++ q) j (l + child_count cs) woken (f ∷ fs) nil young
      whole
  unfolding ◌⋈◌ focus root_count hole hole_in slots_of
  runs-F R i x y fits sm fr fl =
      record {
        stands = record {
          up = up_keep (allocated rows₁ path base young) 0 hi nil R.range held₁ (λ s us a. allocated_keeps s fr us);
          done = held_nil;
          todo = allocated_held fr;
        };
        range = (hole 0 hi (f ∷ fs) nil R.range).again young range₁;
        queue = ap₂ ◌++◌ (sym (root_slots_lem range₁) ∙ ap slots_in (fresh_ready listing (memory_of environment (f ∷ fs)) fr)) R.queue ∙
            sym (slots_in-append (ready listing (memory_of environment (f ∷ fs)) young) (ready_up listing environment (f ∷ fs)));
        lists_right = triggers_calm listing calm R.lists_right;
        known = record { all = λ s a. go s (plug_in (f ∷ fs) nil (R.known.all s (calm.was s a).asleep)) };
        rests = fresh_rests listing fr;
        paused = under R.begun i R.rests R.paused;
        living = fl;
        same = R.same ∙ move-F listing now environment j l woken f fs cs ss b i x y;
      }
    where
      start : f.self.low + 0 * 2 ^ b ≡ f.self.low
      start = omega (arith, zero-mul (2 ^ b))

      last : f.self.low + (0 + child_count cs) * 2 ^ b ≤ f.self.low + width f.self
      last = rw (zero-add (child_count cs)) (omega arith)

      range₁ : Range f.self.low (f.self.low + width f.self) young
      range₁ = range_high _ last (rw start at (new_children-range listing now (memory_of environment (f ∷ fs)) f.self.names cs ss 0 f.self.low b
          sm))

      H : Head σ environment 0 f fs
      H = head_of R.held

      row_is : with_children (σ me) (root_count young) ≡ row_for false (path_of environment fs) (length (memory_of environment fs)) (0 + root_count young)
          f.self
      row_is = ap (λ z. with_children z (root_count young)) H.row ∙
          with_children-of false (path_of environment fs) (length (memory_of environment fs)) 0 (root_count young) f.self ∙
          ap (λ n. row_for false (path_of environment fs) (length (memory_of environment fs)) n f.self) (sym (zero-add (root_count young)))

      held₁ : HeldUp rows₁ environment (0 + root_count young) (f ∷ fs)
      held₁ = head_change 0 hi nil (with_children (σ me) (root_count young)) (0 + root_count young) f.self refl row_is R.range R.held

      calm : Calmer σ (allocated rows₁ path base young)
      calm = calmer_then (calmer-with_row σ me (with_children (σ me) (root_count young)) (ap (λ z. z.asleep) row_is ∙
          row_asleep false (path_of environment fs) (length (memory_of environment fs)) (0 + root_count young) f.self)) (allocated_calmer fr)

      go : (s : ℕ) → Either (In s (slots_of nil)) (In s (slots_up (f ∷ fs))) → In s (slots_of (plug (f ∷ fs) young))
      go s (this b) = elim b [ ]
      go s (that b) = up_plug (f ∷ fs) young b
