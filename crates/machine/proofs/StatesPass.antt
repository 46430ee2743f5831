-- Every tree that meets question 7's condition passes the scan of its records.
use mathlib.Core.Path.{◌≡◌, refl, ◌∙◌}
use mathlib.Core.Bool.{Bool, true, false}
use mathlib.Core.List.{List, [], ◌∷◌, ◌++◌, append_assoc}
use Prim.Native.Nat.{ℕ, suc, ◌-◌, ◌<◌, ◌≤◌}
use lib.ListN.{length, drop}
use borrow.Author.Tests.{lt-ltb, le-leb, eq-eqb}
use native.Mathlib.Omega.{arith}
use native.Mathlib.Nat.{le_refl}
use Rattle.listing.specs.Listing.{Listing, Call}
use Rattle.walk.specs.State.{Node, Forest, more}
use Rattle.walk.specs.Walk.{instruction_at}
use Rattle.walk.specs.Question7.{Asleep, waits, joins, LiveChildren, no_more, ended, lives, all_at_rest, owned_by, some_alive}
use Rattle.machine.specs.Records.{Record, records_of_node, records_of, Frame, level_fits, asleep_at, made_by_first, child_of_frame, scan}
use Rattle.machine.proofs.Basics.{clash, drop_more}

-- what follows begins above level n
pub data Above (n : ℕ) : List Record → Type 0 where
  above_end : Above n []
  above_record : {x : Record} {xs : List Record} → x.level < n → Above n (x ∷ xs)

module _ (listing : Listing) (now : ℕ) where
  -- a frame of which no child comes any more
  leave_frame : (xs : List Record) (frame : Frame) (outer : List Frame) → Above (length outer) xs → scan listing now xs false (frame ∷ outer) ≡ scan listing now xs false outer
  unfolding scan level_fits
  leave_frame _ frame outer above_end = refl
  leave_frame _ frame outer (above_record {x = x} h) =
      let p : suc (length outer) - suc x.level ≡ suc (length outer - suc x.level) = omega arith in
      rw (lt-ltb x.level (suc (length outer)) (omega arith), lt-ltb x.level (length outer) h, p)

  first_passes : (x : Record) (xs : List Record) (childNext : Bool) (frame : Frame) (outer : List Frame) (c : Call) (cs : List Call) →
      length outer ≡ x.level → frame.next ≤ x.child → drop (x.child - frame.next) frame.calls ≡ c ∷ cs →
      length x.own ≡ owned_by listing c.callee → all_at_rest now x.own ≡ true →
      scan listing now (x ∷ xs) childNext (frame ∷ outer) ≡ asleep_at listing now (instruction_at listing c.callee x.place) x.level (scan listing now xs) (record { next = suc x.child; calls = cs } ∷ outer)
  unfolding scan level_fits child_of_frame made_by_first
  first_passes x xs true frame outer c cs l n d o q =
      let p : suc (length outer) - suc x.level ≡ 0 = omega arith in
      rw (eq-eqb (suc x.level) (suc (length outer)) (omega arith), p, le-leb frame.next x.child n, d, eq-eqb _ _ o, q)
  first_passes x xs false frame outer c cs l n d o q =
      let p : suc (length outer) - suc x.level ≡ 0 = omega arith in
      rw (lt-ltb x.level (suc (length outer)) (omega arith), p, le-leb frame.next x.child n, d, eq-eqb _ _ o, q)

  pub records_are_low : {level base : ℕ} {callerNames : List ℕ} {cs : List Call} {f : Forest} (k : LiveChildren listing (all_at_rest now) level base callerNames cs f) (i : ℕ) (xs : List Record) → Above level xs → Above (suc level) (records_of k i ++ xs)
  unfolding records_of
  records_are_low {level = level} no_more i _ above_end = above_end
  records_are_low {level = level} no_more i _ (above_record {x = x} h) = above_record {x = x} (omega arith)
  records_are_low (ended k) i xs h = records_are_low k (suc i) xs h
  records_are_low (lives (waits m e) k) i xs h = above_record (le_refl _)
  records_are_low (lives (joins m e d a k') k) i xs h = above_record (le_refl _)

  mutual
    unfolding records_of asleep_at some_alive

    node_passes : {level base : ℕ} {callerNames : List ℕ} {c : Call} {n : Node} (a : Asleep listing (all_at_rest now) level base callerNames c n) (i : ℕ) (xs : List Record) (childNext : Bool) (frame : Frame) (outer : List Frame) (cs : List Call) →
        length outer ≡ level → frame.next ≤ i → drop (i - frame.next) frame.calls ≡ c ∷ cs → Above (suc level) xs →
        scan listing now (records_of_node a i ++ xs) childNext (frame ∷ outer) ≡ scan listing now xs false (record { next = suc i; calls = cs } ∷ outer)
    node_passes (waits {c = c} {place = place} m e) i xs childNext frame outer cs l n d h =
        first_passes _ xs childNext frame outer c cs l n d m.owned m.resting ∙ rw (← m.number, e)
    node_passes (joins {level = level} {c = c} {place = place} {cs = cs'} m e dp al k) i xs childNext frame outer cs l n d h =
        first_passes _ (records_of k 0 ++ xs) childNext frame outer c cs l n d m.owned m.resting ∙
        rw (← m.number, e, le-leb level 9 dp) (children_pass k 0 xs true (record { next = 0; calls = cs' }) (record { next = suc i; calls = cs } ∷ outer) (omega arith) (le_refl 0) refl h (λ z. al))

    pub children_pass : {level base : ℕ} {callerNames : List ℕ} {cs : List Call} {f : Forest} (k : LiveChildren listing (all_at_rest now) level base callerNames cs f) (i : ℕ) (xs : List Record) (childNext : Bool) (frame : Frame) (outer : List Frame) →
        length outer ≡ level → frame.next ≤ i → drop (i - frame.next) frame.calls ≡ cs → Above level xs → (childNext ≡ true → some_alive f ≡ true) →
        scan listing now (records_of k i ++ xs) childNext (frame ∷ outer) ≡ scan listing now xs false outer
    children_pass no_more i xs true frame outer l n d h h0 = clash (h0 refl)
    children_pass no_more i xs false frame outer l n d h h0 = leave_frame xs frame outer (rw l h)
    children_pass (ended k) i xs childNext frame outer l n d h h0 =
        let p : suc i - frame.next ≡ suc (i - frame.next) = omega arith in
        children_pass k (suc i) xs childNext frame outer l (omega arith) (rw p (drop_more (i - frame.next) frame.calls _ _ d)) h h0
    children_pass (lives {cs = cs} a k) i xs childNext frame outer l n d h h0 =
        rw (append_assoc (records_of_node a i) (records_of k (suc i)) xs)
        (node_passes a i (records_of k (suc i) ++ xs) childNext frame outer cs l n d (records_are_low k (suc i) xs h) ∙
        children_pass k (suc i) xs false (record { next = suc i; calls = cs }) outer l (le_refl _) (let p : suc i - suc i ≡ 0 = omega arith in rw p) h (λ z. clash z))
