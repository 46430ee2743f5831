-- A list of records that passes the scan is that of a tree which meets question 7's condition.
use mathlib.Core.Path.{◌≡◌, refl, sym, ap, ap₂, ◌∙◌}
use mathlib.Core.Bool.{Bool, true, false}
use mathlib.Core.List.{List, [], ◌∷◌, ◌++◌, append_assoc, append-nil}
use Prim.Native.Nat.{ℕ, zero, suc, ◌+◌, ◌-◌, ◌<◌, ◌≤◌}
use lib.Dec.{leb, eqb}
use lib.ListN.{length, drop, length-drop}
use borrow.Author.Tests.{ltb-true, leb-true, eqb-true}
use native.Mathlib.Omega.{arith}
use Rattle.listing.specs.Listing.{Listing, Call, Instruction, assign, schedule, branch, jump, wait, fork, end}
use Rattle.walk.specs.State.{node, Forest, empty, more}
use Rattle.walk.specs.Walk.{instruction_at}
use Rattle.walk.specs.Question7.{waits, joins, LiveChildren, no_more, ended, lives, all_at_rest, owned_by, bound_names, some_alive}
use Rattle.machine.specs.Records.{Record, records_of, Frame, level_fits, asleep_at, made_by_first, child_of_frame, scan}
use Rattle.machine.proofs.Basics.{clash, and_left, and_right}

unfoldable pub any_record : List Record → Bool
any_record [] = false
any_record (x ∷ xs) = true

module _ (listing : Listing) (now : ℕ) where
  -- the records ys are children of calls cs, the first of them number i, whoever the parent is
  pub record Children (level i : ℕ) (cs : List Call) (ys : List Record) : Type 0 where
    pub made : (base : ℕ) (callerNames : List ℕ) → (f : Forest) × (k : LiveChildren listing (all_at_rest now) level base callerNames cs f) × (records_of k i ≡ ys)

  -- the records that close the frames, innermost first
  pub data Closing : Bool → List Frame → List Record → Type 0 where
    all_closed : Closing false [] []
    closing : {childNext : Bool} {frame : Frame} {frames : List Frame} {ys zs xs : List Record} →
        (childNext ≡ true → any_record ys ≡ true) → xs ≡ ys ++ zs → Children (length frames) frame.next frame.calls ys → Closing false frames zs → Closing childNext (frame ∷ frames) xs

  one_ended : {level i : ℕ} {c : Call} {cs : List Call} {ys : List Record} → Children level (suc i) cs ys → Children level i (c ∷ cs) ys
  unfolding records_of
  one_ended h = record { made = λ base callerNames. let (f, k, e) = h.made base callerNames in (f, ended k, e) }

  -- nobody lives
  nobody_lives : (level i : ℕ) (cs : List Call) → Children level i cs []
  unfolding records_of
  nobody_lives level i [] = record { made = λ base callerNames. (empty, no_more, refl) }
  nobody_lives level i (c ∷ cs) = one_ended (nobody_lives level (suc i) cs)

  all_frames_closed : (frames : List Frame) → Closing false frames []
  all_frames_closed [] = all_closed
  all_frames_closed (frame ∷ frames) = closing (λ e. clash e) refl (nobody_lives _ _ _) (all_frames_closed frames)

  -- the innermost frames are left
  leave_inner_frames : (k : ℕ) (frames : List Frame) (xs : List Record) → Closing false (drop k frames) xs → Closing false frames xs
  leave_inner_frames zero frames xs p = p
  leave_inner_frames (suc k) [] xs p = p
  leave_inner_frames (suc k) (frame ∷ frames) xs p = closing (λ e. clash e) refl (nobody_lives _ _ _) (leave_inner_frames k frames xs p)

  weaken_child_next : {childNext : Bool} {frames : List Frame} {xs : List Record} → Closing true frames xs → Closing childNext frames xs
  weaken_child_next (closing h e base p) = closing (λ z. h refl) e base p

  -- no record, no child
  record_means_alive : {level base : ℕ} {callerNames : List ℕ} {cs : List Call} {f : Forest} (k : LiveChildren listing (all_at_rest now) level base callerNames cs f) (i : ℕ) → any_record (records_of k i) ≡ true → some_alive f ≡ true
  unfolding records_of any_record some_alive
  record_means_alive no_more i e = e
  record_means_alive (ended k) i e = record_means_alive k (suc i) e
  record_means_alive (lives a k) i e = refl

  -- as many calls whose child has ended
  skip_ended : (n level i j : ℕ) (cs ds : List Call) (c : Call) (ys : List Record) → drop n cs ≡ c ∷ ds → j ≡ i + n → Children level j (c ∷ ds) ys → Children level i cs ys
  skip_ended zero level i j cs ds c ys e q k = let p : j ≡ i = omega arith in rw (e, ← p) k
  skip_ended (suc n) level i j [] ds c ys e q k = let z : ◌≡◌ {A = ℕ} 0 1 = cc in absurd (let y : ⊥ = omega arith in y)
  skip_ended (suc n) level i j (d ∷ cs) ds c ys e q k = one_ended (skip_ended n level (suc i) j cs ds c ys e (omega arith) k)

  -- a sleeper and those after it
  sleeper_at_wait : (x : Record) (c : Call) (cs : List Call) (ws : List ℕ) (ys : List Record) →
      length x.own ≡ owned_by listing c.callee → all_at_rest now x.own ≡ true → instruction_at listing c.callee x.place ≡ wait ws →
      Children x.level (suc x.child) cs ys → Children x.level x.child (c ∷ cs) (x ∷ ys)
  unfolding records_of
  sleeper_at_wait x c cs ws ys o q h0 h = record {
    made = λ base callerNames.
        let (f, k, e) = h.made base callerNames in
        (more (node c.callee x.place (bound_names listing base callerNames c) x.own empty) f, lives (waits (record { number = refl; bound = refl; owned = o; resting = q }) h0) k, ap (λ l. x ∷ l) e);
  }

  sleeper_at_fork : (x : Record) (c : Call) (cs ds : List Call) (ys zs : List Record) →
      length x.own ≡ owned_by listing c.callee → all_at_rest now x.own ≡ true → instruction_at listing c.callee x.place ≡ fork ds → x.level ≤ 9 →
      any_record zs ≡ true → Children (suc x.level) 0 ds zs → Children x.level (suc x.child) cs ys → Children x.level x.child (c ∷ cs) (x ∷ (zs ++ ys))
  unfolding records_of
  sleeper_at_fork x c cs ds ys zs o q h0 dp sm g h = record {
    made = λ base callerNames.
        let (f, k, e) = h.made base callerNames in
        let (f', k', e') = g.made (base + length x.own) (bound_names listing base callerNames c) in (
          more (node c.callee x.place (bound_names listing base callerNames c) x.own f') f,
          lives (joins (record { number = refl; bound = refl; owned = o; resting = q }) h0 dp (record_means_alive k' 0 (rw e' sm)) k') k,
          ap₂ (λ l m. x ∷ (l ++ m)) e' e,
        );
  }

  -- the rest of the list, by recursion
  abbrev RestCloses : List Record → Type 0
  RestCloses xs = (childNext : Bool) (frames : List Frame) → scan listing now xs childNext frames ≡ true → Closing childNext frames xs

  fork_closes : (x : Record) (xs : List Record) (c : Call) (cs ds : List Call) (outer : List Frame) → length outer ≡ x.level →
      length x.own ≡ owned_by listing c.callee → all_at_rest now x.own ≡ true → instruction_at listing c.callee x.place ≡ fork ds → x.level ≤ 9 →
      Closing true (record { next = 0; calls = ds } ∷ record { next = suc x.child; calls = cs } ∷ outer) xs → Closing true (record { next = x.child; calls = c ∷ cs } ∷ outer) (x ∷ xs)
  unfolding any_record
  fork_closes x xs c cs ds outer l o q h0 dp (closing {ys = zs} sm e g (closing {ys = ys} sm' e' h p)) =
      closing {frame = record { next = x.child; calls = c ∷ cs }} {frames = outer} {ys = x ∷ (zs ++ ys)} (λ z. refl) (ap (λ m. x ∷ m) (e ∙ ap (λ m. zs ++ m) e' ∙ sym (append_assoc zs ys _))) (rw l (sleeper_at_fork x c cs ds ys zs o q h0 dp (sm refl) (rw l at g) (rw l at h))) p

  wait_closes : (x : Record) (xs : List Record) (c : Call) (cs : List Call) (ws : List ℕ) (outer : List Frame) → length outer ≡ x.level →
      length x.own ≡ owned_by listing c.callee → all_at_rest now x.own ≡ true → instruction_at listing c.callee x.place ≡ wait ws →
      Closing false (record { next = suc x.child; calls = cs } ∷ outer) xs → Closing true (record { next = x.child; calls = c ∷ cs } ∷ outer) (x ∷ xs)
  unfolding any_record
  wait_closes x xs c cs ws outer l o q h0 (closing {ys = ys} sm e h p) =
      closing {frame = record { next = x.child; calls = c ∷ cs }} {frames = outer} {ys = x ∷ ys} (λ z. refl) (ap (λ m. x ∷ m) e) (rw l (sleeper_at_wait x c cs ws ys o q h0 (rw l at h))) p

  by_instruction : (i : Instruction) (x : Record) (xs : List Record) (c : Call) (cs : List Call) (outer : List Frame) → RestCloses xs → length outer ≡ x.level →
      length x.own ≡ owned_by listing c.callee → all_at_rest now x.own ≡ true → instruction_at listing c.callee x.place ≡ i →
      asleep_at listing now i x.level (scan listing now xs) (record { next = suc x.child; calls = cs } ∷ outer) ≡ true → Closing true (record { next = x.child; calls = c ∷ cs } ∷ outer) (x ∷ xs)
  unfolding asleep_at
  by_instruction (assign n e) x xs c cs outer r l o q h0 h = clash h
  by_instruction (schedule n d e) x xs c cs outer r l o q h0 h = clash h
  by_instruction (branch e k) x xs c cs outer r l o q h0 h = clash h
  by_instruction (jump k) x xs c cs outer r l o q h0 h = clash h
  by_instruction (wait ws) x xs c cs outer r l o q h0 h = wait_closes x xs c cs ws outer l o q h0 (r false _ h)
  by_instruction (fork ds) x xs c cs outer r l o q h0 h = fork_closes x xs c cs ds outer l o q h0 (leb-true _ _ (and_left (leb x.level 9) _ h)) (r true _ (and_right (leb x.level 9) _ h))
  by_instruction end x xs c cs outer r l o q h0 h = clash h

  by_call : (ds : List Call) (x : Record) (xs : List Record) (frame : Frame) (outer : List Frame) → RestCloses xs → length outer ≡ x.level → frame.next ≤ x.child →
      drop (x.child - frame.next) frame.calls ≡ ds → made_by_first listing now x (scan listing now xs) ds outer ≡ true → Closing true (frame ∷ outer) (x ∷ xs)
  unfolding made_by_first
  by_call [] x xs frame outer r l n d h = clash h
  by_call (c ∷ cs) x xs frame outer r l n d h =
      let g = and_right (eqb (length x.own) (owned_by listing c.callee)) _ h in
      moved (by_instruction (instruction_at listing c.callee x.place) x xs c cs outer r l (eqb-true _ _ (and_left (eqb (length x.own) (owned_by listing c.callee)) _ h)) (and_left (all_at_rest now x.own) _ g) refl (and_right (all_at_rest now x.own) _ g))
    where
      moved : Closing true (record { next = x.child; calls = c ∷ cs } ∷ outer) (x ∷ xs) → Closing true (frame ∷ outer) (x ∷ xs)
      moved (closing {ys = ys} sm e base p) = closing sm e (skip_ended (x.child - frame.next) _ frame.next x.child frame.calls cs c ys d (omega arith) base) p

  by_frame : (frames : List Frame) (x : Record) (xs : List Record) → RestCloses xs → length frames ≡ suc x.level → child_of_frame listing now x (scan listing now xs) frames ≡ true → Closing true frames (x ∷ xs)
  unfolding child_of_frame
  by_frame [] x xs r l h = clash h
  by_frame (frame ∷ outer) x xs r l h = by_call _ x xs frame outer r (omega arith) (leb-true _ _ (and_left (leb frame.next x.child) _ h)) refl (and_right (leb frame.next x.child) _ h)

  by_need : (childNext : Bool) (x : Record) (xs : List Record) (frames : List Frame) → RestCloses xs → level_fits childNext x.level (length frames) ≡ true →
      child_of_frame listing now x (scan listing now xs) (drop (length frames - suc x.level) frames) ≡ true → Closing childNext frames (x ∷ xs)
  unfolding level_fits
  by_need true x xs frames r d h =
      let q : suc x.level ≡ length frames = eqb-true _ _ d in
      let z : length frames - suc x.level ≡ 0 = omega arith in
      by_frame frames x xs r (sym q) (rw z at h)
  by_need false x xs frames r d h =
      let q : x.level < length frames = ltb-true _ _ d in
      let z : length (drop (length frames - suc x.level) frames) ≡ suc x.level = simp length-drop (omega arith) in
      leave_inner_frames (length frames - suc x.level) frames (x ∷ xs) (weaken_child_next (by_frame _ x xs r z h))

  pub scan_closes : (xs : List Record) → RestCloses xs
  unfolding scan
  scan_closes [] true frames e = clash e
  scan_closes [] false frames e = all_frames_closed frames
  scan_closes (x ∷ xs) childNext frames e = by_need childNext x xs frames (scan_closes xs) (and_left (level_fits childNext x.level (length frames)) _ e) (and_right (level_fits childNext x.level (length frames)) _ e)

  -- the whole list: one frame
  pub passing_records_are_children : (xs : List Record) (frame : Frame) → scan listing now xs false (frame ∷ []) ≡ true → Children 0 frame.next frame.calls xs
  passing_records_are_children xs frame e = whole (scan_closes xs false (frame ∷ []) e)
    where
      whole : Closing false (frame ∷ []) xs → Children 0 frame.next frame.calls xs
      whole (closing {ys = ys} sm q base all_closed) = rw (q ∙ append-nil ys) base
