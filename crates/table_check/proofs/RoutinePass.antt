-- The pass over the routines asks of them, together, what question 6 asks of them.
use mathlib.Core.Path.{◌≡◌, refl, ap, ◌∙◌}
use mathlib.Core.Bool.{Bool, true, false, cond, ◌&&◌, not}
use mathlib.Core.List.{List, [], ◌∷◌, ◌++◌}
use Prim.Native.Nat.{ℕ, zero, suc, ◌+◌, ◌*◌, ◌-◌, ◌≤◌, ◌<◌}
use native.Mathlib.Omega.{arith}
use lib.Dec.{leb}
use lib.ListN.{length, length-append}
use Rattle.std.proofs.Common.{Option, Some, None}
use Rattle.std.specs.Prelude.{option_and_then}
use Rattle.std.specs.Option.{option_map_or}
use borrow.Author.Tests.{le-leb, leb-true}
use Rattle.listing.specs.Lists.{all, is_empty, all_yes}
use Rattle.listing.specs.Listing.{Routine, name_count}
use Rattle.listing.specs.Questions.{opens_as_stated, may_be_last, last_answers}
use Rattle.table.specs.Areas.{words_of_each, routine_words, all_routines, all_code, all_cells, all_entries}
use Rattle.table.specs.Decode.{word, instruction_at_entry, code_at_entry, routine_entry, routine_at_entry, routines_at_entry, table_listing}
use Rattle.table.proofs.Lengths.{routine_five, entries_append, cells_append, entries_length}
use Rattle.table.proofs.Reach.{code_count, kinds_count_lem}
use Rattle.table.proofs.Tests.{and_left, and_right, and_no}
use Rattle.table_check_cells.specs.Pass.{same_at, instruction_passes, code_past, code_test}
use Rattle.table_check_cells.proofs.Words.{same_split, leb_before}
use Rattle.table_check_code.proofs.Instructions.{code_past_lem}
use Rattle.table_check_ends.specs.Ends.{tail_test}
use Rattle.table_check.specs.Check.{routine_passes, routine_test, opening_test, routine_past, pass_from, routines_pass, routines_test}
use Rattle.table_check.proofs.Opening.{opened, last_answers_lem}

-- ── one routine ──────────────────────────────────────────────────────────────────
regroup : (head passes line last room end entry entries cells : Bool)
    → ((head && (passes && (line && last))) && (room && (end && (entry && (entries && cells)))))
    ≡ ((head && (line && (room && entry))) && ((passes && (end && (entries && cells))) && last))
regroup false passes line last room end entry entries cells = refl
regroup true false line last room end entry entries cells = simp and_no
regroup true true false last room end entry entries cells = refl
regroup true true true false room end entry entries cells = simp and_no
regroup true true true true false end entry entries cells = refl
regroup true true true true true false entry entries cells = simp and_no
regroup true true true true true true false entries cells = refl
regroup true true true true true true true false cells = refl
regroup true true true true true true true true false = refl
regroup true true true true true true true true true = refl

module _ (w : List ℕ) (number first cells : ℕ) where
  abbrev routine : Routine
  routine = routine_at_entry w (routine_entry number)

  abbrev size : ℕ
  size = word w (routine_entry number + 4)

  abbrev names : ℕ
  names = word w (routine_entry number + 0) + word w (routine_entry number + 2)

  -- the entry, the instructions, the last of them
  test_split : routine_test w number first cells routine
      ≡ (opening_test w number first && (code_test w (name_count routine) (length routine.code) (328 + 5 * first) cells routine.code && all_yes (last_answers routine.code)))
  unfolding routine_test routine_passes opening_test code_test
  test_split =
      let r = routine in
      regroup (leb (name_count r) 16 && opens_as_stated (table_listing w) number r)
      (all (instruction_passes (table_listing w).routines (name_count r) (length r.code)) r.code)
      (not (is_empty r.code)) (all_yes (last_answers r.code)) (leb (first + length r.code) 512) (leb (cells + length (all_cells r.code)) 11080)
      (same_at w (routine_entry number) (routine_words first r)) (same_at w (328 + 5 * first) (all_entries cells r.code)) (same_at w cells (all_cells r.code))

  names_are : name_count routine ≡ names
  unfolding routine_at_entry
  names_are = rw (kinds_count_lem (word w (routine_entry number + 0)) (word w (routine_entry number + 1)))

  pub size_is : length routine.code ≡ size
  unfolding routine_at_entry
  size_is = code_count w size (328 + 5 * word w (routine_entry number + 3))

  code_is : word w (routine_entry number + 3) ≡ first → routine.code ≡ code_at_entry w (328 + 5 * first) size
  unfolding routine_at_entry
  code_is h = rw h

  -- what the routine's check gives, from the checks of its parts
  abbrev from_parts : Bool → Option ℕ → Bool → Option ℕ
  from_parts opening m last = cond opening (option_and_then (λ k. cond last (Some k) None) m) None

  parts : (o c l : Bool) (v : ℕ) → cond (o && (c && l)) (Some v) None ≡ from_parts o (cond c (Some v) None) l
  parts false c l v = refl
  parts true false l v = refl
  parts true true l v = refl

  pub routine_past_lem : cells ≤ 11080 → routine_past w number first cells
      ≡ from_parts (opening_test w number first) (code_past w names size (328 + 5 * first) cells size) (all_yes (last_answers (code_at_entry w (328 + 5 * first) size)))
  unfolding routine_past
  routine_past_lem u = rw test_split (go (opening_test w number first) refl)
    where
      go : (o : Bool) → opening_test w number first ≡ o
          → cond (o && (code_test w (name_count routine) (length routine.code) (328 + 5 * first) cells routine.code && all_yes (last_answers routine.code))) (Some (cells + length (all_cells routine.code))) None
          ≡ from_parts o (code_past w names size (328 + 5 * first) cells size) (all_yes (last_answers (code_at_entry w (328 + 5 * first) size)))
      go false h = refl
      go true h =
          let e = 328 + 5 * first in
          let code = code_at_entry w e size in
          rw (names_are, size_is, code_is (opened w number first h).start, code_past_lem w names size size e cells u)
          (parts true (code_test w names size e cells code) (all_yes (last_answers code)) (cells + length (all_cells code)))

  -- the four ways in which the check of a routine ends
  pub closed : cells ≤ 11080 → opening_test w number first ≡ false → routine_past w number first cells ≡ None
  closed u h = routine_past_lem u ∙ rw h

  module _ (u : cells ≤ 11080) (h : opening_test w number first ≡ true) where
    -- the address of the last instruction's entry
    abbrev last : ℕ
    last = 328 + 5 * first + 5 * (size - 1)

    last_is : all_yes (last_answers (code_at_entry w (328 + 5 * first) size)) ≡ may_be_last (instruction_at_entry w last)
    last_is =
        let line = (opened w number first h).line in
        let s : size ≡ suc (size - 1) = omega arith in
        ap (λ (k : ℕ). all_yes (last_answers (code_at_entry w (328 + 5 * first) k))) s ∙ last_answers_lem w (size - 1) (328 + 5 * first)

    pub stopped : code_past w names size (328 + 5 * first) cells size ≡ None → routine_past w number first cells ≡ None
    stopped c = routine_past_lem u ∙ rw (h, c)

    pub unended : may_be_last (instruction_at_entry w last) ≡ false → routine_past w number first cells ≡ None
    unended e = routine_past_lem u ∙ rw (h, last_is, e) (go (code_past w names size (328 + 5 * first) cells size))
      where
        go : (m : Option ℕ) → option_and_then (λ k. cond false (Some k) None) m ≡ None
        go None = refl
        go (Some k) = refl

    pub through : (m : ℕ) → code_past w names size (328 + 5 * first) cells size ≡ Some m → may_be_last (instruction_at_entry w last) ≡ true → routine_past w number first cells ≡ Some m
    through m c e = routine_past_lem u ∙ rw (h, c, last_is, e)

  routine_room : routine_test w number first cells routine ≡ true → (first + size ≤ 512) × (cells + length (all_cells routine.code) ≤ 11080)
  unfolding routine_test
  routine_room h =
      let r = routine in
      let more = and_right (routine_passes (table_listing w) number r) _ h in
      let i : first + length r.code ≤ 512 = leb-true (first + length r.code) 512 (and_left (leb (first + length r.code) 512) _ more) in
      let c = leb-true (cells + length (all_cells r.code)) 11080 (and_left (leb (cells + length (all_cells r.code)) 11080) _ (and_right (leb (first + length r.code) 512) _ more)) in
      (rw size_is at i, c)

  pub routine_past_room : (m : ℕ) → routine_past w number first cells ≡ Some m → (first + size ≤ 512) × (m ≤ 11080)
  unfolding routine_past
  routine_past_room m = go (routine_test w number first cells routine) refl
    where
      go : (b : Bool) → routine_test w number first cells routine ≡ b → cond b (Some (cells + length (all_cells routine.code))) None ≡ Some m → (first + size ≤ 512) × (m ≤ 11080)
      go true h q =
          let room = routine_room h in
          let z : cells + length (all_cells routine.code) ≡ m = cc in
          (room.0, omega arith)
      go false h q = absurd (let z : ⊥ = cc in z)

-- ── routines in a row ────────────────────────────────────────────────────────────
regroup_row : (pass passes room rooms stop stops entry entries code codes cell cells : Bool) → (rooms ≡ true → room ≡ true) → (stops ≡ true → stop ≡ true)
    → ((pass && passes) && (rooms && (stops && ((entry && entries) && ((code && codes) && (cell && cells))))))
    ≡ ((pass && (room && (stop && (entry && (code && cell))))) && (passes && (rooms && (stops && (entries && (codes && cells))))))
regroup_row false passes room rooms stop stops entry entries code codes cell cells h k = refl
regroup_row true false room rooms stop stops entry entries code codes cell cells h k = simp and_no
regroup_row true true room false stop stops entry entries code codes cell cells h k = simp and_no
regroup_row true true room true stop false entry entries code codes cell cells h k = simp and_no
regroup_row true true room true stop true false entries code codes cell cells h k = simp and_no
regroup_row true true room true stop true true false code codes cell cells h k = simp and_no
regroup_row true true room true stop true true true false codes cell cells h k = simp and_no
regroup_row true true room true stop true true true true false cell cells h k = simp and_no
regroup_row true true room true stop true true true true true false cells h k = simp and_no
regroup_row true true room true stop true true true true true true cells h k = rw (h refl, k refl)

module _ (w : List ℕ) where
  routines_test_more : (number first cells : ℕ) (r : Routine) (rs : List Routine) → routines_test w number first cells (r ∷ rs)
      ≡ (routine_test w number first cells r && routines_test w (suc number) (first + length r.code) (cells + length (all_cells r.code)) rs)
  unfolding routines_test routine_test routines_pass all_routines all_code
  routines_test_more number first cells r rs =
      let n = length r.code in
      let m = cells + length (all_cells r.code) in
      let is = all_code rs in
      let a : 8 + 5 * number + 5 ≡ 8 + 5 * suc number = omega arith in
      let e : 328 + 5 * first + 5 * n ≡ 328 + 5 * (first + n) = omega arith in
      let i : first + length (r.code ++ is) ≡ first + n + length is = simp length-append (omega arith) in
      let c : cells + length (all_cells r.code ++ all_cells is) ≡ m + length (all_cells is) = simp length-append (omega arith) in
      rw (
        i,
        cells_append r.code is,
        c,
        entries_append r.code is cells,
        same_split w (8 + 5 * number) (routine_words first r) (all_routines (first + n) rs),
        routine_five first r,
        a,
        same_split w (328 + 5 * first) (all_entries cells r.code) (all_entries m is),
        entries_length r.code cells,
        e,
        same_split w cells (all_cells r.code) (all_cells is),
      )
      (regroup_row (routine_passes (table_listing w) number r) (routines_pass (table_listing w) (suc number) rs) (leb (first + n) 512) (leb (first + n + length is) 512)
      (leb m 11080) (leb (m + length (all_cells is)) 11080) (same_at w (8 + 5 * number) (routine_words first r)) (same_at w (8 + 5 * suc number) (all_routines (first + n) rs))
      (same_at w (328 + 5 * first) (all_entries cells r.code)) (same_at w (328 + 5 * (first + n)) (all_entries m is)) (same_at w cells (all_cells r.code)) (same_at w m (all_cells is))
      (leb_before (first + n) (length is) 512) (leb_before m (length (all_cells is)) 11080))

  -- ── the turns of the pass, with so many routines left ──────────────────────────
  pub pass_end : (number first cells left : ℕ) → left ≡ 0 → pass_from w number first cells left ≡ tail_test w number first cells
  unfolding pass_from
  pass_end number first cells left z = rw z

  pub pass_stop : (number first cells left : ℕ) → 0 < left → routine_past w number first cells ≡ None → pass_from w number first cells left ≡ false
  unfolding pass_from
  pass_stop number first cells zero l h = absurd (omega arith)
  pass_stop number first cells (suc n) l h = rw h

  pub pass_turn : (number first cells left n next : ℕ) → left ≡ suc n → routine_past w number first cells ≡ Some next
      → pass_from w (number + 1) (first + word w (routine_entry number + 4)) next n ≡ pass_from w number first cells left
  unfolding pass_from
  pass_turn number first cells left n next z q = let one : number + 1 ≡ suc number = omega arith in rw (z, one, q)

  -- ── all together ───────────────────────────────────────────────────────────────
  no_routines : (number first cells : ℕ) → first ≤ 512 → cells ≤ 11080
      → tail_test w number first cells ≡ (routines_test w number first cells [] && tail_test w (number + 0) (first + length (all_code [])) (cells + length (all_cells (all_code []))))
  unfolding routines_test routines_pass all_routines all_code all_cells all_entries words_of_each same_at
  no_routines number first cells f u =
      let n : number + 0 ≡ number = omega arith in
      let i : first + 0 ≡ first = omega arith in
      let c : cells + 0 ≡ cells = omega arith in
      rw (n, i, c, le-leb first 512 f, le-leb cells 11080 u)

  all_code_more : (r : Routine) (rs : List Routine) → all_code (r ∷ rs) ≡ r.code ++ all_code rs
  unfolding all_code
  all_code_more r rs = refl

  passes_on : (b b' : Bool) (m : ℕ) (tail : Bool) (f : ℕ → Bool) → (b ≡ true → f m ≡ (b' && tail)) → option_map_or f (cond b (Some m) None) false ≡ ((b && b') && tail)
  passes_on true b' m tail f h = h refl
  passes_on false b' m tail f h = refl

  pub pass_from_lem : (n number first cells : ℕ) → first ≤ 512 → cells ≤ 11080 → pass_from w number first cells n
      ≡ (routines_test w number first cells (routines_at_entry w (routine_entry number) n)
      && tail_test w (number + n) (first + length (all_code (routines_at_entry w (routine_entry number) n))) (cells + length (all_cells (all_code (routines_at_entry w (routine_entry number) n)))))
  unfolding pass_from routines_at_entry routine_past
  pass_from_lem zero number first cells f u = no_routines number first cells f u
  pass_from_lem (suc n) number first cells f u =
      let r = routine_at_entry w (routine_entry number) in
      let next = routine_entry (suc number) in
      let a : 8 + 5 * number + 5 ≡ 8 + 5 * suc number = omega arith in
      let rs = routines_at_entry w next n in
      let k = length r.code in
      let m = cells + length (all_cells r.code) in
      let s : number + suc n ≡ suc number + n = omega arith in
      let i : first + length (r.code ++ all_code rs) ≡ first + k + length (all_code rs) = simp length-append (omega arith) in
      let c : cells + length (all_cells r.code ++ all_cells (all_code rs)) ≡ m + length (all_cells (all_code rs)) = simp length-append (omega arith) in
      rw (a, all_code_more r rs, routines_test_more number first cells r rs, s, cells_append r.code (all_code rs), i, c)
      (passes_on (routine_test w number first cells r) (routines_test w (suc number) (first + k) m rs) m _
      (λ j. pass_from w (suc number) (first + word w (routine_entry number + 4)) j n)
      (λ (h : routine_test w number first cells r ≡ true).
      let room = routine_room w number first cells h in
      rw (← size_is w number first cells) (pass_from_lem n (suc number) (first + k) m (rw (← size_is w number first cells) at room.0) room.1)))
