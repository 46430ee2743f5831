-- The check of an instruction, by the kind word of its entry.
use mathlib.Core.Path.{◌≡◌, refl, ap, ◌∙◌}
use mathlib.Core.Bool.{Bool, true, false, cond, ◌&&◌}
use mathlib.Core.List.{List, [], ◌∷◌}
use Prim.Native.Nat.{ℕ, zero, suc, ◌+◌, ◌*◌}
use native.Mathlib.Omega.{arith}
use lib.Dec.{eqb, ltb, leb}
use lib.ListN.{length, length-append}
use Rattle.std.proofs.Common.{Option, Some, None}
use borrow.Author.Tests.{eq-eqb, ne_eqb, lt-ltb, eqb-true, ltb-true}
use Rattle.listing.specs.Lists.{all}
use Rattle.listing.specs.Listing.{Piece, Instruction, assign, schedule, branch, jump, wait, fork, end}
use Rattle.listing.specs.Expressions.{leaves_one_from}
use Rattle.listing.specs.Form.{one_to}
use Rattle.listing.specs.Questions.{piece_is_there, call_is_there, is_there}
use Rattle.listing.specs.WellFormed.{piece_has_form, instruction_has_form}
use Rattle.table.specs.Areas.{words_of_each, piece_words, name_words, call_words, cell_words, entry_words}
use Rattle.table.specs.Decode.{word, piece_of, piece_at, name_at, cells_at, pieces_at, names_at, calls_at, instruction_of, instruction_at_entry}
use Rattle.table.proofs.Lengths.{piece_two, name_two, each_two}
use Rattle.table.proofs.Reach.{cells_count, calls_count}
use Rattle.table.proofs.Tests.{and_no, and_yes, same_answer}
use Rattle.table_check_cells.specs.Pass.{Words, same_at, routines_in, expression_test, names_test, cells_past, calls_past, instruction_passes, instruction_test, entry_past}
use Rattle.table_check_cells.proofs.Words.{same_split, same_number}
use Rattle.table_check_cells.proofs.Cells.{cond_cond}

-- ── a literal is a word ──────────────────────────────────────────────────────────
either_has_form : (t : Bool) (p q : Piece) → piece_has_form p ≡ true → piece_has_form q ≡ true → piece_has_form (cond t p q) ≡ true
either_has_form true p q f g = f
either_has_form false p q f g = g

piece_has_form_lem : (w : List ℕ) → Words w → (a : ℕ) → piece_has_form (piece_at w a) ≡ true
unfolding piece_at piece_of piece_has_form
piece_has_form_lem w small a =
    let k = word w (a + 0) in
    let word-literal = lt-ltb (word w (a + 1)) 4294967296 (small (a + 1)) in
    either_has_form (eqb k 0) _ _ word-literal (either_has_form (eqb k 1) _ _ refl (either_has_form (eqb k 2) _ _ refl (
    either_has_form (eqb k 3) _ _ refl (either_has_form (eqb k 4) _ _ refl (either_has_form (eqb k 5) _ _ refl (
    either_has_form (eqb k 6) _ _ refl (either_has_form (eqb k 7) _ _ refl (either_has_form (eqb k 8) _ _ refl refl))))))))

pieces_have_form : (w : List ℕ) → Words w → (n a : ℕ) → all piece_has_form (pieces_at w a n) ≡ true
unfolding cells_at all
pieces_have_form w small zero a = refl
pieces_have_form w small (suc n) a = rw (piece_has_form_lem w small a) (pieces_have_form w small n (a + 2))

-- ── the five words of an entry ───────────────────────────────────────────────────
abbrev five : List ℕ → ℕ → ℕ → ℕ → ℕ → ℕ → ℕ → Bool
five w e k n at p q = same_at w e (k ∷ (n ∷ (at ∷ (p ∷ (q ∷ [])))))

same_five : (w : List ℕ) (e k n at p q : ℕ) → five w e k n at p q
    ≡ (eqb (word w (e + 0)) k && (eqb (word w (e + 1)) n && (eqb (word w (e + 2)) at && (eqb (word w (e + 3)) p && (eqb (word w (e + 4)) q && true)))))
unfolding same_at
same_five w e k n at p q =
    let z0 : e + 0 ≡ e = omega arith in
    let z2 : e + 1 + 1 ≡ e + 2 = omega arith in
    let z3 : e + 2 + 1 ≡ e + 3 = omega arith in
    let z4 : e + 3 + 1 ≡ e + 4 = omega arith in
    rw (z0, z2, z3, z4)

five_kind : (w : List ℕ) (e k n at p q : ℕ) → eqb (word w (e + 0)) k ≡ false → five w e k n at p q ≡ false
five_kind w e k n at p q h = same_five w e k n at p q ∙ rw h

five_place : (w : List ℕ) (e k n at p q : ℕ) → eqb (word w (e + 2)) at ≡ false → five w e k n at p q ≡ false
five_place w e k n at p q h = same_five w e k n at p q ∙ rw h (simp and_no)

five_rest : (w : List ℕ) (e k n at p q : ℕ) → word w (e + 0) ≡ k → word w (e + 2) ≡ at
    → five w e k n at p q ≡ (eqb (word w (e + 1)) n && (eqb (word w (e + 3)) p && eqb (word w (e + 4)) q))
five_rest w e k n at p q h x = same_five w e k n at p q ∙ rw (h, x, same_number k, same_number at, and_yes (eqb (word w (e + 4)) q))

entry_place : (w : List ℕ) (e at : ℕ) (i : Instruction) → eqb (word w (e + 2)) at ≡ false → same_at w e (entry_words at i) ≡ false
unfolding entry_words
entry_place w e at (assign n x) h = five_place w e _ _ at _ _ h
entry_place w e at (schedule n d x) h = five_place w e _ _ at _ _ h
entry_place w e at (branch x k) h = five_place w e _ _ at _ _ h
entry_place w e at (jump k) h = five_place w e _ _ at _ _ h
entry_place w e at (wait ns) h = five_place w e _ _ at _ _ h
entry_place w e at (fork cs) h = five_place w e _ _ at _ _ h
entry_place w e at end h = five_place w e _ _ at _ _ h

-- ── the tests in another order ───────────────────────────────────────────────────
regroup_assign : (form name there room second same : Bool)
    → ((form && (name && there)) && (room && (second && same))) ≡ ((name && second) && (room && (form && (there && same))))
regroup_assign false name there room second same = simp and_no
regroup_assign true false there room second same = refl
regroup_assign true true there room false same = simp and_no
regroup_assign true true false room true same = simp and_no
regroup_assign true true true room true same = refl

regroup_branch : (form there target room second same : Bool)
    → ((form && (there && target)) && (room && (second && same))) ≡ ((target && second) && (room && (form && (there && same))))
regroup_branch false there target room second same = simp and_no
regroup_branch true false target room second same = simp and_no
regroup_branch true true false room second same = refl
regroup_branch true true true room false same = simp and_no
regroup_branch true true true room true same = refl

regroup_schedule : (form forms name there theres room same sames : Bool)
    → (((form && forms) && ((name && there) && theres)) && (room && (same && sames)))
    ≡ (name && (room && ((form && (there && same)) && (forms && (theres && sames)))))
regroup_schedule false forms name there theres room same sames = simp and_no
regroup_schedule true false name there theres room same sames = simp and_no
regroup_schedule true true false there theres room same sames = refl
regroup_schedule true true true false theres room same sames = simp and_no
regroup_schedule true true true true false room same sames = simp and_no
regroup_schedule true true true true true room same sames = refl

regroup_wait : (count there room plain same : Bool)
    → ((count && there) && (room && (plain && same))) ≡ ((plain && count) && (room && (there && same)))
regroup_wait false there room plain same = simp and_no
regroup_wait true false room plain same = simp and_no
regroup_wait true true room false same = simp and_no
regroup_wait true true room true same = refl

regroup_fork : (count there room plain same : Bool)
    → ((count && there) && (room && (plain && same))) ≡ ((plain && count) && (there && (room && same)))
regroup_fork false there room plain same = simp and_no
regroup_fork true false room plain same = simp and_no
regroup_fork true true room false same = simp and_no
regroup_fork true true room true same = refl

-- ── by kind ──────────────────────────────────────────────────────────────────────
module _ (w : List ℕ) (small : Words w) (names size e at : ℕ) where
  abbrev Gives : Option ℕ → Type 0
  Gives n = entry_past w names size e at ≡ n

  pub past_other_place : (word w (e + 2) ≡ at → ⊥) → Gives None
  unfolding entry_past instruction_test
  past_other_place h = rw (entry_place w e at (instruction_at_entry w e) (ne_eqb (word w (e + 2)) at h)) (simp and_no)

  module _ (x : word w (e + 2) ≡ at) where
    abbrev there : List Piece → Bool
    there e = all (piece_is_there names) e

    pieces_length : (a p : ℕ) → length (words_of_each piece_words (pieces_at w a p)) ≡ 2 * p
    pieces_length a p = each_two piece_words piece_two (pieces_at w a p) ∙ rw (cells_count (piece_at w) p a)

    names_length : (a p : ℕ) → length (words_of_each name_words (names_at w a p)) ≡ 2 * p
    names_length a p = each_two name_words name_two (names_at w a p) ∙ rw (cells_count (name_at w) p a)

    pub past_assign : word w (e + 0) ≡ 1
        → Gives (cells_past at (ltb (word w (e + 1)) names && eqb (word w (e + 4)) 0) (2 * word w (e + 3)) (expression_test w names 0 at (word w (e + 3))))
    unfolding entry_past instruction_test instruction_passes instruction_at_entry instruction_of instruction_has_form is_there entry_words cell_words cells_past expression_test
    past_assign h =
        let n = word w (e + 1) in
        let p = word w (e + 3) in
        let x₁ = pieces_at w at p in
        rw (h, x, five_rest w e 1 n at _ 0 h x, cells_count (piece_at w) p at, same_number n, same_number p, pieces_length at p, pieces_have_form w small p at)
        (ap (λ (t : Bool). cond t (Some (at + 2 * p)) None) (regroup_assign (leaves_one_from 0 x₁) (ltb n names) (there x₁) (leb (at + 2 * p) 11080) (eqb (word w (e + 4)) 0) (same_at w at (words_of_each piece_words x₁))))

    pub past_branch : word w (e + 0) ≡ 3
        → Gives (cells_past at (ltb (word w (e + 1)) size && eqb (word w (e + 4)) 0) (2 * word w (e + 3)) (expression_test w names 0 at (word w (e + 3))))
    unfolding entry_past instruction_test instruction_passes instruction_at_entry instruction_of instruction_has_form is_there entry_words cell_words cells_past expression_test
    past_branch h =
        let n = word w (e + 1) in
        let p = word w (e + 3) in
        let x₁ = pieces_at w at p in
        rw (h, x, five_rest w e 3 n at _ 0 h x, cells_count (piece_at w) p at, same_number n, same_number p, pieces_length at p, pieces_have_form w small p at)
        (ap (λ (t : Bool). cond t (Some (at + 2 * p)) None) (regroup_branch (leaves_one_from 0 x₁) (there x₁) (ltb n size) (leb (at + 2 * p) 11080) (eqb (word w (e + 4)) 0) (same_at w at (words_of_each piece_words x₁))))

    pub past_schedule : word w (e + 0) ≡ 2
        → Gives (cells_past at (ltb (word w (e + 1)) names) (2 * word w (e + 3) + 2 * word w (e + 4))
        (expression_test w names 0 at (word w (e + 3)) && expression_test w names 0 (at + 2 * word w (e + 3)) (word w (e + 4))))
    unfolding entry_past instruction_test instruction_passes instruction_at_entry instruction_of instruction_has_form is_there entry_words cell_words cells_past expression_test
    past_schedule h =
        let n = word w (e + 1) in
        let p = word w (e + 3) in
        let q = word w (e + 4) in
        let x₁ = pieces_at w at p in
        let x₂ = pieces_at w (at + 2 * p) q in
        let d = words_of_each piece_words x₁ in
        let f = words_of_each piece_words x₂ in
        rw (
          h,
          x,
          five_rest w e 2 n at _ _ h x,
          cells_count (piece_at w) p at,
          cells_count (piece_at w) q (at + 2 * p),
          same_number n,
          same_number p,
          same_number q,
          length-append d f,
          same_split w at d f,
          pieces_length at p,
          pieces_length (at + 2 * p) q,
          pieces_have_form w small p at,
          pieces_have_form w small q (at + 2 * p),
        )
        (ap (λ (t : Bool). cond t (Some (at + (2 * p + 2 * q))) None) (regroup_schedule (leaves_one_from 0 x₁) (leaves_one_from 0 x₂) (ltb n names) (there x₁) (there x₂) (leb (at + (2 * p + 2 * q)) 11080) (same_at w at d) (same_at w (at + 2 * p) f)))

    pub past_jump : word w (e + 0) ≡ 4 → Gives (cells_past at (ltb (word w (e + 1)) size && (eqb (word w (e + 3)) 0 && eqb (word w (e + 4)) 0)) 0 true)
    unfolding entry_past instruction_test instruction_passes instruction_at_entry instruction_of instruction_has_form is_there entry_words cell_words cells_past same_at
    past_jump h =
        let n = word w (e + 1) in
        rw (h, five_rest w e 4 n at 0 0 h x, same_number n)
        (ap (λ (t : Bool). cond t (Some (at + 0)) None) (go (ltb n size) (leb (at + 0) 11080) (eqb (word w (e + 3)) 0 && eqb (word w (e + 4)) 0)))
      where
        go : (jump room plain : Bool) → (jump && (room && (plain && true))) ≡ ((jump && plain) && (room && true))
        go false room plain = refl
        go true room false = simp and_no
        go true room true = refl

    pub past_end : word w (e + 0) ≡ 7 → Gives (cells_past at (ltb (word w (e + 1)) 1 && (eqb (word w (e + 3)) 0 && eqb (word w (e + 4)) 0)) 0 true)
    unfolding entry_past instruction_test instruction_passes instruction_at_entry instruction_of instruction_has_form is_there entry_words cell_words cells_past same_at
    past_end h =
        let n = word w (e + 1) in
        rw (h, five_rest w e 7 0 at 0 0 h x, ← below_one n)
        (ap (λ (t : Bool). cond t (Some (at + 0)) None) (go (eqb n 0 && (eqb (word w (e + 3)) 0 && eqb (word w (e + 4)) 0)) (leb (at + 0) 11080)))
      where
        below_one : (n : ℕ) → eqb n 0 ≡ ltb n 1
        below_one n = same_answer (eqb n 0) (ltb n 1) (λ (t : eqb n 0 ≡ true). let z = eqb-true n 0 t in lt-ltb n 1 (omega arith)) (λ (t : ltb n 1 ≡ true). let z = ltb-true n 1 t in eq-eqb n 0 (omega arith))

        go : (plain room : Bool) → (room && (plain && true)) ≡ (plain && (room && true))
        go false room = simp and_no
        go true room = refl

    pub past_wait : word w (e + 0) ≡ 5
        → Gives (cells_past at ((eqb (word w (e + 1)) 0 && eqb (word w (e + 4)) 0) && (leb 1 (word w (e + 3)) && leb (word w (e + 3)) 4))
        (2 * word w (e + 3)) (names_test w names at (word w (e + 3))))
    unfolding entry_past instruction_test instruction_passes instruction_at_entry instruction_of instruction_has_form is_there entry_words cell_words cells_past names_test one_to
    past_wait h =
        let p = word w (e + 3) in
        let ns = names_at w at p in
        rw (h, x, five_rest w e 5 0 at _ 0 h x, cells_count (name_at w) p at, same_number p, names_length at p)
        (ap (λ (t : Bool). cond t (Some (at + 2 * p)) None) (regroup_wait (leb 1 p && leb p 4) (all (λ m. ltb m names) ns) (leb (at + 2 * p) 11080) (eqb (word w (e + 1)) 0 && eqb (word w (e + 4)) 0) (same_at w at (words_of_each name_words ns))))

    pub past_fork : word w (e + 0) ≡ 6
        → Gives (cond ((eqb (word w (e + 1)) 0 && eqb (word w (e + 4)) 0) && (leb 1 (word w (e + 3)) && leb (word w (e + 3)) 8)) (calls_past w names at (word w (e + 3))) None)
    unfolding entry_past instruction_test instruction_passes instruction_at_entry instruction_of instruction_has_form is_there entry_words cell_words cells_past calls_past one_to
    past_fork h =
        let p = word w (e + 3) in
        let plain = eqb (word w (e + 1)) 0 && eqb (word w (e + 4)) 0 in
        let cs = calls_at w at p in
        let v = at + length (words_of_each call_words cs) in
        let calls = all (call_is_there (routines_in w) names) cs in
        rw (h, x, five_rest w e 6 0 at _ 0 h x, calls_count w p at, same_number p)
        (ap (λ (t : Bool). cond t (Some v) None) (regroup_fork (leb 1 p && leb p 8) calls (leb v 11080) plain (same_at w at (words_of_each call_words cs)))
        ∙ cond_cond (plain && (leb 1 p && leb p 8)) (calls && (leb v 11080 && same_at w at (words_of_each call_words cs))) (Some v))

  abbrev Not : ℕ → Type 0
  Not j = word w (e + 0) ≡ j → ⊥

  pub past_no_kind : Not 1 → Not 2 → Not 3 → Not 4 → Not 5 → Not 6 → Not 7 → Gives None
  unfolding entry_past instruction_test instruction_at_entry instruction_of entry_words
  past_no_kind n1 n2 n3 n4 n5 n6 n7 =
      let k = word w (e + 0) in
      rw (ne_eqb k 1 n1, ne_eqb k 2 n2, ne_eqb k 3 n3, ne_eqb k 4 n4, ne_eqb k 5 n5, ne_eqb k 6 n6, ne_eqb k 7 n7, five_kind w e 7 0 at 0 0 (ne_eqb k 7 n7)) (simp and_no)

-- at a match on the kind, a law on entries of one kind tells what the check of such an entry gives
abbrev pub Law : ℕ → (List ℕ → ℕ → ℕ → ℕ → ℕ → Option ℕ) → Type 0
Law k f =
    (w : List ℕ) → Words w → (names size e at : ℕ) → word w (e + 2) ≡ at → word w (e + 0) ≡ k → entry_past w names size e at ≡ f w names size e at

pub past : (w : List ℕ) → Words w → (names size e at : ℕ) → word w (e + 2) ≡ at → {k : ℕ} {r : Option ℕ} {f : List ℕ → ℕ → ℕ → ℕ → ℕ → Option ℕ} → Law k f
    → word w (e + 0) ≡ k → r ≡ f w names size e at → r ≡ entry_past w names size e at
past w small names size e at x law h z = rw (law w small names size e at x h) z

-- the check of an entry, by the number of its kind
pub ruleset by_kind = (past_other_place, past_assign, past_schedule, past_branch, past_jump, past_wait, past_fork, past_end, past_no_kind)
