-- `text_piece::figure_of` meets its contract.
use Prim.Native.Nat.{ℕ, suc, ◌≤◌, ◌<◌, ◌+◌, ◌-◌, ◌*◌, min}
use mathlib.Core.Path.{◌≡◌, sym, ap, ◌∙◌}
use mathlib.Core.Bool.{true, false}
use native.Mathlib.Omega.{arith}
use native.Mathlib.Numerals.{add-one}
use lib.ListN.{length, get_or}
use lib.Seq.{slice, slice-cons, slice_empty}
use lib.Dec.{leb}
use borrow.Author.Tests.{leb-true}
use Rattle.text_piece.specs.Pieces.{cap}
use Rattle.listing.specs.Lists.{all}
use Rattle.listing.specs.Bytes.{is_digit, read_on}
use Rattle.listing.proofs.Tests.{and_left, and_right}
use Rattle.text_piece.proofs.Figures as figures
use Rattle.text_piece.proofs.figure.figure_of.Goals as goal

pub returns-then-from-to : goal.returns-then-from-to
returns-then-from-to c = sym (figures.figure_none c.args.s.now c.args.from c.args.to c.if-from-to.true)

pub returns-then-from-to-2 : goal.returns-then-from-to-2
returns-then-from-to-2 c =
    let a = c.args in
    let s = a.s.now in
    let lt : a.from < a.to = omega (arith, c.if-from-to-2.true) in
    let k : a.to ≤ length s = c.requires.1 in
    let single : suc a.from ≡ a.to = omega (arith, c.if-from-to-2.true) in
    rw (slice-cons a.from a.to s 0 lt k, c.if-s-from-eq48.true, single, slice_empty) (sym figures.zero_alone)

pub returns-then-s-from-eq48 : goal.returns-then-s-from-eq48
returns-then-s-from-eq48 c =
    let a = c.args in
    let s = a.s.now in
    let k : a.to ≤ length s = c.requires.1 in
    let ne : a.from + 1 ≡ a.to → ⊥ = c.if-from-to-2.false in
    let nf : a.from ≡ a.to → ⊥ = c.if-from-to.false in
    let le : a.from ≤ a.to = c.requires.0 in
    let lt : a.from < a.to = omega arith in
    let l2 : suc a.from < a.to = omega arith in
    rw (slice-cons a.from a.to s 0 lt k, c.if-s-from-eq48.true, slice-cons (suc a.from) a.to s 0 l2 k) (sym (figures.zero_first _ _))

pub overflow_sub-b : goal.overflow_sub-b
overflow_sub-b c =
    let d : is_digit (get_or c.args.s.now c.loop-i.i 0) ≡ true = sym c.is_digit.ensures ∙ c.if-not-is_digit.false in
    let lo : 48 ≤ get_or c.args.s.now c.loop-i.i 0 = leb-true 48 _ (and_left _ (leb (get_or c.args.s.now c.loop-i.i 0) 57) d) in
    omega arith

pub append_digit-n-requires : goal.append_digit-n-requires
append_digit-n-requires c =
    let b = get_or c.args.s.now c.loop-i.i 0 in
    let d : is_digit b ≡ true = sym c.is_digit.ensures ∙ c.if-not-is_digit.false in
    let hi : b ≤ 57 = leb-true b 57 (and_right (leb 48 b) (leb b 57) d) in
    let w : c.wide.result ≡ b - 48 = c.wide.ensures in
    (c.loop-i.invariant.0, omega arith)

pub loop-i-preserved : goal.loop-i-preserved
loop-i-preserved c =
    let v = c.loop-i in
    let a = c.args in
    let s = a.s.now in
    let b = get_or s v.i 0 in
    let lt : v.i < a.to = c.loop-i-test.true in
    let k : a.to ≤ length s = c.requires.1 in
    let d : is_digit b ≡ true = sym c.is_digit.ensures ∙ c.if-not-is_digit.false in
    let m : ℕ = v.n * 10 + (b - 48) in
    let r : c.append_digit-n.result ≡ min m cap = c.append_digit-n.ensures ∙ rw c.wide.ensures in (
      omega (arith, r),
      simp add-one (sym (figures.digits_turn s v.i a.to lt k d) ∙ v.invariant.1),
      simp add-one (figures.number_capped (slice (suc v.i) a.to s) c.append_digit-n.result m (rw r (omega arith)) ∙ ap (λ (x : ℕ). min x cap) (sym (figures.number_turn s v.i a.to lt k v.n)) ∙ v.invariant.2),
    )

pub returns-then-not-is_digit : goal.returns-then-not-is_digit
returns-then-not-is_digit c =
    let v = c.loop-i in
    let a = c.args in
    let s = a.s.now in
    let lt : v.i < a.to = c.loop-i-test.true in
    let k : a.to ≤ length s = c.requires.1 in
    let d : is_digit (get_or s v.i 0) ≡ false = sym c.is_digit.ensures ∙ c.if-not-is_digit.true in
    sym (figures.no_digits (slice a.from a.to s) (sym v.invariant.1 ∙ figures.digits_out s v.i a.to lt k d))

pub returns : goal.returns
returns c =
    let v = c.loop-i in
    let a = c.args in
    let s = a.s.now in
    let at_end_lem : v.i ≡ a.to = omega (arith, c.loop-i-test.false, v.auto.i-end, c.requires.0) in
    let k : a.to ≤ length s = c.requires.1 in
    let nf : a.from ≡ a.to → ⊥ = c.if-from-to.false in
    let le : a.from ≤ a.to = c.requires.0 in
    let lt : a.from < a.to = omega arith in
    let sc = slice-cons a.from a.to s 0 lt k in
    let n : v.n ≡ min (read_on 0 (slice a.from a.to s)) cap = omega (arith, figures.number_none s v.i a.to v.n at_end_lem, v.invariant.2, v.invariant.0) in
    let ad : all is_digit (slice a.from a.to s) ≡ true = sym v.invariant.1 ∙ figures.digits_none s v.i a.to at_end_lem in
    rw n (rw sc (sym (figures.is_figure_lem (get_or s a.from 0) (slice (suc a.from) a.to s) c.if-s-from-eq48.false (rw sc at ad))))
