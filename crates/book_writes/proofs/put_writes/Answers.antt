-- `book_writes::put_writes` meets its contract.
use mathlib.Core.Path.{◌≡◌, sym, ap, ◌∙◌}
use mathlib.Core.List.{List, ◌++◌}
use Prim.Native.Nat.{ℕ, ◌+◌, ◌-◌, ◌≤◌}
use native.Mathlib.Omega.{arith}
use lib.ListN.{length, take, replicate, length-append, length-drop, length-replicate}
use lib.Seq.{length-take-le}
use borrow.Rule.Slice.PartMut.{put_mid}
use Rattle.std.proofs.lemmas.List.Edits.{length-between}
use Rattle.std.proofs.lemmas.Slice.{take-put_mid}
use Rattle.book_writes.proofs.Gathering as gathering
use Rattle.book_writes.proofs.put_writes.Goals as goal

-- a list keeps its length when a part of it is written
part_length : (at k : ℕ) (xs ys : List ℕ) → at + k ≤ length xs → length ys ≡ k → length (put_mid at k xs ys) ≡ length xs
part_length at k xs ys h e = simp (length-append, length-drop) (omega (arith, length-take-le at xs))

pub returns : goal.returns
returns c =
    let a = c.args in
    let p = c.requires in
    let n = length a.numbers.now in
    let some : a.at + n - a.at ≡ n = omega arith in
    let filled : c.fill.new.self ≡ replicate n a.moment =
    c.fill.ensures.after (λ y h. h) ∙ ap (λ (k : ℕ). replicate k a.moment) (length-between a.moments.now a.at (a.at + n) (omega arith) ∙ some) in
    let x : length c.fill.new.self ≡ n = ap length filled ∙ length-replicate n a.moment in
    let y : length c.copy_from_slice.new.self ≡ n = ap length c.copy_from_slice.ensures.after in
    let z : length c.copy_from_slice-2.new.self ≡ n = ap length c.copy_from_slice-2.ensures.after ∙ sym p.4 in (
      gathering.put_behind a.at a.moment a.moments.now a.outputs.now a.values.now a.numbers.now a.words.now _ _ _ (omega arith) (omega arith) (omega arith) p.4
          (take-put_mid a.at _ a.moments.now c.fill.new.self _ (omega arith) (omega arith) ∙ ap (λ (l : List ℕ). take a.at a.moments.now ++ l) filled)
          (take-put_mid a.at _ a.outputs.now c.copy_from_slice.new.self _ (omega arith) (omega arith) ∙ ap (λ (l : List ℕ). take a.at a.outputs.now ++ l) c.copy_from_slice.ensures.after)
          (take-put_mid a.at _ a.values.now c.copy_from_slice-2.new.self _ (omega arith) (omega arith) ∙ ap (λ (l : List ℕ). take a.at a.values.now ++ l) c.copy_from_slice-2.ensures.after),
      part_length a.at _ a.moments.now c.fill.new.self (omega arith) (omega arith) ∙ p.0,
      part_length a.at _ a.outputs.now c.copy_from_slice.new.self (omega arith) (omega arith) ∙ p.1,
      part_length a.at _ a.values.now c.copy_from_slice-2.new.self (omega arith) (omega arith) ∙ p.2,
    )
