-- The child field that is looked for: there is none, or it is this one.
use mathlib.Core.Path.{◌≡◌, refl, sym, ap, ◌∙◌}
use mathlib.Core.Bool.{Bool, true, false, cond}
use mathlib.Core.List.{List}
use Prim.Native.Nat.{ℕ, ◌+◌, ◌-◌, ◌<◌, ◌≤◌}
use lib.Dec.{ltb, leb}
use Rattle.std.proofs.Common.{Option, Some, None}
use borrow.Author.Tests.{ltb-true, ltb-false, leb-true, leb-false, lt-ltb, le-ltb, le-leb, lt-leb}
use Rattle.table.specs.Decode.{after_call, head_after, word}
use Rattle.table_child_fields.specs.Picking.{maker_after, maker_of}
use Rattle.table_child_fields.specs.declared.pick.Maker.{Maker}
use Rattle.table_child_fields.proofs.TableLaws.{head_after_one}

pub none_is_no : {A B : Type 0} {x : A} → None ≡ Some x → B
none_is_no e = absurd (let z : ⊥ = cc in z)

-- ── the maker by its cases ────────────────────────────────────────────────────────────────────────
module _ (w : List ℕ) (first left next child : ℕ) where
  pub no_maker_low : child < next → None ≡ maker_of w first left next child
  unfolding maker_of
  no_maker_low h = rw (lt-ltb child next h)

  pub no_maker_high : next ≤ child → left ≤ child - next → None ≡ maker_of w first left next child
  unfolding maker_of
  no_maker_high l h = rw (le-ltb child next l, le-leb left (child - next) h)

  a_maker : next ≤ child → child - next < left → Some (maker_after w first left (child - next)) ≡ maker_of w first left next child
  unfolding maker_of
  a_maker l h = rw (le-ltb child next l, lt-leb left (child - next) h)

  pub a_maker_picked : (head routine after : ℕ) → next ≤ child → child - next < left → head ≡ head_after w first (child - next) →
      routine ≡ word w (head + 1) → after ≡ after_call w head →
      ◌≡◌ {A = Option Maker} (Some (record { routine = routine; head = after; left = left - (child - next) - 1 })) (maker_of w first left next child)
  a_maker_picked head routine after low high h r a =
      let callee : routine ≡ word w (head_after w first (child - next) + 1) = rw h at r in
      let later : after ≡ head_after w first (child - next + 1) = a ∙ ap (after_call w) h ∙ sym (head_after_one w first (child - next)) in
      rw (callee, later) (a_maker low high)

-- ── what the maker tells ──────────────────────────────────────────────────────────────────────────
-- A child's number is not among those that may still come.
pub data Missing (next left child : ℕ) : Type 0 where
  too_low : child < next → Missing next left child
  too_high : next ≤ child → left ≤ child - next → Missing next left child

-- The child field is among them: its routine, and the head after it.
pub record Chosen (w : List ℕ) (first left next child routine head rest : ℕ) : Type 0 where
  pub low : next ≤ child
  pub high : child - next < left
  pub callee : routine ≡ word w (head_after w first (child - next) + 1)
  pub after : head ≡ head_after w first (child - next + 1)
  pub fewer : rest ≡ left - (child - next) - 1

pub record Picked (w : List ℕ) (first left next child : ℕ) (r : Option Maker) : Type 0 where
  pub no_maker_lem : r ≡ None → Missing next left child
  pub a_maker : (made : Maker) → r ≡ Some made → Chosen w first left next child made.routine made.head made.left

pub picked : (w : List ℕ) (first left next child : ℕ) → Picked w first left next child (maker_of w first left next child)
unfolding maker_of
picked w first left next child = by (ltb child next) refl (leb left (child - next)) refl
  where
    by : (x : Bool) → ltb child next ≡ x → (y : Bool) → leb left (child - next) ≡ y →
        Picked w first left next child (cond x None (cond y None (Some (maker_after w first left (child - next)))))
    by true e y f = record { no_maker_lem = λ z. too_low (ltb-true _ _ e); a_maker = λ made z. none_is_no z }
    by false e true f = record { no_maker_lem = λ z. too_high (ltb-false _ _ e) (leb-true _ _ f); a_maker = λ made z. none_is_no z }
    by false e false f = record {
      no_maker_lem = λ z. none_is_no (sym z);
      a_maker = λ made z.
          let m : maker_after w first left (child - next) ≡ made = cc in
          record {
            low = ltb-false _ _ e;
            high = leb-false _ _ f;
            callee = sym (ap (λ x. x.routine) m);
            after = sym (ap (λ x. x.head) m);
            fewer = sym (ap (λ x. x.left) m);
          };
    }
