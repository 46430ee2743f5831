-- The numbers of a line, one after another, and numbers that were capped.
use mathlib.Core.Path.{◌≡◌, refl, sym, ap, ◌∙◌}
use mathlib.Core.Bool.{Bool, true, false}
use mathlib.Core.List.{List, [], ◌∷◌}
use mathlib.Core.Option.{Option, none, some}
use Prim.Native.Nat.{ℕ, ◌≤◌, ◌<◌, min}
use native.Mathlib.Omega.{arith}
use lib.Dec.{ltb}
use lib.ListN.{drop}
use borrow.Author.Tests.{ltb-true, ltb-false, ne_eqb}
use Rattle.listing.specs.Bytes.{Bytes}
use Rattle.listing.specs.Expressions.{bind}
use Rattle.listing.specs.Form.{Field, next_field_lem, none_left_lem, read_number}
use Rattle.text_place.specs.Texts.{fields_left}
use Rattle.text_place.specs.declared.place.Place.{Place}
use Rattle.text_place.proofs.Places.{left_open}
use Rattle.text_piece.specs.Pieces.{cap}
use Rattle.text_fields.specs.Fields.{as_number, number_answer}
use Rattle.text_fields.specs.declared.field.Number.TheVariants as NV
use Rattle.text_jumps.proofs.Chain.{Got}

-- ── fields ───────────────────────────────────────────────────────────────────────
-- a number was read as `v`, and the reader stands at `c'` past the byte `b'`
abbrev pub Numbered : Bytes → Place → ℕ → ℕ → ℕ → Place → Type 0
Numbered s c b v b' c' = (a : ℕ) × Got read_number s c b a b' c' × (v ≡ min a cap)

module _ {B : Type 0} (s : Bytes) (c : Place) (b : ℕ) where
  pub number_on : {a b' : ℕ} {c' : Place} → Got read_number s c b a b' c' → (k : ℕ → List Field → Option B)
      → next_field_lem read_number (fields_left b (drop c.offset s)) k ≡ k a (fields_left b' (drop c'.offset s))
  unfolding next_field_lem
  number_on g k = rw (g.fields, g.read)

  pub number_unread : NV.Bad ≡ number_answer s c b → (k : ℕ → List Field → Option B) → next_field_lem read_number (fields_left b (drop c.offset s)) k ≡ none
  unfolding next_field_lem
  number_unread e k = go (fields_left b (drop c.offset s)) _ _ e
    where
      bound : (o : Option ℕ) (fields : List Field) (stop : ℕ) (next : Place) → NV.Bad ≡ as_number (bind o (λ n. some n)) stop next → bind o (λ n. k n fields) ≡ none
      bound none fields stop next e = refl
      bound (some n) fields stop next e = absurd (let z : ◌≡◌ {A = ℕ} 0 1 = cc in omega arith)

      go : (fields : List Field) (stop : ℕ) (next : Place) → NV.Bad ≡ as_number (next_field_lem read_number fields (λ n fields. some n)) stop next → next_field_lem read_number fields k ≡ none
      go [] stop next e = refl
      go (field ∷ fields) stop next e = bound (read_number field) fields stop next e

  -- no field is left unless the last byte was a tab
  pub end_shut : (x : B) → (b ≡ 9 → ⊥) → none_left_lem (fields_left b (drop c.offset s)) x ≡ some x
  unfolding fields_left none_left_lem
  end_shut x n = rw (ne_eqb b 9 n)

  pub end_open : (x : B) → b ≡ 9 → none_left_lem (fields_left b (drop c.offset s)) x ≡ none
  unfolding none_left_lem
  end_open x e = rw (e, left_open s c.offset)

-- ── capped numbers ───────────────────────────────────────────────────────────────
pub is_capped : (n : ℕ) → n < cap → min n cap ≡ n
is_capped n h = omega arith

-- a test that holds only below the cap gives the same of a capped number
pub below_cap : (test : ℕ → Bool) → ((n : ℕ) → test n ≡ true → n < cap) → (n : ℕ) → test (min n cap) ≡ test n
below_cap test small n = go (ltb n cap) refl
  where
    no : (m : ℕ) → cap ≤ m → (t : Bool) → test m ≡ t → t ≡ false
    no m h true e = absurd (omega (arith, small m e))
    no m h false e = refl

    go : (t : Bool) → ltb n cap ≡ t → test (min n cap) ≡ test n
    go true i = ap test (is_capped n (ltb-true n cap i))
    go false i =
        let h : cap ≤ n = ltb-false n cap i in
        no (min n cap) (omega arith) (test (min n cap)) refl ∙ sym (no n h (test n) refl)
