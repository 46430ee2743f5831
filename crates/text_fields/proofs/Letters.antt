-- The kinds of a routine's arguments, letter by letter.
use Rattle.std.specs.Prelude as P
use Rattle.std.specs.Prelude.{Some, None}
use Rattle.std.specs.List.{list_all}
use mathlib.Core.Path.{◌≡◌, refl, sym, ap, ◌∙◌}
use mathlib.Core.Bool.{Bool, true, false, cond, ◌&&◌}
use mathlib.Core.List.{List, [], ◌∷◌}
use mathlib.Core.Option.{Option, none, some}
use Prim.Native.Nat.{ℕ, suc, ◌+◌}
use native.Mathlib.Omega.{arith}
use lib.Dec.{eqb}
use lib.ListN.{length, get_or, drop}
use borrow.Author.Tests.{ne_eqb, eqb-true}
use Rattle.listing.specs.Lists.{all}
use Rattle.listing.specs.Expressions.{bind, each, alone}
use Rattle.listing.specs.Form.{next_field_lem, one_piece_lem, read_kind, read_kinds}
use Rattle.listing.specs.Questions.{is_by_reference}
use Rattle.listing.specs.Listing as L
use Rattle.listing.proofs.Splits.{split_has_part}
use Rattle.text_place.specs.Texts.{first_piece_lem, first_field, fields_left, piece_end, field_end, field_pieces}
use Rattle.text_place.specs.Places.{passed}
use Rattle.text_fields.specs.Fields.{is_kind, is_reference, as_kinds, kinds_answer, as_kinds_field, kinds_field_answer, kinding}
use Rattle.text_place.specs.declared.place.Place.{Place}
use Rattle.text_fields.specs.declared.kinds.Kinds.{Kinds}
use Rattle.text_place.proofs.Places.{left_open, pieces_turn, pieces_last, field_last}

-- ── letters and kinds ────────────────────────────────────────────────────────────
data Letter (byte : ℕ) : Option L.Kind → Type 0 where
  no_kind : is_kind byte ≡ false → Letter byte none
  is_kind_lem : {kind : L.Kind} → is_kind byte ≡ true → is_by_reference kind ≡ is_reference byte → Letter byte (some kind)

letter_of : (byte : ℕ) → Letter byte (read_kind byte)
unfolding read_kind
letter_of byte = go (eqb byte 114) (eqb byte 118) refl refl
  where
    go : (t u : Bool) → eqb byte 114 ≡ t → eqb byte 118 ≡ u → Letter byte (cond t (some L.Kind.by_reference) (cond u (some L.Kind.by_value) none))
    go true u a b = is_kind_lem {kind = L.Kind.by_reference} (rw a) (sym a)
    go false true a b = is_kind_lem {kind = L.Kind.by_value} (rw (a, b)) (sym a)
    go false false a b = no_kind (rw (a, b))

data Letters (bytes : List ℕ) : Option (List L.Kind) → Type 0 where
  no_kinds : all is_kind bytes ≡ false → Letters bytes none
  are_kinds : {kinds : List L.Kind} → all is_kind bytes ≡ true → length kinds ≡ length bytes → all is_by_reference kinds ≡ all is_reference bytes → Letters bytes (some kinds)

letters_more : (byte : ℕ) (bytes : List ℕ) (kind : L.Kind) (o : Option (List L.Kind)) → is_kind byte ≡ true → is_by_reference kind ≡ is_reference byte
    → Letters bytes o → Letters (byte ∷ bytes) (bind o (λ kinds. some (kind ∷ kinds)))
unfolding all
letters_more byte bytes kind none k r (no_kinds e) = no_kinds (rw (k, e))
letters_more byte bytes kind (some kinds) k r (are_kinds e l a) = are_kinds {kinds = kind ∷ kinds} (rw (k, e)) (ap suc l) (rw (r, a))

letters_step : (byte : ℕ) (bytes : List ℕ) (o : Option L.Kind) → Letter byte o → Letters bytes (each read_kind bytes)
    → Letters (byte ∷ bytes) (bind o (λ kind. bind (each read_kind bytes) (λ kinds. some (kind ∷ kinds))))
unfolding all
letters_step byte bytes none (no_kind e) i = no_kinds (rw e)
letters_step byte bytes (some kind) (is_kind_lem k r) i = letters_more byte bytes kind (each read_kind bytes) k r i

letters_of : (bytes : List ℕ) → Letters bytes (each read_kind bytes)
unfolding all each
letters_of [] = are_kinds {kinds = []} refl refl refl
letters_of (byte ∷ bytes) = letters_step byte bytes (read_kind byte) (letter_of byte) (letters_of bytes)

abbrev pub kinds_with : ℕ → Bool → P.Option Kinds
kinds_with n by_reference = Some (record { count = n; by_reference = by_reference })

kinds_said : (bytes : List ℕ) (o : Option (List L.Kind)) → Letters bytes o → as_kinds o ≡ cond (all is_kind bytes) (kinds_with (length bytes) (all is_reference bytes)) None
kinds_said bytes none (no_kinds e) = rw e
kinds_said bytes (some kinds) (are_kinds e l a) = rw (e, l, a)

-- the test of every letter, as a chain over them gives it
all_is : (test : ℕ → Bool) (bytes : List ℕ) → list_all test bytes ≡ all test bytes
unfolding all
all_is test [] = refl
all_is test (byte ∷ bytes) = ap (λ (t : Bool). test byte && t) (all_is test bytes)

-- ── the letters of a piece ───────────────────────────────────────────────────────
pub kinds_none : (bytes : List ℕ) → length bytes ≡ 0 → kinds_answer bytes ≡ None
unfolding read_kinds
kinds_none [] e = refl
kinds_none (byte ∷ bytes) e = absurd (let z : ⊥ = omega arith in z)

pub kinds_dash : (bytes : List ℕ) → bytes ≡ 45 ∷ [] → kinds_answer bytes ≡ kinds_with 0 true
unfolding read_kinds alone all
kinds_dash bytes e = rw e

read_each : (bytes : List ℕ) → (length bytes ≡ 0 → ⊥) → (bytes ≡ 45 ∷ [] → ⊥) → as_kinds (read_kinds bytes) ≡ cond (all is_kind bytes) (kinds_with (length bytes) (all is_reference bytes)) None
unfolding read_kinds alone all
read_each [] n d = absurd (n refl)
read_each (byte ∷ bytes) n d = go (eqb byte 45) refl
  where
    dashed : (rest : List ℕ) → (byte ∷ rest ≡ 45 ∷ [] → ⊥) → byte ≡ 45 → as_kinds (alone rest []) ≡ None
    dashed [] d e = absurd (d (rw e))
    dashed (b ∷ rest) d e = refl

    go : (t : Bool) → eqb byte 45 ≡ t → as_kinds (cond t (alone bytes []) (each read_kind (byte ∷ bytes))) ≡ cond (is_kind byte && all is_kind bytes) (kinds_with (length (byte ∷ bytes)) (is_reference byte && all is_reference bytes)) None
    go true e = let b : byte ≡ 45 = eqb-true byte 45 e in dashed bytes d b ∙ rw b
    go false e = kinds_said (byte ∷ bytes) _ (letters_of (byte ∷ bytes))

module _ (bytes : List ℕ) (n : length bytes ≡ 0 → ⊥) (d : bytes ≡ 45 ∷ [] → ⊥) where
  pub kinds_other : list_all is_kind bytes ≡ false → kinds_answer bytes ≡ None
  kinds_other e = read_each bytes n d ∙ rw (sym (all_is is_kind bytes) ∙ e)

  pub kinds_some : list_all is_kind bytes ≡ true → kinds_answer bytes ≡ kinds_with (length bytes) (list_all is_reference bytes)
  kinds_some e = read_each bytes n d ∙ rw (sym (all_is is_kind bytes) ∙ e, all_is is_reference bytes)

-- ── a field of kinds ─────────────────────────────────────────────────────────────
pub kinds_shut : (s : List ℕ) (p : Place) (stop : ℕ) → (stop ≡ 9 → ⊥) → kinds_field_answer s p stop ≡ None
unfolding fields_left next_field_lem
kinds_shut s p stop n = rw (ne_eqb stop 9 n)

kinding_of : (o : Option (List L.Kind)) (stop : ℕ) (next : Place) → as_kinds_field (bind o (λ kinds. some kinds)) stop next ≡ kinding (as_kinds o) stop next
kinding_of none stop next = refl
kinding_of (some kinds) stop next = refl

kinds_open : (s : List ℕ) (p : Place) (stop : ℕ) → stop ≡ 9
    → kinds_field_answer s p stop ≡ as_kinds_field (bind (one_piece_lem read_kinds (field_pieces s p.offset)) (λ kinds. some kinds)) (get_or s (field_end s p.offset) 0) (passed s p.line (field_end s p.offset))
unfolding next_field_lem
kinds_open s p stop e = rw (e, left_open s p.offset)

pub kinds_space : (s : List ℕ) (p : Place) (stop : ℕ) → stop ≡ 9 → get_or s (piece_end s p.offset) 0 ≡ 32 → kinds_field_answer s p stop ≡ None
unfolding one_piece_lem
kinds_space s p stop e g =
    let part = split_has_part 32 (first_field (drop (piece_end s p.offset + 1) s)) in
    kinds_open s p stop e ∙ rw (pieces_turn s p.offset g, part.is)

pub kinds_piece : (s : List ℕ) (p : Place) (stop : ℕ) → stop ≡ 9 → (get_or s (piece_end s p.offset) 0 ≡ 32 → ⊥)
    → kinds_field_answer s p stop ≡ kinding (kinds_answer (first_piece_lem (drop p.offset s))) (get_or s (piece_end s p.offset) 0) (passed s p.line (piece_end s p.offset))
unfolding one_piece_lem
kinds_piece s p stop e n =
    kinds_open s p stop e ∙ rw (pieces_last s p.offset n, ← field_last s p.offset n) (kinding_of (read_kinds (first_piece_lem (drop p.offset s))) _ _)
