-- The sentences of the reasons by number, and their spots.
use mathlib.Core.Path.{◌≡◌, refl, sym, ap, ◌∙◌}
use mathlib.Core.List.{List, [], ◌∷◌, ◌++◌, append_assoc}
use Prim.Native.Nat.{ℕ, zero, suc, ◌-◌}
use native.Mathlib.Omega.{arith}
use lib.ListN.{get_or}
use Rattle.std.specs.Prelude.{map, slice_get, Some, None}
use Rattle.listing.specs.Bytes.{Bytes, bytes_of, figure}
use Rattle.explain_parts.specs.Parts.{part_of}
use Rattle.explain_said.specs.Spots.{piece_text, field_text, numbered_text, spot_text, fault_said}
use Rattle.explain_said.specs.Numbers.{number_text, piece_part, place_text, spot_of}

-- what stands in a list of texts is the text of what stands in the list itself
text_at : {A : Type 0} (f : A → Bytes) (l : List A) (k : ℕ) (x : A) → slice_get l k ≡ Some x → f x ≡ get_or (map f l) k []
text_at f [] k x e = absurd (none_there e)
  where
    none_there : {A : Type 0} {x : A} → None ≡ Some x → ⊥
    none_there e = cc
text_at f (y ∷ l) zero x e = grind arith
text_at f (y ∷ l) (suc k) x e = text_at f l k x e

none_at : {A : Type 0} (f : A → Bytes) (l : List A) (k : ℕ) → slice_get l k ≡ None → [] ≡ get_or (map f l) k []
none_at f [] k e = refl
none_at f (y ∷ l) zero e = cc
none_at f (y ∷ l) (suc k) e = none_at f l k e

-- the texts are those of the reasons, which the code has in a list, behind one that is of none
module _ {R : Type 0} (text : R → Bytes) (texts : List Bytes) (reasons : List R) (first : Bytes) (same : texts ≡ first ∷ map text reasons) (number k : ℕ) (is : number ≡ suc k) where
  pub some_text : (why : R) → Some why ≡ slice_get reasons k → text why ≡ get_or texts number []
  some_text why e = text_at text reasons k why (sym e) ∙ ap (λ (l : List Bytes). get_or l (suc k) []) (sym same) ∙ ap (λ (n : ℕ). get_or texts n []) (sym is)

  pub no_text : None ≡ slice_get reasons k → [] ≡ get_or texts number []
  no_text e = none_at text reasons k (sym e) ∙ ap (λ (l : List Bytes). get_or l (suc k) []) (sym same) ∙ ap (λ (n : ℕ). get_or texts n []) (sym is)

-- a spot by its numbers
pub placed : (line : Bytes) (field piece : ℕ) → spot_text line (spot_of field piece) ≡ place_text line field piece
unfolding spot_text field_text numbered_text place_text piece_part
placed line zero piece = refl
placed line (suc field) zero = append_assoc (bytes_of "field ") (figure (suc field)) (bytes_of ": ")
placed line (suc field) (suc piece) =
    append_assoc (bytes_of "field ") (figure (suc field))
    (bytes_of ", piece " ++ (figure (suc piece) ++ piece_text (part_of 9 line (suc field - 1)) (suc piece)) ++ bytes_of ": ")

-- so `put_fault` says of any numbers where the reason applies, and then its sentence
pub numbered : (line : Bytes) (why field piece : ℕ) → fault_said number_text line (Some (record { why = why; spot = spot_of field piece })) ≡ place_text line field piece ++ number_text why
numbered line why field piece = ap (λ (t : Bytes). t ++ number_text why) (placed line field piece)
