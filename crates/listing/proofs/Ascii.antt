-- "Plain ASCII": a text that passes question 2 holds no other byte.
use mathlib.Core.Path.{◌≡◌, refl}
use mathlib.Core.Bool.{true}
use mathlib.Core.List.{List, ◌∷◌, ◌++◌, map}
use Prim.Native.Nat.{ℕ}
use native.Mathlib.Omega.{arith}
use borrow.Author.Tests.{lt-ltb}
use Rattle.listing.specs.Lists.{all}
use Rattle.listing.specs.Bytes.{Bytes, tab, space, is_ascii, join}
use Rattle.listing.specs.Listing.{Line}
use Rattle.listing.specs.Form.{Field}
use Rattle.listing.specs.Text.{join_fields, lines_text}
use Rattle.listing.specs.Questions.{place2}
use Rattle.listing.proofs.Tests.{all_append}
use Rattle.listing.proofs.Splits.{All, none_left, also}
use Rattle.listing.proofs.Separators.{Visible, nothing, put, VisibleField, visible_field, line_fields_lem}
use Rattle.listing.proofs.Records.{Standing, still, stand}
use Rattle.listing.proofs.Texts.{question_2_passed}

data Ascii (text : Bytes) : Type 0 where
  ascii : all is_ascii text ≡ true → Ascii text

append_ascii : {v w : Bytes} → Ascii v → Ascii w → Ascii (v ++ w)
append_ascii {v} {w} (ascii p) (ascii q) = ascii (all_append is_ascii v w p q)

put_ascii : {byte : ℕ} {text : Bytes} → is_ascii byte ≡ true → Ascii text → Ascii (byte ∷ text)
unfolding all
put_ascii h (ascii p) = ascii (rw (h, p))

visible_ascii : {piece : Bytes} → Visible piece → Ascii piece
unfolding all
visible_ascii nothing = ascii refl
visible_ascii (put byte h a v) = put_ascii (lt-ltb byte 128 (omega arith)) (visible_ascii v)

join_ascii : (c : ℕ) → is_ascii c ≡ true → {parts : List Bytes} → All Ascii parts → Ascii (join c parts)
unfolding join all
join_ascii c h none_left = ascii refl
join_ascii c h (also a none_left) = a
join_ascii c h (also a (also b bs)) = append_ascii a (put_ascii h (join_ascii c h (also b bs)))

pieces_ascii : {pieces : Field} → All Visible pieces → All Ascii pieces
pieces_ascii none_left = none_left
pieces_ascii (also v vs) = also (visible_ascii v) (pieces_ascii vs)

fields_ascii : {fields : List Field} → All VisibleField fields → All Ascii (map (join space) fields)
fields_ascii none_left = none_left
fields_ascii (also (visible_field v vs) fs) = also (join_ascii space refl (also (visible_ascii v) (pieces_ascii vs))) (fields_ascii fs)

lines_ascii : {number : ℕ} {lines : List Line} → Standing number lines → Ascii (lines_text lines)
unfolding lines_text join_fields all
lines_ascii still = ascii refl
lines_ascii (stand {line = line} h s r) = append_ascii (join_ascii tab refl (fields_ascii (line_fields_lem line h))) (put_ascii refl (lines_ascii r))

pub text_is_ascii : (text : Bytes) → place2 text ≡ 0 → all is_ascii text ≡ true
text_is_ascii text h = let f = question_2_passed text h in rw (← f.is) (holds (lines_ascii f.standing))
  where
    holds : {text : Bytes} → Ascii text → all is_ascii text ≡ true
    holds (ascii p) = p
