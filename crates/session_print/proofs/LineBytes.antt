-- Bytes and figures stored one behind another are a line.
-- Letters: l a list of bytes, i a place in it.
use mathlib.Core.Path.{◌≡◌, refl, sym, ap, subst, ◌∙◌}
use mathlib.Core.List.{List, [], ◌∷◌, ◌++◌, append_assoc}
use Prim.Native.Nat.{ℕ, ◌+◌, ◌-◌, ◌≤◌, ◌<◌}
use native.Mathlib.Omega.{arith}
use lib.ListN.{length, set, length-append}
use lib.Seq.{sets}
use borrow.Author.Tests.{lt-ltb, le-ltb}
use Rattle.listing.specs.Bytes.{figure}
use Rattle.listing.specs.Text.{signed_figure}
use Rattle.walk.specs.Events.{Event}
use Rattle.walk.specs.Session.{write_line, end_line}
use Rattle.session_print.specs.Puts.{Puts, front}
use Rattle.session_print.proofs.Stores.{sets_append}

pub one_byte : (l : List ℕ) (i b : ℕ) (after : List ℕ) → after ≡ set l i b → Puts l i (b ∷ []) after (i + 1)
one_byte l i b after e = record { past = refl; stored = e }

-- the same place, said otherwise
pub put_at_lem : {l xs after : List ℕ} {i i' j : ℕ} → i' ≡ i → Puts l i' xs after j → Puts l i xs after j
put_at_lem {l} {xs} {after} {i} {i'} {j} e p = subst (λ (k : ℕ). Puts l k xs after j) e p

-- the same bytes
pub same_bytes : {l xs ys after : List ℕ} {i j : ℕ} → xs ≡ ys → Puts l i xs after j → Puts l i ys after j
same_bytes {l} {xs} {ys} {after} {i} {j} e p = subst (λ (zs : List ℕ). Puts l i zs after j) e p

pub then_bytes : {l l₁ l₂ xs ys : List ℕ} {i j k : ℕ} → Puts l i xs l₁ j → Puts l₁ j ys l₂ k → Puts l i (xs ++ ys) l₂ k
then_bytes {l} {l₁} {l₂} {xs} {ys} {i} {j} {k} p q =
    record {
      past = omega (arith, p.past, q.past, length-append xs ys);
      stored = q.stored ∙ ap (λ (n : ℕ). sets l₁ n ys) p.past ∙ ap (λ (m : List ℕ). sets m (i + length xs) ys) p.stored ∙ sym (sets_append l i xs ys);
    }

pub signed_low : (word : ℕ) → word < 2147483648 → figure word ≡ signed_figure word
unfolding signed_figure
signed_low word h = rw (lt-ltb word 2147483648 h)

pub signed_high : (word : ℕ) → 2147483648 ≤ word → 45 ∷ figure (4294967296 - word) ≡ signed_figure word
unfolding signed_figure
signed_high word h = rw (le-ltb word 2147483648 h)

front_then : (letter n : ℕ) (rest : List ℕ) → front letter n ++ rest ≡ letter ∷ (9 ∷ (figure n ++ (9 ∷ rest)))
front_then letter n rest = ap (λ (l : List ℕ). letter ∷ (9 ∷ l)) (append_assoc (figure n) (9 ∷ []) rest)

pub write_line_is : (e : Event) →
    front 79 e.moment ++ (figure e.number ++ ((9 ∷ []) ++ (signed_figure e.value ++ (10 ∷ [])))) ≡ write_line e
unfolding write_line
write_line_is e = front_then 79 e.moment _

pub end_line_is : (code moment : ℕ) → front 88 code ++ (figure moment ++ (10 ∷ [])) ≡ end_line code moment
unfolding end_line
end_line_is code moment = front_then 88 code _
