-- Why no page is printed, case by case.
use mathlib.Core.Path.{◌≡◌, refl}
use mathlib.Core.Bool.{Bool, true, false}
use Prim.Native.Nat.{ℕ}
use borrow.Author.Tests.{eq-eqb, ne_eqb}
use Rattle.listing.specs.Bytes.{Bytes}
use Rattle.session_print.specs.Puts.{Puts}
use Rattle.book.specs.Reasons.{too_long_lem, too_many_lem, turned_away, why_none}

pub too_long : {before after : Bytes} {n : ℕ} (read : ℕ) (all : Bool) (number : ℕ) → read ≡ 262144 → Puts before 0 too_long_lem after n
    → Puts before 0 (why_none read all number) after n
unfolding why_none
too_long read all number e p = rw (eq-eqb read 262144 e) p

pub too_many : {before after : Bytes} {n : ℕ} (read : ℕ) (all : Bool) (number : ℕ) → (read ≡ 262144 → ⊥) → all ≡ false → Puts before 0 too_many_lem after n
    → Puts before 0 (why_none read all number) after n
unfolding why_none
too_many read all number d h p = rw (ne_eqb read 262144 d, h) p

pub printed : (before : Bytes) (read : ℕ) (all : Bool) (number : ℕ) → (read ≡ 262144 → ⊥) → all ≡ true → number ≡ 0 → Puts before 0 (why_none read all number) before 0
unfolding why_none
printed before read all number d h e = rw (ne_eqb read 262144 d, h, eq-eqb number 0 e) (record { past = refl; stored = refl })

pub turned_away_lem : {before after : Bytes} {n : ℕ} (read : ℕ) (all : Bool) (number : ℕ) → (read ≡ 262144 → ⊥) → all ≡ true → (number ≡ 0 → ⊥)
    → Puts before 0 turned_away after n → Puts before 0 (why_none read all number) after n
unfolding why_none
turned_away_lem read all number d h e p = rw (ne_eqb read 262144 d, h, ne_eqb number 0 e) p
