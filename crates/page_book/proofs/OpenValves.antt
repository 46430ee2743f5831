-- What is open in a list of openings, and what one write more changes. Letters: w a write, x an opening, xs openings, o an output.
use mathlib.Core.Path.{◌≡◌, refl, sym, ap, ap₂, ◌∙◌}
use mathlib.Core.Bool.{Bool, true, false, cond, ◌&&◌}
use mathlib.Core.List.{List, [], ◌∷◌, map}
use mathlib.Core.Option.{Option, none, some}
use Prim.Native.Nat.{ℕ, ◌<◌}
use native.Mathlib.Omega.{arith}
use lib.Dec.{eqb}
use borrow.Author.Tests.{eq-eqb, eqb-true}
use Rattle.listing.specs.Lists.{is_some}
use Rattle.listing.proofs.Tests.{no_test}
use Rattle.openings.specs.Writes.{Write}
use Rattle.openings.specs.Openings.{is_zero, Opening}
use Rattle.openings.proofs.All.{All, each, mapped}
use Rattle.openings.proofs.OneMore.{closed_at, ends, after}
use Rattle.page_rows.specs.Rows.{Fits}

-- no opening of o lasts
abbrev pub NoneOpen : ℕ → List Opening → Type 0
NoneOpen o xs = All (λ (x : Opening). x.output ≡ o → is_some x.closed ≡ true) xs

-- the opening of a valve that is still open
abbrev pub open_one : ℕ → ℕ → Opening
open_one o opened = record { output = o; opened = opened; closed = none }

abbrev pub closed_one : ℕ → ℕ → ℕ → Opening
closed_one o opened closed = record { output = o; opened = opened; closed = some closed }

-- ── a write with 0 ────────────────────────────────────────────────────────────────────────────────
ended_stays : (b : Bool) (m : ℕ) (c : Option ℕ) → is_some c ≡ true → cond b (closed_at m c) c ≡ c
unfolding closed_at
ended_stays b m none h = no_test h
ended_stays true m (some c) h = refl
ended_stays false m (some c) h = refl

-- what has ended, or is of another output, stays
after_ended : (w : Write) (x : Opening) → (x.output ≡ w.output → is_some x.closed ≡ true) → after w x ≡ x
unfolding after
after_ended w x h = ap (λ (c : Option ℕ). record { output = x.output; opened = x.opened; closed = c }) (go (eqb w.output x.output) refl)
  where
    go : (b : Bool) → eqb w.output x.output ≡ b →
        cond (eqb w.output x.output && is_zero w) (closed_at w.moment x.closed) x.closed ≡ x.closed
    go true e = ended_stays (eqb w.output x.output && is_zero w) w.moment x.closed (h (sym (eqb-true w.output x.output e)))
    go false e = rw e

pub none_changes : (w : Write) (xs : List Opening) → NoneOpen w.output xs → map (after w) xs ≡ xs
none_changes w [] a = refl
none_changes w (x ∷ xs) (each h a) = ap₂ (λ (y : Opening) (ys : List Opening). y ∷ ys) (after_ended w x h) (none_changes w xs a)

-- a write with another value ends nothing
pub still_open : (w : Write) → is_zero w ≡ false → (xs : List Opening) → map (after w) xs ≡ xs
unfolding after
still_open w z [] = refl
still_open w z (x ∷ xs) = ap₂ (λ (y : Opening) (ys : List Opening). y ∷ ys) (rw z (go (eqb w.output x.output))) (still_open w z xs)
  where
    go : (b : Bool) → record { output = x.output; opened = x.opened; closed = cond (b && false) (closed_at w.moment x.closed) x.closed } ≡ x
    go true = refl
    go false = refl

-- the open one is closed
pub after_open : (w : Write) (opened : ℕ) → is_zero w ≡ true → after w (open_one w.output opened) ≡ closed_one w.output opened w.moment
unfolding after closed_at
after_open w opened z = rw (eq-eqb w.output w.output refl, z)

-- one of another output stays open
pub after_other : (w : Write) (o opened : ℕ) → (w.output ≡ o → ⊥) → after w (open_one o opened) ≡ open_one o opened
after_other w o opened n = after_ended w (open_one o opened) (λ e. absurd (n (sym e)))

-- nothing opens by it
after_closed : (w : Write) (x : Opening) → is_some x.closed ≡ true → is_some (after w x).closed ≡ true
unfolding after
after_closed w x h = rw (ended_stays (ends w x.output) w.moment x.closed h) h

after_output : (w : Write) (x : Opening) → (after w x).output ≡ x.output
unfolding after
after_output w x = refl

pub none_opens : (w : Write) (o : ℕ) (xs : List Opening) → NoneOpen o xs → NoneOpen o (map (after w) xs)
none_opens w o xs a = mapped (after w) (λ x h e. after_closed w x (h (sym (after_output w x) ∙ e))) xs a

-- ── the numbers stay small ────────────────────────────────────────────────────────────────────────
after_fits : (w : Write) → w.moment < 18446744073709551616 → (x : Opening) → Fits x → Fits (after w x)
unfolding after closed_at
after_fits w h x f = record { low = f.low; soon = f.soon; ends = λ c e. go (eqb w.output x.output && is_zero w) x.closed f.ends c e }
  where
    go : (b : Bool) (closed : Option ℕ) → ((c : ℕ) → closed ≡ some c → c < 18446744073709551616) → (c : ℕ) → cond b (closed_at w.moment closed) closed ≡ some c →
        c < 18446744073709551616
    go true none l c e = let z : w.moment ≡ c = cc in omega arith
    go true (some d) l c e = l c e
    go false closed l c e = l c e

pub all_fit : (w : Write) → w.moment < 18446744073709551616 → (xs : List Opening) → All Fits xs → All Fits (map (after w) xs)
all_fit w h xs a = mapped (after w) (after_fits w h) xs a

pub new_fits : (w : Write) → w.output < 16 → w.moment < 18446744073709551616 → Fits (open_one w.output w.moment)
new_fits w l h = record { low = l; soon = h; ends = λ c e. absurd (let z : ◌≡◌ {A = ℕ} 0 1 = cc in omega arith) }
