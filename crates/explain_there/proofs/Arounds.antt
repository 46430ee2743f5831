-- The lines of a listing, one after another.
use mathlib.Core.Path.{◌≡◌, refl, sym, ap, ◌∙◌}
use mathlib.Core.Bool.{Bool, true, false, cond}
use mathlib.Core.List.{List, [], ◌∷◌}
use mathlib.Core.Option.{Option, none, some}
use Prim.Native.Nat.{ℕ, ◌+◌, ◌-◌, ◌≤◌, ◌<◌, min}
use native.Mathlib.Omega.{arith}
use lib.Dec.{eqb, leb}
use lib.ListN.{length, get_or, drop}
use Rattle.listing.specs.Bytes.{Bytes, split, read_figure}
use Rattle.text_piece.specs.Pieces.{as_figure, figure_answer}
use Rattle.text_piece.specs.declared.figure.Figure.TheVariants as FV
use Rattle.std.proofs.lemmas.List.{at_drop_all}
use Rattle.explain_parts.proofs.Parts.{next_part}
use Rattle.explain_there.specs.Arounds.{Small, around_line, around_all, nothing, around_of}
use Rattle.explain_there.specs.declared.around.Around.{Around}

-- a figure's number stops at the cap
pub capped : (piece : Bytes) (v : ℕ) → FV.Value v ≡ figure_answer piece → v ≤ 1099511627776
capped piece v e = go (read_figure piece) e
  where
    go : (o : Option ℕ) → FV.Value v ≡ as_figure o → v ≤ 1099511627776
    go none e = absurd (let z : ◌≡◌ {A = ℕ} 0 1 = cc in omega arith)
    go (some n) e = let z : v ≡ min n 1099511627776 = cc in omega (arith, z)

-- so many bytes hold no more
pub record Bounded (held : Around) (at : ℕ) : Type 0 where
  pub lines : held.lines ≤ at
  pub routines : held.routines ≤ at
  pub size : held.size ≤ at

pub bounded_small : {held : Around} (at : ℕ) → Bounded held at → at ≤ 100000 → Small held
bounded_small at b h = record { lines = omega (arith, b.lines, h); routines = omega (arith, b.routines, h); size = omega (arith, b.size, h) }

pub bounded_on : (held : Around) (at next place : ℕ) (line : Bytes) → at + 1 ≤ next → Bounded held at → Bounded (around_line held place line) next
unfolding around_line
bounded_on held at next place line h b = go (eqb (get_or line 0 0) 82) (eqb (get_or line 0 0) 0) (leb place held.lines) held.past
  where
    go : (r z l p : Bool) →
        Bounded
        (cond r
        (cond l (record { lines = held.lines + 1; routines = held.routines + 1; opening = held.opening; size = held.size; past = true })
        (record { lines = held.lines + 1; routines = held.routines + 1; opening = held.lines; size = 0; past = held.past }))
        (cond z held
        (cond p (record { lines = held.lines + 1; routines = held.routines; opening = held.opening; size = held.size; past = held.past })
        (record { lines = held.lines + 1; routines = held.routines; opening = held.opening; size = held.size + 1; past = held.past }))))
        next
    go true z true p = record { lines = omega (arith, b.lines, h); routines = omega (arith, b.routines, h); size = omega (arith, b.size, h) }
    go true z false p = record { lines = omega (arith, b.lines, h); routines = omega (arith, b.routines, h); size = omega arith }
    go false true l p = record { lines = omega (arith, b.lines, h); routines = omega (arith, b.routines, h); size = omega (arith, b.size, h) }
    go false false l true = record { lines = omega (arith, b.lines, h); routines = omega (arith, b.routines, h); size = omega (arith, b.size, h) }
    go false false l false = record { lines = omega (arith, b.lines, h); routines = omega (arith, b.routines, h); size = omega (arith, b.size, h) }

pub nothing_held : Bounded nothing 0
nothing_held = record { lines = omega arith; routines = omega arith; size = omega arith }

-- the lines from the one with so many before it on tell the rest
module _ (s : Bytes) (place n : ℕ) (held : Around) (same : around_all held place (drop n (split 10 s)) ≡ around_of s place) where
  pub told_all : length (split 10 s) ≤ n → held ≡ around_of s place
  unfolding around_all
  told_all h = sym (at_drop_all (around_all held place) (split 10 s) n h) ∙ same

  pub told_on : (line : Bytes) → (n < length (split 10 s)) × (line ≡ get_or (split 10 s) n line) → (t : Around) (m : ℕ) → t ≡ around_line held place line → m ≡ n + 1 →
      around_all t place (drop m (split 10 s)) ≡ around_of s place
  unfolding around_all
  told_on line turn t m e l =
      ap (λ (k : ℕ). around_all t place (drop k (split 10 s))) l ∙ ap (λ (x : Around). around_all x place (drop (n + 1) (split 10 s))) e
      ∙ sym (next_part (around_all held place) (split 10 s) n line turn) ∙ same
