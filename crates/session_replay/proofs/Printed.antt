-- What is printed of two parts, one after the other. Letters: p what was played, f and g ways on from a state.
use mathlib.Core.Path.{◌≡◌, refl, sym, ◌∙◌}
use mathlib.Core.List.{List, [], ◌∷◌, ◌++◌, append_assoc}
use Prim.Native.Nat.{ℕ}
use Rattle.listing.specs.Bytes.{Bytes}
use Rattle.walk.specs.State.{State}
use Rattle.walk.specs.Events.{Event}
use Rattle.walk.specs.Session.{Then, goes_on_lem, ends, Played, after_then, and_then, write_line, write_lines, end_of, end_line, printed}

append_nothing : {A : Type 0} (xs : List A) → xs ++ [] ≡ xs
append_nothing [] = refl
append_nothing (x ∷ xs) = rw (append_nothing xs)

lines_append : (es fs : List Event) → write_lines (es ++ fs) ≡ write_lines es ++ write_lines fs
unfolding write_lines
lines_append [] fs = refl
lines_append (e ∷ es) fs = rw (lines_append es fs) (sym (append_assoc (write_line e) (write_lines es) (write_lines fs)))

-- After some writes the session goes on from a state.
pub printed_on : (es : List Event) (s : State) (f : State → Played) → printed (and_then (record { writes = es; next = goes_on_lem s }) f) ≡ write_lines es ++ printed (f s)
unfolding printed and_then after_then
printed_on es s f = rw (lines_append es (f s).writes) (append_assoc (write_lines es) (write_lines (f s).writes) (end_of (f s).next))

-- Without writes it ends.
pub printed_end : (k now : ℕ) (f : State → Played) → printed (and_then (record { writes = []; next = ends k now }) f) ≡ end_line k now
unfolding printed and_then after_then write_lines end_of
printed_end k now f = refl

assoc_next : (n : Then) (f g : State → Played) → and_then (after_then n f) g ≡ after_then n (λ (s : State). and_then (f s) g)
unfolding after_then and_then
assoc_next (goes_on_lem s) f g = refl
assoc_next (ends k now) f g = refl

-- Three parts may be taken together in either way.
pub and_then_assoc : (p : Played) (f g : State → Played) → and_then (and_then p f) g ≡ and_then p (λ (s : State). and_then (f s) g)
unfolding and_then after_then
and_then_assoc p f g = go p.writes p.next
  where
    go : (es : List Event) (n : Then) → and_then (and_then (record { writes = es; next = n }) f) g ≡ and_then (record { writes = es; next = n }) (λ (s : State). and_then (f s) g)
    go es (goes_on_lem s) = rw (append_assoc es (f s).writes (after_then (f s).next g).writes)
    go es (ends k now) = rw (append_assoc es [] [])
