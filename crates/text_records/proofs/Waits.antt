-- The names of a wait.
use Rattle.std.specs.Prelude.{None}
use mathlib.Core.Path.{◌≡◌, refl, ◌∙◌}
use mathlib.Core.Bool.{Bool, true, false}
use mathlib.Core.List.{List, [], ◌∷◌}
use mathlib.Core.Option.{Option, none, some}
use Prim.Native.Nat.{ℕ, suc, ◌≤◌, ◌<◌}
use native.Mathlib.Omega.{arith}
use lib.Dec.{eqb}
use lib.ListN.{length, drop}
use borrow.Author.Tests.{le-leb, lt-leb, eqb-false, eqb-true}
use Rattle.listing.specs.Bytes.{read_figure}
use Rattle.listing.specs.Expressions.{bind, when, each}
use Rattle.listing.specs.Form.{Field, next_field_lem, one_to, read_names}
use Rattle.listing.specs.Listing as L
use Rattle.text_place.specs.Texts.{fields_left}
use Rattle.text_piece.specs.Pieces.{cap}
use Rattle.text_fields.specs.Gather.{figures_answer}
use Rattle.text_place.specs.declared.place.Place.{Place}
use Rattle.text_place.proofs.Places.{left_open}
use Rattle.text_jumps.proofs.Chain.{Got, figures_unread, left_none}

names_next : (fs : List Field) (k : List ℕ → List Field → Option L.Line) → next_field_lem read_names fs k ≡ next_field_lem (each read_figure) fs (λ ns gs. bind (when (one_to 4 ns) ns) (λ ms. k ms gs))
unfolding next_field_lem read_names
names_next [] k = refl
names_next (f ∷ fs) k = go (each read_figure f)
  where
    go : (o : Option (List ℕ)) → bind (bind o (λ ns. when (one_to 4 ns) ns)) (λ ms. k ms fs) ≡ bind o (λ ns. bind (when (one_to 4 ns) ns) (λ ms. k ms fs))
    go none = refl
    go (some ns) = refl

module _ (s : List ℕ) (c : Place) (b b' : ℕ) (c' : Place) (n : ℕ) (ns : List ℕ) (g : Got (each read_figure) s c b (n ∷ ns) b' c') (k : List ℕ → List Field → Option L.Line) where
  pub names_few : suc (length ns) ≤ 4 → next_field_lem read_names (fields_left b (drop c.offset s)) k ≡ k (n ∷ ns) (fields_left b' (drop c'.offset s))
  unfolding one_to
  names_few h = names_next (fields_left b (drop c.offset s)) k ∙ g.on _ ∙ rw (le-leb 1 (suc (length ns)) (omega arith), le-leb (suc (length ns)) 4 h)

  pub names_many : 4 < suc (length ns) → next_field_lem read_names (fields_left b (drop c.offset s)) k ≡ none
  unfolding one_to
  names_many h = names_next (fields_left b (drop c.offset s)) k ∙ g.on _ ∙ rw (le-leb 1 (suc (length ns)) (omega arith), lt-leb (suc (length ns)) 4 h)

pub names_none : (s : List ℕ) (c : Place) (b names : ℕ) → names ≤ cap → None ≡ figures_answer names s c b → (k : List ℕ → List Field → Option L.Line) → next_field_lem read_names (fields_left b (drop c.offset s)) k ≡ none
unfolding next_field_lem read_names
names_none s c b names h e k = go (eqb b 9) refl
  where
    go : (t : Bool) → eqb b 9 ≡ t → next_field_lem read_names (fields_left b (drop c.offset s)) k ≡ none
    go true i = rw (eqb-true b 9 i, left_open s c.offset, figures_unread s c b names h (eqb-true b 9 i) e)
    go false i = rw (left_none b (drop c.offset s) (eqb-false b 9 i))
