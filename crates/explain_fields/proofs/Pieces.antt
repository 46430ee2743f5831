-- The bytes of a piece, one after another.
use mathlib.Core.Path.{◌≡◌, refl, sym, ap, ◌∙◌}
use mathlib.Core.Bool.{Bool, true, false, cond, ◌&&◌}
use mathlib.Core.List.{List, [], ◌∷◌}
use mathlib.Core.Option as M
use mathlib.Core.Option.{none, some}
use Rattle.std.specs.Prelude.{Some, None, Err}
use Rattle.std.specs.List.{list_all}
use Rattle.std.proofs.lemmas.List.{at_drop_more}
use Prim.Native.Nat.{ℕ, suc, ◌+◌, ◌≤◌, ◌<◌}
use native.Mathlib.Omega.{arith}
use lib.Dec.{eqb, leb}
use lib.ListN.{length, get_or, drop, drop_of_length-le}
use lib.Seq.{slice, drop-cons, take-length}
use borrow.Author.Tests.{eq-eqb, ne_eqb}
use Rattle.listing.specs.Lists.{is_some}
use Rattle.listing.specs.Bytes.{Bytes, read_figure}
use Rattle.listing.specs.Listing as L
use Rattle.listing.specs.Expressions.{bind, each, alone, effect_of, read_piece}
use Rattle.listing.specs.Expressions as L'
use Rattle.listing.specs.Form.{read_kind, read_kinds}
use Rattle.listing_effect.specs.Held.{as_effect}
use Rattle.listing_effect.specs.declared.Effect.{Effect}
use Rattle.listing_effect.specs.declared.Effect.TheVariants as EV
use Rattle.text_piece.specs.Pieces.{as_piece, effect_in, as_figure}
use Rattle.text_piece.specs.declared.figure.Figure.TheVariants as FV
use Rattle.explain_fields.specs.declared.reasons.Strange.TheVariants as SV
use Rattle.explain_fields.specs.declared.reasons.Reason.{Reason}
use Rattle.explain_fields.specs.declared.reasons.Reason.TheVariants as WV
use Rattle.explain_fields.specs.Pieces.{strange_byte, or_in, first_strange, strange_in, why_bad, figure_why, weighed_by, weighed}

-- the whole of a text as a part of it
pub whole : (s : Bytes) → slice 0 (length s) s ≡ s
whole s = take-length s

-- ── strange bytes ────────────────────────────────────────────────────────────────
pub nothing_there : (s : Bytes) → length s ≡ 0 → Some SV.Nothing ≡ strange_in s
unfolding strange_in
nothing_there [] e = refl
nothing_there (b ∷ s) e = absurd (let z : ⊥ = omega (arith, e) in z)

pub something_there : (s : Bytes) → (length s ≡ 0 → ⊥) → first_strange s ≡ strange_in s
unfolding strange_in
something_there [] n = absurd (n refl)
something_there (b ∷ s) n = refl

pub strange_on : (s : Bytes) (i : ℕ) → i < length s → first_strange (drop i s) ≡ or_in (strange_byte (get_or s i 0)) (first_strange (drop (i + 1) s))
unfolding first_strange
strange_on s i h = at_drop_more first_strange s i 0 h

pub strange_none : (s : Bytes) (i : ℕ) → length s ≤ i → first_strange (drop i s) ≡ None
unfolding first_strange
strange_none s i h = rw (drop_of_length-le s h)

-- ── kinds ────────────────────────────────────────────────────────────────────────
pub no_kinds : (s : Bytes) → length s ≡ 0 → false ≡ is_some (read_kinds s)
unfolding read_kinds
no_kinds [] e = refl
no_kinds (b ∷ s) e = absurd (let z : ⊥ = omega (arith, e) in z)

pub dash_alone : (s : Bytes) → (length s ≡ 0 → ⊥) → get_or s 0 0 ≡ 45 → eqb (length s) 1 ≡ is_some (read_kinds s)
unfolding read_kinds alone
dash_alone [] n e = absurd (n refl)
dash_alone (b ∷ []) n e = rw (eq-eqb b 45 e)
dash_alone (b ∷ (d ∷ s)) n e = rw (eq-eqb b 45 e) (ne_eqb (suc (suc (length s))) 1 (λ h. omega (arith, h)))

pub letters_there : (s : Bytes) → (length s ≡ 0 → ⊥) → (get_or s 0 0 ≡ 45 → ⊥) → is_some (each read_kind s) ≡ is_some (read_kinds s)
unfolding read_kinds
letters_there [] n m = absurd (n refl)
letters_there (b ∷ s) n m = rw (ne_eqb b 45 m)

each_some : {A B : Type 0} (read : A → M.Option B) (x : A) (xs : List A) → is_some (each read (x ∷ xs)) ≡ (is_some (read x) && is_some (each read xs))
unfolding each
each_some {B = B} read x xs = go (read x) (each read xs)
  where
    go : (o : M.Option B) (p : M.Option (List B)) → is_some (bind o (λ y. bind p (λ ys. some (y ∷ ys)))) ≡ (is_some o && is_some p)
    go none p = refl
    go (some y) none = refl
    go (some y) (some ys) = refl

pub letters_all : (s : Bytes) → list_all (λ b. is_some (read_kind b)) s ≡ is_some (each read_kind s)
unfolding each
letters_all [] = refl
letters_all (b ∷ s) = ap (λ (t : Bool). is_some (read_kind b) && t) (letters_all s) ∙ sym (each_some read_kind b s)

-- ── a figure, a piece of an expression ───────────────────────────────────────────
pub is_figure_lem : (s : Bytes) (v : ℕ) → FV.Value v ≡ as_figure (read_figure s) → None ≡ figure_why s
is_figure_lem s v e = go (read_figure s) e
  where
    go : (o : M.Option ℕ) → FV.Value v ≡ as_figure o → None ≡ cond (is_some o) None (Some (why_bad WV.BadFigure s))
    go none e = absurd (let z : ◌≡◌ {A = ℕ} 0 1 = cc in omega arith)
    go (some n) e = refl

pub no_figure : (s : Bytes) (r : Reason) → FV.Bad ≡ as_figure (read_figure s) → r ≡ why_bad WV.BadFigure s → Some r ≡ figure_why s
no_figure s r e w = go (read_figure s) e
  where
    go : (o : M.Option ℕ) → FV.Bad ≡ as_figure o → Some r ≡ cond (is_some o) None (Some (why_bad WV.BadFigure s))
    go none e = ap (λ (x : Reason). Some x) w
    go (some n) e = absurd (let z : ◌≡◌ {A = ℕ} 0 1 = cc in omega arith)

-- what a reading does to the values held
abbrev effect_read : M.Option L.Piece → Effect
effect_read none = EV.Unknown
effect_read (some p) = as_effect (effect_of p)

effect_read_lem : (o : M.Option L.Piece) → effect_in (as_piece o) ≡ effect_read o
unfolding effect_of
effect_read_lem none = refl
effect_read_lem (some (L.Piece.literal v)) = refl
effect_read_lem (some (L.Piece.value_of n)) = refl
effect_read_lem (some (L.Piece.written_mark n)) = refl
effect_read_lem (some L.Piece.plus) = refl
effect_read_lem (some L.Piece.minus) = refl
effect_read_lem (some L.Piece.times) = refl
effect_read_lem (some L.Piece.less) = refl
effect_read_lem (some L.Piece.divide) = refl
effect_read_lem (some L.Piece.remainder) = refl

module _ (held : ℕ) (s : Bytes) where
  adds_weighed : (o : M.Option L.Piece) → EV.Adds ≡ effect_read o → weighed held o s ≡ weighed_by held (L'.adds)
  adds_weighed none e = absurd (let z : ◌≡◌ {A = ℕ} 0 1 = cc in omega arith)
  adds_weighed (some p) e = go (effect_of p) e
    where
      go : (x : L'.Effect) → EV.Adds ≡ as_effect x → weighed_by held x ≡ weighed_by held L'.adds
      go L'.adds e = refl
      go L'.joins e = absurd (let z : ◌≡◌ {A = ℕ} 0 1 = cc in omega arith)

  joins_weighed : (o : M.Option L.Piece) → EV.Joins ≡ effect_read o → weighed held o s ≡ weighed_by held (L'.joins)
  joins_weighed none e = absurd (let z : ◌≡◌ {A = ℕ} 0 1 = cc in omega arith)
  joins_weighed (some p) e = go (effect_of p) e
    where
      go : (x : L'.Effect) → EV.Joins ≡ as_effect x → weighed_by held x ≡ weighed_by held L'.joins
      go L'.adds e = absurd (let z : ◌≡◌ {A = ℕ} 0 1 = cc in omega arith)
      go L'.joins e = refl

  bad_weighed : (o : M.Option L.Piece) → EV.Unknown ≡ effect_read o → weighed held o s ≡ Err (why_bad WV.BadPiece s)
  bad_weighed none e = refl
  bad_weighed (some p) e = go (effect_of p) e
    where
      go : (x : L'.Effect) → EV.Unknown ≡ as_effect x → weighed_by held x ≡ Err (why_bad WV.BadPiece s)
      go L'.adds e = absurd (let z : ◌≡◌ {A = ℕ} 0 1 = cc in omega arith)
      go L'.joins e = absurd (let z : ◌≡◌ {A = ℕ} 0 1 = cc in omega arith)

  module _ (x : Effect) (e : x ≡ effect_in (as_piece (read_piece (slice 0 (length s) s)))) where
    read_whole : x ≡ effect_read (read_piece s)
    read_whole = e ∙ effect_read_lem (read_piece (slice 0 (length s) s)) ∙ ap (λ (l : Bytes). effect_read (read_piece l)) (whole s)

    pub adds_one : x ≡ EV.Adds → weighed_by held L'.adds ≡ weighed held (read_piece s) s
    adds_one h = sym (adds_weighed (read_piece s) (sym h ∙ read_whole))

    pub joins_two : x ≡ EV.Joins → weighed_by held L'.joins ≡ weighed held (read_piece s) s
    joins_two h = sym (joins_weighed (read_piece s) (sym h ∙ read_whole))

    pub no_piece_lem : x ≡ EV.Unknown → Err (why_bad WV.BadPiece s) ≡ weighed held (read_piece s) s
    no_piece_lem h = sym (bad_weighed (read_piece s) (sym h ∙ read_whole))
