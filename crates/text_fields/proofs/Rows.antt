-- What is gathered from a row of figures: its first number, and whether its names are there.
use mathlib.Core.Path.{◌≡◌, refl, sym, ap, ◌∙◌}
use mathlib.Core.Bool.{Bool, true, false, cond, ◌&&◌}
use mathlib.Core.List.{List, [], ◌∷◌}
use mathlib.Core.Option.{Option, none, some}
use Prim.Native.Nat.{ℕ, suc, ◌+◌, ◌-◌, ◌≤◌, min}
use native.Mathlib.Omega.{arith}
use lib.Dec.{eqb, ltb, leb}
use lib.ListN.{length}
use borrow.Author.Tests.{le-leb, ne_eqb, leb-true, eqb-true}
use Rattle.listing.specs.Lists.{all}
use Rattle.listing.specs.Bytes.{is_digit, is_figure, read_figure, read_on}
use Rattle.listing.specs.Expressions.{bind, when, each, alone, half_range, read_literal, read_piece}
use Rattle.listing.specs.Listing as L
use Rattle.text_piece.specs.Pieces.{cap, as_piece, piece_answer}
use Rattle.text_fields.specs.Gather.{is_there_by, is_value, nothing, gather_one, gather_all}
use Rattle.text_piece.specs.declared.piece.Piece.TheVariants as PV
use Rattle.text_fields.specs.declared.gathering.Gathering.{Gathering}
use Rattle.text_fields.proofs.Gather.{capped_below}

-- ── a piece and a figure ─────────────────────────────────────────────────────────
no_digit_first : (byte : ℕ) (rest : List ℕ) → is_digit byte ≡ false → read_figure (byte ∷ rest) ≡ none
unfolding read_figure is_figure
no_digit_first byte [] e = rw e
no_digit_first byte (next ∷ rest) e = go (leb 49 byte) (leb byte 57) refl refl
  where
    go : (t u : Bool) → leb 49 byte ≡ t → leb byte 57 ≡ u → cond (t && u && all is_digit (next ∷ rest)) (some (read_on 0 (byte ∷ (next ∷ rest)))) none ≡ none
    go true true a b =
        let low : 49 ≤ byte = leb-true 49 byte a in
        let d : is_digit byte ≡ true = rw (le-leb 48 byte (omega arith), b) in
        absurd (let z : ◌≡◌ {A = ℕ} 0 1 = cc in omega arith)
    go true false a b = refl
    go false u a b = refl

no_value : {A : Type 0} (o : Option A) (f : A → L.Piece) → ((a : A) → is_value (as_piece (some (f a))) ≡ false) → is_value (as_piece (bind o (λ a. some (f a)))) ≡ false
no_value none f h = refl
no_value (some a) f h = h a

literal_no_value : (w : List ℕ) → is_value (as_piece (read_literal w)) ≡ false
unfolding read_literal
literal_no_value [] = refl
literal_no_value (byte ∷ rest) = go (eqb byte 45)
  where
    tested : {A : Type 0} (o : Option A) (test : A → Bool) (f : A → ℕ) → is_value (as_piece (bind o (λ a. when (test a) (L.Piece.literal (f a))))) ≡ false
    tested none test f = refl
    tested (some a) test f = on (test a)
      where
        on : (t : Bool) → is_value (as_piece (when t (L.Piece.literal (f a)))) ≡ false
        on true = refl
        on false = refl

    go : (t : Bool) → is_value (as_piece (cond t
        (bind (read_figure rest) (λ n. when (leb 1 n && leb n half_range) (L.Piece.literal (4294967296 - n))))
        (bind (read_figure (byte ∷ rest)) (λ n. when (ltb n half_range) (L.Piece.literal n))))) ≡ false
    go true = tested (read_figure rest) (λ n. leb 1 n && leb n half_range) (λ n. 4294967296 - n)
    go false = tested (read_figure (byte ∷ rest)) (λ n. ltb n half_range) (λ n. n)

alone_no_value : (w : List ℕ) (p : L.Piece) → is_value (as_piece (some p)) ≡ false → is_value (as_piece (alone w p)) ≡ false
unfolding alone
alone_no_value [] p h = h
alone_no_value (byte ∷ rest) p h = refl

-- a piece is a name's value exactly if its text is a figure
pub data Said (w : List ℕ) : Option ℕ → Type 0 where
  no_figure : is_value (piece_answer w) ≡ false → Said w none
  said : {n : ℕ} → piece_answer w ≡ PV.Value (min n cap) → Said w (some n)

module _ (rest : List ℕ) where
  said_literal : Said (35 ∷ rest) (read_figure (35 ∷ rest))
  unfolding read_piece
  said_literal = rw (no_digit_first 35 rest refl) (no_figure (literal_no_value rest))

  said_mark : Said (64 ∷ rest) (read_figure (64 ∷ rest))
  unfolding read_piece
  said_mark = rw (no_digit_first 64 rest refl) (no_figure (no_value (read_figure rest) L.Piece.written_mark (λ n. refl)))

  said_plus : Said (43 ∷ rest) (read_figure (43 ∷ rest))
  unfolding read_piece
  said_plus = rw (no_digit_first 43 rest refl) (no_figure (alone_no_value rest L.Piece.plus refl))

  said_minus : Said (45 ∷ rest) (read_figure (45 ∷ rest))
  unfolding read_piece
  said_minus = rw (no_digit_first 45 rest refl) (no_figure (alone_no_value rest L.Piece.minus refl))

  said_times : Said (42 ∷ rest) (read_figure (42 ∷ rest))
  unfolding read_piece
  said_times = rw (no_digit_first 42 rest refl) (no_figure (alone_no_value rest L.Piece.times refl))

  said_less : Said (60 ∷ rest) (read_figure (60 ∷ rest))
  unfolding read_piece
  said_less = rw (no_digit_first 60 rest refl) (no_figure (alone_no_value rest L.Piece.less refl))

  said_divide : Said (47 ∷ rest) (read_figure (47 ∷ rest))
  unfolding read_piece
  said_divide = rw (no_digit_first 47 rest refl) (no_figure (alone_no_value rest L.Piece.divide refl))

  said_remainder : Said (37 ∷ rest) (read_figure (37 ∷ rest))
  unfolding read_piece
  said_remainder = rw (no_digit_first 37 rest refl) (no_figure (alone_no_value rest L.Piece.remainder refl))

said_none : Said [] (read_figure [])
unfolding read_piece read_figure is_figure
said_none = no_figure refl

module _ (byte : ℕ) (rest : List ℕ) where
  -- if this is what reading the piece comes to
  abbrev From : Option L.Piece → Type 0
  From o = read_piece (byte ∷ rest) ≡ o → Said (byte ∷ rest) (read_figure (byte ∷ rest))

  -- a choice by the first byte
  chosen : (c : ℕ) (x y : Option L.Piece) → Said (c ∷ rest) (read_figure (c ∷ rest)) → From y → From (cond (eqb byte c) x y)
  chosen c x y here on e = go (eqb byte c) refl
    where
      go : (t : Bool) → eqb byte c ≡ t → Said (byte ∷ rest) (read_figure (byte ∷ rest))
      go true f = rw (eqb-true byte c f) here
      go false f = on (e ∙ rw f)

  said_value : (o : Option ℕ) → read_piece (byte ∷ rest) ≡ bind o (λ n. some (L.Piece.value_of n)) → Said (byte ∷ rest) o
  said_value none e = no_figure (ap (λ (o : Option L.Piece). is_value (as_piece o)) e)
  said_value (some n) e = said (ap as_piece e)

pub said_of : (w : List ℕ) → Said w (read_figure w)
unfolding read_piece
said_of [] = said_none
said_of (byte ∷ rest) =
    chosen byte rest 35 _ _ (said_literal rest) (chosen byte rest 64 _ _ (said_mark rest) (
    chosen byte rest 43 _ _ (said_plus rest) (chosen byte rest 45 _ _ (said_minus rest) (
    chosen byte rest 42 _ _ (said_times rest) (chosen byte rest 60 _ _ (said_less rest) (
    chosen byte rest 47 _ _ (said_divide rest) (chosen byte rest 37 _ _ (said_remainder rest) (said_value byte rest (read_figure (byte ∷ rest)))))))))) refl

-- ── a row ────────────────────────────────────────────────────────────────────────
and_none : (a b : Bool) → b ≡ false → (a && b) ≡ false
and_none true b e = e
and_none false b e = refl

figures_out : (names : ℕ) (g : Gathering) (ws : List (List ℕ)) → g.figures ≡ false → (gather_all names g ws).figures ≡ false
unfolding gather_all
figures_out names g [] e = e
figures_out names g (w ∷ ws) e = figures_out names (gather_one names g (piece_answer w)) ws (rw e)

module _ (names : ℕ) (h : names ≤ cap) where
  abbrev known : ℕ → Bool
  known n = ltb n names

  -- a row that goes on after its first figure
  pub data Row (g : Gathering) (ws : List (List ℕ)) : Option (List ℕ) → Type 0 where
    no_row : (gather_all names g ws).figures ≡ false → Row g ws none
    row : {ns : List ℕ} → (gather_all names g ws).figures ≡ g.figures → (gather_all names g ws).count ≡ g.count + length ns
        → (gather_all names g ws).first ≡ g.first → (gather_all names g ws).others ≡ (g.others && all known ns)
        → (gather_all names g ws).there ≡ (g.there && all known ns) → Row g ws (some ns)

  and_assoc : (a b c : Bool) → ((a && b) && c) ≡ (a && (b && c))
  and_assoc true b c = refl
  and_assoc false b c = refl

  and_yes : (a : Bool) → (a && true) ≡ a
  and_yes true = refl
  and_yes false = refl

  module _ (g : Gathering) (w : List ℕ) (ws : List (List ℕ)) (n : ℕ) (a : piece_answer w ≡ PV.Value (min n cap)) where
    row_more : (o : Option (List ℕ)) → 1 ≤ g.count → Row (gather_one names g (piece_answer w)) ws o → Row g (w ∷ ws) (bind o (λ ns. some (n ∷ ns)))
    unfolding gather_all all
    row_more none m (no_row e) = no_row e
    row_more (some ns) m (row f l i o t) =
        let c0 : eqb g.count 0 ≡ false = ne_eqb g.count 0 (λ z. omega arith) in
        let k : is_there_by names (piece_answer w) ≡ known n = ap (is_there_by names) a ∙ capped_below n names h in
        row {ns = n ∷ ns}
        (f ∙ rw a (and_yes g.figures))
        (l ∙ (let m : g.count + 1 + length ns ≡ g.count + suc (length ns) = omega arith in m))
        (i ∙ rw c0)
        (o ∙ rw (c0, k, and_assoc))
        (t ∙ rw (k, and_assoc))

  row_step : (g : Gathering) (w : List ℕ) (ws : List (List ℕ)) (o : Option ℕ) → 1 ≤ g.count → Said w o
      → Row (gather_one names g (piece_answer w)) ws (each read_figure ws) → Row g (w ∷ ws) (bind o (λ n. bind (each read_figure ws) (λ ns. some (n ∷ ns))))
  unfolding gather_all
  row_step g w ws none m (no_figure e) r = no_row (figures_out names (gather_one names g (piece_answer w)) ws (and_none g.figures (is_value (piece_answer w)) e))
  row_step g w ws (some n) m (said a) r = row_more g w ws n a (each read_figure ws) m r

  row_of : (g : Gathering) (ws : List (List ℕ)) → 1 ≤ g.count → Row g ws (each read_figure ws)
  unfolding each gather_all all
  row_of g [] m = row {ns = []} refl (let z : g.count ≡ g.count + 0 = omega arith in z) refl (sym (and_yes g.others)) (sym (and_yes g.there))
  row_of g (w ∷ ws) m = row_step g w ws (read_figure w) m (said_of w) (row_of (gather_one names g (piece_answer w)) ws (omega arith))

  -- a whole row: the first figure, and the others
  pub data Figures (ws : List (List ℕ)) : Option (List ℕ) → Type 0 where
    unread : (gather_all names nothing ws).figures ≡ false → Figures ws none
    read : {n : ℕ} {ns : List ℕ} → (gather_all names nothing ws).figures ≡ true → (gather_all names nothing ws).count ≡ suc (length ns)
        → (gather_all names nothing ws).first ≡ min n cap → (gather_all names nothing ws).others ≡ all known ns
        → (gather_all names nothing ws).there ≡ (known n && all known ns) → Figures ws (some (n ∷ ns))

  module _ (w : List ℕ) (ws : List (List ℕ)) where
    row_begun : (n : ℕ) → piece_answer w ≡ PV.Value (min n cap) → (o : Option (List ℕ)) → Row (gather_one names nothing (piece_answer w)) ws o
        → Figures (w ∷ ws) (bind o (λ ns. some (n ∷ ns)))
    unfolding gather_all
    row_begun n a none (no_row e) = unread e
    row_begun n a (some ns) (row f l i o t) =
        read {n = n} {ns = ns} (f ∙ rw a) (l ∙ (let m : 0 + 1 + length ns ≡ suc (length ns) = omega arith in m)) (i ∙ rw a) o
        (t ∙ ap (λ (b : Bool). b && all known ns) (ap (is_there_by names) a ∙ capped_below n names h))

    figures_begun : (o : Option ℕ) → Said w o → Figures (w ∷ ws) (bind o (λ n. bind (each read_figure ws) (λ ns. some (n ∷ ns))))
    unfolding gather_all
    figures_begun none (no_figure e) = unread (figures_out names (gather_one names nothing (piece_answer w)) ws e)
    figures_begun (some n) (said a) = row_begun n a (each read_figure ws) (row_of (gather_one names nothing (piece_answer w)) ws (omega arith))

    pub figures_of_lem : Figures (w ∷ ws) (each read_figure (w ∷ ws))
    unfolding each
    figures_of_lem = figures_begun (read_figure w) (said_of w)
