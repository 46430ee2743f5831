-- Evaluating fails exactly if some divisor met is 0; without `/` and `%` it never fails, and the value is document 01's.
-- Letters: p a piece, ps and e pieces, h what is held.
use mathlib.Core.Path.{◌≡◌, refl, sym, ap, ◌∙◌}
use mathlib.Core.Bool.{Bool, true, false, cond, not}
use mathlib.Core.List.{List, [], ◌∷◌, ◌++◌}
use mathlib.Core.Logic.{◌↔◌}
use mathlib.Core.Option.{Option, none, some}
use Prim.Native.Nat.{ℕ}
use native.Mathlib.Omega.{arith}
use borrow.Author.Tests.{eqb-true}
use lib.Dec.{eqb}
use Rattle.listing.specs.Expressions.{bind}
use Rattle.listing.specs.Lists.{all}
use Rattle.listing.specs.Listing.{Piece, literal, value_of, written_mark, plus, minus, times, less, divide, remainder}
use Rattle.walk.specs.State.{Variable}
use Rattle.walk.specs.Memory.{operate, top, divide_by, evaluate_piece, evaluate_pieces, evaluate_by}
use Rattle.walk_laws.proofs.Booleans.{and_left, and_right}
use Rattle.walk_laws.specs.Division.{is_division, MeetsZero, base_piece, base_pieces, base_value}

pub some_is_not_none : {A B : Type 0} {a : A} → ◌≡◌ {A = Option A} (some a) none → B
some_is_not_none e = absurd (let z : ◌≡◌ {A = ℕ} 0 1 = cc in let impossible : ⊥ = omega arith in impossible)

pub some_once : {A : Type 0} {a b : A} → ◌≡◌ {A = Option A} (some a) (some b) → a ≡ b
some_once e = cc

no_is_not_yes : {B : Type 0} → false ≡ true → B
no_is_not_yes e = absurd (let z : ◌≡◌ {A = ℕ} 0 1 = cc in let impossible : ⊥ = omega arith in impossible)

-- ── one piece ─────────────────────────────────────────────────────────────────────────────────────
division_fails : (f : ℕ → ℕ → ℕ) (h : List ℕ) → divide_by f h ≡ none → top h ≡ 0
unfolding divide_by
division_fails f h e = go (eqb (top h) 0) refl e
  where
    go : (b : Bool) → eqb (top h) 0 ≡ b → cond b none (some (operate f h)) ≡ none → top h ≡ 0
    go true z e = eqb-true (top h) 0 z
    go false z e = some_is_not_none e

by_zero_fails : (f : ℕ → ℕ → ℕ) (h : List ℕ) → top h ≡ 0 → divide_by f h ≡ none
unfolding divide_by
by_zero_fails f h z = rw z

module _ (now : ℕ) (name : ℕ → Variable) where
  piece_fails : (p : Piece) (h : List ℕ) → evaluate_piece now name p h ≡ none → (is_division p ≡ true) × (top h ≡ 0)
  unfolding evaluate_piece is_division
  piece_fails (literal v) h e = some_is_not_none e
  piece_fails (value_of n) h e = some_is_not_none e
  piece_fails (written_mark n) h e = some_is_not_none e
  piece_fails plus h e = some_is_not_none e
  piece_fails minus h e = some_is_not_none e
  piece_fails times h e = some_is_not_none e
  piece_fails less h e = some_is_not_none e
  piece_fails divide h e = (refl, division_fails _ h e)
  piece_fails remainder h e = (refl, division_fails _ h e)

  zero_fails : (p : Piece) (h : List ℕ) → is_division p ≡ true → top h ≡ 0 → evaluate_piece now name p h ≡ none
  unfolding evaluate_piece is_division
  zero_fails (literal v) h d z = no_is_not_yes d
  zero_fails (value_of n) h d z = no_is_not_yes d
  zero_fails (written_mark n) h d z = no_is_not_yes d
  zero_fails plus h d z = no_is_not_yes d
  zero_fails minus h d z = no_is_not_yes d
  zero_fails times h d z = no_is_not_yes d
  zero_fails less h d z = no_is_not_yes d
  zero_fails divide h d z = by_zero_fails _ h z
  zero_fails remainder h d z = by_zero_fails _ h z

  -- ── the pieces, one after another ───────────────────────────────────────────────────────────────
  pieces_fail : (e : List Piece) (h : List ℕ) → evaluate_pieces now name e h ≡ none → MeetsZero now name h e
  unfolding evaluate_pieces
  pieces_fail [] h e = some_is_not_none e
  pieces_fail (p ∷ ps) h e = go (λ g z. pieces_fail ps g z) (evaluate_piece now name p h) refl e
    where
      go : ((g : List ℕ) → evaluate_pieces now name ps g ≡ none → MeetsZero now name g ps) → (r : Option (List ℕ)) → evaluate_piece now name p h ≡ r →
          bind r (evaluate_pieces now name ps) ≡ none → MeetsZero now name h (p ∷ ps)
      go others none z e =
          let fails = piece_fails p h z in
          record { before = []; sign = p; after = ps; held = h; parts = refl; division = fails.0; met = refl; zero = fails.1 }
      go others (some g) z e =
          let later = others g e in
          record {
            before = p ∷ later.before;
            sign = later.sign;
            after = later.after;
            held = later.held;
            parts = ap (λ (xs : List Piece). p ∷ xs) later.parts;
            division = later.division;
            met = rw z later.met;
            zero = later.zero;
          }

  met_fails : (before : List Piece) (p : Piece) (after : List Piece) (h held : List ℕ) → is_division p ≡ true → top held ≡ 0 →
      evaluate_pieces now name before h ≡ some held → evaluate_pieces now name (before ++ (p ∷ after)) h ≡ none
  unfolding evaluate_pieces
  met_fails [] p after h held d z m =
      let same : h ≡ held = some_once m in
      rw (zero_fails p h d (ap top same ∙ z))
  met_fails (q ∷ qs) p after h held d z m = go (λ g e. met_fails qs p after g held d z e) (evaluate_piece now name q h) m
    where
      go : ((g : List ℕ) → evaluate_pieces now name qs g ≡ some held → evaluate_pieces now name (qs ++ (p ∷ after)) g ≡ none) → (r : Option (List ℕ)) →
          bind r (evaluate_pieces now name qs) ≡ some held → bind r (evaluate_pieces now name (qs ++ (p ∷ after))) ≡ none
      go others none m = some_is_not_none (sym m)
      go others (some g) m = others g m

  -- "evaluating can now fail": exactly if some divisor met is 0
  pub fails_exactly_if : (e : List Piece) → (evaluate_by now name e ≡ none) ↔ MeetsZero now name [] e
  unfolding evaluate_by
  fails_exactly_if e = (
    (λ z. pieces_fail e [] (none_before (evaluate_pieces now name e []) z)),
    (λ m. rw (m.parts, met_fails m.before m.sign m.after [] m.held m.division m.zero m.met)),
  )
    where
      none_before : (r : Option (List ℕ)) → bind r (λ held. some (top held)) ≡ none → r ≡ none
      none_before none z = refl
      none_before (some h) z = some_is_not_none z

  -- ── without `/` and `%` ─────────────────────────────────────────────────────────────────────────
  piece_as_before : (p : Piece) (h : List ℕ) → not (is_division p) ≡ true → evaluate_piece now name p h ≡ some (base_piece name p h)
  unfolding evaluate_piece is_division base_piece
  piece_as_before (literal v) h n = refl
  piece_as_before (value_of k) h n = refl
  piece_as_before (written_mark k) h n = refl
  piece_as_before plus h n = refl
  piece_as_before minus h n = refl
  piece_as_before times h n = refl
  piece_as_before less h n = refl
  piece_as_before divide h n = no_is_not_yes n
  piece_as_before remainder h n = no_is_not_yes n

  pieces_as_before : (e : List Piece) (h : List ℕ) → all (λ p. not (is_division p)) e ≡ true → evaluate_pieces now name e h ≡ some (base_pieces name e h)
  unfolding evaluate_pieces base_pieces all
  pieces_as_before [] h n = refl
  pieces_as_before (p ∷ ps) h n =
      rw (piece_as_before p h (and_left (not (is_division p)) _ n)) (pieces_as_before ps _ (and_right (not (is_division p)) _ n))

  pub without_division_as_before : (e : List Piece) → all (λ p. not (is_division p)) e ≡ true → evaluate_by now name e ≡ some (base_value name e)
  unfolding evaluate_by
  without_division_as_before e n = rw (pieces_as_before e [] n)
