-- What the piece in a cell asks and does, by the number of its kind.
use mathlib.Core.Path.{◌≡◌, refl, sym, ap, ◌∙◌}
use mathlib.Core.Bool.{Bool, true, false, cond, ◌&&◌}
use mathlib.Core.List.{List, ◌∷◌}
use mathlib.Core.Option.{Option, none, some}
use Prim.Native.Nat.{ℕ, zero, suc, ◌+◌, ◌-◌, ◌≤◌, ◌<◌}
use lib.Dec.{eqb}
use native.Mathlib.Omega.{arith}
use lib.ListN.{length}
use borrow.Author.Tests.{ne_eqb, ltb-true, leb-true}
use Rattle.std.specs.Prelude.{Some, None, IfSome}
use Rattle.std.specs.declared.option.Option as program
use Rattle.words.specs.Words.{bit}
use Rattle.words_division.specs.Division.{signed_quotient, signed_remainder}
use Rattle.listing.specs.Listing.{Piece}
use Rattle.listing.specs.Expressions.{bind, adds, joins, effect_of, may_come, held_with}
use Rattle.listing.specs.Questions.{piece_is_there}
use Rattle.table.specs.Decode.{word, no_piece, piece_of, is_sign, piece_at}
use Rattle.table.proofs.Signs.{sign_is}
use Rattle.walk.specs.State.{Variable}
use Rattle.walk.specs.Memory.{operate, top, divide_by, evaluate_piece}
use Rattle.engine_evaluate.specs.Bound.{bindings_of, FromNames}
use Rattle.engine_values.specs.Values.{held, below, held_by, left_by, divided, sign_of, joined, Pushed, Operated}
use Rattle.engine_values.specs.declared.Held.{Held}
use Rattle.engine_evaluate.specs.Evaluable.{PieceStands, MayCome, Adds, Past}

-- both of two tests
pub both : (x y : Bool) → x && y ≡ true → (x ≡ true) × (y ≡ true)
both true y h = (refl, h)
both false y h = let z : ◌≡◌ {A = ℕ} 0 1 = cc in absurd (omega arith)

-- ── the piece ────────────────────────────────────────────────────────────────────
-- a number that is no kind's
pub record NoKind (kind : ℕ) : Type 0 where
  pub not0 : kind ≡ 0 → ⊥
  pub not1 : kind ≡ 1 → ⊥
  pub not2 : kind ≡ 2 → ⊥
  pub no_sign : is_sign kind ≡ false

pub other_than_sign : (kind sign : ℕ) → is_sign kind ≡ false → is_sign sign ≡ true → kind ≡ sign → ⊥
other_than_sign kind sign is_none is_one e =
    let clash : false ≡ true = sym is_none ∙ (ap is_sign e ∙ is_one) in
    let z : ◌≡◌ {A = ℕ} 0 1 = cc in absurd (omega arith)

module _ (t : List ℕ) (a : ℕ) where
  -- the piece of kind k with the cell's value
  abbrev pub Of : ℕ → Piece
  Of k = piece_of k (word t (a + 1))

  pub by_kind : (k : ℕ) → word t a ≡ k → piece_at t a ≡ Of k
  unfolding piece_at
  by_kind k e = let z : a + 0 ≡ a = omega arith in rw (z, e)

  no_piece_lem : NoKind (word t a) → piece_at t a ≡ no_piece
  unfolding piece_of
  no_piece_lem n =
      let k = word t a in
      let other : (sign : ℕ) → is_sign sign ≡ true → eqb k sign ≡ false = λ sign is_one. ne_eqb k sign (other_than_sign k sign n.no_sign is_one) in
      by_kind k refl ∙ rw (ne_eqb k 0 n.not0, ne_eqb k 1 n.not1, ne_eqb k 2 n.not2, other 3 refl, other 4 refl, other 5 refl, other 6 refl, other 7 refl, other 8 refl)

-- ── a piece that adds a value ────────────────────────────────────────────────────
module _ {t m : List ℕ} {me a : ℕ} where
  pub value_is_there : PieceStands t m me a → word t a ≡ 1 → word t (a + 1) < length (bindings_of m me)
  unfolding piece_is_there piece_of
  value_is_there stands e = ltb-true (word t (a + 1)) (length (bindings_of m me)) (rw (by_kind t a 1 e) at stands.name)

  pub mark_is_there : PieceStands t m me a → word t a ≡ 2 → word t (a + 1) < length (bindings_of m me)
  unfolding piece_is_there piece_of
  mark_is_there stands e = ltb-true (word t (a + 1)) (length (bindings_of m me)) (rw (by_kind t a 2 e) at stands.name)

  adds_one : (p : Piece) {v : ℕ} → piece_at t a ≡ p → effect_of p ≡ adds → ((moment : ℕ) (below : List ℕ) → FromNames m me (λ names. evaluate_piece moment names p below) (some (v ∷ below)))
      → Adds t m me a v
  adds_one p e f from = record { effect = rw e f; values = λ moment below. rw e (from moment below) }

  pub adds_literal : word t a ≡ 0 → Adds t m me a (word t (a + 1))
  unfolding effect_of piece_of evaluate_piece
  adds_literal e = adds_one (Of t a 0) (by_kind t a 0 e) refl (λ moment below. record { equal = λ n bound. refl })

  pub adds_none : NoKind (word t a) → Adds t m me a 0
  unfolding effect_of evaluate_piece
  adds_none n = adds_one no_piece (no_piece_lem t a n) refl (λ moment below. record { equal = λ n bound. refl })

  pub adds_value : {v : ℕ} → word t a ≡ 1 → FromNames m me (λ names. (names (word t (a + 1))).value) v → Adds t m me a v
  unfolding effect_of piece_of evaluate_piece
  adds_value e f = adds_one (Of t a 1) (by_kind t a 1 e) refl (λ moment below. record { equal = λ n bound. ap (λ (v : ℕ). some (v ∷ below)) (f.equal n bound) })

  pub adds_mark : {v : ℕ} → word t a ≡ 2 → FromNames m me (λ names. bit (names (word t (a + 1))).written) v → Adds t m me a v
  unfolding effect_of piece_of evaluate_piece
  adds_mark e f = adds_one (Of t a 2) (by_kind t a 2 e) refl (λ moment below. record { equal = λ n bound. ap (λ (v : ℕ). some (v ∷ below)) (f.equal n bound) })

  pub room_for_one : {values : List ℕ} {count v : ℕ} → MayCome t m me a values count → Adds t m me a v → count < 8
  unfolding may_come
  room_for_one {count = count} asked adding = ltb-true count 8 (rw adding.effect at asked.room)

  pub past_added : {before after : List ℕ} {h r : Held} {v : ℕ} → Adds t m me a v → Pushed before h v after r → Past t m me a before h after (Some r)
  unfolding held_with left_by
  past_added {before = before} {h = h} adding o =
      record {
        size = o.size;
        counted = rw adding.effect o.counted;
        values = λ moment. record { equal = λ n bound. ap some o.values ∙ (adding.values moment (held_by before h)).equal n bound };
      }

-- ── a sign ───────────────────────────────────────────────────────────────────────
-- a piece that joins the two on top as f says
pub record JoinsBy (f : ℕ → ℕ → Option ℕ) (p : Piece) : Type 0 where
  pub effect : effect_of p ≡ joins
  pub values : (moment : ℕ) (names : ℕ → Variable) (y x : ℕ) (rest : List ℕ) → joined f (y ∷ (x ∷ rest)) ≡ evaluate_piece moment names p (y ∷ (x ∷ rest))

-- a division's value, put above the rest
divides_so : (f : ℕ → ℕ → ℕ) (y x : ℕ) (rest : List ℕ) → joined (divided f) (y ∷ (x ∷ rest)) ≡ divide_by f (y ∷ (x ∷ rest))
unfolding joined divided divide_by top operate
divides_so f y x rest = go (eqb y 0)
  where
    go : (b : Bool) → bind (cond b none (some (f x y))) (λ v. some (v ∷ rest)) ≡ cond b none (some (f x y ∷ rest))
    go true = refl
    go false = refl

pub joins_by : (t : List ℕ) (a : ℕ) → is_sign (word t a) ≡ true → JoinsBy (sign_of (word t a)) (piece_at t a)
unfolding effect_of piece_of sign_of evaluate_piece joined operate
joins_by t a is_one =
    let kind = word t a in
    let v = word t (a + 1) in
    rw (by_kind t a kind refl)
    (sign_is (λ k. JoinsBy (sign_of k) (piece_of k v)) kind is_one
    (record { effect = refl; values = λ moment names y x rest. refl }) (record { effect = refl; values = λ moment names y x rest. refl })
    (record { effect = refl; values = λ moment names y x rest. refl }) (record { effect = refl; values = λ moment names y x rest. refl })
    (record { effect = refl; values = λ moment names y x rest. divides_so signed_quotient y x rest })
    (record { effect = refl; values = λ moment names y x rest. divides_so signed_remainder y x rest }))

-- two values at least are held
on_two : {f : ℕ → ℕ → Option ℕ} {p : Piece} (values : List ℕ) (count v : ℕ) → 2 ≤ count → JoinsBy f p → (moment : ℕ) (names : ℕ → Variable) →
    joined f (held values count v) ≡ evaluate_piece moment names p (held values count v)
unfolding held below
on_two values zero v two j moment names = absurd (omega arith)
on_two values (suc zero) v two j moment names = absurd (omega arith)
on_two values (suc (suc count)) v two j moment names = j.values moment names v _ _

module _ {t m values : List ℕ} {me a : ℕ} where
  pub two_for_sign : {count : ℕ} → MayCome t m me a values count → is_sign (word t a) ≡ true → 2 ≤ count
  unfolding may_come
  two_for_sign {count} asked is_one = leb-true 2 count (rw (joins_by t a is_one).effect at asked.room)

  pub past_joined : {h : Held} {r : program.Option Held} → is_sign (word t a) ≡ true → length values ≡ 8 → 2 ≤ h.count → Operated values h (word t a) r
      → Past t m me a values h values r
  unfolding held_with
  past_joined {h} {r} is_one size two o =
      record {
        size = size;
        counted = counted r o.counted;
        values = λ moment. record { equal = λ n bound. o.left ∙ on_two values h.count h.top two (joins_by t a is_one) moment _ };
      }
    where
      counted : (r : program.Option Held) → IfSome r (λ x. x.count ≡ h.count - 1) → IfSome r (λ x. x.count ≡ held_with h.count (effect_of (piece_at t a)))
      counted (Some x) e = rw (joins_by t a is_one).effect e
      counted None e = e
