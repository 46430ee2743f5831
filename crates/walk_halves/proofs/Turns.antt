-- Turns one after another: an answer of a sequence has an answer of each part, and two forests side by side have their turns
-- one after the other. Letters: o an outcome, a, b, x and y turns, g what gives a routine its turn, f₁ and f₂ forests.
use mathlib.Core.Path.{◌≡◌, refl, sym, ap, ◌∙◌}
use Prim.Native.Nat.{ℕ}
use Rattle.listing.specs.Listing.{Listing}
use Rattle.walk.specs.State.{Node, Forest, empty, more, ◌⊕◌, Running, Turn, Result, stop, ok, ◌>>=◌}
use Rattle.walk_laws.proofs.Results.{stop_is_not_ok}
use Rattle.walk.specs.Walk.{in_turn, visit, visit_forest}

pub ok_same : {A : Type 0} (a b : A) → ◌≡◌ {A = Result A} (ok a) (ok b) → a ≡ b
ok_same a b e = cc

-- ── answers of a sequence ─────────────────────────────────────────────────────────────────────────
pub record Sequence {A B : Type 0} (o : Result A) (f : A → Result B) (b : B) : Type 0 where
  pub a : A
  pub came : o ≡ ok a
  pub rest : f a ≡ ok b

pub in_sequence : {A B : Type 0} (o : Result A) (f : A → Result B) (b : B) → (o >>= f) ≡ ok b → Sequence o f b
unfolding ◌>>=◌
in_sequence (stop k) f b e = stop_is_not_ok e
in_sequence (ok a) f b e = record { a = a; came = refl; rest = e }

pub sequence_of : {A B : Type 0} (o : Result A) (f : A → Result B) (a : A) (b : B) → o ≡ ok a → f a ≡ ok b → (o >>= f) ≡ ok b
unfolding ◌>>=◌
sequence_of o f a b e h = rw e h

same_rest : {A B : Type 0} (o : Result A) (f f' : A → Result B) → ((a : A) → f a ≡ f' a) → (o >>= f) ≡ (o >>= f')
unfolding ◌>>=◌
same_rest (stop k) f f' h = refl
same_rest (ok a) f f' h = h a

-- ── forests side by side ──────────────────────────────────────────────────────────────────────────
pub beside_nobody : (f : Forest) → f ⊕ empty ≡ f
unfolding ◌⊕◌
beside_nobody empty = refl
beside_nobody (more n f) = ap (more n) (beside_nobody f)

beside_both : (f g h : Forest) → f ⊕ (g ⊕ h) ≡ (f ⊕ g) ⊕ h
unfolding ◌⊕◌
beside_both empty g h = refl
beside_both (more n f) g h = ap (more n) (beside_both f g h)

pub record InTwo (g : Node → Running → Result Turn) (f₁ f₂ : Forest) (s : Running) (y : Turn) : Type 0 where
  pub a : Turn
  pub b : Turn
  pub first : in_turn g f₁ s ≡ ok a
  pub second : in_turn g f₂ a.running ≡ ok b
  pub whole : y ≡ record { running = b.running; tree = a.tree ⊕ b.tree }

one_more_turn : (x a b r y : Turn) → r ≡ record { running = b.running; tree = a.tree ⊕ b.tree } →
    ◌≡◌ {A = Result Turn} (ok (record { running = r.running; tree = x.tree ⊕ r.tree })) (ok y) →
    y ≡ record { running = b.running; tree = (x.tree ⊕ a.tree) ⊕ b.tree }
one_more_turn x a b r y e h =
    sym (ok_same _ y h) ∙ ap (λ (z : Turn). record { running = z.running; tree = x.tree ⊕ z.tree }) e ∙
    ap (λ f. record { running = b.running; tree = f }) (beside_both x.tree a.tree b.tree)

pub in_two : (g : Node → Running → Result Turn) (f₁ f₂ : Forest) (s : Running) (y : Turn) → in_turn g (f₁ ⊕ f₂) s ≡ ok y → InTwo g f₁ f₂ s y
unfolding in_turn ◌⊕◌
in_two g empty f₂ s y e = record { a = record { running = s; tree = empty }; b = y; first = refl; second = e; whole = refl }
in_two g (more n f₁) f₂ s y e =
    let q = in_sequence (g n s) _ y e in
    let r = in_sequence (in_turn g (f₁ ⊕ f₂) q.a.running) _ y q.rest in
    let rest = in_two g f₁ f₂ q.a.running r.a r.came in
    record {
      a = record { running = rest.a.running; tree = q.a.tree ⊕ rest.a.tree };
      b = rest.b;
      first = sequence_of (g n s) _ q.a _ q.came (sequence_of (in_turn g f₁ q.a.running) _ rest.a _ rest.first refl);
      second = rest.second;
      whole = one_more_turn q.a rest.a rest.b r.a y rest.whole r.rest;
    }

-- The visit of a forest gives each its turn.
pub visits_in_turn : (listing : Listing) (now : ℕ) (f : Forest) (level : ℕ) (s : Running) →
    visit_forest listing now f level s ≡ in_turn (λ n u. visit listing now n level u) f s
unfolding visit_forest in_turn
visits_in_turn listing now empty level s = refl
visits_in_turn listing now (more n f) level s = same_rest (visit listing now n level s) _ _ λ a. rw (visits_in_turn listing now f level a.running)
