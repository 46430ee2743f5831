-- A text and its parts between separators determine each other.
use mathlib.Core.Path.{◌≡◌, refl, ◌∙◌}
use mathlib.Core.Bool.{Bool, true, false}
use mathlib.Core.List.{List, [], ◌∷◌, ◌++◌}
use Prim.Native.Nat.{ℕ}
use lib.Dec.{eqb}
use borrow.Author.Tests.{eq-eqb, ne_eqb, eqb-true}
use Rattle.listing.specs.Bytes.{Bytes, extend, split, join}

-- no byte of a text is the separator c
pub data Free (c : ℕ) : Bytes → Type 0 where
  free : Free c []
  freer : {byte : ℕ} {text : Bytes} → (byte ≡ c → ⊥) → Free c text → Free c (byte ∷ text)

-- every element has a property
pub data All {A : Type 0} (P : A → Type 0) : List A → Type 0 where
  none_left : All P []
  also : {a : A} {as' : List A} → P a → All P as' → All P (a ∷ as')

pub split_free : {c : ℕ} {text : Bytes} → Free c text → split c text ≡ text ∷ []
unfolding split extend
split_free free = refl
split_free {c} (freer {byte = byte} n f) = rw (ne_eqb byte c n, split_free f)

pub split_at : {c : ℕ} {text : Bytes} (rest : Bytes) → Free c text → split c (text ++ (c ∷ rest)) ≡ text ∷ split c rest
unfolding split extend
split_at {c} rest free = rw (eq-eqb c c refl)
split_at {c} rest (freer {byte = byte} n f) = rw (ne_eqb byte c n, split_at rest f)

-- parts that hold no separator come back
pub split_join : {c : ℕ} (part : Bytes) (parts : List Bytes) → All (Free c) (part ∷ parts) → split c (join c (part ∷ parts)) ≡ part ∷ parts
unfolding join
split_join part [] (also f fs) = split_free f
split_join {c} part (next ∷ parts) (also f fs) = split_at (join c (next ∷ parts)) f ∙ rw (split_join next parts fs)

-- every text has a part
pub record Parts (parts : List Bytes) : Type 0 where
  pub head : Bytes
  pub rest : List Bytes
  pub is : parts ≡ head ∷ rest

pub split_has_part : (c : ℕ) (text : Bytes) → Parts (split c text)
unfolding split extend
split_has_part c [] = record { head = []; rest = []; is = refl }
split_has_part c (byte ∷ text) = go (eqb byte c) (split_has_part c text)
  where
    go : (t : Bool) → Parts (split c text) → Parts (extend t byte (split c text))
    go true p = record { head = []; rest = split c text; is = refl }
    go false p = record { head = byte ∷ p.head; rest = p.rest; is = rw p.is }

join_cons : (c byte : ℕ) (part : Bytes) (parts : List Bytes) → join c ((byte ∷ part) ∷ parts) ≡ byte ∷ join c (part ∷ parts)
unfolding join
join_cons c byte part [] = refl
join_cons c byte part (next ∷ parts) = refl

-- a text is its parts with separators between them
pub join_split : (c : ℕ) (text : Bytes) → join c (split c text) ≡ text
unfolding split join extend
join_split c [] = refl
join_split c (byte ∷ text) = go (join_split c text) (eqb byte c) refl
  where
    go : join c (split c text) ≡ text → (t : Bool) → eqb byte c ≡ t → join c (extend t byte (split c text)) ≡ byte ∷ text
    go i true e =
        let p = split_has_part c text in
        let j : join c (p.head ∷ p.rest) ≡ text = rw (← p.is) i in
        rw (p.is, j, eqb-true byte c e)
    go i false e =
        let p = split_has_part c text in
        let j : join c (p.head ∷ p.rest) ≡ text = rw (← p.is) i in
        rw (p.is, join_cons, j)
