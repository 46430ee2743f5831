-- What holds of every element of a list.
use mathlib.Core.List.{List, [], ◌∷◌, ◌++◌, map}

pub data All {A : Type 0} (P : A → Type 0) : List A → Type 0 where
  none : All P []
  each : {x : A} {xs : List A} → P x → All P xs → All P (x ∷ xs)

pub first : {A : Type 0} {P : A → Type 0} {x : A} {xs : List A} → All P (x ∷ xs) → P x
first (each p a) = p

pub others : {A : Type 0} {P : A → Type 0} {x : A} {xs : List A} → All P (x ∷ xs) → All P xs
others (each p a) = a

pub both_parts : {A : Type 0} {P : A → Type 0} (xs : List A) {ys : List A} → All P xs → All P ys → All P (xs ++ ys)
both_parts [] none b = b
both_parts (x ∷ xs) (each p a) b = each p (both_parts xs a b)

pub first_part : {A : Type 0} {P : A → Type 0} (xs ys : List A) → All P (xs ++ ys) → All P xs
first_part [] ys a = none
first_part (x ∷ xs) ys (each p a) = each p (first_part xs ys a)

pub second_part : {A : Type 0} {P : A → Type 0} (xs ys : List A) → All P (xs ++ ys) → All P ys
second_part [] ys a = a
second_part (x ∷ xs) ys (each p a) = second_part xs ys a

pub mapped : {A B : Type 0} {P : A → Type 0} {Q : B → Type 0} (f : A → B) → ((x : A) → P x → Q (f x)) → (xs : List A) → All P xs → All Q (map f xs)
mapped f g [] none = none
mapped f g (x ∷ xs) (each p a) = each (g x p) (mapped f g xs a)

pub weaker : {A : Type 0} {P Q : A → Type 0} → ((x : A) → P x → Q x) → (xs : List A) → All P xs → All Q xs
weaker g [] none = none
weaker g (x ∷ xs) (each p a) = each (g x p) (weaker g xs a)
