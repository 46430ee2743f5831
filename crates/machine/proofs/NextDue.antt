-- The next moment due of a state is the soonest over its environment and its records.
use mathlib.Core.Path.{◌≡◌, refl, sym, ap}
use mathlib.Core.Bool.{Bool, true, false}
use mathlib.Core.List.{List, [], ◌∷◌, ◌++◌}
use Prim.Native.Nat.{ℕ, zero, suc, ◌<◌, ◌≤◌}
use lib.Dec.{leb}
use borrow.Author.Tests.{leb-true, leb-false, le-leb, lt-leb}
use native.Mathlib.Omega.{arith}
use Rattle.listing.specs.Listing.{Listing, Call}
use Rattle.walk.specs.State.{due, Variable, Node, Forest, State}
use Rattle.walk.specs.Instant.{NextDue, never, moment, earlier_of, earlier, due_of, due_of_variables, due_of_node, due_of_forest, next_due}
use Rattle.walk.specs.Question7.{Asleep, waits, joins, LiveChildren, no_more, ended, lives, IsState}
use Rattle.machine.specs.Records.{Record, records_of_node, records_of}
use Rattle.machine.specs.Words.{waiting_of}
use Rattle.machine.specs.Due.{due_at, records_due}

pub earlier_never : (x : NextDue) → earlier x never ≡ x
unfolding earlier
earlier_never never = refl
earlier_never (moment a) = refl

earlier_moments : (a b : ℕ) (x : Bool) → leb a b ≡ x → earlier (moment a) (moment b) ≡ earlier_of x a b
unfolding earlier
earlier_moments a b x e = rw e

three_moments : (a b c : ℕ) (x y : Bool) → leb a b ≡ x → leb b c ≡ y → earlier (earlier_of x a b) (moment c) ≡ earlier (moment a) (earlier_of y b c)
unfolding earlier earlier_of
three_moments a b c true true e f =
    let p : a ≤ b = leb-true _ _ e in let q : b ≤ c = leb-true _ _ f in
    rw (e, le-leb a c (omega arith))
three_moments a b c true false e f = refl
three_moments a b c false true e f = rw (e, f)
three_moments a b c false false e f =
    let p : b < a = leb-false _ _ e in let q : c < b = leb-false _ _ f in
    rw (f, lt-leb a c (omega arith))

pub earlier_associative : (x y z : NextDue) → earlier (earlier x y) z ≡ earlier x (earlier y z)
unfolding earlier
earlier_associative never y z = refl
earlier_associative (moment a) never z = refl
earlier_associative (moment a) (moment b) never = earlier_never (earlier_of (leb a b) a b)
earlier_associative (moment a) (moment b) (moment c) = three_moments a b c (leb a b) (leb b c) refl refl

pub due_of_words : (m v : ℕ) → due_of (waiting_of m v) ≡ due_at m
unfolding due_of waiting_of due_at
due_of_words zero v = refl
due_of_words (suc m) v = refl

records_due_append : (xs ys : List Record) → records_due (xs ++ ys) ≡ earlier (records_due xs) (records_due ys)
unfolding records_due earlier
records_due_append [] ys = refl
records_due_append (x ∷ xs) ys =
    rw (records_due_append xs ys) (sym (earlier_associative (due_of_variables x.own) (records_due xs) (records_due ys)))

module _ {listing : Listing} {rest : List Variable → Bool} where
  mutual
    unfolding records_of records_due due_of_forest

    due_of_node_lem : {level base : ℕ} {callerNames : List ℕ} {c : Call} {n : Node} (a : Asleep listing rest level base callerNames c n) (i : ℕ) →
        due_of_node n ≡ records_due (records_of_node a i)
    due_of_node_lem (waits m e) i = refl
    due_of_node_lem (joins {own = own} m e d l k) i = ap (earlier (due_of_variables own)) (due_of_children k 0)

    due_of_children : {level base : ℕ} {names : List ℕ} {cs : List Call} {f : Forest} (k : LiveChildren listing rest level base names cs f) (i : ℕ) →
        due_of_forest f ≡ records_due (records_of k i)
    due_of_children no_more i = refl
    due_of_children (ended k) i = due_of_children k (suc i)
    due_of_children (lives a k) i =
        rw (records_due_append (records_of_node a i) (records_of k (suc i)), due_of_node_lem a i, due_of_children k (suc i))

pub next_due_of_records : (listing : Listing) (s : State) (h : IsState listing s) → next_due s ≡ earlier (due_of_variables s.environment) (records_due (records_of h.tree 0))
unfolding next_due
next_due_of_records listing s h = ap (earlier (due_of_variables s.environment)) (due_of_children h.tree 0)
