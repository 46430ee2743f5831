-- The records of a state on a listing within the limits: their variables are at rest and few, their figures small.
use mathlib.Core.Path.{◌≡◌, refl, sym, ◌∙◌}
use mathlib.Core.Bool.{Bool, true, false}
use mathlib.Core.List.{List, [], ◌∷◌, ◌++◌, append_assoc, append-nil}
use Prim.Native.Nat.{ℕ, zero, suc, ◌+◌, ◌<◌, ◌≤◌}
use lib.Dec.{leb}
use lib.ListN.{length, get_or, get_or-eq_default}
use borrow.Author.Tests.{leb-true, leb-false}
use native.Mathlib.Omega.{arith}
use Rattle.listing.specs.Listing.{Listing, Call, Instruction, wait, fork, end}
use Rattle.walk.specs.State.{Node, Forest, State}
use Rattle.walk.specs.Walk.{routine_at, instruction_at}
use Rattle.walk.specs.Question7.{Asleep, waits, joins, LiveChildren, no_more, ended, lives, all_at_rest, IsState}
use Rattle.machine.specs.Records.{Record, records_of_node, records_of}
use Rattle.machine.specs.Layout.{no_record}
use Rattle.machine.specs.Limits.{WithinLimits}
use Rattle.machine.proofs.HeldWordsPass.{RecordsRest}

pub record PlainRecord (now : ℕ) (x : Record) : Type 0 where
  pub resting : all_at_rest now x.own ≡ true
  pub few : length x.own ≤ 16
  pub level : x.level ≤ 10
  pub child : x.child < 8
  pub place : x.place < 512

pub data Plain (now : ℕ) : List Record → Type 0 where
  plain_end : Plain now []
  plain_record : {x : Record} {xs : List Record} → PlainRecord now x → Plain now xs → Plain now (x ∷ xs)

pub plain_at : (now : ℕ) (xs : List Record) (k : ℕ) → Plain now xs → k < length xs → PlainRecord now (get_or xs k no_record)
plain_at now [] k plain_end h = absurd (let z : ⊥ = omega arith in z)
plain_at now (x ∷ xs) zero (plain_record p ps) h = p
plain_at now (x ∷ xs) (suc k) (plain_record p ps) h = plain_at now xs k ps (omega arith)

pub plain_rests : (now : ℕ) (xs : List Record) → Plain now xs → RecordsRest now xs
plain_rests now xs p = record { resting = λ k h. (plain_at now xs k p h).resting; few = λ k h. (plain_at now xs k p h).few }

module _ (listing : Listing) (L : WithinLimits listing) (now : ℕ) where
  -- an instruction other than the `E` past the end is a line of the routine
  place_is_line : (r place : ℕ) (i : Instruction) → instruction_at listing r place ≡ i → (i ≡ end → ⊥) → place < 512
  unfolding instruction_at
  place_is_line r place i e ne = by (leb (length (routine_at listing r).code) place) refl
    where
      by : (x : Bool) → leb (length (routine_at listing r).code) place ≡ x → place < 512
      by true h = absurd (ne (sym e ∙ get_or-eq_default (routine_at listing r).code end {n = place} (leb-true _ _ h)))
      by false h = let l : place < length (routine_at listing r).code = leb-false _ _ h in omega (arith, L.code r)

  wait_is_no_end : (ns : List ℕ) → wait ns ≡ end → ⊥
  wait_is_no_end ns e = let z : ◌≡◌ {A = ℕ} 0 1 = cc in let y : ⊥ = omega arith in y

  fork_is_no_end : (cs : List Call) → fork cs ≡ end → ⊥
  fork_is_no_end cs e = let z : ◌≡◌ {A = ℕ} 0 1 = cc in let y : ⊥ = omega arith in y

  mutual
    unfolding records_of

    plain_node : {level base : ℕ} {callerNames : List ℕ} {c : Call} {n : Node} (a : Asleep listing (all_at_rest now) level base callerNames c n) (i : ℕ) (ys : List Record) →
        level ≤ 10 → i < 8 → Plain now ys → Plain now (records_of_node a i ++ ys)
    plain_node (waits {r = r} {place = place} {ns = ns} m e) i ys l h p =
        plain_record (record { resting = m.resting; few = rw m.owned (L.owned _); level = l; child = h; place = place_is_line r place _ e (wait_is_no_end ns) }) p
    plain_node (joins {r = r} {place = place} {cs = cs} m e d a k) i ys l h p =
        plain_record (record { resting = m.resting; few = rw m.owned (L.owned _); level = l; child = h; place = place_is_line r place _ e (fork_is_no_end cs) })
        (plain_children k 0 ys (omega arith) (omega (arith, L.children r place cs e)) p)

    plain_children : {level base : ℕ} {names : List ℕ} {cs : List Call} {f : Forest} (k : LiveChildren listing (all_at_rest now) level base names cs f) (i : ℕ) (ys : List Record) →
        level ≤ 10 → i + length cs ≤ 8 → Plain now ys → Plain now (records_of k i ++ ys)
    plain_children no_more i ys l h p = p
    plain_children (ended k) i ys l h p = plain_children k (suc i) ys l (omega arith) p
    plain_children (lives a k) i ys l h p =
        rw (append_assoc (records_of_node a i) (records_of k (suc i)) ys) (plain_node a i _ l (omega arith) (plain_children k (suc i) ys l (omega arith) p))

pub state_records_plain : (listing : Listing) (L : WithinLimits listing) (s : State) (h : IsState listing s) → Plain s.now (records_of h.tree 0)
state_records_plain listing L s h =
    rw (append-nil (records_of h.tree 0)) at (plain_children listing L s.now h.tree 0 [] (omega arith) (omega arith) plain_end)
