-- An instant with nothing due and no input changes the present moment alone, and takes no step.
-- First: the visit leaves a tree in which nobody's awaited name is written as it is. Then: a state of question 7 has no
-- marks, so that without a due write and an input nobody's awaited name is written.
-- Letters as in the walk: level, r, place, names and own are a routine's, s is what is running or a state, n a routine,
-- f a forest, xs variables, t the instant's moment.
use mathlib.Core.Path.{◌≡◌, refl, sym, ap₂, ◌∙◌}
use mathlib.Core.Bool.{true, false, not, false≢true, and-eq-true_iff}
use mathlib.Core.List.{List, [], ◌∷◌, ◌++◌}
use Prim.Native.Nat.{ℕ, zero, suc}
use native.Mathlib.Nat.{sub_self}
use lib.Dec.{ltb}
use lib.ListN.{drop}
use lib.Seq.{take-append_seam, drop-append_seam}
use borrow.Author.Tests.{not-true, ne_eqb}
use Rattle.listing.specs.Listing.{Listing, Call, wait, fork}
use Rattle.walk.specs.State.{Waiting, idle, due, Variable, Node, node, Forest, empty, more, ◌⊕◌, State, Running, ok, ◌>>=◌, no_variable, new_variable, due_write, made_if_due, unmarked_of, made_due}
use Rattle.walk.specs.Memory.{variable_at, address_of, any_written}
use Rattle.walk.specs.Walk.{instruction_at, enter, sleep, join, wake, resume, visit, visit_forest}
use Rattle.walk.specs.Instant.{due_writes, due_in_node, due_in_forest, apply_inputs, unmarked, unmarked_node, unmarked_forest, listed_if, written_from, written_outputs, Done, finish, next_due, instant}
use Rattle.walk.specs.Question7.{at_rest, all_at_rest, MadeBy, Asleep, waits, joins, LiveChildren, no_more, ended, lives, some_alive, IsState}
use Rattle.walk_laws.proofs.NextDue.{WriteDueAmong, on_first, on_later, WriteDueInNode, among_own, below, WriteDueInForest, in_first, in_later, WriteDueIn, in_environment_lem, in_tree, DueOnlyAfter, nothing_due_at}

-- ── a tree in which nobody's awaited name is written ──────────────────────────────────────────────
module _ (listing : Listing) where
  mutual
    pub data QuietNode : List Variable → Node → Type 0 where
      quiet_wait : {memory : List Variable} {r place : ℕ} {names ns : List ℕ} {own : List Variable} →
          instruction_at listing r place ≡ wait ns → any_written (memory ++ own) names ns ≡ false → QuietNode memory (node r place names own empty)
      quiet_fork : {memory : List Variable} {r place : ℕ} {names : List ℕ} {cs : List Call} {own : List Variable} {n : Node} {f : Forest} →
          instruction_at listing r place ≡ fork cs → QuietForest (memory ++ own) (more n f) →
          QuietNode memory (node r place names own (more n f))

    pub data QuietForest : List Variable → Forest → Type 0 where
      quiet_empty : {memory : List Variable} → QuietForest memory empty
      quiet_more : {memory : List Variable} {n : Node} {f : Forest} →
          QuietNode memory n → QuietForest memory f → QuietForest memory (more n f)

  module _ (now left live woken : ℕ) where
    abbrev running_on : List Variable → Running
    running_on memory = record { memory = memory; left = left; live = live; woken = woken }

    mutual
      unfolding visit enter ◌>>=◌ resume wake sleep join ◌⊕◌

      pub quiet_node_stays : (memory : List Variable) (n : Node) (level : ℕ) → QuietNode memory n →
          visit listing now n level (running_on memory) ≡ ok (record { running = running_on memory; tree = more n empty })
      quiet_node_stays _ _ level (quiet_wait {memory = memory} {own = own} e a) =
          rw (e, a, take-append_seam memory own, drop-append_seam memory own)
      quiet_node_stays _ _ level (quiet_fork {memory = memory} {own = own} e q) =
          rw (quiet_forest_stays _ _ (suc level) q, e, take-append_seam memory own, drop-append_seam memory own)

      pub quiet_forest_stays : (memory : List Variable) (f : Forest) (level : ℕ) → QuietForest memory f →
          visit_forest listing now f level (running_on memory) ≡ ok (record { running = running_on memory; tree = f })
      quiet_forest_stays _ _ level quiet_empty = refl
      quiet_forest_stays _ _ level (quiet_more qn q) = rw (quiet_node_stays _ _ level qn, quiet_forest_stays _ _ level q)

-- ── variables without the mark of a write ────────────────────────────────────────────────────────
pub data NoMarks : List Variable → Type 0 where
  none_marked : NoMarks []
  first_unmarked : {x : Variable} {xs : List Variable} → x.written ≡ false → NoMarks xs → NoMarks (x ∷ xs)

pub at_rest_no_marks : (now : ℕ) (xs : List Variable) → all_at_rest now xs ≡ true → NoMarks xs
unfolding all_at_rest at_rest
at_rest_no_marks now [] e = none_marked
at_rest_no_marks now (x ∷ xs) e =
    let both = (and-eq-true_iff (at_rest now x) (all_at_rest now xs)).0 e in
    let rest = ((and-eq-true_iff (ltb x.value 4294967296) _).0 both.0).1 in
    first_unmarked (not-true _ ((and-eq-true_iff (not x.written) _).0 rest).0) (at_rest_no_marks now xs both.1)

no_marks_append : {xs ys : List Variable} → NoMarks xs → NoMarks ys → NoMarks (xs ++ ys)
no_marks_append none_marked k = k
no_marks_append (first_unmarked e h) k = first_unmarked e (no_marks_append h k)

no_marks_drop : {xs : List Variable} (k : ℕ) → NoMarks xs → NoMarks (drop k xs)
no_marks_drop zero h = h
no_marks_drop (suc k) none_marked = none_marked
no_marks_drop (suc k) (first_unmarked e h) = no_marks_drop k h

pub no_mark_at : {xs : List Variable} → NoMarks xs → (a : ℕ) → (variable_at xs a).written ≡ false
unfolding variable_at no_variable new_variable
no_mark_at none_marked a = refl
no_mark_at (first_unmarked e h) zero = e
no_mark_at (first_unmarked e h) (suc a) = no_mark_at h a

none_written : {memory : List Variable} → NoMarks memory → (names ns : List ℕ) → any_written memory names ns ≡ false
unfolding any_written
none_written h names [] = refl
none_written h names (n ∷ ns) = rw (no_mark_at h (address_of names n)) (none_written h names ns)

without_mark : (x : Variable) → x.written ≡ false → unmarked_of x ≡ x
unfolding unmarked_of
without_mark x e = λ i. record { value = x.value; written = sym e i; waiting = x.waiting }

unmarked_same : {xs : List Variable} → NoMarks xs → unmarked xs ≡ xs
unfolding unmarked unmarked_of
unmarked_same none_marked = refl
unmarked_same (first_unmarked {x = x} e h) = ap₂ ◌∷◌ (without_mark x e) (unmarked_same h)

none_listed : {xs : List Variable} → NoMarks xs → (n : ℕ) → written_from n xs ≡ []
unfolding written_from listed_if
none_listed none_marked n = refl
none_listed (first_unmarked e h) n = rw e (none_listed h (suc n))

due_write-same : (t : ℕ) (x : Variable) (w : Waiting) → ((v : ℕ) → ¬ (w ≡ due t v)) → due_write t x w ≡ unmarked_of x
unfolding due_write made_if_due
due_write-same t x idle h = refl
due_write-same t x (due m v) h = rw (ne_eqb m t λ e. h v (rw e))

due_writes-same : {xs : List Variable} (t : ℕ) → NoMarks xs → ¬ WriteDueAmong t xs → due_writes t xs ≡ xs
unfolding due_writes made_due
due_writes-same t none_marked h = refl
due_writes-same t (first_unmarked {x = x} e k) h =
    ap₂ ◌∷◌ (due_write-same t x x.waiting (λ v p. h (on_first p)) ∙ without_mark x e) (due_writes-same t k λ w. h (on_later w))

-- ── a tree at rest, as question 7 has it ──────────────────────────────────────────────────────────
quiet_if_some_alive : (listing : Listing) {memory own : List Variable} {r place : ℕ} {names : List ℕ} {cs : List Call} (f : Forest) →
    instruction_at listing r place ≡ fork cs → some_alive f ≡ true → QuietForest listing (memory ++ own) f →
    QuietNode listing memory (node r place names own f)
unfolding some_alive
quiet_if_some_alive listing empty e alive q = absurd (false≢true alive)
quiet_if_some_alive listing (more n f) e alive q = quiet_fork e q

module _ (listing : Listing) (now : ℕ) where
  own_no_marks : {base : ℕ} {callerNames : List ℕ} {c : Call} {r : ℕ} {names : List ℕ} {own : List Variable} →
      MadeBy listing (all_at_rest now) base callerNames c r names own → NoMarks own
  own_no_marks made = at_rest_no_marks now _ made.resting

  mutual
    asleep_quiet : {level base : ℕ} {callerNames : List ℕ} {c : Call} {n : Node} →
        Asleep listing (all_at_rest now) level base callerNames c n → (memory : List Variable) → NoMarks memory → QuietNode listing memory n
    asleep_quiet (waits made e) memory h = quiet_wait e (none_written (no_marks_append h (own_no_marks made)) _ _)
    asleep_quiet (joins made e deep alive k) memory h =
        quiet_if_some_alive listing _ e alive (children_quiet k _ (no_marks_append h (own_no_marks made)))

    children_quiet : {level base : ℕ} {names : List ℕ} {cs : List Call} {f : Forest} →
        LiveChildren listing (all_at_rest now) level base names cs f → (memory : List Variable) → NoMarks memory → QuietForest listing memory f
    children_quiet no_more memory h = quiet_empty
    children_quiet (ended k) memory h = children_quiet k memory h
    children_quiet (lives a k) memory h = quiet_more (asleep_quiet a memory h) (children_quiet k memory h)

  mutual
    unfolding unmarked_node

    asleep_unmarked : {level base : ℕ} {callerNames : List ℕ} {c : Call} {n : Node} →
        Asleep listing (all_at_rest now) level base callerNames c n → unmarked_node n ≡ n
    asleep_unmarked (waits made e) = rw (unmarked_same (own_no_marks made))
    asleep_unmarked (joins made e deep alive k) = rw (unmarked_same (own_no_marks made), children_unmarked k)

    children_unmarked : {level base : ℕ} {names : List ℕ} {cs : List Call} {f : Forest} →
        LiveChildren listing (all_at_rest now) level base names cs f → unmarked_forest f ≡ f
    children_unmarked no_more = refl
    children_unmarked (ended k) = children_unmarked k
    children_unmarked (lives a k) = rw (asleep_unmarked a, children_unmarked k)

  mutual
    unfolding due_in_node

    asleep_not_due : {level base : ℕ} {callerNames : List ℕ} {c : Call} {n : Node} →
        Asleep listing (all_at_rest now) level base callerNames c n → (t : ℕ) → ¬ WriteDueInNode t n → due_in_node n t ≡ n
    asleep_not_due (waits made e) t h = rw (due_writes-same t (own_no_marks made) λ w. h (among_own w))
    asleep_not_due (joins made e deep alive k) t h =
        rw (due_writes-same t (own_no_marks made) (λ w. h (among_own w)), children_not_due k t (λ w. h (below w)))

    children_not_due : {level base : ℕ} {names : List ℕ} {cs : List Call} {f : Forest} →
        LiveChildren listing (all_at_rest now) level base names cs f → (t : ℕ) → ¬ WriteDueInForest t f → due_in_forest f t ≡ f
    children_not_due no_more t h = refl
    children_not_due (ended k) t h = children_not_due k t h
    children_not_due (lives a k) t h = rw (asleep_not_due a t (λ w. h (in_first w)), children_not_due k t (λ w. h (in_later w)))

-- ── the instant ───────────────────────────────────────────────────────────────────────────────────
-- The present moment is t, and nothing else has changed: no step, no output listed, nobody woken.
abbrev pub only_moment : State → ℕ → Done
only_moment s t = record { state = record { now = t; environment = s.environment; tree = s.tree }; steps = 0; listed = []; woken = 0 }

pub idle_instant : (listing : Listing) (s : State) → IsState listing s → (t : ℕ) → ¬ WriteDueIn t s → (allowance : ℕ) →
    instant listing s t [] allowance ≡ ok (only_moment s t)
unfolding instant apply_inputs ◌>>=◌ finish written_outputs
idle_instant listing s h t none allowance =
    let marks : NoMarks s.environment = at_rest_no_marks s.now _ h.resting in
    rw (
      due_writes-same t marks (λ w. none (in_environment_lem w)),
      children_not_due listing s.now h.tree t (λ w. none (in_tree w)),
      quiet_forest_stays listing t allowance _ 0 _ _ 0 (children_quiet listing s.now h.tree _ marks),
      unmarked_same marks,
      children_unmarked listing s.now h.tree,
      sub_self allowance,
      none_listed (no_marks_drop listing.inputs marks) listing.inputs,
    )

-- The same where the next moment due is none, or after t.
pub idle_instant_before_next : (listing : Listing) (s : State) → IsState listing s → (t : ℕ) → DueOnlyAfter t (next_due s) →
    (allowance : ℕ) → instant listing s t [] allowance ≡ ok (only_moment s t)
idle_instant_before_next listing s h t after allowance = idle_instant listing s h t (nothing_due_at t s after) allowance
