-- The trigger lists: for each variable, the slots of those who await it. They are made once, at the beginning of an instant, and stay:
-- a wait reached in this instant cannot be passed in it. A write of the run triggers those listed who are still asleep and come later than the writer;
-- a due write or an input, before the run, all who are listed. The ready list at the beginning is said by asking each slot, and is the same however it is made
-- (proofs AnyOrder).
use Rattle.std.specs.Prelude.{Bool, true, false, ◌&&◌, ◌||◌, List, [], ◌∷◌, ℕ, zero, suc, eqb, ltb}
use Rattle.listing.specs.Listing.{Listing, Instruction, assign, schedule, branch, jump, wait, fork, end}
use Rattle.walk.specs.State.{Variable}
use Rattle.walk.specs.Walk.{instruction_at}
use Rattle.engine_rows.specs.Rows.{Owner, in_environment, in_slot, Row, Rows, owner_of, named}
use Rattle.engine_rows.specs.Ready.{insert_if}

unfoldable pub same_owner : Owner → Owner → Bool
same_owner (in_environment a) (in_environment b) = eqb a b
same_owner (in_environment a) (in_slot s i) = false
same_owner (in_slot s i) (in_environment a) = false
same_owner (in_slot s i) (in_slot t j) = eqb s t && eqb i j

-- The names that an instruction awaits.
unfoldable pub awaited : Instruction → List ℕ
awaited (wait ns) = ns
awaited (assign n e) = []
awaited (schedule n d e) = []
awaited (branch e k) = []
awaited (jump k) = []
awaited (fork cs) = []
awaited end = []

unfoldable pub awaited_by : Listing → Row → List ℕ
awaited_by listing r = awaited (instruction_at listing r.routine r.place)

unfoldable pub cons_if : Bool → ℕ → List ℕ → List ℕ
cons_if true s ss = s ∷ ss
cons_if false s ss = ss

-- ── at a write ────────────────────────────────────────────────────────────────────────────────────
-- Those of a trigger list whom a write by a routine of priority `low` wakes.
unfoldable pub triggered : Rows → ℕ → List ℕ → List ℕ
triggered rows low [] = []
triggered rows low (s ∷ ss) = cons_if ((rows s).asleep && ltb low (rows s).low) s (triggered rows low ss)

-- ── at the beginning of an instant ────────────────────────────────────────────────────────────────
-- Slot s put before the list of variable o, once for each of the names that is bound to o.
unfoldable pub list_names : List Owner → ℕ → List ℕ → Owner → List ℕ → List ℕ
list_names bindings s [] o ss = ss
list_names bindings s (n ∷ ns) o ss = list_names bindings s ns o (cons_if (same_owner (owner_of bindings n) o) s ss)

unfoldable pub list_if : Bool → List Owner → ℕ → List ℕ → Owner → List ℕ → List ℕ
list_if true bindings s ns o ss = list_names bindings s ns o ss
list_if false bindings s ns o ss = ss

module _ (listing : Listing) where
  -- The list of variable o, of those in the first n slots.
  unfoldable pub triggers_below : Rows → ℕ → Owner → List ℕ
  triggers_below rows zero o = []
  triggers_below rows (suc n) o = list_if (rows n).asleep (rows n).bindings n (awaited_by listing (rows n)) o (triggers_below rows n o)

  unfoldable pub triggers_of : Rows → Owner → List ℕ
  triggers_of rows o = triggers_below rows 64 o

  -- Is one of the names written?
  unfoldable pub any_named_written : Rows → List Variable → List Owner → List ℕ → Bool
  any_named_written rows environment bindings [] = false
  any_named_written rows environment bindings (n ∷ ns) =
      (named rows environment bindings n).written || any_named_written rows environment bindings ns

  -- Asleep, and a name of its wait is written already.
  unfoldable pub wakes_now : Rows → List Variable → ℕ → Bool
  wakes_now rows environment s = (rows s).asleep && any_named_written rows environment (rows s).bindings (awaited_by listing (rows s))

  -- The ready list at the beginning, of those in the first n slots.
  unfoldable pub ready_below : Rows → List Variable → ℕ → List ℕ
  ready_below rows environment zero = []
  ready_below rows environment (suc n) = insert_if (wakes_now rows environment n) rows n (ready_below rows environment n)

  unfoldable pub ready_of : Rows → List Variable → List ℕ
  ready_of rows environment = ready_below rows environment 64
