-- What holds of a listing for which a table stands, and of a state for which a machine stands on it.
use mathlib.Core.Path.{◌≡◌, refl, sym, subst}
use mathlib.Core.Bool.{Bool, true, false, cond}
use mathlib.Core.List.{List}
use mathlib.Core.Option.{Option, none, some}
use Prim.Native.Nat.{ℕ, ◌+◌, ◌≤◌}
use native.Mathlib.Omega.{arith}
use Rattle.listing.specs.Listing.{Listing}
use Rattle.walk.specs.State.{State}
use Rattle.walk.specs.Instant.{environment_size}
use Rattle.walk.specs.Question7.{IsState}
use Rattle.walk.specs.Calls.{first_words}
use Rattle.walk_laws.proofs.AtRest.{LiteralsAreWords}
use Rattle.table.specs.Decode.{table_listing}
use Rattle.table.specs.Question6.{is_table, read_table}
use Rattle.table.proofs.Table.{table_meets}
use Rattle.table.proofs.WalkBounds.{ports_few}
use Rattle.machine.proofs.MachineWords.{read_is_a_state}
use Rattle.session_calls.specs.Clock.{Runs}
use Rattle.session_calls.specs.declared.clock.Clock.{Clock}
use Rattle.call_conclude.proofs.Literals.{literals_are_words}
use Rattle.call_arguments.proofs.TableSize.{first_words32}

-- of a listing
pub record Lawful (l : Listing) : Type 0 where
  pub literals : LiteralsAreWords l
  pub few : l.inputs ≤ 16

of_table_words : (w : List ℕ) → is_table w ≡ true → Lawful (table_listing w)
unfolding environment_size
of_table_words w h = record { literals = literals_are_words w h; few = let e = ports_few (table_listing w) (table_meets w h) in omega arith }

by_answer : (w : List ℕ) (l : Listing) (b : Bool) → is_table w ≡ b → cond b (some (table_listing w)) none ≡ some l → Lawful l
by_answer w l true h e = let same : table_listing w ≡ l = cc in subst (λ (x : Listing). Lawful x) same (of_table_words w h)
by_answer w l false h e = let z : ◌≡◌ {A = ℕ} 0 1 = cc in absurd (let y : ⊥ = omega arith in y)

pub lawful_table : (w : List ℕ) (l : Listing) → read_table w ≡ some l → Lawful l
unfolding read_table
lawful_table w l e = by_answer w l (is_table w) refl e

module _ {table machine : List ℕ} {clock : Clock} {l : Listing} {s : State} (runs : Runs table machine clock l s) where
  pub lawful : Lawful l
  lawful = lawful_table (first_words table) l runs.of_table

  pub is_state : IsState l s
  is_state = read_is_a_state l (first_words machine) s (first_words32 machine runs.words) runs.of_machine
