-- The questions of the whole calls. Letters: ns and vs the input lists, on and ov the output lists, r the refusal, if there is one.
use mathlib.Core.Path.{◌≡◌, refl}
use mathlib.Core.Bool.{Bool, true, false}
use mathlib.Core.List.{List}
use Prim.Native.Nat.{ℕ, ◌≤◌}
use native.Mathlib.Omega.{arith}
use lib.Dec.{leb}
use lib.ListN.{length}
use borrow.Author.Tests.{eq-eqb, ne_eqb, leb-true}
use Rattle.walk.specs.Calls.{ask, found, allowed, start_on, start_long_enough, instant_long_enough, start_call, instant_call, first_words}
use Rattle.table.specs.Question6.{is_table, read_table}
use Rattle.table.specs.Decode.{table_listing}
use Rattle.machine.proofs.Basics.{and_left, and_right}
use Rattle.std.specs.Prelude.{Result, Ok, Err, ⊤}
use Rattle.call_arguments.specs.declared.questions.Refusal.{Refusal}
use Rattle.call_arguments.specs.declared.questions.Refusal.TheVariants.{Short, NoTable, Allowance}
use Rattle.call_arguments.specs.Asked.{long_enough, asked, MachineAsked, InstantAsked, StartAsked}

-- What question 1 gives of the lengths.
pub record Long (table machine numbers values : ℕ) : Type 0 where
  pub table_long : 12288 ≤ table
  pub machine_long : 12288 ≤ machine
  pub numbers_long : 16 ≤ numbers
  pub values_long : 16 ≤ values

pub long : (table machine numbers values : ℕ) → long_enough table machine numbers values ≡ true → Long table machine numbers values
unfolding long_enough
long a b c d e =
    let f = and_right (leb 12288 a) _ e in
    let g = and_right (leb 12288 b) _ f in
    record {
      table_long = leb-true _ _ (and_left (leb 12288 a) _ e);
      machine_long = leb-true _ _ (and_left (leb 12288 b) _ f);
      numbers_long = leb-true _ _ (and_left (leb 16 c) _ g);
      values_long = leb-true _ _ (and_right (leb 16 c) _ g);
    }

module _ (table machine : List ℕ) (t : ℕ) (ns vs on ov : List ℕ) (allowance : ℕ) (dues : List ℕ) (places : length dues ≡ 65) where
  pub instant_short : long_enough (length table) (length machine) (length on) (length ov) ≡ false → InstantAsked table machine t ns vs on ov allowance dues (Err Short)
  unfolding instant_call instant_long_enough start_long_enough long_enough ask asked
  instant_short e = record { outcome = rw e; each = λ z. let y : ◌≡◌ {A = ℕ} 0 1 = cc in absurd (omega arith); places = places }

  pub instant_unequal : long_enough (length table) (length machine) (length on) (length ov) ≡ true → (length ns ≡ length vs → ⊥) →
      InstantAsked table machine t ns vs on ov allowance dues (Err Short)
  unfolding instant_call instant_long_enough start_long_enough long_enough ask asked
  instant_unequal e f = record { outcome = rw (e, ne_eqb _ _ f); each = λ z. let y : ◌≡◌ {A = ℕ} 0 1 = cc in absurd (omega arith); places = places }

  module _ (e : long_enough (length table) (length machine) (length on) (length ov) ≡ true) (f : length ns ≡ length vs) where
    pub instant_no_table : is_table (first_words table) ≡ false → InstantAsked table machine t ns vs on ov allowance dues (Err NoTable)
    unfolding instant_call instant_long_enough start_long_enough long_enough ask asked found read_table
    instant_no_table g = record { outcome = rw (e, eq-eqb _ _ f, g); each = λ z. let y : ◌≡◌ {A = ℕ} 0 1 = cc in absurd (omega arith); places = places }

    pub instant_by_machine : is_table (first_words table) ≡ true → (r : Result ⊤ Refusal) → MachineAsked (table_listing (first_words table)) (first_words machine) t ns allowance dues r →
        InstantAsked table machine t ns vs on ov allowance dues r
    unfolding instant_call instant_long_enough start_long_enough long_enough ask found read_table
    instant_by_machine g r M = record { outcome = rw (e, eq-eqb _ _ f, g) (M.outcome vs f); each = M.each; places = M.places }

module _ (table machine on ov : List ℕ) (allowance : ℕ) where
  pub start_short : long_enough (length table) (length machine) (length on) (length ov) ≡ false → StartAsked table machine on ov allowance (Err Short)
  unfolding start_call start_long_enough long_enough ask asked
  start_short e = record { outcome = rw e }

  module _ (e : long_enough (length table) (length machine) (length on) (length ov) ≡ true) where
    pub start_no_table : is_table (first_words table) ≡ false → StartAsked table machine on ov allowance (Err NoTable)
    unfolding start_call start_long_enough long_enough ask asked found read_table
    start_no_table g = record { outcome = rw (e, g) }

    pub start_by_allowance : is_table (first_words table) ≡ true → (x : Bool) (r : Result ⊤ Refusal) → allowed allowance ≡ x →
        ((next : _) → asked r next ≡ ask 12 x next) → StartAsked table machine on ov allowance r
    unfolding start_call start_on start_long_enough long_enough ask found read_table
    start_by_allowance g x r h k = record { outcome = rw (e, g, h) (k _) }

    pub start_not_allowed : is_table (first_words table) ≡ true → allowed allowance ≡ false → StartAsked table machine on ov allowance (Err Allowance)
    unfolding ask asked
    start_not_allowed g h = start_by_allowance g false (Err Allowance) h (λ next. refl)

    pub start_passes : is_table (first_words table) ≡ true → allowed allowance ≡ true → StartAsked table machine on ov allowance (Ok tt)
    unfolding ask asked
    start_passes g h = start_by_allowance g true (Ok tt) h (λ next. refl)
