-- Main's names are the environment's variables, then its locals. The letters: k the number of ports, n how many of them are left from number a on.
use mathlib.Core.Path.{◌≡◌, refl, sym, ap, ap₂, ◌∙◌}
use mathlib.Core.Bool.{Bool, true, false, ◌&&◌}
use mathlib.Core.List.{List, [], ◌∷◌, ◌++◌}
use Prim.Native.Nat.{ℕ, zero, suc, ◌+◌, ◌≤◌, ◌<◌, min}
use native.Mathlib.Omega.{arith}
use lib.ListN.{length, get_or, replicate}
use Rattle.listing.specs.Lists.{all}
use Rattle.listing.specs.Listing.{Kind, by_reference, by_value}
use Rattle.listing.specs.Questions.{is_by_reference}
use Rattle.walk.specs.State.{Variable, new_variable}
use Rattle.walk.specs.Memory.{consecutive, nowhere, own_variables}
use Rattle.walk.specs.Walk.{routine_at}
use Rattle.walk.specs.Instant.{environment_size, main_call}
use Rattle.table.specs.Decode.{word, table_listing}
use Rattle.table.specs.Question6.{is_table}
use Rattle.table.proofs.Bounds.{bounds}
use Rattle.table.proofs.Reach.{kinds_by_number, arguments_by_number}
use Rattle.table_read.specs.Opened.{Opened}
use Rattle.engine_rows.specs.Rows.{in_environment, owner_of}
use Rattle.engine_rows.specs.Engine.{own_bindings, child_bindings}
use Rattle.engine_rows.specs.Beginning.{environment_bindings}
use Rattle.engine_blocks.specs.Blocks.{block, variable_in, variables_in, environment_of}
use Rattle.engine_blocks.proofs.Tabulated.{length_tabulate}
use Rattle.engine_main_row.specs.MainRoutine.{main_bindings}

both : (x y : Bool) → x && y ≡ true → (x ≡ true) × (y ≡ true)
both true y h = (refl, h)
both false y h = let z : ◌≡◌ {A = ℕ} 0 1 = cc in absurd (omega arith)

port_bound : (k a b : ℕ) → a < k → get_or (environment_bindings k b) a (in_environment nowhere) ≡ in_environment (b + a)
unfolding environment_bindings
port_bound zero a b h = absurd (omega arith)
port_bound (suc k) zero b h = let e : b + 0 ≡ b = omega arith in rw e
port_bound (suc k) (suc a) b h =
    let e : suc b + a ≡ b + suc a = omega arith in port_bound k a (suc b) (omega arith) ∙ ap in_environment e

module _ (k locals s : ℕ) where
  ports_bound : (kinds : List Kind) (n a : ℕ) → length kinds ≡ n → all is_by_reference kinds ≡ true → a + n ≤ k
      → environment_bindings n a ++ own_bindings locals s 0 ≡ child_bindings kinds (consecutive n a) locals (environment_bindings k 0) s 0
  unfolding environment_bindings child_bindings consecutive all owner_of
  ports_bound [] zero a e r h = refl
  ports_bound [] (suc n) a e r h = absurd (omega arith)
  ports_bound (by_reference ∷ ks) zero a e r h = absurd (omega arith)
  ports_bound (by_reference ∷ ks) (suc n) a e r h =
      let z : 0 + a ≡ a = omega arith in
      ap₂ ◌∷◌ (sym (port_bound k a 0 (omega arith) ∙ ap in_environment z)) (ports_bound ks n (suc a) (omega arith) r (omega arith))
  ports_bound (by_value ∷ ks) n a e r h = absurd (let z : ◌≡◌ {A = ℕ} 0 1 = cc in omega arith)

-- arguments by reference own nothing
no_values : (kinds : List Kind) (arguments : List ℕ) (locals : ℕ) (name : ℕ → Variable) → all is_by_reference kinds ≡ true
    → own_variables 0 kinds arguments locals name ≡ replicate locals (new_variable 0 0)
unfolding own_variables all
no_values [] arguments locals name r = refl
no_values (by_reference ∷ ks) [] locals name r = no_values ks [] locals name r
no_values (by_reference ∷ ks) (x ∷ xs) locals name r = no_values ks xs locals name r
no_values (by_value ∷ ks) arguments locals name r = absurd (let z : ◌≡◌ {A = ℕ} 0 1 = cc in omega arith)

module _ (t : List ℕ) (table : is_table t ≡ true) where
  pub main_there : 0 < word t 2
  main_there = omega (arith, (bounds t table).some)

  references : all is_by_reference (routine_at (table_listing t) 0).kinds ≡ true
  references = ap (all is_by_reference) (kinds_by_number t 0 main_there) ∙ (bounds t table).references

  pub ports_counted : {count bits locals size : ℕ} → Opened t 0 count bits locals size → count ≡ environment_size (table_listing t)
  unfolding environment_size table_listing
  ports_counted O = sym O.count ∙ arguments_by_number t 0 main_there ∙ (bounds t table).ports

  pub main_bound : {count bits locals size : ℕ} (s : ℕ) → Opened t 0 count bits locals size → environment_bindings count 0 ++ own_bindings locals s 0 ≡ main_bindings t s
  unfolding main_call
  main_bound {count} {bits} {locals} s O =
      let k = environment_size (table_listing t) in
      rw (ports_counted O, O.own)
      (ports_bound k locals s (routine_at (table_listing t) 0).kinds k 0 (O.count ∙ ports_counted O) references (omega arith))

  pub main_owns : (arguments : List ℕ) (name : ℕ → Variable)
      → own_variables 0 (routine_at (table_listing t) 0).kinds arguments (routine_at (table_listing t) 0).locals name ≡ replicate (routine_at (table_listing t) 0).locals (new_variable 0 0)
  main_owns arguments name = no_values (routine_at (table_listing t) 0).kinds arguments (routine_at (table_listing t) 0).locals name references

  ports_few : environment_size (table_listing t) ≤ 16
  unfolding environment_size table_listing
  ports_few = omega (arith, (bounds t table).ports, (bounds t table).names 0 main_there)

  pub ports_length : (words : List ℕ) → length (environment_of (environment_size (table_listing t)) words) ≡ environment_size (table_listing t)
  unfolding environment_of variables_in
  ports_length words =
      let e : min (environment_size (table_listing t)) 16 ≡ environment_size (table_listing t) = omega (arith, ports_few) in
      length_tabulate 0 (min (environment_size (table_listing t)) 16) (variable_in (block words 64)) ∙ e
