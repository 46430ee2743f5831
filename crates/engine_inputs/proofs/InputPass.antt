-- Inputs written one after the other: what is written so far and what is left give all of them.
-- Letters: ns the numbers, vs the values, k how many are written.
use mathlib.Core.Path.{◌≡◌, refl, sym, ap, ◌∙◌}
use mathlib.Core.List.{List, [], ◌∷◌}
use Prim.Native.Nat.{ℕ, suc, ◌+◌, ◌<◌}
use native.Mathlib.Numerals.{add-one}
use native.Mathlib.Omega.{arith}
use lib.ListN.{length, get_or, drop}
use lib.Seq.{drop-cons, drop-length}
use Rattle.walk.specs.State.{Variable, input_to}
use Rattle.walk.specs.Memory.{input_at}
use Rattle.walk.specs.Instant.{apply_inputs}
use Rattle.walk.specs.Calls.{inputs_of}
use Rattle.engine_rows.specs.Rows.{variable_of, rows_with, environment_with}
use Rattle.engine_blocks.specs.Blocks.{block, owner_at, rows_of, environment_of}
use Rattle.engine_blocks.specs.Store.{Store, store_of, variable_from, with_variable}
use Rattle.engine_blocks.specs.Changes.{SameOutside, SameTriggers, Changes, overwritten_block}
use Rattle.engine_blocks.proofs.Staying.{outside_then, outside_start, triggers_then, triggers_start}
use Rattle.engine_clean.specs.Clean.{Clean}
use Rattle.engine_clean.proofs.Whole.{overwritten_environment, environment_keeps_clean}
use Rattle.engine_due.specs.Beginnings.{NumbersBelow, InputsWritten}

pub record InputsSoFar (ns vs : List ℕ) (k : ℕ) (before after : List ℕ) : Type 0 where
  pub rows : rows_of after ≡ rows_of before
  pub environment : (moment n : ℕ) → apply_inputs moment (inputs_of (drop k ns) (drop k vs)) (environment_of n after) ≡ apply_inputs moment (inputs_of ns vs) (environment_of n before)
  pub outside : SameOutside before after
  pub triggers : SameTriggers before after
  pub clean : (n : ℕ) → NumbersBelow n ns → Clean n before → Clean n after

pub inputs_begun : (ns vs m : List ℕ) → InputsSoFar ns vs 0 m m
inputs_begun ns vs m =
    record { rows = refl; environment = λ moment n. refl; outside = outside_start m; triggers = triggers_start m; clean = λ n h w. w }

-- One input as the change of an environment variable.
rows_with_input : (moment : ℕ) (store : Store) (i v : ℕ) → (with_variable (owner_at 64 i) (λ x. input_to moment x v) store).rows ≡ store.rows
unfolding with_variable owner_at rows_with
rows_with_input moment store i v = refl

environment_with_input : (moment : ℕ) (store : Store) (i v : ℕ) → (with_variable (owner_at 64 i) (λ x. input_to moment x v) store).environment ≡ input_at moment store.environment i v
unfolding with_variable owner_at environment_with variable_from variable_of input_to input_at
environment_with_input moment store i v = refl

rows_of_store : (n : ℕ) (m : List ℕ) → (store_of n m).rows ≡ rows_of m
unfolding store_of
rows_of_store n m = refl

environment_of_store : (n : ℕ) (m : List ℕ) → (store_of n m).environment ≡ environment_of n m
unfolding store_of
environment_of_store n m = refl

inputs_cons : (moment n v : ℕ) (ns vs : List ℕ) (e : List Variable) → apply_inputs moment (inputs_of (n ∷ ns) (v ∷ vs)) e ≡ apply_inputs moment (inputs_of ns vs) (input_at moment e n v)
unfolding apply_inputs inputs_of
inputs_cons moment n v ns vs e = refl

module _ (ns vs : List ℕ) (k : ℕ) {a m m' : List ℕ} (l : k < length ns) (same : length ns ≡ length vs) (done : InputsSoFar ns vs k a m)
    (next : (moment : ℕ) → Changes 64 m m' (overwritten_block (get_or ns k 0) (get_or vs k 0) (block m 64))
    (with_variable (owner_at 64 (get_or ns k 0)) (λ x. input_to moment x (get_or vs k 0)))) where
  input_written : (moment n : ℕ) → environment_of n m' ≡ input_at moment (environment_of n m) (get_or ns k 0) (get_or vs k 0)
  input_written moment n =
      sym (environment_of_store n m') ∙ (ap (λ (x : Store). x.environment) ((next moment).store n) ∙ (environment_with_input moment (store_of n m) (get_or ns k 0) (get_or vs k 0)
      ∙ ap (λ (e : List Variable). input_at moment e (get_or ns k 0) (get_or vs k 0)) (environment_of_store n m)))

  inputs_left : (moment n : ℕ) → apply_inputs moment (inputs_of (drop (k + 1) ns) (drop (k + 1) vs)) (environment_of n m') ≡ apply_inputs moment (inputs_of (drop k ns) (drop k vs)) (environment_of n m)
  inputs_left moment n =
      let l' : k < length vs = omega arith in
      rw (add-one, input_written moment n, drop-cons ns k 0 l, drop-cons vs k 0 l') (sym (inputs_cons moment (get_or ns k 0) (get_or vs k 0) (drop (suc k) ns) (drop (suc k) vs) (environment_of n m)))

  pub one_more_input : InputsSoFar ns vs (k + 1) a m'
  one_more_input =
      record {
        rows = sym (rows_of_store 0 m') ∙ (ap (λ (x : Store). x.rows) ((next 0).store 0) ∙ (rows_with_input 0 (store_of 0 m) (get_or ns k 0) (get_or vs k 0) ∙ (rows_of_store 0 m ∙ done.rows)));
        environment = λ moment n. inputs_left moment n ∙ done.environment moment n;
        outside = outside_then done.outside (next 0).outside;
        triggers = triggers_then done.triggers (next 0).triggers;
        clean = λ n h w.
            let t = done.clean n h w in
            environment_keeps_clean (next 0).in_block (overwritten_environment n (block m 64) (get_or ns k 0) t.environment (h.below k l) (get_or vs k 0)) t;
      }

none_left : (moment : ℕ) (vs : List ℕ) (e : List Variable) → apply_inputs moment (inputs_of [] vs) e ≡ e
unfolding apply_inputs inputs_of
none_left moment vs e = refl

pub inputs_done : (ns vs : List ℕ) {a m : List ℕ} → InputsSoFar ns vs (length ns) a m → (n : ℕ) → NumbersBelow n ns → InputsWritten n (inputs_of ns vs) a m
inputs_done ns vs {a} {m} done n h =
    record {
      rows = done.rows;
      environment = λ moment. sym (ap (λ (l : List ℕ). apply_inputs moment (inputs_of l (drop (length ns) vs)) (environment_of n m)) (drop-length ns) ∙ none_left moment (drop (length ns) vs) (environment_of n m)) ∙ done.environment moment n;
      outside = done.outside;
      triggers = done.triggers;
      clean = done.clean n h;
    }
