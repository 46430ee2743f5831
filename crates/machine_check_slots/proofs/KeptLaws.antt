-- The array of moments, turn by turn and test by test.
use mathlib.Core.Path.{◌≡◌, ap}
use mathlib.Core.Bool.{true, false}
use mathlib.Core.List.{List}
use Prim.Native.Nat.{ℕ, zero, suc, ◌+◌, ◌-◌, ◌<◌}
use native.Mathlib.Omega.{arith}
use lib.ListN.{get_or, set}
use Rattle.walk.specs.Instant.{NextDue, due_of_variables}
use Rattle.machine.specs.Words.{environment_block, moment_at, variables_in, zero_from, block_rests, slot_holds, header_in_place, blocks_in_place, words_in_place}
use Rattle.machine.specs.Due.{due_at}
use Rattle.machine_words.specs.Tests.{slot_due_lem}
use Rattle.machine_check_slots.specs.Kept.{due_number, slots_kept, blocks_kept, words_kept}

due_number_lem : (t : ℕ) (d : NextDue) → due_at t ≡ d → t ≡ due_number d
unfolding due_at due_number
due_number_lem zero d e = ap due_number e
due_number_lem (suc t) d e = ap due_number e

-- ── the array, slot by slot ───────────────────────────────────────────────────────────────────────
module _ (n t : ℕ) (w dues : List ℕ) where
  pub kept_on : (s here : ℕ) → 0 < s → slot_holds n t w (s - 1) ≡ true → due_at here ≡ slot_due_lem w (s - 1) →
      slots_kept n t w s dues ≡ slots_kept n t w (s - 1) (set dues (s - 1) here)
  unfolding slots_kept
  kept_on zero here l e d = absurd (let z : ⊥ = omega arith in z)
  kept_on (suc s) here l e d =
      let p : suc s - 1 ≡ s = omega arith in
      let f : slot_holds n t w s ≡ true = rw p at e in
      let g : here ≡ due_number (slot_due_lem w s) = due_number_lem here (slot_due_lem w s) (rw p at d) in
      rw (p, f, g)

  pub kept_so_far : (s : ℕ) → 0 < s → slot_holds n t w (s - 1) ≡ false → dues ≡ slots_kept n t w s dues
  unfolding slots_kept
  kept_so_far zero l e = absurd (let z : ⊥ = omega arith in z)
  kept_so_far (suc s) l e =
      let p : suc s - 1 ≡ s = omega arith in
      let f : slot_holds n t w s ≡ false = rw p at e in
      rw f

  pub kept_all : (s : ℕ) → s ≡ 0 → dues ≡ slots_kept n t w s dues
  unfolding slots_kept
  kept_all s e = rw e

-- ── a test that fails ─────────────────────────────────────────────────────────────────────────────
module _ (size : ℕ) (w : List ℕ) where
  pub environment_unfit : zero_from w environment_block 8 ≡ false → blocks_in_place size w ≡ false
  unfolding blocks_in_place
  environment_unfit e = rw e

  pub environment_unrested : zero_from w environment_block 8 ≡ true → (t : ℕ) → t ≡ moment_at w 1 → block_rests t w environment_block size ≡ false → blocks_in_place size w ≡ false
  unfolding blocks_in_place
  environment_unrested e t now f = rw (e, ← now, f)

  pub header_unfit : header_in_place w ≡ false → words_in_place size w ≡ false
  unfolding words_in_place
  header_unfit e = rw e

-- ── the array after the blocks ────────────────────────────────────────────────────────────────────
module _ (size : ℕ) (w dues : List ℕ) where
  pub none_kept : zero_from w environment_block 8 ≡ false → dues ≡ blocks_kept size w dues
  unfolding blocks_kept
  none_kept e = rw e

  module _ (e : zero_from w environment_block 8 ≡ true) (t : ℕ) (now : t ≡ moment_at w 1) where
    pub outer_fails : block_rests t w environment_block size ≡ false → dues ≡ blocks_kept size w dues
    unfolding blocks_kept
    outer_fails f = rw (e, ← now, f)

    pub outer_kept : (n outer : ℕ) → n ≡ get_or w 3 0 → block_rests t w environment_block size ≡ true → due_at outer ≡ due_of_variables (variables_in w (environment_block + 8) size) →
        slots_kept n t w 64 (set dues 64 outer) ≡ blocks_kept size w dues
    unfolding blocks_kept
    outer_kept n outer c f d = rw (e, ← now, f, c, due_number_lem outer _ d)

  pub header_fails : header_in_place w ≡ false → dues ≡ words_kept size w dues
  unfolding words_kept
  header_fails e = rw e

  pub header_passes : header_in_place w ≡ true → blocks_kept size w dues ≡ words_kept size w dues
  unfolding words_kept
  header_passes e = rw e
