-- Routine r of the listing that words stand for, its instruction `place` and a cell of it are reached by address, whatever the words.
use mathlib.Core.Path.{◌≡◌, refl, ap, ◌∙◌}
use mathlib.Core.List.{List}
use Prim.Native.Nat.{ℕ, zero, suc, ◌+◌, ◌*◌, ◌<◌}
use native.Mathlib.Omega.{arith}
use lib.ListN.{length, get_or}
use Rattle.listing.specs.Listing.{Call, Instruction, end, Routine}
use Rattle.walk.specs.Walk.{no_routine, routine_at, instruction_at}
use Rattle.walk.specs.Question7.{owned_count, owned_by}
use Rattle.table.specs.Areas.{routine_area, entry_area}
use Rattle.table.specs.Decode.{word, cells_at, after_call, calls_at, instruction_at_entry, code_at_entry, kinds_of_bits, routine_at_entry, routines_at_entry, routine_entry, instruction_entry, table_listing, call_at, head_after}

pub code_by_place : (w : List ℕ) (n e k : ℕ) (d : Instruction) → k < n → get_or (code_at_entry w e n) k d ≡ instruction_at_entry w (e + 5 * k)
unfolding code_at_entry
code_by_place w zero e k d h = absurd (omega arith)
code_by_place w (suc n) e zero d h = let z : e ≡ e + 5 * 0 = omega arith in ap (λ (a : ℕ). instruction_at_entry w a) z
code_by_place w (suc n) e (suc k) d h =
    let z : (e + 5) + 5 * k ≡ e + 5 * suc k = omega arith in code_by_place w n (e + 5) k d (omega arith) ∙ ap (λ (a : ℕ). instruction_at_entry w a) z

pub routines_by_number : (w : List ℕ) (n a r : ℕ) (d : Routine) → r < n → get_or (routines_at_entry w a n) r d ≡ routine_at_entry w (a + 5 * r)
unfolding routines_at_entry
routines_by_number w zero a r d h = absurd (omega arith)
routines_by_number w (suc n) a zero d h = let z : a ≡ a + 5 * 0 = omega arith in ap (λ (b : ℕ). routine_at_entry w b) z
routines_by_number w (suc n) a (suc r) d h =
    let z : (a + 5) + 5 * r ≡ a + 5 * suc r = omega arith in routines_by_number w n (a + 5) r d (omega arith) ∙ ap (λ (b : ℕ). routine_at_entry w b) z

pub cells_by_place : {A : Type 0} (f : ℕ → A) (n a j : ℕ) (d : A) → j < n → get_or (cells_at f a n) j d ≡ f (a + 2 * j)
unfolding cells_at
cells_by_place f zero a j d h = absurd (omega arith)
cells_by_place f (suc n) a zero d h = let z : a ≡ a + 2 * 0 = omega arith in ap f z
cells_by_place f (suc n) a (suc j) d h =
    let z : (a + 2) + 2 * j ≡ a + 2 * suc j = omega arith in cells_by_place f n (a + 2) j d (omega arith) ∙ ap f z

pub calls_by_place : (w : List ℕ) (n a j : ℕ) (d : Call) → j < n → get_or (calls_at w a n) j d ≡ call_at w (head_after w a j)
unfolding calls_at head_after
calls_by_place w zero a j d h = absurd (omega arith)
calls_by_place w (suc n) a zero d h = refl
calls_by_place w (suc n) a (suc j) d h = calls_by_place w n (after_call w a) j d (omega arith)

pub head_after_next : (w : List ℕ) (a k : ℕ) → head_after w a (suc k) ≡ after_call w (head_after w a k)
unfolding head_after
head_after_next w a zero = refl
head_after_next w a (suc k) = head_after_next w (after_call w a) k

-- ── how many there are ───────────────────────────────────────────────────────────
pub cells_count : {A : Type 0} (f : ℕ → A) (n a : ℕ) → length (cells_at f a n) ≡ n
unfolding cells_at
cells_count f zero a = refl
cells_count f (suc n) a = ap suc (cells_count f n (a + 2))

pub calls_count : (w : List ℕ) (n a : ℕ) → length (calls_at w a n) ≡ n
unfolding calls_at
calls_count w zero a = refl
calls_count w (suc n) a = ap suc (calls_count w n (after_call w a))

pub code_count : (w : List ℕ) (n e : ℕ) → length (code_at_entry w e n) ≡ n
unfolding code_at_entry
code_count w zero e = refl
code_count w (suc n) e = ap suc (code_count w n (e + 5))

pub routines_count : (w : List ℕ) (n a : ℕ) → length (routines_at_entry w a n) ≡ n
unfolding routines_at_entry
routines_count w zero a = refl
routines_count w (suc n) a = ap suc (routines_count w n (a + 5))

pub kinds_count_lem : (n bits : ℕ) → length (kinds_of_bits n bits) ≡ n
unfolding kinds_of_bits
kinds_count_lem zero bits = refl
kinds_count_lem (suc n) bits = ap suc (kinds_count_lem n _)

-- ── in the words' listing ────────────────────────────────────────────────────────
module _ (w : List ℕ) where
  pub routine_total : length (table_listing w).routines ≡ word w 2
  unfolding table_listing
  routine_total = routines_count w (word w 2) routine_area

  module _ (r : ℕ) (there : r < word w 2) where
    pub routine_by_number : routine_at (table_listing w) r ≡ routine_at_entry w (routine_entry r)
    unfolding routine_at table_listing
    routine_by_number = routines_by_number w (word w 2) routine_area r no_routine there

    pub kinds_by_number : (routine_at (table_listing w) r).kinds ≡ kinds_of_bits (word w (routine_entry r + 0)) (word w (routine_entry r + 1))
    unfolding routine_at_entry
    kinds_by_number = ap (λ (t : Routine). t.kinds) routine_by_number

    pub arguments_by_number : length (routine_at (table_listing w) r).kinds ≡ word w (routine_entry r + 0)
    arguments_by_number = ap length kinds_by_number ∙ kinds_count_lem _ _

    pub locals_by_number : (routine_at (table_listing w) r).locals ≡ word w (routine_entry r + 2)
    unfolding routine_at_entry
    locals_by_number = ap (λ (t : Routine). t.locals) routine_by_number

    pub code_by_number : (routine_at (table_listing w) r).code ≡ code_at_entry w (entry_area + 5 * word w (routine_entry r + 3)) (word w (routine_entry r + 4))
    unfolding routine_at_entry
    code_by_number = ap (λ (t : Routine). t.code) routine_by_number

    pub code_length_by_number : length (routine_at (table_listing w) r).code ≡ word w (routine_entry r + 4)
    code_length_by_number = ap length code_by_number ∙ code_count w (word w (routine_entry r + 4)) _

    -- the instruction of the listing is the one whose entry stands at the address
    pub instruction_by_address : (place : ℕ) → place < word w (routine_entry r + 4)
        → instruction_at (table_listing w) r place ≡ instruction_at_entry w (instruction_entry w r place)
    unfolding instruction_at
    instruction_by_address place h = rw code_by_number (code_by_place w (word w (routine_entry r + 4)) (entry_area + 5 * word w (routine_entry r + 3)) place end h)

    -- the variables that a routine owns: its locals and its arguments by value
    pub owned_by_number : owned_by (table_listing w) r ≡ owned_count (kinds_of_bits (word w (routine_entry r + 0)) (word w (routine_entry r + 1))) (word w (routine_entry r + 2))
    unfolding owned_by
    owned_by_number = rw (kinds_by_number, locals_by_number)
