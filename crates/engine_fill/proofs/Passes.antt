-- The loop over the walking order: what holds before each slot. The letters are those of specs/Filling; n is the number of live routines.
use mathlib.Core.Path.{◌≡◌, refl, sym, ap, ◌∙◌, fun_ext}
use mathlib.Core.List.{List, [], ◌∷◌}
use Prim.Native.Nat.{ℕ, zero, suc, ◌+◌, ◌-◌, ◌≤◌, ◌<◌}
use native.Mathlib.Numerals.{add-one}
use native.Mathlib.Omega.{arith}
use native.Mathlib.Decide.{ℕ_discrete}
use lib.Dec.{eqb}
use lib.ListN.{length, get_or, set, replicate, length-set}
use lib.Seq.{get_or-take, get_or-set_same, get_or-set_other}
use borrow.Author.Tests.{eq-eqb, ne_eqb}
use Rattle.listing.specs.Listing.{Listing}
use Rattle.walk.specs.State.{Variable}
use Rattle.walk.specs.Instant.{environment_size, main_call}
use Rattle.table.specs.Decode.{table_listing}
use Rattle.machine.specs.Words.{slot_of}
use Rattle.engine_rows.specs.Rows.{Rows}
use Rattle.engine_rows.specs.Beginning.{environment_caller}
use Rattle.engine_rows.specs.Records.{choose_slot, seen, filled_row_lem, filled_at, filled_rows}
use Rattle.engine_blocks.specs.Tabulate.{tabulate_from}
use Rattle.engine_blocks.specs.Blocks.{rows_of, environment_of}
use Rattle.engine_blocks.specs.Changes.{SameOutside, SameTriggers}
use Rattle.engine_blocks.proofs.Staying.{outside_start, outside_then, triggers_start, triggers_then}
use Rattle.engine_clean.specs.Clean.{Clean}
use Rattle.engine_fill_row.specs.Filling.{order_of, ports_of, MayFill, fills_main, fills_child, Fillable, fillable_next, FillsRows, MayFillAll}
use Rattle.engine_fill_row.specs.Row.{ChildFilled}
use Rattle.engine_main_row.specs.MainRoutine.{MainIs}
use Rattle.engine_fill.specs.Pass.{MayFillSlot, SlotFilled, above_in}

-- ── one slot ──────────────────────────────────────────────────────────────────────────────────────
pub slot_main : {t before after : List ℕ} {level p s : ℕ} → level ≡ 0
    → MainIs t before s (λ (environment : List Variable). filled_row_lem (table_listing t) (environment_caller (table_listing t) environment) (main_call (table_listing t)) (rows_of before s) s) after
    → SlotFilled t before level p s after
unfolding filled_at
slot_main {t} {before} {after} {level} {p} {s} e M =
    record {
      rows = λ environment h. rw e (M.rows environment h);
      environment = M.environment;
      outside = M.outside;
      triggers = M.triggers;
      clean = M.clean;
    }

pub slot_child : {t before after : List ℕ} (level : ℕ) {p s : ℕ} → (level ≡ 0 → ⊥) → ChildFilled t before p s after → SlotFilled t before level p s after
unfolding filled_at
slot_child zero n C = absurd (n refl)
slot_child (suc level) n C =
    record { rows = λ environment h. C.rows environment; environment = C.environment; outside = C.outside; triggers = C.triggers; clean = C.clean }

-- ── the slots seen last ───────────────────────────────────────────────────────────────────────────
abbrev pub latest_in : List ℕ → ℕ → ℕ
latest_in above level = get_or above (suc level) 64

pub other_default : (xs : List ℕ) (k a b : ℕ) → k < length xs → get_or xs k a ≡ get_or xs k b
other_default [] k a b h = absurd (omega arith)
other_default (x ∷ xs) zero a b h = refl
other_default (x ∷ xs) (suc k) a b h = other_default xs k a b (omega arith)

all_64 : (n k : ℕ) → ◌≡◌ {A = ℕ} (get_or (replicate n 64) k 64) 64
all_64 zero k = refl
all_64 (suc n) zero = refl
all_64 (suc n) (suc k) = all_64 n k

-- slot s seen at a level
seen_in_lem : (above : List ℕ) (level s : ℕ) → suc level < length above → latest_in (set above (suc level) s) ≡ seen (latest_in above) level s
unfolding seen choose_slot
seen_in_lem above level s h = fun_ext λ n. go n (ℕ_discrete n level)
  where
    go : (n : ℕ) → Dec (n ≡ level) → get_or (set above (suc level) s) (suc n) 64 ≡ choose_slot (eqb n level) s (get_or above (suc n) 64)
    go n (yes e) = rw (e, eq-eqb level level refl) (get_or-set_same above (suc level) s 64 h)
    go n (no d) = rw (ne_eqb n level d) (get_or-set_other above (suc level) (suc n) s 64 (λ e. d (omega arith)))

-- only the slot one level up counts
filled_by_above : (l : Listing) (rows : Rows) (environment : List Variable) (latest : List ℕ) (level s : ℕ)
    → filled_at l rows environment (λ n. above_in latest level) level s ≡ filled_at l rows environment (latest_in latest) level s
unfolding filled_at
filled_by_above l rows environment latest zero s = refl
filled_by_above l rows environment latest (suc level) s = refl

header_word : {a m : List ℕ} → SameOutside a m → (j : ℕ) → j < 328 → get_or m j 0 ≡ get_or a j 0
header_word {a} {m} S j h = sym (get_or-take 328 m j 0 h) ∙ (ap (λ (l : List ℕ). get_or l j 0) S.header ∙ get_or-take 328 a j 0 h)

-- ── before each slot ──────────────────────────────────────────────────────────────────────────────
pub record Passing (t before m latest : List ℕ) (k : ℕ) : Type 0 where
  pub within : k ≤ get_or before 3 0
  pub size : length latest ≡ 12
  pub order : Fillable t (ports_of t before) (rows_of m) (latest_in latest) (tabulate_from k (get_or before 3 0 - k) (slot_of before))
  pub rows : filled_rows (table_listing t) (rows_of m) (ports_of t before) (latest_in latest) (tabulate_from k (get_or before 3 0 - k) (slot_of before))
      ≡ filled_rows (table_listing t) (rows_of before) (ports_of t before) (λ level. 64) (order_of before)
  pub environment : (k : ℕ) → environment_of k m ≡ environment_of k before
  pub outside : SameOutside before m
  pub triggers : SameTriggers before m
  pub clean : (k : ℕ) → Clean k before → Clean k m

module _ {t before : List ℕ} (M : MayFillAll t before) where
  pub pass_start : Passing t before before (replicate 12 64) 0
  unfolding order_of
  pass_start =
      let z : get_or before 3 0 - 0 ≡ get_or before 3 0 = omega arith in
      let same : latest_in (replicate 12 64) ≡ (λ (level : ℕ). 64) = fun_ext λ level. all_64 12 (suc level) in
      record {
        within = omega arith;
        size = refl;
        order = rw (z, same) M.order;
        rows = rw (z, same);
        environment = λ k. refl;
        outside = outside_start before;
        triggers = triggers_start before;
        clean = λ k T. T;
      }

  module _ {m latest : List ℕ} {k : ℕ} (P : Passing t before m latest k) where
    module _ (more : k < get_or before 3 0) where
      abbrev slot : ℕ
      slot = slot_of before k

      abbrev left : ℕ
      left = get_or before 3 0 - suc k

      pub slot_read : get_or m (64 + k) 0 ≡ slot_of before k
      slot_read = header_word P.outside (64 + k) (omega (arith, M.few))

      abbrev level : ℕ
      level = (rows_of m slot).level

      split_order : Fillable t (ports_of t before) (rows_of m) (latest_in latest) (slot ∷ tabulate_from (suc k) left (slot_of before))
      unfolding tabulate_from
      split_order = let e : get_or before 3 0 - k ≡ suc left = omega arith in rw e at P.order

      may_of : {rows : Rows} {latest : ℕ → ℕ} {s : ℕ} {ss : List ℕ} {environment : List Variable} → Fillable t environment rows latest (s ∷ ss) → MayFill t rows latest (rows s).level s
      may_of (fillable_next a b) = a

      rest_of : {rows : Rows} {latest : ℕ → ℕ} {s : ℕ} {ss : List ℕ} {environment : List Variable} → Fillable t environment rows latest (s ∷ ss)
          → Fillable t environment (filled_at (table_listing t) rows environment latest (rows s).level s) (seen latest (rows s).level s) ss
      rest_of (fillable_next a b) = b

      by_level : {rows : Rows} (level s : ℕ) → MayFill t rows (latest_in latest) level s → (s < 64) × (level ≤ 10) × MayFillSlot t rows level (above_in latest level) s
      by_level _ s (fills_main a) = (a.slot, omega arith, record { main = λ e. a; child = λ n. absurd (n refl) })
      by_level _ s (fills_child h a) = (a.slot, omega arith, record { main = λ e. absurd (let z : ⊥ = omega arith in z); child = λ n. a })

      pub may_now : (slot < 64) × (level ≤ 10) × MayFillSlot t (rows_of m) level (above_in latest level) slot
      may_now = by_level level slot (may_of split_order)

      module _ (ports : length (ports_of t before) ≡ environment_size (table_listing t)) {after : List ℕ} (S : SlotFilled t m level (above_in latest level) slot after) where
        rows_then : rows_of after ≡ filled_at (table_listing t) (rows_of m) (ports_of t before) (latest_in latest) level slot
        rows_then = S.rows (ports_of t before) ports ∙ filled_by_above (table_listing t) (rows_of m) (ports_of t before) latest level slot

        latest_then : latest_in (set latest (suc level) slot) ≡ seen (latest_in latest) level slot
        latest_then = seen_in_lem latest level slot (omega (arith, P.size, may_now.1))

        whole : filled_rows (table_listing t) (filled_at (table_listing t) (rows_of m) (ports_of t before) (latest_in latest) level slot) (ports_of t before)
            (seen (latest_in latest) level slot) (tabulate_from (suc k) left (slot_of before))
            ≡ filled_rows (table_listing t) (rows_of before) (ports_of t before) (λ level. 64) (order_of before)
        unfolding tabulate_from filled_rows
        whole = let e : get_or before 3 0 - k ≡ suc left = omega arith in rw e at P.rows

        pub pass_next : Passing t before after (set latest (level + 1) slot) (k + 1)
        pass_next =
            rw (add-one k, add-one level)
            (record {
              within = more;
              size = length-set latest (suc level) slot ∙ P.size;
              order = rw (rows_then, latest_then) (rest_of split_order);
              rows = rw (rows_then, latest_then) whole;
              environment = λ k. S.environment k ∙ P.environment k;
              outside = outside_then P.outside S.outside;
              triggers = triggers_then P.triggers S.triggers;
              clean = λ k T. S.clean k (P.clean k T);
            })

    pub pass_end : get_or before 3 0 ≤ k → FillsRows before (filled_rows (table_listing t) (rows_of before) (ports_of t before) (λ level. 64) (order_of before)) m
    unfolding tabulate_from filled_rows
    pass_end none =
        let z : get_or before 3 0 - k ≡ 0 = omega (arith, none) in
        record { rows = rw z at P.rows; environment = P.environment; outside = P.outside; triggers = P.triggers; clean = P.clean }
