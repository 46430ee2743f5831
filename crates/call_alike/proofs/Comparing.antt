-- The comparison: one more environment variable, the two states, and the answers by their cases. Letters: a and b the words of the two machines.
use mathlib.Core.Path.{◌≡◌, refl, sym, ap, ap₂, ◌∙◌}
use mathlib.Core.Bool.{Bool, true, false, cond, ◌&&◌}
use mathlib.Core.List.{List}
use mathlib.Core.Option.{Option, none, some}
use Prim.Native.Nat.{ℕ, suc, ◌+◌, ◌*◌, ◌-◌, ◌<◌, ◌≤◌}
use native.Mathlib.Omega.{arith}
use lib.Dec.{eqb, leb}
use lib.ListN.{length, get_or, take}
use lib.Seq.{get_or-take}
use borrow.Author.Tests.{eq-eqb, ne_eqb, le-leb, lt-leb}
use Rattle.listing.specs.Listing.{Listing}
use Rattle.walk.specs.Instant.{environment_size}
use Rattle.walk.specs.Calls.{Machine, halted, running, first_words}
use Rattle.walk.specs.Comparison.{same_values, alike, not_compared, compared, both_running, both_states, on_listing, ask_compared, alike_call}
use Rattle.table.specs.Question6.{is_table, read_table}
use Rattle.table.specs.Decode.{table_listing}
use Rattle.machine.specs.Records.{state_from}
use Rattle.machine.specs.Words.{moment_at, variable_in, variables_in, state_of}
use Rattle.machine.specs.ReadMachine.{read_machine}
use Rattle.layout.specs.Layout.{layout}
use Rattle.call_arguments.specs.Asked.{machine_refusal}
use Rattle.call_arguments.proofs.Refusals.{read_by_refusal}
use Rattle.std.specs.Prelude.{Result, Ok, Err, is_ok, ⊤}
use Rattle.std.specs.Result.{result_and}
use Rattle.call_arguments.specs.Refusals.{number_of}
use Rattle.call_arguments.specs.declared.questions.Refusal.{Refusal}
use Rattle.call_arguments.specs.declared.questions.Refusal.TheVariants.{Short, NoTable, NoState, Halted, NotLater, Overdue, Inputs, Allowance}
use Rattle.call_alike.specs.Compared.{pair_refusal, is_no_state, first_or_second}

-- ── the values ────────────────────────────────────────────────────────────────────────────────────
abbrev pub SameFrom : List ℕ → List ℕ → ℕ → ℕ → Bool
SameFrom a b at k = same_values (variables_in (take 12288 a) at k) (variables_in (take 12288 b) at k)

module _ (a b : List ℕ) (k i : ℕ) (more : i < k) (few : k ≤ 16) where
  same_step : (x : Bool) → eqb (get_or a (12112 + i * 6) 0) (get_or b (12112 + i * 6) 0) ≡ x →
      SameFrom a b (12112 + i * 6) (k - i) ≡ x && SameFrom a b (12112 + (i + 1) * 6) (k - (i + 1))
  unfolding same_values variables_in variable_in
  same_step x e =
      let p : k - i ≡ suc (k - (i + 1)) = omega arith in
      let q : 12112 + i * 6 + 6 ≡ 12112 + (i + 1) * 6 = omega arith in
      let l : 12112 + i * 6 < 12288 = omega arith in
      rw (p, q, get_or-take 12288 a (12112 + i * 6) 0 l, get_or-take 12288 b (12112 + i * 6) 0 l, e)

  pub same_more : get_or a (12112 + i * 6) 0 ≡ get_or b (12112 + i * 6) 0 →
      SameFrom a b (12112 + i * 6) (k - i) ≡ SameFrom a b (12112 + (i + 1) * 6) (k - (i + 1))
  same_more e = same_step true (eq-eqb _ _ e)

  pub same_not : (get_or a (12112 + i * 6) 0 ≡ get_or b (12112 + i * 6) 0 → ⊥) → SameFrom a b (12112 + i * 6) (k - i) ≡ false
  same_not e = same_step false (ne_eqb _ _ e)

pub same_begins : (a b : List ℕ) (k : ℕ) → SameFrom a b (12112 + 0 * 6) (k - 0) ≡ SameFrom a b 12112 k
same_begins a b k = let p : k - 0 ≡ k = omega arith in let q : 12112 + 0 * 6 ≡ 12112 = omega arith in rw (p, q)

pub same_ends : (a b : List ℕ) (k i : ℕ) → k ≤ i → SameFrom a b (12112 + i * 6) (k - i) ≡ true
unfolding same_values variables_in
same_ends a b k i h = let p : k - i ≡ 0 = omega arith in rw p

-- ── the states ────────────────────────────────────────────────────────────────────────────────────
pub first_moment : (a : List ℕ) → moment_at (take 12288 a) 1 ≡ moment_at a 1
first_moment a = rw (get_or-take 12288 a 1 0 (omega arith), get_or-take 12288 a (1 + 1) 0 (omega arith))

module _ (listing : Listing) (a b : List ℕ) where
  moments_by : (x : Bool) → eqb (moment_at a 1) (moment_at b 1) ≡ x →
      alike (state_of listing (take 12288 a)) (state_of listing (take 12288 b)) ≡ x && SameFrom a b 12112 (environment_size listing)
  unfolding alike state_of state_from
  moments_by x e = rw (first_moment a, first_moment b, e)

  pub not_alike : (moment_at a 1 ≡ moment_at b 1 → ⊥) → alike (state_of listing (take 12288 a)) (state_of listing (take 12288 b)) ≡ false
  not_alike e = moments_by false (ne_eqb _ _ e)

  pub alike_by_values : moment_at a 1 ≡ moment_at b 1 →
      alike (state_of listing (take 12288 a)) (state_of listing (take 12288 b)) ≡ SameFrom a b 12112 (environment_size listing)
  alike_by_values e = moments_by true (eq-eqb _ _ e)

-- ── 7 and 8 for both ──────────────────────────────────────────────────────────────────────────────
either_way : {A : Type 0} (b : Bool) (x : A) → x ≡ cond b x x
either_way true x = refl
either_way false x = refl

no_other : (k : Refusal) → (k ≡ NoState → ⊥) → is_no_state (Err k) ≡ false
unfolding is_no_state
no_other Short n = refl
no_other NoTable n = refl
no_other NoState n = absurd (n refl)
no_other Halted n = refl
no_other NotLater n = refl
no_other Overdue n = refl
no_other Inputs n = refl
no_other Allowance n = refl

pub second_passes : (x y : Result ⊤ Refusal) (passed : ⊤) → y ≡ Ok passed → x ≡ pair_refusal x y
unfolding pair_refusal is_no_state first_or_second
second_passes (Ok p) y passed e = rw e refl
second_passes (Err k) y passed e = rw e (either_way (is_no_state (Err k)) (Err k))

pub second_is_7 : (x y : Result ⊤ Refusal) (k : Refusal) → y ≡ Err k → k ≡ NoState → y ≡ pair_refusal x y
unfolding pair_refusal is_no_state first_or_second
second_is_7 x y k e f = rw (e, f) (go x)
  where
    go : (x : Result ⊤ Refusal) → Err NoState ≡ pair_refusal x (Err NoState)
    go (Ok p) = refl
    go (Err Short) = refl
    go (Err NoTable) = refl
    go (Err NoState) = refl
    go (Err Halted) = refl
    go (Err NotLater) = refl
    go (Err Overdue) = refl
    go (Err Inputs) = refl
    go (Err Allowance) = refl

pub second_is_8 : (x y : Result ⊤ Refusal) (k : Refusal) → y ≡ Err k → (k ≡ NoState → ⊥) → result_and x (Err k) ≡ pair_refusal x y
unfolding pair_refusal is_no_state first_or_second
second_is_8 (Ok p) y k e n = rw (e, no_other k n) refl
second_is_8 (Err j) y k e n = rw (e, no_other k n) (either_way (is_no_state (Err j)) (Err j))

pub refused_pair : (x y : Option Machine) (k : Refusal) → pair_refusal (machine_refusal x) (machine_refusal y) ≡ Err k → not_compared (number_of k) ≡ both_states x y
unfolding pair_refusal is_no_state first_or_second machine_refusal both_states both_running
refused_pair none y k e = let f : NoState ≡ k = cc in ap (λ (r : Refusal). not_compared (number_of r)) (sym f)
refused_pair (some (halted j)) none k e = let f : NoState ≡ k = cc in ap (λ (r : Refusal). not_compared (number_of r)) (sym f)
refused_pair (some (running s)) none k e = let f : NoState ≡ k = cc in ap (λ (r : Refusal). not_compared (number_of r)) (sym f)
refused_pair (some (halted i)) (some (halted j)) k e = let f : Halted ≡ k = cc in ap (λ (r : Refusal). not_compared (number_of r)) (sym f)
refused_pair (some (halted i)) (some (running u)) k e = let f : Halted ≡ k = cc in ap (λ (r : Refusal). not_compared (number_of r)) (sym f)
refused_pair (some (running s)) (some (halted j)) k e = let f : Halted ≡ k = cc in ap (λ (r : Refusal). not_compared (number_of r)) (sym f)
refused_pair (some (running s)) (some (running u)) k e = let z : ◌≡◌ {A = ℕ} 0 1 = cc in absurd (omega arith)

pair_passes : (x y : Option Machine) → pair_refusal (machine_refusal x) (machine_refusal y) ≡ Ok tt → (is_ok (machine_refusal x) ≡ true) × (is_ok (machine_refusal y) ≡ true)
unfolding pair_refusal is_no_state first_or_second machine_refusal
pair_passes none y e = let z : ◌≡◌ {A = ℕ} 0 1 = cc in absurd (omega arith)
pair_passes (some (halted j)) none e = let z : ◌≡◌ {A = ℕ} 0 1 = cc in absurd (omega arith)
pair_passes (some (running s)) none e = let z : ◌≡◌ {A = ℕ} 0 1 = cc in absurd (omega arith)
pair_passes (some (halted i)) (some (halted j)) e = let z : ◌≡◌ {A = ℕ} 0 1 = cc in absurd (omega arith)
pair_passes (some (halted i)) (some (running u)) e = let z : ◌≡◌ {A = ℕ} 0 1 = cc in absurd (omega arith)
pair_passes (some (running s)) (some (halted j)) e = let z : ◌≡◌ {A = ℕ} 0 1 = cc in absurd (omega arith)
pair_passes (some (running s)) (some (running u)) e = (refl, refl)

-- The refusals as they were found one after the other.
pub refused_by : (x y : Option Machine) (p q r : Result ⊤ Refusal) (k : Refusal) → p ≡ machine_refusal x → q ≡ machine_refusal y → r ≡ pair_refusal p q → r ≡ Err k →
    not_compared (number_of k) ≡ both_states x y
refused_by x y p q r k e f g h = refused_pair x y k (sym (ap₂ pair_refusal e f) ∙ (sym g ∙ h))

pub compared_by : (listing : Listing) (a b : List ℕ) (p q r : Result ⊤ Refusal) (same : Bool) → p ≡ machine_refusal (read_machine listing a) →
    q ≡ machine_refusal (read_machine listing b) → r ≡ pair_refusal p q → r ≡ Ok tt → same ≡ alike (state_of listing a) (state_of listing b) →
    compared same ≡ both_states (read_machine listing a) (read_machine listing b)
unfolding both_states both_running
compared_by listing a b p q r same e f g z h =
    let pass = pair_passes (read_machine listing a) (read_machine listing b) (sym (ap₂ pair_refusal e f) ∙ (sym g ∙ z)) in
    rw (read_by_refusal listing a pass.0, read_by_refusal listing b pass.1, h)

-- ── 1 and 6 ───────────────────────────────────────────────────────────────────────────────────────
module _ (table a b : List ℕ) where
  long_by : (x y z : Bool) → leb 12288 (length table) ≡ x → leb 12288 (length a) ≡ y → leb 12288 (length b) ≡ z →
      alike_call layout table a b ≡ ask_compared (x && (y && z)) (on_listing layout (read_table (first_words table)) a b)
  unfolding alike_call
  long_by x y z e f g = rw (e, f, g)

  pub short_table : length table < 12288 → not_compared 1 ≡ alike_call layout table a b
  unfolding ask_compared
  short_table h = sym (long_by false _ _ (lt-leb _ _ h) refl refl)

  pub short_first : 12288 ≤ length table → length a < 12288 → not_compared 1 ≡ alike_call layout table a b
  unfolding ask_compared
  short_first g h = sym (long_by true false _ (le-leb _ _ g) (lt-leb _ _ h) refl)

  pub short_second : 12288 ≤ length table → 12288 ≤ length a → length b < 12288 → not_compared 1 ≡ alike_call layout table a b
  unfolding ask_compared
  short_second f g h = sym (long_by true true false (le-leb _ _ f) (le-leb _ _ g) (lt-leb _ _ h))

  module _ (long : 12288 ≤ length table) (long-a : 12288 ≤ length a) (long-b : 12288 ≤ length b) where
    all_long_lem : alike_call layout table a b ≡ on_listing layout (read_table (first_words table)) a b
    unfolding ask_compared
    all_long_lem = long_by true true true (le-leb _ _ long) (le-leb _ _ long-a) (le-leb _ _ long-b)

    pub no_table : is_table (first_words table) ≡ false → not_compared 6 ≡ alike_call layout table a b
    unfolding on_listing read_table
    no_table e = rw (all_long_lem, e)

    pub on_table : is_table (first_words table) ≡ true →
        both_states (read_machine (table_listing (first_words table)) (first_words a)) (read_machine (table_listing (first_words table)) (first_words b)) ≡ alike_call layout table a b
    unfolding on_listing read_table
    on_table e = rw (all_long_lem, e)
