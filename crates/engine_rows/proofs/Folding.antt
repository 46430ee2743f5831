-- What is gathered over all 64 slots is gathered over the slots in use, in any order: their number, the next moment due.
-- Letters: s slots, ss a list of them, d what the gathering starts from; the others as in Place and Held.
use mathlib.Core.Path.{◌≡◌, refl, sym, ap, ap₂, ◌∙◌}
use mathlib.Core.Bool.{Bool, true, false}
use mathlib.Core.List.{List, [], ◌∷◌, ◌++◌}
use Prim.Native.Nat.{ℕ, zero, suc, ◌+◌, ◌≤◌, ◌<◌}
use native.Mathlib.Nat.{le_refl, le_trans, le_antisymm}
use native.Mathlib.Omega.{arith}
use native.Mathlib.Decide.{ℕ_discrete}
use lib.Dec.{leb}
use lib.ListN.{length, length-append}
use borrow.Author.Tests.{leb-true, leb-false}
use Rattle.walk.specs.State.{Variable, live_in_forest}
use Rattle.walk.specs.Instant.{NextDue, never, moment, earlier_of, earlier, due_of_variables, due_of_forest}
use Rattle.engine_rows.specs.Rows.{Row, Rows, free_row, with_row}
use Rattle.engine_rows.specs.Beginning.{due_if, due_below, next_due_of_rows}
use Rattle.engine_rows.proofs.Place.{Record, Tree, nil, put, erase}
use Rattle.engine_rows.proofs.Priority.{Rising, rising_put}
use Rattle.engine_rows.proofs.Sorted.{In, here, there, rising_above}
use Rattle.engine_rows.proofs.Held.{Entry, row_for, Held, held_nil, held_put, with_row-same, with_row-other}
use Rattle.engine_rows.proofs.Kept.{slots_of}
use Rattle.engine_rows.proofs.Children.{one, used_below}
use Rattle.engine_rows.proofs.Order.{order_keys, key_in}
use Rattle.engine_rows.proofs.Taking.{bool_not}

pub data Distinct : List ℕ → Type 0 where
  distinct_nil : Distinct []
  distinct_put : {s : ℕ} {ss : List ℕ} → (In s ss → ⊥) → Distinct ss → Distinct (s ∷ ss)

pub rising_distinct : (σ : Rows) (l : List ℕ) {a b : ℕ} → Rising a b (order_keys σ l) → Distinct l
unfolding order_keys
rising_distinct σ [] r = distinct_nil
rising_distinct σ (s ∷ l) (rising_put e r) = distinct_put (λ i. let u = (rising_above r (key_in σ s l i)).0 in omega (arith, u))
    (rising_distinct σ l r)

module _ (A : Type 0) (op : A → A → A) (value : Row → A) (swap : (a b c : A) → op a (op b c) ≡ op b (op a c)) (free : (r : Row) (a : A) →
    r.used ≡ false → op (value r) a ≡ a) where
  unfoldable pub fold_below : Rows → ℕ → A → A
  fold_below σ zero d = d
  fold_below σ (suc n) d = op (value (σ n)) (fold_below σ n d)

  unfoldable pub fold_slots : Rows → List ℕ → A → A
  fold_slots σ [] d = d
  fold_slots σ (s ∷ ss) d = op (value (σ s)) (fold_slots σ ss d)

  fold_same : (σ σ' : Rows) (n : ℕ) (d : A) → ((s : ℕ) → s < n → σ' s ≡ σ s) → fold_below σ' n d ≡ fold_below σ n d
  unfolding fold_below
  fold_same σ σ' zero d h = refl
  fold_same σ σ' (suc n) d h = ap₂ (λ r a. op (value r) a) (h n (le_refl (suc n))) (fold_same σ σ' n d (λ s l. h s (omega arith)))

  free_used : free_row.used ≡ false
  unfolding free_row
  free_used = refl

  fold_pull : (σ : Rows) (s n : ℕ) (d : A) → s < n → fold_below σ n d ≡ op (value (σ s)) (fold_below (with_row σ s free_row) n d)
  unfolding fold_below
  fold_pull σ s zero d h = absurd (omega arith)
  fold_pull σ s (suc n) d h = go (ℕ_discrete s n) (fold_pull σ s n d)
    where
      σ' : Rows
      σ' = with_row σ s free_row

      go : Dec (s ≡ n) → (s < n → fold_below σ n d ≡ op (value (σ s)) (fold_below σ' n d)) →
          op (value (σ n)) (fold_below σ n d) ≡ op (value (σ s)) (op (value (σ' n)) (fold_below σ' n d))
      go (yes e) deep =
          ap₂ (λ r a. op (value r) a) (ap σ (sym e))
          (sym (free (σ' n) (fold_below σ' n d) (ap (λ r. r.used) (ap σ' (sym e) ∙ with_row-same σ s free_row) ∙ free_used) ∙
          fold_same σ σ' n d (λ t l. with_row-other σ s free_row t (λ q. omega (arith, q, e)))))
      go (no e) deep =
          ap (op (value (σ n))) (deep (omega arith)) ∙ swap (value (σ n)) (value (σ s)) (fold_below σ' n d) ∙
          ap (λ r. op (value (σ s)) (op (value r) (fold_below σ' n d))) (sym (with_row-other σ s free_row n (λ q. e (sym q))))

  fold_none : (σ : Rows) (n : ℕ) (d : A) → ((s : ℕ) → (σ s).used ≡ true → ⊥) → fold_below σ n d ≡ d
  unfolding fold_below
  fold_none σ zero d h = refl
  fold_none σ (suc n) d h = free (σ n) (fold_below σ n d) (go (σ n).used refl) ∙ fold_none σ n d h
    where
      go : (b : Bool) → (σ n).used ≡ b → (σ n).used ≡ false
      go true e = absurd (h n e)
      go false e = e

  slots_same : (σ : Rows) (s : ℕ) (ss : List ℕ) (d : A) → (In s ss → ⊥) → fold_slots (with_row σ s free_row) ss d ≡ fold_slots σ ss d
  unfolding fold_slots
  slots_same σ s [] d h = refl
  slots_same σ s (x ∷ ss) d h = ap₂ (λ r a. op (value r) a) (with_row-other σ s free_row x (λ e. h (here (sym e))))
      (slots_same σ s ss d (λ i. h (there i)))

  pub fold_all : (ss : List ℕ) (σ : Rows) (d : A) → Distinct ss → ((s : ℕ) → In s ss → s < 64) → ((s : ℕ) → (σ s).used ≡ true → In s ss) →
      fold_below σ 64 d ≡ fold_slots σ ss d
  unfolding fold_slots
  fold_all [] σ d _ small whole = fold_none σ 64 d (λ s u. elim (whole s u) [ ])
  fold_all (s ∷ ss) σ d (distinct_put n r) small whole =
      fold_pull σ s 64 d (small s (here refl)) ∙
      ap (op (value (σ s))) (fold_all ss (with_row σ s free_row) d r (λ t i. small t (there i)) (λ t u. rest t u (ℕ_discrete t s)) ∙
      slots_same σ s ss d n)
    where
      two : (t : ℕ) → (t ≡ s → ⊥) → In t (s ∷ ss) → In t ss
      two t e (here q) = absurd (e q)
      two t e (there i) = i

      rest : (t : ℕ) → (with_row σ s free_row t).used ≡ true → Dec (t ≡ s) → In t ss
      rest t u (yes e) = bool_not (sym u ∙ ap (λ r. r.used) (ap (with_row σ s free_row) e ∙ with_row-same σ s free_row) ∙ free_used)
      rest t u (no e) = two t e (whole t (ap (λ r. r.used) (sym (with_row-other σ s free_row t e)) ∙ u))

  pub fold_append : (σ : Rows) (a b : List ℕ) (d : A) → fold_slots σ (a ++ b) d ≡ fold_slots σ a (fold_slots σ b d)
  unfolding fold_slots
  fold_append σ [] b d = refl
  fold_append σ (s ∷ a) b d = ap (op (value (σ s))) (fold_append σ a b d)

-- ── the number of slots in use ──────────────────────────────────────────────────────────────────
add_swap : (a b c : ℕ) → a + (b + c) ≡ b + (a + c)
add_swap a b c = omega arith

one_free : (r : Row) (a : ℕ) → r.used ≡ false → one r.used + a ≡ a
unfolding one
one_free r a e = rw e (omega arith)

used_fold : (σ : Rows) (n : ℕ) → used_below σ n ≡ fold_below ℕ ◌+◌ (λ r. one r.used) add_swap one_free σ n 0
unfolding used_below fold_below
used_fold σ zero = refl
used_fold σ (suc n) = ap (λ z. one (σ n).used + z) (used_fold σ n)

count_slots : (σ : Rows) (ss : List ℕ) → ((s : ℕ) → In s ss → (σ s).used ≡ true) →
    fold_slots ℕ ◌+◌ (λ r. one r.used) add_swap one_free σ ss 0 ≡ length ss
unfolding fold_slots one
count_slots σ [] h = refl
count_slots σ (s ∷ ss) h = ap₂ (λ a b. one a + b) (h s (here refl)) (count_slots σ ss (λ t i. h t (there i))) ∙ omega arith

pub used_count : (σ : Rows) (ss : List ℕ) → Distinct ss → ((s : ℕ) → In s ss → s < 64) → ((s : ℕ) → In s ss → (σ s).used ≡ true) →
    ((s : ℕ) → (σ s).used ≡ true → In s ss) → used_below σ 64 ≡ length ss
used_count σ ss d small sits whole = used_fold σ 64 ∙ fold_all ℕ ◌+◌ (λ r. one r.used) add_swap one_free ss σ 0 d small whole ∙
    count_slots σ ss sits

pub slots_live : (t : Tree) → length (slots_of t) ≡ live_in_forest (erase t)
unfolding slots_of erase live_in_forest
slots_live nil = refl
slots_live (put x k f) = ap suc (length-append (slots_of k) (slots_of f) ∙ ap₂ ◌+◌ (slots_live k) (slots_live f)) ∙ omega arith

-- ── the next moment due ─────────────────────────────────────────────────────────────────────────
unfoldable least_if : Bool → ℕ → ℕ → ℕ
least_if true a b = a
least_if false a b = b

abbrev least : ℕ → ℕ → ℕ
least a b = least_if (leb a b) a b

earlier_least : (a b : ℕ) → earlier (moment a) (moment b) ≡ moment (least a b)
unfolding earlier earlier_of least_if
earlier_least a b = go (leb a b)
  where
    go : (w : Bool) → earlier_of w a b ≡ moment (least_if w a b)
    go true = refl
    go false = refl

least_both : (a b : ℕ) → (least a b ≤ a) × (least a b ≤ b)
unfolding least_if
least_both a b = go (leb a b) refl
  where
    go : (w : Bool) → leb a b ≡ w → (least_if w a b ≤ a) × (least_if w a b ≤ b)
    go true e = (le_refl a, leb-true a b e)
    go false e = let h : b < a = leb-false a b e in (omega arith, le_refl b)

least_above : (m a b : ℕ) → m ≤ a → m ≤ b → m ≤ least a b
unfolding least_if
least_above m a b p q = go (leb a b)
  where
    go : (w : Bool) → m ≤ least_if w a b
    go true = p
    go false = q

least_swap : (a b c : ℕ) → least a (least b c) ≡ least b (least a c)
least_swap a b c = le_antisymm (below a b c) (below b a c)
  where
    below : (a b c : ℕ) → least a (least b c) ≤ least b (least a c)
    below a b c =
        let u = least_both a (least b c) in
        let v = least_both b c in
        least_above _ b (least a c) (le_trans u.1 v.0) (least_above _ a c u.0 (le_trans u.1 v.1))

least_assoc : (a b c : ℕ) → least (least a b) c ≡ least a (least b c)
least_assoc a b c =
    le_antisymm
    (let u = least_both (least a b) c in let v = least_both a b in least_above _ a (least b c) (le_trans u.0 v.0)
    (least_above _ b c (le_trans u.0 v.1) u.1))
    (let u = least_both a (least b c) in let v = least_both b c in least_above _ (least a b) c (least_above _ a b u.0 (le_trans u.1 v.0))
    (le_trans u.1 v.1))

earlier_never : (d : NextDue) → earlier d never ≡ d
unfolding earlier
earlier_never never = refl
earlier_never (moment a) = refl

never_earlier : (d : NextDue) → earlier never d ≡ d
unfolding earlier
never_earlier d = refl

earlier_swap : (a b c : NextDue) → earlier a (earlier b c) ≡ earlier b (earlier a c)
earlier_swap never b c = never_earlier (earlier b c) ∙ ap (earlier b) (sym (never_earlier c))
earlier_swap (moment a) never c = ap (earlier (moment a)) (never_earlier c) ∙ sym (never_earlier (earlier (moment a) c))
earlier_swap (moment a) (moment b) never =
    ap (earlier (moment a)) (earlier_never (moment b)) ∙ earlier_least a b ∙ ap moment (least_comm a b) ∙ sym (earlier_least b a) ∙
    ap (earlier (moment b)) (sym (earlier_never (moment a)))
  where
    least_comm : (a b : ℕ) → least a b ≡ least b a
    least_comm a b = le_antisymm (let u = least_both a b in least_above _ b a u.1 u.0)
        (let u = least_both b a in least_above _ a b u.1 u.0)
earlier_swap (moment a) (moment b) (moment c) =
    ap (earlier (moment a)) (earlier_least b c) ∙ earlier_least a (least b c) ∙ ap moment (least_swap a b c) ∙ sym (earlier_least b (least a c)) ∙
    ap (earlier (moment b)) (sym (earlier_least a c))

pub earlier_assoc : (a b c : NextDue) → earlier (earlier a b) c ≡ earlier a (earlier b c)
earlier_assoc never b c = ap (λ z. earlier z c) (never_earlier b) ∙ sym (never_earlier (earlier b c))
earlier_assoc (moment a) never c = ap (λ z. earlier z c) (earlier_never (moment a)) ∙ ap (earlier (moment a)) (sym (never_earlier c))
earlier_assoc (moment a) (moment b) never = earlier_never (earlier (moment a) (moment b)) ∙ ap (earlier (moment a)) (sym (earlier_never (moment b)))
earlier_assoc (moment a) (moment b) (moment c) =
    ap (λ z. earlier z (moment c)) (earlier_least a b) ∙ earlier_least (least a b) c ∙ ap moment (least_assoc a b c) ∙
    sym (earlier_least a (least b c)) ∙ ap (earlier (moment a)) (sym (earlier_least b c))

unfoldable due_of_row : Row → NextDue
due_of_row r = due_if r.used (due_of_variables r.own)

due_free : (r : Row) (d : NextDue) → r.used ≡ false → earlier (due_of_row r) d ≡ d
unfolding due_of_row due_if
due_free r d e = rw e (never_earlier d)

due_fold : (σ : Rows) (n : ℕ) (d : NextDue) → due_below σ n d ≡ fold_below NextDue earlier due_of_row earlier_swap due_free σ n d
unfolding due_below fold_below due_of_row
due_fold σ zero d = refl
due_fold σ (suc n) d = ap (earlier (due_if (σ n).used (due_of_variables (σ n).own))) (due_fold σ n d)

due_row : (z : Bool) (p : List Entry) (b n : ℕ) (x : Record) → due_of_row (row_for z p b n x) ≡ due_of_variables x.own
unfolding due_of_row row_for due_if
due_row z p b n x = refl

due_slots : {σ : Rows} {w : Bool} {p : List Entry} {b : ℕ} {t : Tree} (d : NextDue) → Held σ w p b t →
    fold_slots NextDue earlier due_of_row earlier_swap due_free σ (slots_of t) d ≡ earlier (due_of_forest (erase t)) d
unfolding fold_slots slots_of erase due_of_forest
due_slots d held_nil = sym (never_earlier d)
due_slots {σ} {w} {p} {b} d (held_put {x = x} {k = k} {f = f} z m e hk hf) =
    ap₂ earlier (ap due_of_row e ∙ due_row z p b _ x) (fold_append NextDue earlier due_of_row earlier_swap due_free σ (slots_of k) (slots_of f) d ∙
    due_slots _ hk ∙ ap (earlier (due_of_forest (erase k))) (due_slots d hf)) ∙
    sym (ap (λ y. earlier y d) (earlier_assoc (due_of_variables x.own) (due_of_forest (erase k)) (due_of_forest (erase f))) ∙
    earlier_assoc (due_of_variables x.own) (earlier (due_of_forest (erase k)) (due_of_forest (erase f))) d ∙
    ap (earlier (due_of_variables x.own)) (earlier_assoc (due_of_forest (erase k)) (due_of_forest (erase f)) d))

-- the rows' next moment due is the tree's, or the environment's
pub next_due_lem : {σ : Rows} {w : Bool} {p : List Entry} {b : ℕ} {t : Tree} (environment : List Variable) → Held σ w p b t → Distinct (slots_of t) →
    ((s : ℕ) → In s (slots_of t) → s < 64) → ((s : ℕ) → (σ s).used ≡ true → In s (slots_of t)) →
    next_due_of_rows σ environment ≡ earlier (due_of_variables environment) (due_of_forest (erase t))
unfolding next_due_of_rows
next_due_lem {σ} {t = t} environment h d small whole =
    due_fold σ 64 (due_of_variables environment) ∙ fold_all NextDue earlier due_of_row earlier_swap due_free (slots_of t) σ (due_of_variables environment) d
    small whole ∙ due_slots (due_of_variables environment) h ∙
    ap (earlier (due_of_forest (erase t))) (sym (earlier_never (due_of_variables environment))) ∙
    earlier_swap (due_of_forest (erase t)) (due_of_variables environment) never ∙
    ap (earlier (due_of_variables environment)) (earlier_never (due_of_forest (erase t)))
