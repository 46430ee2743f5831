-- The pass over the walking order may fill in every slot: at each the rows so far are the filled ones but for numbers of children, and slots that
-- are still to come are as they were.
-- Letters: t the table's words, σ rows, s and q slots, ss the slots still to come, l a level.
use mathlib.Core.Path.{◌≡◌, refl, sym, ap, subst, ◌∙◌}
use mathlib.Core.Bool.{true}
use mathlib.Core.List.{List, [], ◌∷◌}
use Prim.Native.Nat.{ℕ, zero, suc, ◌+◌, ◌*◌, ◌-◌, ◌^◌, ◌≤◌, ◌<◌}
use native.Mathlib.Nat.{le_refl, le_trans}
use native.Mathlib.Decide.{ℕ_discrete}
use native.Mathlib.Omega.{arith}
use lib.ListN.{length, get_or}
use borrow.Author.Tests.{eq-eqb, ne_eqb}
use Rattle.listing.specs.Listing.{Listing, Call, Instruction, assign, schedule, branch, jump, wait, fork, end}
use Rattle.walk.specs.State.{Variable}
use Rattle.walk.specs.Walk.{instruction_at, child_count}
use Rattle.walk.specs.Instant.{main_call}
use Rattle.table.specs.Decode.{names_of, size_of, table_listing}
use Rattle.engine_rows.specs.Rows.{Row, Rows, with_row, with_children}
use Rattle.engine_rows.specs.Engine.{caller_at}
use Rattle.engine_rows.specs.Beginning.{environment_caller}
use Rattle.engine_rows.specs.Records.{calls_of, no_call_lem, choose_slot, seen, calls_at, filled_row_lem, filled_at, filled_rows}
use Rattle.engine_rows.proofs.Sorted.{In, here, there}
use Rattle.engine_rows.proofs.Held.{with_row-same, with_row-other}
use Rattle.engine_rows.proofs.Folding.{Distinct, distinct_put}
use Rattle.engine_rows.proofs.Steady.{TableFits}
use Rattle.engine_rows.proofs.RowBounds.{RowBounds}
use Rattle.engine_evaluate.proofs.Standing.{table_names}
use Rattle.engine_new_rows.specs.NewRow.{MayDivide}
use Rattle.engine_fill_row.specs.Filling.{MayFillMain, MayFillChild, MayFill, fills_main, fills_child, Fillable, fillable_none, fillable_next}
use Rattle.engine_run_laws.specs.Placed.{GoesOn}
use Rattle.engine_begin_laws.proofs.Sitting.{Hangs, at_top, under, Sits}
use Rattle.engine_fork_bits.proofs.ForkBits.{fork_bits_are_at_most_three}

-- ── a row that only got more children ─────────────────────────────────────────────────────────────
pub record Grown (before after : Row) : Type 0 where
  pub same : with_children after 0 ≡ with_children before 0
  pub more : before.children ≤ after.children

grown_start : (r : Row) → Grown r r
grown_start r = record { same = refl; more = le_refl r.children }

grown_then : {a b c : Row} → Grown a b → Grown b c → Grown a c
grown_then p q = record { same = q.same ∙ p.same; more = le_trans p.more q.more }

grown_is : {a b : Row} → b ≡ a → Grown a b
grown_is {a} e = rw e (grown_start a)

grown_one : (r : Row) → Grown r (with_children r (suc r.children))
unfolding with_children
grown_one r = record { same = refl; more = omega arith }

pub record Fields (a b : Row) : Type 0 where
  pub used : b.used ≡ a.used
  pub level : b.level ≡ a.level
  pub parent : b.parent ≡ a.parent
  pub child : b.child ≡ a.child
  pub base : b.base ≡ a.base
  pub low : b.low ≡ a.low
  pub bits : b.bits ≡ a.bits
  pub routine : b.routine ≡ a.routine
  pub place : b.place ≡ a.place
  pub bindings : b.bindings ≡ a.bindings
  pub own : b.own ≡ a.own

fields : {a b : Row} → Grown a b → Fields a b
unfolding with_children
fields g =
    record {
      used = ap (λ (r : Row). r.used) g.same;
      level = ap (λ (r : Row). r.level) g.same;
      parent = ap (λ (r : Row). r.parent) g.same;
      child = ap (λ (r : Row). r.child) g.same;
      base = ap (λ (r : Row). r.base) g.same;
      low = ap (λ (r : Row). r.low) g.same;
      bits = ap (λ (r : Row). r.bits) g.same;
      routine = ap (λ (r : Row). r.routine) g.same;
      place = ap (λ (r : Row). r.place) g.same;
      bindings = ap (λ (r : Row). r.bindings) g.same;
      own = ap (λ (r : Row). r.own) g.same;
    }

-- ── one step ──────────────────────────────────────────────────────────────────────────────────────
module _ (listing : Listing) (environment : List Variable) where
  step_grown : (σ : Rows) (latest : ℕ → ℕ) (l s q : ℕ) → (q ≡ s → ⊥) → Grown (σ q) (filled_at listing σ environment latest l s q)
  unfolding filled_at
  step_grown σ latest zero s q ne = grown_is (with_row-other σ s _ q ne)
  step_grown σ latest (suc l) s q ne = go (ℕ_discrete q p)
    where
      p : ℕ
      p = latest l

      counted : Rows
      counted = with_row σ p (with_children (σ p) (suc (σ p).children))

      old : filled_at listing σ environment latest (suc l) s q ≡ counted q
      old = with_row-other counted s _ q ne

      go : Dec (q ≡ p) → Grown (σ q) (filled_at listing σ environment latest (suc l) s q)
      go (yes e) =
          let r : counted q ≡ with_children (σ q) (suc (σ q).children) =
          ap counted e ∙ (with_row-same σ p _ ∙ ap (λ z. with_children (σ z) (suc (σ z).children)) (sym e)) in
          grown_then (grown_one (σ q)) (grown_is (old ∙ r))
      go (no e) = grown_is (old ∙ with_row-other σ p _ q e)

  pub all_grown : (ss : List ℕ) (σ : Rows) (latest : ℕ → ℕ) (q : ℕ) → (In q ss → ⊥) → Grown (σ q) (filled_rows listing σ environment latest ss q)
  unfolding filled_rows
  all_grown [] σ latest q out = grown_start (σ q)
  all_grown (s ∷ ss) σ latest q out =
      grown_then (step_grown σ latest (σ s).level s q (λ e. out (here e))) (all_grown ss _ _ q (λ i. out (there i)))

  -- the filled row, by level
  record MainRow (x y : Row) : Type 0 where
    used : y.used ≡ true
    level : y.level ≡ 0
    child : y.child ≡ x.child
    place : y.place ≡ x.place
    routine : y.routine ≡ 0

  main_row_lem : (σ : Rows) (latest : ℕ → ℕ) (s : ℕ) → MainRow (σ s) (filled_at listing σ environment latest zero s s)
  unfolding filled_at filled_row_lem environment_caller main_call
  main_row_lem σ latest s =
      let e = with_row-same σ s (filled_row_lem listing (environment_caller listing environment) (main_call listing) (σ s) s) in
      record {
        used = ap (λ (r : Row). r.used) e;
        level = ap (λ (r : Row). r.level) e;
        child = ap (λ (r : Row). r.child) e;
        place = ap (λ (r : Row). r.place) e;
        routine = ap (λ (r : Row). r.routine) e;
      }

  record ChildRow (σ : Rows) (p s : ℕ) (y : Row) : Type 0 where
    used : y.used ≡ true
    level : y.level ≡ suc (σ p).level
    parent : y.parent ≡ p
    child : y.child ≡ (σ s).child
    place : y.place ≡ (σ s).place
    routine : y.routine ≡ (get_or (calls_at listing (σ p)) (σ s).child no_call_lem).callee

  child_row_lem : (σ : Rows) (latest : ℕ → ℕ) (l s : ℕ) → ChildRow σ (latest l) s (filled_at listing σ environment latest (suc l) s s)
  unfolding filled_at filled_row_lem caller_at
  child_row_lem σ latest l s =
      let p = latest l in
      let cs = calls_at listing (σ p) in
      let e = with_row-same (with_row σ p (with_children (σ p) (suc (σ p).children))) s
      (filled_row_lem listing (caller_at σ environment p (child_count cs)) (get_or cs (σ s).child no_call_lem) (σ s) s) in
      record {
        used = ap (λ (r : Row). r.used) e;
        level = ap (λ (r : Row). r.level) e;
        parent = ap (λ (r : Row). r.parent) e;
        child = ap (λ (r : Row). r.child) e;
        place = ap (λ (r : Row). r.place) e;
        routine = ap (λ (r : Row). r.routine) e;
      }

  step_used : (σ : Rows) (latest : ℕ → ℕ) (l s : ℕ) → (filled_at listing σ environment latest l s s).used ≡ true
  step_used σ latest zero s = (main_row_lem σ latest s).used
  step_used σ latest (suc l) s = (child_row_lem σ latest l s).used

-- ── the pass under way ────────────────────────────────────────────────────────────────────────────
-- The slot seen last of a level is none yet, or that of a routine of that level.
data Level (σ : Rows) (latest : ℕ → ℕ) (l : ℕ) : Type 0 where
  not_seen : latest l ≡ 64 → Level σ latest l
  at_level : (σ (latest l)).level ≡ l → Level σ latest l

calls_few : (listing : Listing) → TableFits listing → (r place : ℕ) (i : Instruction) → instruction_at listing r place ≡ i → child_count (calls_of i) ≤ 8
unfolding calls_of child_count
calls_few listing T r place (fork cs) e = (T.some r place cs e).1
calls_few listing T r place (assign n d) e = omega arith
calls_few listing T r place (schedule n d v) e = omega arith
calls_few listing T r place (branch d k) e = omega arith
calls_few listing T r place (jump k) e = omega arith
calls_few listing T r place (wait ns) e = omega arith
calls_few listing T r place end e = omega arith

calls_at_few : (listing : Listing) → TableFits listing → (x : Row) → child_count (calls_at listing x) ≤ 8
unfolding calls_at
calls_at_few listing T x = calls_few listing T x.routine x.place (instruction_at listing x.routine x.place) refl

calls_alike : (listing : Listing) (a b : Row) → b.routine ≡ a.routine → b.place ≡ a.place → calls_at listing b ≡ calls_at listing a
unfolding calls_at
calls_alike listing a b e f = rw (e, f)

module _ (t : List ℕ) (environment : List Variable) (fin : Rows) (T : TableFits (table_listing t))
    (sits : (q : ℕ) → (fin q).used ≡ true → Sits (table_listing t) fin environment q)
    (bounds : (q : ℕ) → (fin q).used ≡ true → RowBounds (table_listing t) (fin q)) (on : (q : ℕ) → (fin q).used ≡ true → GoesOn t (fin q)) where
  abbrev listing : Listing
  listing = table_listing t

  record Underway (σ : Rows) (latest : ℕ → ℕ) (ss : List ℕ) : Type 0 where
    distinct : Distinct ss
    ends : filled_rows listing σ environment latest ss ≡ fin
    live : (q : ℕ) → In q ss → (σ q).used ≡ true
    unseen : (l : ℕ) → In (latest l) ss → ⊥
    levels : (l : ℕ) → Level σ latest l

  head_out : {s : ℕ} {ss : List ℕ} → Distinct (s ∷ ss) → In s ss → ⊥
  head_out (distinct_put n d) = n

  tail_distinct : {s : ℕ} {ss : List ℕ} → Distinct (s ∷ ss) → Distinct ss
  tail_distinct (distinct_put n d) = d

  module _ (σ : Rows) (latest : ℕ → ℕ) (s : ℕ) (ss : List ℕ) (U : Underway σ latest (s ∷ ss)) where
    head_grown : Grown (filled_at listing σ environment latest (σ s).level s s) (fin s)
    unfolding filled_rows
    head_grown = subst (λ (f : Rows). Grown (filled_at listing σ environment latest (σ s).level s s) (f s)) U.ends
        (all_grown listing environment ss _ _ s (head_out U.distinct))

    seen_grown : (l : ℕ) → Grown (σ (latest l)) (fin (latest l))
    seen_grown l = subst (λ (f : Rows). Grown (σ (latest l)) (f (latest l))) U.ends (all_grown listing environment (s ∷ ss) σ latest (latest l) (U.unseen l))

    may_main : (σ s).level ≡ 0 → Grown (filled_at listing σ environment latest zero s s) (fin s) → MayFillMain t σ s
    may_main e g =
        let m = main_row_lem listing environment σ latest s in
        let F = fields g in
        let used = F.used ∙ m.used in
        let S = sits s used in
        record {
          slot = S.slot;
          live = U.live s (here refl);
          level = e;
          child = top S.hangs m F;
          place = subst (λ (r : ℕ). (σ s).place < size_of t r) (F.routine ∙ m.routine)
              (let h = (on s used).next in let p = F.place ∙ m.place in omega arith);
        }
      where
        top : Hangs listing fin s → MainRow listing environment (σ s) (filled_at listing σ environment latest zero s s) →
            Fields (filled_at listing σ environment latest zero s s) (fin s) → (σ s).child ≡ 0
        top (at_top level child) m F = sym m.child ∙ (sym F.child ∙ child)
        top (under q small parent used level child) m F = absurd (let a = F.level in let b = m.level in omega arith)

    -- the routine one level up is filled in, and hangs above
    record Up (l : ℕ) : Type 0 where
      small : latest l < 64
      used : (fin (latest l)).used ≡ true
      level : (fin s).level ≡ suc (fin (latest l)).level
      child : (fin s).child < child_count (calls_at listing (fin (latest l)))

    up : (l : ℕ) → Grown (filled_at listing σ environment latest (suc l) s s) (fin s) → Up l
    up l g = go (sits s ((fields g).used ∙ (child_row_lem listing environment σ latest l s).used)).hangs (child_row_lem listing environment σ latest l s) (fields g)
      where
        go : Hangs listing fin s → ChildRow listing environment σ (latest l) s (filled_at listing σ environment latest (suc l) s s) →
            Fields (filled_at listing σ environment latest (suc l) s s) (fin s) → Up l
        go (at_top level child) m F = absurd (let a = F.level in let b = m.level in omega arith)
        go (under q small parent used level child) m F =
            let e : latest l ≡ q = sym m.parent ∙ (sym F.parent ∙ parent) in
            record {
              small = rw e small;
              used = rw e used;
              level = rw e level;
              child = rw e child;
            }

    level_of : (l : ℕ) → latest l < 64 → (σ (latest l)).level ≡ l
    level_of l small = go (U.levels l)
      where
        go : Level σ latest l → (σ (latest l)).level ≡ l
        go (not_seen e) = absurd (omega (arith, e, small))
        go (at_level e) = e

    may_child : (l : ℕ) → (σ s).level ≡ suc l → Grown (filled_at listing σ environment latest (suc l) s s) (fin s) → MayFillChild t σ (latest l) s
    may_child l e g =
        let p = latest l in
        let m = child_row_lem listing environment σ latest l s in
        let F = fields g in
        let used = F.used ∙ m.used in
        let A = up l g in
        let G = fields (seen_grown l) in
        let P = sits p A.used in
        let deep = (bounds s used).deepest in
        let at = level_of l A.small in
        let calls : calls_at listing (fin p) ≡ calls_at listing (σ p) = calls_alike listing (σ p) (fin p) G.routine G.place in
        let numbered = subst (λ (i : ℕ). i < child_count (calls_at listing (σ p))) (F.child ∙ m.child) (subst (λ (cs : List Call). (fin s).child < child_count cs) calls A.child) in
        record {
          slot = (sits s used).slot;
          parent = A.small;
          apart = λ q. U.unseen l (here q);
          live = U.live s (here refl);
          live_parent = sym G.used ∙ A.used;
          level = e ∙ ap suc (sym at);
          names = ap length (sym G.bindings) ∙ ((bounds p A.used).names ∙ (table_names t (fin p).routine (on p A.used).routine ∙ ap (names_of t) G.routine));
          numbered = numbered;
          divides = divided l p (omega (arith, numbered)) A.level G.level at deep P A.used G;
          children = le_trans (omega (arith, (seen_grown l).more)) P.children;
          place = subst (λ (r : ℕ). (σ s).place < size_of t r) (F.routine ∙ m.routine)
              (let h = (on s used).next in let q = F.place ∙ m.place in omega arith);
        }
      where
        divided : (l p : ℕ) → 1 ≤ child_count (calls_at listing (σ p)) → (fin s).level ≡ suc (fin p).level → (fin p).level ≡ (σ p).level → (σ p).level ≡ l → (fin s).level ≤ 10 →
            Sits listing fin environment p → (fin p).used ≡ true → Fields (σ p) (fin p) → MayDivide σ p (child_count (calls_at listing (σ p)))
        divided l p some up same at deep P used G =
            let three = fork_bits_are_at_most_three (child_count (calls_at listing (σ p))) in
            let b = subst (λ (n : ℕ). n + length (fin p).own ≤ 16 * ((fin p).level + 2)) G.base P.base in
            let c = subst (λ (o : List Variable). (σ p).base + length o ≤ 16 * ((fin p).level + 2)) G.own b in
            let d = subst (λ (n : ℕ). 32 ≤ n + 3 * (fin p).level) G.bits P.bits in
            let r = subst (λ (n : ℕ). n + 2 ^ (fin p).bits ≤ 4294967296) G.low P.range in
            record {
              level = omega arith;
              base = omega arith;
              some = some;
              most = calls_at_few listing T (σ p);
              bits = omega arith;
              range = subst (λ (n : ℕ). (σ p).low + 2 ^ n ≤ 4294967296) G.bits r;
            }

    may_fill : (l : ℕ) → (σ s).level ≡ l → Grown (filled_at listing σ environment latest l s s) (fin s) → MayFill t σ latest l s
    may_fill zero e g = fills_main (may_main e g)
    may_fill (suc l) e g =
        let A = up l g in
        let F = fields g in
        let m = child_row_lem listing environment σ latest l s in
        let deep = (bounds s (F.used ∙ m.used)).deepest in
        let at = level_of l A.small in
        let a = F.level in
        let b = m.level in
        fills_child {level = l} (omega arith) (may_child l e g)

    -- the slot's level is what it was
    level_filled : (l : ℕ) → (σ s).level ≡ l → Grown (filled_at listing σ environment latest l s s) (fin s) →
        (filled_at listing σ environment latest l s s).level ≡ l
    level_filled zero e g = (main_row_lem listing environment σ latest s).level
    level_filled (suc l) e g = (child_row_lem listing environment σ latest l s).level ∙ ap suc (level_of l (up l g).small)

    -- what holds after the step
    σ₁ : Rows
    σ₁ = filled_at listing σ environment latest (σ s).level s

    σ₁-level : (q : ℕ) → (q ≡ s → ⊥) → (σ₁ q).level ≡ (σ q).level
    unfolding σ₁
    σ₁-level q ne = (fields (step_grown listing environment σ latest (σ s).level s q ne)).level

    not_s : (l : ℕ) → latest l ≡ s → ⊥
    not_s l e = U.unseen l (here e)

    next_unseen : (l : ℕ) → Dec (l ≡ (σ s).level) → In (seen latest (σ s).level s l) ss → ⊥
    unfolding seen choose_slot
    next_unseen l (yes e) i = head_out U.distinct (rw (eq-eqb l (σ s).level e) at i)
    next_unseen l (no e) i = U.unseen l (there (rw (ne_eqb l (σ s).level e) at i))

    next_level : (l : ℕ) → Dec (l ≡ (σ s).level) → Level σ₁ (seen latest (σ s).level s) l
    unfolding seen choose_slot σ₁
    next_level l (yes e) = at_level (rw (eq-eqb l (σ s).level e) (level_filled (σ s).level refl head_grown ∙ sym e))
    next_level l (no e) = go (U.levels l)
      where
        go : Level σ latest l → Level σ₁ (seen latest (σ s).level s) l
        go (not_seen f) = not_seen (rw (ne_eqb l (σ s).level e) f)
        go (at_level f) = at_level (rw (ne_eqb l (σ s).level e) (σ₁-level (latest l) (not_s l) ∙ f))

    next_underway : Underway σ₁ (seen latest (σ s).level s) ss
    unfolding σ₁ filled_rows
    next_underway = record {
      distinct = tail_distinct U.distinct;
      ends = U.ends;
      live = λ q i. (fields (step_grown listing environment σ latest (σ s).level s q (λ e. head_out U.distinct (subst (λ z. In z ss) e i)))).used ∙ U.live q (there i);
      unseen = λ l. next_unseen l (ℕ_discrete l (σ s).level);
      levels = λ l. next_level l (ℕ_discrete l (σ s).level);
    }

  passable : (ss : List ℕ) (σ : Rows) (latest : ℕ → ℕ) → Underway σ latest ss → Fillable t environment σ latest ss
  unfolding σ₁
  passable [] σ latest U = fillable_none
  passable (s ∷ ss) σ latest U =
      fillable_next (may_fill σ latest s ss U (σ s).level refl (head_grown σ latest s ss U)) (passable ss _ _ (next_underway σ latest s ss U))

  -- The whole pass, over rows in use at distinct slots below 64.
  pub fillable_all : (ss : List ℕ) (σ : Rows) → Distinct ss → ((q : ℕ) → In q ss → q < 64) → ((q : ℕ) → In q ss → (σ q).used ≡ true) →
      filled_rows listing σ environment (λ level. 64) ss ≡ fin → Fillable t environment σ (λ level. 64) ss
  fillable_all ss σ d small live e = passable ss σ (λ level. 64) (record {
    distinct = d;
    ends = e;
    live = live;
    unseen = λ l i. let h : 64 < 64 = small 64 i in omega arith;
    levels = λ l. not_seen refl;
  })
