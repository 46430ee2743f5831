-- The path after a record: asleep at a `W`, or at an `F` whose children come next.
use mathlib.Core.Path.{◌≡◌, refl, sym, ap, subst, ◌∙◌}
use mathlib.Core.Bool.{true, false, not}
use mathlib.Core.List.{List, [], ◌∷◌}
use Prim.Native.Nat.{ℕ, zero, suc, ◌+◌, ◌-◌, ◌<◌, ◌≤◌}
use lib.ListN.{length, get_or, set, replicate, length-set}
use lib.Seq.{get_or-set_same, get_or-set_other}
use Rattle.std.proofs.Common.{Option, Some, None}
use Rattle.table_child_fields.proofs.PickLaws.{none_is_no}
use borrow.Author.Tests.{le-leb, lt-leb, eq-eqb, ne_eqb}
use native.Mathlib.Omega.{arith}
use native.Mathlib.Numerals.{add-one}
use Rattle.walk.specs.Instant.{main_call}
use Rattle.walk.specs.Question7.{owned_by}
use Rattle.table.specs.Decode.{head_after, word, calls_at, table_listing}
use Rattle.machine.specs.Records.{asleep_at, scan, records_pass, main_frame, no_call_lem}
use Rattle.machine.specs.Words.{records_in}
use Rattle.table_child_fields.specs.Tables.{TableBounds, HeadsFit, Seen, at_wait, at_fork, at_other, line_at}
use Rattle.table_child_fields.specs.declared.pick.Maker.{Maker}
use Rattle.table_read.specs.declared.Entry.{Entry}
use Rattle.machine_check_paths.specs.Scan.{whole, no_fields, fields_at, record_of, Ready, Heads, Stack, bottom, above, Going, Caller, Stepped}
use Rattle.machine_check_paths.specs.Scan.{maker_for, entered_path, pushed_path, path_at, settled_path, path_by, stepped_path}
use Rattle.machine_check_paths.specs.declared.path.Path.{Path}
use Rattle.machine_check_paths.proofs.ScanLaws.{Agree, keep, fork_heads, asleep_law}

-- ── the path, field by field ──────────────────────────────────────────────────────────────────────
pub record Entered (p : Path) (level child after rest : ℕ) (q : Path) : Type 0 where
  pub forked : q.forked ≡ false
  pub depth : q.depth ≡ level + 1
  pub levels : q.levels ≡ set p.levels level (record { next = child + 1; head = after; left = rest })

pub record Pushed (p : Path) (level cells count : ℕ) (q : Path) : Type 0 where
  pub forked : q.forked ≡ true
  pub depth : q.depth ≡ level + 2
  pub levels : q.levels ≡ set p.levels (level + 1) (record { next = 0; head = cells; left = count })

pub entered_fields : (p q : Path) (level child after rest l n : ℕ) → level ≡ l → child ≡ n → q ≡ entered_path p level child after rest → Entered p l n after rest q
entered_fields p q level child after rest l n a b e =
    let f : q ≡ entered_path p l n after rest = rw (a, b) at e in
    record {
      forked = ap (λ x. x.forked) f;
      depth = ap (λ x. x.depth) f;
      levels = ap (λ x. x.levels) f;
    }

pub pushed_fields : (p q : Path) (level cells count l : ℕ) → level ≡ l → q ≡ pushed_path p level cells count → Pushed p l cells count q
pushed_fields p q level cells count l a e =
    let f : q ≡ pushed_path p l cells count = rw a at e in
    record {
      forked = ap (λ x. x.forked) f;
      depth = ap (λ x. x.depth) f;
      levels = ap (λ x. x.levels) f;
    }

-- ── the path by its cases ─────────────────────────────────────────────────────────────────────────
module _ (q : Path) (level : ℕ) (line : Entry) where
  pub at_wait_path : line.kind ≡ 5 → Some q ≡ path_at q level line
  unfolding path_at
  at_wait_path h = rw (eq-eqb _ _ h)

  pub at_other_path : (line.kind ≡ 5 → ⊥) → (line.kind ≡ 6 → ⊥) → None ≡ path_at q level line
  unfolding path_at
  at_other_path g h = rw (ne_eqb _ _ g, ne_eqb _ _ h)

  pub at_deep_path : line.kind ≡ 6 → 9 < level → None ≡ path_at q level line
  unfolding path_at
  at_deep_path h l = rw (h, lt-leb _ _ l)

  pub at_fork_path : line.kind ≡ 6 → level ≤ 9 → Some (pushed_path q level line.cells line.first) ≡ path_at q level line
  unfolding path_at
  at_fork_path h l = rw (h, le-leb _ _ l)

module _ (w m : List ℕ) (k : ℕ) (p : Path) where
  pub unmade_path : None ≡ maker_for w m k p → None ≡ stepped_path w m k p
  unfolding path_by
  unmade_path is = rw (← is)

module _ (w m : List ℕ) (k : ℕ) (p : Path) (made : Maker) where
  pub settled_as : (level child place : ℕ) (q : Path) (line : Entry) → level ≡ (record_of m k).level → child ≡ (record_of m k).child →
      place ≡ (record_of m k).place → q ≡ entered_path p level child made.head made.left → line ≡ line_at w made.routine place →
      path_at q level line ≡ settled_path w m k p made
  settled_as level child place q line a b c e f = rw (f, e, a, b, c)

  module _ (is : Some made ≡ maker_for w m k p) where
    pub wrong_size_path : (length (record_of m k).own ≡ owned_by (table_listing w) made.routine → ⊥) → None ≡ stepped_path w m k p
    unfolding path_by
    wrong_size_path h = rw (← is, ne_eqb _ _ h)

    pub right_size_path : length (record_of m k).own ≡ owned_by (table_listing w) made.routine → settled_path w m k p made ≡ stepped_path w m k p
    unfolding path_by
    right_size_path h = rw (← is, eq-eqb _ _ h)

-- ── where the scan has come to ────────────────────────────────────────────────────────────────────
pub refused_step : (w m : List ℕ) (k : ℕ) (r : Option Path) → r ≡ None → whole w m ≡ false → Stepped w m k r
refused_step w m k r e h = record { bad = λ z. h; good = λ q z. none_is_no (sym e ∙ z) }

good_step : (w m : List ℕ) (k : ℕ) (q : Path) → Going w m k q → Stepped w m k (Some q)
good_step w m k q G = record {
  bad = λ z. none_is_no (sym z);
  good = λ p z. let e : q ≡ p = cc in subst (λ (x : Path). Going w m k x) e G;
}

module _ (w m : List ℕ) (k : ℕ) (p : Path) (routine head left : ℕ) (within : k < get_or m 3 0) (R : Ready w m) (G : Going w m k p) (C : Caller w m k p routine head left)
    (size : length (record_of m k).own ≡ owned_by (table_listing w) routine) (q : Path) (E : Entered p (record_of m k).level (record_of m k).child head left q) where
  -- the record's frame on a path that agrees with q up to its level
  entered_stack : (r : Path) → ((i : ℕ) → i < suc (record_of m k).level → Agree r q i) →
      Stack w r (record { next = suc (record_of m k).child; calls = C.later } ∷ C.outer)
  entered_stack r f =
      let l = (record_of m k).level in
      let s : l < length p.levels = omega (arith, G.levels, C.shallow) in
      let is : fields_at r l ≡ record { next = (record_of m k).child + 1; head = head; left = left } =
      f l (omega arith) ∙ ap (λ u. get_or u l no_fields) E.levels ∙ get_or-set_same p.levels l _ no_fields s in
      let n : (fields_at r l).next ≡ suc (record_of m k).child = ap (λ u. u.next) is ∙ add-one _ in
      let h : (fields_at r l).head ≡ head = ap (λ u. u.head) is in
      let t : (fields_at r l).left ≡ left = ap (λ u. u.left) is in
      above {f = record { next = suc (record_of m k).child; calls = C.later }} {outer = C.outer}
      (rw (C.deep, h, t) C.heads) (rw C.deep (sym n))
      (keep w p r l (λ i b'. below r f i b') C.outer (omega (arith, C.deep)) C.stack)
    where
      below : (r : Path) → ((i : ℕ) → i < suc (record_of m k).level → Agree r q i) →
          (i : ℕ) → i < (record_of m k).level → Agree r p i
      below r f i h =
          let l = (record_of m k).level in
          f i (omega arith) ∙ ap (λ u. get_or u i no_fields) E.levels ∙ get_or-set_other p.levels l i _ no_fields (λ z. omega arith)

  levels : length q.levels ≡ 11
  levels = ap length E.levels ∙ simp length-set G.levels

  pub waiting_step : (kind cells count : ℕ) → kind ≡ 5 → Seen w routine (record_of m k).place kind cells count → Stepped w m (k + 1) (Some q)
  unfolding asleep_at
  waiting_step kind cells count g (at_wait e i) =
      good_step w m (k + 1) q (record {
        frames = record { next = suc (record_of m k).child; calls = C.later } ∷ C.outer;
        depth = omega (arith, E.depth, C.deep);
        room = omega (arith, E.depth, C.shallow);
        levels = levels;
        stack = entered_stack q (λ j l. refl);
        law = rw E.forked (rw i at (asleep_law w m k p routine head left within R G C size));
      })
  waiting_step kind cells count g (at_fork e i h) = absurd (let z : ⊥ = omega arith in z)
  waiting_step kind cells count g (at_other a b h) = absurd (a g)

  module _ (r : Path) (cells count : ℕ) (P : Pushed q (record_of m k).level cells count r) (low : (record_of m k).level ≤ 9) where
    pushed_below : (i : ℕ) → i < suc (record_of m k).level → Agree r q i
    pushed_below i h =
        let l = (record_of m k).level + 1 in
        ap (λ u. get_or u i no_fields) P.levels ∙ get_or-set_other q.levels l i _ no_fields (λ z. omega arith)

    pushed_stack : HeadsFit w cells count → Stack w r (record { next = 0; calls = calls_at w cells count } ∷ record { next = suc (record_of m k).child; calls = C.later } ∷ C.outer)
    pushed_stack f =
        let l = (record_of m k).level + 1 in
        let z : suc (length C.outer) ≡ l = omega (arith, C.deep) in
        let is : fields_at r l ≡ record { next = 0; head = cells; left = count } =
        ap (λ u. get_or u l no_fields) P.levels ∙ get_or-set_same q.levels l _ no_fields (omega (arith, levels)) in
        let n : (fields_at r l).next ≡ 0 = ap (λ u. u.next) is in
        let h : (fields_at r l).head ≡ cells = ap (λ u. u.head) is in
        let t : (fields_at r l).left ≡ count = ap (λ u. u.left) is in
        above {f = record { next = 0; calls = calls_at w cells count }} {outer = record { next = suc (record_of m k).child; calls = C.later } ∷ C.outer}
        (rw (z, h, t) (fork_heads w cells count f)) (rw z (sym n)) (entered_stack r pushed_below)

    pub forking_step : (kind : ℕ) → kind ≡ 6 → Seen w routine (record_of m k).place kind cells count → Stepped w m (k + 1) (Some r)
    unfolding asleep_at
    forking_step kind g (at_wait e i) = absurd (let z : ⊥ = omega arith in z)
    forking_step kind g (at_fork e i f) =
        good_step w m (k + 1) r (record {
          frames = record { next = 0; calls = calls_at w cells count } ∷ record { next = suc (record_of m k).child; calls = C.later } ∷ C.outer;
          depth = omega (arith, P.depth, C.deep);
          room = omega (arith, P.depth);
          levels = ap length P.levels ∙ simp length-set levels;
          stack = pushed_stack f;
          law = rw P.forked (rw (i, le-leb _ _ low) at (asleep_law w m k p routine head left within R G C size));
        })
    forking_step kind g (at_other a b h) = absurd (b g)

-- ── the beginning and the end ─────────────────────────────────────────────────────────────────────
pub scan_begins : (w m : List ℕ) (p : Path) → TableBounds w → p.forked ≡ false → p.depth ≡ 1 → p.levels ≡ replicate 11 (record { next = 0; head = 3; left = 1 }) → Going w m 0 p
unfolding records_pass main_frame main_call head_after
scan_begins w m p T f d l = record {
  frames = main_frame (table_listing w) ∷ [];
  depth = d;
  room = omega arith;
  levels = ap length l;
  stack = above {f = main_frame (table_listing w)} {outer = []} (rw l main_heads) (rw l next_main) bottom;
  law = let q : get_or m 3 0 - 0 ≡ get_or m 3 0 = omega arith in rw (q, f);
}
  where
    first : (j : ℕ) → j < 1 → (get_or (main_call (table_listing w) ∷ []) j no_call_lem).callee ≡ word w (head_after w 3 j + 1)
    first zero h = sym T.main
    first (suc j) h = absurd (let z : ⊥ = omega arith in z)

    inside : (j : ℕ) → j < 1 → head_after w 3 j + 1 < 12288
    inside zero h = omega arith
    inside (suc j) h = absurd (let z : ⊥ = omega arith in z)

    there : (j : ℕ) → j < 1 → word w (head_after w 3 j + 1) < word w 2
    there zero h = rw T.main T.some
    there (suc j) h = absurd (let z : ⊥ = omega arith in z)

    main_heads : Heads w (main_frame (table_listing w)).calls 3 1
    main_heads = record { size = refl; callee = first; fit = record { inside = inside; there = there } }

    next_main : (main_frame (table_listing w)).next ≡ 0
    next_main = refl

pub scan_ends : (w m : List ℕ) (k : ℕ) (p : Path) → get_or m 3 0 ≤ k → Going w m k p → not p.forked ≡ whole w m
unfolding scan records_in
scan_ends w m k p h G = let q : get_or m 3 0 - k ≡ 0 = omega arith in rw q at G.law
