-- The pass at the beginning of a call fills in the rows of a tree, one after the other in walking order.
-- Letters: y the parent, σ₀ the kept rows, s slots; the others as in Place and Held.
use mathlib.Core.Path.{◌≡◌, refl, sym, ap, ap₂, subst, ◌∙◌}
use mathlib.Core.Bool.{Bool, true, false, ◌&&◌, not}
use mathlib.Core.List.{List, [], ◌∷◌, ◌++◌, append_assoc}
use Prim.Native.Nat.{ℕ, zero, suc, ◌+◌, ◌*◌, ◌^◌, ◌≤◌, ◌<◌}
use native.Mathlib.Nat.{add-zero, zero-add, add-suc, suc-add}
use native.Mathlib.Omega.{arith}
use lib.ListN.{length, get_or}
use borrow.Author.Tests.{eq-eqb, ne_eqb}
use Rattle.listing.specs.Listing.{Listing, Call, Instruction, assign, schedule, branch, jump, wait, fork, end}
use Rattle.walk.specs.State.{Variable}
use Rattle.walk.specs.Memory.{address_of, addresses_of, bind_names}
use Rattle.walk.specs.Walk.{routine_at, instruction_at, child_count}
use Rattle.walk.specs.Question7.{bound_names}
use Rattle.engine_rows.specs.Rows.{Owner, Row, Rows, with_row, with_children, named}
use Rattle.engine_rows.specs.Engine.{child_bindings, Caller, caller_at}
use Rattle.engine_rows.specs.Records.{is_wait, calls_of, no_call_lem, choose_slot, seen, calls_at, filled_row_lem, filled_at, filled_rows}
use Rattle.engine_rows.proofs.Place.{Record, Tree, nil, put, Rests, rests_nil, rests_wait, rests_join}
use Rattle.engine_rows.proofs.Sorted.{In, here, there, in_left, in_right}
use Rattle.engine_rows.proofs.Held.{Entry, owners_at, parent_slot, root_count, row_for, is_leaf, Held, held_nil, held_put, with_row-same, with_row-other}
use Rattle.engine_rows.proofs.Kept.{slots_of}
use Rattle.engine_rows.proofs.Children.{Passed, bind_same}
use Rattle.engine_rows.proofs.Steady.{name_count, CallsFit, calls_nil, calls_put, TableFits, above_of, SteadyRecord, Steady, steady_put}
use Rattle.engine_rows.proofs.Folding.{Distinct, distinct_nil, distinct_put}

-- ── lists of distinct slots ─────────────────────────────────────────────────────────────────────
pub distinct_left : (a b : List ℕ) → Distinct (a ++ b) → Distinct a
distinct_left [] b d = distinct_nil
distinct_left (s ∷ a) b (distinct_put n d) = distinct_put (λ i. n (in_left a b i)) (distinct_left a b d)

pub distinct_right : (a b : List ℕ) → Distinct (a ++ b) → Distinct b
distinct_right [] b d = d
distinct_right (s ∷ a) b (distinct_put n d) = distinct_right a b d

pub distinct_apart : (a b : List ℕ) (s : ℕ) → Distinct (a ++ b) → In s a → In s b → ⊥
distinct_apart (x ∷ a) b s (distinct_put n d) (here e) j = n (in_right a b (subst (λ z. In z b) e j))
distinct_apart (x ∷ a) b s (distinct_put n d) (there i) j = distinct_apart a b s d i j
distinct_apart [] b s _ x4 j = elim x4 [ ]

-- a tree keeps its rows where its slots keep theirs
pub held_same : {σ : Rows} (σ' : Rows) {d : Bool} {p : List Entry} {b : ℕ} {t : Tree} → ((s : ℕ) → In s (slots_of t) → σ' s ≡ σ s) → Held σ d p b t →
    Held σ' d p b t
unfolding slots_of
held_same σ' h held_nil = held_nil
held_same σ' h (held_put {x = x} {k = k} {f = f} z m e hk hf) =
    held_put z m (h x.slot (here refl) ∙ e) (held_same σ' (λ s i. h s (there (in_left (slots_of k) (slots_of f) i))) hk)
    (held_same σ' (λ s i. h s (there (in_right (slots_of k) (slots_of f) i))) hf)

-- ── the kept rows of a tree ─────────────────────────────────────────────────────────────────────
pub record KeptRow (σ : Rows) (depth : ℕ) (x : Record) : Type 0 where
  pub level : (σ x.slot).level ≡ depth
  pub child : (σ x.slot).child ≡ x.child
  pub place : (σ x.slot).place ≡ x.place
  pub own : (σ x.slot).own ≡ x.own

pub data KeptRows (σ : Rows) : ℕ → Tree → Type 0 where
  kept_nil : {level : ℕ} → KeptRows σ level nil
  kept_put : {level : ℕ} {x : Record} {k f : Tree} → KeptRow σ level x → KeptRows σ (suc level) k → KeptRows σ level f → KeptRows σ level (put x k f)

unfoldable pub mark_of : Listing → Record → Bool
mark_of listing x = is_wait (instruction_at listing x.routine x.place)

-- ── one row ─────────────────────────────────────────────────────────────────────────────────────
-- the row of a routine that child field c of a caller on path P made
pub filled_row : (listing : Listing) (P : List Entry) (names : List ℕ) (base low bits : ℕ) (name : ℕ → Variable) (c : Call) (x : Record) (r : Row) →
    ((n : ℕ) → n < length names → address_of names n < base) → Passed (length names) (routine_at listing c.callee).kinds c.arguments →
    x.routine ≡ c.callee → x.names ≡ bound_names listing base names c → x.low ≡ low + x.child * 2 ^ bits → x.bits ≡ bits → r.child ≡ x.child →
    r.place ≡ x.place → r.own ≡ x.own →
    filled_row_lem listing (record {
      slot = parent_slot P;
      level = length P;
      base = base;
      low = low;
      bits = bits;
      bindings = owners_at P names;
      name = name;
    }) c r x.slot ≡ row_for (mark_of listing x) P base 0 x
unfolding filled_row_lem row_for mark_of bound_names
filled_row listing P names base low bits name c x r near fit e₁ e₂ e₃ e₄ e₅ e₆ e₇ =
    rw (e₁, e₂, e₃, e₄, e₅, e₆, e₇, ← bound)
  where
    q : List Owner
    q = child_bindings (routine_at listing c.callee).kinds c.arguments (routine_at listing c.callee).locals (owners_at P names) x.slot 0

    bound : q ≡ owners_at (record { slot = x.slot; base = base } ∷ P)
        (bind_names (routine_at listing c.callee).kinds (addresses_of names c.arguments) (routine_at listing c.callee).locals base)
    bound = sym (bind_same x.slot base P names near (routine_at listing c.callee).kinds c.arguments
        (routine_at listing c.callee).locals 0 fit) ∙
        ap (λ z. owners_at (record { slot = x.slot; base = base } ∷ P)
        (bind_names (routine_at listing c.callee).kinds (addresses_of names c.arguments) (routine_at listing c.callee).locals z))
        (add-zero base)

pub calls_fit : (listing : Listing) (n : ℕ) (cs : List Call) (i : ℕ) → CallsFit listing n cs → i < child_count cs →
    Passed n (routine_at listing (get_or cs i no_call_lem).callee).kinds (get_or cs i no_call_lem).arguments
unfolding child_count
calls_fit listing n _ i calls_nil h = absurd (omega arith)
calls_fit listing n _ zero (calls_put g r) h = g
calls_fit listing n _ (suc i) (calls_put {cs = cs} g r) h = calls_fit listing n cs i r (omega arith)

pub seen_same : (latest : ℕ → ℕ) (level s : ℕ) → seen latest level s level ≡ s
unfolding seen choose_slot
seen_same latest level s = rw (eq-eqb level level refl)

seen_other : (latest : ℕ → ℕ) (level s n : ℕ) → (n ≡ level → ⊥) → seen latest level s n ≡ latest n
unfolding seen choose_slot
seen_other latest level s n h = rw (ne_eqb n level h)

children_of : (z : Bool) (p : List Entry) (b n : ℕ) (x : Record) →
    with_children (row_for z p b n x) (suc (row_for z p b n x).children) ≡ row_for z p b (suc n) x
unfolding with_children row_for
children_of z p b n x = refl

calls_of_lem : (listing : Listing) (z : Bool) (p : List Entry) (b n : ℕ) (x : Record) → calls_at listing (row_for z p b n x) ≡ (above_of listing x).calls
unfolding calls_at row_for above_of
calls_of_lem listing z p b n x = refl

-- The routine of record y as a caller, at path p with its own variables from address b on.
abbrev caller_below : Listing → List Entry → ℕ → Record → (ℕ → Variable) → Caller
caller_below listing p b y name =
    record {
      slot = y.slot;
      level = suc (length p);
      base = b + length y.own;
      low = (above_of listing y).low;
      bits = (above_of listing y).bits;
      bindings = owners_at (record { slot = y.slot; base = b } ∷ p) y.names;
      name = name;
    }

caller_of : (listing : Listing) (z : Bool) (p : List Entry) (b n : ℕ) (y : Record) (σ : Rows) (environment : List Variable) →
    σ y.slot ≡ row_for z p b n y →
    caller_at σ environment y.slot (child_count (above_of listing y).calls) ≡
    caller_below listing p b y (named σ environment (owners_at (record { slot = y.slot; base = b } ∷ p) y.names))
unfolding caller_at row_for above_of
caller_of listing z p b n y σ environment e = rw e

-- ── the children of a routine ───────────────────────────────────────────────────────────────────
module _ (listing : Listing) (environment : List Variable) where
  pub record Filled (σ : Rows) (latest : ℕ → ℕ) (d : Bool) (z : Bool) (p : List Entry) (b n : ℕ) (y : Record) (t : Tree) : Type 0 where
    pub rows : Rows
    pub last : ℕ → ℕ
    pub run : (rest : List ℕ) → filled_rows listing σ environment latest (slots_of t ++ rest) ≡ filled_rows listing rows environment last rest
    pub held : Held rows d (record { slot = y.slot; base = b } ∷ p) (b + length y.own) t
    pub parent : rows y.slot ≡ row_for z p b (n + root_count t) y
    pub others : (s : ℕ) → (In s (slots_of t) → ⊥) → (s ≡ y.slot → ⊥) → rows s ≡ σ s
    pub lasts : (l : ℕ) → l ≤ length p → last l ≡ latest l

  pub mark_of_lem : {x : Record} {k f : Tree} → Rests listing false (put x k f) → mark_of listing x ≡ is_leaf k && not x.is_new
  unfolding mark_of is_wait is_leaf
  mark_of_lem (rests_wait n i r) = rw (i, n)
  mark_of_lem (rests_join n i q r) = rw i

  pub rests_children : {x : Record} {k f : Tree} → Rests listing false (put x k f) → Rests listing false k
  rests_children (rests_wait n i r) = rests_nil
  rests_children (rests_join n i q r) = q

  rests_siblings : {x : Record} {k f : Tree} → Rests listing false (put x k f) → Rests listing false f
  rests_siblings (rests_wait n i r) = r
  rests_siblings (rests_join n i q r) = r

  module _ (T : TableFits listing) (σ₀ : Rows) where
    -- the child fields of a routine fit its names
    instruction_fits : (r place : ℕ) (i : Instruction) → instruction_at listing r place ≡ i → CallsFit listing (name_count listing r) (calls_of i)
    unfolding calls_of
    instruction_fits r place (fork cs) e = T.forks r place cs e
    instruction_fits r place (assign n d) e = calls_nil
    instruction_fits r place (schedule n d v) e = calls_nil
    instruction_fits r place (branch d k) e = calls_nil
    instruction_fits r place (jump k) e = calls_nil
    instruction_fits r place (wait ns) e = calls_nil
    instruction_fits r place end e = calls_nil

    pub above_fits : (x : Record) → length x.names ≡ name_count listing x.routine →
        CallsFit listing (length x.names) (above_of listing x).calls
    unfolding above_of
    above_fits x e = rw e (instruction_fits x.routine x.place (instruction_at listing x.routine x.place) refl)

    -- one child's row, and one more in its parent's count
    child_filled : (z : Bool) (p : List Entry) (b n : ℕ) (y x : Record) (σ : Rows) (latest : ℕ → ℕ) →
        (x.slot ≡ y.slot → ⊥) → σ y.slot ≡ row_for z p b n y → latest (length p) ≡ y.slot → KeptRow σ (suc (length p)) x →
        SteadyRecord listing (above_of listing y) (suc (length p)) (b + length y.own) x →
        length y.names ≡ name_count listing y.routine → ((m : ℕ) → m < length y.names → address_of y.names m < b + length y.own) →
        filled_at listing σ environment latest (σ x.slot).level x.slot ≡ with_row (with_row σ y.slot (row_for z p b (suc n) y)) x.slot
        (row_for (mark_of listing x) (record { slot = y.slot; base = b } ∷ p) (b + length y.own) 0 x)
    unfolding filled_at above_of parent_slot row_for
    child_filled z p b n y x σ latest apart e l kept steady many near =
        rw (kept.level, l, e)
        (ap₂ (λ q r. with_row (with_row σ y.slot q) x.slot r) (children_of z p b n y)
        (ap₂ (λ caller cs. filled_row_lem listing caller (get_or cs (σ x.slot).child no_call_lem) (σ x.slot) x.slot)
        (ap (λ cs. caller_at σ environment y.slot (child_count cs)) (calls_of_lem listing z p b n y) ∙
        caller_of listing z p b n y σ environment e) (calls_of_lem listing z p b n y) ∙
        ap (λ i. filled_row_lem listing caller (get_or calls i no_call_lem) (σ x.slot) x.slot) kept.child ∙
        filled_row listing (record { slot = y.slot; base = b } ∷ p) y.names (b + length y.own) (above_of listing y).low
        (above_of listing y).bits name (get_or calls x.child no_call_lem) x (σ x.slot) near
        (calls_fit listing (length y.names) calls x.child (above_fits y many) steady.numbered) steady.called steady.bound
        (steady.lowest ∙ ap (λ q. (above_of listing y).low + x.child * 2 ^ q) steady.divided) steady.divided kept.child kept.place
        kept.own))
      where
        calls : List Call
        calls = (above_of listing y).calls

        name : ℕ → Variable
        name = named σ environment (owners_at (record { slot = y.slot; base = b } ∷ p) y.names)

        caller : Caller
        caller = caller_below listing p b y name

    kept_from : {x : Record} {level : ℕ} (σ : Rows) → σ x.slot ≡ σ₀ x.slot → KeptRow σ₀ level x → KeptRow σ level x
    kept_from σ e k = record {
      level = ap (λ r. r.level) e ∙ k.level;
      child = ap (λ r. r.child) e ∙ k.child;
      place = ap (λ r. r.place) e ∙
          k.place;
      own = ap (λ r. r.own) e ∙ k.own;
    }

    -- one step of the pass, written out
    step_of : (σ : Rows) (latest : ℕ → ℕ) (s : ℕ) (ss : List ℕ) →
        filled_rows listing σ environment latest (s ∷ ss) ≡ filled_rows listing (filled_at listing σ environment latest (σ s).level s) environment
        (seen latest (σ s).level s) ss
    unfolding filled_rows
    step_of σ latest s ss = refl

    abbrev pub Fills : Tree → Type 0
    Fills t = (z : Bool) (p : List Entry) (b n : ℕ) (y : Record) (σ : Rows) (latest : ℕ → ℕ) →
        Steady listing (above_of listing y) (suc (length p)) (b + length y.own) t → Rests listing false t → KeptRows σ₀ (suc (length p)) t →
        Distinct (slots_of t) → (In y.slot (slots_of t) → ⊥) →
        σ y.slot ≡ row_for z p b n y → latest (length p) ≡ y.slot → ((s : ℕ) → In s (slots_of t) → σ s ≡ σ₀ s) →
        length y.names ≡ name_count listing y.routine → ((m : ℕ) → m < length y.names → address_of y.names m < b + length y.own) →
        Filled σ latest true z p b n y t

    fill_nil : Fills nil
    unfolding slots_of root_count
    fill_nil z p b n y σ latest st rs kp ds out e l raw many near =
        record {
          rows = σ;
          last = latest;
          run = λ rest. refl;
          held = held_nil;
          parent = e ∙ ap (λ k. row_for z p b k y) (sym (add-zero n));
          others = λ s i q. refl;
          lasts = λ k h. refl;
        }

    fill_put : (x : Record) (k f : Tree) → Fills k → Fills f → Fills (put x k f)
    unfolding slots_of root_count
    fill_put x k f deep-k deep-f z p b n y σ latest (steady_put sx sk sf) rs (kept_put kx kk kf) (distinct_put dx dr) out e l raw many near =
        record {
          rows = F.rows;
          last = F.last;
          run = run;
          held = held_put (mark_of listing x) (λ q. mark_of_lem rs) row_x held_k F.held;
          parent = F.parent ∙ ap (λ q. row_for z p b q y) (suc-add n (root_count f) ∙ sym (add-suc n (root_count f)));
          others = others;
          lasts = lasts;
        }
      where
        P : List Entry
        P = record { slot = y.slot; base = b } ∷ p

        c : ℕ
        c = b + length y.own

        apart : x.slot ≡ y.slot → ⊥
        apart q = out (here (sym q))

        σ₁ : Rows
        σ₁ = with_row (with_row σ y.slot (row_for z p b (suc n) y)) x.slot (row_for (mark_of listing x) P c 0 x)

        latest₁ : ℕ → ℕ
        latest₁ = seen latest (suc (length p)) x.slot

        kept_x : KeptRow σ (suc (length p)) x
        kept_x = kept_from σ (raw x.slot (here refl)) kx

        other₁ : (s : ℕ) → (s ≡ x.slot → ⊥) → (s ≡ y.slot → ⊥) → σ₁ s ≡ σ s
        other₁ s q r = with_row-other (with_row σ y.slot (row_for z p b (suc n) y)) x.slot (row_for (mark_of listing x) P c 0 x) s q ∙
            with_row-other σ y.slot (row_for z p b (suc n) y) s r

        in_k : (s : ℕ) → In s (slots_of k) → (s ≡ x.slot → ⊥) × (s ≡ y.slot → ⊥)
        in_k s i = (
          (λ q. dx (in_left (slots_of k) (slots_of f) (subst (λ v. In v (slots_of k)) q i))),
          (λ q. out (there (in_left (slots_of k) (slots_of f) (subst (λ v. In v (slots_of k)) q i)))),
        )

        in_f : (s : ℕ) → In s (slots_of f) → (s ≡ x.slot → ⊥) × (s ≡ y.slot → ⊥)
        in_f s i = (
          (λ q. dx (in_right (slots_of k) (slots_of f) (subst (λ v. In v (slots_of f)) q i))),
          (λ q. out (there (in_right (slots_of k) (slots_of f) (subst (λ v. In v (slots_of f)) q i)))),
        )

        K : Filled σ₁ latest₁ true (mark_of listing x) P c 0 x k
        K = deep-k (mark_of listing x) P c 0 x σ₁ latest₁ sk (rests_children rs) kk (distinct_left (slots_of k) (slots_of f) dr)
            (λ i. dx (in_left (slots_of k) (slots_of f) i))
            (with_row-same (with_row σ y.slot (row_for z p b (suc n) y)) x.slot (row_for (mark_of listing x) P c 0 x))
            (seen_same latest (suc (length p)) x.slot)
            (λ s i. other₁ s (in_k s i).0 (in_k s i).1 ∙ raw s (there (in_left (slots_of k) (slots_of f) i))) sx.many sx.near

        row_y : K.rows y.slot ≡ row_for z p b (suc n) y
        row_y = K.others y.slot (λ i. out (there (in_left (slots_of k) (slots_of f) i))) (λ q. apart (sym q)) ∙
            with_row-other (with_row σ y.slot (row_for z p b (suc n) y)) x.slot (row_for (mark_of listing x) P c 0 x) y.slot
            (λ q. apart (sym q)) ∙ with_row-same σ y.slot (row_for z p b (suc n) y)

        last_y : K.last (length p) ≡ y.slot
        last_y = K.lasts (length p) (omega arith) ∙ seen_other latest (suc (length p)) x.slot (length p) (λ q. omega (arith, q)) ∙ l

        F : Filled K.rows K.last true z p b (suc n) y f
        F = deep-f z p b (suc n) y K.rows K.last sf (rests_siblings rs) kf (distinct_right (slots_of k) (slots_of f) dr)
            (λ i. out (there (in_right (slots_of k) (slots_of f) i))) row_y last_y
            (λ s i. K.others s (λ j. distinct_apart (slots_of k) (slots_of f) s dr j i) (in_f s i).0 ∙ other₁ s (in_f s i).0 (in_f s i).1 ∙
            raw s (there (in_right (slots_of k) (slots_of f) i))) many near

        row_x : F.rows x.slot ≡ row_for (mark_of listing x) P c (root_count k) x
        row_x = F.others x.slot (λ i. dx (in_right (slots_of k) (slots_of f) i)) apart ∙ K.parent ∙
            ap (λ q. row_for (mark_of listing x) P c q x) (zero-add (root_count k))

        held_k : Held F.rows true (record { slot = x.slot; base = c } ∷ P) (c + length x.own) k
        held_k = held_same F.rows (λ s i. F.others s (λ j. distinct_apart (slots_of k) (slots_of f) s dr i j) (in_k s i).1) K.held

        run : (rest : List ℕ) → filled_rows listing σ environment latest (x.slot ∷ ((slots_of k ++ slots_of f) ++ rest)) ≡ filled_rows listing F.rows
            environment F.last rest
        run rest =
            step_of σ latest x.slot ((slots_of k ++ slots_of f) ++ rest) ∙
            ap₂ (λ r m. filled_rows listing r environment m ((slots_of k ++ slots_of f) ++ rest))
            (child_filled z p b n y x σ latest apart e l kept_x sx many near) (ap (λ q. seen latest q x.slot) kept_x.level) ∙
            ap (filled_rows listing σ₁ environment latest₁) (append_assoc (slots_of k) (slots_of f) rest) ∙ K.run (slots_of f ++ rest) ∙ F.run rest

        others : (s : ℕ) → (In s (x.slot ∷ (slots_of k ++ slots_of f)) → ⊥) → (s ≡ y.slot → ⊥) → F.rows s ≡ σ s
        others s i q = F.others s (λ j. i (there (in_right (slots_of k) (slots_of f) j))) q ∙
            K.others s (λ j. i (there (in_left (slots_of k) (slots_of f) j))) (λ r. i (here r)) ∙ other₁ s (λ r. i (here r)) q

        lasts : (m : ℕ) → m ≤ length p → F.last m ≡ latest m
        lasts m h = F.lasts m h ∙ K.lasts m (omega arith) ∙ seen_other latest (suc (length p)) x.slot m (λ q. omega arith)

    pub fill : (t : Tree) → Fills t
    fill nil = fill_nil
    fill (put x k f) = fill_put x k f (fill k) (fill f)
