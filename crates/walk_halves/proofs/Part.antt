-- A grower's part of a state: the variables lent to it and its subtree. Once its routine has ended only the environment's
-- variables count, for main may have ended too, and its own variables with it. A call's effect on the part is determined by the
-- moment and the grower's own inputs; a call with nothing due for it and no input to it leaves the part alone, and reports nothing of it.
-- Letters: g the grower, t a moment, i inputs to it, p and q parts, w reports, f a forest, m memory, s running, a a turn.
use mathlib.Core.Path.{◌≡◌, refl, sym, ap, ap₂, ◌∙◌}
use mathlib.Core.Bool.{Bool, true}
use mathlib.Core.List.{List, [], ◌∷◌, Memᴰ}
use Prim.Native.Nat.{ℕ, zero, suc, ◌+◌, ◌≤◌}
use native.Mathlib.Omega.{arith}
use native.Mathlib.Nat.{le_refl}
use lib.ListN.{length, get_or, take, drop, get_or-eq_default}
use lib.Seq.{take-take}
use Rattle.listing.specs.Listing.{Listing, Call}
use Rattle.walk.specs.State.{Variable, Forest, empty, more, Running, Turn, ok, no_variable, new_variable, unmarked_of}
use Rattle.walk.specs.Memory.{variable_at}
use Rattle.walk.specs.Walk.{routine_at, visit_forest}
use Rattle.walk.specs.Instant.{due_writes, due_in_forest, Write, apply_inputs, unmarked, unmarked_forest, NextDue, earlier, due_of_variables, due_of_forest, listed_if, written_from, environment_size}
use Rattle.walk.specs.Events.{Event, events_at}
use Rattle.walk_halves.specs.Halves.{among, RoutineOf, forked}
use Rattle.walk_halves.proofs.Due.{NotBefore, neither_before, dueless_writes, dueless_in_forest, due_in_forest_leaves_later, unmarked_twice}
use Rattle.walk_halves.proofs.Reach.{Zone, Alike}
use Rattle.walk_halves.proofs.Twin.{Both, both_went, AllIts, no_child, one_child, Code, Has, AllAsleep, Ends}
use Rattle.walk_halves.proofs.TwinRuns.{visit_forest-twins}
use Rattle.walk_halves.proofs.Quiet.{unmarked_is_unwritten, Unwritten, quiet-visit_forest, due_writes_keep_asleep}
use Rattle.walk_halves.proofs.Lent.{shown_if, lent, length_lent, variable_lent, shown_same, same_shown}
use Rattle.walk_halves.proofs.Turns.{ok_same}

-- ── the grower ────────────────────────────────────────────────────────────────────────────────────
-- Its child field, and a listing that has main and the grower's routines; main's variables are few.
pub record Grower : Type 0 where
  pub field : Call
  pub model : Listing
  pub small : environment_size model + (routine_at model 0).locals ≤ 65536

-- Its names in main, which are addresses there.
abbrev pub args : Grower → List ℕ
args g = g.field.arguments

-- The number of environment variables, and that of all of main's variables.
abbrev pub size : Grower → ℕ
size g = environment_size g.model

abbrev pub floor : Grower → ℕ
floor g = environment_size g.model + (routine_at g.model 0).locals

-- The addresses that the grower reaches: its names, and what lies past main's variables.
pub data Mine (g : Grower) (x : ℕ) : Type 0 where
  a_name : among x (args g) ≡ true → Mine g x
  past_main : floor g ≤ x → Mine g x

abbrev pub mine : Grower → Zone
mine g = record { In = Mine g; floor = floor g; up = λ x h. past_main h; small = g.small }

-- "Its routines are the one forked by that field and whatever a routine already among them forks."
pub all_its : (g : Grower) (cs : List Call) → ((d : Call) → Memᴰ d cs → RoutineOf g.model g.field d.callee) →
    AllIts (RoutineOf g.model g.field) cs
all_its g [] h = no_child
all_its g (d ∷ cs) h = one_child (h d (Memᴰ.head refl)) (all_its g cs (λ e k. h e (Memᴰ.tail k)))

abbrev pub its : Grower → Code
its g = record { Its = RoutineOf g.model g.field; model = g.model; closed = λ r place cs i e. all_its g cs (λ d k. forked place i e k) }

-- ── its part of a state ───────────────────────────────────────────────────────────────────────────
pub record Part : Type 0 where
  pub variables : List Variable
  pub tree : Forest

unfoldable pub next_of : Part → NextDue
next_of p = earlier (due_of_variables p.variables) (due_of_forest p.tree)

-- What its variables are when its turn comes, with due writes made and inputs written.
unfoldable pub seen : ℕ → List Write → Part → List Variable
seen t i p = apply_inputs t i (due_writes t p.variables)

module _ (g : Grower) where
  abbrev pub MineAsleep : Forest → Type 0
  MineAsleep f = AllAsleep (mine g) (its g) f

  -- Main's own variables are lent only while the grower's routine lives.
  unfoldable pub trim : Forest → List Variable → List Variable
  trim empty m = take (size g) m
  trim (more n f) m = m

  -- While it lives, all of main's variables are there.
  abbrev pub Whole : Forest → ℕ → Type 0
  Whole empty n = Unit {0}
  Whole (more n f) k = k ≡ floor g

  -- The part, and the grower's reports, after its turn.
  unfoldable pub part_after : Turn → Part
  part_after a = record { variables = unmarked (trim a.tree (lent (args g) a.running.memory)); tree = unmarked_forest a.tree }

  unfoldable pub reports_after : ℕ → Turn → List Event
  reports_after t a =
      let first = g.model.inputs in events_at t (written_from first (drop first (take (size g) (lent (args g) a.running.memory))))

  -- At t, with inputs i, the part p turned into q and w was reported: on some listing with the grower's routines,
  -- from some memory that shows the grower what it should see.
  pub record Turned (t : ℕ) (i : List Write) (p q : Part) (w : List Event) : Type 0 where
    pub listing : Listing
    pub has : Has (its g) listing
    pub s : Running
    pub a : Turn
    pub shown : trim p.tree (lent (args g) s.memory) ≡ seen t i p
    pub whole : Whole p.tree (length s.memory)
    pub later : NotBefore (suc t) (due_of_variables s.memory)
    pub none_missed : NotBefore t (next_of p)
    pub asleep : MineAsleep p.tree
    pub unmarked_variables : unmarked p.variables ≡ p.variables
    pub unmarked_tree : unmarked_forest p.tree ≡ p.tree
    pub turn : visit_forest listing t (due_in_forest p.tree t) 1 s ≡ ok a
    pub part : q ≡ part_after a
    pub reports : w ≡ reports_after t a

  -- ── what the turn leaves depends on what the grower is shown alone ────────────────────────────
  after_same : (a a' : Turn) → a.tree ≡ a'.tree → lent (args g) a.running.memory ≡ lent (args g) a'.running.memory →
      part_after a ≡ part_after a'
  unfolding part_after
  after_same a a' e h = rw (e, h)

  reports_same : (t : ℕ) (a a' : Turn) → take (size g) (lent (args g) a.running.memory) ≡ take (size g) (lent (args g) a'.running.memory) →
      reports_after t a ≡ reports_after t a'
  unfolding reports_after
  reports_same t a a' h = ap (λ l. events_at t (written_from g.model.inputs (drop g.model.inputs l))) h

  pub ends_same : (t base : ℕ) (before : List Variable) (a a' : Turn) → Both (Ends (mine g) (its g) t base before) (ok a) (ok a') →
      (part_after a ≡ part_after a') × (reports_after t a ≡ reports_after t a')
  ends_same t base before a a' (both_went e) =
      let h = same_shown (args g) a.running.memory a'.running.memory e.alike.long (λ x l k. e.alike.shown x (a_name k)) in
      (after_same a a' e.tree h, reports_same t a a' (ap (take (size g)) h))

  pub shown_alike : (t : ℕ) (m m' : List Variable) → length m ≡ floor g → lent (args g) m ≡ lent (args g) m' → NotBefore (suc t) (due_of_variables m) →
      Alike (mine g) t m m'
  unfolding variable_at
  shown_alike t m m' l e h =
      let long : length m ≡ length m' = sym (length_lent (args g) m) ∙ ap length e ∙ length_lent (args g) m' in
      record { long = long; shown = go long; later = h }
    where
      go : length m ≡ length m' → (x : ℕ) → Mine g x → get_or m x no_variable ≡ get_or m' x no_variable
      go k x (a_name i) = shown_same (args g) m m' e x i
      go k x (past_main i) = get_or-eq_default m no_variable (omega arith) ∙ sym (get_or-eq_default m' no_variable (omega arith))

  turns_same : (t : ℕ) (listing listing' : Listing) → Has (its g) listing → Has (its g) listing' → (f : Forest) (s s' : Running) (a a' : Turn) →
      MineAsleep f → NotBefore t (due_of_forest f) → Whole f (length s.memory) → NotBefore (suc t) (due_of_variables s.memory) →
      trim f (lent (args g) s.memory) ≡ trim f (lent (args g) s'.memory) →
      visit_forest listing t (due_in_forest f t) 1 s ≡ ok a → visit_forest listing' t (due_in_forest f t) 1 s' ≡ ok a' →
      (part_after a ≡ part_after a') × (reports_after t a ≡ reports_after t a')
  unfolding trim visit_forest due_in_forest
  turns_same t listing listing' has has' empty s s' a a' k d l h e v v' =
      let b : Turn = record { running = s; tree = empty } in
      let b' : Turn = record { running = s'; tree = empty } in
      let same : part_after b ≡ part_after b' = unfold part_after trim in rw e in (
        ap part_after (sym (ok_same b a v)) ∙ same ∙ ap part_after (ok_same b' a' v'),
        ap (reports_after t) (sym (ok_same b a v)) ∙ reports_same t b b' e ∙ ap (reports_after t) (ok_same b' a' v'),
      )
  turns_same t listing listing' has has' (more n f) s s' a a' k d l h e v v' =
      let twins = visit_forest-twins (mine g) (its g) t listing listing' has has' (due_in_forest (more n f) t) 1 s s'
      (due_writes_keep_asleep (mine g) (its g) (more n f) t k) (due_in_forest_leaves_later (more n f) t d) (omega arith)
      (shown_alike t s.memory s'.memory l e h) in
      ends_same t _ _ a a' (rw (v, v') at twins)

  pub determined : (t : ℕ) (i : List Write) (p q q' : Part) (w w' : List Event) → Turned t i p q w → Turned t i p q' w' → (q ≡ q') × (w ≡ w')
  unfolding next_of
  determined t i p q q' w w' h h' =
      let d = neither_before t (due_of_variables p.variables) (due_of_forest p.tree) h.none_missed in
      let same = turns_same t h.listing h'.listing h.has h'.has p.tree h.s h'.s h.a h'.a
      h.asleep d.1 h.whole h.later (h.shown ∙ sym h'.shown) h.turn h'.turn in
      (h.part ∙ same.0 ∙ sym h'.part, h.reports ∙ same.1 ∙ sym h'.reports)

  -- ── nothing due and no input: the part stays, and nothing is reported ─────────────────────────
  sees_nothing_written : (m xs : List Variable) → length m ≡ floor g → lent (args g) m ≡ unmarked xs → Unwritten (mine g) (its g) m
  unfolding variable_at shown_if no_variable new_variable
  sees_nothing_written m xs l e x (a_name i) =
      ap (λ (b : Bool). (shown_if b (variable_at m x)).written) (sym i) ∙ ap (λ (y : Variable). y.written) (sym (variable_lent (args g) m x)) ∙
      ap (λ ys. (variable_at ys x).written) e ∙ unmarked_is_unwritten xs x
  sees_nothing_written m xs l e x (past_main i) = ap (λ (y : Variable). y.written) (get_or-eq_default m no_variable (omega arith))

  stays : (t : ℕ) (listing : Listing) → Has (its g) listing → (f : Forest) (s : Running) (xs : List Variable) → MineAsleep f →
      Whole f (length s.memory) → trim f (lent (args g) s.memory) ≡ unmarked xs →
      visit_forest listing t (unmarked_forest f) 1 s ≡ ok (record { running = s; tree = unmarked_forest f })
  unfolding trim visit_forest unmarked_forest
  stays t listing has empty s xs k l e = refl
  stays t listing has (more n f) s xs k l e = quiet-visit_forest (mine g) (its g) t listing has (more n f) 1 s k
      (sees_nothing_written s.memory xs l e)

  pub take_trim : (f : Forest) (m : List Variable) → take (size g) (trim f m) ≡ take (size g) m
  unfolding trim
  take_trim empty m = take-take (size g) (size g) m (le_refl (size g))
  take_trim (more n f) m = refl

  -- No output of unmarked variables is listed.
  none_listed : (n j k : ℕ) (xs : List Variable) → written_from n (drop j (take k (unmarked xs))) ≡ []
  unfolding written_from unmarked listed_if unmarked_of
  none_listed n zero zero xs = refl
  none_listed n (suc j) zero xs = refl
  none_listed n zero (suc k) [] = refl
  none_listed n (suc j) (suc k) [] = refl
  none_listed n zero (suc k) (x ∷ xs) = none_listed (suc n) zero k xs
  none_listed n (suc j) (suc k) (x ∷ xs) = none_listed n j k xs

  pub undisturbed : (t : ℕ) (p q : Part) (w : List Event) → Turned t [] p q w → NotBefore (suc t) (next_of p) → (q ≡ p) × (w ≡ [])
  unfolding next_of seen apply_inputs part_after reports_after events_at
  undisturbed t p q w h late =
      let first = g.model.inputs in
      let d = neither_before (suc t) (due_of_variables p.variables) (due_of_forest p.tree) late in
      let shown : trim p.tree (lent (args g) h.s.memory) ≡ unmarked p.variables = h.shown ∙ dueless_writes t p.variables d.0 in
      let turn : visit_forest h.listing t (unmarked_forest p.tree) 1 h.s ≡ ok h.a = rw (dueless_in_forest p.tree t d.1) at h.turn in
      let left : h.a ≡ record { running = h.s; tree = unmarked_forest p.tree } =
      ok_same _ _ (sym turn ∙ stays t h.listing h.has p.tree h.s p.variables h.asleep h.whole shown) in
      let a : Turn = record { running = h.s; tree = p.tree } in
      let is-a : h.a ≡ a = left ∙ ap (λ f. record { running = h.s; tree = f }) h.unmarked_tree in
      let variables : unmarked (trim p.tree (lent (args g) h.s.memory)) ≡ p.variables =
      ap unmarked shown ∙ unmarked_twice p.variables ∙ h.unmarked_variables in
      let front : take (size g) (lent (args g) h.s.memory) ≡ take (size g) (unmarked p.variables) =
      sym (take_trim p.tree (lent (args g) h.s.memory)) ∙ ap (take (size g)) shown in (
        h.part ∙ ap part_after is-a ∙ ap₂ (λ xs f. record { variables = xs; tree = f }) variables h.unmarked_tree,
        h.reports ∙ ap (reports_after t) is-a ∙ ap (λ l. events_at t (written_from first (drop first l))) front ∙
            ap (events_at t) (none_listed first first (size g) p.variables),
      )
