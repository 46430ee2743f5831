-- The end of a call: what is kept in the rows that hold a state, in walking order, is what question 7's condition keeps of the state.
-- Letters: u what children see of their parent, i the number of a child field, ss slots; the others as in Place and Held.
use mathlib.Core.Path.{◌≡◌, refl, sym, ap, ap₂, subst, ◌∙◌}
use mathlib.Core.Bool.{Bool, true}
use mathlib.Core.List.{List, [], ◌∷◌, ◌++◌}
use Prim.Native.Nat.{ℕ, zero, suc, ◌+◌, ◌*◌, ◌-◌, ◌^◌, ◌≤◌, ◌<◌}
use native.Mathlib.Nat.{le_refl, zero-add, suc-add, suc-mul, mul-le-mul_right}
use native.Mathlib.Decide.{dec_le}
use native.Mathlib.Omega.{arith}
use lib.ListN.{length, get_or, drop}
use Rattle.listing.specs.Listing.{Listing, Call}
use Rattle.walk.specs.State.{Variable, Node, node, Forest, empty, more, live_in_forest, State}
use Rattle.walk.specs.Walk.{child_count}
use Rattle.walk.specs.Instant.{environment_names, main_call}
use Rattle.walk.specs.Question7.{owned_by, MadeBy, Asleep, waits, joins, LiveChildren, no_more, ended, lives, some_alive, all_at_rest, IsState}
use Rattle.engine_rows.specs.Rows.{Row, Rows}
use Rattle.engine_rows.specs.Order.{walking_order}
use Rattle.engine_rows.specs.Records.{no_call_lem, kept_of_row, kept_in, kept_of_node, kept_of}
use Rattle.engine_rows.proofs.Place.{Record, width, Tree, nil, put, erase}
use Rattle.engine_rows.proofs.Priority.{Range, parts, pow_pos}
use Rattle.engine_rows.proofs.Sorted.{In}
use Rattle.engine_rows.proofs.Held.{Entry, row_for, Held, held_put}
use Rattle.engine_rows.proofs.Kept.{slots_of}
use Rattle.engine_rows.proofs.Steady.{Above, above_main, above_of, above_at, SteadyRecord, Steady, steady_put}
use Rattle.engine_rows.proofs.Begun.{Settled, at_wait, at_fork, state_settled}
use Rattle.engine_rows.proofs.Folding.{Distinct, slots_live}
use Rattle.engine_rows.proofs.Holds.{Holds, holds_order, holds_distinct, slot_below}

kept_append : (σ : Rows) (a b : List ℕ) → kept_in σ (a ++ b) ≡ kept_in σ a ++ kept_in σ b
unfolding kept_in
kept_append σ [] b = refl
kept_append σ (s ∷ a) b = ap (λ l. kept_of_row (σ s) ∷ l) (kept_append σ a b)

drop_field : (i : ℕ) (cs : List Call) → i < child_count cs → drop i cs ≡ get_or cs i no_call_lem ∷ drop (suc i) cs
unfolding child_count
drop_field i [] h = absurd (omega arith)
drop_field zero (c ∷ cs) h = refl
drop_field (suc i) (c ∷ cs) h = drop_field i cs (omega arith)

drop_all : (cs : List Call) → drop (child_count cs) cs ≡ []
unfolding child_count
drop_all [] = refl
drop_all (c ∷ cs) = drop_all cs

alive : (x : Record) (k f : Tree) → some_alive (erase (put x k f)) ≡ true
unfolding erase some_alive
alive x k f = refl

low_first : (low w : ℕ) → low + 0 * w ≤ low
low_first low w = omega arith

module _ (listing : Listing) (rest : List Variable → Bool) (σ : Rows) where
  -- child fields, the first of them number i, and the live ones of their children
  pub record LaidOut (names : List ℕ) (cs : List Call) (level c : ℕ) (f : Forest) (ss : List ℕ) (i : ℕ) : Type 0 where
    pub children : LiveChildren listing rest level c names cs f
    pub kept : kept_in σ ss ≡ kept_of children i

  -- a child field whose child has ended
  one_ended : {names : List ℕ} {call : Call} {cs : List Call} {level c : ℕ} {f : Forest} {ss : List ℕ} {i : ℕ} →
      LaidOut names cs level c f ss (suc i) → LaidOut names (call ∷ cs) level c f ss i
  unfolding kept_of
  one_ended L = record { children = ended L.children; kept = L.kept }

  -- m of them
  some_ended : (calls : List Call) {names : List ℕ} {level c : ℕ} {f : Forest} {ss : List ℕ} (m i : ℕ) → m + i ≤ child_count calls →
      LaidOut names (drop (m + i) calls) level c f ss (m + i) → LaidOut names (drop i calls) level c f ss i
  some_ended calls {names} {level} {c} {f} {ss} zero i h L = subst (λ q. LaidOut names (drop q calls) level c f ss q) (zero-add i) L
  some_ended calls {names} {level} {c} {f} {ss} (suc m) i h L =
      some_ended calls m i (omega arith)
      (subst (λ z. LaidOut names z level c f ss (m + i)) (sym (drop_field (m + i) calls (omega arith)))
      (one_ended (subst (λ q. LaidOut names (drop q calls) level c f ss q) (suc-add m i) L)))

  ended_to : (calls : List Call) {names : List ℕ} {level c : ℕ} {f : Forest} {ss : List ℕ} (i j : ℕ) → i ≤ j → j ≤ child_count calls →
      LaidOut names (drop j calls) level c f ss j → LaidOut names (drop i calls) level c f ss i
  ended_to calls {names} {level} {c} {f} {ss} i j h l L =
      let e : j ≡ j - i + i = omega arith in
      some_ended calls (j - i) i (omega arith) (subst (λ q. LaidOut names (drop q calls) level c f ss q) e L)

  -- nobody lives of the rest
  none_live : (calls : List Call) (names : List ℕ) (level c i : ℕ) → i ≤ child_count calls → LaidOut names (drop i calls) level c empty [] i
  unfolding kept_of kept_in
  none_live calls names level c i h =
      ended_to calls i (child_count calls) h (le_refl _) (subst (λ z. LaidOut names z level c empty [] (child_count calls)) (sym (drop_all calls))
      (record { children = no_more; kept = refl }))

  -- one that lives, and those after it
  one_lives : {names : List ℕ} {call : Call} {cs : List Call} {level c : ℕ} {n : Node} {f : Forest} {i : ℕ} (ss₁ ss₂ : List ℕ)
      (A : Asleep listing rest level c names call n) → kept_in σ ss₁ ≡ kept_of_node A i → LaidOut names cs level c f ss₂ (suc i) →
      LaidOut names (call ∷ cs) level c (more n f) (ss₁ ++ ss₂) i
  unfolding kept_of
  one_lives ss₁ ss₂ A e L = record { children = lives A L.children; kept = kept_append σ ss₁ ss₂ ∙ ap₂ ◌++◌ e L.kept }

  kept_of_row_lem : (z : Bool) (p : List Entry) (b n : ℕ) (x : Record) → σ x.slot ≡ row_for z p b n x →
      kept_of_row (σ x.slot) ≡ record { level = length p; child = x.child; place = x.place; own = x.own }
  unfolding kept_of_row row_for
  kept_of_row_lem z p b n x e = ap (λ (r : Row). record { level = r.level; child = r.child; place = r.place; own = r.own }) e

  -- a routine with its children, as its child field makes it
  pub record LaidNode (names : List ℕ) (call : Call) (level c : ℕ) (n : Node) (ss : List ℕ) (i : ℕ) : Type 0 where
    pub asleep : Asleep listing rest level c names call n
    pub kept : kept_in σ ss ≡ kept_of_node asleep i

  made : (u : Above) (level c : ℕ) (x : Record) → SteadyRecord listing u level c x → rest x.own ≡ true →
      MadeBy listing rest c u.names (get_or u.calls x.child no_call_lem) x.routine x.names x.own
  made u level c x st o = record { number = st.called; bound = st.bound; owned = st.owned ∙ ap (owned_by listing) st.called; resting = o }

  abbrev Lays : Tree → Type 0
  Lays t = (u : Above) (p : List Entry) (c lo hi : ℕ) (d : Bool) (i : ℕ) → Steady listing u (length p) c t → Range lo hi t → Held σ d p c t →
      Settled listing rest (length p) (erase t) → i ≤ child_count u.calls → u.low + i * 2 ^ u.bits ≤ lo →
      LaidOut u.names (drop i u.calls) (length p) c (erase t) (slots_of t) i

  lay_nil : Lays nil
  unfolding erase slots_of
  lay_nil u p c lo hi d i st r h s l b = none_live u.calls u.names (length p) c i l

  -- the child's number is not below i
  not_below_lem : (low i j w lo : ℕ) → 1 ≤ w → low + i * w ≤ lo → lo ≤ low + j * w → i ≤ j
  not_below_lem low i j w lo pos a b = go (dec_le i j)
    where
      go : Dec (i ≤ j) → i ≤ j
      go (yes h) = h
      go (no h) = let k : suc j ≤ i = omega arith in let m : suc j * w ≤ i * w = mul-le-mul_right w k in absurd (omega (arith, m, suc-mul j w))

  -- a routine's own part
  lay_node : (x : Record) (k : Tree) → Lays k → (u : Above) (p : List Entry) (c lo hi : ℕ) (d : Bool) (f : Tree) →
      SteadyRecord listing u (length p) c x → Steady listing (above_of listing x) (suc (length p)) (c + length x.own) k → Range x.low hi k →
      Held σ d (record { slot = x.slot; base = c } ∷ p) (c + length x.own) k →
      kept_of_row (σ x.slot) ≡ record { level = length p; child = x.child; place = x.place; own = x.own } →
      Settled listing rest (length p) (erase (put x k f)) →
      LaidNode u.names (get_or u.calls x.child no_call_lem) (length p) c (node x.routine x.place x.names x.own (erase k))
      (x.slot ∷ slots_of k) x.child
  unfolding erase slots_of kept_of kept_in
  lay_node x nil deep u p c lo hi d f st sk r h e (at_wait o i s) = record {
    asleep = waits (made u (length p) c x st o) i;
    kept = ap (λ z. z ∷ []) e;
  }
  lay_node x (put y g k) deep u p c lo hi d f st sk r h e (at_fork {cs = cs} o i l sb s) =
      record { asleep = joins (made u (length p) c x st o) i l (alive y g k) L.children; kept = ap₂ ◌∷◌ e L.kept }
    where
      first : (above_of listing x).low + 0 * 2 ^ (above_of listing x).bits ≤ x.low
      first = subst (λ a. a.low + 0 * 2 ^ a.bits ≤ x.low) (sym (above_at listing x cs i)) (low_first x.low (2 ^ (x.bits - _)))

      below : LaidOut (above_of listing x).names (drop 0 (above_of listing x).calls) (suc (length p)) (c + length x.own) (erase (put y g k))
          (slots_of (put y g k)) 0
      below = deep (above_of listing x) (record { slot = x.slot; base = c } ∷ p) (c + length x.own) x.low hi d 0 sk r h sb (omega arith) first

      L : LaidOut x.names cs (suc (length p)) (c + length x.own) (erase (put y g k)) (slots_of (put y g k)) 0
      L = subst (λ a. LaidOut a.names a.calls (suc (length p)) (c + length x.own) (erase (put y g k)) (slots_of (put y g k)) 0)
          (above_at listing x cs i) below

  settled_later : {level : ℕ} {n : Node} {f : Forest} → Settled listing rest level (more n f) → Settled listing rest level f
  settled_later (at_wait o j q) = q
  settled_later (at_fork o j n qk q) = q

  lay_put : (x : Record) (k f : Tree) → Lays k → Lays f → Lays (put x k f)
  unfolding erase slots_of
  lay_put x k f deep-k deep-f u p c lo hi d i (steady_put sx sk sf) r (held_put {x = _} {k = _} {f = _} z m e hk hf) s l b =
      ended_to u.calls i x.child from_i (before sx.numbered)
      (subst (λ q. LaidOut u.names q (length p) c (erase (put x k f)) (x.slot ∷ (slots_of k ++ slots_of f)) x.child)
      (sym (drop_field x.child u.calls sx.numbered))
      (one_lives (x.slot ∷ slots_of k) (slots_of f) N.asleep N.kept (deep-f u p c (x.low + width x) hi d (suc x.child) sf (parts r).siblings
      hf (settled_later s) sx.numbered next)))
    where
      before : {a b : ℕ} → a < b → a ≤ b
      before h = omega arith

      low_is : x.low ≡ u.low + x.child * 2 ^ u.bits
      low_is = sx.lowest ∙ ap (λ q. u.low + x.child * 2 ^ q) sx.divided

      from_i : i ≤ x.child
      from_i = not_below_lem u.low i x.child (2 ^ u.bits) lo (pow_pos u.bits) b (subst (λ q. lo ≤ q) low_is (parts r).lowest)

      next : u.low + suc x.child * 2 ^ u.bits ≤ x.low + width x
      next = omega (arith, low_is, suc-mul x.child (2 ^ u.bits), ap (λ q. 2 ^ q) sx.divided)

      N : LaidNode u.names (get_or u.calls x.child no_call_lem) (length p) c (node x.routine x.place x.names x.own (erase k))
          (x.slot ∷ slots_of k) x.child
      N = lay_node x k deep-k u p c lo (x.low + width x) d f sx sk (parts r).children hk (kept_of_row_lem z p c _ x e) s

  pub lay : (t : Tree) → Lays t
  lay nil = lay_nil
  lay (put x k f) = lay_put x k f (lay k) (lay f)

-- ── the end of a call ───────────────────────────────────────────────────────────────────────────
-- What is kept in the rows, in walking order, is the kept form of the state: the next call begins with it.
pub record Left (listing : Listing) (σ : Rows) (s : State) : Type 0 where
  pub children : LiveChildren listing (all_at_rest s.now) 0 (length s.environment) (environment_names listing) (main_call listing ∷ []) s.tree
  pub kept : kept_in σ (walking_order σ) ≡ kept_of children 0
  pub many : length (walking_order σ) ≡ live_in_forest s.tree
  pub distinct : Distinct (walking_order σ)
  pub small : (n : ℕ) → In n (walking_order σ) → n < 64

pub left_by_rows : (listing : Listing) (σ : Rows) (environment : List Variable) (s : State) (marks : Bool) → Holds marks listing σ environment s →
    IsState listing s → Left listing σ s
unfolding above_main
left_by_rows listing σ environment s marks H I =
    record {
      children = L.children;
      kept = ap (kept_in σ) (holds_order H) ∙ L.kept;
      many = ap length (holds_order H) ∙ slots_live H.tree ∙ ap live_in_forest H.tree_is;
      distinct = subst Distinct (sym (holds_order H)) (holds_distinct H);
      small = λ n i. slot_below H n (subst (λ l. In n l) (holds_order H) i);
    }
  where
    settled : Settled listing (all_at_rest s.now) 0 (erase H.tree)
    settled = subst (λ f. Settled listing (all_at_rest s.now) 0 f) (sym H.tree_is) (state_settled listing (all_at_rest s.now) I.tree)

    L' : LaidOut listing (all_at_rest s.now) σ (environment_names listing) (main_call listing ∷ []) 0 (length environment) (erase H.tree)
        (slots_of H.tree) 0
    L' = lay listing (all_at_rest s.now) σ H.tree (above_main listing) [] (length environment) 0 4294967296 marks 0 H.steady H.range
        H.held settled (omega arith) (omega arith)

    L : LaidOut listing (all_at_rest s.now) σ (environment_names listing) (main_call listing ∷ []) 0 (length s.environment) s.tree
        (slots_of H.tree) 0
    L = subst (λ f. LaidOut listing (all_at_rest s.now) σ (environment_names listing) (main_call listing ∷ []) 0 (length s.environment) f
        (slots_of H.tree) 0) H.tree_is
        (subst (λ e. LaidOut listing (all_at_rest s.now) σ (environment_names listing) (main_call listing ∷ []) 0 (length e) (erase H.tree)
        (slots_of H.tree) 0) H.environment_is L')
