-- The beginning of a call: rows filled in from what is kept of a state's routines, in any distinct slots, hold the state.
-- Letters: u what children see of their parent, i the number of a child field, ss slots, D a derivation; the others as in Place and Held.
use mathlib.Core.Path.{◌≡◌, refl, sym, ap, ap₂, subst, ◌∙◌}
use mathlib.Core.Bool.{Bool, false}
use mathlib.Core.List.{List, [], ◌∷◌, ◌++◌}
use Prim.Native.Nat.{ℕ, suc, ◌+◌, ◌*◌, ◌-◌, ◌^◌, ◌≤◌, ◌<◌}
use native.Mathlib.Nat.{le_refl, add-zero, zero-add, suc-mul}
use native.Mathlib.Omega.{arith}
use lib.ListN.{length, get_or, drop}
use Rattle.listing.specs.Listing.{Listing, Call, fork}
use Rattle.walk.specs.State.{Variable, Node, node, Forest, more}
use Rattle.walk.specs.Memory.{address_of}
use Rattle.walk.specs.Walk.{routine_at, instruction_at, child_count}
use Rattle.walk.specs.Question7.{owned_count, owned_by, bound_names, MadeBy, Asleep, waits, joins, LiveChildren, no_more, ended, lives}
use Rattle.engine_rows.specs.Rows.{Rows}
use Rattle.engine_rows.specs.Records.{no_call_lem, Kept, kept_of_row, kept_in, kept_of_node, kept_of}
use Rattle.engine_rows.proofs.Place.{Record, width, Tree, nil, put, erase}
use Rattle.engine_rows.proofs.Priority.{Range, range_nil, range_put, range_low, range_high, fork_fits, pow_pos}
use Rattle.engine_rows.proofs.Sorted.{In, here, there, in_left, in_right}
use Rattle.engine_rows.proofs.Kept.{slots_of}
use Rattle.engine_rows.proofs.Children.{Passed}
use Rattle.engine_rows.proofs.Steady.{name_count, CallsFit, calls_put, TableFits, Above, above_of, above_at, SteadyRecord, Steady, steady_nil, steady_put, names_length, owned_few, names_near, from_field}
use Rattle.engine_rows.proofs.Begun.{AllBegun, begun_nil, begun_put}
use Rattle.engine_rows.proofs.Filling.{KeptRow, KeptRows, kept_nil, kept_put}
use Rattle.engine_fork_bits.specs.ForkBits.{fork_bits}
use Rattle.engine_fork_bits.proofs.ForkBits.{fork_bits_are_at_most_three}

-- ── lists of what is kept ───────────────────────────────────────────────────────────────────────
pub record Parted (σ : Rows) (ss : List ℕ) (xs ys : List Kept) : Type 0 where
  pub first : List ℕ
  pub second : List ℕ
  pub both : ss ≡ first ++ second
  pub kept_first : kept_in σ first ≡ xs
  pub kept_second : kept_in σ second ≡ ys

part : (σ : Rows) (ss : List ℕ) (xs ys : List Kept) → kept_in σ ss ≡ xs ++ ys → Parted σ ss xs ys
unfolding kept_in
part σ ss [] ys e = record { first = []; second = ss; both = refl; kept_first = refl; kept_second = e }
part σ [] (x ∷ xs) ys e = let z : ◌≡◌ {A = ℕ} 0 1 = cc in absurd (omega arith)
part σ (s ∷ ss) (x ∷ xs) ys e =
    let h : kept_of_row (σ s) ≡ x = cc in
    let t : kept_in σ ss ≡ xs ++ ys = cc in
    let p = part σ ss xs ys t in
    record {
      first = s ∷ p.first;
      second = p.second;
      both = ap (λ l. s ∷ l) {y = p.first ++ p.second} p.both;
      kept_first = ap₂ ◌∷◌ h p.kept_first;
      kept_second = p.kept_second;
    }

none_kept : (σ : Rows) (ss : List ℕ) → kept_in σ ss ≡ [] → ss ≡ []
unfolding kept_in
none_kept σ [] e = refl
none_kept σ (s ∷ ss) e = let z : ◌≡◌ {A = ℕ} 0 1 = cc in absurd (omega arith)

pub record Headed (σ : Rows) (ss : List ℕ) (x : Kept) (xs : List Kept) : Type 0 where
  pub slot : ℕ
  pub others : List ℕ
  pub is : ss ≡ slot ∷ others
  pub kept : kept_of_row (σ slot) ≡ x
  pub kept_others : kept_in σ others ≡ xs

head_kept : (σ : Rows) (ss : List ℕ) (x : Kept) (xs : List Kept) → kept_in σ ss ≡ x ∷ xs → Headed σ ss x xs
unfolding kept_in
head_kept σ [] x xs e = let z : ◌≡◌ {A = ℕ} 0 1 = cc in absurd (omega arith)
head_kept σ (s ∷ ss) x xs e = record { slot = s; others = ss; is = refl; kept = cc; kept_others = cc }

kept_row : (σ : Rows) (level : ℕ) (x : Record) → kept_of_row (σ x.slot) ≡ record {
  level = level;
  child = x.child;
  place = x.place;
  own = x.own;
} → KeptRow σ level x
unfolding kept_of_row
kept_row σ level x e = record {
  level = ap (λ (k : Kept). k.level) e;
  child = ap (λ (k : Kept). k.child) e;
  place = ap (λ (k : Kept). k.place) e;
  own = ap (λ (k : Kept). k.own) e;
}

-- ── the tree with slots and priorities ──────────────────────────────────────────────────────────
module _ (listing : Listing) (T : TableFits listing) (rest : List Variable → Bool) (σ₀ : Rows) where
  -- what holds of the parent, for children at level lv whose first own address is c
  pub record Parent (u : Above) (names : List ℕ) (level c : ℕ) : Type 0 where
    pub named : u.names ≡ names
    pub deep : 32 ≤ u.bits + 3 * level
    pub near : (n : ℕ) → n < length names → address_of names n < c
    pub short : c + 16 ≤ 16 * (level + 2)
    pub high : level ≤ 10

  made_steady : (u : Above) (names : List ℕ) (level c : ℕ) (call : Call) (x : Record) → Parent u names level c →
      get_or u.calls x.child no_call_lem ≡ call → x.child < child_count u.calls →
      Passed (length names) (routine_at listing call.callee).kinds call.arguments →
      x.routine ≡ call.callee → x.names ≡ bound_names listing c names call → length x.own ≡ owned_by listing call.callee →
      x.low ≡ u.low + x.child * 2 ^ x.bits → x.bits ≡ u.bits → SteadyRecord listing u level c x
  unfolding bound_names owned_by name_count
  made_steady u names level c call x P e h g r b o low bits =
      let q = routine_at listing call.callee in
      let few : length q.kinds + q.locals ≤ 16 = T.few call.callee in
      let own : owned_count q.kinds q.locals ≤ length q.kinds + q.locals = owned_few listing q.kinds q.locals in
      let deep : 32 ≤ x.bits + 3 * level = rw bits P.deep in
      let short : c + length x.own ≤ 16 * (level + 2) = omega (arith, P.short, o) in
      record {
        numbered = h;
        called = r ∙ ap (λ z. z.callee) (sym e);
        bound = b ∙ ap₂ (bound_names listing c) (sym P.named) (sym e);
        owned = o ∙ ap (owned_by listing) (sym r);
        lowest = low;
        divided = bits;
        deep = deep;
        many = ap length b ∙ names_length listing names q.locals c g ∙ ap (name_count listing) (sym r);
        near = λ n l. subst (λ z. address_of z n < c + length x.own) (sym b)
            (rw o (names_near listing names q.locals c P.near c (le_refl c) g n (subst (λ z. n < length z) b l)));
        short = short;
        high = P.high;
      }

  pub record BuiltNode (u : Above) (level c i : ℕ) (n : Node) (ss : List ℕ) : Type 0 where
    pub self : Record
    pub below : Tree
    pub is : node self.routine self.place self.names self.own (erase below) ≡ n
    pub slots : self.slot ∷ slots_of below ≡ ss
    pub number : self.child ≡ i
    pub steady : SteadyRecord listing u level c self
    pub inside : Steady listing (above_of listing self) (suc level) (c + length self.own) below
    pub range : Range self.low (self.low + width self) below
    pub begun : self.is_new ≡ false
    pub all : AllBegun below
    pub kept : KeptRow σ₀ level self
    pub kept_below : KeptRows σ₀ (suc level) below

  pub record Built (u : Above) (level c i : ℕ) (f : Forest) (ss : List ℕ) : Type 0 where
    pub tree : Tree
    pub is : erase tree ≡ f
    pub slots : slots_of tree ≡ ss
    pub steady : Steady listing u level c tree
    pub range : Range (u.low + i * 2 ^ u.bits) (u.low + child_count u.calls * 2 ^ u.bits) tree
    pub all : AllBegun tree
    pub kept : KeptRows σ₀ level tree

  -- a node and its later siblings
  more_built : (u : Above) (level c i : ℕ) (n : Node) (f : Forest) (ss ss₁ ss₂ : List ℕ) → ss ≡ ss₁ ++ ss₂ → ((s : ℕ) → In s ss → s < 64) →
      BuiltNode u level c i n ss₁ → Built u level c (suc i) f ss₂ → Built u level c i (more n f) ss
  unfolding erase slots_of
  more_built u level c i n f ss ss₁ ss₂ e small N F =
      record {
        tree = put N.self N.below F.tree;
        is = ap₂ more N.is F.is;
        slots = ap₂ ◌++◌ N.slots F.slots ∙ sym e;
        steady = steady_put N.steady N.inside F.steady;
        range = range_put {x = N.self} at_least (pow_pos N.self.bits) slot_small N.range
            (subst (λ z. Range z (u.low + child_count u.calls * 2 ^ u.bits) F.tree) next F.range);
        all = begun_put N.begun N.all F.all;
        kept = kept_put N.kept N.kept_below F.kept;
      }
    where
      low_is : N.self.low ≡ u.low + i * 2 ^ u.bits
      low_is = N.steady.lowest ∙ ap₂ (λ k b. u.low + k * 2 ^ b) N.number N.steady.divided

      width_is : 2 ^ N.self.bits ≡ 2 ^ u.bits
      width_is = ap (λ b. 2 ^ b) N.steady.divided

      at_least : u.low + i * 2 ^ u.bits ≤ N.self.low
      at_least = omega (arith, low_is)

      next : u.low + suc i * 2 ^ u.bits ≡ N.self.low + 2 ^ N.self.bits
      next = omega (arith, low_is, width_is, suc-mul i (2 ^ u.bits))

      slot_small : N.self.slot < 64
      slot_small = small N.self.slot (subst (λ l. In N.self.slot l) (sym e)
          (in_left ss₁ ss₂ (subst (λ l. In N.self.slot l) N.slots (here refl))))

  -- ── child fields one by one ───────────────────────────────────────────────────────────────────
  fork_calls : (x : Record) (cs : List Call) → instruction_at listing x.routine x.place ≡ fork cs → drop 0 (above_of listing x).calls ≡ cs
  fork_calls x cs i = ap (λ a. a.calls) (above_at listing x cs i)

  fork_count : (x : Record) (cs : List Call) → instruction_at listing x.routine x.place ≡ fork cs →
      0 + child_count cs ≡ child_count (above_of listing x).calls
  fork_count x cs i = zero-add (child_count cs) ∙ ap (λ a. child_count a.calls) (sym (above_at listing x cs i))

  no_field : (u : Above) (i : ℕ) → i + child_count [] ≡ child_count u.calls → u.low + i * 2 ^ u.bits ≤ u.low + child_count u.calls * 2 ^ u.bits
  unfolding child_count
  no_field u i e = rw (← e, add-zero i) (le_refl _)

  next_field : (i : ℕ) (c : Call) (cs : List Call) {n : ℕ} → i + child_count (c ∷ cs) ≡ n → suc i + child_count cs ≡ n
  unfolding child_count
  next_field i c cs e = omega arith

  one_further : (u : Above) (i : ℕ) → u.low + i * 2 ^ u.bits ≤ u.low + suc i * 2 ^ u.bits
  one_further u i = omega (arith, suc-mul i (2 ^ u.bits))

  later_fit : {n : ℕ} {c : Call} {cs : List Call} → CallsFit listing n (c ∷ cs) → CallsFit listing n cs
  later_fit (calls_put g r) = r

  first_fit : {n : ℕ} {c : Call} {cs : List Call} → CallsFit listing n (c ∷ cs) → Passed n (routine_at listing c.callee).kinds c.arguments
  first_fit (calls_put g r) = g

  -- the record of a routine, and the parent that it is to its children
  abbrev record_at : Above → ℕ → ℕ → ℕ → List ℕ → List Variable → ℕ → Record
  record_at u s r place names own i = record {
    slot = s;
    child = i;
    low = u.low + i * 2 ^ u.bits;
    bits = u.bits;
    is_new = false;
    routine = r;
    place = place;
    names = names;
    own = own;
  }

  record_steady : (u : Above) (callerNames : List ℕ) (level c i : ℕ) (call : Call) (s r place : ℕ) (names : List ℕ) (own : List Variable) →
      Parent u callerNames level c → get_or u.calls i no_call_lem ≡ call → i < child_count u.calls →
      Passed (length callerNames) (routine_at listing call.callee).kinds call.arguments → MadeBy listing rest c callerNames call r names own →
      SteadyRecord listing u level c (record_at u s r place names own i)
  record_steady u callerNames level c i call s r place names own P e h g m =
      made_steady u callerNames level c call (record_at u s r place names own i) P e h g m.number m.bound m.owned refl refl

  parent_of : (u : Above) (level c : ℕ) (x : Record) (cs : List Call) → SteadyRecord listing u level c x →
      instruction_at listing x.routine x.place ≡ fork cs → level ≤ 9 → c + 16 ≤ 16 * (level + 2) →
      Parent (above_of listing x) x.names (suc level) (c + length x.own)
  parent_of u level c x cs st i l short =
      subst (λ a. Parent a x.names (suc level) (c + length x.own)) (sym (above_at listing x cs i))
      (record { named = refl; deep = deep; near = st.near; short = short'; high = high })
    where
      deep : 32 ≤ x.bits - fork_bits (child_count cs) + 3 * suc level
      deep = omega (arith, fork_bits_are_at_most_three (child_count cs), st.deep, l)

      short' : c + length x.own + 16 ≤ 16 * (suc level + 2)
      short' = omega (arith, st.short)

      high : suc level ≤ 10
      high = omega arith

  -- the children's ranges fit in their parent's
  children_fit : (u : Above) (level c : ℕ) (x : Record) (cs : List Call) (t : Tree) → SteadyRecord listing u level c x →
      instruction_at listing x.routine x.place ≡ fork cs → level ≤ 9 →
      Range ((above_of listing x).low + 0 * 2 ^ (above_of listing x).bits)
      ((above_of listing x).low + child_count (above_of listing x).calls * 2 ^ (above_of listing x).bits) t → Range x.low (x.low + width x) t
  children_fit u level c x cs t st i l r = range_high (x.low + width x) last
      (range_low x.low first (subst (λ a. Range (a.low + 0 * 2 ^ a.bits) (a.low + child_count a.calls * 2 ^ a.bits) t)
      (above_at listing x cs i) r))
    where
      w : ℕ
      w = 2 ^ (x.bits - fork_bits (child_count cs))

      enough : fork_bits (child_count cs) ≤ x.bits
      enough = omega (arith, fork_bits_are_at_most_three (child_count cs), st.deep, l)

      fits : child_count cs * w ≤ 2 ^ x.bits
      fits = fork_fits (child_count cs) x.bits (T.some x.routine x.place cs i).1 enough

      first : x.low ≤ x.low + 0 * w
      first = omega arith

      last : x.low + child_count cs * w ≤ x.low + width x
      last = omega (arith, fits)

  mutual
    unfolding kept_of erase slots_of

    build_node : {level c : ℕ} {callerNames : List ℕ} {call : Call} {n : Node} (A : Asleep listing rest level c callerNames call n) (u : Above)
        (i : ℕ) (ss : List ℕ) → Parent u callerNames level c → get_or u.calls i no_call_lem ≡ call → i < child_count u.calls →
        Passed (length callerNames) (routine_at listing call.callee).kinds call.arguments → ((s : ℕ) → In s ss → s < 64) →
        kept_in σ₀ ss ≡ kept_of_node A i → BuiltNode u level c i n ss
    build_node (waits {level = level} {base = c} {callerNames = callerNames} {c = call} {r = r} {place = place} {names = names} {own = own} m e) u i
        ss P f h g small k =
        let H = head_kept σ₀ ss (record { level = level; child = i; place = place; own = own }) [] k in
        let x = record_at u H.slot r place names own i in
        let inside : x.low ≤ x.low + width x = omega arith in
        record {
          self = x;
          below = nil;
          is = refl;
          slots = sym (H.is ∙ ap (λ l. H.slot ∷ l) (none_kept σ₀ H.others H.kept_others));
          number = refl;
          steady = record_steady u callerNames level c i call H.slot r place names own P f h g m;
          inside = steady_nil;
          range = range_nil inside;
          begun = refl;
          all = begun_nil;
          kept = kept_row σ₀ level x H.kept;
          kept_below = kept_nil;
        }
    build_node (joins {level = level} {base = c} {callerNames = callerNames} {c = call} {r = r} {place = place} {names = names} {own = own} {cs = cs}
        m e l a d) u i ss P f h g small k =
        let H = head_kept σ₀ ss (record { level = level; child = i; place = place; own = own }) (kept_of d 0) k in
        let x = record_at u H.slot r place names own i in
        let st = record_steady u callerNames level c i call H.slot r place names own P f h g m in
        let B = build d (above_of listing x) 0 H.others (parent_of u level c x cs st e l P.short) (fork_calls x cs e) (fork_count x cs e)
        (subst (λ q. CallsFit listing q cs) (sym st.many) (T.forks r place cs e))
        (λ s j. small s (subst (λ q. In s q) (sym H.is) (there j))) H.kept_others in
        record {
          self = x;
          below = B.tree;
          is = ap (node r place names own) B.is;
          slots = ap (λ q. H.slot ∷ q) B.slots ∙ sym H.is;
          number = refl;
          steady = st;
          inside = B.steady;
          range = children_fit u level c x cs B.tree st e l B.range;
          begun = refl;
          all = B.all;
          kept = kept_row σ₀ level x H.kept;
          kept_below = B.kept;
        }

    pub build : {level c : ℕ} {names : List ℕ} {cs : List Call} {f : Forest} (D : LiveChildren listing rest level c names cs f) (u : Above) (i : ℕ)
        (ss : List ℕ) → Parent u names level c → drop i u.calls ≡ cs → i + child_count cs ≡ child_count u.calls →
        CallsFit listing (length names) cs → ((s : ℕ) → In s ss → s < 64) → kept_in σ₀ ss ≡ kept_of D i → Built u level c i f ss
    build no_more u i ss P e n g small k =
        record {
          tree = nil;
          is = refl;
          slots = sym (none_kept σ₀ ss k);
          steady = steady_nil;
          range = range_nil (no_field u i n);
          all = begun_nil;
          kept = kept_nil;
        }
    build (ended {c = call} {cs = cs} d) u i ss P e n g small k =
        let F = from_field listing i u.calls call cs e in
        let B = build d u (suc i) ss P F.later (next_field i call cs n) (later_fit g) small k in
        record {
          tree = B.tree;
          is = B.is;
          slots = B.slots;
          steady = B.steady;
          range = range_low (u.low + i * 2 ^ u.bits) (one_further u i) B.range;
          all = B.all;
          kept = B.kept;
        }
    build (lives {c = call} {cs = cs} {n = node'} {f = f} a d) u i ss P e n g small k =
        let F = from_field listing i u.calls call cs e in
        let S = part σ₀ ss (kept_of_node a i) (kept_of d (suc i)) k in
        more_built u _ _ i node' f ss S.first S.second S.both small
        (build_node a u i S.first P F.field F.there (first_fit g)
        (λ s j. small s (subst (λ q. In s q) (sym S.both) (in_left S.first S.second j))) S.kept_first)
        (build d u (suc i) S.second P F.later (next_field i call cs n) (later_fit g)
        (λ s j. small s (subst (λ q. In s q) (sym S.both) (in_right S.first S.second j))) S.kept_second)
