-- Between instants nobody is new: the tree with every routine begun, and where each then is.
-- Letters as in Place and Held.
use mathlib.Core.Path.{◌≡◌, refl, sym, ap, ap₂, ◌∙◌}
use mathlib.Core.Bool.{Bool, true, false}
use mathlib.Core.List.{List}
use Prim.Native.Nat.{ℕ, suc, ◌≤◌}
use Rattle.listing.specs.Listing.{Listing, Call, wait, fork}
use Rattle.walk.specs.State.{Variable, Node, node, Forest, empty, more}
use Rattle.walk.specs.Walk.{instruction_at}
use Rattle.walk.specs.Question7.{Asleep, waits, joins, LiveChildren, no_more, ended, lives, some_alive}
use Rattle.engine_rows.specs.Rows.{Rows}
use Rattle.engine_rows.proofs.Place.{Record, Tree, nil, put, erase, Rests, rests_nil, rests_wait, rests_join}
use Rattle.engine_rows.proofs.Priority.{Range, range_nil, range_put}
use Rattle.engine_rows.proofs.Held.{Entry, Held, held_nil, held_put, row_for, root_count}
use Rattle.engine_rows.proofs.Kept.{slots_of}
use Rattle.engine_rows.proofs.Steady.{Above, above_of, SteadyRecord, Steady, steady_nil, steady_put}
use Rattle.engine_rows.proofs.Taking.{bool_not}
pub use Rattle.engine_rows.specs.Tree.{AllBegun, begun_nil, begun_put}

-- ── a tree with every routine begun ─────────────────────────────────────────────────────────────
unfoldable pub begun_record : Record → Record
begun_record x = record {
  slot = x.slot;
  child = x.child;
  low = x.low;
  bits = x.bits;
  is_new = false;
  routine = x.routine;
  place = x.place;
  names = x.names;
  own = x.own;
}

unfoldable pub begun : Tree → Tree
begun nil = nil
begun (put x k f) = put (begun_record x) (begun k) (begun f)

pub begun_all : (t : Tree) → AllBegun (begun t)
unfolding begun begun_record
begun_all nil = begun_nil
begun_all (put x k f) = begun_put refl (begun_all k) (begun_all f)

pub begun_erase : (t : Tree) → erase (begun t) ≡ erase t
unfolding begun begun_record erase
begun_erase nil = refl
begun_erase (put x k f) = ap₂ (λ a b. more (node x.routine x.place x.names x.own a) b) (begun_erase k) (begun_erase f)

pub begun_slots : (t : Tree) → slots_of (begun t) ≡ slots_of t
unfolding begun begun_record slots_of
begun_slots nil = refl
begun_slots (put x k f) = rw (begun_slots k, begun_slots f)

begun_count : (t : Tree) → root_count t ≡ root_count (begun t)
unfolding begun root_count
begun_count nil = refl
begun_count (put x k f) = ap suc (begun_count f)

pub begun_held : {σ : Rows} {p : List Entry} {b : ℕ} {t : Tree} → Held σ false p b t → Held σ false p b (begun t)
unfolding begun begun_record row_for
begun_held held_nil = held_nil
begun_held {σ} {p} {b} (held_put {x = x} {k = k} {f = f} z m e hk hf) =
    held_put z (λ q. bool_not (sym q)) (e ∙ ap (λ n. row_for z p b n x) (begun_count k)) (begun_held hk) (begun_held hf)

pub begun_range : {lo hi : ℕ} {t : Tree} → Range lo hi t → Range lo hi (begun t)
unfolding begun begun_record
begun_range (range_nil e) = range_nil e
begun_range (range_put e w s k f) = range_put e w s (begun_range k) (begun_range f)

begun_record_lem : {listing : Listing} {u : Above} {level c : ℕ} {x : Record} → SteadyRecord listing u level c x →
    SteadyRecord listing u level c (begun_record x)
unfolding begun_record
begun_record_lem a =
    record {
      numbered = a.numbered;
      called = a.called;
      bound = a.bound;
      owned = a.owned;
      lowest = a.lowest;
      divided = a.divided;
      deep = a.deep;
      many = a.many;
      near = a.near;
      short = a.short;
      high = a.high;
    }

begun_above : (listing : Listing) (x : Record) → above_of listing x ≡ above_of listing (begun_record x)
unfolding above_of begun_record
begun_above listing x = refl

begun_own : (x : Record) → x.own ≡ (begun_record x).own
unfolding begun_record
begun_own x = refl

pub begun_steady : {listing : Listing} {u : Above} {level c : ℕ} {t : Tree} → Steady listing u level c t → Steady listing u level c (begun t)
unfolding begun
begun_steady steady_nil = steady_nil
begun_steady {listing} {u} {level} {c} (steady_put {x = x} {k = k} {f = f} a b d) =
    steady_put {x = begun_record x} {k = begun k} {f = begun f} (begun_record_lem a) (rw (← begun_above listing x, ← begun_own x) (begun_steady b))
    (begun_steady d)

-- ── "each asleep at a `W` or at an `F` of which a child lives" ──────────────────────────────────
module _ (listing : Listing) (rest : List Variable → Bool) where
  -- of a forest at this level; `rest` says what owned variables are
  pub data Settled : ℕ → Forest → Type 0 where
    nobody : {level : ℕ} → Settled level empty
    at_wait : {level r place : ℕ} {names ns : List ℕ} {own : List Variable} {f : Forest} → rest own ≡ true → instruction_at listing r place ≡ wait ns →
        Settled level f → Settled level (more (node r place names own empty) f)
    at_fork : {level r place : ℕ} {names : List ℕ} {cs : List Call} {own : List Variable} {n : Node} {ns f : Forest} → rest own ≡ true →
        instruction_at listing r place ≡ fork cs → level ≤ 9 → Settled (suc level) (more n ns) → Settled level f →
        Settled level (more (node r place names own (more n ns)) f)

  joined_settled : {level r place : ℕ} {names : List ℕ} {cs : List Call} {own : List Variable} (k f : Forest) → rest own ≡ true →
      instruction_at listing r place ≡ fork cs → level ≤ 9 → some_alive k ≡ true → Settled (suc level) k → Settled level f →
      Settled level (more (node r place names own k) f)
  unfolding some_alive
  joined_settled empty f o i l a rk rf = bool_not (sym a)
  joined_settled (more n ns) f o i l a rk rf = at_fork o i l rk rf

  mutual
    node_settled : {level base : ℕ} {callerNames : List ℕ} {c : Call} {n : Node} (f : Forest) → Asleep listing rest level base callerNames c n →
        Settled level f → Settled level (more n f)
    node_settled f (waits m i) rf = at_wait m.resting i rf
    node_settled f (joins {f = k} m i l a d) rf = joined_settled k f m.resting i l a (state_settled d) rf

    pub state_settled : {level base : ℕ} {names : List ℕ} {cs : List Call} {f : Forest} → LiveChildren listing rest level base names cs f →
        Settled level f
    state_settled no_more = nobody
    state_settled (ended d) = state_settled d
    state_settled (lives {f = f} a d) = node_settled f a (state_settled d)

  pub tree_rests : {level : ℕ} (t : Tree) → AllBegun t → Settled level (erase t) → Rests listing false t
  unfolding erase
  tree_rests nil b w = rests_nil
  tree_rests (put x nil f) (begun_put n k b) (at_wait o i w) = rests_wait n i (tree_rests f b w)
  tree_rests (put x (put y k g) f) (begun_put n bk b) (at_fork o i l wk w) = rests_join n i (tree_rests (put y k g) bk wk) (tree_rests f b w)
