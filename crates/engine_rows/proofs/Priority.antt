-- Priorities: ranges nest and rise in walking order, so that the ready list in walking order is sorted.
-- Letters: lo and hi the least and the bound of a range, a and b those of a rising list; the others as in Place.
use mathlib.Core.Path.{◌≡◌, refl, sym}
use mathlib.Core.Bool.{Bool, true, false}
use mathlib.Core.List.{List, [], ◌∷◌, ◌++◌}
use Prim.Native.Nat.{ℕ, zero, suc, ◌+◌, ◌*◌, ◌-◌, ◌/◌, ◌^◌, ◌≤◌, ◌<◌}
use native.Mathlib.Nat.{le_refl, le_trans, add-zero, add-suc, pow-succ', mul-one, mul_left_comm, mul-le-mul_right, suc-mul}
use native.Mathlib.Omega.{arith}
use lib.ListN.{length}
use Rattle.listing.specs.Listing.{Call, Listing}
use Rattle.walk.specs.Memory.{addresses_of, bind_names, own_variables, top, named_in}
use Rattle.walk.specs.State.{Variable}
use Rattle.walk.specs.Walk.{child_count, new_routine, new_routines, routine_at}
use Rattle.engine_rows.specs.Triggers.{cons_if}
use Rattle.engine_rows.proofs.Place.{Record, width, Tree, nil, put, ◌⋈◌, Frame, plug, memory_of, key, ready, ready_up, will_run, erase}
pub use Rattle.engine_rows.specs.Tree.{Range, range_nil, range_put}
use Rattle.engine_fork_bits.specs.ForkBits.{fork_bits}
use Rattle.engine_fork_bits.proofs.ForkBits.{fork_bits_are_fewest}

-- strictly rising, in [a, b)
pub data Rising : ℕ → ℕ → List ℕ → Type 0 where
  rising_nil : {a b : ℕ} → a ≤ b → Rising a b []
  rising_put : {a b k : ℕ} {l : List ℕ} → a ≤ k → Rising (suc k) b l → Rising a b (k ∷ l)

pub rising_low : {a b : ℕ} {l : List ℕ} (a' : ℕ) → a' ≤ a → Rising a b l → Rising a' b l
rising_low a' h (rising_nil e) = rising_nil (le_trans h e)
rising_low a' h (rising_put e r) = rising_put (le_trans h e) r

pub rising_high : {a b : ℕ} {l : List ℕ} (b' : ℕ) → b ≤ b' → Rising a b l → Rising a b' l
rising_high b' h (rising_nil e) = rising_nil (le_trans e h)
rising_high b' h (rising_put e r) = rising_put e (rising_high b' h r)

pub rising_le : {a b : ℕ} {l : List ℕ} → Rising a b l → a ≤ b
rising_le (rising_nil e) = e
rising_le (rising_put {a = a} {b = b} {k = k} e r) = let h : suc k ≤ b = rising_le r in omega arith

pub rising_append : {a b c : ℕ} {l m : List ℕ} → Rising a b l → Rising b c m → Rising a c (l ++ m)
rising_append (rising_nil {a = a} e) s = rising_low a e s
rising_append (rising_put e r) s = rising_put e (rising_append r s)

pub range_low : {lo hi : ℕ} {t : Tree} (lo' : ℕ) → lo' ≤ lo → Range lo hi t → Range lo' hi t
range_low lo' h (range_nil e) = range_nil (le_trans h e)
range_low lo' h (range_put e w s k f) = range_put (le_trans h e) w s k f

pub range_high : {lo hi : ℕ} {t : Tree} (hi' : ℕ) → hi ≤ hi' → Range lo hi t → Range lo hi' t
range_high hi' h (range_nil e) = range_nil (le_trans e h)
range_high hi' h (range_put e w s k f) = range_put e w s k (range_high hi' h f)

pub range_le : {lo hi : ℕ} {t : Tree} → Range lo hi t → lo ≤ hi
range_le (range_nil e) = e
range_le (range_put {lo = lo} {hi = hi} {x = x} e w s k f) = let h : x.low + width x ≤ hi = range_le f in omega arith

pub range_join : {lo mid hi : ℕ} {t f : Tree} → Range lo mid t → Range mid hi f → Range lo hi (t ⋈ f)
unfolding ◌⋈◌
range_join (range_nil {lo = lo} e) s = range_low lo e s
range_join (range_put e w s k f) r = range_put e w s k (range_join f r)

pub record Split (lo hi : ℕ) (t f : Tree) : Type 0 where
  pub mid : ℕ
  pub left : Range lo mid t
  pub right : Range mid hi f

pub range_split : {lo hi : ℕ} (t f : Tree) → Range lo hi (t ⋈ f) → Split lo hi t f
unfolding ◌⋈◌
range_split {lo} nil f r = record { mid = lo; left = range_nil (le_refl lo); right = r }
range_split {lo = lo} {hi = hi} (put x k t) f (range_put e w s c r) =
    let p = range_split {lo = x.low + width x} t f r in record { mid = p.mid; left = range_put e w s c p.left; right = p.right }

pub record Parts (lo hi : ℕ) (x : Record) (k f : Tree) : Type 0 where
  pub lowest : lo ≤ x.low
  pub wider : 1 ≤ width x
  pub slots : x.slot < 64
  pub children : Range x.low (x.low + width x) k
  pub siblings : Range (x.low + width x) hi f

pub parts : {lo hi : ℕ} {x : Record} {k f : Tree} → Range lo hi (put x k f) → Parts lo hi x k f
parts (range_put e w s k r) = record { lowest = e; wider = w; slots = s; children = k; siblings = r }

-- strictly rising by priority, in [a, b): a key is 64 times a priority, and a slot
pub data Spread : ℕ → ℕ → List ℕ → Type 0 where
  spread_nil : {a b : ℕ} → a ≤ b → Spread a b []
  spread_put : {a b k : ℕ} {l : List ℕ} → a ≤ k / 64 → Spread (suc (k / 64)) b l → Spread a b (k ∷ l)

pub spread_low : {a b : ℕ} {l : List ℕ} (a' : ℕ) → a' ≤ a → Spread a b l → Spread a' b l
spread_low a' h (spread_nil e) = spread_nil (le_trans h e)
spread_low a' h (spread_put e r) = spread_put (le_trans h e) r

pub spread_append : {a b c : ℕ} {l m : List ℕ} → Spread a b l → Spread b c m → Spread a c (l ++ m)
spread_append (spread_nil {a = a} e) s = spread_low a e s
spread_append (spread_put e r) s = spread_put e (spread_append r s)

cons_if-spread : {a b : ℕ} (w : Bool) (k : ℕ) (l : List ℕ) → a ≤ k / 64 → Spread (suc (k / 64)) b l → Spread a b (cons_if w k l)
unfolding cons_if
cons_if-spread true k l e r = spread_put e r
cons_if-spread {a} false k l e r = spread_low a (le_trans e (omega arith)) r

key_low : (x : Record) → x.slot < 64 → key x / 64 ≡ x.low
unfolding key
key_low x h = omega arith

cons_if-rising : {a b : ℕ} (w : Bool) (k : ℕ) (l : List ℕ) → a ≤ k → Rising (suc k) b l → Rising a b (cons_if w k l)
unfolding cons_if
cons_if-rising true k l e r = rising_put e r
cons_if-rising {a} false k l e r = rising_low a (omega arith) r

module _ (listing : Listing) where
  pub ready_rising : {lo hi : ℕ} {t : Tree} (m : List Variable) → Range lo hi t → Rising (lo * 64) (hi * 64) (ready listing m t)
  unfolding ready key
  ready_rising m (range_nil {lo = lo} {hi = hi} e) = let h : lo * 64 ≤ hi * 64 = omega arith in rising_nil h
  ready_rising m (range_put {lo = lo} {x = x} {k = nil} {f = f} e w s k r) =
      cons_if-rising (will_run listing m x) (key x) (ready listing m f) (omega arith) (rising_low (suc (key x)) (omega arith) (ready_rising m r))
  ready_rising m (range_put {lo = lo} {x = x} {k = put y c g} {f = f} e w s k r) =
      rising_append (rising_low (lo * 64) (omega arith) (ready_rising (m ++ x.own) k)) (ready_rising m r)

  pub ready_spread : {lo hi : ℕ} {t : Tree} (m : List Variable) → Range lo hi t → Spread lo hi (ready listing m t)
  unfolding ready
  ready_spread m (range_nil e) = spread_nil e
  ready_spread m (range_put {lo = lo} {x = x} {k = nil} {f = f} e w s k r) =
      let q : key x / 64 ≡ x.low = key_low x s in
      cons_if-spread (will_run listing m x) (key x) (ready listing m f) (omega arith) (spread_low (suc (key x / 64)) (omega arith) (ready_spread m r))
  ready_spread m (range_put {lo = lo} {x = x} {k = put y c g} {f = f} e w s k r) =
      spread_append (spread_low lo e (ready_spread (m ++ x.own) k)) (ready_spread m r)

  -- what a place in a ranged tree gives
  pub record Around (environment : List Variable) (lo hi : ℕ) (fs : List Frame) (t : Tree) : Type 0 where
    pub from : ℕ
    pub upto : ℕ
    pub inside : Range from upto t
    pub again : (t' : Tree) → Range from upto t' → Range lo hi (plug fs t')
    pub apart : Spread upto hi (ready_up listing environment fs)
    pub above : Rising (upto * 64) (hi * 64) (ready_up listing environment fs)

  pub around : (environment : List Variable) (lo hi : ℕ) (fs : List Frame) (t : Tree) → Range lo hi (plug fs t) → Around environment lo hi fs t
  unfolding plug ready_up
  around environment lo hi [] t r = record {
    from = lo;
    upto = hi;
    inside = r;
    again = λ t' r'. r';
    apart = spread_nil (le_refl _);
    above = rising_nil (le_refl _);
  }
  around environment lo hi (f ∷ fs) t r =
      let o = around environment lo hi fs (f.done ⋈ put f.self t f.todo) r in
      let s = range_split f.done (put f.self t f.todo) o.inside in
      let q = parts s.right in
      record {
        from = f.self.low;
        upto = f.self.low + width f.self;
        inside = q.children;
        again = λ t' r'. o.again (f.done ⋈ put f.self t' f.todo)
            (range_join s.left (range_put q.lowest q.wider q.slots r' q.siblings));
        apart = spread_append (ready_spread (memory_of environment fs) q.siblings) o.apart;
        above = rising_append (ready_rising (memory_of environment fs) q.siblings) o.above;
      }

  -- the ready list rises, above the one that runs
  pub ready_sorted : (environment : List Variable) (lo hi : ℕ) (fs : List Frame) (done : Tree) (x : Record) (k todo : Tree) →
      Range lo hi (plug fs (done ⋈ put x k todo)) →
      Rising (suc (key x)) (hi * 64) (ready listing (memory_of environment fs) todo ++ ready_up listing environment fs)
  unfolding key
  ready_sorted environment lo hi fs done x k todo r =
      let o = around environment lo hi fs (done ⋈ put x k todo) r in
      let q = parts (range_split done (put x k todo) o.inside).right in
      rising_low (suc (key x)) (omega arith) (rising_append (ready_rising (memory_of environment fs) q.siblings) o.above)

  pub ready_apart : (environment : List Variable) (lo hi : ℕ) (fs : List Frame) (done : Tree) (x : Record) (k todo : Tree) →
      Range lo hi (plug fs (done ⋈ put x k todo)) →
      Spread x.low hi (ready listing (memory_of environment fs) todo ++ ready_up listing environment fs)
  ready_apart environment lo hi fs done x k todo r =
      let o = around environment lo hi fs (done ⋈ put x k todo) r in
      let q = parts (range_split done (put x k todo) o.inside).right in
      spread_low x.low (omega (arith, q.wider)) (spread_append (ready_spread (memory_of environment fs) q.siblings) o.apart)

-- ── a fork's children ───────────────────────────────────────────────────────────────────────────

pub bits_enough : (n : ℕ) → n ≤ 8 → n ≤ 2 ^ fork_bits n
bits_enough zero h = omega arith
bits_enough (suc n) h = (fork_bits_are_fewest (suc n) (omega arith) h).enough

pub pow_add : (a b : ℕ) → 2 ^ (a + b) ≡ 2 ^ a * 2 ^ b
pow_add a zero = rw (add-zero a) (sym (mul-one (2 ^ a)))
pow_add a (suc b) = rw (add-suc a b, pow-succ' 2 (a + b), pow-succ' 2 b, pow_add a b) (mul_left_comm 2 (2 ^ a) (2 ^ b))

-- the children of a routine of width 2 ^ d fit into it, n of width 2 ^ (d - bits n)
pub fork_fits : (n d : ℕ) → n ≤ 8 → fork_bits n ≤ d → n * 2 ^ (d - fork_bits n) ≤ 2 ^ d
fork_fits n d h l =
    let e : d ≡ fork_bits n + (d - fork_bits n) = omega arith in
    rw (← pow_add (fork_bits n) (d - fork_bits n), ← e) at (mul-le-mul_right (2 ^ (d - fork_bits n)) (bits_enough n h))

-- ── the new routines of a fork ──────────────────────────────────────────────────────────────────
unfoldable pub later_slots : List ℕ → List ℕ
later_slots [] = []
later_slots (s ∷ ss) = ss

-- the child that field number i makes in slot s at `now`; its parent's lowest priority is `low`, its own bits `b`
unfoldable pub new_child : Listing → ℕ → List Variable → List ℕ → Call → ℕ → ℕ → ℕ → ℕ → Record
new_child listing now m ns c i s low b =
    let q = routine_at listing c.callee in
    let xs = addresses_of ns c.arguments in
    record {
      slot = s;
      child = i;
      low = low + i * 2 ^ b;
      bits = b;
      is_new = true;
      routine = c.callee;
      place = 0;
      names = bind_names q.kinds xs q.locals (length m);
      own = own_variables now q.kinds c.arguments q.locals (named_in m ns);
    }

unfoldable pub new_children : Listing → ℕ → List Variable → List ℕ → List Call → List ℕ → ℕ → ℕ → ℕ → Tree
new_children listing now m ns [] ss i low b = nil
new_children listing now m ns (c ∷ cs) ss i low b = put (new_child listing now m ns c i (top ss) low b) nil
    (new_children listing now m ns cs (later_slots ss) (suc i) low b)

pub new_children-erase : (listing : Listing) (now : ℕ) (m : List Variable) (ns : List ℕ) (cs : List Call) (ss : List ℕ) (i low b : ℕ) →
    erase (new_children listing now m ns cs ss i low b) ≡ new_routines listing now m ns cs
unfolding new_children erase new_routines new_routine new_child
new_children-erase listing now m ns [] ss i low b = refl
new_children-erase listing now m ns (c ∷ cs) ss i low b = rw (new_children-erase listing now m ns cs (later_slots ss) (suc i) low b)

pub data Small : List ℕ → Type 0 where
  small_nil : Small []
  small_put : {s : ℕ} {ss : List ℕ} → s < 64 → Small ss → Small (s ∷ ss)

top_small : (ss : List ℕ) → Small ss → top ss < 64
unfolding top
top_small _ small_nil = omega arith
top_small _ (small_put h r) = h

later_slots-small : (ss : List ℕ) → Small ss → Small (later_slots ss)
unfolding later_slots
later_slots-small _ small_nil = small_nil
later_slots-small _ (small_put h r) = r

pub pow_pos : (k : ℕ) → 0 < 2 ^ k
pow_pos zero = omega arith
pow_pos (suc k) = rw (pow-succ' 2 k) (let d : 0 < 2 ^ k = pow_pos k in omega arith)

pub new_children-range : (listing : Listing) (now : ℕ) (m : List Variable) (ns : List ℕ) (cs : List Call) (ss : List ℕ) (i low b : ℕ) → Small ss →
    Range (low + i * 2 ^ b) (low + (i + child_count cs) * 2 ^ b) (new_children listing now m ns cs ss i low b)
unfolding new_children new_child child_count
new_children-range listing now m ns [] ss i low b q = let e : i + 0 ≡ i = omega arith in rw e (range_nil (le_refl _))
new_children-range listing now m ns (c ∷ cs) ss i low b q =
    let n : low + i * 2 ^ b ≤ low + i * 2 ^ b + 2 ^ b = omega arith in
    range_put (le_refl _) (pow_pos b) (top_small ss q) (range_nil n)
    (rw (next, last) at (new_children-range listing now m ns cs (later_slots ss) (suc i) low b (later_slots-small ss q)))
  where
    next : low + suc i * 2 ^ b ≡ low + i * 2 ^ b + 2 ^ b
    next = omega (arith, suc-mul i (2 ^ b))

    last : suc i + child_count cs ≡ i + suc (child_count cs)
    last = omega arith
