-- Two runs of one subtree, on two listings that have its routines in common and on two memories that show it the same: what they
-- have in common when both go through. First its pieces: falling asleep, ending, children in turn, and the join.
-- Letters: zone and now as in `Reach`; code says which routines may be met, and has a listing with them; `me` is the frame of
-- a routine; s and s' are running, o and o' outcomes, a and a' the turns in them.
use mathlib.Core.Path.{◌≡◌, refl, ap, ap₂, ◌∙◌}
use mathlib.Core.List.{List, [], ◌∷◌}
use Prim.Native.Nat.{ℕ, suc, ◌≤◌}
use native.Mathlib.Omega.{arith}
use lib.ListN.{length, length-append}
use lib.Seq.{length-take-le}
use Rattle.listing.specs.Listing.{Listing, Call, wait, fork}
use Rattle.walk.specs.State.{Variable, Node, node, Forest, empty, more, ◌⊕◌, Frame, frame, go_to, next, Running, Turn, Result, stop, ok, ◌>>=◌}
use Rattle.walk.specs.Walk.{routine_at, instruction_at, instruction_of, enter, sleep, leave, Runner, in_turn, begin, join}
use Rattle.walk.specs.Instant.{due_of_variables, due_of_forest}
use Rattle.walk_halves.proofs.Due.{NotBefore, nothing_due, both_not_before, not_before_in_both, drop_not_before}
use Rattle.walk_halves.proofs.Reach as Reach
use Rattle.walk_halves.proofs.Reach.{Zone, append_alike, take_alike, drop_same, kept_refl, kept_then, append_keeps, take_keeps}

-- ── outcomes: related if both went through ────────────────────────────────────────────────────────
pub data Both (R : Turn → Turn → Type 0) : Result Turn → Result Turn → Type 0 where
  first_stopped : {k : ℕ} {o : Result Turn} → Both R (stop k) o
  second_stopped : {k : ℕ} {o : Result Turn} → Both R o (stop k)
  both_went : {a a' : Turn} → R a a' → Both R (ok a) (ok a')

pub both_then : {R S : Turn → Turn → Type 0} (o o' : Result Turn) (f f' : Turn → Result Turn) → Both R o o' →
    ((a a' : Turn) → R a a' → Both S (f a) (f' a')) → Both S (o >>= f) (o' >>= f')
unfolding ◌>>=◌
both_then _ _ f f' first_stopped g = first_stopped
both_then _ _ f f' second_stopped g = second_stopped
both_then _ _ f f' (both_went {a = a} {a' = a'} r) g = g a a' r

-- The child fields all of whose routines are among those.
pub data AllIts (Its : ℕ → Type 0) : List Call → Type 0 where
  no_child : AllIts Its []
  one_child : {c : Call} {cs : List Call} → Its c.callee → AllIts Its cs → AllIts Its (c ∷ cs)

-- The routines that a subtree may run, with whatever they fork, and a listing that has them.
pub record Code : Type 1 where
  pub Its : ℕ → Type 0
  pub model : Listing
  pub closed : (r place : ℕ) (cs : List Call) → Its r → instruction_at model r place ≡ fork cs → AllIts Its cs

-- A listing that has them too.
abbrev pub Has : Code → Listing → Type 0
Has code listing = (r : ℕ) → code.Its r → routine_at code.model r ≡ routine_at listing r

module _ (zone : Zone) (code : Code) where
  abbrev In : ℕ → Type 0
  In x = zone.In x

  abbrev floor : ℕ
  floor = zone.floor

  abbrev Its : ℕ → Type 0
  Its r = code.Its r

  abbrev model : Listing
  model = code.model

  abbrev pub Leads : List ℕ → Type 0
  Leads names = Reach.Leads zone names

  abbrev pub Kept : List Variable → List Variable → Type 0
  Kept m m' = Reach.Kept zone m m'

  -- ── trees asleep that run those routines and reach those addresses alone ──────────────────────
  mutual
    pub data Asleep : Node → Type 0 where
      waits : {r place : ℕ} {names ns : List ℕ} {own : List Variable} → Its r → Leads names → instruction_at model r place ≡ wait ns →
          Asleep (node r place names own empty)
      joins : {r place : ℕ} {names : List ℕ} {own : List Variable} {cs : List Call} {n : Node} {f : Forest} → Its r → Leads names →
          instruction_at model r place ≡ fork cs → AllAsleep (more n f) → Asleep (node r place names own (more n f))

    pub data AllAsleep : Forest → Type 0 where
      none_asleep : AllAsleep empty
      more_asleep : {n : Node} {f : Forest} → Asleep n → AllAsleep f → AllAsleep (more n f)

  pub record Parts (r : ℕ) (names : List ℕ) (f : Forest) : Type 0 where
    pub its : Its r
    pub leads : Leads names
    pub children : AllAsleep f

  pub parts_asleep : (r place : ℕ) (names : List ℕ) (own : List Variable) (f : Forest) → Asleep (node r place names own f) → Parts r names f
  parts_asleep r place names own _ (waits i k w) = record { its = i; leads = k; children = none_asleep }
  parts_asleep r place names own _ (joins i k w h) = record { its = i; leads = k; children = h }

  pub both_asleep : (f g : Forest) → AllAsleep f → AllAsleep g → AllAsleep (f ⊕ g)
  unfolding ◌⊕◌
  both_asleep _ g none_asleep h = h
  both_asleep _ g (more_asleep n k) h = more_asleep n (both_asleep _ g k h)

  module _ (now : ℕ) where
    abbrev pub Alike : List Variable → List Variable → Type 0
    Alike m m' = Reach.Alike zone now m m'

    -- A new routine, not yet begun.
    pub data New : Node → Type 0 where
      is_new_lem : {r place : ℕ} {names : List ℕ} {own : List Variable} → Its r → Leads names → NotBefore (suc now) (due_of_variables own) →
          New (node r place names own empty)

    pub data AllNew : Forest → Type 0 where
      none_new : AllNew empty
      more_new : {n : Node} {f : Forest} → New n → AllNew f → AllNew (more n f)

    -- ── how two turns end ─────────────────────────────────────────────────────────────────────────
    pub record Ends (base : ℕ) (before : List Variable) (a a' : Turn) : Type 0 where
      pub long : length a.running.memory ≡ base
      pub alike : Alike a.running.memory a'.running.memory
      pub tree : a.tree ≡ a'.tree
      pub asleep : AllAsleep a.tree
      pub later : NotBefore (suc now) (due_of_forest a.tree)
      pub kept : Kept before a.running.memory

    pub from_before : (base : ℕ) (m₁ m₂ : List Variable) (o o' : Result Turn) → Kept m₂ m₁ → Both (Ends base m₁) o o' → Both (Ends base m₂) o o'
    from_before base m₁ m₂ _ _ k first_stopped = first_stopped
    from_before base m₁ m₂ _ _ k second_stopped = second_stopped
    from_before base m₁ m₂ _ _ k (both_went e) =
        both_went (record { long = e.long; alike = e.alike; tree = e.tree; asleep = e.asleep; later = e.later; kept = kept_then zone k e.kept })

    -- Where a routine runs in both: one of those, its names in reach, its own variables from the floor on.
    pub record Placed (me : Frame) (m m' : List Variable) : Type 0 where
      pub its : Its me.routine
      pub leads : Leads me.names
      pub above : floor ≤ me.base
      pub within : me.base ≤ length m
      pub alike : Alike m m'

    pub placed_at : {me : Frame} {m m' : List Variable} (k : ℕ) → Placed me m m' → Placed (go_to me k) m m'
    placed_at k p = record { its = p.its; leads = p.leads; above = p.above; within = p.within; alike = p.alike }

    abbrev pub Twins : Runner → Runner → Type 0
    Twins go go' = (me : Frame) (s s' : Running) → Placed me s.memory s'.memory →
        Both (Ends me.base s.memory) (go me s) (go' me s')

    pub sleep_twins : (me : Frame) (children : Forest) (s s' : Running) → Placed me s.memory s'.memory →
        ((own : List Variable) → Asleep (node me.routine me.place me.names own children)) → NotBefore (suc now) (due_of_forest children) →
        Both (Ends me.base s.memory) (sleep me children s) (sleep me children s')
    unfolding sleep due_of_forest
    sleep_twins me children s s' p asleep l =
        both_went (record {
          long = length-take-le me.base s.memory p.within;
          alike = take_alike zone now s.memory s'.memory me.base p.within p.alike;
          tree = ap (λ own. more (node me.routine me.place me.names own children) empty) (drop_same zone now s.memory s'.memory me.base p.above p.alike);
          asleep = more_asleep (asleep _) none_asleep;
          later = both_not_before (suc now) _ _ (both_not_before (suc now) _ _
              (drop_not_before (suc now) me.base s.memory p.alike.later) l) nothing_due;
          kept = take_keeps zone s.memory me.base p.above;
        })

    pub leave_twins : (me : Frame) (s s' : Running) → Placed me s.memory s'.memory →
        Both (Ends me.base s.memory) (leave me s) (leave me s')
    unfolding leave due_of_forest
    leave_twins me s s' p =
        both_went (record {
          long = length-take-le me.base s.memory p.within;
          alike = take_alike zone now s.memory s'.memory me.base p.within p.alike;
          tree = refl;
          asleep = none_asleep;
          later = nothing_due;
          kept = take_keeps zone s.memory me.base p.above;
        })

    pub nobody_twins : (s s' : Running) → Alike s.memory s'.memory →
        Both (Ends (length s.memory) s.memory) (ok (record { running = s; tree = empty })) (ok (record { running = s'; tree = empty }))
    unfolding due_of_forest
    nobody_twins s s' g = both_went (record { long = refl; alike = g; tree = refl; asleep = none_asleep; later = nothing_due; kept = kept_refl zone })

    -- One turn after another.
    pub then_twins : (base : ℕ) (before : List Variable) (a a' b b' : Turn) → Ends base before a a' →
        Ends (length a.running.memory) a.running.memory b b' →
        Ends base before (record { running = b.running; tree = a.tree ⊕ b.tree }) (record { running = b'.running; tree = a'.tree ⊕ b'.tree })
    then_twins base before a a' b b' d e = record {
      long = e.long ∙ d.long;
      alike = e.alike;
      tree = ap₂ ◌⊕◌ d.tree e.tree;
      asleep = both_asleep a.tree b.tree d.asleep e.asleep;
      later = not_before_in_both (suc now) a.tree b.tree d.later e.later;
      kept = kept_then zone d.kept e.kept;
    }

    -- New routines begin in turn.
    pub in_turn-twins : (f f' : Node → Running → Result Turn) →
        ((n : Node) (s s' : Running) → New n → floor ≤ length s.memory → Alike s.memory s'.memory →
        Both (Ends (length s.memory) s.memory) (f n s) (f' n s')) →
        (ns : Forest) (s s' : Running) → AllNew ns → floor ≤ length s.memory → Alike s.memory s'.memory →
        Both (Ends (length s.memory) s.memory) (in_turn f ns s) (in_turn f' ns s')
    unfolding in_turn
    in_turn-twins f f' h _ s s' none_new l g = nobody_twins s s' g
    in_turn-twins f f' h _ s s' (more_new {n = n} {f = ns} kn k) l g =
        both_then _ _ _ _ (h n s s' kn l g) λ a a' d.
        both_then _ _ _ _ (in_turn-twins f f' h ns a.running a'.running k (omega (arith, d.long)) d.alike) λ b b' e.
        both_went (then_twins _ _ a a' b b' d e)

    pub begin_twins : (go go' : Runner) → Twins go go' → (level : ℕ) (n : Node) (s s' : Running) → New n → floor ≤ length s.memory →
        Alike s.memory s'.memory →
        Both (Ends (length s.memory) s.memory) (begin go level n s) (begin go' level n s')
    unfolding begin enter
    begin_twins go go' h level _ s s' (is_new_lem {r = r} {place = place} {names = names} {own = own} i k o) l g =
        rw (← g.long) (from_before _ _ _ _ _ (append_keeps zone s.memory own l)
        (h (frame level r place names (length s.memory)) _ _ (record {
          its = i;
          leads = k;
          above = l;
          within = simp length-append (omega arith);
          alike = append_alike zone now _ _ own g o;
        })))

    pub join_twins : (go go' : Runner) → Twins go go' → (me : Frame) (cs : List Call) (children : Forest)
        (s s' : Running) →
        Placed me s.memory s'.memory → instruction_of model me ≡ fork cs → AllAsleep children →
        NotBefore (suc now) (due_of_forest children) →
        Both (Ends me.base s.memory) (join go me children s) (join go' me children s')
    unfolding join
    join_twins go go' h me cs empty s s' p i k l = h (next me) s s' (placed_at _ p)
    join_twins go go' h me cs (more n ns) s s' p i k l =
        sleep_twins me (more n ns) s s' p (λ own. joins p.its p.leads i k) l
