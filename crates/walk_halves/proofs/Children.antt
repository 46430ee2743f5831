-- Main's children in turn, one of them the grower's: the others keep their hands off what is lent to it, so that the grower's turn
-- finds what main showed it, and what it leaves is there when the last child has had its turn.
-- Letters: g the grower; f₁ the children before its own, f₂ those after it, f its own (nobody, or its routine); go gives a routine
-- its turn; t the moment, s and u running, y the turn of all children, b the grower's, a another's.
use mathlib.Core.Path.{◌≡◌, refl, sym, ap, ◌∙◌}
use mathlib.Core.Bool.{true, false}
use mathlib.Core.List.{List, [], ◌∷◌}
use Prim.Native.Nat.{ℕ, suc, ◌≤◌, ◌<◌}
use native.Mathlib.Omega.{arith}
use lib.ListN.{length}
use Rattle.listing.specs.Listing.{Listing, Call}
use Rattle.walk.specs.State.{Variable, Node, Forest, ◌⊕◌, Running, Turn, Result, ok}
use Rattle.walk.specs.Walk.{in_turn, begin, run, visit_forest}
use Rattle.walk.specs.Instant.{due_in_forest, due_of_variables, due_of_forest}
use Rattle.walk_halves.specs.Halves.{among}
use Rattle.walk_halves.proofs.Due.{NotBefore, due_in_forest_leaves_later}
use Rattle.walk_halves.proofs.Reach.{Zone, Alike, Kept}
use Rattle.walk_halves.proofs.Twin.{Both, both_went, AllIts, no_child, one_child, Code, Has, AllAsleep, AllNew, Ends, in_turn-twins, begin_twins}
use Rattle.walk_halves.proofs.TwinRuns.{run_twins, visit_forest-twins}
use Rattle.walk_halves.proofs.Quiet.{due_writes_keep_asleep}
use Rattle.walk_halves.proofs.Lent.{lent, same_shown}
use Rattle.walk_halves.proofs.Turns.{in_two}
use Rattle.walk_halves.proofs.Part.{Grower, args, floor, mine, its}

-- ── one subtree by itself: what two runs of it have in common, said of one ────────────────────────
pub record Alone (zone : Zone) (code : Code) (t : ℕ) (s : Running) (a : Turn) : Type 0 where
  pub long : length a.running.memory ≡ zone.floor
  pub later : NotBefore (suc t) (due_of_variables a.running.memory)
  pub asleep : AllAsleep zone code a.tree
  pub later_tree : NotBefore (suc t) (due_of_forest a.tree)
  pub kept : Kept zone s.memory a.running.memory

module _ (zone : Zone) (code : Code) (t : ℕ) where
  alone : (s : Running) (a : Turn) (o : Result Turn) → length s.memory ≡ zone.floor →
      Both (Ends zone code t (length s.memory) s.memory) o o → o ≡ ok a → Alone zone code t s a
  alone s a o l h e = go (rw e at h)
    where
      go : Both (Ends zone code t (length s.memory) s.memory) (ok a) (ok a) → Alone zone code t s a
      go (both_went d) = record { long = d.long ∙ l; later = d.alike.later; asleep = d.asleep; later_tree = d.later; kept = d.kept }

  with_itself : (m : List Variable) → NotBefore (suc t) (due_of_variables m) → Alike zone t m m
  with_itself m h = record { long = refl; shown = λ x i. refl; later = h }

  module _ (listing : Listing) (has : Has code listing) where
    pub visited_alone : (f : Forest) (level : ℕ) (s : Running) (a : Turn) → AllAsleep zone code f → NotBefore t (due_of_forest f) →
        length s.memory ≡ zone.floor → NotBefore (suc t) (due_of_variables s.memory) →
        visit_forest listing t (due_in_forest f t) level s ≡ ok a → Alone zone code t s a
    visited_alone f level s a k d l h e =
        alone s a _ l (visit_forest-twins zone code t listing listing has has (due_in_forest f t) level s s
        (due_writes_keep_asleep zone code f t k) (due_in_forest_leaves_later f t d) (omega arith) (with_itself s.memory h)) e

    pub begun_alone : (bound : ℕ) (f : Forest) (level : ℕ) (s : Running) (a : Turn) → AllNew zone code t f → length s.memory ≡ zone.floor →
        NotBefore (suc t) (due_of_variables s.memory) → in_turn (begin (run listing t bound) level) f s ≡ ok a → Alone zone code t s a
    begun_alone bound f level s a k l h e =
        let go = run listing t bound in
        let twins = begin_twins zone code t go go (run_twins zone code t listing listing has has bound bound) level in
        alone s a _ l (in_turn-twins zone code t (begin go level) (begin go level) twins f s s k (omega arith) (with_itself s.memory h)) e

-- ── the other children ────────────────────────────────────────────────────────────────────────────
-- They reach all but the grower's names.
pub data Theirs (g : Grower) (x : ℕ) : Type 0 where
  no_name : among x (args g) ≡ false → Theirs g x
  past_main : floor g ≤ x → Theirs g x

abbrev pub theirs : Grower → Zone
theirs g = record { In = Theirs g; floor = floor g; up = λ x h. past_main h; small = g.small }

pub all_anyone : (cs : List Call) → AllIts (λ r. Unit {0}) cs
all_anyone [] = no_child
all_anyone (c ∷ cs) = one_child tt (all_anyone cs)

-- They may run any routine of the listing.
abbrev pub anyone : Listing → Code
anyone listing = record { Its = λ r. Unit {0}; model = listing; closed = λ r place cs i e. all_anyone cs }

module _ (g : Grower) (listing : Listing) (t : ℕ) where
  abbrev pub TheirTurn : Running → Turn → Type 0
  TheirTurn s a = Alone (theirs g) (anyone listing) t s a

  abbrev pub MyTurn : Running → Turn → Type 0
  MyTurn s b = Alone (mine g) (its g) t s b

  not_theirs : (x : ℕ) → x < floor g → among x (args g) ≡ true → Theirs g x → ⊥
  not_theirs x l e (no_name k) = let z : ◌≡◌ {A = ℕ} 0 1 = cc in omega arith
  not_theirs x l e (past_main h) = omega arith

  lent_kept : (s : Running) (a : Turn) → length s.memory ≡ floor g → TheirTurn s a → lent (args g) a.running.memory ≡ lent (args g) s.memory
  lent_kept s a l h =
      same_shown (args g) a.running.memory s.memory (h.long ∙ sym l)
      λ x hx e. h.kept.keep x (omega (arith, h.long)) (not_theirs x (omega (arith, h.long)) e)

  -- ── all children ──────────────────────────────────────────────────────────────────────────────
  -- The turn y of all children from memory m, with the grower's turn b in it, which began from s.
  pub record Children (go : Node → Running → Result Turn) (f : Forest) (m : List Variable) (y : Turn) : Type 0 where
    pub s : Running
    pub b : Turn
    pub f₁ : Forest
    pub f₂ : Forest
    pub shown : lent (args g) s.memory ≡ lent (args g) m
    pub long : length s.memory ≡ floor g
    pub later : NotBefore (suc t) (due_of_variables s.memory)
    pub turn : in_turn go f s ≡ ok b
    pub my_turn : MyTurn s b
    pub tree : y.tree ≡ f₁ ⊕ (b.tree ⊕ f₂)
    pub before : AllAsleep (theirs g) (anyone listing) f₁
    pub after : AllAsleep (theirs g) (anyone listing) f₂
    pub end_long : length y.running.memory ≡ floor g
    pub end_shown : lent (args g) y.running.memory ≡ lent (args g) b.running.memory

  pub children : (go : Node → Running → Result Turn) (f₁ f f₂ : Forest) (s : Running) (y : Turn) →
      length s.memory ≡ floor g → NotBefore (suc t) (due_of_variables s.memory) →
      ((a : Turn) → in_turn go f₁ s ≡ ok a → TheirTurn s a) →
      ((u : Running) (b : Turn) → length u.memory ≡ floor g → NotBefore (suc t) (due_of_variables u.memory) → in_turn go f u ≡ ok b → MyTurn u b) →
      ((u : Running) (a : Turn) → length u.memory ≡ floor g → NotBefore (suc t) (due_of_variables u.memory) → in_turn go f₂ u ≡ ok a →
      TheirTurn u a) →
      in_turn go (f₁ ⊕ (f ⊕ f₂)) s ≡ ok y → Children go f s.memory y
  children go f₁ f f₂ s y l h theirs₁ mine₁ theirs₂ e =
      let i = in_two go f₁ (f ⊕ f₂) s y e in
      let j = in_two go f f₂ i.a.running i.b i.second in
      let first_turn = theirs₁ i.a i.first in
      let my_turn = mine₁ i.a.running j.a first_turn.long first_turn.later j.first in
      let last_turn = theirs₂ j.a.running j.b my_turn.long my_turn.later j.second in
      let end : y.running.memory ≡ j.b.running.memory =
      ap (λ (x : Turn). x.running.memory) i.whole ∙ ap (λ (x : Turn). x.running.memory) j.whole in
      record {
        s = i.a.running;
        b = j.a;
        f₁ = i.a.tree;
        f₂ = j.b.tree;
        shown = lent_kept s i.a l first_turn;
        long = first_turn.long;
        later = first_turn.later;
        turn = j.first;
        my_turn = my_turn;
        tree = ap (λ (x : Turn). x.tree) i.whole ∙ ap (λ (x : Turn). i.a.tree ⊕ x.tree) j.whole;
        before = first_turn.asleep;
        after = last_turn.asleep;
        end_long = ap length end ∙ last_turn.long;
        end_shown = ap (lent (args g)) end ∙ lent_kept j.a.running j.b my_turn.long last_turn;
      }
