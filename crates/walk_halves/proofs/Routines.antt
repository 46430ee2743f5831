-- A grower's routines by computation: a list of numbers that has the forked routine and whatever its members fork has them all.
-- Letters: rs a list of routine numbers, code a routine's instructions, cs child fields.
use mathlib.Core.Path.{◌≡◌, refl, sym, ap, ◌∙◌}
use mathlib.Core.Bool.{Bool, true, false, ◌&&◌, ◌||◌}
use mathlib.Core.List.{List, [], ◌∷◌, Memᴰ}
use Prim.Native.Nat.{ℕ, zero, suc}
use borrow.Author.Tests.{eqb-true}
use lib.Dec.{eqb}
use lib.ListN.{get_or}
use Rattle.listing.specs.Listing.{Listing, Call, Instruction, assign, schedule, branch, jump, wait, fork, end}
use Rattle.walk.specs.Walk.{routine_at, instruction_at}
use Rattle.walk_halves.specs.Halves.{among, RoutineOf, its_own, forked}
use Rattle.walk_laws.proofs.Booleans.{false_is_not_true, and_left, and_right}

unfoldable pub callees_in : List ℕ → List Call → Bool
callees_in rs [] = true
callees_in rs (c ∷ cs) = among c.callee rs && callees_in rs cs

unfoldable pub forks_in : List ℕ → Instruction → Bool
forks_in rs (fork cs) = callees_in rs cs
forks_in rs (assign n e) = true
forks_in rs (schedule n d e) = true
forks_in rs (branch e k) = true
forks_in rs (jump k) = true
forks_in rs (wait ns) = true
forks_in rs end = true

unfoldable pub code_in : List ℕ → List Instruction → Bool
code_in rs [] = true
code_in rs (i ∷ code) = forks_in rs i && code_in rs code

-- Each of the routines `some` forks routines of rs alone.
unfoldable pub closed_in : Listing → List ℕ → List ℕ → Bool
closed_in listing rs [] = true
closed_in listing rs (r ∷ some) = code_in rs (routine_at listing r).code && closed_in listing rs some

callee_in : (rs : List ℕ) (d : Call) (cs : List Call) → callees_in rs cs ≡ true → Memᴰ d cs → among d.callee rs ≡ true
unfolding callees_in
callee_in rs d _ h (Memᴰ.head {x = c} e) = ap (λ (x : Call). among x.callee rs) e ∙ and_left (among c.callee rs) _ h
callee_in rs d _ h (Memᴰ.tail {x = c} {xs = cs} m) = callee_in rs d cs (and_right (among c.callee rs) _ h) m

fork_in : (rs : List ℕ) (code : List Instruction) (place : ℕ) → code_in rs code ≡ true → forks_in rs (get_or code place end) ≡ true
unfolding code_in forks_in
fork_in rs [] place h = refl
fork_in rs (i ∷ code) zero h = and_left (forks_in rs i) _ h
fork_in rs (i ∷ code) (suc place) h = fork_in rs code place (and_right (forks_in rs i) _ h)

code_of : (listing : Listing) (rs some : List ℕ) (r : ℕ) → closed_in listing rs some ≡ true → among r some ≡ true →
    code_in rs (routine_at listing r).code ≡ true
unfolding closed_in among
code_of listing rs [] r h e = false_is_not_true e
code_of listing rs (q ∷ some) r h e = go (eqb r q) refl (code_of listing rs some r (and_right (code_in rs (routine_at listing q).code) _ h)) e
  where
    go : (x : Bool) → eqb r q ≡ x → (among r some ≡ true → code_in rs (routine_at listing r).code ≡ true) → x || among r some ≡ true →
        code_in rs (routine_at listing r).code ≡ true
    go true k rest f = rw (eqb-true r q k) (and_left (code_in rs (routine_at listing q).code) _ h)
    go false k rest f = rest f

pub all_among : (listing : Listing) (c : Call) (rs : List ℕ) → among c.callee rs ≡ true → closed_in listing rs rs ≡ true → (r : ℕ) →
    RoutineOf listing c r → among r rs ≡ true
all_among listing c rs own h _ its_own = own
all_among listing c rs own h _ (forked {r = r} place {cs = cs} {d = d} i e m) =
    callee_in rs d cs (forks e (fork_in rs (routine_at listing r).code place (code_of listing rs rs r h (all_among listing c rs own h r i)))) m
  where
    forks : instruction_at listing r place ≡ fork cs → forks_in rs (get_or (routine_at listing r).code place end) ≡ true → callees_in rs cs ≡ true
    forks p q = unfold forks_in instruction_at in (ap (forks_in rs) (sym p) ∙ q)

-- Two listings that have each of these routines in common.
abbrev pub InCommon : Listing → Listing → List ℕ → Type 0
InCommon listing listing' [] = Unit {0}
InCommon listing listing' (r ∷ rs) = (routine_at listing r ≡ routine_at listing' r) × InCommon listing listing' rs

pub in_common : (listing listing' : Listing) (rs : List ℕ) (r : ℕ) → InCommon listing listing' rs → among r rs ≡ true →
    routine_at listing r ≡ routine_at listing' r
unfolding among
in_common listing listing' [] r h e = false_is_not_true e
in_common listing listing' (q ∷ rs) r h e = go (eqb r q) refl (in_common listing listing' rs r h.1) e
  where
    go : (x : Bool) → eqb r q ≡ x → (among r rs ≡ true → routine_at listing r ≡ routine_at listing' r) → x || among r rs ≡ true →
        routine_at listing r ≡ routine_at listing' r
    go true k rest f = rw (eqb-true r q k) h.0
    go false k rest f = rest f
