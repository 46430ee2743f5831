-- The records of a tree stand for that tree.
use mathlib.Core.Path.{◌≡◌, refl, sym, ap, ◌∙◌}
use mathlib.Core.List.{List, [], ◌∷◌, ◌++◌, append_assoc, append-nil}
use Prim.Native.Nat.{ℕ, suc, ◌+◌, ◌<◌}
use lib.ListN.{length, drop}
use borrow.Author.Tests.{lt-ltb, le-ltb, eq-eqb, ne_eqb}
use native.Mathlib.Omega.{arith}
use native.Mathlib.Nat.{le_refl}
use Rattle.listing.specs.Listing.{Listing, Call}
use Rattle.walk.specs.State.{Node, Forest, empty, more, ◌⊕◌}
use Rattle.walk.specs.Walk.{instruction_at}
use Rattle.walk.specs.Question7.{Asleep, waits, joins, LiveChildren, no_more, ended, lives, all_at_rest}
use Rattle.machine.specs.Records.{Record, records_of_node, records_of, no_call_lem, calls_of, grown, forest_from}
use Rattle.machine.proofs.Basics.{drop_more, get_or-of_drop}
use Rattle.machine.proofs.StatesPass.{Above, above_end, above_record, records_are_low}

⊕-empty : (f : Forest) → f ⊕ empty ≡ f
unfolding ◌⊕◌
⊕-empty empty = refl
⊕-empty (more n f) = ap (more n) (⊕-empty f)

module _ (listing : Listing) (now : ℕ) where
  -- what stands above a level has no child there
  nothing_above : (level base : ℕ) (callerNames : List ℕ) (cs : List Call) (xs : List Record) → Above level xs → forest_from listing xs level base callerNames cs ≡ empty
  unfolding forest_from grown
  nothing_above level base callerNames cs _ above_end = refl
  nothing_above level base callerNames cs _ (above_record {x = x} h) = rw (le-ltb level x.level (omega arith), ne_eqb level x.level (omega arith))

  mutual
    unfolding records_of forest_from grown

    skip_deeper_node : {level base : ℕ} {callerNames : List ℕ} {c : Call} {n : Node} (a : Asleep listing (all_at_rest now) level base callerNames c n) (i l b' : ℕ) (names : List ℕ) (ds : List Call) (xs : List Record) → l < level →
        forest_from listing (records_of_node a i ++ xs) l b' names ds ≡ forest_from listing xs l b' names ds
    skip_deeper_node (waits {level = level} m e) i l b' names ds xs h = rw (lt-ltb l level h)
    skip_deeper_node (joins {level = level} m e dp al k) i l b' names ds xs h = rw (lt-ltb l level h) (skip_deeper k 0 l b' names ds xs (omega arith))

    skip_deeper : {level base : ℕ} {callerNames : List ℕ} {cs : List Call} {f : Forest} (k : LiveChildren listing (all_at_rest now) level base callerNames cs f) (i l b' : ℕ) (names : List ℕ) (ds : List Call) (xs : List Record) → l < level →
        forest_from listing (records_of k i ++ xs) l b' names ds ≡ forest_from listing xs l b' names ds
    skip_deeper no_more i l b' names ds xs h = refl
    skip_deeper (ended k) i l b' names ds xs h = skip_deeper k (suc i) l b' names ds xs h
    skip_deeper (lives a k) i l b' names ds xs h =
        rw (append_assoc (records_of_node a i) (records_of k (suc i)) xs) (skip_deeper_node a i l b' names ds (records_of k (suc i) ++ xs) h ∙ skip_deeper k (suc i) l b' names ds xs h)

  mutual
    unfolding records_of forest_from grown ◌⊕◌ calls_of

    node_back : {level base : ℕ} {callerNames : List ℕ} {c : Call} {n : Node} (a : Asleep listing (all_at_rest now) level base callerNames c n) (i : ℕ) (all cs : List Call) (xs : List Record) → drop i all ≡ c ∷ cs → Above (suc level) xs →
        forest_from listing (records_of_node a i ++ xs) level base callerNames all ≡ more n (forest_from listing xs level base callerNames all)
    node_back (waits {level = level} {base = base} {callerNames = callerNames} {c = c} {r = r} {place = place} {names = names} {own = own} m e) i all cs xs d h =
        rw (le-ltb level level (le_refl level), eq-eqb level level refl, get_or-of_drop i all c no_call_lem cs d, ← m.bound, ← m.number, nothing_above (suc level) (base + length own) names (calls_of (instruction_at listing r place)) xs h)
    node_back (joins {level = level} {base = base} {callerNames = callerNames} {c = c} {r = r} {place = place} {names = names} {own = own} {cs = cs'} {f = f} m e dp al k) i all cs xs d h =
        rw (
          le-ltb level level (le_refl level),
          eq-eqb level level refl,
          get_or-of_drop i all c no_call_lem cs d,
          ← m.bound,
          ← m.number,
          e,
          forest_back k 0 cs' xs refl h,
          nothing_above (suc level) (base + length own) names cs' xs h,
          ⊕-empty f,
          skip_deeper k 0 level base callerNames all xs (le_refl _),
        )

    pub forest_back : {level base : ℕ} {callerNames : List ℕ} {cs : List Call} {f : Forest} (k : LiveChildren listing (all_at_rest now) level base callerNames cs f) (i : ℕ) (all : List Call) (xs : List Record) → drop i all ≡ cs → Above level xs →
        forest_from listing (records_of k i ++ xs) level base callerNames all ≡ f ⊕ forest_from listing xs level base callerNames all
    forest_back no_more i all xs d h = refl
    forest_back (ended k) i all xs d h = forest_back k (suc i) all xs (drop_more i all _ _ d) h
    forest_back (lives {level = level} {base = base} {names = callerNames} {cs = cs} {n = n} a k) i all xs d h =
        rw (append_assoc (records_of_node a i) (records_of k (suc i)) xs)
        (node_back a i all cs (records_of k (suc i) ++ xs) d (records_are_low listing now k (suc i) xs h) ∙ ap (more n) (forest_back k (suc i) all xs (drop_more i all _ _ d) h))

  pub records_give_forest : {base : ℕ} {callerNames : List ℕ} {cs : List Call} {f : Forest} (k : LiveChildren listing (all_at_rest now) 0 base callerNames cs f) → forest_from listing (records_of k 0) 0 base callerNames cs ≡ f
  unfolding forest_from
  records_give_forest {base = base} {callerNames = callerNames} {cs = cs} {f = f} k = ap (λ l. forest_from listing l 0 base callerNames cs) (sym (append-nil (records_of k 0))) ∙ forest_back k 0 cs [] refl above_end ∙ ⊕-empty f
