-- Two memories that show the same to whoever reaches only some addresses, and what lies outside stays.
-- Letters: zone says which addresses are reached; m and m' are the two memories, own the variables of a routine, names its names,
-- a and x addresses, v a value, t a moment, now the present one.
use mathlib.Core.Path.{◌≡◌, refl, sym, ap, ◌∙◌, fun_ext}
use mathlib.Core.Bool.{Bool, true, false, ◌&&◌}
use mathlib.Core.List.{List, [], ◌∷◌, ◌++◌}
use Prim.Native.Nat.{ℕ, zero, suc, ◌+◌, ◌-◌, ◌≤◌, ◌<◌}
use native.Mathlib.Decide.{ℕ_discrete, dec_lt}
use native.Mathlib.Omega.{arith}
use borrow.Author.Tests.{leb-true}
use lib.Dec.{leb, ltb}
use lib.ListN.{length, get_or, take, drop, set, length-append, length-drop, length-set, get_or-append, get_or-eq_default}
use lib.Seq.{get_or-set_same, get_or-set_other, set_out, get_or-take, get_or-drop, get_or-append-add, ext_get_or, length-take-le}
use Rattle.words.specs.Words.{is_positive}
use Rattle.listing.specs.Listing.{Piece, Kind, by_reference, by_value}
use Rattle.walk.specs.State.{Variable, no_variable, new_variable, written_to, scheduled_on}
use Rattle.walk.specs.Memory.{variable_at, write_at, schedule_at, nowhere, address_of, addresses_of, any_written, named_in, evaluate_by, evaluate, consecutive, bind_names, own_variables}
use Rattle.walk.specs.Instant.{earlier, due_of, due_of_variables}
use Rattle.walk_laws.proofs.Booleans.{false_is_not_true}
use Rattle.walk_halves.proofs.Due.{NotBefore, nothing_due, due_from, append_not_before, take_not_before, set_not_before, get_or-not_before}

-- The addresses that a subtree reaches: some below the floor, and all from there on.
pub record Zone : Type 1 where
  pub In : ℕ → Type 0
  pub floor : ℕ
  pub up : (x : ℕ) → floor ≤ x → In x
  pub small : floor ≤ 65536

past_the_first : (m own : List Variable) (x : ℕ) → length m ≤ x → get_or (m ++ own) x no_variable ≡ get_or own (x - length m) no_variable
past_the_first m own x h =
    let e : x ≡ length m + (x - length m) = omega arith in
    ap (λ n. get_or (m ++ own) n no_variable) e ∙ get_or-append-add m own (x - length m) no_variable

module _ (zone : Zone) where
  abbrev In : ℕ → Type 0
  In x = zone.In x

  abbrev floor : ℕ
  floor = zone.floor

  -- ── names that lead to reached addresses alone ────────────────────────────────────────────────
  pub record Leads (names : List ℕ) : Type 0 where
    pub to : (n : ℕ) → In (address_of names n)

  pub data AllIn : List ℕ → Type 0 where
    none_passed : AllIn []
    one_passed : {a : ℕ} {passed : List ℕ} → In a → AllIn passed → AllIn (a ∷ passed)

  pub addresses_in : (names : List ℕ) → Leads names → (ns : List ℕ) → AllIn (addresses_of names ns)
  unfolding addresses_of
  addresses_in names h [] = none_passed
  addresses_in names h (n ∷ ns) = one_passed (h.to n) (addresses_in names h ns)

  consecutive_in : (k a n : ℕ) → floor ≤ a → In (address_of (consecutive k a) n)
  unfolding address_of consecutive
  consecutive_in zero a n h = zone.up nowhere zone.small
  consecutive_in (suc k) a zero h = zone.up a h
  consecutive_in (suc k) a (suc n) h = consecutive_in k (suc a) n (omega arith)

  bound_in : (kinds : List Kind) (passed : List ℕ) (locals base : ℕ) → AllIn passed → floor ≤ base → (n : ℕ) →
      In (address_of (bind_names kinds passed locals base) n)
  unfolding address_of bind_names
  bound_in [] passed locals base h l n = consecutive_in locals base n l
  bound_in (by_reference ∷ kinds) _ locals base none_passed l zero = zone.up nowhere zone.small
  bound_in (by_reference ∷ kinds) _ locals base none_passed l (suc n) = bound_in kinds [] locals base none_passed l n
  bound_in (by_reference ∷ kinds) _ locals base (one_passed i h) l zero = i
  bound_in (by_reference ∷ kinds) _ locals base (one_passed i h) l (suc n) = bound_in kinds _ locals base h l n
  bound_in (by_value ∷ kinds) _ locals base none_passed l zero = zone.up base l
  bound_in (by_value ∷ kinds) _ locals base none_passed l (suc n) = bound_in kinds [] locals (suc base) none_passed (omega arith) n
  bound_in (by_value ∷ kinds) _ locals base (one_passed i h) l zero = zone.up base l
  bound_in (by_value ∷ kinds) _ locals base (one_passed i h) l (suc n) = bound_in kinds _ locals (suc base) h (omega arith) n

  pub bound_leads : (kinds : List Kind) (passed : List ℕ) (locals base : ℕ) → AllIn passed → floor ≤ base → Leads (bind_names kinds passed locals base)
  bound_leads kinds passed locals base h l = record { to = bound_in kinds passed locals base h l }

  -- ── below the floor, what is not reached stays ────────────────────────────────────────────────
  pub record Kept (m m' : List Variable) : Type 0 where
    pub keep : (x : ℕ) → x < floor → (In x → ⊥) → variable_at m' x ≡ variable_at m x

  pub kept_refl : {m : List Variable} → Kept m m
  kept_refl = record { keep = λ x h o. refl }

  pub kept_then : {m₁ m₂ m₃ : List Variable} → Kept m₁ m₂ → Kept m₂ m₃ → Kept m₁ m₃
  kept_then k l = record { keep = λ x h o. l.keep x h o ∙ k.keep x h o }

  set_keeps : (m : List Variable) (a : ℕ) (v : Variable) → In a → Kept m (set m a v)
  unfolding variable_at
  set_keeps m a v i = record { keep = λ x h o. get_or-set_other m a x v _ (λ e. o (rw e i)) }

  pub write_keeps : (now : ℕ) (m : List Variable) (a v : ℕ) → In a → Kept m (write_at now m a v)
  unfolding write_at
  write_keeps now m a v i = set_keeps m a _ i

  pub schedule_keeps : (m : List Variable) (a t v : ℕ) → In a → Kept m (schedule_at m a t v)
  unfolding schedule_at
  schedule_keeps m a t v i = set_keeps m a _ i

  pub append_keeps : (m own : List Variable) → floor ≤ length m → Kept m (m ++ own)
  unfolding variable_at
  append_keeps m own l = record { keep = λ x h o. get_or-append m own _ x (omega arith) }

  pub take_keeps : (m : List Variable) (base : ℕ) → floor ≤ base → Kept m (take base m)
  unfolding variable_at
  take_keeps m base l = record { keep = λ x h o. get_or-take base m x _ (omega arith) }

  -- ── two memories that show the same ──────────────────────────────────────────────────────────
  module _ (now : ℕ) where
    -- They show the same, and every waiting write of the first is later than the present moment.
    pub record Alike (m m' : List Variable) : Type 0 where
      pub long : length m ≡ length m'
      pub shown : (x : ℕ) → In x → variable_at m x ≡ variable_at m' x
      pub later : NotBefore (suc now) (due_of_variables m)

    set_alike : (m m' : List Variable) (a : ℕ) (x x' : Variable) → Alike m m' → x ≡ x' → NotBefore (suc now) (due_of x.waiting) →
        Alike (set m a x) (set m' a x')
    unfolding variable_at
    set_alike m m' a x x' g e h =
        record { long = simp length-set g.long; shown = λ y hy. go y hy (ℕ_discrete y a); later = set_not_before (suc now) m a x g.later h }
      where
        here : (y : ℕ) → In y → y ≡ a → Dec (a < length m) → get_or (set m a x) y no_variable ≡ get_or (set m' a x') y no_variable
        here y hy p (yes k) = rw p (get_or-set_same m a x _ k ∙ e ∙ sym (get_or-set_same m' a x' _ (omega (arith, g.long))))
        here y hy p (no k) = rw (set_out m a x (omega arith), set_out m' a x' (omega (arith, g.long))) (g.shown y hy)

        go : (y : ℕ) → In y → Dec (y ≡ a) → get_or (set m a x) y no_variable ≡ get_or (set m' a x') y no_variable
        go y hy (no d) = get_or-set_other m a y x _ d ∙ g.shown y hy ∙ sym (get_or-set_other m' a y x' _ d)
        go y hy (yes p) = here y hy p (dec_lt a (length m))

    pub append_alike : (m m' own : List Variable) → Alike m m' → NotBefore (suc now) (due_of_variables own) → Alike (m ++ own) (m' ++ own)
    unfolding variable_at
    append_alike m m' own g h =
        record {
          long = simp length-append (omega (arith, g.long));
          shown = λ x hx. go x hx (dec_lt x (length m));
          later = append_not_before (suc now) m own g.later h;
        }
      where
        go : (x : ℕ) → In x → Dec (x < length m) → get_or (m ++ own) x no_variable ≡ get_or (m' ++ own) x no_variable
        go x hx (yes k) = get_or-append m own _ x k ∙ g.shown x hx ∙ sym (get_or-append m' own _ x (omega (arith, g.long)))
        go x hx (no k) =
            past_the_first m own x (omega arith) ∙ ap (λ n. get_or own (x - n) no_variable) g.long ∙
            sym (past_the_first m' own x (omega (arith, g.long)))

    pub take_alike : (m m' : List Variable) (base : ℕ) → base ≤ length m → Alike m m' → Alike (take base m) (take base m')
    unfolding variable_at
    take_alike m m' base h g =
        record {
          long = length-take-le base m h ∙ sym (length-take-le base m' (omega (arith, g.long)));
          shown = λ x hx. go x hx (dec_lt x base);
          later = take_not_before (suc now) base m g.later;
        }
      where
        go : (x : ℕ) → In x → Dec (x < base) → get_or (take base m) x no_variable ≡ get_or (take base m') x no_variable
        go x hx (yes k) = get_or-take base m x _ k ∙ g.shown x hx ∙ sym (get_or-take base m' x _ k)
        go x hx (no k) =
            get_or-eq_default (take base m) _ (omega (arith, length-take-le base m h)) ∙
            sym (get_or-eq_default (take base m') _ (omega (arith, length-take-le base m' (omega (arith, g.long)))))

    pub drop_same : (m m' : List Variable) (base : ℕ) → floor ≤ base → Alike m m' → drop base m ≡ drop base m'
    unfolding variable_at
    drop_same m m' base h g =
        ext_get_or no_variable (drop base m) (drop base m') (simp length-drop (omega (arith, g.long)))
        λ i hi. get_or-drop base m i _ ∙ g.shown (base + i) (zone.up (base + i) (omega arith)) ∙ sym (get_or-drop base m' i _)

    -- ── expressions and waits read the same ───────────────────────────────────────────────────────
    pub named_same : (m m' : List Variable) (names : List ℕ) → Alike m m' → Leads names → named_in m names ≡ named_in m' names
    named_same m m' names g h = fun_ext λ n. g.shown (address_of names n) (h.to n)

    pub evaluate_same : (m m' : List Variable) (names : List ℕ) → Alike m m' → Leads names → (e : List Piece) → evaluate now m names e ≡ evaluate now m' names e
    unfolding evaluate
    evaluate_same m m' names g h e = ap (λ (name : ℕ → Variable). evaluate_by now name e) (named_same m m' names g h)

    pub any_written-same : (m m' : List Variable) (names : List ℕ) → Alike m m' → Leads names → (ns : List ℕ) →
        any_written m names ns ≡ any_written m' names ns
    unfolding any_written
    any_written-same m m' names g h [] = refl
    any_written-same m m' names g h (n ∷ ns) = rw (g.shown (address_of names n) (h.to n), any_written-same m m' names g h ns)

    -- ── writes and waiting writes ─────────────────────────────────────────────────────────────────
    pub write_alike : (m m' : List Variable) (a v v' : ℕ) → In a → Alike m m' → v ≡ v' → Alike (write_at now m a v) (write_at now m' a v')
    unfolding write_at variable_at written_to
    write_alike m m' a v v' h g e = set_alike m m' a _ _ g (rw (e, g.shown a h)) (get_or-not_before (suc now) m a g.later)

    positive_is_later : (d : ℕ) → is_positive d ≡ true → suc now ≤ now + d
    positive_is_later d e = go (leb 1 d) refl e
      where
        go : (x : Bool) → leb 1 d ≡ x → x && ltb d 2147483648 ≡ true → suc now ≤ now + d
        go true p q = omega (arith, leb-true 1 d p)
        go false p q = false_is_not_true q

    pub schedule_alike : (m m' : List Variable) (a d v : ℕ) → is_positive d ≡ true → In a → Alike m m' →
        Alike (schedule_at m a (now + d) v) (schedule_at m' a (now + d) v)
    unfolding schedule_at due_of scheduled_on
    schedule_alike m m' a d v p h g = set_alike m m' a _ _ g (rw (g.shown a h)) (due_from (positive_is_later d p))

    -- ── new routines ──────────────────────────────────────────────────────────────────────────────
    pub own_later : (kinds : List Kind) (arguments : List ℕ) (locals : ℕ) (name : ℕ → Variable) →
        NotBefore (suc now) (due_of_variables (own_variables now kinds arguments locals name))
    unfolding own_variables due_of_variables due_of new_variable earlier
    own_later [] arguments zero name = nothing_due
    own_later [] arguments (suc locals) name = own_later [] arguments locals name
    own_later (by_reference ∷ kinds) [] locals name = own_later kinds [] locals name
    own_later (by_reference ∷ kinds) (n ∷ arguments) locals name = own_later kinds arguments locals name
    own_later (by_value ∷ kinds) [] locals name = own_later kinds [] locals name
    own_later (by_value ∷ kinds) (n ∷ arguments) locals name = own_later kinds arguments locals name
