-- The variables lent to one grower: memory in which every other variable is blank, which commutes with all that an instant
-- does outside the visit. So the grower's part of a state is a value, and two states have it in common if these are equal.
-- Letters: args the grower's names in main, which are addresses there; m memory, x an address, n the address that a list begins at.
use mathlib.Core.Path.{◌≡◌, refl, sym, ap, ap₂, ◌∙◌}
use mathlib.Core.Bool.{Bool, true, false}
use mathlib.Core.List.{List, [], ◌∷◌, ◌++◌}
use Prim.Native.Nat.{ℕ, zero, suc, ◌+◌, ◌<◌}
use native.Mathlib.Omega.{arith}
use native.Mathlib.Nat.{add-zero, add-suc, suc-add, zero-add}
use lib.ListN.{length, get_or, take, drop, set}
use lib.Seq.{set-get_or, ext_get_or}
use Rattle.listing.specs.Listing.{Call}
use Rattle.walk.specs.State.{Variable, no_variable, new_variable, due_write, unmarked_of, made_due, input_to}
use Rattle.walk.specs.Memory.{variable_at, input_at}
use Rattle.walk.specs.Instant.{due_writes, Write, apply_inputs, unmarked, due_of, due_of_variables, listed_if, written_from}
use Rattle.walk.specs.Events.{Event, events_at}
use Rattle.walk_halves.specs.Halves.{among, kept_if, only_of}
use Rattle.walk_halves.proofs.Due.{NotBefore, nothing_due, both_not_before, neither_before}

unfoldable pub shown_if : Bool → Variable → Variable
shown_if true x = x
shown_if false x = no_variable

unfoldable pub lent_from : List ℕ → ℕ → List Variable → List Variable
lent_from args n [] = []
lent_from args n (x ∷ xs) = shown_if (among n args) x ∷ lent_from args (suc n) xs

unfoldable pub lent : List ℕ → List Variable → List Variable
lent args m = lent_from args 0 m

unfoldable pub write_if : Bool → Write → List Write → List Write
write_if true w ws = w ∷ ws
write_if false w ws = ws

-- Of writes, those on the grower's names.
unfoldable pub own_writes : List ℕ → List Write → List Write
own_writes args [] = []
own_writes args (w ∷ ws) = write_if (among w.number args) w (own_writes args ws)

shown_blank : (b : Bool) → shown_if b no_variable ≡ no_variable
unfolding shown_if new_variable no_variable
shown_blank true = refl
shown_blank false = refl

module _ (args : List ℕ) where
  length-lent_from : (n : ℕ) (m : List Variable) → length (lent_from args n m) ≡ length m
  unfolding lent_from
  length-lent_from n [] = refl
  length-lent_from n (x ∷ m) = ap suc (length-lent_from (suc n) m)

  get_or-lent_from : (n : ℕ) (m : List Variable) (x : ℕ) → get_or (lent_from args n m) x no_variable ≡ shown_if (among (n + x) args) (get_or m x no_variable)
  unfolding lent_from new_variable among no_variable
  get_or-lent_from n [] x = sym (shown_blank _)
  get_or-lent_from n (y ∷ m) zero = rw (add-zero n)
  get_or-lent_from n (y ∷ m) (suc x) = get_or-lent_from (suc n) m x ∙ ap (λ k. shown_if (among k args) (get_or m x no_variable)) (suc-add n x ∙ sym (add-suc n x))

  set-lent_from : (n : ℕ) (m : List Variable) (a : ℕ) (x : Variable) → lent_from args n (set m a x) ≡
      set (lent_from args n m) a (shown_if (among (n + a) args) x)
  unfolding lent_from
  set-lent_from n [] a x = refl
  set-lent_from n (y ∷ m) zero x = rw (add-zero n)
  set-lent_from n (y ∷ m) (suc a) x =
      ap₂ ◌∷◌ refl (set-lent_from (suc n) m a x ∙ ap (λ k. set (lent_from args (suc n) m) a (shown_if (among k args) x)) (suc-add n a ∙ sym (add-suc n a)))

  take-lent_from : (k n : ℕ) (m : List Variable) → take k (lent_from args n m) ≡ lent_from args n (take k m)
  unfolding lent_from
  take-lent_from zero n m = refl
  take-lent_from (suc k) n [] = refl
  take-lent_from (suc k) n (x ∷ m) = ap₂ ◌∷◌ refl (take-lent_from k (suc n) m)

  drop-lent_from : (k n : ℕ) (m : List Variable) → drop k (lent_from args n m) ≡ lent_from args (n + k) (drop k m)
  unfolding lent_from
  drop-lent_from zero n m = rw (add-zero n)
  drop-lent_from (suc k) n [] = refl
  drop-lent_from (suc k) n (x ∷ m) = drop-lent_from k (suc n) m ∙ ap (λ j. lent_from args j (drop k m)) (suc-add n k ∙ sym (add-suc n k))

  due_shown : (t : ℕ) (b : Bool) (x : Variable) → shown_if b (made_due t x) ≡ made_due t (shown_if b x)
  unfolding shown_if made_due due_write unmarked_of no_variable
  due_shown t true x = refl
  due_shown t false x = refl

  due-lent_from : (t n : ℕ) (m : List Variable) → lent_from args n (due_writes t m) ≡ due_writes t (lent_from args n m)
  unfolding lent_from due_writes
  due-lent_from t n [] = refl
  due-lent_from t n (x ∷ m) = ap₂ ◌∷◌ (due_shown t (among n args) x) (due-lent_from t (suc n) m)

  unmarked-lent_from : (n : ℕ) (m : List Variable) → lent_from args n (unmarked m) ≡ unmarked (lent_from args n m)
  unfolding lent_from unmarked unmarked_of
  unmarked-lent_from n [] = refl
  unmarked-lent_from n (x ∷ m) = ap₂ ◌∷◌ (go (among n args)) (unmarked-lent_from (suc n) m)
    where
      go : (b : Bool) → shown_if b (unmarked_of x) ≡ unmarked_of (shown_if b x)
      go true = unfold shown_if in refl
      go false = unfold shown_if unmarked_of no_variable in refl

  later-lent_from : (t n : ℕ) (m : List Variable) → NotBefore t (due_of_variables m) → NotBefore t (due_of_variables (lent_from args n m))
  unfolding lent_from due_of_variables
  later-lent_from t n [] h = nothing_due
  later-lent_from t n (x ∷ m) h =
      let (first, rest) = neither_before t (due_of x.waiting) (due_of_variables m) h in
      both_not_before t _ _ (go (among n args) first) (later-lent_from t (suc n) m rest)
    where
      go : (b : Bool) → NotBefore t (due_of x.waiting) → NotBefore t (due_of (shown_if b x).waiting)
      go true k = unfold shown_if in k
      go false k = unfold shown_if no_variable due_of in nothing_due

  -- Its reports are those of the variables lent to it.
  written-lent_from : (n : ℕ) (m : List Variable) → own_writes args (written_from n m) ≡ written_from n (lent_from args n m)
  unfolding lent_from written_from own_writes
  written-lent_from n [] = refl
  written-lent_from n (x ∷ m) = go x.written (among n args) refl (written-lent_from (suc n) m)
    where
      go : (w b : Bool) → among n args ≡ b → own_writes args (written_from (suc n) m) ≡ written_from (suc n) (lent_from args (suc n) m) →
          own_writes args (listed_if w n x.value (written_from (suc n) m)) ≡
          listed_if (shown_if b (record { value = x.value; written = w; waiting = x.waiting })).written n (shown_if b x).value
          (written_from (suc n) (lent_from args (suc n) m))
      go true true e h = unfold shown_if listed_if own_writes write_if in rw (e, h)
      go true false e h = unfold shown_if no_variable listed_if own_writes write_if in rw (e, h)
      go false true e h = unfold shown_if listed_if in h
      go false false e h = unfold shown_if no_variable listed_if in h

  -- ── the same of whole memories ────────────────────────────────────────────────────────────────
  pub length_lent : (m : List Variable) → length (lent args m) ≡ length m
  unfolding lent
  length_lent m = length-lent_from 0 m

  pub variable_lent : (m : List Variable) (x : ℕ) → variable_at (lent args m) x ≡ shown_if (among x args) (variable_at m x)
  unfolding lent variable_at
  variable_lent m x = get_or-lent_from 0 m x ∙ ap (λ k. shown_if (among k args) (get_or m x no_variable)) (zero-add x)

  pub take_lent : (k : ℕ) (m : List Variable) → take k (lent args m) ≡ lent args (take k m)
  unfolding lent
  take_lent k m = take-lent_from k 0 m

  pub due_lent : (t : ℕ) (m : List Variable) → lent args (due_writes t m) ≡ due_writes t (lent args m)
  unfolding lent
  due_lent t m = due-lent_from t 0 m

  pub unmarked_lent : (m : List Variable) → lent args (unmarked m) ≡ unmarked (lent args m)
  unfolding lent
  unmarked_lent m = unmarked-lent_from 0 m

  pub later_lent : (t : ℕ) (m : List Variable) → NotBefore t (due_of_variables m) → NotBefore t (due_of_variables (lent args m))
  unfolding lent
  later_lent t m h = later-lent_from t 0 m h

  pub reports_lent : (first : ℕ) (m : List Variable) → own_writes args (written_from first (drop first m)) ≡ written_from first (drop first (lent args m))
  unfolding lent
  reports_lent first m =
      written-lent_from first (drop first m) ∙ ap (written_from first) (sym (drop-lent_from first 0 m ∙
      ap (λ k. lent_from args k (drop first m)) (zero-add first)))

  -- What is shown is equal, and conversely.
  pub shown_same : (m m' : List Variable) → lent args m ≡ lent args m' → (x : ℕ) → among x args ≡ true → variable_at m x ≡ variable_at m' x
  unfolding shown_if
  shown_same m m' e x h =
      ap (λ b. shown_if b (variable_at m x)) (sym h) ∙ sym (variable_lent m x) ∙ ap (λ l. variable_at l x) e ∙ variable_lent m' x ∙
      ap (λ b. shown_if b (variable_at m' x)) h

  pub same_shown : (m m' : List Variable) → length m ≡ length m' → ((x : ℕ) → x < length m → among x args ≡ true →
      variable_at m x ≡ variable_at m' x) → lent args m ≡ lent args m'
  unfolding variable_at
  same_shown m m' l h =
      ext_get_or no_variable (lent args m) (lent args m') (length_lent m ∙ l ∙ sym (length_lent m'))
      λ x hx. variable_lent m x ∙ go x (omega (arith, length_lent m)) (among x args) refl ∙ sym (variable_lent m' x)
    where
      go : (x : ℕ) → x < length m → (b : Bool) → among x args ≡ b → shown_if b (variable_at m x) ≡ shown_if b (variable_at m' x)
      go x hx true e = ap (shown_if true) (h x hx e)
      go x hx false e = unfold shown_if in refl

  -- ── inputs ────────────────────────────────────────────────────────────────────────────────────
  write_lent : (t : ℕ) (m : List Variable) (w : Write) (b : Bool) → among w.number args ≡ b →
      lent args (input_at t m w.number w.value) ≡ apply_inputs t (write_if b w []) (lent args m)
  unfolding input_at input_to lent write_if apply_inputs shown_if
  write_lent t m w true e =
      set-lent_from 0 m w.number _ ∙ rw (zero-add w.number, e)
  write_lent t m w false e =
      set-lent_from 0 m w.number _ ∙ rw (zero-add w.number, e) (ap (set (lent_from args 0 m) w.number) (sym blank) ∙
      set-get_or (lent_from args 0 m) w.number no_variable)
    where
      blank : get_or (lent_from args 0 m) w.number no_variable ≡ no_variable
      blank = get_or-lent_from 0 m w.number ∙ rw (zero-add w.number, e)

  pub inputs_lent : (t : ℕ) (ws : List Write) (m : List Variable) → lent args (apply_inputs t ws m) ≡ apply_inputs t (own_writes args ws) (lent args m)
  unfolding apply_inputs own_writes
  inputs_lent t [] m = refl
  inputs_lent t (w ∷ ws) m = inputs_lent t ws (input_at t m w.number w.value) ∙
      ap (apply_inputs t (own_writes args ws)) (write_lent t m w (among w.number args) refl) ∙ go (among w.number args)
    where
      go : (b : Bool) → apply_inputs t (own_writes args ws) (apply_inputs t (write_if b w []) (lent args m)) ≡
          apply_inputs t (write_if b w (own_writes args ws)) (lent args m)
      go true = unfold write_if in refl
      go false = unfold write_if in refl

-- ── lists of events ───────────────────────────────────────────────────────────────────────────────
pub only_events : (c : Call) (t : ℕ) (ws : List Write) → only_of c (events_at t ws) ≡ events_at t (own_writes c.arguments ws)
unfolding only_of events_at own_writes
only_events c t [] = refl
only_events c t (w ∷ ws) = go (among w.number c.arguments) (only_events c t ws)
  where
    event : Event
    event = record { moment = t; number = w.number; value = w.value }

    go : (b : Bool) → only_of c (events_at t ws) ≡ events_at t (own_writes c.arguments ws) →
        kept_if b event (only_of c (events_at t ws)) ≡ events_at t (write_if b w (own_writes c.arguments ws))
    go true h = unfold kept_if write_if events_at in ap (λ es. event ∷ es) h
    go false h = unfold kept_if write_if in h

pub only_both : (c : Call) (es fs : List Event) → only_of c (es ++ fs) ≡ only_of c es ++ only_of c fs
unfolding only_of
only_both c [] fs = refl
only_both c (e ∷ es) fs = go (among e.number c.arguments) (only_both c es fs)
  where
    go : (b : Bool) → only_of c (es ++ fs) ≡ only_of c es ++ only_of c fs → kept_if b e (only_of c (es ++ fs)) ≡ kept_if b e (only_of c es) ++ only_of c fs
    go true h = unfold kept_if in ap (λ l. e ∷ l) h
    go false h = unfold kept_if in h
