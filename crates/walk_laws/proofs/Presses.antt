-- Document 02, Change 4: "An input now drops any waiting write on its variable; `S` still doesn't."
-- What the inputs of a call do to each variable; and that an accepted press makes the waiting write on its variable as if it had never been: the call
-- and all calls after it answer as on a board on which it did not stand.
-- Letters: t a moment, m variables, ws inputs, k and n numbers of variables, x a variable, w a waiting write or an input, s a state, c a call.
use mathlib.Core.Path.{◌≡◌, refl, sym, ap, ◌∙◌}
use mathlib.Core.Bool.{Bool, true, false, ◌||◌, not}
use mathlib.Core.List.{List, [], ◌∷◌, Memᴰ}
use Prim.Native.Nat.{ℕ, zero, suc, ◌≤◌, ◌<◌}
use native.Mathlib.Decide.{ℕ_discrete, dec_lt}
use native.Mathlib.Omega.{arith}
use borrow.Author.Tests.{eqb-true, eqb-false, ne_eqb, lt-ltb, ltb-true, leb-true}
use lib.Dec.{eqb, ltb, leb}
use lib.ListN.{length, get_or, set, length-set}
use lib.Seq.{get_or-set_same, get_or-set_other, set-set, set_comm, set_out}
use Rattle.listing.specs.Listing.{Listing}
use Rattle.walk.specs.State.{Waiting, idle, Variable, no_variable, written_to, input_to, made_due, State}
use Rattle.walk.specs.Memory.{variable_at, write_at, input_at}
use Rattle.walk.specs.Instant.{due_writes, Write, apply_inputs, never, due_of, due_of_variables, due_of_forest, next_due, Done, instant}
use Rattle.walk.specs.Calls.{Machine, running, Outcome, refused, done, ask, unstopped, due_before, inputs_rise, instant_from}
use Rattle.walk.specs.Runs.{InstantCall, call_on, machine_after, answers_from}
use Rattle.walk_laws.specs.Presses.{is_pressed, waiting_instead, with_waiting}
use Rattle.walk_laws.proofs.Booleans.{and_left, and_right, false_is_not_true}
use Rattle.walk_laws.proofs.Due.{neither_due_before, earlier_not_before}

-- ── what the inputs do to each variable ───────────────────────────────────────────────────────────
first_not : (a b : Bool) → (a || b) ≡ false → a ≡ false
first_not true b e = sym (false_is_not_true (sym e))
first_not false b e = refl

second_not : (a b : Bool) → (a || b) ≡ false → b ≡ false
second_not true b e = false_is_not_true (sym e)
second_not false b e = e

-- Variables that are not among the inputs stay as they are, with their waiting writes.
pub others_stay : (t k : ℕ) (ws : List Write) (m : List Variable) → is_pressed k ws ≡ false → variable_at (apply_inputs t ws m) k ≡ variable_at m k
unfolding is_pressed apply_inputs input_at variable_at
others_stay t k [] m e = refl
others_stay t k (w ∷ ws) m e =
    others_stay t k ws (input_at t m w.number w.value) (second_not (eqb k w.number) _ e) ∙
    get_or-set_other m w.number k _ no_variable (eqb-false k w.number (first_not (eqb k w.number) _ e))

-- The inputs rise, so that none of those after the first is the first's.
not_again : (i least k : ℕ) (ws : List Write) → inputs_rise i least ws ≡ true → k < least → is_pressed k ws ≡ false
unfolding is_pressed inputs_rise
not_again i least k [] r l = refl
not_again i least k (w ∷ ws) r l =
    let from : least ≤ w.number = leb-true least w.number (and_left (leb least w.number) _ r) in
    let rest = and_right (ltb w.number i) _ (and_right (leb least w.number) _ r) in
    rw (ne_eqb k w.number (λ e. omega arith), not_again i (suc w.number) k ws rest (omega arith))

-- Each input gives its variable the value, the mark, and no waiting write.
pub each_input_does : (t i least : ℕ) (ws : List Write) (m : List Variable) → inputs_rise i least ws ≡ true → i ≤ length m → (w : Write) → Memᴰ w ws →
    variable_at (apply_inputs t ws m) w.number ≡ record { value = w.value; written = true; waiting = idle }
unfolding apply_inputs inputs_rise
each_input_does t i least (v ∷ ws) m r l w (Memᴰ.head e) =
    let inside = and_right (leb least v.number) _ r in
    let below : v.number < i = ltb-true v.number i (and_left (ltb v.number i) _ inside) in
    let rest = and_right (ltb v.number i) _ inside in
    let here : variable_at (input_at t m v.number v.value) v.number ≡ record { value = v.value; written = true; waiting = idle } =
    unfold input_at input_to variable_at in get_or-set_same m v.number _ no_variable (omega arith) in
    rw e (others_stay t v.number ws (input_at t m v.number v.value) (not_again i (suc v.number) v.number ws rest (omega arith)) ∙ here)
each_input_does t i least (v ∷ ws) m r l w (Memᴰ.tail h) =
    let rest = and_right (ltb v.number i) _ (and_right (leb least v.number) _ r) in
    each_input_does t i (suc v.number) ws (input_at t m v.number v.value) rest (unfold input_at in simp length-set l) w h
each_input_does t i least [] m r l w x3 = elim x3 [ ]

-- "`S` still doesn't": a write by `S` leaves every waiting write there.
pub assignments_drop_none : (now a v k : ℕ) (m : List Variable) → (variable_at (write_at now m a v) k).waiting ≡ (variable_at m k).waiting
unfolding write_at written_to variable_at
assignments_drop_none now a v k m = go (ℕ_discrete k a) (dec_lt a (length m))
  where
    go : Dec (k ≡ a) → Dec (a < length m) → (variable_at (write_at now m a v) k).waiting ≡ (variable_at m k).waiting
    go (yes e) (yes h) = rw e (ap (λ (x : Variable). x.waiting) (get_or-set_same m a _ no_variable h))
    go (yes e) (no h) = ap (λ (ys : List Variable). (get_or ys k no_variable).waiting) (set_out m a _ (omega arith))
    go (no d) h = ap (λ (x : Variable). x.waiting) (get_or-set_other m a k _ no_variable d)

-- ── the write that waited on a pressed variable does not count ────────────────────────────────────
due_writes_set : (t k : ℕ) (m : List Variable) (x : Variable) → due_writes t (set m k x) ≡ set (due_writes t m) k (made_due t x)
unfolding due_writes
due_writes_set t k [] x = refl
due_writes_set t zero (y ∷ m) x = refl
due_writes_set t (suc k) (y ∷ m) x = ap (λ ys. made_due t y ∷ ys) (due_writes_set t k m x)

-- Whatever stands at a pressed variable, the inputs leave the same.
inputs_overwrite : (t k : ℕ) (ws : List Write) (m : List Variable) (x : Variable) → is_pressed k ws ≡ true → apply_inputs t ws (set m k x) ≡ apply_inputs t ws m
unfolding is_pressed apply_inputs input_at input_to
inputs_overwrite t k [] m x e = false_is_not_true e
inputs_overwrite t k (w ∷ ws) m x e = go (eqb k w.number) refl e (λ p. inputs_overwrite t k ws (set m w.number y) x p)
  where
    y : Variable
    y = record { value = w.value; written = true; waiting = idle }

    go : (b : Bool) → eqb k w.number ≡ b → (b || is_pressed k ws) ≡ true →
        (is_pressed k ws ≡ true → apply_inputs t ws (set (set m w.number y) k x) ≡ apply_inputs t ws (set m w.number y)) →
        apply_inputs t ws (set (set m k x) w.number y) ≡ apply_inputs t ws (set m w.number y)
    go true q p rest = let same : k ≡ w.number = eqb-true k w.number q in ap (apply_inputs t ws) (rw same (set-set m w.number x y))
    go false q p rest = ap (apply_inputs t ws) (set_comm m k w.number x y (eqb-false k w.number q)) ∙ rest p

pub pressed_away : (listing : Listing) (s : State) (k : ℕ) (w : Waiting) (t : ℕ) (inputs : List Write) (allowance : ℕ) → is_pressed k inputs ≡ true →
    instant listing (with_waiting s k w) t inputs allowance ≡ instant listing s t inputs allowance
unfolding instant with_waiting
pressed_away listing s k w t inputs allowance e =
    rw (due_writes_set t k s.environment (waiting_instead (variable_at s.environment k) w), inputs_overwrite t k inputs (due_writes t s.environment) (made_due t (waiting_instead (variable_at s.environment k) w)) e)

-- ── a call, and all calls after it ────────────────────────────────────────────────────────────────
variables_without : (t k : ℕ) (m : List Variable) (x : Variable) → x.waiting ≡ idle → due_before (due_of_variables m) t ≡ false →
    due_before (due_of_variables (set m k x)) t ≡ false
unfolding due_of_variables due_of due_before
variables_without t k [] x i h = h
variables_without t zero (y ∷ m) x i h =
    let (p, q) = neither_due_before t (due_of y.waiting) (due_of_variables m) h in rw i (earlier_not_before t never (due_of_variables m) refl q)
variables_without t (suc k) (y ∷ m) x i h =
    let (p, q) = neither_due_before t (due_of y.waiting) (due_of_variables m) h in
    earlier_not_before t (due_of y.waiting) (due_of_variables (set m k x)) p (variables_without t k m x i q)

-- Without one of its waiting writes a state has nothing due before t, if it had nothing.
none_due_without : (t k : ℕ) (s : State) → due_before (next_due s) t ≡ false → due_before (next_due (with_waiting s k idle)) t ≡ false
unfolding next_due with_waiting waiting_instead
none_due_without t k s h =
    let (p, q) = neither_due_before t (due_of_variables s.environment) (due_of_forest s.tree) h in
    earlier_not_before t _ (due_of_forest s.tree) (variables_without t k s.environment (waiting_instead (variable_at s.environment k) idle) refl p) q

-- 10 is asked of the waiting writes as they were: a press does not save a late call.
pub late_press_refused : (listing : Listing) (s : State) (t : ℕ) (inputs : List Write) (allowance : ℕ) → s.now < t → due_before (next_due s) t ≡ true →
    instant_from listing s t inputs allowance ≡ refused 10
unfolding instant_from ask
late_press_refused listing s t inputs allowance after late = rw (lt-ltb s.now t after, late)

-- Where nothing is due before t, a call with an input on k has the outcome that it has without the write that waits on k.
pub same_outcome : (listing : Listing) (s : State) (k t : ℕ) (inputs : List Write) (allowance : ℕ) → is_pressed k inputs ≡ true →
    due_before (next_due s) t ≡ false → instant_from listing (with_waiting s k idle) t inputs allowance ≡ instant_from listing s t inputs allowance
unfolding instant_from with_waiting
same_outcome listing s k t inputs allowance e h =
    rw (none_due_without t k s h, h, pressed_away listing s k idle t inputs allowance e)

not_done : {A : Type 0} {k : ℕ} {d : Done} → refused k ≡ done d → A
not_done e = absurd (let z : ◌≡◌ {A = ℕ} 0 1 = cc in let impossible : ⊥ = omega arith in impossible)

none_was_due : (after late : Bool) (next : Outcome) (d : Done) → ask 9 after (ask 10 (not late) next) ≡ done d → late ≡ false
unfolding ask
none_was_due true true next d e = not_done e
none_was_due true false next d e = refl
none_was_due false late next d e = not_done e

module _ (listing : Listing) (c : InstantCall) (d : Done) where
  passed_10 : (s : State) → call_on listing (running s) c ≡ done d → due_before (next_due s) c.time ≡ false
  unfolding call_on unstopped instant_from ask
  passed_10 s e = go c.long_enough e
    where
      go : (long : Bool) → ask 1 long (instant_from listing s c.time c.inputs c.allowance) ≡ done d → due_before (next_due s) c.time ≡ false
      go true q = none_was_due (ltb s.now c.time) (due_before (next_due s) c.time) _ d q
      go false q = not_done q

  pub pressed_call : (s : State) (k : ℕ) → is_pressed k c.inputs ≡ true → call_on listing (running s) c ≡ done d →
      call_on listing (running (with_waiting s k idle)) c ≡ done d
  unfolding call_on unstopped
  pressed_call s k e went =
      ap (ask 1 c.long_enough) (same_outcome listing s k c.time c.inputs c.allowance e (passed_10 s went)) ∙ went

  first_answer : (m : Machine) (cs : List InstantCall) → call_on listing m c ≡ done d →
      answers_from listing m (c ∷ cs) ≡ record { call = c; outcome = done d } ∷ answers_from listing (running d.state) cs
  unfolding answers_from machine_after
  first_answer m cs e = rw e

  -- The answers to an accepted press and to all calls after it are those of a board on which nothing waited on the pressed variable.
  pub off_stays_off : (s : State) (k : ℕ) (cs : List InstantCall) → is_pressed k c.inputs ≡ true → call_on listing (running s) c ≡ done d →
      answers_from listing (running s) (c ∷ cs) ≡ answers_from listing (running (with_waiting s k idle)) (c ∷ cs)
  off_stays_off s k cs e went = first_answer (running s) cs went ∙ sym (first_answer (running (with_waiting s k idle)) cs (pressed_call s k e went))
