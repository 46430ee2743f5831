-- Two whole lists of calls: if a part of the state turns the same way at the same moments and inputs, and calls with nothing
-- for it pass it by, then equal inputs and an equal end give equal reports and leave equal parts. No pairing of the calls is asked for.
-- Nothing of the walk is used here: P is the part, `next` its next moment due, `Turned t i p q w` says that a call at t with
-- inputs i takes p to q and reports w. Letters: n and m present moments, p and q parts, s and u accepted calls, ss and uu lists of them.
use mathlib.Core.Path.{◌≡◌, refl, sym, ap, ap₂, ◌∙◌, subst, subst₂}
use mathlib.Core.List.{List, [], ◌∷◌, ◌++◌}
use Prim.Native.Nat.{ℕ, suc, ◌≤◌, ◌<◌}
use native.Mathlib.Omega.{arith}
use native.Mathlib.Nat.{le_refl}
use Rattle.walk.specs.Instant.{Write, NextDue, moment}
use Rattle.walk.specs.Events.{Event, events_at}
use Rattle.walk_halves.proofs.Due.{NotBefore, from_moment, due-now?, not_now_so_later}

-- ── events in time ────────────────────────────────────────────────────────────────────────────────
data AllAfter (t : ℕ) : List Event → Type 0 where
  no_event : AllAfter t []
  an_event : {e : Event} {es : List Event} → t < e.moment → AllAfter t es → AllAfter t (e ∷ es)

after_earlier : (t u : ℕ) (es : List Event) → t < u → AllAfter u es → AllAfter t es
after_earlier t u _ h no_event = no_event
after_earlier t u _ h (an_event {e = e} k l) = an_event {e = e} (omega arith) (after_earlier t u _ h l)

events_after : (t u : ℕ) (xs : List Write) (es : List Event) → t < u → AllAfter t es → AllAfter t (events_at u xs ++ es)
unfolding events_at
events_after t u [] es h l = l
events_after t u (x ∷ xs) es h l = an_event {e = record { moment = u; number = x.number; value = x.value }} h (events_after t u xs es h l)

head_same : (v w : Event) (vs ws : List Event) → v ∷ vs ≡ w ∷ ws → v ≡ w
head_same v w vs ws e = cc

tail_same : (v w : Event) (vs ws : List Event) → v ∷ vs ≡ w ∷ ws → vs ≡ ws
tail_same v w vs ws e = cc

-- The inputs of one moment and those after it are told apart.
record Split (xs ys : List Write) (es fs : List Event) : Type 0 where
  now_same : xs ≡ ys
  rest_same : es ≡ fs

split : (t : ℕ) (xs ys : List Write) (es fs : List Event) → AllAfter t es → AllAfter t fs → events_at t xs ++ es ≡ events_at t ys ++ fs →
    Split xs ys es fs
unfolding events_at
split t [] [] es fs l k e = record { now_same = refl; rest_same = e }
split t [] (y ∷ ys) _ fs no_event k e = let z : ◌≡◌ {A = ℕ} 0 1 = cc in absurd (omega arith)
split t [] (y ∷ ys) _ fs (an_event {e = v} h l) k e =
    let z : v.moment ≡ t = ap (λ (u : Event). u.moment) (head_same v _ _ _ e) in absurd (omega arith)
split t (x ∷ xs) [] es _ l no_event e = let z : ◌≡◌ {A = ℕ} 0 1 = cc in absurd (omega arith)
split t (x ∷ xs) [] es _ l (an_event {e = v} h k) e =
    let z : t ≡ v.moment = ap (λ (u : Event). u.moment) (head_same _ v _ _ e) in absurd (omega arith)
split t (x ∷ xs) (y ∷ ys) es fs l k e =
    let rest = split t xs ys es fs l k (tail_same _ _ _ _ e) in
    let same : x ≡ y = ap (λ (v : Event). record { number = v.number; value = v.value }) (head_same _ _ _ _ e) in
    record { now_same = ap₂ ◌∷◌ same rest.now_same; rest_same = rest.rest_same }

-- An input that one run takes at t is not before the other's next call.
input_not_before : (t u : ℕ) (x : Write) (es : List Event) (ys : List Write) (fs : List Event) → AllAfter u fs →
    record { moment = t; number = x.number; value = x.value } ∷ es ≡ events_at u ys ++ fs → u ≤ t
unfolding events_at
input_not_before t u x es [] _ no_event e = let z : ◌≡◌ {A = ℕ} 0 1 = cc in absurd (omega arith)
input_not_before t u x es [] _ (an_event {e = v} h l) e = let z : t ≡ v.moment = ap (λ (k : Event). k.moment) (head_same _ v _ _ e) in omega arith
input_not_before t u x es (y ∷ ys) fs l e = let z : t ≡ u = ap (λ (k : Event). k.moment) (head_same _ _ _ _ e) in omega arith

module _ (P : Type 0) (next : P → NextDue) (Turned : ℕ → List Write → P → P → List Event → Type 0)
    (determined : (t : ℕ) (i : List Write) (p q q' : P) (w w' : List Event) → Turned t i p q w → Turned t i p q' w' → (q ≡ q') × (w ≡ w'))
    (undisturbed : (t : ℕ) (p q : P) (w : List Event) → Turned t [] p q w → NotBefore (suc t) (next p) → (q ≡ p) × (w ≡ [])) where
  -- An accepted call: its moment, the inputs to the part, the part after it, the part's reports.
  pub record Accepted : Type 0 where
    pub time : ℕ
    pub inputs : List Write
    pub part : P
    pub reports : List Event

  unfoldable pub all_inputs : List Accepted → List Event
  all_inputs [] = []
  all_inputs (s ∷ ss) = events_at s.time s.inputs ++ all_inputs ss

  unfoldable pub all_reports : List Accepted → List Event
  all_reports [] = []
  all_reports (s ∷ ss) = s.reports ++ all_reports ss

  unfoldable pub end_of : ℕ → List Accepted → ℕ
  end_of n [] = n
  end_of n (s ∷ ss) = end_of s.time ss

  -- The part that all of them leave.
  unfoldable pub last_part : P → List Accepted → P
  last_part p [] = p
  last_part p (s ∷ ss) = last_part s.part ss

  pub record Follows (n : ℕ) (p : P) (s : Accepted) : Type 0 where
    pub after : n < s.time
    pub none_missed : NotBefore s.time (next p)
    pub turned : Turned s.time s.inputs p s.part s.reports
    pub all_made : NotBefore (suc s.time) (next s.part)

  abbrev pub Follow : ℕ → P → List Accepted → Type 0
  Follow n p [] = Unit {0}
  Follow n p (s ∷ ss) = Follows n p s × Follow s.time s.part ss

  end_not_before : (n : ℕ) (p : P) (ss : List Accepted) → Follow n p ss → n ≤ end_of n ss
  unfolding end_of
  end_not_before n p [] v = le_refl n
  end_not_before n p (s ∷ ss) v = omega (arith, v.0.after, end_not_before s.time s.part ss v.1)

  inputs_after : (n : ℕ) (p : P) (ss : List Accepted) → Follow n p ss → AllAfter n (all_inputs ss)
  unfolding all_inputs
  inputs_after n p [] v = no_event
  inputs_after n p (s ∷ ss) v =
      events_after n s.time s.inputs _ v.0.after (after_earlier n s.time _ v.0.after (inputs_after s.time s.part ss v.1))

  -- ── a call touches the part, or passes it by ──────────────────────────────────────────────────
  data Touches (p : P) (t : ℕ) (i : List Write) : Type 0 where
    due_now : next p ≡ moment t → Touches p t i
    input_now : {x : Write} {xs : List Write} → i ≡ x ∷ xs → Touches p t i

  data Either (p : P) (t : ℕ) (i : List Write) : Type 0 where
    by : i ≡ [] → (next p ≡ moment t → ⊥) → Either p t i
    touch : Touches p t i → Either p t i

  either : (p : P) (t : ℕ) (i : List Write) → Either p t i
  either p t (x ∷ xs) = touch (input_now refl)
  either p t [] = go (due-now? (next p) t)
    where
      go : Dec (next p ≡ moment t) → Either p t []
      go (yes e) = touch (due_now e)
      go (no d) = by refl d

  record Passed (p : P) (s : Accepted) : Type 0 where
    part : s.part ≡ p
    no_input_lem : s.inputs ≡ []
    no_report : s.reports ≡ []

  passed : (n : ℕ) (p : P) (s : Accepted) → Follows n p s → s.inputs ≡ [] → (next p ≡ moment s.time → ⊥) → Passed p s
  passed n p s g e d =
      let k = undisturbed s.time p s.part s.reports (subst (λ (i : List Write). Turned s.time i p s.part s.reports) e g.turned)
      (not_now_so_later s.time (next p) g.none_missed d) in
      record { part = k.0; no_input_lem = e; no_report = k.1 }

  follow_from : (p : P) (s : Accepted) (ss : List Accepted) → Passed p s → Follow s.time s.part ss → Follow s.time p ss
  follow_from p s ss k v = subst (λ (x : P). Follow s.time x ss) k.part v

  made_from : (p : P) (s : Accepted) → Passed p s → NotBefore (suc s.time) (next s.part) → NotBefore (suc s.time) (next p)
  made_from p s k f = subst (λ (x : P). NotBefore (suc s.time) (next x)) k.part f

  inputs_without : (p : P) (s : Accepted) (ss : List Accepted) → Passed p s → all_inputs (s ∷ ss) ≡ all_inputs ss
  unfolding all_inputs events_at
  inputs_without p s ss k = rw k.no_input_lem

  reports_without : (p : P) (s : Accepted) (ss : List Accepted) → Passed p s → all_reports (s ∷ ss) ≡ all_reports ss
  unfolding all_reports
  reports_without p s ss k = rw k.no_report

  -- One run has ended: whatever the other still does passes the part by.
  rest_passes : (n m : ℕ) (p : P) (s : Accepted) (ss : List Accepted) → NotBefore (suc n) (next p) → Follow m p (s ∷ ss) → [] ≡ all_inputs (s ∷ ss) →
      n ≡ end_of m (s ∷ ss) →
      Either p s.time s.inputs → Passed p s
  unfolding all_inputs events_at end_of
  rest_passes n m p s ss f v a e (by x d) = passed m p s v.0 x d
  rest_passes n m p s ss f v a e (touch (due_now d)) =
      absurd (omega (arith, from_moment (suc n) s.time (rw d at f), end_not_before s.time s.part ss v.1))
  rest_passes n m p s ss f v a e (touch (input_now {x = x} {xs = xs} q)) =
      let b : [] ≡ events_at s.time (x ∷ xs) ++ all_inputs ss = subst (λ (i : List Write). [] ≡ events_at s.time i ++ all_inputs ss) q a in
      let z : ◌≡◌ {A = ℕ} 0 1 = cc b in absurd (omega arith)

  -- Two calls that touch the part stand at one moment.
  not_after : (n m : ℕ) (p : P) (s u : Accepted) (ss uu : List Accepted) → Follow n p (s ∷ ss) → Follow m p (u ∷ uu) →
      all_inputs (s ∷ ss) ≡ all_inputs (u ∷ uu) →
      Touches p s.time s.inputs → u.time ≤ s.time
  unfolding all_inputs events_at
  not_after n m p s u ss uu v v' a (due_now d) = from_moment u.time s.time (rw d at v'.0.none_missed)
  not_after n m p s u ss uu v v' a (input_now {x = x} {xs = xs} q) =
      input_not_before s.time u.time x (events_at s.time xs ++ all_inputs ss) u.inputs (all_inputs uu)
      (inputs_after u.time u.part uu v'.1)
      (subst (λ (i : List Write). events_at s.time i ++ all_inputs ss ≡ events_at u.time u.inputs ++ all_inputs uu) q a)

  -- And then they do the same.
  record Same (s u : Accepted) (ss uu : List Accepted) : Type 0 where
    part : s.part ≡ u.part
    reports : s.reports ≡ u.reports
    rest : all_inputs ss ≡ all_inputs uu

  same : (n m : ℕ) (p : P) (s u : Accepted) (ss uu : List Accepted) → Follow n p (s ∷ ss) → Follow m p (u ∷ uu) →
      all_inputs (s ∷ ss) ≡ all_inputs (u ∷ uu) →
      s.time ≡ u.time → Same s u ss uu
  unfolding all_inputs
  same n m p s u ss uu v v' a e =
      let l : AllAfter s.time (all_inputs uu) = subst (λ (x : ℕ). AllAfter x (all_inputs uu)) (sym e) (inputs_after u.time u.part uu v'.1) in
      let b : events_at s.time s.inputs ++ all_inputs ss ≡ events_at s.time u.inputs ++ all_inputs uu =
      a ∙ ap (λ (x : ℕ). events_at x u.inputs ++ all_inputs uu) (sym e) in
      let q = split s.time s.inputs u.inputs (all_inputs ss) (all_inputs uu) (inputs_after s.time s.part ss v.1) l b in
      let turned : Turned s.time s.inputs p u.part u.reports =
      subst₂ (λ (x : ℕ) (i : List Write). Turned x i p u.part u.reports) (sym e) (sym q.now_same) v'.0.turned in
      let d = determined s.time s.inputs p s.part u.part s.reports u.reports v.0.turned turned in
      record { part = d.0; reports = d.1; rest = q.rest_same }

  -- What two runs from the part p have in common: their reports, and the part that they leave.
  pub record SameRun (p : P) (ss uu : List Accepted) : Type 0 where
    pub reports : all_reports ss ≡ all_reports uu
    pub part : last_part p ss ≡ last_part p uu

  flip : (p : P) (ss uu : List Accepted) → SameRun p ss uu → SameRun p uu ss
  flip p ss uu r = record { reports = sym r.reports; part = sym r.part }

  decide : (n m : ℕ) (p : P) (s u : Accepted) (ss uu : List Accepted) → Follow n p (s ∷ ss) → Follow m p (u ∷ uu) →
      all_inputs (s ∷ ss) ≡ all_inputs (u ∷ uu) →
      (Passed p s → SameRun p (s ∷ ss) (u ∷ uu)) → (Passed p u → SameRun p (s ∷ ss) (u ∷ uu)) → (Same s u ss uu → SameRun p (s ∷ ss) (u ∷ uu)) →
      Either p s.time s.inputs → Either p u.time u.inputs → SameRun p (s ∷ ss) (u ∷ uu)
  decide n m p s u ss uu v v' a first second both (by x d) k = first (passed n p s v.0 x d)
  decide n m p s u ss uu v v' a first second both (touch j) (by x d) = second (passed m p u v'.0 x d)
  decide n m p s u ss uu v v' a first second both (touch j) (touch k) =
      let l : u.time ≤ s.time = not_after n m p s u ss uu v v' a j in
      let g : s.time ≤ u.time = not_after m n p u s uu ss v' v (sym a) k in
      both (same n m p s u ss uu v v' a (omega arith))

  -- A call that passes the part by, and one that touches it in both runs.
  one_passed : (p : P) (s : Accepted) (ss uu : List Accepted) → Passed p s → SameRun p ss uu → SameRun p (s ∷ ss) uu
  unfolding last_part
  one_passed p s ss uu k r = record { reports = reports_without p s ss k ∙ r.reports; part = ap (λ (x : P). last_part x ss) k.part ∙ r.part }

  both_touched : (p : P) (s u : Accepted) (ss uu : List Accepted) → Same s u ss uu → SameRun s.part ss uu → SameRun p (s ∷ ss) (u ∷ uu)
  unfolding all_reports last_part
  both_touched p s u ss uu h r = record { reports = ap₂ ◌++◌ h.reports r.reports; part = r.part ∙ ap (λ (x : P). last_part x uu) h.part }

  -- Two runs that begin with the same part, take the same inputs and end at the same time.
  pub same_run : (ss uu : List Accepted) (n m : ℕ) (p : P) → NotBefore (suc n) (next p) → NotBefore (suc m) (next p) → Follow n p ss →
      Follow m p uu →
      all_inputs ss ≡ all_inputs uu → end_of n ss ≡ end_of m uu → SameRun p ss uu
  unfolding end_of
  same_run [] [] n m p f g v v' a e = record { reports = refl; part = refl }
  same_run [] (u ∷ uu) n m p f g v v' a e =
      let k = rest_passes n m p u uu f v' (unfold all_inputs in a) e (either p u.time u.inputs) in
      flip p (u ∷ uu) [] (one_passed p u uu [] k (flip p [] uu
      (same_run [] uu n u.time p f (made_from p u k v'.0.all_made) v (follow_from p u uu k v'.1) (a ∙ inputs_without p u uu k) e)))
  same_run (s ∷ ss) [] n m p f g v v' a e =
      let k = rest_passes m n p s ss g v (unfold all_inputs in sym a) (sym e) (either p s.time s.inputs) in
      one_passed p s ss [] k (same_run ss [] s.time m p (made_from p s k v.0.all_made) g (follow_from p s ss k v.1) v'
      (sym (inputs_without p s ss k) ∙ a) e)
  same_run (s ∷ ss) (u ∷ uu) n m p f g v v' a e =
      decide n m p s u ss uu v v' a
      (λ k. one_passed p s ss (u ∷ uu) k (same_run ss (u ∷ uu) s.time m p (made_from p s k v.0.all_made) g (follow_from p s ss k v.1) v'
      (sym (inputs_without p s ss k) ∙ a) e))
      (λ k. flip p (u ∷ uu) (s ∷ ss) (one_passed p u uu (s ∷ ss) k (flip p (s ∷ ss) uu
      (same_run (s ∷ ss) uu n u.time p f (made_from p u k v'.0.all_made) v (follow_from p u uu k v'.1) (a ∙ inputs_without p u uu k) e))))
      (λ h. both_touched p s u ss uu h (same_run ss uu s.time u.time s.part v.0.all_made
      (subst (λ (x : P). NotBefore (suc u.time) (next x)) (sym h.part) v'.0.all_made) v.1
      (subst (λ (x : P). Follow u.time x uu) (sym h.part) v'.1) h.rest e))
      (either p s.time s.inputs) (either p u.time u.inputs)
