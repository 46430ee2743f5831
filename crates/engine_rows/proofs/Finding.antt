-- The first ready leaf in walking order is the next that runs; where nothing is ready, the instant is over.
-- Letters as in Place.
use mathlib.Core.Path.{◌≡◌, refl, sym, ap, ◌∙◌}
use mathlib.Core.Bool.{Bool, true, false}
use mathlib.Core.List.{List, [], ◌∷◌, ◌++◌, append_assoc}
use Prim.Native.Nat.{ℕ}
use Rattle.listing.specs.Listing.{Call, Listing, fork}
use Rattle.walk.specs.State.{Variable, ok}
use Rattle.walk.specs.Walk.{instruction_at}
use Rattle.engine_rows.specs.Triggers.{cons_if}
use Rattle.engine_rows.specs.Agenda.{running_with}
use Rattle.engine_rows.proofs.Agenda.{rest}
use Rattle.engine_rows.proofs.Place.{rests_join, tasks, ⋈-nil, nil, will_run, Paused, nil_not, stay, plug, by_down, memory_of, ⋈-assoc, pass, Frame, erase, key, full, Tree, at_root, ready, Silent, rests_new, put, up, between, rise, by_up, append_empty, Rests, down, ◌⋈◌, under, ready_up, by_pass, Record, Full, rests_wait, rests_nil}

module _ (listing : Listing) (now : ℕ) where
  -- the next that runs
  pub record Found (environment : List Variable) (j l woken : ℕ) (fs₀ : List Frame) (d₀ t₀ : Tree) (k : ℕ) (ks : List ℕ) : Type 0 where
    pub fs : List Frame
    pub done : Tree
    pub who : Record
    pub todo : Tree
    pub moves : Silent fs₀ d₀ t₀ fs done (put who nil todo)
    pub same : between listing now environment j l woken fs₀ d₀ t₀ ≡ between listing now environment j l woken fs done (put who nil todo)
    pub tree : plug fs₀ (d₀ ⋈ t₀) ≡ plug fs (done ⋈ put who nil todo)
    pub its : key who ≡ k
    pub is_ready : will_run listing (memory_of environment fs) who ≡ true
    pub others : ready listing (memory_of environment fs) todo ++ ready_up listing environment fs ≡ ks
    pub rests : Rests listing true (put who nil todo)
    pub paused : Paused listing fs

  found_via : (environment : List Variable) (j l woken : ℕ) {fs fs' : List Frame} {d d' t t' : Tree} {k k' : ℕ} {ks ks' : List ℕ} →
      ((gs : List Frame) (e u : Tree) → Silent fs' d' t' gs e u → Silent fs d t gs e u) →
      between listing now environment j l woken fs d t ≡ between listing now environment j l woken fs' d' t' → plug fs (d ⋈ t) ≡ plug fs' (d' ⋈ t') → k' ≡ k → ks' ≡ ks →
      Found environment j l woken fs' d' t' k' ks' → Found environment j l woken fs d t k ks
  found_via environment j l woken m p q d e c =
      record {
        fs = c.fs;
        done = c.done;
        who = c.who;
        todo = c.todo;
        moves = m c.fs c.done (put c.who nil c.todo) c.moves;
        same = p ∙ c.same;
        tree = q ∙ c.tree;
        its = c.its ∙ d;
        is_ready = c.is_ready;
        others = c.others ∙
            e;
        rests = c.rests;
        paused = c.paused;
      }

  pub loosen : {n : Bool} {t : Tree} → Rests listing n t → Rests listing true t
  loosen rests_nil = rests_nil
  loosen (rests_new b r) = rests_new b r
  loosen (rests_wait b i r) = rests_wait b i (loosen r)
  loosen (rests_join b i q r) = rests_join b i q (loosen r)

  module _ (environment : List Variable) (j l woken : ℕ) (fs : List Frame) (done : Tree) (p : Paused listing fs) where
    leaf : (x : Record) (f : Tree) (k : ℕ) (a : List ℕ) (w : Bool) → Rests listing true (put x nil nil) → Rests listing true (put x nil f) →
        will_run listing (memory_of environment fs) x ≡ w → cons_if w (key x) (ready listing (memory_of environment fs) f) ≡ k ∷ a →
        (ready listing (memory_of environment fs) f ≡ k ∷ a →
        Found environment j l woken fs (done ⋈ put x nil nil) f k (a ++ ready_up listing environment fs)) →
        Found environment j l woken fs done (put x nil f) k (a ++ ready_up listing environment fs)
    unfolding cons_if ◌⋈◌ ready
    leaf x f k a true one r e h next =
        let hk : key x ≡ k = cc in
        let ha : ready listing (memory_of environment fs) f ≡ a = cc in
        record {
          fs = fs;
          done = done;
          who = x;
          todo = f;
          moves = stay;
          same = refl;
          tree = refl;
          its = hk;
          is_ready = e;
          others = ap (λ z. z ++ ready_up listing environment fs) ha;
          rests = r;
          paused = p;
        }
    leaf x f k a false one r e h next =
        found_via environment j l woken (λ gs a b m. by_pass (put x nil nil) f refl m)
        (pass listing now environment j l woken fs done (put x nil nil) f (rw e) one) (ap (plug fs) (sym (⋈-assoc done (put x nil nil) f))) refl refl (next h)

    inner : (x y : Record) (c g f : Tree) (k : ℕ) (a b : List ℕ) (cs : List Call) → x.is_new ≡ false →
        instruction_at listing x.routine x.place ≡ fork cs → Rests listing false (put y c g) →
        ready listing (memory_of environment fs ++ x.own) (put y c g) ≡ b → b ++ ready listing (memory_of environment fs) f ≡ k ∷ a →
        (ready listing (memory_of environment fs) f ≡ k ∷ a →
        Found environment j l woken fs (done ⋈ put x (put y c g) nil) f k (a ++ ready_up listing environment fs)) →
        ((k' : ℕ) (a' : List ℕ) → b ≡ k' ∷ a' → Found environment j l woken (record { self = x; done = done; todo = f } ∷ fs) nil (put y c g) k'
        (a' ++ ready_up listing environment (record { self = x; done = done; todo = f } ∷ fs))) →
        Found environment j l woken fs done (put x (put y c g) f) k (a ++ ready_up listing environment fs)
    unfolding ◌⋈◌ ready ready_up plug
    inner x y c g f k a [] cs n i q e h next deep =
        found_via environment j l woken (λ gs a b m. by_pass (put x (put y c g) nil) f refl m)
        (pass listing now environment j l woken fs done (put x (put y c g) nil) f (rw e) (rests_join n i q rests_nil))
        (ap (plug fs) (sym (⋈-assoc done (put x (put y c g) nil) f))) refl refl (next h)
    inner x y c g f k a (k' ∷ a') cs n i q e h next deep =
        let hk : k' ≡ k = cc in
        let ha : a' ++ ready listing (memory_of environment fs) f ≡ a = cc in
        found_via environment j l woken (λ gs a b m. by_down n full m) (down listing now environment j l woken fs done x (put y c g) f n q) refl hk
        (sym (append_assoc a' (ready listing (memory_of environment fs) f) (ready_up listing environment fs)) ∙
        ap (λ z. z ++ ready_up listing environment fs) ha) (deep k' a' refl)

  -- a forest where something is ready: its first ready leaf is found
  pub find_in : (environment : List Variable) (j l woken : ℕ) (fs : List Frame) (done t : Tree) (k : ℕ) (a : List ℕ) (n : Bool) → Rests listing n t →
      Paused listing fs → ready listing (memory_of environment fs) t ≡ k ∷ a →
      Found environment j l woken fs done t k (a ++ ready_up listing environment fs)
  unfolding ready memory_of
  find_in environment j l woken fs done _ k a _ rests_nil p e = nil_not e
  find_in environment j l woken fs done _ k a _ (rests_new {x = x} {f = f} b r) p e =
      leaf environment j l woken fs done p x f k a (will_run listing (memory_of environment fs) x) (rests_new b rests_nil) (rests_new b r) refl e
      (find_in environment j l woken fs (done ⋈ put x nil nil) f k a true r p)
  find_in environment j l woken fs done _ k a _ (rests_wait {n = n} {x = x} {f = f} b i r) p e =
      leaf environment j l woken fs done p x f k a (will_run listing (memory_of environment fs) x) (rests_wait b i rests_nil)
      (rests_wait b i (loosen r)) refl e
      (find_in environment j l woken fs (done ⋈ put x nil nil) f k a n r p)
  find_in environment j l woken fs done _ k a _ (rests_join {n = n} {x = x} {y = y} {k = c} {g = g} {f = f} {cs = cs} b i q r) p e =
      inner environment j l woken fs done p x y c g f k a (ready listing (memory_of environment fs ++ x.own) (put y c g)) cs b i q refl e
      (find_in environment j l woken fs (done ⋈ put x (put y c g) nil) f k a n r p)
      (λ k' a' h. find_in environment j l woken (record { self = x; done = done; todo = f } ∷ fs) nil (put y c g) k' a' false q
      (under b i (loosen r) p) h)

  -- ── the loop's jump: children done so far, one of them living; what is left to do; the frames above ───────────
  pub full_then : (t g : Tree) → Full t → Full (t ⋈ g)
  unfolding ◌⋈◌
  full_then _ g full = full

  pub then_full : (t : Tree) (x : Record) (k f : Tree) → Full (t ⋈ put x k f)
  unfolding ◌⋈◌
  then_full nil x k f = full
  then_full (put y c g) x k f = full

  go_up : (environment : List Variable) (j l woken : ℕ) (g : Frame) (fs : List Frame) (t : Tree) (cs : List Call) → Full t →
      instruction_at listing g.self.routine g.self.place ≡ fork cs →
      between listing now environment j l woken (g ∷ fs) t nil ≡ between listing now environment j l woken fs (g.done ⋈ put g.self t nil) g.todo
  go_up environment j l woken g fs _ cs (full {x = x} {k = k} {f = f}) i = rise listing now environment j l woken g fs x k f cs i

  passed : (environment : List Variable) (j l woken : ℕ) (fs : List Frame) (done t : Tree) → Rests listing true t →
      ready listing (memory_of environment fs) t ≡ [] → between listing now environment j l woken fs done t ≡ between listing now environment j l woken fs (done ⋈ t) nil
  passed environment j l woken fs done t r e = ap (between listing now environment j l woken fs done) (sym (⋈-nil t)) ∙
      pass listing now environment j l woken fs done t nil e r

  look : (environment : List Variable) (j l woken : ℕ) (fs : List Frame) (done t : Tree) (k : ℕ) (ks b : List ℕ) → Paused listing fs →
      Rests listing true t → ready listing (memory_of environment fs) t ≡ b → b ++ ready_up listing environment fs ≡ k ∷ ks →
      (ready_up listing environment fs ≡ k ∷ ks → Found environment j l woken fs (done ⋈ t) nil k ks) →
      Found environment j l woken fs done t k ks
  look environment j l woken fs done t k ks [] p r e h above = found_via environment j l woken (λ gs a b m. by_pass t nil (sym (⋈-nil t)) m)
      (passed environment j l woken fs done t r e) (ap (plug fs) (sym (⋈-nil (done ⋈ t)))) refl refl (above h)
  look environment j l woken fs done t k ks (k' ∷ a) p r e h above =
      let hk : k' ≡ k = cc in
      let ha : a ++ ready_up listing environment fs ≡ ks = cc in
      found_via environment j l woken (λ gs a b m. m) refl refl hk ha (find_in environment j l woken fs done t k' a true r p e)

  shift : (f : Frame) (t : Tree) → (f.done ⋈ put f.self t nil) ⋈ f.todo ≡ f.done ⋈ put f.self t f.todo
  unfolding ◌⋈◌
  shift f t = ⋈-assoc f.done (put f.self t nil) f.todo

  at_top : (environment : List Variable) (j l woken : ℕ) (t : Tree) →
      between listing now environment j l woken [] t nil ≡ ok (record {
        running = running_with environment j l woken;
        tree = erase t;
      })
  unfolding between tasks up rest memory_of
  at_top environment j l woken t = refl

  -- the head of the ready list is the next task that is not quiet
  pub next : (environment : List Variable) (j l woken : ℕ) (fs : List Frame) (done t : Tree) (k : ℕ) (ks : List ℕ) → Paused listing fs →
      Rests listing true t → Full (done ⋈ t) → ready listing (memory_of environment fs) t ++ ready_up listing environment fs ≡ k ∷ ks →
      Found environment j l woken fs done t k ks
  unfolding ready_up plug
  next environment j l woken _ done t k ks at_root r n e = look environment j l woken [] done t k ks (ready listing (memory_of environment []) t)
      at_root r refl e (λ h. nil_not h)
  next environment j l woken _ done t k ks (under {f = f} {fs = fs} {cs = cs} b i q p) r n e =
      look environment j l woken (f ∷ fs) done t k ks (ready listing (memory_of environment (f ∷ fs)) t) (under b i q p) r refl e
      (λ h. found_via environment j l woken (λ gs a b m. by_up n m) (go_up environment j l woken f fs (done ⋈ t) cs n i)
      (ap (plug fs) (ap (λ z. f.done ⋈ put f.self z f.todo) (⋈-nil (done ⋈ t)) ∙ sym (shift f (done ⋈ t)))) refl refl
      (next environment j l woken fs (f.done ⋈ put f.self (done ⋈ t) nil) f.todo k ks p q
      (full_then _ _ (then_full f.done f.self (done ⋈ t) nil)) h))

  -- nothing is ready: the instant is over, and the tree is as it stands
  pub over : (environment : List Variable) (j l woken : ℕ) (fs : List Frame) (done t : Tree) → Paused listing fs → Rests listing true t →
      Full (done ⋈ t) → ready listing (memory_of environment fs) t ++ ready_up listing environment fs ≡ [] →
      between listing now environment j l woken fs done t ≡ ok (record {
        running = running_with environment j l woken;
        tree = erase (plug fs (done ⋈ t));
      })
  unfolding ready_up plug
  over environment j l woken _ done t at_root r n e =
      passed environment j l woken [] done t r (append_empty (ready listing (memory_of environment []) t) [] e).0 ∙
      at_top environment j l woken (done ⋈ t)
  over environment j l woken _ done t (under {f = f} {fs = fs} {cs = cs} b i q p) r n e =
      passed environment j l woken (f ∷ fs) done t r (append_empty (ready listing (memory_of environment (f ∷ fs)) t)
      (ready_up listing environment (f ∷ fs)) e).0 ∙
      go_up environment j l woken f fs (done ⋈ t) cs n i ∙
      over environment j l woken fs (f.done ⋈ put f.self (done ⋈ t) nil) f.todo p q
      (full_then _ _ (then_full f.done f.self (done ⋈ t) nil))
      (append_empty (ready listing (memory_of environment (f ∷ fs)) t) (ready_up listing environment (f ∷ fs)) e).1 ∙
      ap (λ z. ok (record { running = running_with environment j l woken; tree = erase (plug fs z) }))
      (shift f (done ⋈ t))
