-- The rows that an instant reaches while somebody runs, in step with the walk.
-- Letters: m a memory, q the ready list, j steps left, l live routines; the others as in Tree and Held.
use Rattle.std.specs.Prelude.{◌≡◌, Bool, true, false, ◌||◌, List, [], ◌∷◌, ◌++◌, ℕ, ◌+◌, ◌*◌, ◌%◌, get_or}
use Rattle.listing.specs.Listing.{Listing, Call, fork, wait}
use Rattle.walk.specs.Memory.{any_written, nowhere}
use Rattle.walk.specs.State.{Result, Turn, Variable}
use Rattle.walk.specs.Walk.{instruction_at}
use Rattle.engine_rows.specs.Rows.{Owner, Row, Rows, in_environment}
use Rattle.engine_rows.specs.Triggers.{awaited, cons_if, same_owner}
use Rattle.engine_rows.specs.Tree.{Record, Tree, nil, put, Frame, plug, memory_of, slots_of, root_count, In, Range}
use Rattle.engine_rows.specs.Held.{HeldUp}
use Rattle.engine_rows.specs.Steady.{TableFits, SteadyTree}
use Rattle.engine_rows.specs.Holds.{used_below}
use Rattle.engine_rows.specs.Agenda.{going_on_lem}

unfoldable pub key : Record → ℕ
key x = x.low * 64 + x.slot

-- the slots of a list of keys
unfoldable pub slots_in : List ℕ → List ℕ
slots_in [] = []
slots_in (k ∷ ks) = k % 64 ∷ slots_in ks

unfoldable pub awaits_owner : List Owner → List ℕ → Owner → Bool
awaits_owner bindings_are [] o = false
awaits_owner bindings_are (w ∷ ws) o = same_owner (get_or bindings_are w (in_environment nowhere)) o || awaits_owner bindings_are ws o

pub record Known (σ : Rows) (t : Tree) : Type 0 where
  pub all : (s : ℕ) → (σ s).asleep ≡ true → In s (slots_of t)

module _ (listing : Listing) where
  -- a pending forest: sleepers at a wait, parents at a fork; and new ones, if observed so
  pub data Rests : Bool → Tree → Type 0 where
    rests_nil : {n : Bool} → Rests n nil
    rests_new : {x : Record} {f : Tree} → x.is_new ≡ true → Rests true f → Rests true (put x nil f)
    rests_wait : {n : Bool} {x : Record} {f : Tree} {ws : List ℕ} → x.is_new ≡ false → instruction_at listing x.routine x.place ≡ wait ws →
        Rests n f → Rests n (put x nil f)
    rests_join : {n : Bool} {x y : Record} {k g f : Tree} {cs : List Call} → x.is_new ≡ false →
        instruction_at listing x.routine x.place ≡ fork cs → Rests false (put y k g) → Rests n f → Rests n (put x (put y k g) f)

  unfoldable pub will_run : List Variable → Record → Bool
  will_run m x = x.is_new || any_written (m ++ x.own) x.names (awaited (instruction_at listing x.routine x.place))

  -- the keys of the pending leaves that will run, in walking order, over the memory of the path
  unfoldable pub ready : List Variable → Tree → List ℕ
  ready m nil = []
  ready m (put x nil f) = cons_if (will_run m x) (key x) (ready m f)
  ready m (put x (put y k g) f) = ready (m ++ x.own) (put y k g) ++ ready m f

  unfoldable pub ready_up : List Variable → List Frame → List ℕ
  ready_up environment [] = []
  ready_up environment (f ∷ fs) = ready (memory_of environment fs) f.todo ++ ready_up environment fs

  -- the frames are at a fork, and what they have to do is pending
  pub data Paused : List Frame → Type 0 where
    at_root : Paused []
    under : {f : Frame} {fs : List Frame} {cs : List Call} → f.self.is_new ≡ false →
        instruction_at listing f.self.routine f.self.place ≡ fork cs → Rests true f.todo → Paused fs → Paused (f ∷ fs)

  unfoldable pub row_awaits : Row → Owner → Bool
  row_awaits r o = awaits_owner r.bindings (awaited (instruction_at listing r.routine r.place)) o

  -- the trigger lists are right for whoever is marked
  pub record Triggers (σ : Rows) (triggers : Owner → List ℕ) : Type 0 where
    pub sound : (s : ℕ) (o : Owner) → (σ s).asleep ≡ true → In s (triggers o) → row_awaits (σ s) o ≡ true
    pub full : (s : ℕ) (o : Owner) → (σ s).asleep ≡ true → row_awaits (σ s) o ≡ true → In s (triggers o)

module _ (listing : Listing) (now : ℕ) (triggers : Owner → List ℕ) (hi : ℕ) where
  -- the routine at f runs
  pub record Runs (σ : Rows) (environment : List Variable) (q : List ℕ) (j l woken : ℕ) (f : Frame) (fs : List Frame) (whole : Result Turn) : Type 0
    where
      pub held : HeldUp σ environment 0 (f ∷ fs)
      pub range : Range 0 hi (plug (f ∷ fs) nil)
      pub queue : q ≡ slots_in (ready_up listing environment (f ∷ fs))
      pub lists_right : Triggers listing σ triggers
      pub known : Known σ (plug (f ∷ fs) nil)
      pub rests : Rests listing true f.todo
      pub paused : Paused listing fs
      pub begun : f.self.is_new ≡ false
      pub same : whole ≡ going_on_lem listing now environment j l woken f fs

module _ (listing : Listing) (now : ℕ) (triggers : Owner → List ℕ) (hi : ℕ) (T : TableFits listing) where
  pub record Sound (σ : Rows) (environment : List Variable) (l : ℕ) (t : Tree) : Type 0 where
    pub steady : SteadyTree listing environment t
    pub used : used_below σ 64 ≡ l
    pub lone : root_count t ≡ 1
    pub whole : (s : ℕ) → (σ s).used ≡ true → In s (slots_of t)

module _ (listing : Listing) (now : ℕ) (triggers : Owner → List ℕ) (T : TableFits listing) where
  -- Somebody runs, in step with the walk.
  pub record Reached (left : ℕ) (σ : Rows) (environment : List Variable) (ready : List ℕ) (live woken me : ℕ) : Type 0 where
    pub frame : Frame
    pub frames : List Frame
    pub whole : Result Turn
    pub runs : Runs listing now triggers 4294967296 σ environment ready left live woken frame frames whole
    pub sound : Sound listing now triggers 4294967296 T σ environment live (plug (frame ∷ frames) nil)
    pub here : me ≡ frame.self.slot
