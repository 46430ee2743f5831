-- What is left of an instant, as a list of tasks: an engine's loop keeps `rest` equal to the whole walk.
-- Letters: ts tasks, d the siblings done so far, ds those of the routines above, m a memory, k steps left, l live routines.
use mathlib.Core.Path.{◌≡◌, refl, sym, ap, ◌∙◌, fun_ext}
use mathlib.Core.Bool.{true}
use mathlib.Core.List.{List, ◌∷◌}
use mathlib.Core.Option.{some}
use Prim.Native.Nat.{ℕ, suc, ◌≤◌, ◌+◌}
use native.Mathlib.Nat.{le_refl, le_trans}
use lib.ListN.{length, take, drop}
use lib.Dec.{leb}
use Rattle.listing.specs.Listing.{Call, Listing, Piece, assign, fork, wait}
use Rattle.walk.specs.Memory.{address_of, evaluate, write_at}
use Rattle.walk.specs.State.{Forest, Node, Result, Running, Turn, Variable, ◌>>=◌, ◌⊕◌, empty, more, node, ok, stop, frame}
use Rattle.walk.specs.Walk.{begin, child_count, enter, asking, with_value, move, carry_out, execute, in_turn, instruction_at, new_routines, resume, run, sleep, step, visit, visit_forest}
use Rattle.walk_laws.proofs.Steps.{Within, stopped, leaves, in_turn-within, begin_within, run_within}
use Rattle.walk_laws.proofs.Bound.{run_same, then_same, begin_same, join_same}
use Rattle.engine_rows.proofs.Quiet.{QuietNode, quiet_node}
pub use Rattle.engine_rows.specs.Agenda.{Task, see, new, goes, back}
unfoldable pub use Rattle.engine_rows.specs.Agenda.{outer, beyond, rest}
use Rattle.engine_rows.specs.Agenda.{running_with}

pub then_assoc : (o : Result Turn) (f g : Turn → Result Turn) → ((o >>= f) >>= g) ≡ (o >>= λ a. f a >>= g)
unfolding ◌>>=◌
then_assoc (stop k) f g = refl
then_assoc (ok a) f g = refl

pub then_via : (o : Result Turn) (f g k : Turn → Result Turn) → ((a : Turn) → f a ≡ (g a >>= k)) → (o >>= f) ≡ ((o >>= g) >>= k)
unfolding ◌>>=◌
then_via (stop c) f g k h = refl
then_via (ok a) f g k h = h a

pub then_via' : (j : ℕ) (o : Result Turn) (f g k : Turn → Result Turn) → Within j o → ((a : Turn) → a.running.left ≤ j → f a ≡ (g a >>= k)) →
    (o >>= f) ≡ ((o >>= g) >>= k)
unfolding ◌>>=◌
then_via' j _ f g k stopped h = refl
then_via' j _ f g k (leaves {a = a} w) h = h a w

then_cong : (o : Result Turn) (f g : Turn → Result Turn) → ((a : Turn) → f a ≡ g a) → (o >>= f) ≡ (o >>= g)
then_cong o f g h = ap (λ k. o >>= k) (fun_ext h)

pub ⊕-assoc : (f g h : Forest) → (f ⊕ g) ⊕ h ≡ f ⊕ (g ⊕ h)
unfolding ◌⊕◌
⊕-assoc empty g h = refl
⊕-assoc (more n f) g h = ap (more n) (⊕-assoc f g h)

pub ⊕-none : (f : Forest) → f ⊕ empty ≡ f
unfolding ◌⊕◌
⊕-none empty = refl
⊕-none (more n f) = ap (more n) (⊕-none f)

unfoldable pub sees : Forest → ℕ → List Task → List Task
sees empty level ts = ts
sees (more n f) level ts = see n level ∷ sees f level ts

unfoldable pub news : Forest → ℕ → List Task → List Task
news empty level ts = ts
news (more n f) level ts = new n level ∷ news f level ts

module _ (listing : Listing) (now : ℕ) where
  -- the whole walk is the rest at its beginning
  pub rest_sees : (f : Forest) (level : ℕ) (ts : List Task) (d : Forest) (ds : List Forest) (s : Running) →
      rest listing now (sees f level ts) d ds s ≡ (visit_forest listing now f level s >>= λ a. rest listing now ts (d ⊕ a.tree) ds a.running)
  unfolding rest sees visit_forest ◌>>=◌
  rest_sees empty level ts d ds s = rw (⊕-none d)
  rest_sees (more n f) level ts d ds s =
      then_via (visit listing now n level s) _ _ _ λ a.
      rest_sees f level ts (d ⊕ a.tree) ds a.running ∙
      then_via (visit_forest listing now f level a.running) _ _ _ λ b. rw (⊕-assoc d a.tree b.tree)

  -- a routine's turn begins with its children's
  pub rest_visit : (r place : ℕ) (ns : List ℕ) (own : List Variable) (children : Forest) (level : ℕ) (ts : List Task) (d : Forest) (ds : List Forest)
      (s : Running) →
      rest listing now (see (node r place ns own children) level ∷ ts) d ds s ≡ rest listing now (sees children (suc level) (back (frame level r place ns (length s.memory)) ∷ ts))
      empty (d ∷ ds) (enter own s)
  unfolding rest visit outer beyond ◌⊕◌
  rest_visit r place ns own children level ts d ds s =
      then_assoc (visit_forest listing now children (suc level) (enter own s)) _ _ ∙
      sym (rest_sees children (suc level) (back (frame level r place ns (length s.memory)) ∷ ts) empty (d ∷ ds) (enter own s))

  -- a sleeper whom nothing wakes is passed over
  pub rest_quiet : (n : Node) (level : ℕ) (ts : List Task) (d : Forest) (ds : List Forest) (s : Running) → QuietNode listing now s.memory n →
      rest listing now (see n level ∷ ts) d ds s ≡ rest listing now ts (d ⊕ more n empty) ds s
  unfolding rest ◌>>=◌
  rest_quiet n level ts d ds s q = rw (quiet_node listing now s.memory n s.left s.live s.woken level q)

  -- one instruction
  pub rest-S : (level r place : ℕ) (ns : List ℕ) (b n : ℕ) (e : List Piece) (ts : List Task) (d : Forest) (ds : List Forest) (m : List Variable)
      (k l woken given : ℕ) → instruction_at listing r place ≡ assign n e → evaluate now m ns e ≡ some given →
      rest listing now (goes (frame level r place ns b) ∷ ts) d ds (running_with m (suc k) l woken) ≡ rest listing now
      (goes (frame level r (suc place) ns b) ∷ ts) d ds (record {
        memory = write_at now m (address_of ns n) given;
        left = k;
        live = l;
        woken = woken;
      })
  unfolding rest run step execute move with_value carry_out
  rest-S level r place ns b n e ts d ds m k l woken given h x = rw (h, x)

  pub rest-W : (level r place : ℕ) (ns : List ℕ) (b : ℕ) (ws : List ℕ) (ts : List Task) (d : Forest) (ds : List Forest) (m : List Variable)
      (k l woken : ℕ) → instruction_at listing r place ≡ wait ws →
      rest listing now (goes (frame level r place ns b) ∷ ts) d ds (running_with m (suc k) l woken) ≡ rest listing now ts
      (d ⊕ more (node r place ns (drop b m) empty) empty) ds (running_with (take b m) k l woken)
  unfolding rest run step execute move carry_out sleep ◌>>=◌
  rest-W level r place ns b ws ts d ds m k l woken h = rw h

  pub rest_news : (k : ℕ) (f : Forest) (level : ℕ) (ts : List Task) (d : Forest) (ds : List Forest) (s : Running) → s.left ≤ k →
      rest listing now (news f level ts) d ds s ≡ (in_turn (begin (run listing now k) level) f s >>= λ a. rest listing now ts (d ⊕ a.tree) ds a.running)
  unfolding rest news in_turn ◌>>=◌
  rest_news k empty level ts d ds s l = rw (⊕-none d)
  rest_news k (more n f) level ts d ds s l =
      rw (begin_same s.left (run listing now s.left) (run listing now k) (run_same listing now s.left k s.left (le_refl _) l) level n s
      (le_refl _))
      (then_via' s.left (begin (run listing now k) level n s) _ _ _ (begin_within _ (run_within listing now k) level n s) λ a wa.
      rest_news k f level ts (d ⊕ a.tree) ds a.running (le_trans wa l) ∙
      then_via (in_turn (begin (run listing now k) level) f a.running) _ _ _ λ b. rw (⊕-assoc d a.tree b.tree))

  pub rest-F : (level r place : ℕ) (ns : List ℕ) (b : ℕ) (cs : List Call) (ts : List Task) (d : Forest) (ds : List Forest) (m : List Variable)
      (k l woken : ℕ) → instruction_at listing r place ≡ fork cs → leb (l + child_count cs) 64 ≡ true → leb level 9 ≡ true →
      rest listing now (goes (frame level r place ns b) ∷ ts) d ds (running_with m (suc k) l woken) ≡
      rest listing now (news (new_routines listing now m ns cs) (suc level) (back (frame level r place ns b) ∷ ts)) empty (d ∷ ds) (record {
        memory = m;
        left = k;
        live = l + child_count cs;
        woken = woken;
      })
  unfolding rest run step execute move carry_out asking resume outer beyond ◌⊕◌
  rest-F level r place ns b cs ts d ds m k l woken h x y = rw (h, x, y)
      (then_assoc _ _ _ ∙
      sym (rest_news k (new_routines listing now m ns cs) (suc level) (back (frame level r place ns b) ∷ ts) empty (d ∷ ds) _ (le_refl k) ∙
      then_same k _ _ refl (in_turn-within _ (begin_within _ (run_within listing now k) (suc level)) _ _) λ a wa.
      rw (
        h,
        join_same a.running.left (run listing now a.running.left) (run listing now k)
            (run_same listing now _ k a.running.left (le_refl _) wa) a.tree (frame level r place ns b) a.running (le_refl _),
      )))
