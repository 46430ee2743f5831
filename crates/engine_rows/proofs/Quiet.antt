-- A tree in which nobody's awaited name is written: the walk leaves everything as it is, in 0 steps.
-- Letters: m a memory, n a node, f a forest, j steps left, l live routines.
use mathlib.Core.Path.{◌≡◌, refl}
use mathlib.Core.Bool.{false}
use mathlib.Core.List.{List, ◌++◌}
use Prim.Native.Nat.{ℕ, suc}
use lib.Seq.{take-append_seam, drop-append_seam}
use Rattle.listing.specs.Listing.{Call, Listing, fork, wait}
use Rattle.walk.specs.Memory.{any_written}
use Rattle.walk.specs.State.{Forest, Node, Variable, ◌>>=◌, ◌⊕◌, empty, more, node, ok}
use Rattle.walk.specs.Walk.{enter, instruction_at, join, resume, sleep, visit, visit_forest, wake}
use Rattle.engine_rows.specs.Agenda.{running_with}

module _ (listing : Listing) (now : ℕ) where
  mutual
    pub data QuietNode : List Variable → Node → Type 0 where
      waits : {m : List Variable} {r place : ℕ} {ns ws : List ℕ} {own : List Variable} → instruction_at listing r place ≡ wait ws →
          any_written (m ++ own) ns ws ≡ false → QuietNode m (node r place ns own empty)
      joins : {m : List Variable} {r place : ℕ} {ns : List ℕ} {cs : List Call} {own : List Variable} {k : Node} {ks : Forest} →
          instruction_at listing r place ≡ fork cs → Quiet (m ++ own) (more k ks) → QuietNode m (node r place ns own (more k ks))

    pub data Quiet : List Variable → Forest → Type 0 where
      nobody : {m : List Variable} → Quiet m empty
      one_more : {m : List Variable} {n : Node} {f : Forest} → QuietNode m n → Quiet m f → Quiet m (more n f)

  mutual
    unfolding visit enter ◌>>=◌ resume wake sleep join ◌⊕◌

    pub quiet_node : (m : List Variable) (n : Node) (j l woken level : ℕ) → QuietNode m n →
        visit listing now n level (running_with m j l woken) ≡ ok
        (record { running = running_with m j l woken; tree = more n empty })
    quiet_node _ _ j l woken level (waits {m = m} {own = own} e a) = rw (e, a, take-append_seam m own, drop-append_seam m own)
    quiet_node _ _ j l woken level (joins {m = m} {own = own} e q) = rw (
      quiet _ _ j l woken (suc level) q,
      e,
      take-append_seam m own,
      drop-append_seam m own,
    )

    pub quiet : (m : List Variable) (f : Forest) (j l woken level : ℕ) → Quiet m f →
        visit_forest listing now f level (running_with m j l woken) ≡ ok
        (record { running = running_with m j l woken; tree = f })
    quiet _ _ j l woken level nobody = refl
    quiet _ _ j l woken level (one_more qn q) = rw (quiet_node _ _ j l woken level qn, quiet _ _ j l woken level q)
