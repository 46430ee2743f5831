-- A subtree that sees nothing written stays as it is, and so does memory; and due writes and the end of the marks change
-- variables alone, so that a subtree asleep stays asleep. Letters as in `Twin`; t a moment.
use mathlib.Core.Path.{◌≡◌, refl, ap, ◌∙◌}
use mathlib.Core.Bool.{false}
use mathlib.Core.List.{List, [], ◌∷◌, ◌++◌}
use Prim.Native.Nat.{ℕ, zero, suc, ◌+◌, ◌-◌, ◌<◌}
use native.Mathlib.Omega.{arith}
use native.Mathlib.Decide.{dec_lt}
use lib.ListN.{length, get_or, get_or-append}
use lib.Seq.{take-append_seam, drop-append_seam, get_or-append-add}
use Rattle.listing.specs.Listing.{Listing}
use Rattle.walk.specs.State.{Variable, Node, Forest, empty, more, ◌⊕◌, Running, ok, ◌>>=◌, no_variable, new_variable, unmarked_of}
use Rattle.walk.specs.Memory.{variable_at, address_of, any_written}
use Rattle.walk.specs.Walk.{instruction_at, enter, sleep, join, wake, resume, visit, visit_forest}
use Rattle.walk.specs.Instant.{due_in_node, due_in_forest, unmarked, unmarked_node, unmarked_forest}
use Rattle.walk_halves.proofs.Reach as Reach
use Rattle.walk_halves.proofs.Reach.{Zone}
use Rattle.walk_halves.proofs.Twin.{Code, Has, Asleep, waits, joins, AllAsleep, none_asleep, more_asleep}

written_of_unmarked : (xs : List Variable) (x : ℕ) → (get_or (unmarked xs) x no_variable).written ≡ false
unfolding unmarked no_variable new_variable unmarked_of
written_of_unmarked [] x = refl
written_of_unmarked (y ∷ xs) zero = refl
written_of_unmarked (y ∷ xs) (suc x) = written_of_unmarked xs x

pub unmarked_is_unwritten : (xs : List Variable) (x : ℕ) → (variable_at (unmarked xs) x).written ≡ false
unfolding variable_at
unmarked_is_unwritten xs x = written_of_unmarked xs x

module _ (zone : Zone) (code : Code) where
  abbrev pub Unwritten : List Variable → Type 0
  Unwritten m = (x : ℕ) → zone.In x → (variable_at m x).written ≡ false

  append_unwritten : (m own : List Variable) → Unwritten m → Unwritten (m ++ unmarked own)
  unfolding variable_at
  append_unwritten m own h x i = go (dec_lt x (length m))
    where
      go : Dec (x < length m) → (get_or (m ++ unmarked own) x no_variable).written ≡ false
      go (yes k) = ap (λ (y : Variable). y.written) (get_or-append m (unmarked own) _ x k) ∙ h x i
      go (no k) =
          let e : x ≡ length m + (x - length m) = omega arith in
          ap (λ n. (get_or (m ++ unmarked own) n no_variable).written) e ∙
          ap (λ (y : Variable). y.written) (get_or-append-add m (unmarked own) (x - length m) no_variable) ∙ written_of_unmarked own (x - length m)

  none_written : (m : List Variable) (names ns : List ℕ) → Unwritten m → Reach.Leads zone names → any_written m names ns ≡ false
  unfolding any_written
  none_written m names [] h l = refl
  none_written m names (n ∷ ns) h l = rw (h (address_of names n) (l.to n), none_written m names ns h l)

  module _ (now : ℕ) (listing : Listing) (has : Has code listing) where
    its_instruction : (r place : ℕ) → code.Its r → instruction_at listing r place ≡ instruction_at code.model r place
    unfolding instruction_at
    its_instruction r place i = rw (has r i)

    mutual
      unfolding visit visit_forest enter ◌>>=◌ resume wake sleep join ◌⊕◌ unmarked_forest

      quiet_visit : (n : Node) (level : ℕ) (s : Running) → Asleep zone code n → Unwritten s.memory →
          visit listing now (unmarked_node n) level s ≡ ok (record { running = s; tree = more (unmarked_node n) empty })
      quiet_visit _ level s (waits {r = r} {place = place} {names = names} {ns = ns} {own = own} i l e) h =
          rw (
            its_instruction r place i,
            e,
            none_written _ names ns (append_unwritten s.memory own h) l,
            take-append_seam s.memory (unmarked own),
            drop-append_seam s.memory (unmarked own),
          )
      quiet_visit _ level s (joins {r = r} {place = place} {names = names} {own = own} {n = n} {f = f} i l e k) h =
          rw (
            quiet-visit_forest (more n f) (suc level) (enter (unmarked own) s) k (append_unwritten s.memory own h),
            its_instruction r place i,
            e,
            take-append_seam s.memory (unmarked own),
            drop-append_seam s.memory (unmarked own),
          )

      pub quiet-visit_forest : (f : Forest) (level : ℕ) (s : Running) → AllAsleep zone code f → Unwritten s.memory →
          visit_forest listing now (unmarked_forest f) level s ≡ ok (record { running = s; tree = unmarked_forest f })
      quiet-visit_forest _ level s none_asleep h = refl
      quiet-visit_forest _ level s (more_asleep {n = n} {f = f} kn k) h = rw (quiet_visit n level s kn h, quiet-visit_forest f level s k h)

  -- ── due writes and the end of the marks ───────────────────────────────────────────────────────
  mutual
    unfolding due_in_forest

    due_writes_keep_asleep_node : (n : Node) (t : ℕ) → Asleep zone code n → Asleep zone code (due_in_node n t)
    due_writes_keep_asleep_node _ t (waits i l e) = waits i l e
    due_writes_keep_asleep_node _ t (joins {n = n} {f = f} i l e k) = joins i l e (due_writes_keep_asleep (more n f) t k)

    pub due_writes_keep_asleep : (f : Forest) (t : ℕ) → AllAsleep zone code f → AllAsleep zone code (due_in_forest f t)
    due_writes_keep_asleep _ t none_asleep = none_asleep
    due_writes_keep_asleep _ t (more_asleep {n = n} {f = f} kn k) = more_asleep (due_writes_keep_asleep_node n t kn) (due_writes_keep_asleep f t k)

  mutual
    unfolding unmarked_forest

    unmarking_keeps_asleep_node : (n : Node) → Asleep zone code n → Asleep zone code (unmarked_node n)
    unmarking_keeps_asleep_node _ (waits i l e) = waits i l e
    unmarking_keeps_asleep_node _ (joins {n = n} {f = f} i l e k) = joins i l e (unmarking_keeps_asleep (more n f) k)

    pub unmarking_keeps_asleep : (f : Forest) → AllAsleep zone code f → AllAsleep zone code (unmarked_forest f)
    unmarking_keeps_asleep _ none_asleep = none_asleep
    unmarking_keeps_asleep _ (more_asleep {n = n} {f = f} kn k) = more_asleep (unmarking_keeps_asleep_node n kn) (unmarking_keeps_asleep f k)
