-- The bytes that a call's result prints are the first of the lent bytes. Letters: n how many they are.
use mathlib.Core.Path.{◌≡◌, refl, sym, ap, subst, ◌∙◌}
use mathlib.Core.List.{List, ◌++◌}
use Prim.Native.Nat.{ℕ, ◌+◌, ◌*◌, ◌≤◌}
use native.Mathlib.Omega.{arith}
use lib.ListN.{length, take, drop, length-append}
use lib.Seq.{sets-eq, take_at}
use Rattle.walk.specs.Calls.{inputs_of}
use Rattle.walk.specs.Events.{events_at}
use Rattle.walk.specs.Session.{write_lines, end_line}
use Rattle.session_print.specs.Puts.{Puts}
use Rattle.session_printed.specs.Made.{Begins, CalledPrinted}
use Rattle.session_printed.specs.Made as specs
use Rattle.session_calls.specs.Calls.{listed_of}
use Rattle.session_calls.specs.declared.clock.Clock.{Clock}
use Rattle.session_calls.specs.declared.calls.Called.{Called}
use Rattle.session_calls.specs.declared.calls.Called.TheVariants as Called
use Rattle.session_printed.specs.declared.calls.Made.TheVariants.{Ended, Went}

-- ── bytes at the beginning ────────────────────────────────────────────────────────────────────────
pub put_begins : (before bytes after : List ℕ) (n : ℕ) → Puts before 0 bytes after n → n ≤ length before → Begins before bytes after n
put_begins before bytes after n p l =
    let long : n ≡ length bytes = omega (arith, p.past) in
    let fits : 0 + length bytes ≤ length before = omega arith in
    let whole : after ≡ bytes ++ drop (0 + length bytes) before = p.stored ∙ sets-eq bytes before 0 fits in
    let same : 0 + length bytes ≡ n = omega arith in
    record { count = long; fits = l; is = rw same at whole }

module _ {before bytes after : List ℕ} {n : ℕ} (b : Begins before bytes after n) where
  pub begins_take : take n after ≡ bytes
  begins_take = rw (b.is, b.count) (take_at bytes (drop (length bytes) before) (length bytes) refl)

  pub begins_room : n ≤ length after
  begins_room =
      let size : length after ≡ length bytes + length (drop n before) = ap length b.is ∙ length-append bytes (drop n before) in
      omega (arith, b.count)

-- ── the print of what came of a call ──────────────────────────────────────────────────────────────
module _ (called : Called) (present t : ℕ) (numbers values before after : List ℕ) (n : ℕ) (long : 1100 ≤ length before) where
  pub ends_printed : (k : ℕ) → called ≡ Called.Ended k → Puts before 0 (end_line k present) after n → n ≤ 0 + 44 → CalledPrinted called present t numbers values before after (Ended n)
  ends_printed k e p l =
      subst (λ (x : Called). CalledPrinted x present t numbers values before after (Ended n)) (sym e)
      (specs.CalledPrinted.ended (put_begins before (end_line k present) after n p (omega arith)))

  pub goes_printed : (clock : Clock) (listed : ℕ) → called ≡ Called.Went clock listed → listed ≤ 16 →
      Puts before 0 (write_lines (events_at t (inputs_of (take listed numbers) (take listed values)))) after n → n ≤ 0 + 66 * listed →
      CalledPrinted called present t numbers values before after (Went clock n)
  goes_printed clock listed e few p l =
      subst (λ (x : Called). CalledPrinted x present t numbers values before after (Went clock n)) (sym e)
      (specs.CalledPrinted.went (put_begins before (write_lines (events_at t (inputs_of (take listed numbers) (take listed values)))) after n p (omega arith)))

-- How many outputs are listed, of what came of a call.
pub listed_of_lem : (called : Called) (clock : Clock) (listed n : ℕ) → called ≡ Called.Went clock listed → listed_of called ≤ n → listed ≤ n
listed_of_lem called clock listed n e h = let z : listed_of called ≡ listed = ap (λ (x : Called). listed_of x) e in omega arith
