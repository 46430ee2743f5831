-- `schedule_count::count_edges` meets its contract.
use mathlib.Core.Path.{◌≡◌, sym}
use Prim.Native.Nat.{ℕ, ◌*◌, ◌/◌, ◌%◌, ◌≤◌}
use native.Mathlib.Nat.{mul-le-mul_left}
use native.Mathlib.Omega.{arith}
use Rattle.schedule_minutes.proofs.Edges.{by_weeks}
use Rattle.schedule_count.proofs.count_edges.Goals as goal

-- the edges of whole weeks have 64 bits: n minutes, x edges a week
few : (n x : ℕ) → n ≤ 1000000000000000 → x ≤ 161280 → n / 10080 * x ≤ 16000000000000000
few n x h l = omega (arith, mul-le-mul_left (n / 10080) l)

pub returns-then-weeks-eq0 : goal.returns-then-weeks-eq0
returns-then-weeks-eq0 c =
    let a = c.args in
    let e : a.minutes % 10080 ≡ a.minutes = omega arith in
    rw e at c.count_minutes-first.ensures.0

pub overflow_mul-result : goal.overflow_mul-result
overflow_mul-result c =
    let a = c.args in
    let most = few a.minutes c.count_minutes.result (omega arith) (omega arith) in
    omega arith

pub overflow_add-result : goal.overflow_add-result
overflow_add-result c =
    let a = c.args in
    let most = few a.minutes c.count_minutes.result (omega arith) (omega arith) in
    omega arith

pub returns : goal.returns
returns c =
    let a = c.args in
    rw (c.count_minutes-first.ensures.0, c.count_minutes.ensures.0) (sym (by_weeks a.week.now a.minute a.minutes (omega arith)))
