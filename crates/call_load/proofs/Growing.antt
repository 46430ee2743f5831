-- A listing line by line: its own lines give it back, and each line only adds.
use mathlib.Core.Path.{◌≡◌, refl, sym, ap, ◌∙◌}
use mathlib.Core.List.{List, [], ◌∷◌, ◌++◌, map, append_assoc, append-nil}
use Prim.Native.Nat.{ℕ, ◌≤◌}
use native.Mathlib.Omega.{arith}
use lib.ListN.{length, length-append}
use Rattle.listing.specs.Lists.{last_or}
use Rattle.listing.specs.Listing.{Instruction, Line, ports, opens, instruction, Routine, Listing, routine_lines, lines_of}
use Rattle.table.specs.Areas.{all_code, all_cells}
use Rattle.table.proofs.Lengths.{cells_append}
use Rattle.table.proofs.Append.{code_append}
use Rattle.call_load.specs.Growing.{opened_with, extended, with_instruction, last_code_lem, nothing_said, with_line, with_lines}

-- ── the last routine ─────────────────────────────────────────────────────────────
pub with_instruction_last : (ds : List Routine) (r : Routine) (i : Instruction) → with_instruction (ds ++ (r ∷ [])) i ≡ ds ++ (extended r i ∷ [])
unfolding with_instruction
with_instruction_last [] r i = refl
with_instruction_last (d ∷ []) r i = refl
with_instruction_last (d ∷ e ∷ ds) r i = rw (with_instruction_last (e ∷ ds) r i)

pub last_code : (ds : List Routine) (r : Routine) → last_code_lem (ds ++ (r ∷ [])) ≡ r.code
unfolding last_or
last_code [] r = refl
last_code (d ∷ []) r = refl
last_code (d ∷ e ∷ ds) r = last_code (e ∷ ds) r

pub record Split (rs : List Routine) : Type 0 where
  pub front : List Routine
  pub last : Routine
  pub is : rs ≡ front ++ (last ∷ [])

pub split : (rs : List Routine) → 1 ≤ length rs → Split rs
split [] h = absurd (let z : ⊥ = omega arith in z)
split (r ∷ []) h = record { front = []; last = r; is = refl }
split (r ∷ t ∷ rs) h = let p = split (t ∷ rs) (omega arith) in record { front = r ∷ p.front; last = p.last; is = ap (λ (l : List Routine). r ∷ l) p.is }

pub code_extended : (ds : List Routine) (r : Routine) (i : Instruction) → all_code (ds ++ (extended r i ∷ [])) ≡ all_code (ds ++ (r ∷ [])) ++ (i ∷ [])
unfolding all_code
code_extended ds r i = rw (code_append ds (extended r i ∷ []), code_append ds (r ∷ []), append-nil, append-nil, append_assoc)

pub last_code_few : (rs : List Routine) → length (last_code_lem rs) ≤ length (all_code rs)
unfolding last_or all_code
last_code_few [] = omega arith
last_code_few (r ∷ []) = rw (append-nil r.code) (omega arith)
last_code_few (r ∷ t ∷ rs) = let h = last_code_few (t ∷ rs) in let l = length-append r.code (all_code (t ∷ rs)) in omega arith

-- what one instruction more is, of some routines
pub record Added (rs : List Routine) (i : Instruction) : Type 0 where
  pub routines : length (with_instruction rs i) ≡ length rs
  pub code : all_code (with_instruction rs i) ≡ all_code rs ++ (i ∷ [])
  pub last : last_code_lem (with_instruction rs i) ≡ last_code_lem rs ++ (i ∷ [])

pub added : (rs : List Routine) (i : Instruction) → 1 ≤ length rs → Added rs i
added rs i some =
    let p = split rs some in
    let ds = p.front in
    let r = p.last in
    let e : with_instruction rs i ≡ ds ++ (extended r i ∷ []) = ap (λ (l : List Routine). with_instruction l i) p.is ∙ with_instruction_last ds r i in
    record {
      routines = ap length e ∙ (length-append ds (extended r i ∷ []) ∙ (sym (length-append ds (r ∷ [])) ∙ ap length (sym p.is)));
      code = ap all_code e ∙ (code_extended ds r i ∙ ap (λ (l : List Routine). all_code l ++ (i ∷ [])) (sym p.is));
      last = ap last_code_lem e ∙ (last_code ds (extended r i) ∙ ap (λ (c : List Instruction). c ++ (i ∷ [])) (sym (ap last_code_lem p.is ∙ last_code ds r)));
    }

-- ── a listing's own lines ────────────────────────────────────────────────────────
abbrev saying : ℕ → ℕ → List Routine → Listing
saying i o rs = record { inputs = i; outputs = o; routines = rs }

abbrev holding : Routine → List Instruction → Routine
holding r code = record { kinds = r.kinds; locals = r.locals; code = code }

code_said : (i o : ℕ) (ds : List Routine) (r : Routine) (done code : List Instruction) (rest : List Line)
    → with_lines (saying i o (ds ++ (holding r done ∷ []))) (map instruction code ++ rest) ≡ with_lines (saying i o (ds ++ (holding r (done ++ code) ∷ []))) rest
unfolding with_lines with_line
code_said i o ds r done [] rest = rw append-nil
code_said i o ds r done (x ∷ code) rest =
    ap (λ (rs : List Routine). with_lines (saying i o rs) (map instruction code ++ rest)) (with_instruction_last ds (holding r done) x)
    ∙ (code_said i o ds r (done ++ (x ∷ [])) code rest ∙ ap (λ (c : List Instruction). with_lines (saying i o (ds ++ (holding r c ∷ []))) rest) (append_assoc done (x ∷ []) code))

routines_said : (i o : ℕ) (ds rs : List Routine) → with_lines (saying i o ds) (routine_lines rs) ≡ saying i o (ds ++ rs)
unfolding with_lines with_line routine_lines
routines_said i o ds [] = rw append-nil
routines_said i o ds (r ∷ rs) =
    code_said i o ds r [] r.code (routine_lines rs)
    ∙ (routines_said i o (ds ++ (r ∷ [])) rs ∙ ap (saying i o) (append_assoc ds (r ∷ []) rs))

pub lines_say : (l : Listing) → with_lines nothing_said (lines_of l) ≡ l
unfolding with_lines with_line lines_of
lines_say l = routines_said l.inputs l.outputs [] l.routines

-- ── nothing is lost ──────────────────────────────────────────────────────────────
-- the second holds at least what the first does
pub record Grows (rs ts : List Routine) : Type 0 where
  pub routines : length rs ≤ length ts
  pub code : length (all_code rs) ≤ length (all_code ts)
  pub cells : length (all_cells (all_code rs)) ≤ length (all_cells (all_code ts))

same_grows : (rs : List Routine) → Grows rs rs
same_grows rs = record { routines = omega arith; code = omega arith; cells = omega arith }

then_grows : {rs ts us : List Routine} → Grows rs ts → Grows ts us → Grows rs us
then_grows a b =
    record { routines = omega (arith, a.routines, b.routines); code = omega (arith, a.code, b.code); cells = omega (arith, a.cells, b.cells) }

more_cells : (is js : List Instruction) → length (all_cells is) ≤ length (all_cells (is ++ js))
more_cells is js = omega (arith, ap length (cells_append is js) ∙ length-append (all_cells is) (all_cells js))

added_grows : (rs ts : List Routine) (is : List Instruction) → length rs ≤ length ts → all_code ts ≡ all_code rs ++ is → Grows rs ts
added_grows rs ts is l c =
    record { routines = l; code = omega (arith, ap length c ∙ length-append (all_code rs) is); cells = rw c (more_cells (all_code rs) is) }

instruction_grows : (rs : List Routine) (i : Instruction) → Grows rs (with_instruction rs i)
unfolding with_instruction
instruction_grows [] i = same_grows []
instruction_grows (r ∷ rs) i =
    let a = added (r ∷ rs) i (omega arith) in
    added_grows (r ∷ rs) (with_instruction (r ∷ rs) i) (i ∷ []) (omega (arith, a.routines)) a.code

pub line_grows : (l : Listing) (x : Line) → Grows l.routines (with_line l x).routines
unfolding with_line
line_grows l (ports i o) = same_grows l.routines
line_grows l (opens kinds locals) =
    let rs = l.routines in
    added_grows rs (rs ++ (opened_with kinds locals ∷ [])) (all_code (opened_with kinds locals ∷ []))
    (omega (arith, length-append rs (opened_with kinds locals ∷ []))) (code_append rs (opened_with kinds locals ∷ []))
line_grows l (instruction i) = instruction_grows l.routines i

pub lines_grow : (l : Listing) (xs : List Line) → Grows l.routines (with_lines l xs).routines
unfolding with_lines
lines_grow l [] = same_grows l.routines
lines_grow l (x ∷ xs) = then_grows (line_grows l x) (lines_grow (with_line l x) xs)
