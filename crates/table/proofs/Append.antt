-- Words written behind an area's used words lengthen what the area holds: the laws of a loader that writes a table in order.
use mathlib.Core.Path.{◌≡◌, refl, sym, ap, ◌∙◌}
use mathlib.Core.List.{List, [], ◌∷◌, ◌++◌, append_assoc, append-nil}
use Prim.Native.Nat.{ℕ, ◌+◌, ◌*◌, ◌-◌, ◌≤◌, ◌<◌}
use native.Mathlib.Omega.{arith}
use lib.ListN.{length, drop, replicate, length-append, length-replicate, replicate-append-replicate}
use lib.Seq.{sets, sets-eq, drop_at, take_at}
use Rattle.listing.specs.Listing.{Instruction, Routine}
use Rattle.table.specs.Areas.{entry_words, cell_words, all_cells, all_entries, routine_words, all_routines, all_code, padded, laid_out, words_of_each}
use Rattle.table.proofs.Lengths.{pad_length, entry_five, routine_five, entries_append, cells_append, routines_length}
use Rattle.table.proofs.ReadBack.{past}

-- vs over the words of ys, between xs and zs
sets_between : (xs ys zs vs : List ℕ) (n : ℕ) → length xs ≡ n → length ys ≡ length vs → sets (xs ++ (ys ++ zs)) n vs ≡ xs ++ (vs ++ zs)
sets_between xs ys zs vs n h k =
    let f : n + length vs ≤ length (xs ++ (ys ++ zs)) = simp length-append (omega arith) in
    let d : drop (n + length vs) (xs ++ (ys ++ zs)) ≡ zs = past (xs ++ (ys ++ zs)) n (length vs) ys zs k (drop_at xs (ys ++ zs) n h) in
    sets-eq vs (xs ++ (ys ++ zs)) n f ∙ rw (take_at xs (ys ++ zs) n h, d) (append_assoc xs vs zs)

abbrev zeros : ℕ → List ℕ
zeros n = replicate n 0

zeros_split : (m n : ℕ) → n ≤ m → zeros m ≡ zeros n ++ zeros (m - n)
zeros_split m n h = let e : n + (m - n) ≡ m = omega arith in ap (λ (k : ℕ). zeros k) (sym e) ∙ sym (replicate-append-replicate n (m - n) 0)

-- p before the area, z behind it
pub padded_more : (p z xs vs : List ℕ) (a n : ℕ) → length p ≡ a → length xs + length vs ≤ n
    → sets (p ++ (padded n xs ++ z)) (a + length xs) vs ≡ p ++ (padded n (xs ++ vs) ++ z)
unfolding padded
padded_more p z xs vs a n h f =
    let k = n - length xs in
    let m = n - length (xs ++ vs) in
    let e : k - length vs ≡ m = simp length-append (omega arith) in
    let s : zeros k ≡ zeros (length vs) ++ zeros m = zeros_split k (length vs) (omega arith) ∙ ap (λ (j : ℕ). zeros (length vs) ++ zeros j) e in
    let q : p ++ ((xs ++ zeros k) ++ z) ≡ (p ++ xs) ++ (zeros (length vs) ++ (zeros m ++ z)) =
    ap (λ (l : List ℕ). p ++ ((xs ++ l) ++ z)) s ∙ simp append_assoc in
    let lp : length (p ++ xs) ≡ a + length xs = simp length-append (omega arith) in
    let lz : length (zeros (length vs)) ≡ length vs = length-replicate (length vs) 0 in
    ap (λ (l : List ℕ). sets l (a + length xs) vs) q
    ∙ (sets_between (p ++ xs) (zeros (length vs)) (zeros m ++ z) vs (a + length xs) lp lz ∙ simp append_assoc)

module _ (h r e c : List ℕ) (hf : length h ≤ 8) (rf : length r ≤ 320) where
  -- into the routine entries, from address 8
  pub routines_more : (vs : List ℕ) → length r + length vs ≤ 320 → sets (laid_out h r e c) (8 + length r) vs ≡ laid_out h (r ++ vs) e c
  unfolding laid_out
  routines_more vs f = padded_more (padded 8 h) (padded 2560 e ++ padded 9400 c) r vs 8 320 (pad_length 8 h hf) f

  -- into the entries, from address 328
  pub entries_more : (vs : List ℕ) → length e + length vs ≤ 2560 → sets (laid_out h r e c) (328 + length e) vs ≡ laid_out h r (e ++ vs) c
  unfolding laid_out
  entries_more vs f =
      let p = padded 8 h ++ padded 320 r in
      let lp : length p ≡ 328 = let x = pad_length 8 h hf in let y = pad_length 320 r rf in simp length-append (omega arith) in
      ap (λ (l : List ℕ). sets l (328 + length e) vs) (sym (append_assoc (padded 8 h) (padded 320 r) _))
      ∙ (padded_more p (padded 9400 c) e vs 328 2560 lp f ∙ append_assoc (padded 8 h) (padded 320 r) _)

  -- into the cells, from address 2888
  pub cells_more : (vs : List ℕ) → length e ≤ 2560 → length c + length vs ≤ 9400 → sets (laid_out h r e c) (2888 + length c) vs ≡ laid_out h r e (c ++ vs)
  unfolding laid_out
  cells_more vs ef f =
      let p = padded 8 h ++ (padded 320 r ++ padded 2560 e) in
      let lp : length p ≡ 2888 = let x = pad_length 8 h hf in let y = pad_length 320 r rf in let z = pad_length 2560 e ef in simp length-append (omega arith) in
      let one : (x : List ℕ) → padded 8 h ++ (padded 320 r ++ (padded 2560 e ++ x)) ≡ p ++ (x ++ []) = λ x. simp (append_assoc, append-nil) in
      ap (λ (l : List ℕ). sets l (2888 + length c) vs) (one (padded 9400 c))
      ∙ (padded_more p [] c vs 2888 9400 lp f ∙ sym (one (padded 9400 (c ++ vs))))

-- one instruction more: its cells behind the cells, its entry behind the entries
pub instruction_more : (h r : List ℕ) (is : List Instruction) (i : Instruction) → length h ≤ 8 → length r ≤ 320
    → length (all_entries 2888 is) + 5 ≤ 2560 → length (all_cells is) + length (cell_words i) ≤ 9400 → (at : ℕ) → at ≡ 2888 + length (all_cells is)
    → sets (sets (laid_out h r (all_entries 2888 is) (all_cells is)) at (cell_words i)) (328 + length (all_entries 2888 is)) (entry_words at i)
    ≡ laid_out h r (all_entries 2888 (is ++ (i ∷ []))) (all_cells (is ++ (i ∷ [])))
unfolding all_entries all_cells words_of_each
instruction_more h r is i hf rf ef cf at z =
    let five = entry_five at i in
    let e₁ : all_entries 2888 (is ++ (i ∷ [])) ≡ all_entries 2888 is ++ entry_words at i = entries_append is (i ∷ []) 2888 ∙ rw (← z, append-nil) in
    let c₁ : all_cells (is ++ (i ∷ [])) ≡ all_cells is ++ cell_words i = cells_append is (i ∷ []) ∙ rw append-nil in
    rw (e₁, c₁)
    (ap (λ (l : List ℕ). sets l (328 + length (all_entries 2888 is)) (entry_words at i))
    (ap (λ (k : ℕ). sets (laid_out h r (all_entries 2888 is) (all_cells is)) k (cell_words i)) z ∙ cells_more h r (all_entries 2888 is) (all_cells is) hf rf (cell_words i) (omega arith) cf)
    ∙ entries_more h r (all_entries 2888 is) (all_cells is ++ cell_words i) hf rf (entry_words at i) (omega arith))

-- one routine more: its entry behind the entries
pub routines_append : (rs ts : List Routine) (first : ℕ) → all_routines first (rs ++ ts) ≡ all_routines first rs ++ all_routines (first + length (all_code rs)) ts
unfolding all_routines all_code
routines_append [] ts first = let z : first + 0 ≡ first = omega arith in rw z
routines_append (r ∷ rs) ts first =
    let m : first + length r.code + length (all_code rs) ≡ first + length (r.code ++ all_code rs) = simp length-append (omega arith) in
    rw (routines_append rs ts (first + length r.code), append_assoc, m)

pub routine_more : (h e c : List ℕ) (rs : List Routine) (t : Routine) → length h ≤ 8 → length rs < 64
    → sets (laid_out h (all_routines 0 rs) e c) (8 + 5 * length rs) (routine_words (length (all_code rs)) t) ≡ laid_out h (all_routines 0 (rs ++ (t ∷ []))) e c
unfolding all_routines
routine_more h e c rs t hf room =
    let l = routines_length rs 0 in
    let f = routine_five (length (all_code rs)) t in
    let z : 0 + length (all_code rs) ≡ length (all_code rs) = omega arith in
    let a : all_routines 0 (rs ++ (t ∷ [])) ≡ all_routines 0 rs ++ routine_words (length (all_code rs)) t = routines_append rs (t ∷ []) 0 ∙ rw (z, append-nil) in
    rw (a, ← l) (routines_more h (all_routines 0 rs) e c hf (omega arith) (routine_words (length (all_code rs)) t) (omega arith))

pub code_append : (rs ts : List Routine) → all_code (rs ++ ts) ≡ all_code rs ++ all_code ts
unfolding all_code
code_append [] ts = refl
code_append (r ∷ rs) ts = rw (code_append rs ts, append_assoc)
