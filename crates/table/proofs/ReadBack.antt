-- A listing is read back from its table, word by address.
use mathlib.Core.Path.{◌≡◌, refl, sym, ap, ◌∙◌}
use mathlib.Core.List.{List, [], ◌∷◌, ◌++◌, append_assoc}
use Prim.Native.Nat.{ℕ, ◌+◌, ◌*◌, ◌-◌, ◌≤◌, ◌/◌, ◌%◌}
use native.Mathlib.Omega.{arith}
use lib.ListN.{length, get_or, drop, replicate}
use lib.Seq.{get_or-drop, drop-drop, drop_at}
use Rattle.listing.specs.Listing.{Piece, literal, value_of, written_mark, plus, minus, times, less, divide, remainder, Call, Instruction, assign, schedule, branch, jump, wait, fork, end, Kind, by_reference, by_value, Routine, Listing}
use Rattle.table.specs.Areas.{words_of_each, piece_words, name_words, call_words, cell_words, entry_words, all_cells, all_entries, kind_bits, routine_words, all_routines, all_code, padded, header_words, laid_out, table_words}
use Rattle.table.specs.Decode.{word, piece_of, piece_at, name_at, cells_at, call_at, after_call, calls_at, instruction_of, instruction_at_entry, code_at_entry, kinds_of_bits, routine_at_entry, routines_at_entry, table_listing}
use Rattle.table.proofs.Lengths.{piece_two, name_two, each_two, call_length, entry_five, routine_five, entries_append, cells_append, entries_length, routines_length, pad_length}

-- what stands at a + i, and from a + n on
pub word_at_lem : (w : List ℕ) (a i : ℕ) (xs : List ℕ) → drop a w ≡ xs → word w (a + i) ≡ get_or xs i 0
word_at_lem w a i xs e = sym (get_or-drop a w i 0) ∙ ap (λ (l : List ℕ). get_or l i 0) e

pub past : (w : List ℕ) (a n : ℕ) (xs r : List ℕ) → length xs ≡ n → drop a w ≡ xs ++ r → drop (a + n) w ≡ r
past w a n xs r h e = sym (drop-drop n a w) ∙ (ap (λ (l : List ℕ). drop n l) e ∙ drop_at xs r n h)

-- ── cells ────────────────────────────────────────────────────────────────────────
module _ (w : List ℕ) where
  -- a reader of two words that undoes a writer
  abbrev Undoes : {A : Type 0} → (ℕ → A) → (A → List ℕ) → Type 0
  Undoes {A} g f = (x : A) (a : ℕ) (r : List ℕ) → drop a w ≡ f x ++ r → g a ≡ x

  many_at : {A : Type 0} (g : ℕ → A) (f : A → List ℕ) → ((x : A) → length (f x) ≡ 2) → Undoes g f
      → (xs : List A) (a : ℕ) (r : List ℕ) → drop a w ≡ words_of_each f xs ++ r → cells_at g a (length xs) ≡ xs
  unfolding cells_at words_of_each
  many_at g f two h [] a r e = refl
  many_at g f two h (x ∷ xs) a r e =
      let e₁ : drop a w ≡ f x ++ (words_of_each f xs ++ r) = e ∙ append_assoc (f x) (words_of_each f xs) r in
      rw (h x a (words_of_each f xs ++ r) e₁, many_at g f two h xs (a + 2) r (past w a 2 (f x) (words_of_each f xs ++ r) (two x) e₁))

pub piece_at_lem : (w : List ℕ) (p : Piece) (a : ℕ) (r : List ℕ) → drop a w ≡ piece_words p ++ r → piece_at w a ≡ p
unfolding piece_at piece_words piece_of
piece_at_lem w (literal v) a r e = rw (word_at_lem w a 0 _ e, word_at_lem w a 1 _ e)
piece_at_lem w (value_of v) a r e = rw (word_at_lem w a 0 _ e, word_at_lem w a 1 _ e)
piece_at_lem w (written_mark v) a r e = rw (word_at_lem w a 0 _ e, word_at_lem w a 1 _ e)
piece_at_lem w plus a r e = rw (word_at_lem w a 0 _ e)
piece_at_lem w minus a r e = rw (word_at_lem w a 0 _ e)
piece_at_lem w times a r e = rw (word_at_lem w a 0 _ e)
piece_at_lem w less a r e = rw (word_at_lem w a 0 _ e)
piece_at_lem w divide a r e = rw (word_at_lem w a 0 _ e)
piece_at_lem w remainder a r e = rw (word_at_lem w a 0 _ e)

pub name_at_lem : (w : List ℕ) (n a : ℕ) (r : List ℕ) → drop a w ≡ name_words n ++ r → name_at w a ≡ n
unfolding name_at name_words
name_at_lem w n a r e = word_at_lem w a 1 _ e

pub pieces_at_lem : (w : List ℕ) (e : List Piece) (a : ℕ) (r : List ℕ) → drop a w ≡ words_of_each piece_words e ++ r → cells_at (piece_at w) a (length e) ≡ e
pieces_at_lem w = many_at w (piece_at w) piece_words piece_two (piece_at_lem w)

pub names_at : (w ns : List ℕ) (a : ℕ) (r : List ℕ) → drop a w ≡ words_of_each name_words ns ++ r → cells_at (name_at w) a (length ns) ≡ ns
names_at w = many_at w (name_at w) name_words name_two (name_at_lem w)

-- ── forks ────────────────────────────────────────────────────────────────────────
arity : (w : List ℕ) (c : Call) (a : ℕ) (r : List ℕ) → drop a w ≡ call_words c ++ r → word w (a + 0) ≡ length c.arguments
unfolding call_words
arity w c a r e = word_at_lem w a 0 _ e

pub call_at_lem : (w : List ℕ) (c : Call) (a : ℕ) (r : List ℕ) → drop a w ≡ call_words c ++ r → call_at w a ≡ c
unfolding call_at call_words
call_at_lem w c a r e =
    let n = names_at w c.arguments (a + 2) r (past w a 2 (length c.arguments ∷ (c.callee ∷ [])) (words_of_each name_words c.arguments ++ r) refl e) in
    rw (word_at_lem w a 0 _ e, word_at_lem w a 1 _ e, n)

pub calls_at_lem : (w : List ℕ) (cs : List Call) (a : ℕ) (r : List ℕ) → drop a w ≡ words_of_each call_words cs ++ r → calls_at w a (length cs) ≡ cs
unfolding calls_at words_of_each after_call
calls_at_lem w [] a r e = refl
calls_at_lem w (c ∷ cs) a r e =
    let e₁ : drop a w ≡ call_words c ++ (words_of_each call_words cs ++ r) = e ∙ append_assoc (call_words c) (words_of_each call_words cs) r in
    let k : word w (a + 0) ≡ length c.arguments = arity w c a (words_of_each call_words cs ++ r) e₁ in
    let n = calls_at_lem w cs (a + (2 + 2 * length c.arguments)) r (past w a (2 + 2 * length c.arguments) (call_words c) (words_of_each call_words cs ++ r) (call_length c) e₁) in
    rw (k, call_at_lem w c a (words_of_each call_words cs ++ r) e₁, n)

-- ── instructions ─────────────────────────────────────────────────────────────────
pub inst_at : (w : List ℕ) (i : Instruction) (e at : ℕ) (re rc : List ℕ) → drop e w ≡ entry_words at i ++ re → drop at w ≡ cell_words i ++ rc → instruction_at_entry w e ≡ i
unfolding instruction_at_entry instruction_of entry_words cell_words
inst_at w (assign n x) e at re rc h k = rw (word_at_lem w e 0 _ h, word_at_lem w e 1 _ h, word_at_lem w e 2 _ h, word_at_lem w e 3 _ h, pieces_at_lem w x at rc k)
inst_at w (schedule n d x) e at re rc h k =
    let k₁ : drop at w ≡ words_of_each piece_words d ++ (words_of_each piece_words x ++ rc) = k ∙ append_assoc (words_of_each piece_words d) (words_of_each piece_words x) rc in
    let k₂ = past w at (2 * length d) (words_of_each piece_words d) (words_of_each piece_words x ++ rc) (each_two piece_words piece_two d) k₁ in
    rw (word_at_lem w e 0 _ h, word_at_lem w e 1 _ h, word_at_lem w e 2 _ h, word_at_lem w e 3 _ h, word_at_lem w e 4 _ h, pieces_at_lem w d at _ k₁, pieces_at_lem w x (at + 2 * length d) rc k₂)
inst_at w (branch x j) e at re rc h k = rw (word_at_lem w e 0 _ h, word_at_lem w e 1 _ h, word_at_lem w e 2 _ h, word_at_lem w e 3 _ h, pieces_at_lem w x at rc k)
inst_at w (jump j) e at re rc h k = rw (word_at_lem w e 0 _ h, word_at_lem w e 1 _ h)
inst_at w (wait ns) e at re rc h k = rw (word_at_lem w e 0 _ h, word_at_lem w e 2 _ h, word_at_lem w e 3 _ h, names_at w ns at rc k)
inst_at w (fork cs) e at re rc h k = rw (word_at_lem w e 0 _ h, word_at_lem w e 2 _ h, word_at_lem w e 3 _ h, calls_at_lem w cs at rc k)
inst_at w end e at re rc h k = rw (word_at_lem w e 0 _ h)

pub code_at_lem : (w : List ℕ) (is : List Instruction) (e at : ℕ) (re rc : List ℕ) → drop e w ≡ all_entries at is ++ re → drop at w ≡ all_cells is ++ rc → code_at_entry w e (length is) ≡ is
unfolding code_at_entry all_entries all_cells words_of_each
code_at_lem w [] e at re rc h k = refl
code_at_lem w (i ∷ is) e at re rc h k =
    let m = at + length (cell_words i) in
    let h₁ : drop e w ≡ entry_words at i ++ (all_entries m is ++ re) = h ∙ append_assoc (entry_words at i) (all_entries m is) re in
    let k₁ : drop at w ≡ cell_words i ++ (all_cells is ++ rc) = k ∙ append_assoc (cell_words i) (all_cells is) rc in
    rw (inst_at w i e at _ _ h₁ k₁, code_at_lem w is (e + 5) m re rc (past w e 5 (entry_words at i) _ (entry_five at i) h₁) (past w at (length (cell_words i)) (cell_words i) _ refl k₁))

-- ── routines ─────────────────────────────────────────────────────────────────────
pub kinds_back : (ks : List Kind) → kinds_of_bits (length ks) (kind_bits ks) ≡ ks
unfolding kinds_of_bits kind_bits
kinds_back [] = refl
kinds_back (by_reference ∷ ks) =
    let m : (1 + 2 * kind_bits ks) % 2 ≡ 1 = omega arith in
    let d : (1 + 2 * kind_bits ks) / 2 ≡ kind_bits ks = omega arith in
    rw (m, d, kinds_back ks)
kinds_back (by_value ∷ ks) =
    let m : (2 * kind_bits ks) % 2 ≡ 0 = omega arith in
    let d : (2 * kind_bits ks) / 2 ≡ kind_bits ks = omega arith in
    rw (m, d, kinds_back ks)

routine_at_lem : (w : List ℕ) (t : Routine) (a first at : ℕ) (ra re rc : List ℕ) → drop a w ≡ routine_words first t ++ ra
    → drop (328 + 5 * first) w ≡ all_entries at t.code ++ re → drop at w ≡ all_cells t.code ++ rc → routine_at_entry w a ≡ t
unfolding routine_at_entry routine_words
routine_at_lem w t a first at ra re rc h k l =
    rw (word_at_lem w a 0 _ h, word_at_lem w a 1 _ h, word_at_lem w a 2 _ h, word_at_lem w a 3 _ h, word_at_lem w a 4 _ h, kinds_back t.kinds, code_at_lem w t.code (328 + 5 * first) at re rc k l)

pub routines_at : (w : List ℕ) (rs : List Routine) (a first at : ℕ) (ra re rc : List ℕ) → drop a w ≡ all_routines first rs ++ ra
    → drop (328 + 5 * first) w ≡ all_entries at (all_code rs) ++ re → drop at w ≡ all_cells (all_code rs) ++ rc → routines_at_entry w a (length rs) ≡ rs
unfolding routines_at_entry all_routines all_code
routines_at w [] a first at ra re rc h k l = refl
routines_at w (t ∷ rs) a first at ra re rc h k l =
    let n = length t.code in
    let m = at + length (all_cells t.code) in
    let h₁ : drop a w ≡ routine_words first t ++ (all_routines (first + n) rs ++ ra) = h ∙ append_assoc (routine_words first t) (all_routines (first + n) rs) ra in
    let k₁ : drop (328 + 5 * first) w ≡ all_entries at t.code ++ (all_entries m (all_code rs) ++ re) =
    k ∙ (ap (λ (x : List ℕ). x ++ re) (entries_append t.code (all_code rs) at) ∙ append_assoc (all_entries at t.code) (all_entries m (all_code rs)) re) in
    let l₁ : drop at w ≡ all_cells t.code ++ (all_cells (all_code rs) ++ rc) =
    l ∙ (ap (λ (x : List ℕ). x ++ rc) (cells_append t.code (all_code rs)) ∙ append_assoc (all_cells t.code) (all_cells (all_code rs)) rc) in
    let k₂ : drop ((328 + 5 * first) + 5 * n) w ≡ all_entries m (all_code rs) ++ re = past w (328 + 5 * first) (5 * n) (all_entries at t.code) _ (entries_length t.code at) k₁ in
    let s : (328 + 5 * first) + 5 * n ≡ 328 + 5 * (first + n) = omega arith in
    let k₃ : drop (328 + 5 * (first + n)) w ≡ all_entries m (all_code rs) ++ re = ap (λ (x : ℕ). drop x w) (sym s) ∙ k₂ in
    rw (
      routine_at_lem w t a first at _ _ _ h₁ k₁ l₁,
      routines_at w rs (a + 5) (first + n) m ra re rc (past w a 5 (routine_words first t) _ (routine_five first t) h₁) k₃ (past w at _ (all_cells t.code) _ refl l₁),
    )

-- ── the whole ────────────────────────────────────────────────────────────────────
module _ (h r e c : List ℕ) (hf : length h ≤ 8) (rf : length r ≤ 320) (ef : length e ≤ 2560) where
  pub at_routines : drop 8 (laid_out h r e c) ≡ padded 320 r ++ (padded 2560 e ++ padded 9400 c)
  unfolding laid_out
  at_routines = drop_at (padded 8 h) _ 8 (pad_length 8 h hf)

  pub at_entries : drop 328 (laid_out h r e c) ≡ padded 2560 e ++ padded 9400 c
  at_entries = past (laid_out h r e c) 8 320 (padded 320 r) _ (pad_length 320 r rf) at_routines

  pub at_cells : drop 2888 (laid_out h r e c) ≡ padded 9400 c
  at_cells = past (laid_out h r e c) 328 2560 (padded 2560 e) _ (pad_length 2560 e ef) at_entries

header_words_lem : (l : Listing) (r e c : List ℕ) → (word (laid_out (header_words l) r e c) 0 ≡ l.inputs) × (word (laid_out (header_words l) r e c) 1 ≡ l.outputs) × (word (laid_out (header_words l) r e c) 2 ≡ length l.routines)
unfolding laid_out header_words padded
header_words_lem l r e c = (refl, refl, refl)

pub header_short : (l : Listing) → length (header_words l) ≤ 8
unfolding header_words
header_short l = omega arith

pub pad_split : (n : ℕ) (xs r : List ℕ) → padded n xs ++ r ≡ xs ++ (replicate (n - length xs) 0 ++ r)
unfolding padded
pad_split n xs r = append_assoc xs (replicate (n - length xs) 0) r

pub pad_is : (n : ℕ) (xs : List ℕ) → padded n xs ≡ xs ++ replicate (n - length xs) 0
unfolding padded
pad_is n xs = refl

pub table_back : (l : Listing) → length l.routines ≤ 64 → length (all_code l.routines) ≤ 512 → table_listing (table_words l) ≡ l
unfolding table_listing table_words
table_back l hr hi =
    let rs = l.routines in
    let r = all_routines 0 rs in
    let e = all_entries 2888 (all_code rs) in
    let c = all_cells (all_code rs) in
    let hw = header_words_lem l r e c in
    let rl = routines_length rs 0 in
    let el = entries_length (all_code rs) 2888 in
    let h3 : length (header_words l) ≤ 8 = header_short l in
    let p₁ : drop 8 (table_words l) ≡ r ++ (replicate (320 - length r) 0 ++ (padded 2560 e ++ padded 9400 c)) = at_routines (header_words l) r e c h3 (omega arith) (omega arith) ∙ pad_split 320 r _ in
    let p₂ : drop 328 (table_words l) ≡ e ++ (replicate (2560 - length e) 0 ++ padded 9400 c) = at_entries (header_words l) r e c h3 (omega arith) (omega arith) ∙ pad_split 2560 e _ in
    let p₃ : drop 2888 (table_words l) ≡ c ++ replicate (9400 - length c) 0 = at_cells (header_words l) r e c h3 (omega arith) (omega arith) ∙ pad_is 9400 c in
    rw (hw.0, hw.1, hw.2, routines_at (table_words l) rs 8 0 2888 _ _ _ p₁ p₂ p₃)
