-- What is written for each instruction but the fork. s is the text, c the place past the letter, b the byte there, t the words before.
use mathlib.Core.Path.{◌≡◌, refl, sym, ap, ◌∙◌}
use mathlib.Core.Bool.{true, ◌&&◌}
use mathlib.Core.List.{List, [], ◌∷◌, ◌++◌}
use mathlib.Core.Option.{Option, some}
use Prim.Native.Nat.{ℕ, ◌+◌, ◌*◌, ◌≤◌}
use native.Mathlib.Omega.{arith}
use lib.Dec.{ltb}
use lib.ListN.{length, drop, length-append}
use lib.Seq.{sets}
use borrow.Author.Tests.{ltb-true}
use Rattle.listing.specs.Lists.{all}
use Rattle.listing.specs.Bytes.{read_figure}
use Rattle.listing.specs.Expressions.{each, read_piece, leaves_one, read_expression}
use Rattle.listing.specs.Form.{Field, next_field_lem, none_left_lem, read_number, read_names, one_to, most_names_awaited, read_assign, read_schedule, read_branch, read_jump, read_wait, read_end}
use Rattle.listing.specs.Questions.{piece_is_there, is_there}
use Rattle.listing.specs.Listing as L
use Rattle.table.specs.Areas.{words_of_each, piece_words, name_words, cell_words, entry_words}
use Rattle.table.proofs.Lengths.{piece_two}
use Rattle.text_place.specs.Texts.{fields_left, field_pieces, Within}
use Rattle.text_place.specs.declared.place.Place.{Place}
use Rattle.text_jumps.specs.Records.{end_next}
use Rattle.text_jumps.proofs.Chain.{Got, next_shut, expression_length}
use Rattle.table_cells.specs.Cells.{cells_of, cells_answer, WritesCells}
use Rattle.table_cells.specs.Words.{word_answer}
use Rattle.table_lines.specs.Lines.{words_after, Fits, Good, line_of, Writes, rest_at, WritesRest}
use Rattle.table_lines.specs.Lines as S
use Rattle.text_fields.specs.declared.field.Read.{Read}
use Rattle.table_lines.specs.declared.line.Holds.TheVariants as HV
use Rattle.table_lines.specs.declared.line.WrittenLine.{WrittenLine}
use Rattle.table_cells.proofs.Fields.{both_true, tested_read, stop_of, next_of, field_was, shut_was, last_was, WordIs, word_known, each_length, pieces_cells, names_cells}
use Rattle.table_cells.proofs.Stores.{sets_behind, two_each}
use Rattle.table_lines.proofs.Openings.{held_is}

-- ── a reading that is an instruction ─────────────────────────────────────────────
-- a line read as x, written as an instruction
pub record IsWritten (x : L.Line) (end : Place) (e a : ℕ) (before after : List ℕ) (r : WrittenLine) : Type 0 where
  pub i : L.Instruction
  pub is : x ≡ L.Line.instruction i
  pub next : r.next ≡ end
  pub words : (routines : List L.Routine) (names size : ℕ) → is_there routines names size i ≡ true → length routines ≤ 64 → names ≤ 16 → size ≤ 512
      → (r.holds ≡ HV.Instruction (length (cell_words i))) × (after ≡ sets (sets before a (cell_words i)) e (entry_words a i))

pub writes_of_lem : (o : Option L.Line) (end : Place) (e a : ℕ) (before after : List ℕ) (r : WrittenLine) → Good o
    → ((x : L.Line) → o ≡ some x → IsWritten x end e a before after r) → Writes o end e a before after r
writes_of_lem o end e a before after r g h = go (h g.line g.reads)
  where
    given : (i : L.Instruction) → (w : IsWritten g.line end e a before after r) → w.i ≡ i → Fits (L.Line.instruction i)
        → (r.holds ≡ HV.Instruction (length (cell_words i))) × (after ≡ sets (sets before a (cell_words i)) e (entry_words a i))
    given i w j (S.Fits.instruction routines names size there l m n) = let k = w.words routines names size (rw j there) l m n in rw j at k

    go : IsWritten g.line end e a before after r → Writes o end e a before after r
    go w =
        let x : L.Line = L.Line.instruction w.i in
        let reads : o ≡ some x = g.reads ∙ ap (λ (l : L.Line). some l) w.is in
        let k = given w.i w refl (rw w.is at g.fits) in
        record {
          answer = held_is o x r.holds r.next end reads k.0 w.next;
          words = k.1 ∙ ap (λ (q : Option L.Line). words_after (line_of q) e a before) (sym reads);
        }

-- ── fields ───────────────────────────────────────────────────────────────────────
pub name_two : (n : ℕ) → length (name_words n) ≡ 2
unfolding name_words
name_two n = refl

pieces_read : (ws : Field) (x : L.Expression) → read_expression ws ≡ some x → each read_piece ws ≡ some x
unfolding read_expression
pieces_read ws x h = tested_read leaves_one (each read_piece ws) x h

-- the cells of an expression whose names are there
pub record ExpressionCells (s : List ℕ) (at : ℕ) (x : L.Expression) : Type 0 where
  pub cells : cells_of 1 (field_pieces s at) ≡ words_of_each piece_words x
  pub number : length (field_pieces s at) ≡ length x
  pub two : length (words_of_each piece_words x) ≡ 2 * length x

pub expression_cells : (s : List ℕ) (c : Place) (b : ℕ) (x : L.Expression) (b' : ℕ) (c' : Place) (names : ℕ) → Got read_expression s c b x b' c' → all (piece_is_there names) x ≡ true → names ≤ 16
    → ExpressionCells s c.offset x
expression_cells s c b x b' c' names g t h =
    record {
      cells = pieces_cells names (omega arith) (field_pieces s c.offset) x (pieces_read (field_pieces s c.offset) x g.read) t;
      number = sym (expression_length s c b b' c' x g);
      two = two_each piece_words piece_two x;
    }

-- the words of an entry, from what they stand for
pub entry_is : (t t₁ after ws : List ℕ) (e a kind v v' m m' n n' : ℕ) → after ≡ sets t₁ e (kind ∷ (v ∷ (a ∷ (m ∷ (n ∷ []))))) → t₁ ≡ sets t a ws → v ≡ v' → m ≡ m' → n ≡ n'
    → after ≡ sets (sets t a ws) e (kind ∷ (v' ∷ (a ∷ (m' ∷ (n' ∷ [])))))
entry_is t t₁ after ws e a kind v v' m m' n n' h i j k l = h ∙ rw (i, j, k, l)

-- what the cells of an expression's field give
module _ (s t : List ℕ) (c : Place) (a : ℕ) (x : L.Expression) (p : Place) (ep : p ≡ c) (cells : Read ℕ) (t₁ : List ℕ) (ec : WritesCells s p a 1 t t₁ cells) where
  pub cells_known : cells ≡ cells_answer s c
  cells_known = ec.answer ∙ ap (cells_answer s) ep

  pub cells_next : cells.next ≡ next_of s c
  cells_next = ap (λ (r : Read ℕ). r.next) cells_known

  pub cells_stop : cells.stop ≡ stop_of s c
  cells_stop = ap (λ (r : Read ℕ). r.stop) cells_known

  module _ (xs : ExpressionCells s c.offset x) where
    pub cells_count : cells.value ≡ length x
    cells_count = ap (λ (r : Read ℕ). r.value) cells_known ∙ xs.number

    pub cells_written : t₁ ≡ sets t a (words_of_each piece_words x)
    cells_written = ec.written ∙ ap (λ (d : Place). sets t a (cells_of 1 (field_pieces s d.offset))) ep ∙ ap (sets t a) xs.cells

    pub cells_length : 2 * cells.value ≡ length (words_of_each piece_words x)
    cells_length = omega (arith, cells_count, xs.two)

-- ── assign ───────────────────────────────────────────────────────────────────────
module _ (s t : List ℕ) (c : Place) (b e a : ℕ) (w : Within s c.offset c.line) (name : Read ℕ) (en : name ≡ word_answer s c b)
    (cells : Read ℕ) (t₁ : List ℕ) (ec : WritesCells s name.next a 1 t t₁ cells) (after : List ℕ)
    (ee : after ≡ sets t₁ e (1 ∷ (name.value ∷ (a ∷ (cells.value ∷ (0 ∷ [])))))) where
  assign_is : (x : L.Line) → read_assign (fields_left b (drop c.offset s)) ≡ some x → IsWritten x (end_next s c b) e a t after (record { holds = HV.Instruction (2 * cells.value); next = cells.next })
  unfolding is_there cell_words entry_words
  assign_is x h =
      let f = field_was read_number s c b (λ n fields. next_field_lem read_expression fields (λ e fields. none_left_lem fields (L.Line.instruction (L.Instruction.assign n e)))) x w h in
      let n = f.value in
      let c₁ = next_of s c in
      let g = field_was read_expression s c₁ (stop_of s c) (λ e fields. none_left_lem fields (L.Line.instruction (L.Instruction.assign n e))) x f.got.within f.rest in
      let y = g.value in
      let k = word_known s c b n name f.is en in
      let shut = shut_was s (next_of s c₁).offset (stop_of s c₁) _ x g.rest in
      record {
        i = L.Instruction.assign n y;
        is = last_was s (next_of s c₁).offset (stop_of s c₁) _ x g.rest;
        next = cells_next s t c₁ a y name.next k.next cells t₁ ec ∙ sym (next_shut s (next_of s c₁) (stop_of s c₁) shut) ∙ g.got.nexts ∙ f.got.nexts;
        words = λ routines names size there l m o.
            let q = both_true (ltb n names) (all (piece_is_there names) y) there in
            let xs = expression_cells s c₁ (stop_of s c) y (stop_of s c₁) (next_of s c₁) names g.got q.1 m in
            let small = ltb-true n names q.0 in (
              ap HV.Instruction (cells_length s t c₁ a y name.next k.next cells t₁ ec xs),
              entry_is t t₁ after (words_of_each piece_words y) e a 1 _ _ _ _ _ _ ee (cells_written s t c₁ a y name.next k.next cells t₁ ec xs)
                  (k.value (omega arith)) (cells_count s t c₁ a y name.next k.next cells t₁ ec xs) refl,
            );
      }

  pub assign_written : Good (rest_at read_assign s c b) → WritesRest read_assign s c b e a t after (record { holds = HV.Instruction (2 * cells.value); next = cells.next })
  assign_written g = writes_of_lem (rest_at read_assign s c b) (end_next s c b) e a t after _ g assign_is

-- ── schedule ─────────────────────────────────────────────────────────────────────
module _ (s t : List ℕ) (c : Place) (b e a : ℕ) (w : Within s c.offset c.line) (name : Read ℕ) (en : name ≡ word_answer s c b)
    (delay : Read ℕ) (t₁ : List ℕ) (ed : WritesCells s name.next a 1 t t₁ delay) (value : Read ℕ) (t₂ : List ℕ) (ev : WritesCells s delay.next (a + 2 * delay.value) 1 t₁ t₂ value)
    (after : List ℕ) (ee : after ≡ sets t₂ e (2 ∷ (name.value ∷ (a ∷ (delay.value ∷ (value.value ∷ [])))))) where
  abbrev scheduled : WrittenLine
  scheduled = record { holds = HV.Instruction (2 * delay.value + 2 * value.value); next = value.next }

  -- with the name and the expressions that the fields are
  module _ (n : ℕ) (y z : L.Expression) (k : WordIs s c n name) (gy : Got read_expression s (next_of s c) (stop_of s c) y (stop_of s (next_of s c)) (next_of s (next_of s c)))
      (gz : Got read_expression s (next_of s (next_of s c)) (stop_of s (next_of s c)) z (stop_of s (next_of s (next_of s c))) (next_of s (next_of s (next_of s c)))) where
    abbrev c₁ : Place
    c₁ = next_of s c

    abbrev c₂ : Place
    c₂ = next_of s c₁

    abbrev both_words : List ℕ
    both_words = words_of_each piece_words y ++ words_of_each piece_words z

    value_place : delay.next ≡ c₂
    value_place = cells_next s t c₁ a y name.next k.next delay t₁ ed

    value_next : value.next ≡ next_of s c₂
    value_next = cells_next s t₁ c₂ (a + 2 * delay.value) z delay.next value_place value t₂ ev

    schedule_words : (names : ℕ) → (ltb n names && all (piece_is_there names) y && all (piece_is_there names) z) ≡ true → names ≤ 16
        → (HV.Instruction (2 * delay.value + 2 * value.value) ≡ HV.Instruction (length both_words)) × (after ≡ sets (sets t a both_words) e (2 ∷ (n ∷ (a ∷ (length y ∷ (length z ∷ []))))))
    schedule_words names there m =
        let q = both_true (ltb n names && all (piece_is_there names) y) (all (piece_is_there names) z) there in
        let r = both_true (ltb n names) (all (piece_is_there names) y) q.0 in
        let ys = expression_cells s c₁ (stop_of s c) y (stop_of s c₁) c₂ names gy r.1 m in
        let zs = expression_cells s c₂ (stop_of s c₁) z (stop_of s c₂) (next_of s c₂) names gz q.1 m in
        let small = ltb-true n names r.0 in
        let ly = cells_length s t c₁ a y name.next k.next delay t₁ ed ys in
        let lz = cells_length s t₁ c₂ (a + 2 * delay.value) z delay.next value_place value t₂ ev zs in
        let written : t₂ ≡ sets t a both_words =
        cells_written s t₁ c₂ (a + 2 * delay.value) z delay.next value_place value t₂ ev zs ∙ rw (ly, cells_written s t c₁ a y name.next k.next delay t₁ ed ys) (sets_behind t a (words_of_each piece_words y) (words_of_each piece_words z)) in (
          ap HV.Instruction (let total : 2 * delay.value + 2 * value.value ≡ length both_words = omega (arith, ly, lz, length-append (words_of_each piece_words y) (words_of_each piece_words z)) in total),
          entry_is t t₂ after both_words e a 2 _ _ _ _ _ _ ee written (k.value (omega arith)) (cells_count s t c₁ a y name.next k.next delay t₁ ed ys)
              (cells_count s t₁ c₂ (a + 2 * delay.value) z delay.next value_place value t₂ ev zs),
        )

  schedule_is : (x : L.Line) → read_schedule (fields_left b (drop c.offset s)) ≡ some x → IsWritten x (end_next s c b) e a t after scheduled
  unfolding is_there cell_words entry_words
  schedule_is x h =
      let d₁ = next_of s c in
      let d₂ = next_of s d₁ in
      let d₃ = next_of s d₂ in
      let f = field_was read_number s c b (λ n fields. next_field_lem read_expression fields (λ d fields. next_field_lem read_expression fields (λ e fields. none_left_lem fields (L.Line.instruction (L.Instruction.schedule n d e))))) x w h in
      let g = field_was read_expression s d₁ (stop_of s c) (λ d fields. next_field_lem read_expression fields (λ e fields. none_left_lem fields (L.Line.instruction (L.Instruction.schedule f.value d e)))) x f.got.within f.rest in
      let i = field_was read_expression s d₂ (stop_of s d₁) (λ e fields. none_left_lem fields (L.Line.instruction (L.Instruction.schedule f.value g.value e))) x g.got.within g.rest in
      let k = word_known s c b f.value name f.is en in
      let line = L.Line.instruction (L.Instruction.schedule f.value g.value i.value) in
      record {
        i = L.Instruction.schedule f.value g.value i.value;
        is = last_was s d₃.offset (stop_of s d₂) line x i.rest;
        next = value_next f.value g.value i.value k g.got i.got ∙ sym (next_shut s d₃ (stop_of s d₂) (shut_was s d₃.offset (stop_of s d₂) line x i.rest)) ∙ i.got.nexts ∙ g.got.nexts ∙ f.got.nexts;
        words = λ routines names size there l m o. schedule_words f.value g.value i.value k g.got i.got names there m;
      }

  pub schedule_written : Good (rest_at read_schedule s c b) → WritesRest read_schedule s c b e a t after scheduled
  schedule_written g = writes_of_lem (rest_at read_schedule s c b) (end_next s c b) e a t after scheduled g schedule_is

-- ── branch ───────────────────────────────────────────────────────────────────────
module _ (s t : List ℕ) (c : Place) (b e a : ℕ) (w : Within s c.offset c.line) (cells : Read ℕ) (t₁ : List ℕ) (ec : WritesCells s c a 1 t t₁ cells)
    (target : Read ℕ) (et : target ≡ word_answer s cells.next cells.stop) (after : List ℕ)
    (ee : after ≡ sets t₁ e (3 ∷ (target.value ∷ (a ∷ (cells.value ∷ (0 ∷ [])))))) where
  abbrev branched : WrittenLine
  branched = record { holds = HV.Instruction (2 * cells.value); next = target.next }

  branch_is : (x : L.Line) → read_branch (fields_left b (drop c.offset s)) ≡ some x → IsWritten x (end_next s c b) e a t after branched
  unfolding is_there cell_words entry_words
  branch_is x h =
      let g = field_was read_expression s c b (λ e fields. next_field_lem read_number fields (λ k fields. none_left_lem fields (L.Line.instruction (L.Instruction.branch e k)))) x w h in
      let y = g.value in
      let c₁ = next_of s c in
      let f = field_was read_number s c₁ (stop_of s c) (λ k fields. none_left_lem fields (L.Line.instruction (L.Instruction.branch y k))) x g.got.within g.rest in
      let n = f.value in
      let places : word_answer s cells.next cells.stop ≡ word_answer s c₁ (stop_of s c) = rw (cells_next s t c a y c refl cells t₁ ec, cells_stop s t c a y c refl cells t₁ ec) in
      let k = word_known s c₁ (stop_of s c) n target f.is (et ∙ places) in
      let shut = shut_was s (next_of s c₁).offset (stop_of s c₁) _ x f.rest in
      record {
        i = L.Instruction.branch y n;
        is = last_was s (next_of s c₁).offset (stop_of s c₁) _ x f.rest;
        next = k.next ∙ sym (next_shut s (next_of s c₁) (stop_of s c₁) shut) ∙ f.got.nexts ∙ g.got.nexts;
        words = λ routines names size there l m o.
            let q = both_true (all (piece_is_there names) y) (ltb n size) there in
            let xs = expression_cells s c b y (stop_of s c) (next_of s c) names g.got q.0 m in
            let small = ltb-true n size q.1 in (
              ap HV.Instruction (cells_length s t c a y c refl cells t₁ ec xs),
              entry_is t t₁ after (words_of_each piece_words y) e a 3 _ _ _ _ _ _ ee (cells_written s t c a y c refl cells t₁ ec xs)
                  (k.value (omega arith)) (cells_count s t c a y c refl cells t₁ ec xs) refl,
            );
      }

  pub branch_written : Good (rest_at read_branch s c b) → WritesRest read_branch s c b e a t after branched
  branch_written g = writes_of_lem (rest_at read_branch s c b) (end_next s c b) e a t after branched g branch_is

-- ── jump ─────────────────────────────────────────────────────────────────────────
module _ (s t : List ℕ) (c : Place) (b e a : ℕ) (w : Within s c.offset c.line) (target : Read ℕ) (et : target ≡ word_answer s c b) (after : List ℕ)
    (ee : after ≡ sets t e (4 ∷ (target.value ∷ (a ∷ (0 ∷ (0 ∷ [])))))) where
  abbrev jumped : WrittenLine
  jumped = record { holds = HV.Instruction 0; next = target.next }

  jump_is : (x : L.Line) → read_jump (fields_left b (drop c.offset s)) ≡ some x → IsWritten x (end_next s c b) e a t after jumped
  unfolding is_there cell_words entry_words
  jump_is x h =
      let f = field_was read_number s c b (λ k fields. none_left_lem fields (L.Line.instruction (L.Instruction.jump k))) x w h in
      let n = f.value in
      let c₁ = next_of s c in
      let k = word_known s c b n target f.is et in
      let shut = shut_was s c₁.offset (stop_of s c) _ x f.rest in
      record {
        i = L.Instruction.jump n;
        is = last_was s c₁.offset (stop_of s c) _ x f.rest;
        next = k.next ∙ sym (next_shut s c₁ (stop_of s c) shut) ∙ f.got.nexts;
        words = λ routines names size there l m o.
            let small = ltb-true n size there in
            (refl, entry_is t t after [] e a 4 _ _ _ _ _ _ ee refl (k.value (omega arith)) refl refl);
      }

  pub jump_written : Good (rest_at read_jump s c b) → WritesRest read_jump s c b e a t after jumped
  jump_written g = writes_of_lem (rest_at read_jump s c b) (end_next s c b) e a t after jumped g jump_is

-- ── wait ─────────────────────────────────────────────────────────────────────────
names_read : (ws : Field) (ns : List ℕ) → read_names ws ≡ some ns → each read_figure ws ≡ some ns
unfolding read_names
names_read ws ns h = tested_read (one_to most_names_awaited) (each read_figure ws) ns h

module _ (s t : List ℕ) (c : Place) (b e a : ℕ) (w : Within s c.offset c.line) (cells : Read ℕ) (t₁ : List ℕ) (ec : WritesCells s c a 0 t t₁ cells) (after : List ℕ)
    (ee : after ≡ sets t₁ e (5 ∷ (0 ∷ (a ∷ (cells.value ∷ (0 ∷ [])))))) where
  abbrev awaited : WrittenLine
  awaited = record { holds = HV.Instruction (2 * cells.value); next = cells.next }

  wait_is : (x : L.Line) → read_wait (fields_left b (drop c.offset s)) ≡ some x → IsWritten x (end_next s c b) e a t after awaited
  unfolding is_there cell_words entry_words
  wait_is x h =
      let g = field_was read_names s c b (λ names fields. none_left_lem fields (L.Line.instruction (L.Instruction.wait names))) x w h in
      let ns = g.value in
      let c₁ = next_of s c in
      let shut = shut_was s c₁.offset (stop_of s c) _ x g.rest in
      let read = names_read (field_pieces s c.offset) ns g.got.read in
      let count : cells.value ≡ length ns = ap (λ (r : Read ℕ). r.value) ec.answer ∙ sym (each_length read_figure (field_pieces s c.offset) ns read) in
      record {
        i = L.Instruction.wait ns;
        is = last_was s c₁.offset (stop_of s c) _ x g.rest;
        next = ap (λ (r : Read ℕ). r.next) ec.answer ∙ sym (next_shut s c₁ (stop_of s c) shut) ∙ g.got.nexts;
        words = λ routines names size there l m o. (
          ap HV.Instruction (let z : 2 * cells.value ≡ length (words_of_each name_words ns) = omega (arith, count, two_each name_words name_two ns) in z),
          entry_is t t₁ after (words_of_each name_words ns) e a 5 _ _ _ _ _ _ ee
              (ec.written ∙ ap (sets t a) (names_cells names (omega arith) (field_pieces s c.offset) ns read there)) refl count refl,
        );
      }

  pub wait_written : Good (rest_at read_wait s c b) → WritesRest read_wait s c b e a t after awaited
  wait_written g = writes_of_lem (rest_at read_wait s c b) (end_next s c b) e a t after awaited g wait_is

-- ── end ──────────────────────────────────────────────────────────────────────────
module _ (s t : List ℕ) (c : Place) (b e a : ℕ) (after : List ℕ) (ee : after ≡ sets t e (7 ∷ (0 ∷ (a ∷ (0 ∷ (0 ∷ [])))))) where
  abbrev ended : WrittenLine
  ended = record { holds = HV.Instruction 0; next = c }

  end_is : (x : L.Line) → read_end (fields_left b (drop c.offset s)) ≡ some x → IsWritten x (end_next s c b) e a t after ended
  unfolding cell_words entry_words
  end_is x h =
      record {
        i = L.Instruction.end;
        is = last_was s c.offset b _ x h;
        next = sym (next_shut s c b (shut_was s c.offset b _ x h));
        words = λ routines names size there l m o. (refl, ee);
      }

  pub end_written : Good (rest_at read_end s c b) → WritesRest read_end s c b e a t after ended
  end_written g = writes_of_lem (rest_at read_end s c b) (end_next s c b) e a t after ended g end_is
