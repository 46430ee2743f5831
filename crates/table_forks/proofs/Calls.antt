-- The child fields of a fork, written one after another.
use mathlib.Core.Path.{◌≡◌, refl, sym, ap, ◌∙◌}
use mathlib.Core.Bool.{Bool, true, false, ◌&&◌}
use mathlib.Core.List.{List, [], ◌∷◌, ◌++◌}
use mathlib.Core.Option.{Option, none, some}
use Prim.Native.Nat.{ℕ, ◌+◌, ◌*◌, ◌-◌, ◌≤◌, ◌<◌}
use native.Mathlib.Omega.{arith}
use lib.Dec.{eqb, ltb, leb}
use lib.ListN.{length, get_or, drop, set, length-set, length-append}
use lib.Seq.{sets, length-sets}
use borrow.Author.Tests.{leb-true}
use Rattle.listing.specs.Lists.{all}
use Rattle.listing.specs.Bytes.{read_figure}
use Rattle.listing.specs.Expressions.{bind, when, each}
use Rattle.listing.specs.Form.{Field, next_field_lem, read_call, read_fork, one_to, most_children}
use Rattle.listing.specs.Questions.{argument_count, call_is_there, is_there}
use Rattle.listing.specs.Listing as L
use Rattle.table.specs.Areas.{words_of_each, name_words, call_words, cell_words, entry_words}
use Rattle.text_place.specs.Texts.{fields_left, field_end, field_pieces, Within}
use Rattle.text_place.specs.declared.place.Place.{Place}
use Rattle.text_place.proofs.Places.{left_open}
use Rattle.text_jumps.specs.Records.{end_next}
use Rattle.text_jumps.proofs.Chain.{Got, got_of, next_shut, left_none}
use Rattle.table_forks.specs.Calls.{WritesCall}
use Rattle.table_cells.specs.Cells.{cells_of}
use Rattle.table_lines.specs.Lines.{Good, rest_at, WritesRest}
use Rattle.text_fields.specs.declared.field.Read.{Read}
use Rattle.table_lines.specs.declared.line.Holds.TheVariants as HV
use Rattle.table_lines.specs.declared.line.WrittenLine.{WrittenLine}
use Rattle.table_cells.proofs.Fields.{both_true, stop_of, next_of, each_more, each_none, each_length, name_cell, names_cells}
use Rattle.table_instructions.proofs.Instructions.{IsWritten, writes_of_lem, name_two, entry_is}
use Rattle.table_cells.proofs.Stores.{sets_behind, first_anew, two_each}

-- ── a child field ────────────────────────────────────────────────────────────────
-- what a child field that was read as a call is: its first figure, and the others
pub record CallWas (ws : Field) (call : L.Call) : Type 0 where
  pub head : List ℕ
  pub rest : Field
  pub pieces : ws ≡ head ∷ rest
  pub callee : read_figure head ≡ some call.callee
  pub arguments : each read_figure rest ≡ some call.arguments

call_was : (ws : Field) (call : L.Call) → read_call ws ≡ some call → CallWas ws call
unfolding read_call
call_was [] call h = absurd (let z : ◌≡◌ {A = ℕ} 0 1 = cc in omega arith)
call_was (w ∷ ws) call h = go (read_figure w) (each read_figure ws) refl refl h
  where
    go : (o : Option ℕ) (p : Option (List ℕ)) → read_figure w ≡ o → each read_figure ws ≡ p
        → bind o (λ routine. bind p (λ names. some (record { callee = routine; arguments = names }))) ≡ some call → CallWas (w ∷ ws) call
    go none p i j e = absurd (let z : ◌≡◌ {A = ℕ} 0 1 = cc in omega arith)
    go (some n) none i j e = absurd (let z : ◌≡◌ {A = ℕ} 0 1 = cc in omega arith)
    go (some n) (some ns) i j e =
        let z : record { callee = n; arguments = ns } ≡ call = cc in
        record { head = w; rest = ws; pieces = refl; callee = i ∙ ap (λ (c : L.Call). some c.callee) z; arguments = j ∙ ap (λ (c : L.Call). some c.arguments) z }

module _ (ws : Field) (call : L.Call) (h : read_call ws ≡ some call) where
  pub call_length : length (call_words call) ≡ 2 * length ws
  unfolding call_words
  call_length =
      let c = call_was ws call h in
      let l = each_length read_figure c.rest call.arguments c.arguments in
      omega (arith, two_each name_words name_two call.arguments, l, ap length c.pieces)

  module _ (routines : List L.Routine) (names : ℕ) (there : call_is_there routines names call ≡ true) (few : length routines ≤ 64) (m : names ≤ 16) where
    pub call_cells : (t : List ℕ) (a : ℕ) → set (sets t a (cells_of 0 ws)) a (length ws - 1) ≡ sets t a (call_words call)
    unfolding call_is_there cells_of call_words name_words
    call_cells t a =
        let c = call_was ws call h in
        let q = both_true (ltb call.callee (length routines) && eqb (length call.arguments) (argument_count routines call.callee)) (all (λ n. ltb n names) call.arguments) there in
        let r = both_true (ltb call.callee (length routines)) (eqb (length call.arguments) (argument_count routines call.callee)) q.0 in
        let head = name_cell (length routines) (omega arith) c.head call.callee c.callee r.0 in
        let others = names_cells names (omega arith) c.rest call.arguments c.arguments q.1 in
        let l = each_length read_figure c.rest call.arguments c.arguments in
        let cells : cells_of 0 ws ≡ 0 ∷ (call.callee ∷ words_of_each name_words call.arguments) =
        ap (cells_of 0) c.pieces ∙ ap (λ (v : List ℕ). v ++ cells_of 0 c.rest) head ∙ ap (λ (v : List ℕ). 0 ∷ (call.callee ∷ v)) others in
        let n : length ws - 1 ≡ length call.arguments = omega (arith, l, ap length c.pieces) in
        ap (λ (v : List ℕ). set (sets t a v) a (length ws - 1)) cells
        ∙ ap (λ (k : ℕ). set (sets t a (0 ∷ (call.callee ∷ words_of_each name_words call.arguments))) a k) n
        ∙ first_anew t a (length call.arguments) 0 (call.callee ∷ words_of_each name_words call.arguments)

-- where a tab came before, the first of the calls is the field here
first_call : (s : List ℕ) (at b : ℕ) (left : List L.Call) → b ≡ 9 → each read_call (fields_left b (drop at s)) ≡ some left
    → (call : L.Call) × (more : List L.Call) × (left ≡ call ∷ more) × (read_call (field_pieces s at) ≡ some call)
first_call s at b left e h =
    let rest = fields_left (get_or s (field_end s at) 0) (drop (field_end s at + 1) s) in
    let opened : fields_left b (drop at s) ≡ field_pieces s at ∷ rest = rw e (left_open s at) in
    let m = each_more read_call (field_pieces s at) rest left (ap (each read_call) (sym opened) ∙ h) in
    (m.0, m.1, m.2, m.3)

-- ── the loop over the fields ─────────────────────────────────────────────────────
module _ (s t₀ : List ℕ) (a at₀ line₀ b₀ : ℕ) where
  abbrev begins : Place
  begins = record { offset = at₀; line = line₀ }

  -- what is left of a row of child fields that is read as `calls`
  pub record Left (calls : List L.Call) (t : List ℕ) (at line b count cells : ℕ) : Type 0 where
    pub left : List L.Call
    pub read : each read_call (fields_left b (drop at s)) ≡ some left
    pub number : count + length left ≡ length calls
    pub ends : end_next s (record { offset = at; line = line }) b ≡ end_next s begins b₀
    pub size : 2 * cells + length (words_of_each call_words left) ≡ length (words_of_each call_words calls)
    pub words : (routines : List L.Routine) (names : ℕ) → all (call_is_there routines names) calls ≡ true → length routines ≤ 64 → names ≤ 16
        → (all (call_is_there routines names) left ≡ true) × (sets t (a + 2 * cells) (words_of_each call_words left) ≡ sets t₀ a (words_of_each call_words calls))

  pub record Forking (t : List ℕ) (at line b count cells : ℕ) : Type 0 where
    pub within : Within s at line
    pub few : count ≤ 8
    pub small : cells ≤ 49153 * count
    pub long : length t ≡ length t₀
    pub rest : (calls : List L.Call) → each read_call (fields_left b₀ (drop at₀ s)) ≡ some calls → Left calls t at line b count cells

  pub forking_begun : Within s at₀ line₀ → Forking t₀ at₀ line₀ b₀ 0 0
  forking_begun w =
      record {
        within = w;
        few = omega arith;
        small = omega arith;
        long = refl;
        rest = λ calls h. record {
          left = calls;
          read = h;
          number = omega arith;
          ends = refl;
          size = omega arith;
          words = λ routines names there l m. (there, (let z : a + 2 * 0 ≡ a = omega arith in ap (λ (i : ℕ). sets t₀ i (words_of_each call_words calls)) z));
        };
      }

  module _ (t : List ℕ) (at line b count cells : ℕ) (v : Forking t at line b count cells) (e : b ≡ 9) (h : count < 8) (small : length s ≤ 49152)
      (t' : List ℕ) (r : Read ℕ) (ens : WritesCall s (record { offset = at; line = line }) (a + 2 * cells) t t' r) where
    abbrev here : Place
    here = record { offset = at; line = line }

    count_is : r.value ≡ length (field_pieces s at)
    count_is = ap (λ (d : Read ℕ). d.value) ens.answer

    stop_is : stop_of s here ≡ r.stop
    stop_is = sym (ap (λ (d : Read ℕ). d.stop) ens.answer)

    next_is_lem : next_of s here ≡ r.next
    next_is_lem = sym (ap (λ (d : Read ℕ). d.next) ens.answer)

    pub still_long : length t' ≡ length t₀
    still_long =
        ap length ens.written ∙ length-set (sets t (a + 2 * cells) (cells_of 0 (field_pieces s at))) (a + 2 * cells) (r.value - 1)
        ∙ length-sets t (a + 2 * cells) (cells_of 0 (field_pieces s at)) ∙ v.long

    -- the field is one that is read
    got_one : (call : L.Call) → read_call (field_pieces s at) ≡ some call → Got read_call s here b call r.stop r.next
    unfolding next_field_lem
    got_one call i = got_of read_call s here b call r.stop r.next v.within (rw (e, left_open s at, i)) stop_is next_is_lem

    -- with the call that the field is, and those after it
    module _ (calls : List L.Call) (u : Left calls t at line b count cells) (call : L.Call) (more : List L.Call) (split : u.left ≡ call ∷ more) (read : read_call (field_pieces s at) ≡ some call)
        (others : each read_call (fields_left r.stop (drop r.next.offset s)) ≡ some more) where
      length_call : length (call_words call) ≡ 2 * r.value
      length_call = call_length (field_pieces s at) call read ∙ (let z : 2 * length (field_pieces s at) ≡ 2 * r.value = omega (arith, count_is) in z)

      length_left : length (words_of_each call_words u.left) ≡ length (call_words call) + length (words_of_each call_words more)
      unfolding words_of_each
      length_left = ap (λ (cs : List L.Call). length (words_of_each call_words cs)) split ∙ length-append (call_words call) (words_of_each call_words more)

      call_written : (routines : List L.Routine) (names : ℕ) → call_is_there routines names call ≡ true → length routines ≤ 64 → names ≤ 16 → t' ≡ sets t (a + 2 * cells) (call_words call)
      call_written routines names there l k =
          ens.written ∙ ap (λ (j : ℕ). set (sets t (a + 2 * cells) (cells_of 0 (field_pieces s at))) (a + 2 * cells) (j - 1)) count_is
          ∙ call_cells (field_pieces s at) call read routines names there l k t (a + 2 * cells)

      rest_written : t' ≡ sets t (a + 2 * cells) (call_words call) → sets t' (a + 2 * (cells + r.value)) (words_of_each call_words more) ≡ sets t (a + 2 * cells) (words_of_each call_words u.left)
      unfolding words_of_each
      rest_written one =
          let i : a + 2 * (cells + r.value) ≡ a + 2 * cells + length (call_words call) = omega (arith, length_call) in
          ap (λ (j : ℕ). sets t' j (words_of_each call_words more)) i ∙ ap (λ (z : List ℕ). sets z (a + 2 * cells + length (call_words call)) (words_of_each call_words more)) one
          ∙ sets_behind t (a + 2 * cells) (call_words call) (words_of_each call_words more) ∙ ap (λ (cs : List L.Call). sets t (a + 2 * cells) (words_of_each call_words cs)) (sym split)

      left_more : Left calls t' r.next.offset r.next.line r.stop (count + 1) (cells + r.value)
      unfolding all
      left_more =
          record {
            left = more;
            read = others;
            number = omega (arith, u.number, ap length split);
            ends = (got_one call read).nexts ∙ u.ends;
            size = omega (arith, u.size, length_left, length_call);
            words = λ routines names there l k.
                let w = u.words routines names there l k in
                let q = both_true (call_is_there routines names call) (all (call_is_there routines names) more) (rw split at w.0) in
                (q.1, rest_written (call_written routines names q.0 l k) ∙ w.1);
          }

    left_on : (calls : List L.Call) → Left calls t at line b count cells → Left calls t' r.next.offset r.next.line r.stop (count + 1) (cells + r.value)
    left_on calls u =
        let m = first_call s at b u.left e u.read in
        let n = each_more read_call (field_pieces s at) (fields_left r.stop (drop r.next.offset s)) u.left (ap (each read_call) (sym (got_one m.0 m.3).fields) ∙ u.read) in
        left_more calls u n.0 n.1 n.2 n.3 n.4

    pub forking_on : Forking t' r.next.offset r.next.line r.stop (count + 1) (cells + r.value)
    forking_on =
        record {
          within = ens.within;
          few = omega arith;
          small = omega (arith, v.small, ens.few);
          long = still_long;
          rest = λ calls i. left_on calls (v.rest calls i);
        }

  -- ── the whole fork ─────────────────────────────────────────────────────────────
  fork_was : (x : L.Line) → read_fork (fields_left b₀ (drop at₀ s)) ≡ some x
      → (calls : List L.Call) × (each read_call (fields_left b₀ (drop at₀ s)) ≡ some calls) × (x ≡ L.Line.instruction (L.Instruction.fork calls)) × (length calls ≤ 8)
  unfolding one_to
  fork_was x h = go (each read_call (fields_left b₀ (drop at₀ s))) refl h
    where
      checked : (cs : List L.Call) (u : Bool) → (leb 1 (length cs) && leb (length cs) 8) ≡ u → when u (L.Line.instruction (L.Instruction.fork cs)) ≡ some x
          → (x ≡ L.Line.instruction (L.Instruction.fork cs)) × (length cs ≤ 8)
      checked cs true i e = (cc, leb-true (length cs) 8 (both_true (leb 1 (length cs)) (leb (length cs) 8) i).1)
      checked cs false i e = absurd (let z : ◌≡◌ {A = ℕ} 0 1 = cc in omega arith)

      go : (o : Option (List L.Call)) → each read_call (fields_left b₀ (drop at₀ s)) ≡ o → bind o (λ calls. when (one_to most_children calls) (L.Line.instruction (L.Instruction.fork calls))) ≡ some x
          → (calls : List L.Call) × (each read_call (fields_left b₀ (drop at₀ s)) ≡ some calls) × (x ≡ L.Line.instruction (L.Instruction.fork calls)) × (length calls ≤ 8)
      go none i e = absurd (let z : ◌≡◌ {A = ℕ} 0 1 = cc in omega arith)
      go (some cs) i e = let k = checked cs (leb 1 (length cs) && leb (length cs) 8) refl e in (cs, i, k.0, k.1)

  -- there is no ninth child
  pub fork_room : Good (rest_at read_fork s begins b₀) → (t : List ℕ) (at line b count cells : ℕ) → Forking t at line b count cells → b ≡ 9 → count < 8
  fork_room g t at line b count cells v i = let f = fork_was g.line g.reads in room f.0 f.3 (v.rest f.0 f.1)
    where
      room : (calls : List L.Call) → length calls ≤ 8 → Left calls t at line b count cells → count < 8
      room calls k u = let m = first_call s at b u.left i u.read in omega (arith, u.number, ap length m.2)

  module _ (t : List ℕ) (at line b count cells : ℕ) (v : Forking t at line b count cells) (e : ℕ) where
    module _ (n : b ≡ 9 → ⊥) (after : List ℕ) (ee : after ≡ sets t e (6 ∷ (0 ∷ (a ∷ (count ∷ (0 ∷ [])))))) where
      pub fork_long : length after ≡ length t₀
      fork_long = ap length ee ∙ length-sets t e (6 ∷ (0 ∷ (a ∷ (count ∷ (0 ∷ []))))) ∙ v.long

      abbrev forked : WrittenLine
      forked = record { holds = HV.Instruction (2 * cells); next = record { offset = at; line = line } }

      fork_is : (x : L.Line) → read_fork (fields_left b₀ (drop at₀ s)) ≡ some x → IsWritten x (end_next s begins b₀) e a t₀ after forked
      unfolding is_there cell_words entry_words words_of_each
      fork_is x q =
          let f = fork_was x q in
          let calls = f.0 in
          let u = v.rest calls f.1 in
          let none_left : u.left ≡ [] = each_none read_call u.left (ap (each read_call) (sym (left_none b (drop at s) n)) ∙ u.read) in
          let size : 2 * cells ≡ length (words_of_each call_words calls) = omega (arith, u.size, ap (λ (cs : List L.Call). length (words_of_each call_words cs)) none_left) in
          let number : count ≡ length calls = omega (arith, u.number, ap length none_left) in
          record {
            i = L.Instruction.fork calls;
            is = f.2;
            next = sym (next_shut s (record { offset = at; line = line }) b n) ∙ u.ends;
            words = λ routines names size' there l m o.
                let w = u.words routines names there l m in
                let all-written : t ≡ sets t₀ a (words_of_each call_words calls) = sym (ap (λ (cs : List L.Call). sets t (a + 2 * cells) (words_of_each call_words cs)) none_left) ∙ w.1 in
                (ap HV.Instruction size, entry_is t₀ t after (words_of_each call_words calls) e a 6 _ _ _ _ _ _ ee all-written refl number refl);
          }

      pub fork_written : Good (rest_at read_fork s begins b₀) → WritesRest read_fork s begins b₀ e a t₀ after forked
      fork_written g = writes_of_lem (rest_at read_fork s begins b₀) (end_next s begins b₀) e a t₀ after forked g fork_is
