-- The child fields of a fork, one after another.
use Rattle.std.specs.Prelude.{None}
use mathlib.Core.Path.{◌≡◌, refl, sym, ap, ◌∙◌}
use mathlib.Core.Bool.{Bool, true, false, ◌&&◌}
use mathlib.Core.List.{List, [], ◌∷◌, ◌++◌, map}
use mathlib.Core.Option.{Option, none, some}
use Prim.Native.Nat.{ℕ, suc, ◌+◌, ◌≤◌, ◌<◌, min}
use native.Mathlib.Omega.{arith}
use lib.Dec.{eqb, ltb}
use lib.ListN.{length, get_or, drop, length-append}
use borrow.Author.Tests.{le-leb, lt-leb, eq-eqb, ne_eqb, ltb-true, eqb-false, eqb-true}
use mathlib.Core.List.{append_assoc}
use lib.ListN.{length-map, length-replicate, get_or-map}
use Rattle.listing.specs.Lists.{all, total}
use Rattle.listing.specs.Bytes.{read_figure}
use Rattle.listing.specs.Expressions.{bind, when, each}
use Rattle.listing.specs.Form.{Field, one_to, most_children, read_call, read_fork}
use Rattle.listing.specs.Limits.{call_pieces, instruction_pieces}
use Rattle.listing.specs.Questions.{argument_count, call_is_there, is_there, may_be_last}
use Rattle.listing.specs.Listing as L
use Rattle.text_place.specs.Texts.{fields_left, field_end, field_pieces, Within}
use Rattle.text_piece.specs.Pieces.{cap}
use Rattle.text_fields.specs.Gather.{figures_answer}
use Rattle.text_place.specs.declared.place.Place.{Place}
use Rattle.text_fields.specs.declared.gathering.Gathering.{Gathering}
use Rattle.text_fields.proofs.Gather.{capped_below}
use Rattle.text_place.proofs.Places.{left_open}
use Rattle.text_jumps.specs.Records.{stand_in, stand_ins, call_by, end_stop, end_next, as_record}
use Rattle.text_jumps.specs.declared.scope.Scope.{Scope}
use Rattle.text_jumps.specs.declared.record.Record.TheVariants as CV
use Rattle.text_jumps.proofs.Chain.{Got, Row, figures_unread, figures_length, left_none}

-- ── a child field ────────────────────────────────────────────────────────────────
as_call : Option (List ℕ) → Option L.Call
as_call none = none
as_call (some []) = none
as_call (some (n ∷ ns)) = some (record { callee = n; arguments = ns })

-- a child field is a row of figures
call_by_row : (ws : Field) → read_call ws ≡ as_call (each read_figure ws)
unfolding read_call each as_call
call_by_row [] = refl
call_by_row (w ∷ ws) = go (read_figure w) (each read_figure ws)
  where
    go : (o : Option ℕ) (p : Option (List ℕ)) → bind o (λ routine. bind p (λ names. some (record { callee = routine; arguments = names }))) ≡ as_call (bind o (λ y. bind p (λ ys. some (y ∷ ys))))
    go none p = refl
    go (some n) none = refl
    go (some n) (some ns) = refl

same_test : (a b c d : ℕ) → (a ≡ b → c ≡ d) → (c ≡ d → a ≡ b) → eqb a b ≡ eqb c d
same_test a b c d to from = go (eqb a b) refl
  where
    go : (t : Bool) → eqb a b ≡ t → t ≡ eqb c d
    go true e = sym (eq-eqb c d (to (eqb-true a b e)))
    go false e = sym (ne_eqb c d (λ i. eqb-false a b e (from i)))

module _ (counts : List ℕ) where
  pub stand_in_count : (n : ℕ) → argument_count (stand_ins counts) n ≡ get_or counts n 0
  unfolding argument_count stand_ins
  stand_in_count n = ap (λ (r : L.Routine). length r.kinds) (get_or-map stand_in counts n 0) ∙ length-replicate (get_or counts n 0) L.Kind.by_reference

  stand_in_length : length (stand_ins counts) ≡ length counts
  unfolding stand_ins
  stand_in_length = length-map counts stand_in

  pub call_there : length counts ≤ 64 → (names : ℕ) (g : Gathering) (n : ℕ) (ns : List ℕ) → Row names g n ns → call_is_there (stand_ins counts) names (record { callee = n; arguments = ns }) ≡ call_by counts g
  unfolding call_is_there
  call_there h names g n ns r =
      rw (stand_in_length, stand_in_count n, r.first, r.count, r.others, capped_below n (length counts) (omega arith)) (go (ltb n (length counts)) refl)
    where
      go : (t : Bool) → ltb n (length counts) ≡ t
          → (t && eqb (length ns) (get_or counts n 0) && all (λ m. ltb m names) ns) ≡ (t && eqb (suc (length ns)) (1 + get_or counts (min n cap) 0) && all (λ m. ltb m names) ns)
      go false e = refl
      go true e =
          let l : n < length counts = ltb-true n (length counts) e in
          let m : min n cap ≡ n = omega arith in
          rw (m, same_test (length ns) (get_or counts n 0) (suc (length ns)) (1 + get_or counts n 0) (λ i. omega arith) (λ i. omega arith))

-- ── the fields of a fork ─────────────────────────────────────────────────────────
-- calls read so far, and those still to come
unfoldable pub onto : List L.Call → Option (List L.Call) → Option (List L.Call)
onto calls more = bind more (λ cs. some (calls ++ cs))

abbrev pub pieces_in : List L.Call → ℕ
pieces_in calls = total (map call_pieces calls)

pieces_more : (calls : List L.Call) (call : L.Call) → pieces_in (calls ++ (call ∷ [])) ≡ pieces_in calls + call_pieces call
unfolding total
pieces_more [] call = let z : call_pieces call + 0 ≡ 0 + call_pieces call = omega arith in z
pieces_more (c ∷ calls) call = rw (pieces_more calls call) (let z : call_pieces c + (pieces_in calls + call_pieces call) ≡ call_pieces c + pieces_in calls + call_pieces call = omega arith in z)

all_more : {A : Type 0} (test : A → Bool) (xs : List A) (x : A) → all test (xs ++ (x ∷ [])) ≡ (all test xs && test x)
unfolding all
all_more test [] x = go (test x)
  where
    go : (t : Bool) → (t && true) ≡ (true && t)
    go true = refl
    go false = refl
all_more test (y ∷ xs) x = rw (all_more test xs x) (go (test y))
  where
    go : (t : Bool) → (t && (all test xs && test x)) ≡ ((t && all test xs) && test x)
    go true = refl
    go false = refl

onto_more : (calls : List L.Call) (call : L.Call) (o : Option (List L.Call)) → onto calls (bind o (λ cs. some (call ∷ cs))) ≡ onto (calls ++ (call ∷ [])) o
unfolding onto
onto_more calls call none = refl
onto_more calls call (some cs) = rw append_assoc

module _ (rs : List L.Routine) (names : ℕ) (s : List ℕ) (at₀ line₀ b₀ : ℕ) where
  abbrev whole_fork : Option (List L.Call)
  whole_fork = each read_call (fields_left b₀ (drop at₀ s))

  -- the loop over a fork's fields
  pub record Forking (at line b count sum : ℕ) (there : Bool) : Type 0 where
    pub calls : List L.Call
    pub within : Within s at line
    pub few : count ≤ 8
    pub small : sum ≤ at + 1
    pub smaller : b ≡ 9 → sum ≤ at
    pub whole : onto calls (each read_call (fields_left b (drop at s))) ≡ whole_fork
    pub number : length calls ≡ count
    pub sums : pieces_in calls ≡ sum
    pub known : all (call_is_there rs names) calls ≡ there
    pub stops : end_stop s (record { offset = at; line = line }) b ≡ end_stop s (record { offset = at₀; line = line₀ }) b₀
    pub nexts : end_next s (record { offset = at; line = line }) b ≡ end_next s (record { offset = at₀; line = line₀ }) b₀

  pub forking_begun : Within s at₀ line₀ → Forking at₀ line₀ b₀ 0 0 true
  unfolding onto total all
  forking_begun w =
      record { calls = []; within = w; few = omega arith; small = omega arith; smaller = λ e. omega arith; whole = same whole_fork; number = refl; sums = refl; known = refl; stops = refl; nexts = refl }
    where
      same : (o : Option (List L.Call)) → bind o (λ cs. some ([] ++ cs)) ≡ o
      same none = refl
      same (some cs) = refl

  module _ (at line b count sum : ℕ) (there : Bool) (f : Forking at line b count sum there) where
    module _ (g : Gathering) (b' : ℕ) (c' : Place) (n : ℕ) (ns : List ℕ) (got : Got (each read_figure) s (record { offset = at; line = line }) b (n ∷ ns) b' c') (row : Row names g n ns) where
      abbrev the_call : L.Call
      the_call = record { callee = n; arguments = ns }

      call_is : read_call (field_pieces s at) ≡ some the_call
      unfolding as_call
      call_is = call_by_row (field_pieces s at) ∙ ap as_call got.read

      pieces_are : suc (length ns) ≡ length (field_pieces s at)
      pieces_are = figures_length s (record { offset = at; line = line }) b b' c' (n ∷ ns) got

      pub fork_sum : sum + g.count ≤ length s + 1
      fork_sum = omega (arith, row.count, pieces_are, got.moves, f.smaller got.opens, got.within.inside)

      pub fork_on : (call : Bool) → call_is_there rs names the_call ≡ call → (now : Bool) → now ≡ (there && call) → count < 8 → Forking c'.offset c'.line b' (count + 1) (sum + g.count) now
      unfolding each
      fork_on call i now e h =
          record {
            calls = f.calls ++ (the_call ∷ []);
            within = got.within;
            few = omega arith;
            small = omega (arith, row.count, pieces_are, got.moves, f.smaller got.opens);
            smaller = λ (z : b' ≡ 9). omega (arith, row.count, pieces_are, got.moved z, f.smaller got.opens);
            whole = sym (sym f.whole ∙ ap (onto f.calls) (ap (each read_call) got.fields ∙ ap (λ (o : Option L.Call). bind o (λ y. bind (each read_call (fields_left b' (drop c'.offset s))) (λ ys. some (y ∷ ys)))) call_is)
                ∙ onto_more f.calls the_call (each read_call (fields_left b' (drop c'.offset s))));
            number = length-append f.calls (the_call ∷ []) ∙ rw f.number;
            sums = pieces_more f.calls the_call ∙ (let z : pieces_in f.calls + call_pieces the_call ≡ sum + g.count = omega (arith, f.sums, row.count) in z);
            known = all_more (call_is_there rs names) f.calls the_call ∙ rw (f.known, i, e);
            stops = got.stops ∙ f.stops;
            nexts = got.nexts ∙ f.nexts;
          }

    abbrev the_fork : Option L.Line
    the_fork = read_fork (fields_left b₀ (drop at₀ s))

    forked : Option (List L.Call) → Option L.Line
    forked o = bind o (λ calls. when (one_to most_children calls) (L.Line.instruction (L.Instruction.fork calls)))

    fork_is : the_fork ≡ forked (onto f.calls (each read_call (fields_left b (drop at s))))
    unfolding forked
    fork_is = rw f.whole

    -- a ninth child
    pub fork_over : b ≡ 9 → 8 ≤ count → the_fork ≡ none
    unfolding forked onto each one_to
    fork_over e h = fork_is ∙ rw (e, left_open s at) (go (read_call (field_pieces s at)) (each read_call (fields_left (get_or s (field_end s at) 0) (drop (field_end s at + 1) s))))
      where
        go : (o : Option L.Call) (p : Option (List L.Call)) → forked (onto f.calls (bind o (λ y. bind p (λ ys. some (y ∷ ys))))) ≡ none
        go none p = refl
        go (some c) none = refl
        go (some c) (some cs) =
            let l : length (f.calls ++ (c ∷ cs)) ≡ length f.calls + suc (length cs) = length-append f.calls (c ∷ cs) in
            rw (le-leb 1 (length (f.calls ++ (c ∷ cs))) (omega (arith, l)), lt-leb (length (f.calls ++ (c ∷ cs))) 8 (omega (arith, l, f.number)))

    -- a field that is no child
    pub fork_unread : names ≤ cap → b ≡ 9 → None ≡ figures_answer names s (record { offset = at; line = line }) b → the_fork ≡ none
    unfolding forked onto each as_call
    fork_unread h e r =
        let c : read_call (field_pieces s at) ≡ none = call_by_row (field_pieces s at) ∙ ap as_call (figures_unread s (record { offset = at; line = line }) b names h e r) in
        fork_is ∙ rw (e, left_open s at, c)

    module _ (n : b ≡ 9 → ⊥) where
      all_read : the_fork ≡ forked (some f.calls)
      unfolding onto each
      all_read = fork_is ∙ ap forked (ap (λ (fs : List Field). onto f.calls (each read_call fs)) (left_none b (drop at s) n) ∙ ap (λ (cs : List L.Call). some cs) (append_none f.calls))
        where
          append_none : (cs : List L.Call) → cs ++ [] ≡ cs
          append_none [] = refl
          append_none (c ∷ cs) = rw (append_none cs)

      pub fork_empty : count ≡ 0 → the_fork ≡ none
      unfolding forked one_to
      fork_empty z = all_read ∙ rw (lt-leb 1 (length f.calls) (omega (arith, f.number)))

      pub fork_done : (count ≡ 0 → ⊥) → the_fork ≡ some (L.Line.instruction (L.Instruction.fork f.calls))
      unfolding forked one_to
      fork_done z = all_read ∙ rw (le-leb 1 (length f.calls) (omega (arith, f.number)), le-leb (length f.calls) 8 (omega (arith, f.number, f.few)))

    pub fork_record : (scope : Scope) → scope.names ≡ names → CV.Instruction sum there false ≡ as_record rs scope (L.Line.instruction (L.Instruction.fork f.calls))
    unfolding instruction_pieces is_there may_be_last
    fork_record scope e = rw (e, f.sums, f.known)
