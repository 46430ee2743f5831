-- Header cleared, order built, places set, working words cleared, moment and count stored: the end of an instant.
-- Letters: a the words before, b, c, d, e those after each step.
use mathlib.Core.Path.{◌≡◌, refl, sym, ap, subst, ◌∙◌}
use mathlib.Core.List.{List, []}
use Prim.Native.Nat.{ℕ, zero, suc, ◌+◌, ◌/◌, ◌%◌, ◌≤◌, ◌<◌}
use native.Mathlib.Decide.{dec_lt}
use native.Mathlib.Omega.{arith}
use lib.ListN.{length, get_or, drop, set, length-set, length-drop, get_or-eq_default}
use lib.Seq.{get_or-take, get_or-drop, get_or-set_same, get_or-set_other, drop-set-lt, ext_get_or}
use Rattle.engine_rows.specs.Rows.{Rows}
use Rattle.engine_rows.specs.Order.{order_below_lem, walking_order}
use Rattle.machine.specs.Layout.{header_words}
use Rattle.engine_blocks.specs.Blocks.{Block, block, rows_of}
use Rattle.engine_blocks.specs.Changes.{put_in}
use Rattle.engine_finish.specs.Ended.{idle_block, resting_block, WorkingCleared, stored, Ended}
use Rattle.engine_order.specs.Listed.{listed_in_lem, SlotsBelow, OrderBuilt}
use Rattle.engine_order.specs.Placed.{PlacesSet, HeaderCleared}
use Rattle.engine_order.proofs.Ordering.{listed_length, listed_word}
use Rattle.engine_order.proofs.OrderTurns.{same_block, same_rows, built_below}

drop_same : (n : ℕ) (l k : List ℕ) → length l ≡ length k → ((j : ℕ) → n ≤ j → get_or l j 0 ≡ get_or k j 0) → drop n l ≡ drop n k
drop_same n l k e h =
    ext_get_or 0 (drop n l) (drop n k) (omega (arith, length-drop n l, length-drop n k, e))
    (λ j g. get_or-drop n l j 0 ∙ (h (n + j) (omega arith) ∙ sym (get_or-drop n k j 0)))

nil_word : (j : ℕ) → get_or {A = ℕ} [] j 0 ≡ 0
nil_word zero = refl
nil_word (suc j) = refl

module _ (w : List ℕ) (x y z : ℕ) (long : 12288 ≤ length w) where
  stored_other : (j : ℕ) → (j ≡ 1 → ⊥) → (j ≡ 2 → ⊥) → (j ≡ 3 → ⊥) → get_or (stored w x y z) j 0 ≡ get_or w j 0
  unfolding stored
  stored_other j p q r = get_or-set_other (set (set w 1 x) 2 y) 3 j z 0 r ∙ (get_or-set_other (set w 1 x) 2 j y 0 q ∙ get_or-set_other w 1 j x 0 p)

  stored_1 : get_or (stored w x y z) 1 0 ≡ x
  unfolding stored
  stored_1 = get_or-set_other (set (set w 1 x) 2 y) 3 1 z 0 (λ e. omega arith) ∙ (get_or-set_other (set w 1 x) 2 1 y 0 (λ e. omega arith) ∙ get_or-set_same w 1 x 0 (omega arith))

  stored_2 : get_or (stored w x y z) 2 0 ≡ y
  unfolding stored
  stored_2 = get_or-set_other (set (set w 1 x) 2 y) 3 2 z 0 (λ e. omega arith) ∙ get_or-set_same (set w 1 x) 2 y 0 (omega (arith, length-set w 1 x))

  stored_3 : get_or (stored w x y z) 3 0 ≡ z
  unfolding stored
  stored_3 = get_or-set_same (set (set w 1 x) 2 y) 3 z 0 (omega (arith, length-set (set w 1 x) 2 y, length-set w 1 x))

  stored_length : length (stored w x y z) ≡ length w
  unfolding stored
  stored_length = length-set (set (set w 1 x) 2 y) 3 z ∙ (length-set (set w 1 x) 2 y ∙ length-set w 1 x)

  stored_past : drop 12288 (stored w x y z) ≡ drop 12288 w
  unfolding stored
  stored_past =
      drop-set-lt 12288 (set (set w 1 x) 2 y) 3 z (omega arith) ∙ (drop-set-lt 12288 (set w 1 x) 2 y (omega arith) ∙ drop-set-lt 12288 w 1 x (omega arith))

module _ (t count : ℕ) {a b c d e : List ℕ} (long : 12288 ≤ length a) (cleared : HeaderCleared 328 a b) (built : OrderBuilt 64 count b c)
    (places : PlacesSet count c d) (working : WorkingCleared d e) where
  abbrev order : List ℕ
  order = walking_order (rows_of a)

  abbrev last : List ℕ
  last = stored e (t % 4294967296) (t / 4294967296) count

  size_e : length e ≡ length a
  size_e = working.size ∙ (places.size ∙ (built.size ∙ cleared.size))

  long_e : 12288 ≤ length e
  long_e = omega (arith, size_e)

  listed_is_lem : listed_in_lem c count ≡ order
  unfolding walking_order
  listed_is_lem = built.listed ∙ ap (λ (rows : Rows). order_below_lem rows 64) (same_rows a b (λ k h. cleared.later k h))

  count_is : length order ≡ count
  count_is = ap length (sym listed_is_lem) ∙ listed_length c count (omega (arith, built.size, cleared.size, built.few))

  low_word : (j : ℕ) → j < 328 → get_or e j 0 ≡ get_or c j 0
  low_word j h = sym (get_or-take 328 e j 0 h) ∙ (ap (λ (l : List ℕ). get_or l j 0) working.header ∙ (get_or-take 328 d j 0 h ∙ places.header j h))

  first_zero : (j : ℕ) → j < 64 → get_or e j 0 ≡ 0
  first_zero j h = low_word j (omega arith) ∙ (built.first j h ∙ cleared.zero j (omega arith))

  slot_word : (k : ℕ) → k < count → get_or c (64 + k) 0 ≡ get_or order k 0
  slot_word k h = sym (listed_word c count k h) ∙ ap (λ (l : List ℕ). get_or l k 0) listed_is_lem

  slot_below : (k : ℕ) → k < count → get_or order k 0 < 64
  slot_below k h = (subst (λ (l : List ℕ). SlotsBelow l) listed_is_lem (built_below (omega arith) built)).below k (omega (arith, count_is))

  block_last : (s : ℕ) → block last s ≡ block e s
  block_last s = same_block e last (λ k h. stored_other e _ _ count long_e k (λ q. omega arith) (λ q. omega arith) (λ q. omega arith)) s

  block_c : (s : ℕ) → block c s ≡ block a s
  block_c s = same_block b c (λ k h. built.later k (omega (arith, built.few))) s ∙ same_block a b (λ k h. cleared.later k h) s

  header_words_lem : (j : ℕ) → j < 64 → get_or last j 0 ≡ get_or (header_words t (length order)) j 0
  unfolding header_words
  header_words_lem zero h = stored_other e _ _ count long_e 0 (λ q. omega arith) (λ q. omega arith) (λ q. omega arith) ∙ first_zero 0 h
  header_words_lem (suc zero) h = stored_1 e _ _ count long_e
  header_words_lem (suc (suc zero)) h = stored_2 e _ _ count long_e
  header_words_lem (suc (suc (suc zero))) h = stored_3 e _ _ count long_e ∙ sym count_is
  header_words_lem (suc (suc (suc (suc j)))) h =
      stored_other e _ _ count long_e (suc (suc (suc (suc j)))) (λ q. omega arith) (λ q. omega arith) (λ q. omega arith) ∙ (first_zero (suc (suc (suc (suc j)))) h ∙ sym (nil_word j))

  order_words : (j : ℕ) → j < 264 → get_or last (64 + j) 0 ≡ get_or order j 0
  order_words j h =
      stored_other e _ _ count long_e (64 + j) (λ q. omega arith) (λ q. omega arith) (λ q. omega arith) ∙ (low_word (64 + j) (omega arith) ∙ go (dec_lt j count))
    where
      go : Dec (j < count) → get_or c (64 + j) 0 ≡ get_or order j 0
      go (yes g) = slot_word j g
      go (no g) =
          built.later (64 + j) (omega (arith, g)) ∙ (cleared.zero (64 + j) (omega arith) ∙ sym (get_or-eq_default order 0 (omega (arith, g, count_is))))

  used_block : (k : ℕ) → k < length order → block last (get_or order k 0) ≡ resting_block (suc k) (block a (get_or order k 0))
  unfolding resting_block
  used_block k h =
      let g : k < count = omega (arith, count_is, h) in
      let q : ℕ = get_or order k 0 in
      block_last q ∙ (working.made q (omega (arith, slot_below k g))
      ∙ ap idle_block (subst (λ (s : ℕ). block d s ≡ put_in (block c s) 0 (suc k)) (slot_word k g) (places.placed k g) ∙ ap (λ (z : Block). put_in z 0 (suc k)) (block_c q)))

  other_blocks : (s : ℕ) → s ≤ 64 → ((k : ℕ) → k < count → get_or order k 0 ≡ s → ⊥) → block last s ≡ idle_block (block a s)
  other_blocks s h none =
      block_last s ∙ (working.made s h ∙ ap idle_block (places.others s h (λ k g q. none k g (sym (slot_word k g) ∙ q)) ∙ block_c s))

  pub instant_ended : Ended t order a last
  instant_ended =
      record {
        size = stored_length e _ _ count long_e ∙ size_e;
        past = stored_past e _ _ count long_e ∙ (working.past ∙ drop_same 12288 d a (omega (arith, size_e, working.size)) (λ j h. places.past j h ∙ (built.later j (omega (arith, built.few)) ∙ cleared.later j (omega arith))));
        header = header_words_lem;
        listed = order_words;
        used = used_block;
        free = λ s h none. other_blocks s (omega arith) (λ k g q. none k (omega (arith, count_is, g)) q);
        outer = other_blocks 64 (omega arith) (λ k g q. omega (arith, slot_below k g, q));
      }
