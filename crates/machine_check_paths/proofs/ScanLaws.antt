-- One record of the scan: the frame of its level, the child field that made it, and what comes after it.
use mathlib.Core.Path.{◌≡◌, refl, sym, ap, ◌∙◌}
use mathlib.Core.Bool.{Bool, true, false}
use mathlib.Core.List.{List, [], ◌∷◌}
use Prim.Native.Nat.{ℕ, zero, suc, ◌+◌, ◌-◌, ◌<◌, ◌≤◌}
use lib.ListN.{length, get_or, drop, length-drop, drop_of_length-le}
use lib.Seq.{drop-cons, get_or-drop}
use Rattle.std.proofs.Common.{Option, None}
use borrow.Author.Tests.{eq-eqb, ne_eqb, eqb-true, ltb-true, le-leb, lt-leb}
use native.Mathlib.Omega.{arith}
use native.Mathlib.Numerals.{add-one}
use Rattle.listing.specs.Listing.{Call}
use Rattle.walk.specs.Walk.{instruction_at}
use Rattle.walk.specs.Question7.{owned_by}
use Rattle.table.specs.Decode.{head_after, word, after_call, call_at, calls_at, table_listing}
use Rattle.machine.specs.Records.{Frame, level_fits, asleep_at, made_by_first, child_of_frame, scan, no_call_lem}
use Rattle.machine.specs.Words.{block_at, moment_at, slot_of, record_in, records_in}
use Rattle.machine.proofs.PassingWordsHold.{length-variables_in}
use Rattle.table_child_fields.specs.Tables.{HeadsFit, Seen, at_wait, at_fork, at_other}
use Rattle.table_child_fields.specs.Picking.{maker_of}
use Rattle.table_child_fields.specs.declared.pick.Maker.{Maker}
use Rattle.machine_check_paths.specs.Scan.{whole, fields_at, record_of, scan_after, Ready, Heads, Stack, bottom, above, Going, Caller, Made, maker_for}
use Rattle.machine_check_paths.specs.declared.path.Path.{Path}
use Rattle.table_child_fields.proofs.TableLaws.{head_after_add}
use Rattle.table_child_fields.proofs.PickLaws.{none_is_no, Missing, too_low, too_high, Chosen, Picked}
use Rattle.table.proofs.Reach.{calls_count}

-- ── heads ─────────────────────────────────────────────────────────────────────────────────────────
-- the heads after the first s of them
pub heads_after : (w : List ℕ) (cs : List Call) (a n s : ℕ) → Heads w cs a n → s ≤ n → Heads w (drop s cs) (head_after w a s) (n - s)
heads_after w cs a n s H h = record {
  size = simp length-drop (omega (arith, H.size));
  callee = λ j l. rw (get_or-drop s cs j no_call_lem, head_after_add w a s j) (H.callee (s + j) (omega arith));
  fit = record {
    inside = λ j l. rw (head_after_add w a s j) (H.fit.inside (s + j) (omega arith));
    there = λ j l. rw (head_after_add w a s j) (H.fit.there (s + j) (omega arith));
  };
}

-- the child fields of an `F`
calls_by_head : (w : List ℕ) (a n j : ℕ) → j < n → (get_or (calls_at w a n) j no_call_lem).callee ≡ word w (head_after w a j + 1)
unfolding calls_at call_at head_after
calls_by_head w a zero j h = absurd (let z : ⊥ = omega arith in z)
calls_by_head w a (suc n) zero h = refl
calls_by_head w a (suc n) (suc j) h = calls_by_head w (after_call w a) n j (omega arith)

pub fork_heads : (w : List ℕ) (a n : ℕ) → HeadsFit w a n → Heads w (calls_at w a n) a n
fork_heads w a n f = record { size = calls_count w n a; callee = calls_by_head w a n; fit = f }

-- ── frames ────────────────────────────────────────────────────────────────────────────────────────
-- two paths agree at a level
abbrev pub Agree : Path → Path → ℕ → Type 0
Agree q p i = fields_at q i ≡ fields_at p i

-- only what stands below the number of frames matters
pub keep : (w : List ℕ) (p q : Path) (n : ℕ) → ((i : ℕ) → i < n → Agree q p i) →
    (frames : List Frame) → length frames ≤ n → Stack w p frames → Stack w q frames
keep w p q n f [] l bottom = bottom
keep w p q n f (x ∷ outer) l (above h e s) =
    let a = f (length outer) (omega arith) in
    above {f = x} {outer = outer} (rw a h) (e ∙ sym (ap (λ u. u.next) a)) (keep w p q n f outer (omega arith) s)

shed : (w : List ℕ) (p : Path) (k : ℕ) (frames : List Frame) → Stack w p frames → Stack w p (drop k frames)
shed w p zero frames s = s
shed w p (suc k) [] s = s
shed w p (suc k) (x ∷ outer) (above h e s) = shed w p k outer s

-- the frame of a level
pub record Level (w : List ℕ) (p : Path) (frames : List Frame) (level : ℕ) : Type 0 where
  pub calls : List Call
  pub outer : List Frame
  pub is : drop (length frames - suc level) frames ≡ record { next = (fields_at p level).next; calls = calls } ∷ outer
  pub size : length outer ≡ level
  pub heads : Heads w calls (fields_at p level).head (fields_at p level).left
  pub rest : Stack w p outer

level_of : (w : List ℕ) (p : Path) (frames st : List Frame) (level : ℕ) → drop (length frames - suc level) frames ≡ st → length st ≡ suc level → Stack w p st → Level w p frames level
level_of w p frames [] level e n s = absurd (let z : ⊥ = omega arith in z)
level_of w p frames (x ∷ outer) level e n (above h q s) =
    let z : length outer ≡ level = omega arith in
    record { calls = x.calls; outer = outer; is = e ∙ ap (λ k. record { next = k; calls = x.calls } ∷ outer) (q ∙ ap (λ k. (fields_at p k).next) z); size = z; heads = rw z at h; rest = s }

pub level_frame : (w : List ℕ) (p : Path) (frames : List Frame) (level : ℕ) → level < length frames → Stack w p frames → Level w p frames level
level_frame w p frames level h s = level_of w p frames _ level refl (simp length-drop (omega arith)) (shed w p (length frames - suc level) frames s)

pub level_below : (forked : Bool) (level depth : ℕ) → level_fits forked level depth ≡ true → level < depth
unfolding level_fits
level_below true level depth e = let p : suc level ≡ depth = eqb-true _ _ e in omega arith
level_below false level depth e = ltb-true _ _ e

-- ── a record ──────────────────────────────────────────────────────────────────────────────────────
module _ (w m : List ℕ) (k : ℕ) (p : Path) (within : k < get_or m 3 0) (G : Going w m k p) where
  next_record : records_in m k (get_or m 3 0 - k) ≡ record_of m k ∷ records_in m (k + 1) (get_or m 3 0 - (k + 1))
  unfolding records_in
  next_record =
      let q : get_or m 3 0 - k ≡ suc (get_or m 3 0 - (k + 1)) = omega arith in
      rw (q, ← add-one k)

  pub level_unfit : level_fits p.forked (record_of m k).level p.depth ≡ false → whole w m ≡ false
  unfolding scan
  level_unfit e = sym G.law ∙ rw (next_record, ← G.depth, e)

  module _ (fits : level_fits p.forked (record_of m k).level p.depth ≡ true) where
    frame : Level w p G.frames (record_of m k).level
    frame = level_frame w p G.frames (record_of m k).level (rw (← G.depth) (level_below p.forked (record_of m k).level p.depth fits)) G.stack

    fits_frames : level_fits p.forked (record_of m k).level (length G.frames) ≡ true
    fits_frames = rw G.depth at fits

    in_frame : child_of_frame (table_listing w) (moment_at m 1) (record_of m k) (scan_after w m k)
        (record { next = (fields_at p (record_of m k).level).next; calls = frame.calls } ∷ frame.outer) ≡ whole w m
    unfolding scan
    in_frame =
        let old : child_of_frame (table_listing w) (moment_at m 1) (record_of m k) (scan_after w m k) (drop (length G.frames - suc (record_of m k).level) G.frames) ≡ whole w m =
        rw (next_record, fits_frames) at G.law in
        rw frame.is at old

    missing_child : (next left child : ℕ) → next ≡ (fields_at p (record_of m k).level).next → left ≡ (fields_at p (record_of m k).level).left → child ≡ (record_of m k).child →
        Missing next left child → whole w m ≡ false
    unfolding child_of_frame made_by_first
    missing_child next left child a b c (too_low h) =
        sym in_frame ∙ rw (lt-leb (fields_at p (record_of m k).level).next (record_of m k).child (rw (← a, ← c) h))
    missing_child next left child a b c (too_high h l) =
        let low : (fields_at p (record_of m k).level).next ≤ (record_of m k).child = rw (← a, ← c) h in
        let none : drop ((record_of m k).child - (fields_at p (record_of m k).level).next) frame.calls ≡ [] =
        drop_of_length-le frame.calls {i = (record_of m k).child - (fields_at p (record_of m k).level).next} (rw (frame.heads.size, ← b, ← a, ← c) l) in
        sym in_frame ∙ rw (le-leb _ _ low, none)

    chosen_child : (next left child routine head rest : ℕ) → next ≡ (fields_at p (record_of m k).level).next → left ≡ (fields_at p (record_of m k).level).left → child ≡ (record_of m k).child →
        Chosen w (fields_at p (record_of m k).level).head left next child routine head rest → Caller w m k p routine head rest
    unfolding child_of_frame
    chosen_child next left child routine head rest a b c C =
        let n0 = (fields_at p (record_of m k).level).next in
        let h0 = (fields_at p (record_of m k).level).head in
        let l0 = (fields_at p (record_of m k).level).left in
        let s = (record_of m k).child - n0 in
        let low : n0 ≤ (record_of m k).child = rw (← a, ← c) C.low in
        let high : s < l0 = rw (← a, ← b, ← c) C.high in
        let H = frame.heads in
        let fits' : s < length frame.calls = rw H.size high in
        let split : drop s frame.calls ≡ get_or frame.calls s no_call_lem ∷ drop (suc s) frame.calls = drop-cons frame.calls s no_call_lem fits' in
        let e : routine ≡ word w (head_after w h0 s + 1) = rw (a, c) at C.callee in
        record {
          call = get_or frame.calls s no_call_lem;
          later = drop (suc s) frame.calls;
          outer = frame.outer;
          callee = e ∙ sym (H.callee s high);
          there = rw e (H.fit.there s high);
          deep = frame.size;
          shallow = omega (arith, G.room, level_below p.forked (record_of m k).level p.depth fits);
          heads = after_chosen s high (rw (a, c) at C.after) (rw (a, b, c) at C.fewer);
          stack = frame.rest;
          law = rw (le-leb n0 (record_of m k).child low, split) at in_frame;
        }
      where
        after_chosen : (s : ℕ) → s < (fields_at p (record_of m k).level).left → head ≡ head_after w (fields_at p (record_of m k).level).head (s + 1) →
            rest ≡ (fields_at p (record_of m k).level).left - s - 1 → Heads w (drop (suc s) frame.calls) head rest
        after_chosen s h f g =
            let q : (fields_at p (record_of m k).level).left - s - 1 ≡ (fields_at p (record_of m k).level).left - suc s = omega arith in
            rw (f, g, add-one s, q) (heads_after w frame.calls (fields_at p (record_of m k).level).head (fields_at p (record_of m k).level).left (suc s) frame.heads h)

    -- the look for the child field answers for the record
    pub picked_made : (next left first child : ℕ) (r : Option Maker) → next ≡ (fields_at p (record_of m k).level).next →
        left ≡ (fields_at p (record_of m k).level).left → first ≡ (fields_at p (record_of m k).level).head → child ≡ (record_of m k).child →
        Picked w first left next child r → Made w m k p r
    picked_made next left first child r a b f c P = record {
      no_maker_lem = λ e. missing_child next left child a b c (P.no_maker_lem e);
      a_maker = λ made e. chosen_child next left child _ _ _ a b c (rw f at (P.a_maker made e));
    }

-- ── what comes after a record ─────────────────────────────────────────────────────────────────────
module _ (w m : List ℕ) (k : ℕ) (p : Path) (routine head left : ℕ) (within : k < get_or m 3 0) (R : Ready w m) (G : Going w m k p) (C : Caller w m k p routine head left) where
  pub wrong_size : (length (record_of m k).own ≡ owned_by (table_listing w) routine → ⊥) → whole w m ≡ false
  unfolding made_by_first
  wrong_size h = sym C.law ∙ rw (← C.callee, ne_eqb _ _ h)

  module _ (size : length (record_of m k).own ≡ owned_by (table_listing w) routine) where
    pub asleep_law : asleep_at (table_listing w) (moment_at m 1) (instruction_at (table_listing w) routine (record_of m k).place) (record_of m k).level (scan_after w m k)
        (record { next = suc (record_of m k).child; calls = C.later } ∷ C.outer) ≡ whole w m
    unfolding made_by_first
    asleep_law = rw (← C.callee, eq-eqb _ _ size, R.rests k within) at C.law

    pub no_sleep : (kind cells count : ℕ) → (kind ≡ 5 → ⊥) → (kind ≡ 6 → ⊥) → Seen w routine (record_of m k).place kind cells count → whole w m ≡ false
    no_sleep kind cells count f g (at_wait e i) = absurd (f e)
    no_sleep kind cells count f g (at_fork e i h) = absurd (g e)
    no_sleep kind cells count f g (at_other a b h) = sym asleep_law ∙ h (moment_at m 1) (record_of m k).level (scan_after w m k) _

    pub too_deep : (kind cells count : ℕ) → kind ≡ 6 → 9 < (record_of m k).level → Seen w routine (record_of m k).place kind cells count → whole w m ≡ false
    unfolding asleep_at
    too_deep kind cells count g l (at_wait e i) = absurd (let z : ⊥ = omega arith in z)
    too_deep kind cells count g l (at_fork e i h) = sym asleep_law ∙ rw (i, lt-leb _ _ l)
    too_deep kind cells count g l (at_other a b h) = absurd (b g)

-- the words of a record
pub level_word : (m : List ℕ) (k : ℕ) → (record_of m k).level ≡ get_or m (block_at (slot_of m k) + 1) 0
unfolding record_in
level_word m k = refl

pub child_word : (m : List ℕ) (k : ℕ) → (record_of m k).child ≡ get_or m (block_at (slot_of m k) + 2) 0
unfolding record_in
child_word m k = refl

pub place_word : (m : List ℕ) (k : ℕ) → (record_of m k).place ≡ get_or m (block_at (slot_of m k) + 3) 0
unfolding record_in
place_word m k = refl

pub level_from : (m : List ℕ) (k at level : ℕ) → at ≡ block_at (slot_of m k) → level ≡ get_or m (at + 1) 0 → level ≡ (record_of m k).level
level_from m k at level a e = e ∙ ap (λ u. get_or m (u + 1) 0) a ∙ sym (level_word m k)

pub child_from : (m : List ℕ) (k at child : ℕ) → at ≡ block_at (slot_of m k) → child ≡ get_or m (at + 2) 0 → child ≡ (record_of m k).child
child_from m k at child a e = e ∙ ap (λ u. get_or m (u + 2) 0) a ∙ sym (child_word m k)

pub place_from_lem : (m : List ℕ) (k at place : ℕ) → at ≡ block_at (slot_of m k) → place ≡ get_or m (at + 3) 0 → place ≡ (record_of m k).place
place_from_lem m k at place a e = e ∙ ap (λ u. get_or m (u + 3) 0) a ∙ sym (place_word m k)

-- ── answers ───────────────────────────────────────────────────────────────────────────────────────
pub no_maker_made : (w m : List ℕ) (k : ℕ) (p : Path) (r : Option Maker) → r ≡ None → whole w m ≡ false → Made w m k p r
no_maker_made w m k p r e h = record { no_maker_lem = λ z. h; a_maker = λ made z. none_is_no (sym e ∙ z) }

pub maker_unfit : (w m : List ℕ) (k : ℕ) (p : Path) → level_fits p.forked (record_of m k).level p.depth ≡ false → None ≡ maker_for w m k p
unfolding maker_for
maker_unfit w m k p e = rw e

pub maker_fit : (w m : List ℕ) (k : ℕ) (p : Path) (level child : ℕ) → level ≡ (record_of m k).level → child ≡ (record_of m k).child → level_fits p.forked level p.depth ≡ true →
    maker_of w (fields_at p level).head (fields_at p level).left (fields_at p level).next child ≡ maker_for w m k p
unfolding maker_for
maker_fit w m k p level child a b e = rw (← a, ← b, e)

pub frame_fits : (w m : List ℕ) (k : ℕ) (p : Path) (level : ℕ) → Going w m k p → level < p.depth → HeadsFit w (fields_at p level).head (fields_at p level).left
frame_fits w m k p level G h = (level_frame w p G.frames level (rw (← G.depth) h) G.stack).heads.fit

pub size_from : (m : List ℕ) (k at n : ℕ) → at ≡ block_at (slot_of m k) → n ≡ get_or m (at + 4) 0 → n ≡ length (record_of m k).own
unfolding record_in
size_from m k at n a e =
    e ∙ ap (λ u. get_or m (u + 4) 0) a ∙ sym (length-variables_in m (block_at (slot_of m k) + 8) (get_or m (block_at (slot_of m k) + 4) 0))
