-- A book that has taken in some writes holds the page of their openings; one write more keeps it so. Letters: b the book, e the writes so far, the latest
-- first, xs their openings, w the next write, o an output.
use mathlib.Core.Path.{◌≡◌, refl, sym, ap, ap₂, ◌∙◌}
use mathlib.Core.Bool.{Bool, true, false, cond, ◌&&◌}
use mathlib.Core.List.{List, [], ◌∷◌, ◌++◌, map, append-nil, append_assoc}
use Prim.Native.Nat.{ℕ, ◌+◌, ◌-◌, ◌*◌, ◌<◌}
use native.Mathlib.Omega.{arith}
use lib.Dec.{eqb}
use lib.ListN.{length, get_or, set, length-append, length-set, length-map}
use lib.Seq.{sets, get_or-set_same, get_or-set_other}
use borrow.Author.Tests.{eq-eqb, ne_eqb, eqb-true, eqb-false}
use Rattle.listing.specs.Bytes.{Bytes, figure}
use Rattle.openings.specs.Writes.{Write}
use Rattle.openings.specs.Openings.{is_zero, latest_of, closed_after, opens, closing, Opening, with_opening}
use Rattle.openings.proofs.All.{All, each, both_parts, second_part}
use Rattle.openings.proofs.All as all
use Rattle.openings.proofs.OneMore.{after, new_opening}
use Rattle.page_rows.specs.Rows.{right_aligned, row, Fits, blank_row, joined}
use Rattle.page_rows.proofs.RowBytes.{aligned_length, blank_length}
use Rattle.page_rows.proofs.Columns.{few_digits}
use Rattle.page_book.specs.Book.{Book, line_of, on_page, row_closed, row_opened, valve_closed, valve_opened, entered}
use Rattle.page_book.proofs.Entering.{none_closed, entered_zero, entered_open, entered_shut}
use Rattle.page_book.proofs.OpenValves.{NoneOpen, open_one, closed_one, none_changes, still_open, after_open, after_other, none_opens, all_fit, new_fits}
use Rattle.page_book.proofs.RowList.{row_long, row_closes, sets_whole, number_here, number_past, differ_at, differ_end, shown, stored_at}

-- valve o in the book: closed, or open since the moment noted, with the line of its row
pub data Valve (first o : ℕ) (e : List Write) (xs : List Opening) (line opened : ℕ) : Type 0 where
  shut : closed_after (latest_of o e) ≡ true → NoneOpen o xs → line ≡ 0 → Valve first o e xs line opened
  lasts : closed_after (latest_of o e) ≡ false → (before behind : List Opening) → xs ≡ before ++ (open_one o opened ∷ behind) →
      NoneOpen o before → NoneOpen o behind → line ≡ line_of first (length before) → Valve first o e xs line opened

pub record Kept (first : ℕ) (tail : Bytes) (e : List Write) (xs : List Opening) (b : Book) : Type 0 where
  pub rows : b.memory ≡ joined (shown first xs) ++ tail
  pub counted : b.count ≡ length xs
  pub lines_long : length b.lines ≡ 16
  pub opened_long : length b.opened ≡ 16
  pub fit : All Fits xs
  pub valves : (o : ℕ) → o < 16 → Valve first o e xs (get_or b.lines o 0) (get_or b.opened o 0)

-- ── the latest write ──────────────────────────────────────────────────────────────────────────────
latest_own : (w : Write) (e : List Write) → closed_after (latest_of w.output (w ∷ e)) ≡ is_zero w
unfolding latest_of closed_after
latest_own w e = rw (eq-eqb w.output w.output refl)

latest_other : (w : Write) (e : List Write) (o : ℕ) → (w.output ≡ o → ⊥) → closed_after (latest_of o (w ∷ e)) ≡ closed_after (latest_of o e)
unfolding latest_of
latest_other w e o n = rw (ne_eqb w.output o n)

-- ── other valves ──────────────────────────────────────────────────────────────────────────────────
map_parts : (f : Opening → Opening) (xs ys : List Opening) → map f (xs ++ ys) ≡ map f xs ++ map f ys
map_parts f [] ys = refl
map_parts f (x ∷ xs) ys = ap (λ (l : List Opening). f x ∷ l) (map_parts f xs ys)

module _ (first : ℕ) (w : Write) (e : List Write) (o : ℕ) (other : w.output ≡ o → ⊥) where
  valve_stays : (xs : List Opening) (line opened : ℕ) → Valve first o e xs line opened → Valve first o (w ∷ e) (map (after w) xs) line opened
  valve_stays xs line opened (shut c a z) = shut (latest_other w e o other ∙ c) (none_opens w o xs a) z
  valve_stays xs line opened (lasts c before behind q a d l) =
      lasts (latest_other w e o other ∙ c) (map (after w) before) (map (after w) behind)
      (ap (map (after w)) q ∙ map_parts (after w) before (open_one o opened ∷ behind)
      ∙ ap (λ (x : Opening). map (after w) before ++ (x ∷ map (after w) behind)) (after_other w o opened other))
      (none_opens w o before a) (none_opens w o behind d) (l ∙ ap (line_of first) (sym (length-map before (after w))))

  -- also behind one opening more of another output
  valve_before : (e' : List Write) (xs : List Opening) (line opened : ℕ) (moment : ℕ) → Valve first o e' xs line opened →
      Valve first o e' (xs ++ (open_one w.output moment ∷ [])) line opened
  valve_before e' xs line opened moment (shut c a z) = shut c (both_parts xs a (each (λ f. absurd (other f)) all.none)) z
  valve_before e' xs line opened moment (lasts c before behind q a d l) =
      lasts c before (behind ++ (open_one w.output moment ∷ []))
      (ap (λ (l : List Opening). l ++ (open_one w.output moment ∷ [])) q ∙ append_assoc before (open_one o opened ∷ behind) (open_one w.output moment ∷ []))
      a (both_parts behind d (each (λ f. absurd (other f)) all.none)) l

valve_same : {first o : ℕ} {e : List Write} {xs ys : List Opening} {line opened line' opened' : ℕ} → ys ≡ xs → line' ≡ line → opened' ≡ opened →
    Valve first o e xs line opened → Valve first o e ys line' opened'
valve_same p q r v = rw (p, q, r) v

-- each valve after the write: its own, and the others
each_valve : (w : Write) (P : ℕ → Type 0) → P w.output → ((o : ℕ) → (w.output ≡ o → ⊥) → o < 16 → P o) → (o : ℕ) → o < 16 → P o
each_valve w P own others o l = go (eqb w.output o) refl
  where
    go : (b : Bool) → eqb w.output o ≡ b → P o
    go true h = rw (← eqb-true w.output o h) own
    go false h = others o (eqb-false w.output o h) l

-- ── the openings after the write ──────────────────────────────────────────────────────────────────
nothing_new : (e : List Write) (w : Write) → opens e w ≡ false → (xs : List Opening) → xs ++ new_opening e w ≡ xs
unfolding with_opening
nothing_new e w h xs = rw h (append-nil xs)

one_new : (e : List Write) (w : Write) → opens e w ≡ true → new_opening e w ≡ open_one w.output w.moment ∷ []
unfolding with_opening closing
one_new e w h = rw h

opens_zero : (e : List Write) (w : Write) → is_zero w ≡ true → opens e w ≡ false
unfolding opens
opens_zero e w z = rw z

opens_by : (e : List Write) (w : Write) → is_zero w ≡ false → opens e w ≡ closed_after (latest_of w.output e)
unfolding opens
opens_by e w z = rw z

-- ── the book after the write ──────────────────────────────────────────────────────────────────────
line_some : (first n : ℕ) → line_of first n ≡ 0 → ⊥
unfolding line_of
line_some first n = go (lib.Dec.leb first n && lib.Dec.ltb (n - first) 59)
  where
    go : (b : Bool) → cond b (n - first + 1) 60 ≡ 0 → ⊥
    go true h = omega arith
    go false h = omega arith

module _ (first : ℕ) (tail : Bytes) (e : List Write) (xs : List Opening) (b : Book) (k : Kept first tail e xs b) (w : Write) (low : w.output < 16)
    (soon : w.moment < 18446744073709551616) where
  abbrev line : ℕ
  line = get_or b.lines w.output 0

  abbrev since : ℕ
  since = get_or b.opened w.output 0

  abbrev After : List Opening → Book → Type 0
  After ys c = Kept first tail (w ∷ e) ys c

  room : w.output < length b.lines
  room = omega (arith, k.lines_long)

  room_opened : w.output < length b.opened
  room_opened = omega (arith, k.opened_long)

  -- the valves after a write with 0
  zero_valves : (ys : List Opening) → map (after w) xs ≡ ys → is_zero w ≡ true → NoneOpen w.output ys →
      (o : ℕ) → o < 16 → Valve first o (w ∷ e) ys (get_or (set b.lines w.output 0) o 0) (get_or b.opened o 0)
  zero_valves ys q z a =
      each_valve w (λ o. Valve first o (w ∷ e) ys (get_or (set b.lines w.output 0) o 0) (get_or b.opened o 0))
      (shut (latest_own w e ∙ z) a (get_or-set_same b.lines w.output 0 0 room))
      (λ o n l. valve_same (sym q) (get_or-set_other b.lines w.output o 0 0 (λ f. n (sym f))) refl (valve_stays first w e o n xs _ _ (k.valves o l)))

  closes_shut : is_zero w ≡ true → NoneOpen w.output xs → line ≡ 0 → After xs (valve_closed w b)
  unfolding valve_closed
  closes_shut z a h = record {
    rows = sym (none_closed b.memory line (w.moment - since) h) ∙ k.rows;
    counted = k.counted;
    lines_long = length-set b.lines w.output 0 ∙ k.lines_long;
    opened_long = k.opened_long;
    fit = k.fit;
    valves = zero_valves xs (none_changes w xs a) z a;
  }

  -- the open valve's row gets its last column
  module _ (before behind : List Opening) (q : xs ≡ before ++ (open_one w.output since ∷ behind)) (z : is_zero w ≡ true)
      (a : NoneOpen w.output before) (d : NoneOpen w.output behind) where
    abbrev closed_now : List Opening
    closed_now = before ++ (closed_one w.output since w.moment ∷ behind)

    changed : map (after w) xs ≡ closed_now
    changed =
        ap (map (after w)) q ∙ map_parts (after w) before (open_one w.output since ∷ behind)
        ∙ ap₂ (λ (l r : List Opening). l ++ (after w (open_one w.output since) ∷ r)) (none_changes w before a) (none_changes w behind d)
        ∙ ap (λ (x : Opening). before ++ (x ∷ behind)) (after_open w since z)

    fit_before : All Fits (before ++ (open_one w.output since ∷ behind))
    fit_before = rw (← q) k.fit

    begun : since < 18446744073709551616
    begun = (all.first (second_part before (open_one w.output since ∷ behind) fit_before)).soon

    last_column : b.memory ≡ joined (shown first xs) ++ tail → line ≡ line_of first (length before) →
        row_closed b.memory line (w.moment - since) ≡ joined (shown first closed_now) ++ tail
    unfolding row_closed
    last_column r l =
        rw l
        (stored_at first (before ++ (open_one w.output since ∷ behind)) closed_now fit_before (length before)
        (differ_at before (open_one w.output since) (closed_one w.output since w.moment) behind) tail 24 (right_aligned 20 (figure (w.moment - since)))
        (let long = aligned_length 20 (figure (w.moment - since)) (few_digits (w.moment - since) (omega arith)) in omega arith)
        (ap (λ (s : Bytes). sets s 24 (right_aligned 20 (figure (w.moment - since)))) (number_here before (open_one w.output since) behind)
        ∙ row_closes w.output since w.moment low begun soon
        ∙ sym (number_here before (closed_one w.output since w.moment) behind))
        (r ∙ ap (λ (l : List Opening). joined (shown first l) ++ tail) q))

    closes_open : line ≡ line_of first (length before) → After closed_now (valve_closed w b)
    unfolding valve_closed
    closes_open l = record {
      rows = last_column k.rows l;
      counted = k.counted ∙ sym (ap length (sym changed) ∙ length-map xs (after w));
      lines_long = length-set b.lines w.output 0 ∙ k.lines_long;
      opened_long = k.opened_long;
      fit = rw (← changed) (all_fit w soon xs k.fit);
      valves = zero_valves closed_now changed z (both_parts before a (each (λ f. refl) d));
    }

  -- a write with another value on an open valve
  stays_open : (before behind : List Opening) → xs ≡ before ++ (open_one w.output since ∷ behind) → is_zero w ≡ false →
      NoneOpen w.output before → NoneOpen w.output behind → line ≡ line_of first (length before) → After xs b
  stays_open before behind q z a d l = record {
    rows = k.rows;
    counted = k.counted;
    lines_long = k.lines_long;
    opened_long = k.opened_long;
    fit = k.fit;
    valves =
        each_valve w (λ o. Valve first o (w ∷ e) xs (get_or b.lines o 0) (get_or b.opened o 0))
        (lasts (latest_own w e ∙ z) before behind q a d l)
        (λ o n h. valve_same (sym (still_open w z xs)) refl refl (valve_stays first w e o n xs _ _ (k.valves o h)));
  }

  -- a write that opens its valve
  abbrev opened_now : List Opening
  opened_now = xs ++ (open_one w.output w.moment ∷ [])

  abbrev new_line : ℕ
  new_line = line_of first b.count

  new_row : row_opened b.memory new_line w.output w.moment ≡ joined (shown first opened_now) ++ tail
  unfolding row_opened
  new_row =
      let x = open_one w.output w.moment in
      let long = row_long x (new_fits w low soon) in
      let place : new_line * 45 ≡ new_line * 45 + 0 = omega arith in
      ap (λ (i : ℕ). cond (on_page new_line) (sets b.memory i (row x)) b.memory) place
      ∙ ap (λ (n : ℕ). cond (on_page (line_of first n)) (sets b.memory (line_of first n * 45 + 0) (row x)) b.memory) k.counted
      ∙ stored_at first xs opened_now k.fit (length xs) (differ_end xs x) tail 0 (row x) (omega arith)
      (ap (λ (s : Bytes). sets s 0 (row x)) (number_past xs (length xs) (omega arith))
      ∙ sets_whole blank_row (row x) (long ∙ sym blank_length)
      ∙ sym (number_here xs x []))
      k.rows

  opens_shut : is_zero w ≡ false → NoneOpen w.output xs → After opened_now (valve_opened first w b)
  unfolding valve_opened
  opens_shut z a = record {
    rows = new_row;
    counted = ap (λ (n : ℕ). n + 1) k.counted ∙ sym (length-append xs (open_one w.output w.moment ∷ []));
    lines_long = length-set b.lines w.output new_line ∙ k.lines_long;
    opened_long = length-set b.opened w.output w.moment ∙ k.opened_long;
    fit = both_parts xs k.fit (each (new_fits w low soon) all.none);
    valves =
        each_valve w (λ o. Valve first o (w ∷ e) opened_now (get_or (set b.lines w.output new_line) o 0) (get_or (set b.opened w.output w.moment) o 0))
        (valve_same refl (get_or-set_same b.lines w.output new_line 0 room) (get_or-set_same b.opened w.output w.moment 0 room_opened)
        (lasts (latest_own w e ∙ z) xs [] refl a all.none (ap (line_of first) k.counted)))
        (λ o n h.
        valve_same refl (get_or-set_other b.lines w.output o new_line 0 (λ f. n (sym f))) (get_or-set_other b.opened w.output o w.moment 0 (λ f. n (sym f)))
        (valve_before first w e o n (w ∷ e) xs _ _ w.moment
        (valve_same (sym (still_open w z xs)) refl refl (valve_stays first w e o n xs _ _ (k.valves o h)))));
  }

  pub one_more : After (map (after w) xs ++ new_opening e w) (entered first b w)
  one_more = go (is_zero w) refl (k.valves w.output low)
    where
      told : {ys zs : List Opening} {c d : Book} → ys ≡ zs → c ≡ d → After zs d → After ys c
      told p q v = rw (p, q) v

      go : (z : Bool) → is_zero w ≡ z → Valve first w.output e xs line since → After (map (after w) xs ++ new_opening e w) (entered first b w)
      go true z (shut c a h) =
          told (nothing_new e w (opens_zero e w z) (map (after w) xs) ∙ none_changes w xs a) (entered_zero first b w z) (closes_shut z a h)
      go true z (lasts c before behind q a d l) =
          told (nothing_new e w (opens_zero e w z) (map (after w) xs) ∙ changed before behind q z a d) (entered_zero first b w z) (closes_open before behind q z a d l)
      go false z (shut c a h) =
          told (ap₂ (λ (l r : List Opening). l ++ r) (still_open w z xs) (one_new e w (opens_by e w z ∙ c))) (entered_shut first b w z h) (opens_shut z a)
      go false z (lasts c before behind q a d l) =
          told (nothing_new e w (opens_by e w z ∙ c) (map (after w) xs) ∙ still_open w z xs)
          (entered_open first b w z (λ h. line_some first (length before) (sym l ∙ h))) (stays_open before behind q z a d l)
