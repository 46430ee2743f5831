-- The scan of the records as far as the code has come: "the rest of the scan equals the whole".
-- w stands for the table's words, m for the machine's.
use Rattle.std.specs.Prelude.{◌≡◌, Bool, true, false, cond, List, [], ◌∷◌, ℕ, ◌+◌, ◌-◌, ◌<◌, ◌≤◌, eqb, leb, length, get_or, set, Option, Some, None}
use Rattle.listing.specs.Listing.{Call}
use Rattle.walk.specs.Question7.{all_at_rest, owned_by}
use Rattle.table.specs.Decode.{head_after, word, table_listing}
use Rattle.machine.specs.Records.{Record, Frame, level_fits, made_by_first, scan, records_pass, no_call_lem}
use Rattle.machine.specs.Words.{block_at, moment_at, slot_of, record_in, records_in}
use Rattle.table_child_fields.specs.Tables.{TableBounds, HeadsFit, line_at}
use Rattle.table_child_fields.specs.Picking.{maker_of}
use Rattle.table_child_fields.specs.declared.pick.Coming.{Coming}
use Rattle.table_child_fields.specs.declared.pick.Maker.{Maker}
use Rattle.table_read.specs.declared.Entry.{Entry}
use Rattle.machine_check_paths.specs.declared.path.Path.{Path}

abbrev pub whole : List ℕ → List ℕ → Bool
whole w m = records_pass (table_listing w) (moment_at m 1) (records_in m 0 (get_or m 3 0))

-- The k-th record, and the rest of the scan after it.
abbrev pub record_of : List ℕ → ℕ → Record
record_of m k = record_in m (block_at (slot_of m k))

abbrev pub scan_after : List ℕ → List ℕ → ℕ → Bool → List Frame → Bool
scan_after w m k = scan (table_listing w) (moment_at m 1) (records_in m (k + 1) (get_or m 3 0 - (k + 1)))

-- What is known before the scan: the table's bounds, and what the machine's words in place say.
pub record Ready (w m : List ℕ) : Type 0 where
  pub table : TableBounds w
  pub few : get_or m 3 0 ≤ 64
  pub slot : (k : ℕ) → k < get_or m 3 0 → slot_of m k < 64
  pub rests : (k : ℕ) → k < get_or m 3 0 → all_at_rest (moment_at m 1) (record_of m k).own ≡ true

-- Child fields by their heads: n of them, the first at a.
pub record Heads (w : List ℕ) (cs : List Call) (a n : ℕ) : Type 0 where
  pub size : length cs ≡ n
  pub callee : (j : ℕ) → j < n → (get_or cs j no_call_lem).callee ≡ word w (head_after w a j + 1)
  pub fit : HeadsFit w a n

-- The child fields of a level of a path.
abbrev pub no_fields : Coming
no_fields = record { next = 0; head = 0; left = 0 }

abbrev pub fields_at : Path → ℕ → Coming
fields_at p level = get_or p.levels level no_fields

-- The frames of a path, innermost first.
pub data Stack (w : List ℕ) (p : Path) : List Frame → Type 0 where
  bottom : Stack w p []
  above : {f : Frame} {outer : List Frame} → Heads w f.calls (fields_at p (length outer)).head (fields_at p (length outer)).left →
      f.next ≡ (fields_at p (length outer)).next → Stack w p outer → Stack w p (f ∷ outer)

-- The scan has come to the k-th record.
pub record Going (w m : List ℕ) (k : ℕ) (p : Path) : Type 0 where
  pub frames : List Frame
  pub depth : p.depth ≡ length frames
  pub room : p.depth ≤ 11
  pub levels : length p.levels ≡ 11
  pub stack : Stack w p frames
  pub law : scan (table_listing w) (moment_at m 1) (records_in m k (get_or m 3 0 - k)) p.forked frames ≡ whole w m

-- The child field that made the k-th record; those after it stand from `head` on.
pub record Caller (w m : List ℕ) (k : ℕ) (p : Path) (routine head left : ℕ) : Type 0 where
  pub call : Call
  pub later : List Call
  pub outer : List Frame
  pub callee : routine ≡ call.callee
  pub there : routine < word w 2
  pub deep : length outer ≡ (record_of m k).level
  pub shallow : (record_of m k).level < 11
  pub heads : Heads w later head left
  pub stack : Stack w p outer
  pub law : made_by_first (table_listing w) (moment_at m 1) (record_of m k) (scan_after w m k) (call ∷ later) outer ≡ whole w m

pub record Made (w m : List ℕ) (k : ℕ) (p : Path) (r : Option Maker) : Type 0 where
  pub no_maker_lem : r ≡ None → whole w m ≡ false
  pub a_maker : (made : Maker) → r ≡ Some made → Caller w m k p made.routine made.head made.left

-- After a step the scan has come to the k-th record, or the list does not pass.
pub record Stepped (w m : List ℕ) (k : ℕ) (r : Option Path) : Type 0 where
  pub bad : r ≡ None → whole w m ≡ false
  pub good : (q : Path) → r ≡ Some q → Going w m k q

-- ── the path, record by record ────────────────────────────────────────────────────────────────────
-- The child field that made the k-th record, if it is one that may still come.
unfoldable pub maker_for : List ℕ → List ℕ → ℕ → Path → Option Maker
maker_for w m k p =
    let level = (record_of m k).level in
    cond (level_fits p.forked level p.depth)
    (maker_of w (fields_at p level).head (fields_at p level).left (fields_at p level).next (record_of m k).child) None

-- The record of a child: the child fields after its own may still come.
abbrev pub entered_path : Path → ℕ → ℕ → ℕ → ℕ → Path
entered_path p level child after rest = record {
  forked = false;
  depth = level + 1;
  levels = set p.levels level (record { next = child + 1; head = after; left = rest });
}

-- The record is at an `F`: its child fields come next.
abbrev pub pushed_path : Path → ℕ → ℕ → ℕ → Path
pushed_path p level cells count = record {
  forked = true;
  depth = level + 2;
  levels = set p.levels (level + 1) (record { next = 0; head = cells; left = count });
}

-- A record of this level at this instruction: "asleep at a `W` or at an `F`", "to level 10"; else the list does not pass. q is the path with it entered.
unfoldable pub path_at : Path → ℕ → Entry → Option Path
path_at q level line =
    cond (eqb line.kind 5) (Some q)
    (cond (eqb line.kind 6) (cond (leb level 9) (Some (pushed_path q level line.cells line.first)) None) None)

-- The path after the k-th record, which has its own variables.
abbrev pub settled_path : List ℕ → List ℕ → ℕ → Path → Maker → Option Path
settled_path w m k p made =
    path_at (entered_path p (record_of m k).level (record_of m k).child made.head made.left) (record_of m k).level
    (line_at w made.routine (record_of m k).place)

-- The path after the k-th record, made by this child field, if any.
unfoldable pub path_by : List ℕ → List ℕ → ℕ → Path → Option Maker → Option Path
path_by w m k p None = None
path_by w m k p (Some made) = cond (eqb (length (record_of m k).own) (owned_by (table_listing w) made.routine)) (settled_path w m k p made) None

abbrev pub stepped_path : List ℕ → List ℕ → ℕ → Path → Option Path
stepped_path w m k p = path_by w m k p (maker_for w m k p)
