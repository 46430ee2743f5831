-- The questions in their order, by the number that answers. Letters: a, b, c the answers to 1, 9 and 11.
use mathlib.Core.Path.{◌≡◌, refl, ap, ◌∙◌}
use mathlib.Core.Bool.{Bool, true, false, cond, ◌&&◌}
use mathlib.Core.List.{List, ◌++◌}
use Prim.Native.Nat.{ℕ, ◌≤◌, ◌<◌}
use native.Mathlib.Omega.{arith}
use lib.Dec.{leb}
use lib.ListN.{length, drop}
use borrow.Author.Tests.{le-leb, lt-leb, eq-eqb, ne_eqb}
use Rattle.listing.specs.Bytes.{Bytes}
use Rattle.openings.specs.Writes.{writes_of}
use Rattle.openings.specs.Order.{sorted_openings}
use Rattle.openings.specs.Questions.{equally_long, none_falls, listed_once}
use Rattle.page.specs.Pages.{page_count, page_bytes}
use Rattle.page.specs.Call.{page_length, Outcome, refused, ask, printed_page, page_call, outcome_number, outcome_pages, memory_after, PrintedAs, refusal}
use Rattle.page.specs.declared.Printed.{Printed}

-- a refusal under its number leaves the memory as it was
refused_as : (k : ℕ) (o : Outcome) (memory : Bytes) (r : Printed) → o ≡ refused k → r ≡ refusal k → PrintedAs o memory memory r
unfolding outcome_number outcome_pages memory_after
refused_as k o memory r e f = record { number_is_lem = rw (e, f); place_is_lem = rw f; pages_is = rw (e, f); memory_is = rw e }

module _ (ms os vs : List ℕ) (p : ℕ) (memory : Bytes) where
  abbrev outcome : Outcome
  outcome = page_call ms os vs p memory

  -- ── 1 ───────────────────────────────────────────────────────────────────────────────────────────
  short : length memory < 2700 → outcome ≡ refused 1
  unfolding page_call ask
  short h = rw (lt-leb 2700 (length memory) h)

  pub memory_short : length memory < 2700 → (r : Printed) → r ≡ refusal 1 → PrintedAs outcome memory memory r
  memory_short h r e = refused_as 1 outcome memory r (short h) e

  module _ (long : 2700 ≤ length memory) where
    outputs_other : (length ms ≡ length os → ⊥) → outcome ≡ refused 1
    unfolding page_call ask
    outputs_other n = rw (le-leb 2700 (length memory) long, ne_eqb (length ms) (length os) n)

    pub outputs_unequal : (length ms ≡ length os → ⊥) → (r : Printed) → r ≡ refusal 1 → PrintedAs outcome memory memory r
    outputs_unequal n r e = refused_as 1 outcome memory r (outputs_other n) e

    module _ (e : length ms ≡ length os) where
      values_other : (length ms ≡ length vs → ⊥) → outcome ≡ refused 1
      unfolding page_call ask
      values_other n = rw (le-leb 2700 (length memory) long, eq-eqb (length ms) (length os) e, ne_eqb (length ms) (length vs) n)

      pub values_unequal : (length ms ≡ length vs → ⊥) → (r : Printed) → r ≡ refusal 1 → PrintedAs outcome memory memory r
      values_unequal n r g = refused_as 1 outcome memory r (values_other n) g

      -- ── 9 and 11 ────────────────────────────────────────────────────────────────────────────────
      module _ (f : length ms ≡ length vs) where
        falling : none_falls ms ≡ false → outcome ≡ refused 9
        unfolding page_call ask
        falling h = rw (le-leb 2700 (length memory) long, eq-eqb (length ms) (length os) e, eq-eqb (length ms) (length vs) f, h)

        moment_falls : none_falls ms ≡ false → (r : Printed) → r ≡ refusal 9 → PrintedAs outcome memory memory r
        moment_falls h r g = refused_as 9 outcome memory r (falling h) g

        twice : none_falls ms ≡ true → listed_once (writes_of ms os vs) ≡ false → outcome ≡ refused 11
        unfolding page_call ask
        twice h l = rw (le-leb 2700 (length memory) long, eq-eqb (length ms) (length os) e, eq-eqb (length ms) (length vs) f, h, l)

        listed_twice : none_falls ms ≡ true → listed_once (writes_of ms os vs) ≡ false → (r : Printed) → r ≡ refusal 11 → PrintedAs outcome memory memory r
        listed_twice h l r g = refused_as 11 outcome memory r (twice h l) g

        -- one of the two turns the lists away
        pub turned_away_lem : (none_falls ms ≡ true → listed_once (writes_of ms os vs) ≡ false) → (k : ℕ) → k ≡ cond (none_falls ms) 11 9 → (r : Printed) → r ≡ refusal k →
            PrintedAs outcome memory memory r
        turned_away_lem l k d r g = go (none_falls ms) refl d
          where
            go : (b : Bool) → none_falls ms ≡ b → k ≡ cond b 11 9 → PrintedAs outcome memory memory r
            go true h i = listed_twice h (l h) r (g ∙ ap refusal i)
            go false h i = moment_falls h r (g ∙ ap refusal i)

        all_pass : none_falls ms ≡ true → listed_once (writes_of ms os vs) ≡ true → outcome ≡ printed_page p (sorted_openings (writes_of ms os vs))
        unfolding page_call ask
        all_pass h l = rw (le-leb 2700 (length memory) long, eq-eqb (length ms) (length os) e, eq-eqb (length ms) (length vs) f, h, l)

        pub page_printed : none_falls ms ≡ true → listed_once (writes_of ms os vs) ≡ true → (memory' : Bytes) (pages : ℕ) →
            memory' ≡ page_bytes p (sorted_openings (writes_of ms os vs)) ++ drop 2700 memory → pages ≡ page_count (length (sorted_openings (writes_of ms os vs))) →
            PrintedAs outcome memory memory' (record { number = 0; place = 0; pages = pages })
        unfolding outcome_number outcome_pages memory_after printed_page
        page_printed h l memory' pages m c = let o = all_pass h l in record { number_is_lem = rw o; place_is_lem = refl; pages_is = rw o c; memory_is = rw o m }

-- ── a call with number 0 ──────────────────────────────────────────────────────────────────────────
-- it has passed the questions, and its outcome is the page
pub record Through (ms os vs : List ℕ) (p : ℕ) (memory : Bytes) : Type 0 where
  pub rises : none_falls ms ≡ true
  pub once : listed_once (writes_of ms os vs) ≡ true
  pub is : page_call ms os vs p memory ≡ printed_page p (sorted_openings (writes_of ms os vs))

pub gone_through_lem : (ms os vs : List ℕ) (p : ℕ) (memory : Bytes) → outcome_number (page_call ms os vs p memory) ≡ 0 → Through ms os vs p memory
unfolding page_call ask outcome_number
gone_through_lem ms os vs p memory =
    go (leb page_length (length memory) && equally_long ms os vs) refl (none_falls ms) refl (listed_once (writes_of ms os vs)) refl
  where
    page : Outcome
    page = printed_page p (sorted_openings (writes_of ms os vs))

    go : (a : Bool) → (leb page_length (length memory) && equally_long ms os vs) ≡ a → (b : Bool) → none_falls ms ≡ b →
        (c : Bool) → listed_once (writes_of ms os vs) ≡ c → outcome_number (ask 1 a (ask 9 b (ask 11 c page))) ≡ 0 → Through ms os vs p memory
    go true e true f true g h = record { rises = f; once = g; is = rw (e, f, g) }
    go true e true f false g h = absurd (omega arith)
    go true e false f c g h = absurd (omega arith)
    go false e b f c g h = absurd (omega arith)
