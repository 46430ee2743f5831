-- Question 6, "Is the table one that loading some listing leaves?": words pass exactly if some text loads with number 0 to a listing whose table they are.
use mathlib.Core.Path.{◌≡◌, refl, sym}
use mathlib.Core.Bool.{Bool, true, false, cond}
use mathlib.Core.List.{List}
use mathlib.Core.Option.{none, some}
use mathlib.Core.Logic.{◌↔◌}
use Prim.Native.Nat.{ℕ}
use native.Mathlib.Omega.{arith}
use Rattle.listing.specs.Listing.{Listing}
use Rattle.listing.specs.Bytes.{Bytes}
use Rattle.listing.specs.Text.{text_of}
use Rattle.listing.specs.Load.{Loads}
use Rattle.listing.proofs.Determine.{loads_exactly_if, text_loads}
use Rattle.table.specs.Areas.{table_words}
use Rattle.table.specs.Decode.{table_listing}
use Rattle.table.specs.Question6.{LeftByLoading, is_table, read_table}
use Rattle.table.proofs.Table.{table_is_laid_out, table_well_formed, listing_back, listing_has_table}

-- loading a text with number 0 gives a listing whose table passes and stands for it
pub loaded_table_passes : (text : Bytes) (listing : Listing) → Loads text listing → is_table (table_words listing) ≡ true
loaded_table_passes text listing h = listing_has_table listing ((loads_exactly_if text listing).0 h).1

pub loaded_table_stands_for : (text : Bytes) (listing : Listing) → Loads text listing → table_listing (table_words listing) ≡ listing
loaded_table_stands_for text listing h = listing_back listing ((loads_exactly_if text listing).0 h).1

pub question_6_exactly_if : (w : List ℕ) → (is_table w ≡ true) ↔ LeftByLoading w
question_6_exactly_if w = (
  λ h. record { text = text_of (table_listing w); listing = table_listing w; loads = text_loads (table_listing w) (table_well_formed w h); words = table_is_laid_out w h },
  λ c. rw c.words (loaded_table_passes c.text c.listing c.loads),
)

-- the listing that a table's words stand for is the one that was loaded
read_if : (b : Bool) (l m : Listing) → cond b (some l) none ≡ some m → (b ≡ true) × (l ≡ m)
read_if true l m h = (refl, cc)
read_if false l m h = absurd (let z : ◌≡◌ {A = ℕ} 0 1 = cc in omega arith)

pub table_read_exactly_if : (w : List ℕ) (listing : Listing) → (read_table w ≡ some listing) ↔ ((text : Bytes) × Loads text listing × (table_words listing ≡ w))
unfolding read_table
table_read_exactly_if w listing = (
  λ h.
      let r = read_if (is_table w) (table_listing w) listing h in
      rw (← r.1) (text_of (table_listing w), text_loads (table_listing w) (table_well_formed w r.0), sym (table_is_laid_out w r.0)),
  λ c. rw (← c.2, loaded_table_passes c.0 listing c.1, loaded_table_stands_for c.0 listing c.1),
)

-- a table is read exactly if loading some text leaves it, and not exactly if loading none does
none_if : (b : Bool) (l : Listing) → cond b (some l) none ≡ none → b ≡ false
none_if true l h = absurd (let z : ◌≡◌ {A = ℕ} 0 1 = cc in let y : ⊥ = omega arith in y)
none_if false l h = refl

pub not_read_exactly_if : (w : List ℕ) → (read_table w ≡ none) ↔ ¬ LeftByLoading w
unfolding read_table
not_read_exactly_if w = (
  λ h c. both (none_if (is_table w) (table_listing w) h) ((question_6_exactly_if w).1 c),
  λ h. go (is_table w) refl h,
)
  where
    both : is_table w ≡ false → is_table w ≡ true → ⊥
    both e f = let z : ◌≡◌ {A = ℕ} 0 1 = cc in omega arith

    go : (b : Bool) → is_table w ≡ b → ¬ LeftByLoading w → cond (is_table w) (some (table_listing w)) none ≡ none
    go true e h = absurd (h ((question_6_exactly_if w).0 e))
    go false e h = rw e
