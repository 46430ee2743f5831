-- Text and listing determine each other: a text loads to a listing exactly if it is the text of that listing and the listing is well formed.
use mathlib.Core.Path.{◌≡◌, refl, sym, ap, ◌∙◌}
use mathlib.Core.Bool.{true, ◌&&◌}
use mathlib.Core.List.{List, [], map}
use mathlib.Core.Logic.{◌↔◌}
use mathlib.Core.List.{cons≢nil}
use Prim.Native.Nat.{◌≤◌}
use native.Mathlib.Omega.{arith}
use lib.Dec.{leb}
use lib.ListN.{length}
use borrow.Author.Tests.{leb-true, le-leb}
use Rattle.listing.specs.Lists.{all_yes, first_no}
use Rattle.listing.specs.Bytes.{Bytes}
use Rattle.listing.specs.Listing.{Line, Listing, lines_of, listing_of}
use Rattle.listing.specs.Text.{line_text, lines_text, text_of}
use Rattle.listing.specs.Limits.{byte_limit, limit_answers}
use Rattle.listing.specs.Questions.{records_of, listing_in, place3, there_answers, place4, ending_answers, place5}
use Rattle.listing.specs.Load.{Loads}
use Rattle.listing.specs.WellFormed.{has_form, meets_counts, well_formed_but_for_length, well_formed}
use Rattle.listing.proofs.Tests.{and_left, and_right}
use Rattle.listing.proofs.Answers.{passes_means_yes, yes_means_passes}
use Rattle.listing.proofs.Records.{Standing, listing_of_lines, lines_of_listing, lines_stand, standing_has_form}
use Rattle.listing.proofs.Texts.{question_2_passed, question_2_passes, closed_lines_of_text, records_of_text}
use Rattle.listing.proofs.Counts.{counts_met, meets_counts_lem, limits_kept, kept_limits}
use Rattle.listing.proofs.Causes.{loaded_exactly_if}

-- ── the conditions of a well formed listing, by name ─────────────────────────────
pub record WellFormed (listing : Listing) : Type 0 where
  pub form : has_form listing ≡ true
  pub counts : meets_counts listing ≡ true
  pub there : all_yes (there_answers listing) ≡ true
  pub ending : all_yes (ending_answers listing) ≡ true
  pub short : length (text_of listing) ≤ byte_limit

pub well_formed_parts : (listing : Listing) → well_formed listing ≡ true → WellFormed listing
unfolding well_formed well_formed_but_for_length
well_formed_parts listing h =
    let f = has_form listing in
    let c = meets_counts listing in
    let t = all_yes (there_answers listing) in
    let e = all_yes (ending_answers listing) in
    let s = leb (length (text_of listing)) byte_limit in
    let fcte = and_left (f && c && t && e) s h in
    let fct = and_left (f && c && t) e fcte in
    let fc = and_left (f && c) t fct in
    record {
      form = and_left f c fc;
      counts = and_right f c fc;
      there = and_right (f && c) t fct;
      ending = and_right (f && c && t) e fcte;
      short = leb-true _ _ (and_right (f && c && t && e) s h);
    }

pub parts_well_formed : (listing : Listing) → WellFormed listing → well_formed listing ≡ true
unfolding well_formed well_formed_but_for_length
parts_well_formed listing w = rw (w.form, w.counts, w.there, w.ending) (le-leb _ byte_limit w.short)

-- ── a well formed listing is what its text loads to ──────────────────────────────
begun : (listing : Listing) → lines_of listing ≡ [] → ⊥
unfolding lines_of
begun listing = cons≢nil

-- the places of questions 3 to 5, if the text is that of lines in form
listing_in_lem : (lines : List Line) → Standing 1 lines → listing_in (lines_text lines) ≡ listing_of lines
unfolding listing_in
listing_in_lem lines s = rw (records_of_text s)

place3_of_text : (lines : List Line) → Standing 1 lines → place3 (lines_text lines) ≡ first_no (limit_answers (map line_text lines) lines)
unfolding place3
place3_of_text lines s = rw (closed_lines_of_text s, records_of_text s)

place4_of : (text : Bytes) (listing : Listing) → listing_in text ≡ listing → place4 text ≡ first_no (there_answers listing)
unfolding place4
place4_of text listing e = rw e

place5_of : (text : Bytes) (listing : Listing) → listing_in text ≡ listing → place5 text ≡ first_no (ending_answers listing)
unfolding place5
place5_of text listing e = rw e

pub text_loads : (listing : Listing) → well_formed listing ≡ true → Loads (text_of listing) listing
text_loads listing h =
    let w = well_formed_parts listing h in
    let standing = lines_stand listing w.form in
    let back = listing_in_lem (lines_of listing) standing ∙ listing_of_lines listing in
    (loaded_exactly_if true (text_of listing) listing).1 (
      refl,
      question_2_passes (begun listing) standing,
      place3_of_text (lines_of listing) standing ∙ yes_means_passes 1 _ (limits_kept listing (counts_met listing w.counts) w.short),
      place4_of (text_of listing) listing back ∙ yes_means_passes 1 _ w.there,
      place5_of (text_of listing) listing back ∙ yes_means_passes 1 _ w.ending,
      back,
    )

-- ── a text that loads is the text of its listing, which is well formed ───────────
record Loaded (text : Bytes) (listing : Listing) : Type 0 where
  pub is : text ≡ text_of listing
  pub well : WellFormed listing

loaded_parts : (text : Bytes) (listing : Listing) → Loads text listing → Loaded text listing
unfolding listing_in
loaded_parts text listing h =
    let c = (loaded_exactly_if true text listing).0 h in
    let f = question_2_passed text c.1 in
    let lines : lines_of listing ≡ records_of text = ap lines_of (sym c.5) ∙ lines_of_listing f.begun f.standing in
    let is : text ≡ text_of listing = sym f.is ∙ ap lines_text (sym lines) in
    let standing : Standing 1 (lines_of listing) = rw lines f.standing in
    let p3 : place3 (text_of listing) ≡ 0 = rw (← is) c.2 in
    let k = kept_limits listing (passes_means_yes 1 _ (omega arith) (sym (place3_of_text (lines_of listing) standing) ∙ p3)) in
    record {
      is = is;
      well = record {
        form = rw (← c.5) (standing_has_form f.standing);
        counts = meets_counts_lem listing k.0;
        there = passes_means_yes 1 _ (omega arith) (sym (place4_of text listing c.5) ∙ c.3);
        ending = passes_means_yes 1 _ (omega arith) (sym (place5_of text listing c.5) ∙ c.4);
        short = k.1;
      };
    }

-- ── the theorem ──────────────────────────────────────────────────────────────────
pub loads_exactly_if : (text : Bytes) (listing : Listing) → Loads text listing ↔ ((text ≡ text_of listing) × (well_formed listing ≡ true))
loads_exactly_if text listing =
    (λ h. let l = loaded_parts text listing h in (l.is, parts_well_formed listing l.well), λ c. rw c.0 (text_loads listing c.1))

-- one listing for a text
pub one_listing_lem : (text : Bytes) (listing other : Listing) → Loads text listing → Loads text other → listing ≡ other
one_listing_lem text listing other p q = cc

-- one text for a listing
pub one_text : (text other : Bytes) (listing : Listing) → Loads text listing → Loads other listing → text ≡ other
one_text text other listing p q = ((loads_exactly_if text listing).0 p).0 ∙ sym ((loads_exactly_if other listing).0 q).0

-- well formed listings with the same text are the same
pub text_of-injective : (listing other : Listing) → well_formed listing ≡ true → well_formed other ≡ true → text_of listing ≡ text_of other → listing ≡ other
text_of-injective listing other p q e = one_listing_lem (text_of other) listing other (rw (← e) (text_loads listing p)) (text_loads other q)
