-- Each number has one cause: loading answers with a number exactly if the questions before it pass and that one fails.
use mathlib.Core.Path.{◌≡◌, refl}
use mathlib.Core.Bool.{Bool, true, false}
use mathlib.Core.List.{List, [], ◌∷◌}
use mathlib.Core.Logic.{◌↔◌}
use Prim.Native.Nat.{ℕ, zero, suc, ◌+◌, ◌-◌, ◌≤◌, ◌<◌}
use lib.ListN.{get_or}
use native.Mathlib.Omega.{arith}
use Rattle.listing.specs.Lists.{first_no, first_no_from}
use Rattle.listing.specs.Bytes.{Bytes}
use Rattle.listing.specs.Listing.{Listing}
use Rattle.listing.specs.Questions.{place2, place3, place4, place5, listing_in}
use Rattle.listing.specs.Causes.{AllYes, FirstNo, answers2, answers3, answers4, answers5, Cause1, Cause2, Cause3, Cause4, Cause5, AllPass}
use Rattle.listing.specs.Load.{Loading, refused, loaded, loading_number, ask, questions2to5, loading}

-- ── one question ─────────────────────────────────────────────────────────────────
same_number : {k n p q : ℕ} → refused k p ≡ refused n q → k ≡ n
same_number e = cc

same_place : {k n p q : ℕ} → refused k p ≡ refused n q → p ≡ q
same_place e = cc

not_loaded : {A : Type 0} {n q : ℕ} {listing : Listing} → loaded listing ≡ refused n q → A
not_loaded e = absurd (let z : ◌≡◌ {A = ℕ} 0 1 = cc in omega arith)

not_refused : {A : Type 0} {n q : ℕ} {listing : Listing} → refused n q ≡ loaded listing → A
not_refused e = absurd (let z : ◌≡◌ {A = ℕ} 0 1 = cc in omega arith)

-- a question that passes leaves the answer to the others, one that fails gives it
ask_passes : (k p : ℕ) (others : Loading) → p ≡ 0 → ask k p others ≡ others
ask_passes k p others e = rw e

ask_fails : (k p : ℕ) (others : Loading) → 1 ≤ p → ask k p others ≡ refused k p
ask_fails k zero others h = absurd (let z : ⊥ = omega arith in z)
ask_fails k (suc p) others h = refl

module _ {n q : ℕ} where
  -- the others answer, if the number is not this question's
  asked_others : (k p : ℕ) (others : Loading) → (k ≡ n → ⊥) → ask k p others ≡ refused n q → (p ≡ 0) × (others ≡ refused n q)
  asked_others k zero others d e = (refl, e)
  asked_others k (suc p) others d e = absurd (d (same_number e))

  -- this question answers, if the number is not one of the others'
  asked_this : (k p : ℕ) (others : Loading) → (others ≡ refused n q → ⊥) → ask k p others ≡ refused n q → (p ≡ q) × (1 ≤ q)
  asked_this k zero others d e = absurd (d e)
  asked_this k (suc p) others d e = let z : suc p ≡ q = same_place e in (z, omega arith)

  -- a question and those after it answer with its number or a later one
  number_from : (k p : ℕ) (others : Loading) → (others ≡ refused n q → k ≤ n) → ask k p others ≡ refused n q → k ≤ n
  number_from k zero others later e = later e
  number_from k (suc p) others later e = let z : k ≡ n = same_number e in omega arith

-- all questions pass, if a listing is loaded
asked_loaded : (k p : ℕ) (others : Loading) (listing : Listing) → ask k p others ≡ loaded listing → (p ≡ 0) × (others ≡ loaded listing)
asked_loaded k zero others listing e = (refl, e)
asked_loaded k (suc p) others listing e = not_refused e

-- ── the questions of a text, from each on ────────────────────────────────────────
module _ (text : Bytes) where
  abbrev from5 : Loading
  from5 = ask 5 (place5 text) (loaded (listing_in text))

  abbrev from4 : Loading
  from4 = ask 4 (place4 text) from5

  abbrev from3 : Loading
  from3 = ask 3 (place3 text) from4

  from5_number : {n q : ℕ} → from5 ≡ refused n q → 5 ≤ n
  from5_number e = number_from 5 (place5 text) _ (λ d. not_loaded d) e

  from4_number : {n q : ℕ} → from4 ≡ refused n q → 4 ≤ n
  from4_number e = number_from 4 (place4 text) from5 (λ d. let z = from5_number d in omega arith) e

  from3_number : {n q : ℕ} → from3 ≡ refused n q → 3 ≤ n
  from3_number e = number_from 3 (place3 text) from4 (λ d. let z = from4_number d in omega arith) e

-- ── the first no ─────────────────────────────────────────────────────────────────
-- every answer is yes, if the place is 0; and the other way round
yes_from : (line : ℕ) (answers : List Bool) → 1 ≤ line → first_no_from line answers ≡ 0 → (k : ℕ) → get_or answers k true ≡ true
unfolding first_no_from
yes_from line [] h e zero = refl
yes_from line [] h e (suc k) = refl
yes_from line (true ∷ answers) h e zero = refl
yes_from line (true ∷ answers) h e (suc k) = yes_from (suc line) answers (omega arith) e k
yes_from line (false ∷ answers) h e k = absurd (let z : ⊥ = omega (arith, h, e) in z)

all_from : (line : ℕ) (answers : List Bool) → ((k : ℕ) → get_or answers k true ≡ true) → first_no_from line answers ≡ 0
unfolding first_no_from
all_from line [] h = refl
all_from line (true ∷ answers) h = all_from (suc line) answers (λ k. h (suc k))
all_from line (false ∷ answers) h = absurd (let e : false ≡ true = h 0 in let z : ◌≡◌ {A = ℕ} 0 1 = cc in let y : ⊥ = omega arith in y)

-- the place is a line of which the answer is no, and all before it are yes; k counts from the first answer
record NoAt (answers : List Bool) (k : ℕ) : Type 0 where
  no : get_or answers k true ≡ false
  before : (j : ℕ) → j < k → get_or answers j true ≡ true

one_later : (answers : List Bool) (k : ℕ) → NoAt answers k → NoAt (true ∷ answers) (suc k)
one_later answers k n = record { no = n.no; before = earlier }
  where
    earlier : (j : ℕ) → j < suc k → get_or (true ∷ answers) j true ≡ true
    earlier zero h = refl
    earlier (suc j) h = n.before j (omega arith)

no_from : (line : ℕ) (answers : List Bool) (place : ℕ) → 1 ≤ line → first_no_from line answers ≡ place → 1 ≤ place → (k : ℕ) × (place ≡ line + k) × NoAt answers k
unfolding first_no_from
no_from line [] place h e p = absurd (let z : ⊥ = omega (arith, e, p) in z)
no_from line (true ∷ answers) place h e p =
    let r = no_from (suc line) answers place (omega arith) e p in let q = r.1 in (suc r.0, omega (arith, q), one_later answers r.0 r.2)
no_from line (false ∷ answers) place h e p = (0, omega (arith, e), record { no = refl; before = λ j l. absurd (let z : ⊥ = omega arith in z) })

at_from : (line : ℕ) (answers : List Bool) (k : ℕ) → get_or answers k true ≡ false → ((j : ℕ) → j < k → get_or answers j true ≡ true) → first_no_from line answers ≡ line + k
unfolding first_no_from
at_from line [] zero e h = absurd (let z : ◌≡◌ {A = ℕ} 0 1 = cc in let y : ⊥ = omega arith in y)
at_from line [] (suc k) e h = absurd (let z : ◌≡◌ {A = ℕ} 0 1 = cc in let y : ⊥ = omega arith in y)
at_from line (true ∷ answers) zero e h = absurd (let z : ◌≡◌ {A = ℕ} 0 1 = cc in let y : ⊥ = omega arith in y)
at_from line (true ∷ answers) (suc k) e h = let r = at_from (suc line) answers k e (λ j l. h (suc j) (omega (arith, l))) in omega (arith, r)
at_from line (false ∷ answers) zero e h = omega arith
at_from line (false ∷ answers) (suc k) e h =
    absurd (let first : 0 < suc k = omega arith in let f : false ≡ true = h 0 first in let z : ◌≡◌ {A = ℕ} 0 1 = cc in let y : ⊥ = omega arith in y)

first_no_at : (answers : List Bool) (place : ℕ) → 1 ≤ place → (k : ℕ) × (place ≡ 1 + k) × NoAt answers k → FirstNo answers place
first_no_at answers place h (k, e, n) =
    let less : place - 1 ≡ k = omega (arith, e) in
    record { line = h; no = rw less n.no; before = λ line l m. n.before (line - 1) (omega (arith, l, m, e)) }

first_no_is : (answers : List Bool) (place : ℕ) → 1 ≤ place → get_or answers (place - 1) true ≡ false → ((j : ℕ) → j < place - 1 → get_or answers j true ≡ true) →
    first_no answers ≡ place
first_no_is answers place h refusal before = let r = at_from 1 answers (place - 1) refusal before in omega (arith, r, h)

-- ── the cause of each number, by the places ──────────────────────────────────────
module _ (long_enough : Bool) (text : Bytes) (place : ℕ) where
  abbrev At1 : Type 0
  At1 = (long_enough ≡ false) × (place ≡ 0)

  abbrev At2 : Type 0
  At2 = (long_enough ≡ true) × (place2 text ≡ place) × (1 ≤ place)

  abbrev At3 : Type 0
  At3 = (long_enough ≡ true) × (place2 text ≡ 0) × (place3 text ≡ place) × (1 ≤ place)

  abbrev At4 : Type 0
  At4 = (long_enough ≡ true) × (place2 text ≡ 0) × (place3 text ≡ 0) × (place4 text ≡ place) × (1 ≤ place)

  abbrev At5 : Type 0
  At5 = (long_enough ≡ true) × (place2 text ≡ 0) × (place3 text ≡ 0) × (place4 text ≡ 0) × (place5 text ≡ place) × (1 ≤ place)

-- and of loading a listing: all questions pass
abbrev pub PlacesPass : Bool → Bytes → Listing → Type 0
PlacesPass long_enough text listing =
    (long_enough ≡ true) × (place2 text ≡ 0) × (place3 text ≡ 0) × (place4 text ≡ 0) × (place5 text ≡ 0) × (listing_in text ≡ listing)

-- ── each number exactly if its places ─────────────────────────────────────────────
-- question 1 is put first
table_is_long_enough : {n place : ℕ} (long_enough : Bool) (text : Bytes) → 2 ≤ n → loading long_enough text ≡ refused n place
    → (long_enough ≡ true) × (questions2to5 text ≡ refused n place)
unfolding loading
table_is_long_enough false text h e = absurd (let z : 1 ≡ _ = same_number e in let y : ⊥ = omega arith in y)
table_is_long_enough true text h e = (refl, e)

module _ (long_enough : Bool) (text : Bytes) (place : ℕ) where
  refused_1_placed : (loading long_enough text ≡ refused 1 place) ↔ At1 long_enough text place
  unfolding loading questions2to5
  refused_1_placed = (cause long_enough, λ c. rw (c.0, c.1))
    where
      cause : (t : Bool) → loading t text ≡ refused 1 place → (t ≡ false) × (place ≡ 0)
      cause false e = let z : 0 ≡ place = same_place e in (refl, omega arith)
      cause true e = absurd (let z = number_from 2 (place2 text) (from3 text) (λ d. let y = from3_number text d in omega arith) e in omega arith)

  refused_2_placed : (loading long_enough text ≡ refused 2 place) ↔ At2 long_enough text place
  unfolding loading questions2to5
  refused_2_placed = (cause, λ c. rw (c.0, c.1) (ask_fails 2 place (from3 text) c.2))
    where
      cause : loading long_enough text ≡ refused 2 place → At2 long_enough text place
      cause e =
          let q1 = table_is_long_enough long_enough text (omega arith) e in
          let q2 = asked_this 2 (place2 text) (from3 text) (λ d. let z = from3_number text d in omega arith) q1.1 in
          (q1.0, q2.0, q2.1)

  refused_3_placed : (loading long_enough text ≡ refused 3 place) ↔ At3 long_enough text place
  unfolding loading questions2to5
  refused_3_placed = (cause, λ c. rw (c.0, c.1, c.2) (ask_fails 3 place (from4 text) c.3))
    where
      cause : loading long_enough text ≡ refused 3 place → At3 long_enough text place
      cause e =
          let q1 = table_is_long_enough long_enough text (omega arith) e in
          let q2 = asked_others 2 (place2 text) (from3 text) (λ d. omega arith) q1.1 in
          let q3 = asked_this 3 (place3 text) (from4 text) (λ d. let z = from4_number text d in omega arith) q2.1 in
          (q1.0, q2.0, q3.0, q3.1)

  refused_4_placed : (loading long_enough text ≡ refused 4 place) ↔ At4 long_enough text place
  unfolding loading questions2to5
  refused_4_placed = (cause, λ c. rw (c.0, c.1, c.2, c.3) (ask_fails 4 place (from5 text) c.4))
    where
      cause : loading long_enough text ≡ refused 4 place → At4 long_enough text place
      cause e =
          let q1 = table_is_long_enough long_enough text (omega arith) e in
          let q2 = asked_others 2 (place2 text) (from3 text) (λ d. omega arith) q1.1 in
          let q3 = asked_others 3 (place3 text) (from4 text) (λ d. omega arith) q2.1 in
          let q4 = asked_this 4 (place4 text) (from5 text) (λ d. let z = from5_number text d in omega arith) q3.1 in
          (q1.0, q2.0, q3.0, q4.0, q4.1)

  refused_5_placed : (loading long_enough text ≡ refused 5 place) ↔ At5 long_enough text place
  unfolding loading questions2to5
  refused_5_placed = (cause, λ c. rw (c.0, c.1, c.2, c.3, c.4) (ask_fails 5 place (loaded (listing_in text)) c.5))
    where
      cause : loading long_enough text ≡ refused 5 place → At5 long_enough text place
      cause e =
          let q1 = table_is_long_enough long_enough text (omega arith) e in
          let q2 = asked_others 2 (place2 text) (from3 text) (λ d. omega arith) q1.1 in
          let q3 = asked_others 3 (place3 text) (from4 text) (λ d. omega arith) q2.1 in
          let q4 = asked_others 4 (place4 text) (from5 text) (λ d. omega arith) q3.1 in
          let q5 = asked_this 5 (place5 text) (loaded (listing_in text)) (λ d. not_loaded d) q4.1 in
          (q1.0, q2.0, q3.0, q4.0, q5.0, q5.1)

pub loaded_exactly_if : (long_enough : Bool) (text : Bytes) (listing : Listing) → (loading long_enough text ≡ loaded listing) ↔ PlacesPass long_enough text listing
unfolding loading questions2to5
loaded_exactly_if long_enough text listing = (cause long_enough, λ c. rw (c.0, c.1, c.2, c.3, c.4, c.5))
  where
    cause : (t : Bool) → loading t text ≡ loaded listing → PlacesPass t text listing
    cause false e = not_refused e
    cause true e =
        let q2 = asked_loaded 2 (place2 text) (from3 text) listing e in
        let q3 = asked_loaded 3 (place3 text) (from4 text) listing q2.1 in
        let q4 = asked_loaded 4 (place4 text) (from5 text) listing q3.1 in
        let q5 = asked_loaded 5 (place5 text) (loaded (listing_in text)) listing q4.1 in
        (refl, q2.0, q3.0, q4.0, q5.0, cc q5.1)

-- a refusal's number is not 0, so number 0 means that a listing is loaded
pub number_0_means_loaded : (long_enough : Bool) (text : Bytes) → loading_number (loading long_enough text) ≡ 0
    → (listing : Listing) × (loading long_enough text ≡ loaded listing)
unfolding loading_number loading questions2to5
number_0_means_loaded long_enough text = go (loading long_enough text) refl
  where
    not_zero : (t : Bool) {n place : ℕ} → loading t text ≡ refused n place → 1 ≤ n
    not_zero false {n} e = let z : 1 ≡ n = same_number e in omega arith
    not_zero true e = let z = number_from 2 (place2 text) (from3 text) (λ d. let y = from3_number text d in omega arith) e in omega arith

    go : (outcome : Loading) → loading long_enough text ≡ outcome → loading_number outcome ≡ 0 → (listing : Listing) × (loading long_enough text ≡ loaded listing)
    go (refused n place) e h = absurd (let z = not_zero long_enough e in let y : ⊥ = omega arith in y)
    go (loaded listing) e h = (listing, e)

-- ── each number exactly if its cause ─────────────────────────────────────────────
-- a place is 0 exactly if every answer is yes; it is a line exactly if that line is the first whose answer is no
module _ (answers : List Bool) where
  none_is_no : (first_no answers ≡ 0) ↔ AllYes answers
  none_is_no = (λ e line. yes_from 1 answers (omega arith) e (line - 1), λ h. all_from 1 answers (λ k. at_next k (h (suc k))))
    where
      at_next : (k : ℕ) → get_or answers (suc k - 1) true ≡ true → get_or answers k true ≡ true
      at_next k h = let e : suc k - 1 ≡ k = omega arith in rw e at h

  first_is_no : (place : ℕ) → ((first_no answers ≡ place) × (1 ≤ place)) ↔ FirstNo answers place
  first_is_no place = (there, back)
    where
      there : (first_no answers ≡ place) × (1 ≤ place) → FirstNo answers place
      there (e, h) = first_no_at answers place h (no_from 1 answers place (omega arith) e h)

      back : FirstNo answers place → (first_no answers ≡ place) × (1 ≤ place)
      back f =
          let l = f.line in
          let before : (j : ℕ) → j < place - 1 → get_or answers j true ≡ true = λ j h.
          (let e : suc j - 1 ≡ j = omega arith in let least : 1 ≤ suc j = omega arith in let most : suc j < place = omega (arith, h, l) in rw e at (f.before (suc j) least most)) in
          (first_no_is answers place l f.no before, l)

module _ (long_enough : Bool) (text : Bytes) (place : ℕ) where
  pub refused_1_exactly_if : (loading long_enough text ≡ refused 1 place) ↔ Cause1 long_enough text place
  refused_1_exactly_if = refused_1_placed long_enough text place

  pub refused_2_exactly_if : (loading long_enough text ≡ refused 2 place) ↔ Cause2 long_enough text place
  unfolding place2
  refused_2_exactly_if =
      let p = refused_2_placed long_enough text place in
      let first = first_is_no (answers2 text) place in
      (λ e. let c = p.0 e in (c.0, first.0 (c.1, c.2)), λ c. p.1 (c.0, (first.1 c.1).0, (first.1 c.1).1))

  pub refused_3_exactly_if : (loading long_enough text ≡ refused 3 place) ↔ Cause3 long_enough text place
  unfolding place2 place3
  refused_3_exactly_if =
      let p = refused_3_placed long_enough text place in
      let n2 = none_is_no (answers2 text) in
      let first = first_is_no (answers3 text) place in
      (λ e. let c = p.0 e in (c.0, n2.0 c.1, first.0 (c.2, c.3)), λ c. p.1 (c.0, n2.1 c.1, (first.1 c.2).0, (first.1 c.2).1))

  pub refused_4_exactly_if : (loading long_enough text ≡ refused 4 place) ↔ Cause4 long_enough text place
  unfolding place2 place3 place4
  refused_4_exactly_if =
      let p = refused_4_placed long_enough text place in
      let n2 = none_is_no (answers2 text) in
      let n3 = none_is_no (answers3 text) in
      let first = first_is_no (answers4 text) place in (
        λ e. let c = p.0 e in (c.0, n2.0 c.1, n3.0 c.2, first.0 (c.3, c.4)),
        λ c. p.1 (c.0, n2.1 c.1, n3.1 c.2, (first.1 c.3).0, (first.1 c.3).1),
      )

  pub refused_5_exactly_if : (loading long_enough text ≡ refused 5 place) ↔ Cause5 long_enough text place
  unfolding place2 place3 place4 place5
  refused_5_exactly_if =
      let p = refused_5_placed long_enough text place in
      let n2 = none_is_no (answers2 text) in
      let n3 = none_is_no (answers3 text) in
      let n4 = none_is_no (answers4 text) in
      let first = first_is_no (answers5 text) place in (
        λ e. let c = p.0 e in (c.0, n2.0 c.1, n3.0 c.2, n4.0 c.3, first.0 (c.4, c.5)),
        λ c. p.1 (c.0, n2.1 c.1, n3.1 c.2, n4.1 c.3, (first.1 c.4).0, (first.1 c.4).1),
      )

pub loads_by_cause : (long_enough : Bool) (text : Bytes) (listing : Listing) → (loading long_enough text ≡ loaded listing) ↔ AllPass long_enough text listing
unfolding place2 place3 place4 place5
loads_by_cause long_enough text listing =
    let p = loaded_exactly_if long_enough text listing in
    let n2 = none_is_no (answers2 text) in
    let n3 = none_is_no (answers3 text) in
    let n4 = none_is_no (answers4 text) in
    let n5 = none_is_no (answers5 text) in (
      λ e. let c = p.0 e in (c.0, n2.0 c.1, n3.0 c.2, n4.0 c.3, n5.0 c.4, c.5),
      λ c. p.1 (c.0, n2.1 c.1, n3.1 c.2, n4.1 c.3, n5.1 c.4, c.5),
    )
