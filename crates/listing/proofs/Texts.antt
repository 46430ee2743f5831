-- A text passes question 2 exactly if it is the text of lines that have form and stand where they may.
use mathlib.Core.Path.{◌≡◌, refl, sym, ap, ◌∙◌}
use mathlib.Core.Bool.{true, not}
use mathlib.Core.List.{List, [], ◌∷◌, ◌++◌, map}
use mathlib.Core.Option.{Option, none, some}
use mathlib.Core.Logic.{◌↔◌}
use Prim.Native.Nat.{ℕ, suc}
use native.Mathlib.Omega.{arith}
use Rattle.listing.specs.Lists.{all, is_empty, all_but_last, last_or, is_some, present, all_yes}
use Rattle.listing.specs.Bytes.{Bytes, line_feed, split, join}
use Rattle.listing.specs.Listing.{Line}
use Rattle.listing.specs.Form.{read_line}
use Rattle.listing.specs.Text.{line_text, lines_text}
use Rattle.listing.specs.Questions.{closed_lines, unclosed, read_lines, is_closed, form_answers, place2, records_of}
use Rattle.listing.proofs.Tests.{no_test, and_left, and_right}
use Rattle.listing.proofs.Splits.{join_split, split_at}
use Rattle.listing.proofs.Separators.{line_free}
use Rattle.listing.proofs.Reading.{line_read}
use Rattle.listing.proofs.LinesBack.{line_back}
use Rattle.listing.proofs.Answers.{yes_head, yes_append, yes_left, yes_right, yes_map, passes_means_yes, yes_means_passes}
use Rattle.listing.proofs.Records.{Standing, still, stand}

-- lines, each closed by a line feed
closing : List Bytes → Bytes
closing [] = []
closing (line ∷ lines) = line ++ (line_feed ∷ closing lines)

-- ── a text that passes question 2 ────────────────────────────────────────────────
closed_parts : (parts : List Bytes) → last_or [] parts ≡ [] → join line_feed parts ≡ closing (all_but_last parts)
unfolding last_or all_but_last join closing
closed_parts [] e = refl
closed_parts (part ∷ []) e = e
closed_parts (part ∷ next ∷ parts) e = rw (closed_parts (next ∷ parts) e)

pub is_empty_lem : {A : Type 0} (xs : List A) → is_empty xs ≡ true → xs ≡ []
is_empty_lem [] h = refl
is_empty_lem (x ∷ xs) h = no_test h

-- a closed text is its lines
closed_text : (text : Bytes) → is_closed text ≡ true → text ≡ closing (closed_lines text)
unfolding is_closed closed_lines unclosed
closed_text text h =
    let parts = split line_feed text in
    let e : last_or [] parts ≡ [] = is_empty_lem (last_or [] parts) (and_right (not (is_empty (all_but_last parts))) (is_empty (last_or [] parts)) h) in
    sym (join_split line_feed text) ∙ closed_parts parts e

record LinesRead (number : ℕ) (texts : List Bytes) (lines : List Line) : Type 0 where
  pub is : lines_text lines ≡ closing texts
  pub standing : Standing number lines

read_line_on : (number : ℕ) (text : Bytes) (texts : List Bytes) (o : Option Line) → read_line number text ≡ o → is_some o ≡ true
    → LinesRead (suc number) texts (present (read_lines (suc number) texts)) → LinesRead number (text ∷ texts) (present (o ∷ read_lines (suc number) texts))
unfolding present lines_text closing
read_line_on number text texts none e h r = no_test h
read_line_on number text texts (some line) e h r =
    let b = line_back number text line e in
    record { is = rw (b.is, r.is); standing = stand b.form b.stands r.standing }

lines_read : (number : ℕ) (texts : List Bytes) → all is_some (read_lines number texts) ≡ true → LinesRead number texts (present (read_lines number texts))
unfolding read_lines present lines_text closing all
lines_read number [] h = record { is = refl; standing = still }
lines_read number (text ∷ texts) h =
    read_line_on number text texts (read_line number text) refl (and_left (is_some (read_line number text)) (all is_some (read_lines (suc number) texts)) h)
    (lines_read (suc number) texts (and_right (is_some (read_line number text)) (all is_some (read_lines (suc number) texts)) h))

pub record InForm (text : Bytes) : Type 0 where
  pub is : lines_text (records_of text) ≡ text
  pub standing : Standing 1 (records_of text)
  pub begun : records_of text ≡ [] → ⊥

no_lines : (text : Bytes) → is_closed text ≡ true → closing (closed_lines text) ≡ [] → ⊥
unfolding is_closed closing
no_lines text h = go (closed_lines text) (and_left (not (is_empty (closed_lines text))) (is_empty (unclosed text)) h)
  where
    appended : (line rest : Bytes) → line ++ (line_feed ∷ rest) ≡ [] → ⊥
    appended [] rest e = absurd (let z : ◌≡◌ {A = ℕ} 0 1 = cc in omega arith)
    appended (byte ∷ line) rest e = absurd (let z : ◌≡◌ {A = ℕ} 0 1 = cc in omega arith)

    go : (lines : List Bytes) → not (is_empty lines) ≡ true → closing lines ≡ [] → ⊥
    go [] h e = no_test h
    go (line ∷ lines) h e = appended line (closing lines) e

pub question_2_passed : (text : Bytes) → place2 text ≡ 0 → InForm text
unfolding place2 form_answers records_of
question_2_passed text h =
    let readings = read_lines 1 (closed_lines text) in
    let answered = passes_means_yes 1 (map is_some readings ++ (is_closed text ∷ [])) (omega arith) h in
    let closed : is_closed text ≡ true = yes_head (is_closed text) [] (yes_right (map is_some readings) (is_closed text ∷ []) answered) in
    let forms : all is_some readings ≡ true = sym (yes_map is_some readings) ∙ yes_left (map is_some readings) (is_closed text ∷ []) answered in
    let r = lines_read 1 (closed_lines text) forms in
    record {
      is = r.is ∙ sym (closed_text text closed);
      standing = r.standing;
      begun = λ e. no_lines text closed (sym r.is ∙ ap lines_text e ∙ no_text);
    }
  where
    no_text : lines_text [] ≡ []
    no_text = unfold lines_text in refl

-- ── the text of lines ────────────────────────────────────────────────────────────
split_lines : {number : ℕ} {lines : List Line} → Standing number lines → split line_feed (lines_text lines) ≡ map line_text lines ++ ([] ∷ [])
unfolding lines_text split
split_lines still = refl
split_lines (stand {line = line} {lines = lines} h s r) = split_at (lines_text lines) (line_free line h) ∙ rw (split_lines r)

pub all_but_last-snoc : {A : Type 0} (xs : List A) (x : A) → all_but_last (xs ++ (x ∷ [])) ≡ xs
unfolding all_but_last
all_but_last-snoc [] x = refl
all_but_last-snoc (y ∷ []) x = refl
all_but_last-snoc (y ∷ z ∷ zs) x = rw (all_but_last-snoc (z ∷ zs) x)

pub last_or-snoc : {A : Type 0} (w : A) (xs : List A) (x : A) → last_or w (xs ++ (x ∷ [])) ≡ x
unfolding last_or
last_or-snoc w [] x = refl
last_or-snoc w (y ∷ []) x = refl
last_or-snoc w (y ∷ z ∷ zs) x = last_or-snoc w (z ∷ zs) x

pub closed_lines_of_text : {number : ℕ} {lines : List Line} → Standing number lines → closed_lines (lines_text lines) ≡ map line_text lines
unfolding closed_lines
closed_lines_of_text {lines = lines} s = rw (split_lines s) (all_but_last-snoc (map line_text lines) [])

unclosed_of_text : {number : ℕ} {lines : List Line} → Standing number lines → unclosed (lines_text lines) ≡ []
unfolding unclosed
unclosed_of_text {lines = lines} s = rw (split_lines s) (last_or-snoc [] (map line_text lines) [])

readings_of_text : {number : ℕ} {lines : List Line} → Standing number lines → read_lines number (map line_text lines) ≡ map some lines
unfolding read_lines
readings_of_text still = refl
readings_of_text {number} (stand {line = line} h s r) = rw (line_read number line h s, readings_of_text r)

present_some : {A : Type 0} (xs : List A) → present (map some xs) ≡ xs
unfolding present
present_some [] = refl
present_some (x ∷ xs) = rw (present_some xs)

yes_some : {A : Type 0} (xs : List A) → all_yes (map is_some (map some xs)) ≡ true
unfolding all
yes_some [] = refl
yes_some (x ∷ xs) = yes_some xs

pub records_of_text : {lines : List Line} → Standing 1 lines → records_of (lines_text lines) ≡ lines
unfolding records_of
records_of_text {lines} s = rw (closed_lines_of_text s, readings_of_text s) (present_some lines)

text_is_closed : (lines : List Line) → (lines ≡ [] → ⊥) → Standing 1 lines → is_closed (lines_text lines) ≡ true
unfolding is_closed
text_is_closed [] n s = absurd (n refl)
text_is_closed (line ∷ lines) n s = rw (closed_lines_of_text s, unclosed_of_text s)

pub question_2_passes : {lines : List Line} → (lines ≡ [] → ⊥) → Standing 1 lines → place2 (lines_text lines) ≡ 0
unfolding place2 form_answers all
question_2_passes {lines} n s =
    let readings = map is_some (read_lines 1 (closed_lines (lines_text lines))) in
    let read : all_yes readings ≡ true = rw (closed_lines_of_text s, readings_of_text s) (yes_some lines) in
    let closed : all_yes (is_closed (lines_text lines) ∷ []) ≡ true = rw (text_is_closed lines n s) in
    yes_means_passes 1 (readings ++ (is_closed (lines_text lines) ∷ [])) (yes_append readings (is_closed (lines_text lines) ∷ []) read closed)

-- a text passes exactly if it is the text of lines in form, of which there is one
pub question_2_exactly_if : (text : Bytes) → (place2 text ≡ 0) ↔ ((lines : List Line) × (lines_text lines ≡ text) × (lines ≡ [] → ⊥) × Standing 1 lines)
question_2_exactly_if text = (
  λ h. let f = question_2_passed text h in (records_of text, f.is, f.begun, f.standing),
  λ c. rw (← c.1) (question_2_passes c.2 c.3),
)
