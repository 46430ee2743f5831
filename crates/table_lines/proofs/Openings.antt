-- What the lines `P` and `R` hold: the kinds of a routine's arguments as bits, and the figures.
use mathlib.Core.Path.{◌≡◌, refl, sym, ap, ◌∙◌}
use mathlib.Core.Bool.{Bool, true, false, cond}
use mathlib.Core.List.{List, [], ◌∷◌}
use mathlib.Core.Option.{Option, none, some}
use Prim.Native.Nat.{ℕ, zero, suc, ◌+◌, ◌*◌, ◌-◌, ◌≤◌, ◌<◌}
use native.Mathlib.Omega.{arith}
use lib.Dec.{eqb}
use lib.ListN.{length, get_or, drop}
use lib.Seq.{slice, slice-cons, slice_empty, length-slice}
use borrow.Author.Tests.{eqb-true, eqb-false}
use Rattle.listing.specs.Expressions.{word_range, each, alone}
use Rattle.listing.specs.Form.{Field, next_field_lem, none_left_lem, one_piece_lem, read_number, read_kind, read_kinds, read_ports, read_opens}
use Rattle.listing.specs.Listing as L
use Rattle.listing.proofs.Splits.{split_has_part}
use Rattle.table.specs.Areas.{kind_bits}
use Rattle.text_place.specs.Texts.{first_piece_lem, first_field, ends_piece, fields_left, piece_end, field_pieces, Within}
use Rattle.text_place.specs.Places.{passed, taken_at}
use Rattle.text_place.specs.declared.place.Place.{Place}
use Rattle.text_place.specs.declared.place.Taken.{Taken}
use Rattle.text_place.proofs.Places.{pieces_turn, pieces_last, field_last, before_slice, end_in, passed_in}
use Rattle.text_jumps.specs.Records.{end_next}
use Rattle.text_jumps.proofs.Chain.{first, next_shut}
use Rattle.table_lines.specs.Kinds.{kind_bit, bits_of, FewKinds, kinds_of, kinds_answer}
use Rattle.table_lines.specs.Lines.{holds_of, words_after, Fits, Good, line_of, held_for}
use Rattle.table_lines.specs.Lines as S
use Rattle.table_cells.specs.Words.{word_answer}
use Rattle.table_lines.specs.declared.opens.Kinds.{Kinds}
use Rattle.text_fields.specs.declared.field.Read.{Read}
use Rattle.table_lines.specs.declared.line.Holds.{Holds}
use Rattle.table_lines.specs.declared.line.Holds.TheVariants as HV
use Rattle.table_cells.proofs.Fields.{stop_of, next_of, field_was, shut_was, last_was, word_read_is, word_known, each_more, each_none, each_length}

-- ── a field of one piece ─────────────────────────────────────────────────────────
module _ {A : Type 0} (f : List ℕ → Option A) (s : List ℕ) (c : Place) (x : A) (h : one_piece_lem f (field_pieces s c.offset) ≡ some x) where
  -- no space closes its piece
  pub no_space : get_or s (piece_end s c.offset) 0 ≡ 32 → ⊥
  unfolding one_piece_lem
  no_space e =
      let p = split_has_part 32 (first_field (drop (piece_end s c.offset + 1) s)) in
      let two : field_pieces s c.offset ≡ first_piece_lem (drop c.offset s) ∷ (p.head ∷ p.rest) = pieces_turn s c.offset e ∙ ap (λ (ws : Field). first_piece_lem (drop c.offset s) ∷ ws) p.is in
      let no : none ≡ some x = ap (one_piece_lem f) (sym two) ∙ h in
      let z : ◌≡◌ {A = ℕ} 0 1 = cc in omega arith

  pub one_read : f (first_piece_lem (drop c.offset s)) ≡ some x
  unfolding one_piece_lem
  one_read = ap (one_piece_lem f) (sym (pieces_last s c.offset no_space)) ∙ h

  module _ (p : Taken) (ep : p ≡ taken_at s c) where
    pub one_stop : p.stop ≡ stop_of s c
    one_stop = ap (λ (t : Taken). t.stop) ep ∙ ap (λ (e : ℕ). get_or s e 0) (field_last s c.offset no_space)

    pub one_next : p.next ≡ next_of s c
    one_next = ap (λ (t : Taken). t.next) ep ∙ ap (passed s c.line) (field_last s c.offset no_space)

    pub one_text : c.offset ≤ length s → f (slice p.from p.to s) ≡ some x
    one_text i = rw (ep, before_slice ends_piece s c.offset i) one_read

-- a piece's bytes, and the place past it
module _ (s : List ℕ) (c : Place) (w : Within s c.offset c.line) (p : Taken) (ep : p ≡ taken_at s c) where
  pub piece_in : (p.from ≤ p.to) × (p.to ≤ length s)
  piece_in = rw ep ((let z : c.offset ≤ piece_end s c.offset = omega arith in z), end_in ends_piece s c.offset w.inside)

  pub piece_next : Within s p.next.offset p.next.line
  piece_next = rw ep (passed_in s c.offset c.line (piece_end s c.offset) w (omega arith) (end_in ends_piece s c.offset w.inside))

-- ── kinds ────────────────────────────────────────────────────────────────────────
kind_bit_lem : (byte : ℕ) (kind : L.Kind) (kinds : List L.Kind) → read_kind byte ≡ some kind → 2 * kind_bits kinds + kind_bit byte ≡ kind_bits (kind ∷ kinds)
unfolding read_kind kind_bits
kind_bit_lem byte kind kinds h = go (eqb byte 114) refl (eqb byte 118) kind h
  where
    go : (u : Bool) → eqb byte 114 ≡ u → (v : Bool) (k : L.Kind) → cond u (some L.Kind.by_reference) (cond v (some L.Kind.by_value) none) ≡ some k → 2 * kind_bits kinds + kind_bit byte ≡ kind_bits (k ∷ kinds)
    go true i v L.Kind.by_reference e = rw i (let z : 2 * kind_bits kinds + 1 ≡ 1 + 2 * kind_bits kinds = omega arith in z)
    go true i v L.Kind.by_value e = absurd (let z : ◌≡◌ {A = ℕ} 0 1 = cc in omega arith)
    go false i true L.Kind.by_reference e = absurd (let z : ◌≡◌ {A = ℕ} 0 1 = cc in omega arith)
    go false i true L.Kind.by_value e = rw i (let z : 2 * kind_bits kinds + 0 ≡ 2 * kind_bits kinds = omega arith in z)
    go false i false k e = absurd (let z : ◌≡◌ {A = ℕ} 0 1 = cc in omega arith)

bits_are : (bytes : List ℕ) (kinds : List L.Kind) → each read_kind bytes ≡ some kinds → bits_of bytes ≡ kind_bits kinds
unfolding bits_of kind_bits
bits_are [] kinds h = rw (each_none read_kind kinds h)
bits_are (byte ∷ bytes) kinds h =
    let m = each_more read_kind byte bytes kinds h in
    rw (bits_are bytes m.1 m.4) (kind_bit_lem byte m.0 m.1 m.3 ∙ ap kind_bits (sym m.2))

-- at most n letters give a number below 2 to the n; here as a doubling
unfoldable double : ℕ → ℕ
double zero = 1
double (suc n) = 2 * double n

bit_most : (byte : ℕ) → kind_bit byte ≤ 1
bit_most byte = go (eqb byte 114)
  where
    go : (u : Bool) → cond u 1 0 ≤ 1
    go true = omega arith
    go false = omega arith

bits_below : (n : ℕ) (bytes : List ℕ) → length bytes ≤ n → bits_of bytes < double n
unfolding bits_of double
bits_below zero [] h = omega arith
bits_below (suc n) [] h = let i = bits_below n [] (omega arith) in omega arith
bits_below zero (byte ∷ bytes) h = absurd (let z : ⊥ = omega arith in z)
bits_below (suc n) (byte ∷ bytes) h = let i = bits_below n bytes (omega arith) in omega (arith, bit_most byte)

pub bits_small : (bytes : List ℕ) → length bytes ≤ 16 → bits_of bytes < 65536
unfolding double
bits_small bytes h = bits_below 16 bytes h

-- ── the bits, letter by letter from the last ─────────────────────────────────────
module _ (s : List ℕ) (from to : ℕ) where
  pub record BitsFrom (i bits : ℕ) : Type 0 where
    pub low : from ≤ i
    pub high : i ≤ to
    pub are : bits ≡ bits_of (slice i to s)

  pub bits_begun : from ≤ to → BitsFrom to 0
  unfolding bits_of
  bits_begun h = record { low = h; high = omega arith; are = rw (slice_empty to s) }

  module _ (i bits : ℕ) (v : BitsFrom i bits) where
    pub bits_word : to ≤ length s → to ≤ from + 16 → bits < 65536
    bits_word most few = rw v.are (bits_small (slice i to s) (omega (arith, length-slice i to s most, v.low)))

    pub bits_on : to ≤ length s → (bit : ℕ) → from < i → bit ≡ kind_bit (get_or s (i - 1) 0) → BitsFrom (i - 1) (2 * bits + bit)
    unfolding bits_of
    bits_on most bit h e =
        let j : suc (i - 1) ≡ i = omega arith in
        let turn : slice (i - 1) to s ≡ get_or s (i - 1) 0 ∷ slice i to s =
        slice-cons (i - 1) to s 0 (omega (arith, v.high)) most ∙ ap (λ (k : ℕ). get_or s (i - 1) 0 ∷ slice k to s) j in
        record { low = omega arith; high = omega (arith, v.high); are = rw (turn, e, v.are) }

    pub bits_done : i ≤ from → bits ≡ bits_of (slice from to s)
    bits_done n = let j : i ≡ from = omega (arith, v.low) in v.are ∙ ap (λ (k : ℕ). bits_of (slice k to s)) j

-- ── the kinds of a piece ─────────────────────────────────────────────────────────
data KindsWere (byte : ℕ) (rest : List ℕ) (kinds : List L.Kind) : Type 0 where
  dash : byte ≡ 45 → rest ≡ [] → kinds ≡ [] → KindsWere byte rest kinds
  letters : (byte ≡ 45 → ⊥) → each read_kind (byte ∷ rest) ≡ some kinds → KindsWere byte rest kinds

kinds_were : (byte : ℕ) (rest : List ℕ) (kinds : List L.Kind) → read_kinds (byte ∷ rest) ≡ some kinds → KindsWere byte rest kinds
unfolding read_kinds alone
kinds_were byte rest kinds h = go (eqb byte 45) refl h
  where
    lone : (l : List ℕ) → alone l [] ≡ some kinds → (l ≡ []) × (kinds ≡ [])
    lone [] e = (refl, cc)
    lone (x ∷ l) e = absurd (let z : ◌≡◌ {A = ℕ} 0 1 = cc in omega arith)

    go : (u : Bool) → eqb byte 45 ≡ u → cond u (alone rest []) (each read_kind (byte ∷ rest)) ≡ some kinds → KindsWere byte rest kinds
    go true i e = let l = lone rest e in dash (eqb-true byte 45 i) l.0 l.1
    go false i e = letters (eqb-false byte 45 i) e

module _ (s : List ℕ) (from to : ℕ) (h : from ≤ to) (k : to ≤ length s) where
  abbrev text : List ℕ
  text = slice from to s

  text_length : length text ≡ to - from
  text_length = length-slice from to s k

  text_more : from < to → text ≡ get_or s from 0 ∷ slice (suc from) to s
  text_more l = slice-cons from to s 0 l k

  module _ (g : FewKinds text) where
    pub some_letter : from < to
    unfolding read_kinds
    some_letter = go text refl
      where
        go : (l : List ℕ) → text ≡ l → from < to
        go [] e = absurd (let f : none ≡ some g.kinds = ap read_kinds (sym e) ∙ g.reads in let z : ◌≡◌ {A = ℕ} 0 1 = cc in omega arith)
        go (x ∷ l) e = omega (arith, text_length, ap length e)

    were : KindsWere (get_or s from 0) (slice (suc from) to s) g.kinds
    were = kinds_were (get_or s from 0) (slice (suc from) to s) g.kinds (ap read_kinds (sym (text_more some_letter)) ∙ g.reads)

    answer_is : (count bits : ℕ) → count ≡ length g.kinds → bits ≡ kind_bits g.kinds → record { count = count; bits = bits } ≡ kinds_answer text
    answer_is count bits i j = rw (i, j) (ap (λ (o : Option (List L.Kind)). record { count = length (kinds_of o); bits = kind_bits (kinds_of o) }) (sym g.reads))

    pub kinds_none : get_or s from 0 ≡ 45 → record { count = 0; bits = 0 } ≡ kinds_answer text
    unfolding kind_bits
    kinds_none i = go were
      where
        go : KindsWere (get_or s from 0) (slice (suc from) to s) g.kinds → record { count = 0; bits = 0 } ≡ kinds_answer text
        go (dash i j q) = answer_is 0 0 (rw q) (rw q)
        go (letters o j) = absurd (o i)

    module _ (o : get_or s from 0 ≡ 45 → ⊥) where
      letters_read : each read_kind (get_or s from 0 ∷ slice (suc from) to s) ≡ some g.kinds
      letters_read = go were
        where
          go : KindsWere (get_or s from 0) (slice (suc from) to s) g.kinds → each read_kind (get_or s from 0 ∷ slice (suc from) to s) ≡ some g.kinds
          go (dash i j q) = absurd (o i)
          go (letters p i) = i

      pub kinds_number : to - from ≡ length g.kinds
      kinds_number =
          let l = each_length read_kind (get_or s from 0 ∷ slice (suc from) to s) g.kinds letters_read in
          omega (arith, text_length, l, ap length (text_more some_letter))

      pub kinds_some : (bits : ℕ) → bits ≡ bits_of text → record { count = to - from; bits = bits } ≡ kinds_answer text
      kinds_some bits b =
          answer_is (to - from) bits kinds_number
          (b ∙ ap bits_of (text_more some_letter) ∙ bits_are (get_or s from 0 ∷ slice (suc from) to s) g.kinds letters_read)

-- ── the two lines ────────────────────────────────────────────────────────────────
pub held_is : (o : Option L.Line) (x : L.Line) (h : Holds) (next end : Place) → o ≡ some x → h ≡ holds_of x → next ≡ end → record { holds = h; next = next } ≡ held_for o end
held_is o x h next end e i j = rw (e, i, j)

-- what fits, taken apart
ports_fit : {i o : ℕ} → Fits (L.Line.ports i o) → (i < word_range) × (o < word_range)
ports_fit (S.Fits.ports l m) = (l, m)

opens_fit : {kinds : List L.Kind} {locals : ℕ} → Fits (L.Line.opens kinds locals) → (length kinds ≤ 16) × (locals < word_range)
opens_fit (S.Fits.opens l m) = (l, m)

module _ (s : List ℕ) (c : Place) (b : ℕ) (w : Within s c.offset c.line) where
  abbrev fields : List Field
  fields = fields_left b (drop c.offset s)

  -- ── `P` ────────────────────────────────────────────────────────────────────────
  record PortsWere : Type 0 where
    i : ℕ
    o : ℕ
    reads : read_ports fields ≡ some (L.Line.ports i o)
    fits : Fits (L.Line.ports i o)
    first_is_lem : first read_number s c b ≡ some i
    second_is : first read_number s (next_of s c) (stop_of s c) ≡ some o
    end : next_of s (next_of s c) ≡ end_next s c b

  ports_were : Good (read_ports fields) → PortsWere
  ports_were g =
      let x = g.line in
      let f = field_was read_number s c b (λ i fields. next_field_lem read_number fields (λ o fields. none_left_lem fields (L.Line.ports i o))) x w g.reads in
      let c₁ = next_of s c in
      let h = field_was read_number s c₁ (stop_of s c) (λ o fields. none_left_lem fields (L.Line.ports f.value o)) x f.got.within f.rest in
      let line = L.Line.ports f.value h.value in
      let is : x ≡ line = last_was s (next_of s c₁).offset (stop_of s c₁) line x h.rest in
      let shut = shut_was s (next_of s c₁).offset (stop_of s c₁) line x h.rest in
      record {
        i = f.value;
        o = h.value;
        reads = g.reads ∙ ap (λ (l : L.Line). some l) is;
        fits = rw is at g.fits;
        first_is_lem = f.is;
        second_is = h.is;
        end = sym (next_shut s (next_of s c₁) (stop_of s c₁) shut) ∙ h.got.nexts ∙ f.got.nexts;
      }

  -- it writes no word
  pub ports_keep : Good (read_ports fields) → (e a : ℕ) (t : List ℕ) → t ≡ words_after (line_of (read_ports fields)) e a t
  ports_keep g e a t = ap (λ (o : Option L.Line). words_after (line_of o) e a t) (sym (ports_were g).reads)

  pub ports_held : Good (read_ports fields) → (inputs : Read ℕ) → inputs ≡ word_answer s c b → (outputs : Read ℕ) → outputs ≡ word_answer s inputs.next inputs.stop
      → record { holds = HV.Ports inputs.value outputs.value; next = outputs.next } ≡ held_for (read_ports fields) (end_next s c b)
  ports_held g inputs ei outputs eo = go (ports_were g)
    where
      go : PortsWere → record { holds = HV.Ports inputs.value outputs.value; next = outputs.next } ≡ held_for (read_ports fields) (end_next s c b)
      go p =
          let is = word_known s c b p.i inputs p.first_is_lem ei in
          let stop : inputs.stop ≡ stop_of s c = ap (λ (v : Read ℕ). v.stop) (ei ∙ word_read_is s c b p.i p.first_is_lem) in
          let os = word_known s (next_of s c) (stop_of s c) p.o outputs p.second_is (eo ∙ rw (is.next, stop)) in
          let l = ports_fit p.fits in
          held_is (read_ports fields) (L.Line.ports p.i p.o) (HV.Ports inputs.value outputs.value) outputs.next (end_next s c b) p.reads
          (ap (λ (v : ℕ). HV.Ports v outputs.value) (is.value l.0) ∙ ap (HV.Ports p.i) (os.value l.1)) (os.next ∙ p.end)

  -- ── `R` ────────────────────────────────────────────────────────────────────────
  record OpensWere : Type 0 where
    kinds : List L.Kind
    locals : ℕ
    reads : read_opens fields ≡ some (L.Line.opens kinds locals)
    fits : Fits (L.Line.opens kinds locals)
    one : one_piece_lem read_kinds (field_pieces s c.offset) ≡ some kinds
    second_is : first read_number s (next_of s c) (stop_of s c) ≡ some locals
    end : next_of s (next_of s c) ≡ end_next s c b

  opens_were : Good (read_opens fields) → OpensWere
  opens_were g =
      let x = g.line in
      let f = field_was (one_piece_lem read_kinds) s c b (λ kinds fields. next_field_lem read_number fields (λ locals fields. none_left_lem fields (L.Line.opens kinds locals))) x w g.reads in
      let c₁ = next_of s c in
      let h = field_was read_number s c₁ (stop_of s c) (λ locals fields. none_left_lem fields (L.Line.opens f.value locals)) x f.got.within f.rest in
      let line = L.Line.opens f.value h.value in
      let is : x ≡ line = last_was s (next_of s c₁).offset (stop_of s c₁) line x h.rest in
      let shut = shut_was s (next_of s c₁).offset (stop_of s c₁) line x h.rest in
      record {
        kinds = f.value;
        locals = h.value;
        reads = g.reads ∙ ap (λ (l : L.Line). some l) is;
        fits = rw is at g.fits;
        one = f.got.read;
        second_is = h.is;
        end = sym (next_shut s (next_of s c₁) (stop_of s c₁) shut) ∙ h.got.nexts ∙ f.got.nexts;
      }

  -- it writes no word
  pub opens_keep : Good (read_opens fields) → (e a : ℕ) (t : List ℕ) → t ≡ words_after (line_of (read_opens fields)) e a t
  opens_keep g e a t = ap (λ (o : Option L.Line). words_after (line_of o) e a t) (sym (opens_were g).reads)

  module _ (g : Good (read_opens fields)) (p : Taken) (ep : p ≡ taken_at s c) where
    pub opens_kinds : FewKinds (slice p.from p.to s)
    opens_kinds =
        let v = opens_were g in
        record { kinds = v.kinds; reads = one_text read_kinds s c v.kinds v.one p ep w.inside; few = (opens_fit v.fits).0 }

    pub opens_held : (kinds : Kinds) → kinds ≡ kinds_answer (slice p.from p.to s) → (locals : Read ℕ) → locals ≡ word_answer s p.next p.stop
        → record { holds = HV.Opens kinds.count kinds.bits locals.value; next = locals.next } ≡ held_for (read_opens fields) (end_next s c b)
    opens_held kinds ek locals el = go (opens_were g)
      where
        go : OpensWere → record { holds = HV.Opens kinds.count kinds.bits locals.value; next = locals.next } ≡ held_for (read_opens fields) (end_next s c b)
        go v =
            let stop = one_stop read_kinds s c v.kinds v.one p ep in
            let next = one_next read_kinds s c v.kinds v.one p ep in
            let ls = word_known s (next_of s c) (stop_of s c) v.locals locals v.second_is (el ∙ rw (next, stop)) in
            let text = one_text read_kinds s c v.kinds v.one p ep w.inside in
            let ks : kinds ≡ record { count = length v.kinds; bits = kind_bits v.kinds } =
            ek ∙ ap (λ (o : Option (List L.Kind)). record { count = length (kinds_of o); bits = kind_bits (kinds_of o) }) text in
            held_is (read_opens fields) (L.Line.opens v.kinds v.locals) (HV.Opens kinds.count kinds.bits locals.value) locals.next (end_next s c b) v.reads
            (ap (λ (k : Kinds). HV.Opens k.count k.bits locals.value) ks ∙ ap (HV.Opens (length v.kinds) (kind_bits v.kinds)) (ls.value (opens_fit v.fits).1)) (ls.next ∙ v.end)
