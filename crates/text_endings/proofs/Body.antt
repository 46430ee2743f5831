-- The lines of a text in form: a `P`, then routines.
use mathlib.Core.Path.{◌≡◌, refl, sym, ◌∙◌}
use mathlib.Core.Bool.{Bool, true, false}
use mathlib.Core.List.{List, [], ◌∷◌}
use Prim.Native.Nat.{ℕ, zero, suc, ◌+◌, ◌≤◌, ◌<◌}
use native.Mathlib.Omega.{arith}
use lib.Dec.{ltb}
use lib.ListN.{length, drop}
use borrow.Author.Tests.{ne_eqb, ltb-true, ltb-false}
use Rattle.listing.specs.Form.{may_stand_on}
use Rattle.listing.specs.Questions.{place2}
use Rattle.listing.specs.Listing as L
use Rattle.text_place.specs.Texts.{line_end}
use Rattle.text_records.proofs.Lines.{formed_whole, records_end, next_line, place_end}
use Rattle.text_records.specs.Onward.{Formed, records_from}

-- ── no `P` after line 1 ──────────────────────────────────────────────────────────
pub data NoPorts : List L.Line → Type 0 where
  none_left : NoPorts []
  opens_more : {kinds : List L.Kind} {locals : ℕ} {lines : List L.Line} → NoPorts lines → NoPorts (L.Line.opens kinds locals ∷ lines)
  instruction_more : {i : L.Instruction} {lines : List L.Line} → NoPorts lines → NoPorts (L.Line.instruction i ∷ lines)

-- a `P`, and then nothing or an `R` and lines without a `P`
pub data Body : List L.Line → Type 0 where
  body_empty : {i o : ℕ} → Body (L.Line.ports i o ∷ [])
  body_opens : {i o : ℕ} {kinds : List L.Kind} {locals : ℕ} {lines : List L.Line} → NoPorts lines → Body (L.Line.ports i o ∷ (L.Line.opens kinds locals ∷ lines))

no_test : {A : Type 0} → false ≡ true → A
no_test e = absurd (let z : ◌≡◌ {A = ℕ} 0 1 = cc in omega arith)

put_first : (l : L.Line) (k : ℕ) (lines : List L.Line) → 2 ≤ k → may_stand_on k l ≡ true → NoPorts lines → NoPorts (l ∷ lines)
unfolding may_stand_on
put_first (L.Line.ports i o) k lines h e p = no_test (sym (ne_eqb k 1 (λ z. omega arith)) ∙ e)
put_first (L.Line.opens kinds locals) k lines h e p = opens_more p
put_first (L.Line.instruction i) k lines h e p = instruction_more p

no_ports_step : (s : List ℕ) (at k : ℕ) → Formed s at k → 2 ≤ k → ((next : ℕ) → Formed s next (k + 1) → at < next → NoPorts (records_from (k + 1) (drop next s))) → NoPorts (records_from k (drop at s))
no_ports_step s at k f h on = go (ltb at (length s)) refl
  where
    go : (t : Bool) → ltb at (length s) ≡ t → NoPorts (records_from k (drop at s))
    go false e = rw (records_end s at k (ltb-false at (length s) e)) none_left
    go true e =
        let n = next_line s at k f (ltb-true at (length s) e) in
        rw n.records (put_first n.line k _ h n.stands (on (line_end s at + 1) n.formed (omega arith)))

-- by the number of bytes that are left
pub no_ports : (fuel : ℕ) (s : List ℕ) (at k : ℕ) → Formed s at k → 2 ≤ k → length s ≤ at + fuel → NoPorts (records_from k (drop at s))
no_ports zero s at k f h b = rw (records_end s at k (omega arith)) none_left
no_ports (suc fuel) s at k f h b = no_ports_step s at k f h (λ next g m. no_ports fuel s next (k + 1) g (omega arith) (omega arith))

data Tail : List L.Line → Type 0 where
  tail_empty : Tail []
  tail_opens : {kinds : List L.Kind} {locals : ℕ} {lines : List L.Line} → NoPorts lines → Tail (L.Line.opens kinds locals ∷ lines)

put_ports : (l : L.Line) (rest : List L.Line) → may_stand_on 1 l ≡ true → Tail rest → Body (l ∷ rest)
unfolding may_stand_on
put_ports (L.Line.ports i o) _ e tail_empty = body_empty
put_ports (L.Line.ports i o) _ e (tail_opens p) = body_opens p
put_ports (L.Line.opens kinds locals) rest e t = no_test e
put_ports (L.Line.instruction i) rest e t = no_test e

put_main : (l : L.Line) (rest : List L.Line) → may_stand_on 2 l ≡ true → NoPorts rest → Tail (l ∷ rest)
unfolding may_stand_on
put_main (L.Line.ports i o) rest e p = no_test e
put_main (L.Line.opens kinds locals) rest e p = tail_opens p
put_main (L.Line.instruction i) rest e p = no_test e

tail_of : (s : List ℕ) (at : ℕ) → Formed s at 2 → Tail (records_from 2 (drop at s))
tail_of s at f = go (ltb at (length s)) refl
  where
    go : (t : Bool) → ltb at (length s) ≡ t → Tail (records_from 2 (drop at s))
    go false e = rw (records_end s at 2 (ltb-false at (length s) e)) tail_empty
    go true e =
        let n = next_line s at 2 f (ltb-true at (length s) e) in
        rw n.records (put_main n.line _ n.stands (no_ports (length s) s (line_end s at + 1) 3 n.formed (omega arith) (omega arith)))

pub body_of : (s : List ℕ) → place2 s ≡ 0 → Body (records_from 1 s)
body_of s e = go (ltb 0 (length s)) refl
  where
    f : Formed s 0 1
    f = formed_whole s e

    go : (t : Bool) → ltb 0 (length s) ≡ t → Body (records_from 1 s)
    go false i = absurd (let z : ⊥ = omega (arith, place_end s 0 1 (ltb-false 0 (length s) i), f.place) in z)
    go true i =
        let n = next_line s 0 1 f (ltb-true 0 (length s) i) in
        rw n.records (put_ports n.line _ n.stands (tail_of s (line_end s 0 + 1) n.formed))
