-- From the start and the instant, made and printed, to what the session prints of them.
use mathlib.Core.Path.{◌≡◌, refl, sym, ap, subst, ◌∙◌}
use mathlib.Core.List.{List, ◌∷◌}
use mathlib.Core.Option.{some}
use Prim.Native.Nat.{ℕ, suc, ◌≤◌}
use lib.ListN.{length, replicate, length-replicate}
use lib.Seq.{drop_at}
use Rattle.listing.specs.Listing.{Listing}
use Rattle.walk.specs.State.{State}
use Rattle.walk.specs.Instant.{Write}
use Rattle.walk.specs.Calls.{Outcome, MachineAfter, untouched, halts, runs, halted_words, inputs_of, first_words, later_words, start_on}
use Rattle.walk.specs.Session.{session_allowance, played, call_from}
use Rattle.layout.specs.Layout.{layout}
use Rattle.session_calls.specs.Clock.{Runs}
use Rattle.session_calls.specs.declared.clock.Clock.{Clock}
use Rattle.session_printed.specs.Made.{CalledPrinted, StartPrinted, InstantPrinted}
use Rattle.session_printed.specs.declared.calls.Made.{Made}
use Rattle.session_replay.proofs.CallPrinted.{CallPrinted, bytes_of, printed_room, call_printed}

-- ── what any outcome leaves ───────────────────────────────────────────────────────────────────────
length_and_zeros : (k n m : ℕ) → suc n ≡ m → length (k ∷ replicate n 0) ≡ m
length_and_zeros k n m e = ap suc (length-replicate {A = ℕ} n 0) ∙ e

length_halted : (k : ℕ) → length (halted_words k) ≡ 12288
unfolding halted_words
length_halted k = length_and_zeros k 12287 12288 refl

pub machine_past : (table before machine : List ℕ) (o : Outcome) → MachineAfter layout table before machine o → later_words machine ≡ later_words before
machine_past table before machine _ (untouched e) = ap (λ (x : List ℕ). later_words x) e
machine_past table before machine _ (halts {k} e) = ap (λ (x : List ℕ). later_words x) e ∙ drop_at (halted_words k) (later_words before) 12288 (length_halted k)
machine_past table before machine _ (runs t m zero size past) = past

-- ── the two calls ─────────────────────────────────────────────────────────────────────────────────
-- The start, and what was printed of it.
pub record StartShown (table machine out : List ℕ) (made : Made) : Type 0 where
  pub room : bytes_of made ≤ length out
  pub prints : (l : Listing) → layout.read_table (first_words table) ≡ some l → CallPrinted table machine out l (played 0 0 (start_on l session_allowance)) made

-- The instant at t with these inputs, from a state at the present moment, and what was printed of it.
pub record InstantShown (table before machine out : List ℕ) (present t : ℕ) (inputs : List Write) (made : Made) : Type 0 where
  pub room : bytes_of made ≤ length out
  pub prints : (l : Listing) (s : State) (clock : Clock) → Runs table before clock l s → clock.now ≡ present →
      CallPrinted table machine out l (call_from l t inputs s) made

module _ {table before printedBefore machine out : List ℕ} {made : Made} where
  pub start_shown : StartPrinted table before printedBefore machine out made → StartShown table machine out made
  start_shown c = record { room = printed_room c.prints; prints = λ l reads. call_printed (c.call.walks l reads) c.prints }

  pub instant_shown : {present t : ℕ} {in_numbers in_values : List ℕ} → InstantPrinted present t in_numbers in_values table before printedBefore machine out made →
      InstantShown table before machine out present t (inputs_of in_numbers in_values) made
  unfolding call_from
  instant_shown {present} {t} c =
      record {
        room = printed_room c.prints;
        prints = λ l s clock standing at.
            call_printed (c.call.walks l s clock standing)
            (subst (λ (n : ℕ). CalledPrinted c.called n t c.numbers' c.values' printedBefore out made) (sym at ∙ standing.present) c.prints);
      }
