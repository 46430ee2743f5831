-- A text put byte by byte, and the last line of a report.
use mathlib.Core.Path.{◌≡◌, refl, sym, ap, ◌∙◌}
use mathlib.Core.List.{List, [], ◌∷◌, ◌++◌}
use Prim.Native.Nat.{ℕ, zero, suc, ◌+◌, ◌≤◌, ◌<◌}
use native.Mathlib.Omega.{arith}
use native.Mathlib.Numerals.{add-one}
use lib.ListN.{length, get_or, take, set}
use lib.Seq.{sets, take-suc, length-take-le, length-sets, take_all}
use Rattle.listing.specs.Bytes.{bytes_of, figure}
use Rattle.streams.specs.Counts.{IsPrefixLen}
use Rattle.session_print.specs.Puts.{Puts}
use Rattle.session_print.proofs.Stores.{sets_append}
use Rattle.test_cases.specs.Summaries.{counted}

-- ── a text ───────────────────────────────────────────────────────────────────────
-- its first k bytes are put
pub record Putting (before : List ℕ) (at : ℕ) (text after : List ℕ) (k : ℕ) : Type 0 where
  pub most : k ≤ length text
  pub stored : after ≡ sets before at (take k text)

pub putting_begun : (before : List ℕ) (at : ℕ) (text : List ℕ) → Putting before at text before 0
putting_begun before at text = record { most = omega arith; stored = refl }

pub putting_on : (before : List ℕ) (at : ℕ) (text after : List ℕ) (k : ℕ) → Putting before at text after k → k < length text →
    (next : List ℕ) → next ≡ set after (at + k) (get_or text k 0) → Putting before at text next (k + 1)
putting_on before at text after k v l next e =
    let len : length (take k text) ≡ k = length-take-le k text v.most in
    record {
      most = omega arith;
      stored = e ∙ ap (λ (m : List ℕ). set m (at + k) (get_or text k 0)) v.stored
          ∙ ap (λ (n : ℕ). set (sets before at (take k text)) (at + n) (get_or text k 0)) (sym len)
          ∙ sym (sets_append before at (take k text) (get_or text k 0 ∷ []))
          ∙ ap (sets before at) (sym (take-suc text k 0 l) ∙ ap (λ (n : ℕ). take n text) (sym (add-one k)));
    }

pub still_long : {before text after : List ℕ} {at k : ℕ} → Putting before at text after k → length after ≡ length before
still_long {before} {text} {after} {at} {k} v = ap length v.stored ∙ length-sets before at (take k text)

pub putting_done : (before : List ℕ) (at : ℕ) (text after : List ℕ) (k : ℕ) → Putting before at text after k → length text ≤ k → Puts before at text after (at + k)
putting_done before at text after k v l =
    record { past = omega (arith, v.most); stored = v.stored ∙ ap (sets before at) (take_all k text l) }

-- what is put from the beginning on, if there is room
pub counts : {before bytes after : List ℕ} {r : ℕ} → Puts before 0 bytes after r → r ≤ length before → IsPrefixLen r after
counts {before} {bytes} {after} {r} p h =
    let size : length after ≡ length before = ap length p.stored ∙ length-sets before 0 bytes in
    let inside : r ≤ length after = omega arith in
    (inside, sym (length-take-le r after inside))

-- ── the last line ────────────────────────────────────────────────────────────────
pub counted_agree : (cases failed : ℕ) → failed ≡ 0 → figure cases ++ bytes_of " cases agree\n" ≡ counted cases failed
unfolding counted
counted_agree cases failed e = rw e

pub counted_fail : (cases failed : ℕ) → (failed ≡ 0 → ⊥) → figure failed ++ (bytes_of " of " ++ (figure cases ++ bytes_of " cases fail\n")) ≡ counted cases failed
unfolding counted
counted_fail cases zero n = absurd (n refl)
counted_fail cases (suc failed) n = refl
