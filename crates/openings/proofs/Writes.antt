-- The writes of three lists, by places. Letters: ms moments, os outputs, vs values, k a place.
use mathlib.Core.Path.{◌≡◌, refl, ap}
use mathlib.Core.List.{List, [], ◌∷◌}
use Prim.Native.Nat.{ℕ, suc, ◌<◌}
use native.Mathlib.Omega.{arith}
use lib.ListN.{length, get_or, drop}
use lib.Seq.{drop-cons}
use Rattle.openings.specs.Writes.{Write, writes_of}

-- write k
abbrev pub write_at : List ℕ → List ℕ → List ℕ → ℕ → Write
write_at ms os vs k = record { moment = get_or ms k 0; output = get_or os k 0; value = get_or vs k 0 }

-- the writes from place k on
abbrev pub writes_from : List ℕ → List ℕ → List ℕ → ℕ → List Write
writes_from ms os vs k = writes_of (drop k ms) (drop k os) (drop k vs)

pub writes_length : (ms os vs : List ℕ) → length ms ≡ length os → length ms ≡ length vs → length (writes_of ms os vs) ≡ length ms
unfolding writes_of
writes_length [] os vs e f = refl
writes_length (m ∷ ms) [] vs e f = absurd (omega arith)
writes_length (m ∷ ms) (o ∷ os) [] e f = absurd (omega arith)
writes_length (m ∷ ms) (o ∷ os) (v ∷ vs) e f = ap suc (writes_length ms os vs (omega arith) (omega arith))

module _ (ms os vs : List ℕ) (e : length ms ≡ length os) (f : length ms ≡ length vs) (k : ℕ) where
  pub writes_step : k < length ms → writes_from ms os vs k ≡ write_at ms os vs k ∷ writes_from ms os vs (suc k)
  unfolding writes_of
  writes_step h =
      let ho : k < length os = omega arith in
      let hv : k < length vs = omega arith in
      rw (drop-cons ms k 0 h, drop-cons os k 0 ho, drop-cons vs k 0 hv)
