-- What the loader has done is what it promises.
use mathlib.Core.Path.{◌≡◌, refl, sym}
use mathlib.Core.Bool.{true}
use mathlib.Core.List.{List, ◌++◌}
use Prim.Native.Nat.{ℕ, ◌≤◌}
use native.Mathlib.Omega.{arith}
use lib.ListN.{length, take, drop, length-append, length-drop}
use lib.Seq.{take_at, drop_at}
use borrow.Author.Tests.{leb-true}
use Rattle.listing.specs.Load.{loading, refused, loaded, Loads, is_long_enough}
use Rattle.listing.specs.Questions.{listing_in}
use Rattle.listing.proofs.Causes.{loaded_exactly_if}
use Rattle.walk.specs.Promises.{untouched, holds, LoadPromise}
use Rattle.table.specs.Areas.{table_words}
use Rattle.table.proofs.Question6.{table_read_exactly_if}
use Rattle.layout.specs.Layout.{layout}

module _ (s before : List ℕ) where
  pub kept : (number place : ℕ) → refused number place ≡ loading (is_long_enough before) s → LoadPromise layout s before before (refused number place)
  kept number place e = (e, untouched refl)

  module _ (e : loaded (listing_in s) ≡ loading (is_long_enough before) s) where
    is_long : is_long_enough before ≡ true
    is_long = ((loaded_exactly_if (is_long_enough before) s (listing_in s)).0 (sym e)).0

    pub long : 12288 ≤ length before
    long = leb-true 12288 (length before) is_long

    pub loads : Loads s (listing_in s)
    loads = sym (rw is_long at e)

    pub filled : (part : List ℕ) → part ≡ table_words (listing_in s) → length (part ++ drop 12288 before) ≡ length before
        → LoadPromise layout s before (part ++ drop 12288 before) (loaded (listing_in s))
    filled part p same =
        let l : length part ≡ 12288 = omega (arith, same, length-append part (drop 12288 before), length-drop 12288 before, long) in
        let w : take 12288 (part ++ drop 12288 before) ≡ part = take_at part (drop 12288 before) 12288 l in
        (e, holds {listing = listing_in s} (rw w ((table_read_exactly_if part (listing_in s)).1 (s, loads, sym p))) same (drop_at part (drop 12288 before) 12288 l))
