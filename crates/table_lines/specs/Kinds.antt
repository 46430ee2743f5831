-- The kinds of a routine's arguments as bits, from their letters.
use Rattle.std.specs.Prelude.{◌≡◌, cond, List, [], ◌∷◌, ℕ, ◌+◌, ◌*◌, ◌≤◌, eqb, length}
use Rattle.std.proofs.Math.Option.{Option, none, some}
use Prim.Native.Char.{code}
use Rattle.listing.specs.Bytes.{Bytes}
use Rattle.listing.specs.Form.{read_kinds}
use Rattle.listing.specs.Listing as L
use Rattle.table.specs.Areas.{kind_bits}
use Rattle.table_lines.specs.declared.opens.Kinds.{Kinds}

-- letter k is bit k: 1 for `r`
abbrev pub kind_bit : ℕ → ℕ
kind_bit byte = cond (eqb byte (code "r")) 1 0

unfoldable pub bits_of : Bytes → ℕ
bits_of [] = 0
bits_of (byte ∷ rest) = 2 * bits_of rest + kind_bit byte

-- bytes that are read as kinds, at most 16
pub record FewKinds (bytes : Bytes) : Type 0 where
  pub kinds : List L.Kind
  pub reads : read_kinds bytes ≡ some kinds
  pub few : length kinds ≤ 16

-- the kinds that were read; where none were, no kinds stand for them, and FewKinds rules that out
abbrev pub kinds_of : Option (List L.Kind) → List L.Kind
kinds_of none = []
kinds_of (some kinds) = kinds

-- how many, and their bits
abbrev pub kinds_answer : Bytes → Kinds
kinds_answer bytes = record { count = length (kinds_of (read_kinds bytes)); bits = kind_bits (kinds_of (read_kinds bytes)) }
