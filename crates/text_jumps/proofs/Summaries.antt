-- What is told of a record, from what its fields gave.
use mathlib.Core.Path.{◌≡◌, refl, ap}
use mathlib.Core.Bool.{Bool, true, false, ◌&&◌}
use mathlib.Core.List.{List, ◌∷◌}
use Prim.Native.Nat.{ℕ, ◌+◌, ◌≤◌, min}
use lib.Dec.{ltb}
use lib.ListN.{length}
use Rattle.listing.specs.Lists.{all}
use Rattle.listing.specs.Limits.{instruction_pieces}
use Rattle.listing.specs.Questions.{piece_is_there, is_there, may_be_last, is_by_reference}
use Rattle.listing.specs.Listing as L
use Rattle.text_piece.specs.Pieces.{cap}
use Rattle.text_fields.specs.declared.gathering.Gathering.{Gathering}
use Rattle.text_fields.proofs.Gather.{capped_below}
use Rattle.text_jumps.specs.Records.{as_record}
use Rattle.text_jumps.specs.declared.scope.Scope.{Scope}
use Rattle.text_jumps.specs.declared.record.Record.TheVariants as CV
use Rattle.text_jumps.proofs.Chain.{Row}

module _ (rs : List L.Routine) (scope : Scope) where
  pub ports_is : (a b i o : ℕ) → a ≡ min i cap → b ≡ min o cap → CV.Ports a b ≡ as_record rs scope (L.Line.ports i o)
  ports_is a b i o p q = rw (p, q)

  pub opens_is : (n v : ℕ) (t : Bool) (kinds : List L.Kind) (locals : ℕ) → n ≡ length kinds → t ≡ all is_by_reference kinds → v ≡ min locals cap
      → CV.Opens n v t ≡ as_record rs scope (L.Line.opens kinds locals)
  opens_is n v t kinds locals p q r = rw (p, q, r)

  module _ (h : scope.names ≤ cap) where
    pub assign_is : (v k : ℕ) (t known : Bool) (n : ℕ) (e : L.Expression) → v ≡ min n cap → k ≡ length e → t ≡ all (piece_is_there scope.names) e → known ≡ (ltb v scope.names && t)
        → CV.Instruction (1 + k) known false ≡ as_record rs scope (L.Line.instruction (L.Instruction.assign n e))
    unfolding instruction_pieces is_there may_be_last
    assign_is v k t known n e a b c d = rw (d, a, b, c, capped_below n scope.names h)

    pub schedule_is : (v k m : ℕ) (t u first known : Bool) (n : ℕ) (d e : L.Expression) → v ≡ min n cap → k ≡ length d → m ≡ length e → t ≡ all (piece_is_there scope.names) d
        → u ≡ all (piece_is_there scope.names) e → first ≡ (ltb v scope.names && t) → known ≡ (first && u)
        → CV.Instruction (1 + k + m) known false ≡ as_record rs scope (L.Line.instruction (L.Instruction.schedule n d e))
    unfolding instruction_pieces is_there may_be_last
    schedule_is v k m t u first known n d e a b c f g i j = rw (j, i, a, b, c, f, g, capped_below n scope.names h) (ap (λ (t : Bool). CV.Instruction (1 + length d + length e) t false) (regroup (ltb n scope.names)))
      where
        regroup : (x : Bool) → ((x && all (piece_is_there scope.names) d) && all (piece_is_there scope.names) e) ≡ (x && all (piece_is_there scope.names) d && all (piece_is_there scope.names) e)
        regroup true = refl
        regroup false = refl

  module _ (h : scope.size ≤ cap) where
    pub branch_is : (k v : ℕ) (t known : Bool) (e : L.Expression) (j : ℕ) → k ≡ length e → t ≡ all (piece_is_there scope.names) e → v ≡ min j cap → known ≡ (t && ltb v scope.size)
        → CV.Instruction (k + 1) known false ≡ as_record rs scope (L.Line.instruction (L.Instruction.branch e j))
    unfolding instruction_pieces is_there may_be_last
    branch_is k v t known e j a b c d = rw (d, a, b, c, capped_below j scope.size h)

    pub jump_is : (v j : ℕ) → v ≡ min j cap → CV.Instruction 1 (ltb v scope.size) true ≡ as_record rs scope (L.Line.instruction (L.Instruction.jump j))
    unfolding instruction_pieces is_there may_be_last
    jump_is v j a = rw (a, capped_below j scope.size h)

  pub wait_is : (g : Gathering) (n : ℕ) (ns : List ℕ) → Row scope.names g n ns → CV.Instruction g.count g.there false ≡ as_record rs scope (L.Line.instruction (L.Instruction.wait (n ∷ ns)))
  unfolding instruction_pieces is_there may_be_last all
  wait_is g n ns r = rw (r.count, r.there)

  pub end_is : CV.Instruction 0 true true ≡ as_record rs scope (L.Line.instruction L.Instruction.end)
  unfolding instruction_pieces is_there may_be_last
  end_is = refl
