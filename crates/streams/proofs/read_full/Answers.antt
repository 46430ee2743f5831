use Rattle.std.proofs.Common.{Option, ◌≡◌, ℕ, ◌+◌, ◌≤◌, List, ◌++◌, length, take, ap, sym, ◌∙◌, arith, rules}
use lib.Seq.{length-take-le, take-append-add, take-append-le}
use Rattle.std.proofs.KnownBytes.{Consumes-trans}
use Rattle.std.specs.Io.KnownBytes.{Consumes}
use Rattle.streams.proofs.read_full.Goals as goal

-- the first bytes, where more were read behind those before
read_on : (old new : Option (List ℕ)) (done count all : ℕ) (bytes next rest : List ℕ) → done ≤ length bytes → count ≤ length next → all ≡ done + count
    → Consumes old new (take done bytes ++ take count next) → Consumes old new (take all (take done bytes ++ (next ++ rest)))
read_on old new done count all bytes next rest h k sum consumed =
    let together : take (done + count) (take done bytes ++ (next ++ rest)) ≡ take done bytes ++ take count next =
    ap (λ (n : ℕ). take (n + count) (take done bytes ++ (next ++ rest))) (sym (length-take-le done bytes h))
    ∙ take-append-add (take done bytes) (next ++ rest) count
    ∙ ap (λ (l : List ℕ). take done bytes ++ l) (take-append-le count next rest k) in
    rw (sum, together) consumed

pub loop-done-preserved : goal.loop-done-preserved
loop-done-preserved g c =
    let v = c.loop-done in
    let count = c.in-Ok.count in
    let bound = c.in-Ok.ensures.bound in
    let inside : v.done ≤ length v.bytes = omega arith in
    record {
      within = search rules;
      next = read_on _ _ v.done count _ v.bytes c.read.new.buf _ inside bound.0 (omega arith) (Consumes-trans _ _ _ (take v.done v.bytes) (take count c.read.new.buf) v.invariant.next c.in-Ok.ensures.bytes.0);
    }
