use mathlib.Core.Path.{◌≡◌}
use Prim.Native.Nat.{◌≤◌}
use lib.ListN.{length, drop}
use Rattle.listing.specs.Bytes.{split}
use Rattle.explain_trace_said.specs.Asked.{seen_from, count_all}
use Rattle.explain_trace_said.proofs.asked.count_asked.Given as goal

abbrev pub invariant-loop-line : goal.invariant-loop-line
invariant-loop-line l = record {
  few : l.seen ≤ length l.yielded;
  same : seen_from l.code l.seen (drop (length l.yielded) (split 10 l.listing)) ≡ count_all l.code l.listing;
}
