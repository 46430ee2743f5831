-- The end of a session by its code.
use mathlib.Core.Path.{◌≡◌, ap, ◌∙◌}
use Prim.Native.Nat.{ℕ, ◌≤◌, ◌<◌}
use borrow.Author.Tests.{le-leb, lt-leb, eq-eqb, ne_eqb}
use Rattle.listing.specs.Bytes.{Bytes, bytes_of}
use Rattle.std.specs.Prelude.{Option}
use Rattle.explain_trace.specs.Scans.{fault_of}
use Rattle.explain_trace.specs.declared.reasons.Reason.{Reason}
use Rattle.explain_trace.specs.declared.scan.TraceFault.{TraceFault}
use Rattle.explain_trace_said.specs.Reasons.{reason_text}
use Rattle.explain_played.specs.Endings.{leading_figure}
use Rattle.explain_played.specs.declared.ending.Ended.{Ended}
use Rattle.explain_session.specs.Told.{refused_text, stopped_text, plain_text, ended_text}

module _ (path trace listingPath listing : Bytes) (ended : Ended) where
  pub plays : ended.code ≡ 0 → plain_text path (bytes_of ": It plays to its end.\n") ≡ ended_text path trace listingPath listing ended
  unfolding ended_text
  plays e = rw (eq-eqb ended.code 0 e)

  module _ (n : ended.code ≡ 0 → ⊥) where
    pub stops : 13 ≤ ended.code → stopped_text path listingPath listing ended ≡ ended_text path trace listingPath listing ended
    unfolding ended_text
    stops h = rw (ne_eqb ended.code 0 n, le-leb 13 ended.code h)

    pub refuses : ended.code < 13 → (inputs : ℕ) (fault : Option (TraceFault Reason)) → inputs ≡ leading_figure listing → fault ≡ fault_of inputs trace →
        refused_text reason_text path trace fault ended.code ≡ ended_text path trace listingPath listing ended
    unfolding ended_text
    refuses h inputs fault e f =
        ap (λ (x : Option (TraceFault Reason)). refused_text reason_text path trace x ended.code) (f ∙ ap (λ (k : ℕ). fault_of k trace) e)
        ∙ rw (ne_eqb ended.code 0 n, lt-leb 13 ended.code h)
