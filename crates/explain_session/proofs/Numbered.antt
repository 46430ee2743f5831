-- A refusal whose reason is given by its number.
use mathlib.Core.Path.{◌≡◌, ap, ◌∙◌}
use mathlib.Core.List.{◌++◌, append_assoc}
use Prim.Native.Nat.{ℕ, ◌-◌}
use Rattle.std.specs.Prelude.{Some}
use Rattle.listing.specs.Bytes.{Bytes, bytes_of}
use Rattle.explain_parts.specs.Parts.{part_of}
use Rattle.explain_parts.specs.Shown.{shown}
use Rattle.explain_said.specs.Spots.{spot_text}
use Rattle.explain_said.specs.Numbers as number
use Rattle.explain_said.specs.Numbers.{spot_of}
use Rattle.explain_said.proofs.ByNumber.{placed}
use Rattle.explain_trace_said.specs.Places.{place_text}
use Rattle.explain_trace_said.specs.Reasons.{code_text}
use Rattle.explain_trace_said.specs.Numbers.{why_text}
use Rattle.explain_trace_said.specs.declared.reason.Numbered.{Numbered}
use Rattle.explain_session.specs.Told.{told_line, refused_text}

-- the file and the line, the field that the reason is about, its sentence with its figure, the line as it is shown, and the rule
pub refused : (path trace : Bytes) (line why field allowed code : ℕ) →
    refused_text (λ (n : Numbered). why_text n.why n.allowed) path trace
    (Some (record { line = line; fault = record { why = record { why = why; allowed = allowed }; spot = spot_of field 0 } })) code
    ≡ place_text 4096 path line
    ++ (number.place_text (part_of 10 trace (line - 1)) field 0 ++ (why_text why allowed ++ (bytes_of "\n    " ++ (shown 120 (part_of 10 trace (line - 1)) ++ code_text code))))
unfolding refused_text told_line
refused path trace line why field allowed code =
    let shown_line = part_of 10 trace (line - 1) in
    let rest = bytes_of "\n    " ++ (shown 120 shown_line ++ code_text code) in
    ap (λ (t : Bytes). place_text 4096 path line ++ t)
    (append_assoc (spot_text shown_line (spot_of field 0)) (why_text why allowed) rest
    ∙ ap (λ (t : Bytes). t ++ (why_text why allowed ++ rest)) (placed shown_line field 0))
