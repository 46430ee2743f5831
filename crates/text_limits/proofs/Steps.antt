-- What reading the next line of a text in form gives.
use Rattle.std.specs.Prelude.{Some, None}
use mathlib.Core.Path.{◌≡◌, ap, ◌∙◌}
use mathlib.Core.List.{List}
use Prim.Native.Nat.{ℕ, ◌+◌}
use native.Mathlib.Omega.{arith}
use Rattle.listing.specs.Listing as L
use Rattle.text_place.specs.Texts.{line_end}
use Rattle.text_place.specs.declared.place.Place.{Place}
use Rattle.text_fields.specs.declared.field.Read.{Read}
use Rattle.text_jumps.specs.Records.{as_record}
use Rattle.text_records.specs.Lines.{line_answer}
use Rattle.text_jumps.specs.declared.scope.Scope.{Scope}
use Rattle.text_jumps.specs.declared.record.Record.{Record}
use Rattle.text_records.proofs.Lines.{NextLine}

-- where there is nothing to point to
abbrev pub nothing : Scope
nothing = record { names = 0; size = 0 }

module _ (s : List ℕ) (at k : ℕ) (n : NextLine s at k) (rs : List L.Routine) (scope : Scope) where
  abbrev here : Place
  here = record { offset = at; line = k }

  abbrev line_read : Read Record
  line_read = record { value = as_record rs scope n.line; stop = 10; next = record { offset = line_end s at + 1; line = k + 1 } }

  pub never_bad : None ≡ line_answer rs scope s here → ⊥
  never_bad e = let f : None ≡ Some line_read = e ∙ n.answer rs scope in
      let z : ◌≡◌ {A = ℕ} 0 1 = cc in omega arith

  module _ (r : Read Record) (e : Some r ≡ line_answer rs scope s here) where
    whole : r ≡ line_read
    whole = let f : Some r ≡ Some line_read = e ∙ n.answer rs scope in cc

    pub record_is : r.value ≡ as_record rs scope n.line
    record_is = ap (λ (r : Read Record). r.value) whole

    pub offset_is : r.next.offset ≡ line_end s at + 1
    offset_is = ap (λ (r : Read Record). r.next.offset) whole

    pub line_is_lem : r.next.line ≡ k + 1
    line_is_lem = ap (λ (r : Read Record). r.next.line) whole
