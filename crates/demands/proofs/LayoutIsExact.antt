-- Our layout is exact: question 6 passes on just the tables that loading leaves, question 7 on just the stopped form and the states of the walk.
use mathlib.Core.Path.{refl, sym, ◌∙◌, subst}
use Rattle.listing.specs.Listing.{Listing}
use Rattle.table.specs.Areas.{table_words}
use Rattle.table.specs.Decode.{table_listing}
use Rattle.table.proofs.Question6.{table_read_exactly_if, loaded_table_passes, loaded_table_stands_for}
use Rattle.table.proofs.Bounds.{bounds}
use Rattle.table.proofs.Table.{Meets, table_meets}
use Rattle.table.proofs.WalkBounds.{owned_few, code_few, children_few, ports_few}
use Rattle.machine.specs.Records.{records_of}
use Rattle.machine.specs.Layout.{words_of}
use Rattle.machine.specs.Limits.{WithinLimits}
use Rattle.machine.proofs.MachineWords.{read_is_a_state, running_first_word_is_0, every_state_has_words, halted_words_are_read, read_halted_is_the_stopped_form}
use Rattle.board_promises.specs.Exact.{LoadedFrom, ExactTable, ExactMachine, Exact}
use Rattle.layout.specs.Layout.{layout}

-- ── question 6 ────────────────────────────────────────────────────────────────────────────────────
table_is_exact : ExactTable layout
table_is_exact =
    record {
      only = λ words listing size e. let p = (table_read_exactly_if words listing).0 e in record { text = p.0; loads = p.1 };
      every = λ text listing h.
          record { words = table_words listing; long = (bounds (table_words listing) (loaded_table_passes text listing h)).words; reads = (table_read_exactly_if (table_words listing) listing).1 (text, h, refl) };
      one = λ words words' listing size size' e e'.
          let p = (table_read_exactly_if words listing).0 e in
          let q = (table_read_exactly_if words' listing).0 e' in
          sym p.2 ∙ q.2;
    }

-- ── question 7 ────────────────────────────────────────────────────────────────────────────────────
pub loaded_within_limits : (listing : Listing) → LoadedFrom listing → WithinLimits listing
loaded_within_limits listing from =
    subst (λ (l : Listing). WithinLimits l) (loaded_table_stands_for from.text listing from.loads) (limits (table_listing (table_words listing)) meets)
  where
    meets : Meets (table_listing (table_words listing))
    meets = table_meets (table_words listing) (loaded_table_passes from.text listing from.loads)

    limits : (l : Listing) → Meets l → WithinLimits l
    limits l m = record { owned = owned_few l m; code = code_few l m; children = children_few l m; ports = ports_few l m }

machine_is_exact : (listing : Listing) → LoadedFrom listing → ExactMachine layout listing
machine_is_exact listing from =
    record {
      halted_every = halted_words_are_read listing;
      halted_only = read_halted_is_the_stopped_form listing;
      state_only = read_is_a_state listing;
      running_first = running_first_word_is_0 listing;
      state_every = λ s h.
          let w = every_state_has_words listing (loaded_within_limits listing from) s h in
          record { words = words_of s.now s.environment (records_of h.tree 0); long = w.long; words32 = w.words32; reads = w.read };
    }

pub layout_is_exact : Exact layout
layout_is_exact = record { table = table_is_exact; machine = machine_is_exact }
