-- The cells of a field, written piece by piece.
use mathlib.Core.Path.{◌≡◌, refl, sym, ap, ◌∙◌}
use mathlib.Core.List.{List}
use Prim.Native.Nat.{ℕ, suc, ◌+◌, ◌*◌, ◌≤◌}
use native.Mathlib.Omega.{arith}
use native.Mathlib.Numerals.{add-one}
use lib.ListN.{length, set, length-set}
use lib.Seq.{slice, sets}
use Rattle.text_place.specs.Texts.{ends_field, field_end, field_pieces, Within}
use Rattle.text_place.specs.Places.{taken_at}
use Rattle.text_piece.specs.Pieces.{piece_answer}
use Rattle.text_place.specs.declared.place.Place.{Place}
use Rattle.text_place.specs.declared.place.Taken.{Taken}
use Rattle.text_piece.specs.declared.piece.Piece.{Piece}
use Rattle.text_place.proofs.Places.{passed_in, end_in}
use Rattle.text_fields.proofs.OnField.{OnField, begun, more_pieces, moved_on, still_on, last_piece, stop_at_end, next_at_end}
use Rattle.table_cells.specs.Cells.{cell_kind, cell_value, cells_of, cells_answer, WritesCells}

-- what is written so far and what is still to come is what the whole field gives
pub record Writing (s t₀ : List ℕ) (a plain at₀ line at count : ℕ) (t : List ℕ) : Type 0 where
  pub place : OnField s at₀ line at
  pub few : count ≤ at
  pub counted : count + length (field_pieces s at) ≡ length (field_pieces s at₀)
  pub long : length t ≡ length t₀
  pub same : sets t (a + 2 * count) (cells_of plain (field_pieces s at)) ≡ sets t₀ a (cells_of plain (field_pieces s at₀))

pub writing_begun : (s t : List ℕ) (a plain at line : ℕ) → at ≤ length s → Writing s t a plain at line at 0 t
writing_begun s t a plain at line h =
    let z : a + 2 * 0 ≡ a = omega arith in
    record { place = begun s at line h; few = omega arith; counted = omega arith; long = refl; same = ap (λ (i : ℕ). sets t i (cells_of plain (field_pieces s at))) z }

module _ (s t₀ : List ℕ) (a plain at₀ line at count : ℕ) (t : List ℕ) (v : Writing s t₀ a plain at₀ line at count t) (r : Taken) (ens : r ≡ taken_at s (record { offset = at; line = line }))
    (p : Piece) (piece : p ≡ piece_answer (slice r.from r.to s)) (t' : List ℕ) (put : t' ≡ set (set t (a + 2 * count) (cell_kind p plain)) (a + 2 * count + 1) (cell_value p)) where
  pub still_long : length t' ≡ length t₀
  still_long = ap length put ∙ length-set (set t (a + 2 * count) (cell_kind p plain)) (a + 2 * count + 1) (cell_value p) ∙ length-set t (a + 2 * count) (cell_kind p plain) ∙ v.long

  stored : t' ≡ set (set t (a + 2 * count) (cell_kind (piece_answer (slice r.from r.to s)) plain)) (suc (a + 2 * count)) (cell_value (piece_answer (slice r.from r.to s)))
  stored = put ∙ rw (piece, add-one)

  module _ (e : r.stop ≡ 32) where
    pub writing_on : Writing s t₀ a plain at₀ line r.next.offset (count + 1) t'
    unfolding cells_of
    writing_on =
        let m = more_pieces s at₀ line at v.place r ens e in
        let i : suc (suc (a + 2 * count)) ≡ a + 2 * (count + 1) = omega arith in
        record {
          place = still_on s at₀ line at v.place r ens e;
          few = omega (arith, v.few, moved_on s at₀ line at v.place r ens e);
          counted = omega (arith, v.counted, ap length m);
          long = still_long;
          same = sym (sym v.same ∙ ap (λ (ps : List (List ℕ)). sets t (a + 2 * count) (cells_of plain ps)) m
              ∙ ap (λ (u : List ℕ). sets u (suc (suc (a + 2 * count))) (cells_of plain (field_pieces s r.next.offset))) (sym stored)
              ∙ ap (λ (j : ℕ). sets t' j (cells_of plain (field_pieces s r.next.offset))) i);
        }

  module _ (n : r.stop ≡ 32 → ⊥) where
    pub writing_done : t' ≡ sets t₀ a (cells_of plain (field_pieces s at₀))
    unfolding cells_of
    writing_done = sym (sym v.same ∙ ap (λ (ps : List (List ℕ)). sets t (a + 2 * count) (cells_of plain ps)) (last_piece s at₀ line at v.place r ens n) ∙ sym stored)

    pub cells_are : (place : Place) → place.offset ≡ at₀ → place.line ≡ line → record { value = count + 1; stop = r.stop; next = r.next } ≡ cells_answer s place
    cells_are place i j =
        let l : count + 1 ≡ length (field_pieces s at₀) = omega (arith, v.counted, ap length (last_piece s at₀ line at v.place r ens n)) in
        let b = stop_at_end s at₀ line at v.place r ens n in
        let d = next_at_end s at₀ line at v.place r ens n in
        rw (i, j, d, b, l)

    -- the place past a field is within the text
    end_within : (place : Place) → place.offset ≡ at₀ → place.line ≡ line → Within s place.offset place.line → Within s r.next.offset r.next.line
    end_within place i j w =
        rw (← next_at_end s at₀ line at v.place r ens n, ← i, ← j)
        (passed_in s place.offset place.line (field_end s place.offset) w (omega arith) (end_in ends_field s place.offset w.inside))

    pub writes_cells : (place : Place) → place.offset ≡ at₀ → place.line ≡ line → Within s place.offset place.line
        → WritesCells s place a plain t₀ t' (record { value = count + 1; stop = r.stop; next = r.next })
    writes_cells place i j w =
        record {
          answer = cells_are place i j;
          written = rw i writing_done;
          some_cell = omega arith;
          few = omega (arith, v.few, v.place.inside);
          within = end_within place i j w;
        }
