-- A reading place that goes through a field piece by piece.
use mathlib.Core.Path.{◌≡◌, refl, sym, ap, ◌∙◌}
use mathlib.Core.List.{List, [], ◌∷◌}
use Prim.Native.Nat.{ℕ, ◌+◌, ◌≤◌, ◌<◌}
use native.Mathlib.Omega.{arith}
use lib.ListN.{length, get_or, drop}
use lib.Seq.{slice}
use borrow.Author.Tests.{lt-ltb}
use Rattle.text_place.specs.Texts.{first_piece_lem, ends_piece, piece_end, field_end, field_pieces}
use Rattle.text_place.specs.Places.{passed, taken_at}
use Rattle.text_place.specs.declared.place.Taken.{Taken}
use Rattle.text_place.proofs.Places.{pieces_turn, field_turn, pieces_last, field_last, past_in, end_in, before_slice}

module _ (s : List ℕ) (at₀ line : ℕ) where
  -- an offset in the field that begins at at₀
  pub record OnField (at : ℕ) : Type 0 where
    pub inside : at ≤ length s
    pub after : at₀ ≤ at
    pub same : field_end s at ≡ field_end s at₀

  pub begun : at₀ ≤ length s → OnField at₀
  begun h = record { inside = h; after = omega arith; same = refl }

  module _ (at : ℕ) (v : OnField at) (r : Taken) (ens : r ≡ taken_at s (record { offset = at; line = line })) where
    from_is : r.from ≡ at
    from_is = ap (λ (t : Taken). t.from) ens

    to_is : r.to ≡ piece_end s at
    to_is = ap (λ (t : Taken). t.to) ens

    pub taken_within : (r.from ≤ r.to) × (r.to ≤ length s)
    taken_within = (omega (arith, from_is, to_is), rw to_is (end_in ends_piece s at v.inside))

    pub taken_text : slice r.from r.to s ≡ first_piece_lem (drop at s)
    taken_text = rw ens (before_slice ends_piece s at v.inside)

    stop_is : r.stop ≡ get_or s (piece_end s at) 0
    stop_is = ap (λ (t : Taken). t.stop) ens

    -- another piece follows
    module _ (e : r.stop ≡ 32) where
      is_space_lem : get_or s (piece_end s at) 0 ≡ 32
      is_space_lem = sym stop_is ∙ e

      inside_text : piece_end s at < length s
      inside_text = past_in s (piece_end s at) 32 (omega arith) is_space_lem

      next_offset : r.next.offset ≡ piece_end s at + 1
      next_offset = ap (λ (t : Taken). t.next.offset) ens ∙ rw (lt-ltb (piece_end s at) (length s) inside_text)

      pub more_pieces : field_pieces s at ≡ slice r.from r.to s ∷ field_pieces s r.next.offset
      more_pieces = pieces_turn s at is_space_lem ∙ rw (taken_text, next_offset)

      pub moved_on : at < r.next.offset
      moved_on = omega (arith, next_offset)

      pub still_on : OnField r.next.offset
      still_on =
          record {
            inside = omega (arith, next_offset, inside_text);
            after = omega (arith, next_offset, v.after);
            same = rw next_offset (field_turn s at is_space_lem ∙ v.same);
          }

    -- it was the last one
    module _ (n : r.stop ≡ 32 → ⊥) where
      no_space : get_or s (piece_end s at) 0 ≡ 32 → ⊥
      no_space e = n (stop_is ∙ e)

      pub last_piece : field_pieces s at ≡ slice r.from r.to s ∷ []
      last_piece = pieces_last s at no_space ∙ rw taken_text

      ends : field_end s at₀ ≡ piece_end s at
      ends = sym (field_last s at no_space ∙ v.same)

      pub stop_at_end : get_or s (field_end s at₀) 0 ≡ r.stop
      stop_at_end = rw ends (sym stop_is)

      pub next_at_end : passed s line (field_end s at₀) ≡ r.next
      next_at_end = rw ends (sym (ap (λ (t : Taken). t.next) ens))
