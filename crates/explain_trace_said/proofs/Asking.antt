-- The lines of a listing, one after another.
use mathlib.Core.Path.{◌≡◌, refl, sym, ap, ◌∙◌}
use mathlib.Core.Bool.{Bool, true, false, cond}
use mathlib.Core.List.{List, [], ◌∷◌, ◌++◌, append_assoc}
use Prim.Native.Nat.{ℕ, ◌+◌, ◌*◌, ◌-◌, ◌≤◌, ◌<◌}
use native.Mathlib.Omega.{arith}
use lib.Dec.{ltb}
use lib.ListN.{length, get_or, drop}
use borrow.Author.Tests.{ltb-true}
use Rattle.listing.specs.Bytes.{Bytes, split}
use Rattle.session_print.specs.Puts.{Puts}
use Rattle.session_print.proofs.LineBytes.{same_bytes, then_bytes}
use Rattle.std.proofs.lemmas.List.{at_drop_all}
use Rattle.explain_parts.proofs.Parts.{next_part}
use Rattle.explain_trace_said.specs.Asked.{asks, seen_after, seen_from, count_all, asked_here_lem, room, more_text, asked_from, asked_all}

-- ── counting: the lines from the one with so many before it on add what is left ──
module _ (stop : ℕ) (s : Bytes) (n seen : ℕ) (same : seen_from stop seen (drop n (split 10 s)) ≡ count_all stop s) where
  pub counted : length (split 10 s) ≤ n → seen ≡ count_all stop s
  unfolding seen_from
  counted h = sym (at_drop_all (seen_from stop seen) (split 10 s) n h) ∙ same

  pub counting_on : (line : Bytes) → (n < length (split 10 s)) × (line ≡ get_or (split 10 s) n line) → (next m : ℕ) → next ≡ seen_after stop seen line → m ≡ n + 1 →
      seen_from stop next (drop m (split 10 s)) ≡ count_all stop s
  unfolding seen_from
  counting_on line turn next m e l =
      ap (λ (k : ℕ). seen_from stop next (drop k (split 10 s))) l ∙ ap (λ (k : ℕ). seen_from stop k (drop (n + 1) (split 10 s))) e
      ∙ sym (next_part (seen_from stop seen) (split 10 s) n line turn) ∙ same

-- ── saying: what is put by now, and what the lines from the one with so many before it on add, is all ──
module _ (path : Bytes) (stop : ℕ) (alone : Bool) (s : Bytes) where
  pub record Asking (before : Bytes) (first : ℕ) (after : Bytes) (past n number seen : ℕ) : Type 0 where
    pub numbered : number ≡ n + 1
    pub few : seen ≤ n
    pub shown : ℕ
    pub most : shown ≤ 8
    pub fewer : shown ≤ seen
    pub short : past ≤ first + 1700 * shown
    pub done : Bytes
    pub puts : Puts before first done after past
    pub same : done ++ asked_from path stop alone seen number (drop n (split 10 s)) ≡ asked_all path stop alone s

  pub asking_begun : (before : Bytes) (first : ℕ) → Asking before first before first 0 1 0
  asking_begun before first =
      record {
        numbered = omega arith;
        few = omega arith;
        shown = 0;
        most = omega arith;
        fewer = omega arith;
        short = omega arith;
        done = [];
        puts = record { past = omega arith; stored = refl };
        same = refl;
      }

  module _ {before m : Bytes} {first past n number seen : ℕ} (v : Asking before first m past n number seen) where
    pub all_asked : {m₂ : Bytes} {r : ℕ} → length (split 10 s) ≤ n → Puts m past (more_text seen) m₂ r → Puts before first (asked_all path stop alone s) m₂ r
    unfolding asked_from
    all_asked h q =
        same_bytes (ap (λ (l : Bytes). v.done ++ l) (sym (at_drop_all (asked_from path stop alone seen number) (split 10 s) n h)) ∙ v.same) (then_bytes v.puts q)

    pub still_short : past ≤ first + 13600
    still_short = omega (arith, v.short, v.most)

    module _ (line : Bytes) (turn : (n < length (split 10 s)) × (line ≡ get_or (split 10 s) n line)) {m₁ : Bytes} {next : ℕ}
        (p : Puts m past (asked_here_lem path stop alone seen number line) m₁ next) (later : ℕ) (is : later ≡ seen_after stop seen line)
        (fits : next ≤ past + room stop seen line) (so : ℕ) (one : so ≡ n + 1) where
      -- the rest after this line
      after_line : (v.done ++ asked_here_lem path stop alone seen number line) ++ asked_from path stop alone later (number + 1) (drop so (split 10 s)) ≡ asked_all path stop alone s
      unfolding asked_from
      after_line =
          append_assoc v.done (asked_here_lem path stop alone seen number line) (asked_from path stop alone later (number + 1) (drop so (split 10 s)))
          ∙ ap (λ (k : ℕ). v.done ++ (asked_here_lem path stop alone seen number line ++ asked_from path stop alone later (number + 1) (drop k (split 10 s)))) one
          ∙ ap (λ (k : ℕ). v.done ++ (asked_here_lem path stop alone seen number line ++ asked_from path stop alone k (number + 1) (drop (n + 1) (split 10 s)))) is
          ∙ ap (λ (l : Bytes). v.done ++ l) (sym (next_part (asked_from path stop alone seen number) (split 10 s) n line turn)) ∙ v.same

      pub asking_on : Asking before first m₁ next so (number + 1) later
      unfolding room seen_after
      asking_on = go (asks stop line) (ltb seen 8) refl fits is
        where
          with_lines_lem : (k : ℕ) → later ≤ seen + 1 → k ≤ 8 → k ≤ later → next ≤ first + 1700 * k → Asking before first m₁ next so (number + 1) later
          with_lines_lem k most a b c =
              record {
                numbered = omega (arith, v.numbered, one);
                few = omega (arith, v.few, one, most);
                shown = k;
                most = a;
                fewer = b;
                short = c;
                done = v.done ++ asked_here_lem path stop alone seen number line;
                puts = then_bytes v.puts p;
                same = after_line;
              }

          go : (a t : Bool) → ltb seen 8 ≡ t → next ≤ past + cond a (cond t 1700 0) 0 → later ≡ cond a (seen + 1) seen → Asking before first m₁ next so (number + 1) later
          go true true i f g =
              let l : seen < 8 = ltb-true seen 8 i in
              with_lines_lem (v.shown + 1) (omega (arith, g)) (omega (arith, v.fewer, l)) (omega (arith, v.fewer, g)) (omega (arith, v.short, f))
          go true false i f g = with_lines_lem v.shown (omega (arith, g)) v.most (omega (arith, v.fewer, g)) (omega (arith, v.short, f))
          go false t i f g = with_lines_lem v.shown (omega (arith, g)) v.most (omega (arith, v.fewer, g)) (omega (arith, v.short, f))
