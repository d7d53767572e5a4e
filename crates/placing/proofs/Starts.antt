-- Laws of going through a kind's starts one by one, as a loop takes them: it has come to start i.
use Prim.Native.Nat.{ℕ, zero, suc, ◌+◌, ◌≤◌, ◌<◌}
use mathlib.Core.Path.{◌≡◌, refl, sym, ◌∙◌}
use mathlib.Core.Logic.{inl, inr}
use mathlib.Core.Bool.{Bool, true, false, false≢true}
use mathlib.Core.List.{List, [], ◌∷◌, ◌++◌}
use native.Mathlib.Nat.{zero-add}
use native.Mathlib.Numerals.{add-one}
use native.Mathlib.Omega.{arith}
use lib.Bits.{bit_and, bit_or, or_zero_r}
use lib.Dec.{eqb}
use lib.ListN.{length, get_or, take, drop, drop_of_length-le}
use lib.Seq.{length-take-le, take-suc, drop-cons, get_or-take}
use borrow.Author.Tests.{eq-eqb, ne_eqb}
use Rattle.std.specs.Prelude.{Some, None}
use Rattle.convention.specs.Rules.{free_run, mark_run, mark_runs, skipped_before}
use Rattle.convention.proofs.Runs.{either}
use Rattle.stepping.specs.Sets.{set_of, run_bits, Among}
use Rattle.stepping.proofs.Runs.{free_among}
use Rattle.stepping.proofs.Sets.{free_set, mark_set, or_grouped}
use Rattle.placing.specs.RulesSteps.{RunsWithin, SearchAsks, SearchIs, Searching}

-- The runs of one more start.
marks_snoc : (taken : List Bool) (count : ℕ) (starts : List ℕ) (s : ℕ) → mark_runs taken count (starts ++ s ∷ []) ≡ mark_run (mark_runs taken count starts) s count
unfolding mark_runs
marks_snoc taken count [] s = refl
marks_snoc taken count (x ∷ starts) s = marks_snoc (mark_run taken x count) count starts s

-- What is left of the first n of a list at a position of them, and after them.
rest_of : (l : List ℕ) (n i : ℕ) → n ≤ length l → i < n → drop i (take n l) ≡ get_or l i 0 ∷ drop (i + 1) (take n l)
rest_of l n i h k = rw (add-one, drop-cons (take n l) i 0 (rw (length-take-le n l h) k), get_or-take n l i 0 k)

rest_end : (l : List ℕ) (n i : ℕ) → n ≤ length l → n ≤ i → drop i (take n l) ≡ []
rest_end l n i h k = drop_of_length-le (take n l) {i = i} (rw (length-take-le n l h) k)

-- The search at start i.
module _ (starts : List ℕ) (tries count i : ℕ) (runs : RunsWithin starts tries count) where
  module _ (taken from passed : ℕ) (searching : Searching taken starts from tries count i passed) where
    -- All were tried.
    pub search_end : tries ≤ i → SearchIs taken starts from tries count None passed
    unfolding skipped_before
    search_end h =
        let all : i ≡ tries = omega (arith, searching.within) in
        record { within = tt; skips = omega (arith, rw (rest_end starts tries i runs.there h) at searching.skips); passes = rw (← all) searching.passes }

    module _ (h : i < tries) (run : ℕ) (er : run ≡ run_bits (get_or starts i 0) count) where
      tested : free_run (set_of 16 taken) (get_or starts i 0) count ≡ eqb (bit_and taken run) 0
      tested = rw er (sym (free_set 16 taken (get_or starts i 0) count (runs.within i h)))

      -- The run of the start there is free.
      pub search_hit : bit_and taken run ≡ 0 → SearchIs taken starts from tries count (Some i) passed
      unfolding skipped_before
      search_hit z =
          let free : free_run (set_of 16 taken) (get_or starts i 0) count ≡ true = tested ∙ eq-eqb _ _ z in
          record { within = h; skips = omega (arith, rw (rest_of starts tries i runs.there h, skipped_before, free) at searching.skips); passes = searching.passes }

      -- It is not, and is passed.
      pub search_on : (bit_and taken run ≡ 0 → ⊥) → Searching taken starts from tries count (i + 1) (bit_or passed run)
      unfolding skipped_before
      search_on nz =
          let other : free_run (set_of 16 taken) (get_or starts i 0) count ≡ false = tested ∙ ne_eqb _ _ nz in
          record {
            within = omega arith;
            skips = omega (arith, rw (rest_of starts tries i runs.there h, skipped_before, other) at searching.skips);
            passes = λ z b. rw (add-one, take-suc starts i 0 (omega (arith, runs.there)), marks_snoc, searching.passes z b, er)
                (mark_set 16 (bit_or b passed) (get_or starts i 0) count (runs.within i h) ∙ or_grouped 16 b passed _);
          }

-- No more are skipped than were tried, and the one after them is free.
pub skipped_le : (taken : List Bool) (count : ℕ) (starts : List ℕ) → skipped_before taken count starts ≤ length starts
unfolding skipped_before
skipped_le taken count [] = omega arith
skipped_le taken count (s ∷ starts) = go (free_run taken s count) (skipped_le taken count starts)
  where
    go : (free : Bool) → skipped_before taken count starts ≤ length starts
        → elim free [ true ↦ 0 | false ↦ suc (skipped_before taken count starts) ] ≤ suc (length starts)
    go true later = omega arith
    go false later = omega arith

pub skipped_free : (taken : List Bool) (count : ℕ) (starts : List ℕ) → skipped_before taken count starts < length starts
    → free_run taken (get_or starts (skipped_before taken count starts) 0) count ≡ true
unfolding skipped_before
skipped_free taken count [] h = absurd (omega arith)
skipped_free taken count (s ∷ starts) h = go (free_run taken s count) refl h (skipped_free taken count starts)
  where
    at : Bool → ℕ
    at free = elim free [ true ↦ 0 | false ↦ suc (skipped_before taken count starts) ]

    go : (free : Bool) → free_run taken s count ≡ free → at free < suc (length starts)
        → (skipped_before taken count starts < length starts → free_run taken (get_or starts (skipped_before taken count starts) 0) count ≡ true)
        → free_run taken (get_or (s ∷ starts) (at free) 0) count ≡ true
    go true e l later = e
    go false e l later = later (omega arith)

-- After starts that are skipped, as many fewer are.
skipped_after : (taken : List Bool) (count : ℕ) (starts : List ℕ) (n : ℕ) → n ≤ skipped_before taken count starts
    → n + skipped_before taken count (drop n starts) ≡ skipped_before taken count starts
unfolding skipped_before
skipped_after taken count starts zero h = zero-add _
skipped_after taken count [] (suc n) h = absurd (omega arith)
skipped_after taken count (s ∷ starts) (suc n) h = elim (either (free_run taken s count)) [
  | inl t ↦ absurd (omega (arith, rw (t, skipped_before) at h))
  | inr t ↦
      let later : n ≤ skipped_before taken count starts = omega (arith, rw (t, skipped_before) at h) in
      rw (t, skipped_before) (omega (arith, skipped_after taken count starts n later))
]

-- Before the first start that is tried none is passed.
pub search_begin : (taken : ℕ) (starts : List ℕ) (from tries count : ℕ) → SearchAsks taken starts from tries count → Searching taken starts from tries count from 0
unfolding mark_runs
search_begin taken starts from tries count asks = record {
  within = omega (arith, asks.skips, skipped_le (set_of 16 taken) count (take tries starts), length-take-le tries starts asks.runs.there);
  skips = skipped_after (set_of 16 taken) count (take tries starts) from asks.skips;
  passes = λ z b. rw (z, or_zero_r b);
}

-- Where what is taken stays so, no fewer are skipped.
module _ (taken later : List Bool) (stays : Among taken later) (count : ℕ) where
  run_stays : (first : ℕ) → free_run taken first count ≡ false → free_run later first count ≡ false
  run_stays first e = elim (either (free_run later first count)) [
    | inl t ↦ absurd (false≢true (sym e ∙ free_among taken later first count stays t))
    | inr t ↦ t
  ]

  pub skipped_stay : (starts : List ℕ) → skipped_before taken count starts ≤ skipped_before later count starts
  unfolding skipped_before
  skipped_stay [] = omega arith
  skipped_stay (s ∷ starts) = elim (either (free_run taken s count)) [
    | inl t ↦ rw (t, skipped_before) (omega arith)
    | inr t ↦ rw (t, run_stays s t, skipped_before) (omega (arith, skipped_stay starts))
  ]
