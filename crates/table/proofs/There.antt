-- The transitions that are there in a table's bytes: how many, going through them, and the number of all where others are missing.
use Prim.Native.Nat.{ℕ, zero, suc, ◌+◌, ◌*◌, ◌≤◌, ◌<◌}
use mathlib.Core.Path.{◌≡◌, refl, ap, sym, ◌∙◌}
use mathlib.Core.List.{List}
use native.Mathlib.Omega.{arith}
use lib.Dec.{leb, leb-suc-zero, leb-suc-suc}
use lib.ListN.{length}
use borrow.Author.Tests.{lt-leb}
use Rattle.convention.specs.declared.Head.{Head}
use Rattle.convention.specs.Numbers.{or_else, unless}
use Rattle.convention.specs.Layout.{transition_length}
use Rattle.convention.specs.Tables.{transition_no, transitions_no}
use Rattle.convention.proofs.Numbers.{or_assoc}
use Rattle.table.specs.Within.{TransitionsThere}

-- Those after the next so many are there.
pub others_there : (n at long first others left step : ℕ) → first + others ≡ left → at + long * left ≤ n → step ≡ long * first
    → at + step + long * others ≤ n
others_there n at long first others left step sum all here =
    let apart : long * (first + others) ≡ long * first + long * others = omega arith in
    rw here (omega (arith, apart, rw (← sum) at all))

-- The number of all is that of those that are there, and then 3 where others are missing.
module _ (v : ℕ) (h : Head) (states : ℕ) (t : List ℕ) where
  pub there_number : (there at count : ℕ) → TransitionsThere v t at count there
      → transitions_no v h states t at count ≡ or_else (transitions_no v h states t at there) (unless (leb count there) 3)
  unfolding transition_no transitions_no
  there_number zero at zero found = refl
  there_number zero at (suc count) found =
      let short : length t < at + transition_length v = omega (arith, found.missing (omega arith)) in
      rw (lt-leb (at + transition_length v) (length t) short, leb-suc-zero count)
  there_number (suc there) at zero found = absurd (omega (arith, found.most))
  there_number (suc there) at (suc count) found =
      let next : TransitionsThere v t (at + transition_length v) count there = record {
        most = omega (arith, found.most);
        within = omega (arith, found.within);
        missing = λ l. omega (arith, found.missing (omega arith));
      } in
      let later : ℕ = transitions_no v h states t (at + transition_length v) there in
      rw (leb-suc-suc count there)
      (ap (or_else (transition_no v h states t at)) (there_number there (at + transition_length v) count next)
      ∙ sym (or_assoc (transition_no v h states t at) later (unless (leb count there) 3)))
