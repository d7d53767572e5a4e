-- Laws of runs of registers.
use Prim.Native.Nat.{ℕ, ◌+◌, ◌≤◌, ◌<◌}
use mathlib.Core.Path.{◌≡◌, sym, ◌∙◌}
use mathlib.Core.Bool.{Bool, true, false, true≢false}
use mathlib.Core.Logic.{◌⊎◌, inl, inr}
use mathlib.Core.List.{List}
use native.Mathlib.Omega.{arith}
use lib.Dec.{leb, ltb}
use lib.ListN.{length, get_or, replicate}
use lib.Seq.{length-sets}
use borrow.Author.Tests.{leb-true, leb-false, ltb-true, ltb-false}
use Rattle.convention.specs.Rules.{free_run, mark_run}
use Rattle.convention.proofs.Runs.{either, free_each, free_some, mark_out, mark_in}
use Rattle.stepping.specs.Sets.{Among}

-- Marking keeps the number of registers.
pub length_mark : (taken : List Bool) (first count : ℕ) → length (mark_run taken first count) ≡ length taken
length_mark taken first count = length-sets taken first (replicate count true)

-- Marking a run keeps one set among another.
module _ (a b : List Bool) (first count : ℕ) (among : Among a b) where
  pub mark_among : first + count ≤ length b → Among (mark_run a first count) (mark_run b first count)
  mark_among w r e = go (either (leb first r)) (either (ltb r (first + count)))
    where
      out : (first ≤ r → r < first + count → ⊥) → get_or (mark_run b first count) r false ≡ true
      out o = mark_out b first count r o ∙ among r (sym (mark_out a first count r o) ∙ e)

      go : (leb first r ≡ true) ⊎ (leb first r ≡ false) → (ltb r (first + count) ≡ true) ⊎ (ltb r (first + count) ≡ false)
          → get_or (mark_run b first count) r false ≡ true
      go (inl h) (inl k) = mark_in b first count r w (leb-true first r h) (ltb-true r (first + count) k)
      go (inl h) (inr k) = out (λ x y. omega (arith, ltb-false r (first + count) k))
      go (inr h) k = out (λ x y. omega (arith, leb-false first r h))

-- A run that is free of a set is free of every set whose registers are among it.
pub free_among : (taken taken' : List Bool) (first count : ℕ) → Among taken taken' → free_run taken' first count ≡ true
    → free_run taken first count ≡ true
free_among taken taken' first count h e = elim (either (free_run taken first count)) [
  | inl t ↦ t
  | inr t ↦
      let r = free_some taken first count t in
      absurd (true≢false (sym (h r.0 r.3) ∙ free_each taken' first count e r.0 r.1 r.2))
]
