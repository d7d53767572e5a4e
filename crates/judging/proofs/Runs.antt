-- Laws of runs of registers as the watched walk sees them: whether a run covers a register.
use Prim.Native.Nat.{ℕ, ◌+◌, ◌≤◌, ◌<◌}
use mathlib.Core.Path.{◌≡◌, sym, ◌∙◌}
use mathlib.Core.Logic.{inl, inr}
use mathlib.Core.Bool.{Bool, true, false, ◌&&◌, ◌||◌, and-false, or-true, or-false, and-eq-true_iff, true≢false}
use mathlib.Core.List.{List}
use lib.ListN.{length, get_or}
use borrow.Author.Tests.{leb-true, ltb-true, le-leb, lt-ltb}
use Rattle.convention.specs.declared.Reg.{Reg}
use Rattle.convention.specs.Rules.{free_run, mark_run}
use Rattle.convention.proofs.Runs.{either, free_each, mark_in, mark_out}
use Rattle.judging.specs.Watched.{covers}

-- A run covers its registers and no other.
pub in_run : (first count : ℕ) (r : Reg) → first ≤ r.0 → r.0 < first + count → covers first count r ≡ true
in_run first count r h k = rw (le-leb first r.0 h) (lt-ltb r.0 (first + count) k)

pub run_in : (first count : ℕ) (r : Reg) → covers first count r ≡ true → (first ≤ r.0) × (r.0 < first + count)
run_in first count r e = let both = (and-eq-true_iff _ _).0 e in (leb-true first r.0 both.0, ltb-true r.0 (first + count) both.1)

-- Where it was marked, taken is what was before, and what the run covers.
pub mark_at : (taken : List Bool) (first count : ℕ) (r : Reg) → first + count ≤ length taken
    → get_or (mark_run taken first count) r.0 false ≡ get_or taken r.0 false || covers first count r
mark_at taken first count r w = elim (either (covers first count r)) [
  | inl t ↦ let i = run_in first count r t in rw (t, or-true) (mark_in taken first count r.0 w i.0 i.1)
  | inr t ↦ rw (t, or-false) (mark_out taken first count r.0 (λ h k. true≢false (sym (in_run first count r h k) ∙ t)))
]

-- No register is both taken and in a free run.
pub free_watched : (taken : List Bool) (first count : ℕ) → free_run taken first count ≡ true
    → (r : Reg) → get_or taken r.0 false && covers first count r ≡ false
free_watched taken first count e r = elim (either (covers first count r)) [
  | inl t ↦ let i = run_in first count r t in rw (free_each taken first count e r.0 i.0 i.1)
  | inr t ↦ rw (t, and-false)
]
