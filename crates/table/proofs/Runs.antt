-- Going through a table's kinds and its transitions: what is left answers the whole, and each that is right lies within the bytes.
use Prim.Native.Nat.{ℕ, zero, suc, ◌+◌, ◌-◌, ◌*◌, ◌/◌, ◌≤◌, ◌<◌}
use mathlib.Core.Path.{◌≡◌, refl, sym, ap, ◌∙◌}
use mathlib.Core.Bool.{Bool, true, false, ◌&&◌}
use native.Mathlib.Nat.{add-zero, zero-add, mul-zero}
use mathlib.Core.List.{List}
use native.Mathlib.Omega.{arith}
use lib.Dec.{lit<}
use lib.ListN.{length, take, drop, length-drop}
use lib.Seq.{drop-drop}
use Rattle.convention.specs.declared.Head.{Head}
use Rattle.convention.specs.Fields.{shape_no}
use Rattle.convention.specs.Layout.{shape_length, transition_length}
use Rattle.convention.specs.Tables.{table_kinds_no, transition_of, is_transition, transition_no, transitions_no}
use Rattle.convention.specs.declared.Refusal.{Refusal}
use Rattle.convention.specs.Results.{refusal_number}
use Rattle.convention.specs.Numbers.{or_else, unless}
use Rattle.convention.proofs.Numbers.{part_zero, or_assoc}
use Rattle.convention.proofs.Results.{refusal_some, passed, refused}
use Rattle.convention.proofs.InTurn.{Things, InTurn, turn_right, turn_wrong, turn_end}
use Rattle.convention.proofs.Slices.{rest_of}
use Rattle.convention.proofs.Fields.{shape_there}

-- Things that are tested in turn, of which one that is right is there in the bytes t.
pub record RunOf (t : List ℕ) (X : Things) : Type 0 where
  pub turns : InTurn X
  pub there : (at : ℕ) → at ≤ length t → X.one at ≡ 0 → at + X.long at ≤ length t

-- Half way through `count` of them, before the next one at byte `at`: those that are left give the number of all.
pub record RunRest (t : List ℕ) (X : Things) (number at done count : ℕ) : Type 0 where
  pub within : at ≤ length t
  pub numbers : X.all at (count - done) ≡ number

-- One that is right leaves the number of the others; one that is not gives its own; and nothing is wrong where none is left.
module _ (t : List ℕ) (X : Things) (whole at done count : ℕ) (run : RunOf t X) where
  pub run_turn : (long : ℕ) → RunRest t X whole at done count → done < count → 0 ≡ X.one at → long ≡ X.long at
      → RunRest t X whole (at + long) (done + 1) count
  run_turn long inv h e el =
      let some : 0 < count - done = omega arith in
      let less : count - (done + 1) ≡ count - done - 1 = omega arith in
      rw el (record {
        within = run.there at inv.within (sym e);
        numbers = rw less (turn_right X run.turns whole at (count - done) 0 inv.numbers some e refl);
      })

  pub run_hit : (refusal : Refusal) → RunRest t X whole at done count → done < count → refusal_number refusal ≡ X.one at
      → refusal_number refusal ≡ whole
  run_hit refusal inv h e =
      let some : 0 < count - done = omega arith in
      let wrong : refusal_number refusal ≡ 0 → ⊥ = λ z. absurd (omega (arith, refusal_some refusal)) in
      turn_wrong X run.turns whole at (count - done) (refusal_number refusal) inv.numbers some e wrong

  pub run_done : RunRest t X whole at done count → count ≤ done → 0 ≡ whole
  run_done inv h = turn_end X run.turns whole at (count - done) inv.numbers (omega arith)

-- The kinds, each parsed from the part of the table that starts at its first byte.
abbrev pub kinds_run : ℕ → Head → List ℕ → Things
kinds_run v h t = record {
  long = λ at. shape_length v;
  one = λ at. shape_no v h (take (length t - at) (drop at t));
  all = λ at left. table_kinds_no v h (drop at t) left;
}

pub kinds_run_lem : (v : ℕ) (h : Head) (t : List ℕ) → RunOf t (kinds_run v h t)
unfolding table_kinds_no
kinds_run_lem v h t = record {
  turns = record { none = λ at. refl; more = λ at left. rw (rest_of, ← drop-drop (shape_length v) at t) };
  there = λ at l e. omega (arith, simp (rest_of, length-drop) at (shape_there v h _ e));
}

-- The transitions.
abbrev pub transitions_run : ℕ → Head → ℕ → List ℕ → Things
transitions_run v h states t = record { long = λ at. transition_length v; one = transition_no v h states t; all = transitions_no v h states t }

pub transitions_run_lem : (v : ℕ) (h : Head) (states : ℕ) (t : List ℕ) → RunOf t (transitions_run v h states t)
unfolding transition_no transitions_no
transitions_run_lem v h states t = record {
  turns = record { none = λ at. refl; more = λ at left. refl };
  there = λ at l e. (part_zero t at (transition_length v) (is_transition h states (transition_of v t at)) 7 (lit< tt) e).0;
}

-- How many transitions are gone through with no question between them.
abbrev pub batch : ℕ
batch = 4

-- After so many batches one more is there, and then the others.
pub batch_next : (done count : ℕ) → done < count / batch → batch + (count - batch * (done + 1)) ≡ count - batch * done
batch_next done count h = omega arith

-- Some are gone through with no question between them: whether none was wrong so far, and those that are left, give the number of all.
module _ (X : Things) (turns : InTurn X) (whole at done count : ℕ) where
  pub gathered_turn : (right here : Bool) (long : ℕ) → or_else (unless right 7) (X.all at (count - done)) ≡ whole → done < count
      → unless here 7 ≡ X.one at → long ≡ X.long at → or_else (unless (right && here) 7) (X.all (at + long) (count - (done + 1))) ≡ whole
  gathered_turn false here long inv h e el = inv
  gathered_turn true here long inv h e el =
      let next : count - done ≡ suc (count - (done + 1)) = omega arith in
      rw (e, el) (sym (turns.more at (count - (done + 1))) ∙ rw next at inv)

  pub gathered_done : (right : Bool) → or_else (unless right 7) (X.all at (count - done)) ≡ whole → count ≤ done → unless right 7 ≡ whole
  gathered_done false inv h = inv
  gathered_done true inv h = turn_end X turns whole at (count - done) inv (omega arith)

-- Things of w bytes each: the number of the first so many, and then that of the others.
module _ (X : Things) (turns : InTurn X) (w : ℕ) (long : (at : ℕ) → X.long at ≡ w) where
  two_batches : (at first others : ℕ) → X.all at (first + others) ≡ or_else (X.all at first) (X.all (at + w * first) others)
  two_batches at zero others = rw (turns.none at, mul-zero, add-zero, zero-add) refl
  two_batches at (suc first) others =
      let sum : suc first + others ≡ suc (first + others) = omega arith in
      let place : at + w * suc first ≡ at + w + w * first = omega arith in
      rw (sum, turns.more at (first + others), turns.more at first, long at, place)
      (ap (or_else (X.one at)) (two_batches (at + w) first others)
      ∙ sym (or_assoc (X.one at) (X.all (at + w) first) (X.all (at + w + w * first) others)))

  -- So many that are right leave the number to the others; such of which one is wrong give it.
  module _ (whole at first others left : ℕ) (sum : first + others ≡ left) (inv : X.all at left ≡ whole) where
    both : or_else (X.all at first) (X.all (at + w * first) others) ≡ whole
    both = sym (two_batches at first others) ∙ rw (← sum) at inv

    pub batch_right : (step : ℕ) → step ≡ w * first → 0 ≡ X.all at first → X.all (at + step) others ≡ whole
    batch_right step here e = rw here (sym (passed _ _ e) ∙ both)

    pub batch_wrong : (refusal : Refusal) → refusal_number refusal ≡ X.all at first → refusal_number refusal ≡ whole
    batch_wrong refusal e = refused refusal _ _ e ∙ both
