-- One turn of the walk over a list, and each way to the answer, over either way of placing: what is left of the list answers the whole.
use Prim.Native.Nat.{ℕ, zero, suc, ◌+◌, ◌*◌, ◌≤◌, ◌<◌}
use mathlib.Core.Path.{◌≡◌, refl, sym, ap, ◌∙◌}
use mathlib.Core.List.{List, ◌++◌, append_assoc}
use native.Mathlib.Omega.{arith}
use native.Mathlib.Nat.{zero-add, le_refl}
use lib.ListN.{length, get_or, take, drop}
use lib.Seq.{take-add, take_all, drop-drop, take_at, drop_at, length-take-le}
use Rattle.std.specs.Prelude.{Result, Ok, Err}
use Rattle.convention.specs.declared.Offset.{Offset}
use Rattle.convention.specs.declared.Placement.{Placement}
use Rattle.convention.specs.Bytes.{written}
use Rattle.convention.specs.Lists.{Steps, fault_from, stop_from, state_from, walk_answer, places_from, record_of, records_of, record_length, records}
use Rattle.convention.specs.declared.Unplaced.{Unplaced}
use Rattle.convention.specs.declared.Unplaced.TheVariants.{Faulty}
use Rattle.convention.specs.declared.Fault.{Fault}
use Rattle.convention.specs.Answers.{PlacingAnswer}
use Rattle.convention.specs.Results.{fault_number}
use Rattle.convention.proofs.Results.{fault_some}
use Rattle.convention.proofs.Bytes.{length_written}
use Rattle.convention.proofs.Lists.{fault_turn, fault_hit, fault_end, stop_turn, stop_hit, state_turn, state_end, records_turn, records_length, places_length}
use Rattle.stepping.specs.Walks.{MakeRest, WalkMakes}

-- One more run written after the first n bytes of R, which stand in front.
pasted : (R before : List ℕ) (n : ℕ) (bs rest : List ℕ) → n ≤ length R → drop n R ≡ bs ++ rest
    → written (take n R ++ drop n before) n bs ≡ take (n + length bs) R ++ drop (n + length bs) before
pasted R before n bs rest h e =
    let front : length (take n R) ≡ n = length-take-le n R h in
    rw (
      take_at (take n R) (drop n before) n front,
      ← drop-drop (length bs) n (take n R ++ drop n before),
      drop_at (take n R) (drop n before) n front,
      drop-drop,
      take-add n (length bs) R,
      e,
      take_at bs rest (length bs) refl,
      append_assoc,
    )

-- How long the records of a list are.
module _ (M : Steps) (ks : List ℕ) where
  pub records_long : length (records M ks) ≡ record_length * length ks
  records_long = records_length _ ∙ ap (λ (n : ℕ). record_length * n) (places_length M M.begin ks)

-- Before the first argument, after one more that has no fault, at one that has, and after the last.
module _ (M : Steps) (ks before : List ℕ) where
  pub make_begin : MakeRest M ks before M.begin 0 before
  make_begin = record { within = omega arith; fault = refl; stop = zero-add _; state = refl; rest = refl; made = refl; long = refl }

  module _ (out : List ℕ) (s : M.State) (i : ℕ) (half : MakeRest M ks before s i out) where
    pub make_room : i < length ks → record_length * length ks ≤ length before → record_length * i + record_length ≤ length out
    make_room h room = omega (arith, half.long)

    pub make_on : (after : List ℕ) (next : M.State) (fault : ℕ) (place : Placement) → i < length ks → record_length * length ks ≤ length before
        → fault ≡ M.fault s (get_or ks i 0) → fault ≡ 0 → place ≡ M.place s (get_or ks i 0) → after ≡ written out (record_length * i) (record_of place)
        → next ≡ M.after s (get_or ks i 0) → MakeRest M ks before next (i + 1) after
    make_on after next fault place h room ef ez ep ea en =
        let R = records M ks in
        let none : M.fault s (get_or ks i 0) ≡ 0 = sym ef ∙ ez in
        let turn : drop (record_length * i) R ≡ record_of place ++ records_of (places_from M next (drop (i + 1) ks))
        = sym half.rest ∙ rw (ep, en) (records_turn M s ks i h) in
        let long : record_length * i ≤ length R = omega (arith, records_long M ks) in
        let six : record_length * (i + 1) ≡ record_length * i + length (record_of place) = omega arith in
        record {
          within = omega arith;
          fault = rw en (sym (fault_turn M s ks i h none) ∙ half.fault);
          stop = rw en (sym (stop_turn M s ks i h none) ∙ half.stop);
          state = rw en (sym (state_turn M s ks i h) ∙ half.state);
          rest = rw (six, ← drop-drop (length (record_of place)) (record_length * i) R, turn);
          made = ea ∙ rw (half.made, six) (pasted R before (record_length * i) (record_of place) _ long turn);
          long = rw ea (length_written out (record_length * i) (record_of place) (make_room h room)) ∙ half.long;
        }

    pub make_hit : (after : List ℕ) (fault : Fault) → i < length ks → fault_number fault ≡ M.fault s (get_or ks i 0) → length after ≡ length out
        → WalkMakes M ks before (Err (Faulty i fault)) after
    make_hit after fault h ef long =
        let some : 0 < M.fault s (get_or ks i 0) = rw (← ef) (fault_some fault) in
        let first : fault_number fault ≡ fault_from M M.begin ks = ef ∙ (sym (fault_hit M s ks i h some) ∙ half.fault) in
        let position : i ≡ stop_from M M.begin ks = omega (arith, stop_hit M s ks i h some, half.stop) in
        record {
          answers = rw (← first, ← position) (faulty_answer i (fault_number fault) (fault_some fault));
          made = λ p never. absurd (let z : ◌≡◌ {A = Result Offset Unplaced} (Err (Faulty i fault)) (Ok p) = never in cc);
          long = long ∙ half.long;
        }
      where
        faulty_answer : (i n : ℕ) → 0 < n → PlacingAnswer.Faulty i n ≡ walk_answer n i (length ks) (M.p (state_from M M.begin ks))
        faulty_answer i zero l = absurd (omega arith)
        faulty_answer i (suc n) l = refl

    pub make_end : length ks ≤ i → WalkMakes M ks before (Ok (M.p s)) out
    make_end h =
        let all : record_length * i ≡ length (records M ks) = omega (arith, records_long M ks, half.within) in
        let none : 0 ≡ fault_from M M.begin ks = sym (fault_end M s ks i h) ∙ half.fault in
        let state : s ≡ state_from M M.begin ks = sym (state_end M s ks i h) ∙ half.state in
        record {
          answers = rw (← none, ← state);
          made = λ p e. half.made ∙ rw (all, take_all (length (records M ks)) (records M ks) (le_refl _), zero-add);
          long = half.long;
        }
