-- The call, over either way of placing: the tests of its list, each way to its answer in 01's order, and what the reader's number makes of it.
use Prim.Native.Nat.{ℕ, zero, suc, ◌+◌, ◌*◌, ◌/◌, ◌≤◌, ◌<◌}
use mathlib.Core.Path.{◌≡◌, refl, sym, ◌∙◌}
use mathlib.Core.Bool.{Bool, true, false, cond}
use mathlib.Core.List.{List, [], ◌∷◌, ◌++◌}
use native.Mathlib.Omega.{arith}
use native.Mathlib.Decide.{dec_le}
use native.Mathlib.Nat.{zero-add, le_refl}
use lib.Dec.{leb, ltb, lit<}
use lib.ListN.{length, take, drop}
use lib.Seq.{take_all, take_at}
use borrow.Author.Tests.{lt-leb, le-leb, lt-ltb, le-ltb, ltb-true, ltb-false, leb-true, leb-false}
use Rattle.std.specs.Prelude.{Option, Some, None, Result, Ok, Err, MatchOption, position}
use Rattle.std.specs.List.{position_or_len}
use Rattle.std.proofs.lemmas.List.Recursion.{is_position_or_len}
use Rattle.convention.specs.declared.Offset.{Offset}
use Rattle.convention.specs.declared.Placed.{Placed}
use Rattle.convention.specs.declared.Refusal.{Refusal}
use Rattle.convention.specs.declared.Refusal.TheVariants.{Length, Version, Missing, Head, Kind, LeftOver, Transition, Arguments, States, Room, Row}
use Rattle.convention.specs.declared.Unplaced.{Unplaced}
use Rattle.convention.specs.declared.Unplaced.TheVariants.{Refused, Unknown, Faulty}
use Rattle.convention.specs.Answers.{PlacingAnswer}
use Rattle.convention.specs.Results.{refusal_number, placing_answer}
use Rattle.convention.specs.Numbers.{or_else, unless}
use Rattle.convention.specs.Lists.{Steps, record_length, records, unknown_at, list_no, placing, placing_memory}
use Rattle.convention.proofs.Lists.{unknown_le}
use Rattle.convention.proofs.Numbers.{or_zero, or_keeps, unless_zero}
use Rattle.convention.proofs.Results.{refusal_some}
use Rattle.stepping.specs.Walks.{WalkMakes, ListTested, records_with, RecordsRoom, DecidedIs, PlacingIs}
use Rattle.stepping.proofs.Walks.{records_long}

-- The room is divided so that nothing overflows.
pub divided : (n room : ℕ) → leb n (room / record_length) ≡ leb (record_length * n) room
divided n room = elim (dec_le (record_length * n) room) [
  | yes h ↦
      let fits : n ≤ room / record_length = omega (arith, h) in
      le-leb _ _ fits ∙ sym (le-leb _ _ h)
  | no h ↦
      let over : room < record_length * n = omega arith in
      let less : room / record_length < n = omega (arith, over) in
      lt-leb _ _ less ∙ sym (lt-leb _ _ over)
]

-- Looking for a kind of m or more is looking for the first that passes a test.
unknown_first : (m : ℕ) (ks : List ℕ) → unknown_at m ks ≡ position_or_len (leb m) ks
unfolding unknown_at
unknown_first m = is_position_or_len (unknown_at m) (leb m) refl on
  where
    on : (k : ℕ) (ks : List ℕ) → unknown_at m (k ∷ ks) ≡ cond (leb m k) 0 (1 + unknown_at m ks)
    on k ks = elim (dec_le m k) [
      | yes h ↦ rw (le-leb m k h, le-ltb k m h, unknown_at)
      | no h ↦ let l : k < m = omega arith in rw (lt-leb m k l, lt-ltb k m l, unknown_at) (omega arith)
    ]

unknown_found : (m : ℕ) (ks : List ℕ) (found : Option ℕ) → found ≡ position (leb m) ks
    → MatchOption found (unknown_at m ks ≡ length ks) (λ at. (unknown_at m ks ≡ at) × (at < length ks))
unknown_found m ks found e = rw (e, ← unknown_first m ks) (go (ltb (unknown_at m ks) (length ks)) refl)
  where
    go : (there : Bool) → ltb (unknown_at m ks) (length ks) ≡ there
        → MatchOption (cond there (Some (unknown_at m ks)) None) (unknown_at m ks ≡ length ks) (λ at. (unknown_at m ks ≡ at) × (at < length ks))
    go true e = (refl, ltb-true _ _ e)
    go false e = omega (arith, unknown_le m ks, ltb-false _ _ e)

-- The number before any kind is looked at is 8, 12 or 0, and never 9 or 10; nor is a refusal's number 9.
not_those : (limit n room x : ℕ) → 9 ≤ x → x ≤ 10 → list_no limit n room ≡ x → ⊥
not_those limit n room x low high =
    or_keeps (λ n. n ≡ x → ⊥) (unless (leb n limit) 8) _ (single (leb n limit) 8 (λ e. omega arith)) (single (leb (record_length * n) room) 12 (λ e. omega arith))
  where
    single : (b : Bool) (n : ℕ) → (n ≡ x → ⊥) → unless b n ≡ x → ⊥
    single true n other e = omega arith
    single false n other e = other e

not_nine : (refusal : Refusal) → refusal_number refusal ≡ 9 → ⊥
not_nine Length e = omega arith
not_nine Version e = omega arith
not_nine Missing e = omega arith
not_nine Head e = omega arith
not_nine Kind e = omega arith
not_nine LeftOver e = omega arith
not_nine Transition e = omega arith
not_nine Arguments e = omega arith
not_nine States e = omega arith
not_nine Room e = omega arith
not_nine Row e = omega arith

-- Each way through the tests: 8 or 12; 9; or none fails.
module _ (limit m : ℕ) (ks : List ℕ) (room : ℕ) where
  pub tested_list : (refusal : Refusal) → refusal_number refusal ≡ list_no limit (length ks) room
      → ListTested limit m ks room {T = Unit {0}} (Err (Refused refusal))
  tested_list refusal e = record {
    is = first _ e (refusal_some refusal);
    position = λ at same. absurd (let z : ◌≡◌ {A = Result (Unit {0}) Unplaced} (Err (Refused refusal)) (Err (Unknown at)) = same in cc);
    listed = λ z. absurd (omega (arith, refusal_some refusal));
    roomy = λ z. absurd (omega (arith, refusal_some refusal));
  }
    where
      first : (n : ℕ) → refusal_number refusal ≡ n → 0 < refusal_number refusal → refusal_number refusal ≡ or_else n (unless (leb (length ks) (unknown_at m ks)) 9)
      first zero e h = absurd (omega arith)
      first (suc n) e h = e

  module _ (passed : 0 ≡ list_no limit (length ks) room) where
    pub tested_unknown : (at : ℕ) → Some at ≡ position (leb m) ks → ListTested limit m ks room {T = Unit {0}} (Err (Unknown at))
    tested_unknown at found =
        let there : (unknown_at m ks ≡ at) × (at < length ks) = unknown_found m ks (Some at) found in
        record {
          is = rw (← passed, there.0, lt-leb _ _ there.1);
          position = λ at' same. let z : ◌≡◌ {A = Result (Unit {0}) Unplaced} (Err (Unknown at)) (Err (Unknown at')) = same in cc;
          listed = λ never. absurd (omega arith);
          roomy = λ never. absurd (omega arith);
        }

    pub tested_known : None ≡ position (leb m) ks → ListTested limit m ks room {T = Unit {0}} (Ok tt)
    tested_known found =
        let known : unknown_at m ks ≡ length ks = unknown_found m ks None found in
        let both : (unless (leb (length ks) limit) 8 ≡ 0) × (unless (leb (record_length * length ks) room) 12 ≡ 0) = or_zero _ _ (sym passed) in
        record {
          is = rw (← passed, known, le-leb _ _ (le_refl (length ks)));
          position = λ at same. absurd (let z : ◌≡◌ {A = Result (Unit {0}) Unplaced} (Ok tt) (Err (Unknown at)) = same in cc);
          listed = λ _. record { known = known; short = leb-true _ limit (unless_zero _ 8 (lit< tt) both.0) };
          roomy = λ _. leb-true _ room (unless_zero _ 12 (lit< tt) both.1);
        }

-- What is decided of a list that failed a test; the tests were asked with the placer's number of kinds.
module _ (limit m : ℕ) (M : Steps) (ks : List ℕ) (room : ℕ) where
  refused_list : (unplaced : Unplaced) (made : List ℕ) → ListTested limit m ks room {T = Unit {0}} (Err unplaced) → DecidedIs limit m M ks room (Err unplaced) made
  unfolding placing records_with
  refused_list (Refused refusal) made tests = record { answers = go _ refl tests.is; makes = refl; there = omega arith; fits = omega arith }
    where
      other : (known : Bool) → refusal_number refusal ≡ unless known 9 → ⊥
      other true e = omega (arith, refusal_some refusal)
      other false e = not_nine refusal e

      go : (first : ℕ) → list_no limit (length ks) room ≡ first → refusal_number refusal ≡ or_else first (unless (leb (length ks) (unknown_at m ks)) 9)
          → PlacingAnswer.Refused (refusal_number refusal) ≡ placing limit 0 m M ks room
      go zero e is = absurd (other _ is)
      go (suc first) e is = rw (e, is)
  refused_list (Unknown at) made tests = record { answers = go _ refl (leb (length ks) (unknown_at m ks)) refl tests.is; makes = refl; there = omega arith; fits = omega arith }
    where
      go : (first : ℕ) → list_no limit (length ks) room ≡ first → (known : Bool) → leb (length ks) (unknown_at m ks) ≡ known → 9 ≡ or_else first (unless known 9)
          → PlacingAnswer.Unknown at ≡ placing limit 0 m M ks room
      go zero e true k is = absurd (omega arith)
      go zero e false k is = rw (e, lt-ltb _ _ (leb-false _ _ k), ← tests.position at refl)
      go (suc first) e known k is = absurd (not_those limit (length ks) room 9 (omega arith) (omega arith) (e ∙ sym is))
  refused_list (Faulty at fault) made tests = absurd (go _ refl (leb (length ks) (unknown_at m ks)) tests.is)
    where
      go : (first : ℕ) → list_no limit (length ks) room ≡ first → (known : Bool) → 10 ≡ or_else first (unless known 9) → ⊥
      go zero e true is = omega arith
      go zero e false is = omega arith
      go (suc first) e known is = not_those limit (length ks) room 10 (omega arith) (omega arith) (e ∙ sym is)

  pub list_refused : (unplaced : Unplaced) (made : List ℕ) (kinds : ℕ) → ListTested limit kinds ks room {T = Unit {0}} (Err unplaced) → kinds ≡ m
      → DecidedIs limit m M ks room (Err unplaced) made
  list_refused unplaced made kinds tests ek = refused_list unplaced made (rw ek at tests)

-- A list that passed its tests can be walked, and the walk decides.
module _ (limit m : ℕ) (M : Steps) (ks : List ℕ) (room kinds : ℕ) (x : Unit {0}) (tests : ListTested limit kinds ks room {T = Unit {0}} (Ok x)) (ek : kinds ≡ m) where
  through : list_no limit (length ks) room ≡ 0
  through = (or_zero _ _ (sym tests.is)).0

  known : ltb (unknown_at m ks) (length ks) ≡ false
  known = rw (← ek) (le-ltb (unknown_at kinds ks) (length ks) (omega (arith, (tests.listed refl).known)))

  module _ (before made : List ℕ) (h : RecordsRoom limit ks room (length before)) where
    pub list_faulty : (unplaced : Unplaced) → WalkMakes M ks before (Err unplaced) made → DecidedIs limit m M ks room (Err unplaced) made
    unfolding placing records_with
    list_faulty unplaced walk = record { answers = walk.answers ∙ rw (through, known); makes = none unplaced; there = omega arith; fits = omega arith }
      where
        none : (unplaced : Unplaced) → [] ≡ records_with (placing_answer (Err unplaced)) M ks
        none (Refused refusal) = refl
        none (Unknown at) = refl
        none (Faulty at fault) = refl

    pub list_placed : (p : Offset) → WalkMakes M ks before (Ok p) made → DecidedIs limit m M ks room (Ok (record { arguments = length ks; p = p })) made
    unfolding placing records_with
    list_placed p walk =
        let long : length (records M ks) ≡ record_length * length ks = records_long M ks in
        record {
          answers = walk.answers ∙ rw (through, known);
          makes = rw (walk.made p refl, ← long) (take_at (records M ks) _ (length (records M ks)) refl);
          there = rw walk.long (h through);
          fits = tests.roomy refl;
        }

-- What was decided is copied, and with a refusal nothing is: the call's answer, and the lent memory afterwards.
module _ (limit m : ℕ) (M : Steps) (ks before made : List ℕ) where
  pub list_written : (placed : Placed) (after : List ℕ) → DecidedIs limit m M ks (length before) (Ok placed) made
      → after ≡ take (length (take (record_length * placed.arguments) made)) (take (record_length * placed.arguments) made)
      ++ drop (length (take (record_length * placed.arguments) made)) before
      → PlacingIs limit m M ks before (Ok placed) after
  unfolding placing_memory records_with
  list_written placed after is ea = record { answers = is.answers; memory = ea ∙ rw (is.makes, take_all _ (records M ks) (le_refl _), zero-add) }

  pub list_unwritten : (unplaced : Unplaced) → DecidedIs limit m M ks (length before) (Err unplaced) made → PlacingIs limit m M ks before (Err unplaced) before
  unfolding placing_memory
  list_unwritten unplaced is = record { answers = is.answers; memory = none unplaced }
    where
      none : (unplaced : Unplaced) → before ≡ placing_memory (placing_answer (Err unplaced)) M ks before
      none (Refused refusal) = refl
      none (Unknown at) = refl
      none (Faulty at fault) = refl

-- What reading gave comes first: no number, and the call's answer and memory are those of the list; or one, and nothing is written.
module _ (limit number m : ℕ) (M : Steps) (ks before : List ℕ) where
  module _ (z : number ≡ 0) (result : Result Placed Unplaced) (after : List ℕ) (is : PlacingIs limit m M ks before result after) where
    pub read_answer : placing_answer result ≡ placing limit number m M ks (length before)
    read_answer = rw z is.answers

    pub read_memory : after ≡ placing_memory (placing limit number m M ks (length before)) M ks before
    read_memory = rw (← read_answer) is.memory

  module _ (n : ℕ) (e : number ≡ n) (h : 0 < n) where
    pub unread_answer : PlacingAnswer.Refused n ≡ placing limit number m M ks (length before)
    unfolding placing
    unread_answer = rw e (go n h)
      where
        go : (n : ℕ) → 0 < n → PlacingAnswer.Refused n ≡ placing limit n m M ks (length before)
        go zero h = absurd (omega arith)
        go (suc n) h = refl

    pub unread_memory : before ≡ placing_memory (placing limit number m M ks (length before)) M ks before
    unfolding placing_memory
    unread_memory = rw (← unread_answer)
