-- The three demands hold.
use Prim.Native.Nat.{ℕ, ◌*◌, ◌≤◌, ◌<◌}
use mathlib.Core.Path.{◌≡◌, refl, sym, ap, ◌∙◌}
use mathlib.Core.Logic.{inl, inr, ◌↔◌}
use mathlib.Core.List.{List, ◌++◌}
use native.Mathlib.Nat.{zero-add, eq-zero-or-pos}
use native.Mathlib.Omega.{arith}
use lib.ListN.{length, get_or, take, drop}
use lib.Seq.{get_or-take, drop_at, length-take-le}
use Rattle.convention.specs.declared.Offset.{Offset}
use Rattle.convention.specs.declared.Placement.TheVariants.{Nowhere}
use Rattle.convention.specs.Answers.{Placed}
use Rattle.convention.specs.Answers.{Built}
use Rattle.convention.specs.Answers.{JudgingAnswer}
use Rattle.convention.specs.Answers.{Clean, Fault}
use Rattle.convention.specs.Numbers.{state_limit, argument_limit}
use Rattle.convention.specs.Sheets.{sheet_no, sheet_of, read_sheet}
use Rattle.convention.specs.Tables.{table_no, table_of, read_table}
use Rattle.convention.specs.Lists.{Steps, fault_from, stop_from, records, placing, placing_memory}
use Rattle.convention.specs.Rules.{place_by_rules, rules_memory}
use Rattle.convention.specs.Walked.{place_by_table, table_memory}
use Rattle.convention.specs.Built.{built_states, built_table, build, build_memory}
use Rattle.convention.specs.Judged.{list_fault, FaultyList, CleanTable, judge_no, Judges, verdict_by_trying}
use Rattle.convention.specs.WellPlaced.{WellPlaced}
use Rattle.convention.proofs.Numbers.{reading_no_lem}
use Rattle.convention.proofs.Sheets.{sheet_read}
use Rattle.convention.proofs.Tables.{table_read}
use Rattle.convention.proofs.Lists.{places_length, record_at}
use Rattle.stepping.proofs.Accepted.{accepted}
use Rattle.stepping.proofs.Walks.{records_long}
use Rattle.placing.proofs.Given.{answer_most as rules_most}
use Rattle.walking.proofs.Given.{answer_most as table_most}
use Rattle.walking.proofs.WellPlaced.{well_placed}
use Rattle.building.proofs.Agreement.{agree_stop, agree_before, agree_p}
use Rattle.building.proofs.Calls.{same_answer, same_bytes}
use Rattle.building.proofs.Readable.{built_states_lem}
use Rattle.convention.proofs.Positions.{length_said}
use Rattle.building.proofs.Bytes.{built_says, built_sheet, built_readable, bytes_are, bytes_after}
use Rattle.judging.proofs.Fronts.{stops}
use Rattle.judging.proofs.Trying.{trying_judges}
use Rattle.demands.proofs.Reading.{sheet_refuses, table_refuses}
use Rattle.demands.proofs.Placing.{placing_refuses}
use Rattle.demands.proofs.Others.{building_refuses, judging_refuses, row_refuses, sheet_kind_refuses, table_kind_refuses}
use Rattle.demands.specs.Demands.{Demand1, OfTable, stop_by, rules, table, DownToTheByte, PlacesAlike, BuiltBytes, Demand2, ComesBack, JudgedRight, Demand3}

-- ---- demand 1

pub demand_1 : Demand1
unfolding read_sheet read_table place_by_rules rules_memory place_by_table table_memory
demand_1 = record {
  sheets = λ s. rw reading_no_lem (sheet_refuses s);
  tables = λ t. rw reading_no_lem (table_refuses state_limit t);
  sheet_values = λ s e. let read : sheet_no s ≡ 0 = rw reading_no_lem at e in rw read (sheet_read s read);
  table_values = λ t e. let read : table_no state_limit t ≡ 0 = rw reading_no_lem at e in rw read (table_read state_limit t read);
  sheet_kinds = sheet_kind_refuses;
  table_kinds = table_kind_refuses;
  by_rules = λ s ks out. placing_refuses (sheet_no s) _ (omega (arith, (sheet_refuses s).others)) (rules s) ks out;
  by_table = λ t ks out. placing_refuses (table_no state_limit t) _ (table_refuses state_limit t).others (table t) ks out;
  builds = building_refuses;
  judges = judging_refuses;
  rows = row_refuses;
  p_by_rules = rules_most;
  p_by_table = table_most;
}

-- ---- demand 2

-- The records of a list stand one after the other, in front of what was there.
down_to_the_byte : (read_no m : ℕ) (M : Steps) (ks out : List ℕ) (n : ℕ) (p : Offset) → placing argument_limit read_no m M ks (length out) ≡ Placed n p
    → DownToTheByte M ks out n p (placing_memory (Placed n p) M ks out)
unfolding placing_memory
down_to_the_byte read_no m M ks out n p placed =
    let means = accepted n p argument_limit read_no m M ks (length out) placed in
    record {
      count = sym means.count;
      final = sym means.final;
      records = λ i h. record_at _ _ i (rw (places_length M M.begin ks) h);
      untouched = rw (← records_long M ks, zero-add) (drop_at (records M ks) _ _ refl);
    }

-- A walk that stops after its list has no fault.
no_stop : (M : Steps) (s : M.State) (ks : List ℕ) → stop_from M s ks ≡ length ks → fault_from M s ks ≡ 0
no_stop M s ks e = elim (eq-zero-or-pos (fault_from M s ks)) [ inl z ↦ z | inr f ↦ absurd (omega (arith, (stops M s ks f).inside)) ]

-- A sheet that was built.
module _ (s out : List ℕ) (n len : ℕ) (built : build state_limit s (length out) ≡ Built n len) where
  abbrev t : List ℕ
  t = built_table state_limit (sheet_of s)

  -- Its table places like it.
  places_alike : PlacesAlike s t
  places_alike =
      let (read, whole) = built_sheet state_limit s (length out) n len built in
      let sheet = sheet_read s read in
      record {
        stop = λ ks below. agree_stop state_limit (sheet_of s) sheet whole ks below;
        places = λ ks below i h.
            let alike : i < stop_by (table t) ks = rw (agree_stop state_limit (sheet_of s) sheet whole ks below) h in
            sym (get_or-take _ _ i Nowhere alike)
            ∙ (ap (λ l. get_or l i Nowhere) (agree_before state_limit (sheet_of s) sheet whole ks below) ∙ get_or-take _ _ i Nowhere h);
        final = λ ks below e. agree_p state_limit (sheet_of s) sheet whole ks below (no_stop (rules s) _ ks e);
        answer = same_answer state_limit argument_limit s read whole length_said;
        memory = same_bytes state_limit argument_limit s read whole length_said;
      }

  -- So do the bytes that building wrote, which are that table.
  built_bytes : BuiltBytes s out n len (build_memory state_limit s out)
  built_bytes =
      let says = built_says state_limit s (length out) n len built in
      let same = bytes_are state_limit s out n len built in
      record {
        long = rw same (sym says.2);
        readable = rw same (built_readable state_limit s (length out) n len built length_said);
        states = rw same (built_states_lem _ (sheet_of s) (built_states state_limit (sheet_of s)) ∙ sym says.1);
        alike = rw same places_alike;
        untouched = bytes_after state_limit s out n len built;
      }

pub demand_2 : Demand2
unfolding place_by_rules rules_memory place_by_table table_memory
demand_2 = record {
  by_rules = λ s ks out n p placed. rw placed (down_to_the_byte (sheet_no s) _ (rules s) ks out n p placed);
  by_table = λ t ks out n p placed. rw placed (down_to_the_byte (table_no state_limit t) _ (table t) ks out n p placed);
  built = built_bytes;
}

-- ---- demand 3

-- A table that was read, and a list of its kinds.
module _ (t : List ℕ) (e : table_no state_limit t ≡ 0) where
  -- It has no fault exactly where it goes right.
  goes_right : (ks : List ℕ) → OfTable t ks → list_fault t ks ≡ 0 ↔ WellPlaced t ks
  goes_right ks below = well_placed state_limit t ks (table_read state_limit t e) below

  -- So it goes right where it is not faulty, and wrong where it is.
  right_unless : (ks : List ℕ) → OfTable t ks → (FaultyList t ks → ⊥) → WellPlaced t ks
  unfolding FaultyList
  right_unless ks below never = elim (eq-zero-or-pos (list_fault t ks)) [ inl z ↦ (goes_right ks below).0 z | inr f ↦ absurd (never (below, f)) ]

  faulty_wrong : (ks : List ℕ) → FaultyList t ks → WellPlaced t ks → ⊥
  unfolding FaultyList
  faulty_wrong ks f w = omega (arith, f.1, (goes_right ks f.0).1 w)

-- So of whatever answer judging gives.
module _ (t out : List ℕ) (read : table_no state_limit t ≡ 0) (room : 2 * (table_of t).states ≤ length out) where
  comes_back : (fault n : ℕ) (after : List ℕ) → Judges state_limit t out (Fault fault n) after → ComesBack t out fault n after
  unfolding Judges FaultyList
  comes_back fault n after j = record {
    list = record {
      known = j.2.faulty.0;
      wrong = faulty_wrong t read (take n after) j.2.faulty;
      first = λ ks below before. right_unless t read ks below (λ f. j.2.first ks f before);
    };
    long = length-take-le n after (omega (arith, j.1, j.4));
    says = j.2.says;
    untouched = j.3;
  }

  judged_right : (answer : JudgingAnswer) (after : List ℕ) → Judges state_limit t out answer after → JudgedRight t out answer after
  unfolding Judges CleanTable
  judged_right Clean after j = record {
    passed = (λ _ ks below. right_unless t read ks below (j.1 ks), λ _. refl);
    untouched = λ _. j.2;
    failed = λ fault n e. absurd (let z : ◌≡◌ {A = ℕ} 0 1 = cc in omega arith);
    either = inl refl;
  }
  judged_right (Fault fault n) after j =
      let wrong = comes_back fault n after j in
      record {
        passed = (λ e. absurd (let z : ◌≡◌ {A = ℕ} 0 1 = cc in omega arith), λ all. absurd (wrong.list.wrong (all _ wrong.list.known)));
        untouched = λ e. absurd (let z : ◌≡◌ {A = ℕ} 0 1 = cc in omega arith);
        failed = λ fault' n' e. let same : n ≡ n' = cc in let too : fault ≡ fault' = cc in rw (same, too) at wrong;
        either = inr (fault, n, refl);
      }
  judged_right (JudgingAnswer.Refused number) after j =
      absurd (omega (arith, (judging_refuses t out (JudgingAnswer.Refused number) after j).success.1 (read, room), j.1))

-- Some answer is allowed: the verdict by trying, or the refusal.
answered : (t out : List ℕ) → (answer : JudgingAnswer) × (after : List ℕ) × Judges state_limit t out answer after
unfolding Judges
answered t out = elim (eq-zero-or-pos (judge_no state_limit t (length out))) [
  | inl e ↦ ((verdict_by_trying t).answer, (verdict_by_trying t).list ++ drop (length (verdict_by_trying t).list) out, trying_judges state_limit t out e)
  | inr h ↦ (JudgingAnswer.Refused (judge_no state_limit t (length out)), out, (refl, h, refl))
]

pub demand_3 : Demand3
demand_3 = record { answered = answered; judged = λ t out answer after read room. judged_right t out read room answer after; faults = λ t ks read. goes_right t read ks }
