-- How the answer comes together: clean where the table is certified or no watched walk hits, the least list with the fault of its walk, or a refusal.
use Prim.Native.Nat.{ℕ, ◌*◌, ◌≤◌, ◌<◌}
use native.Mathlib.Omega.{arith}
use mathlib.Core.Path.{◌≡◌, refl, sym, ◌∙◌}
use Rattle.std.specs.Prelude.{Option, Some, None, Result, Ok, Err, IsErr, ⊤}
use mathlib.Core.Bool.{Bool, true}
use mathlib.Core.List.{List, ◌++◌}
use lib.Dec.{leb}
use lib.ListN.{length, take, drop, length-append, length-drop}
use lib.Seq.{take-length, take_at, drop_at}
use borrow.Author.Tests.{leb-true}
use Rattle.convention.specs.declared.Table.{Table}
use Rattle.convention.specs.declared.Refusal.{Refusal}
use Rattle.convention.specs.declared.Fault.{Fault as FaultOf}
use Rattle.convention.specs.Answers.{Clean, Fault}
use Rattle.convention.specs.Results.{refusal_number, fault_of, judging_answer}
use Rattle.convention.specs.Numbers.{state_limit, unless}
use Rattle.convention.specs.Tables.{table_no, table_of}
use Rattle.convention.specs.Lists.{fault_from, unknown_at}
use Rattle.convention.specs.Walked.{by_table, walk_begin}
use Rattle.convention.specs.Judged.{FaultyList, CleanTable, FirstFaulty, list_fault, judge_no, Judges}
use Rattle.convention.specs.Promised.{TableRead}
use Rattle.convention.proofs.Numbers.{or_here, unless_zero}
use Rattle.convention.proofs.Results.{refusal_some}
use Rattle.convention.proofs.Lists.{below_known}
use Rattle.convention.proofs.Tables.{table_read}
use Rattle.certifying.specs.Certified.{NoListFaulty, CertificateIs}
use Rattle.judging.specs.Watched.{nodes, LeastBelow}
use Rattle.judging.specs.Found.{BestIs, JudgeAsks}
use Rattle.judging.proofs.Verdict.{clean, least_first}
use Rattle.judging.proofs.Unique.{judge_passes}
use Rattle.judging.proofs.Hits.{hit_short}

-- ---- a table that was read

module _ (table : Table) (t out : List ℕ) (asks : JudgeAsks table t out) where
  read : TableRead state_limit (table_of t) t
  read = table_read state_limit t asks.right

  -- Nothing is refused.
  number : judge_no state_limit t (length out) ≡ 0
  number = judge_passes state_limit t (length out) asks.right (rw (← asks.is) asks.fits)

  -- It is a table that was read,
  pub judge_reads : TableRead state_limit table t
  judge_reads = rw asks.is read

  -- and where it is certified no list of it is faulty.
  pub judge_certified : (clean : Bool) (twice : ℕ) → CertificateIs table t clean twice → clean ≡ true → Judges state_limit t out Clean out
  unfolding Judges CleanTable FaultyList NoListFaulty
  judge_certified clean twice certificate e =
      let each : NoListFaulty (table_of t) t = rw asks.is at (certificate.none e) in
      (number, (λ ks faulty. omega (arith, faulty.1, each ks faulty.0)), refl)

-- ---- a table that is searched

module _ (table : Table) (t out : List ℕ) (asks : JudgeAsks table t out) (best : Option (List ℕ)) (least : BestIs table t table.head.registers best) where
  -- No watched walk hits.
  pub judge_clean : best ≡ None → Judges state_limit t out Clean out
  unfolding Judges
  judge_clean z = (number table t out asks, (clean state_limit t (read table t out asks)).1 (rw (← asks.is) (least.none z)), refl)

  -- Some watched walk hits,
  module _ (list : List ℕ) (e : best ≡ Some list) where
    -- and the least list is the first faulty list, by what was read.
    first : FirstFaulty t (list_fault t list) list
    first = least_first state_limit t (read table t out asks) list (same (table_of t) asks.is list (least.some list e))
      where
        same : (table' : Table) → table ≡ table' → (ks : List ℕ) → LeastBelow table t table.head.registers ks
            → LeastBelow table' t table'.head.registers ks
        same table' e ks l = rw e at l

    -- It has room,
    pub judge_short_list : length list ≤ nodes table
    judge_short_list =
        let (watch, i, k, hit, is) = (least.some list e).found in
        rw is (hit_short state_limit table t (judge_reads table t out asks) watch i k hit)

    pub judge_room : length list ≤ length out
    judge_room = omega (arith, judge_short_list, asks.fits)

    -- it is of known kinds, and faulty,
    pub judge_known : unknown_at table.head.kinds list ≡ length list
    unfolding FaultyList
    judge_known = rw asks.is (below_known (table_of t).head.kinds list first.faulty.0)

    pub judge_faulty : (r : Result ⊤ FaultOf) → fault_of r ≡ fault_from (by_table table t) walk_begin list → IsErr r
    unfolding FaultyList
    judge_faulty (Err fault) e = refl
    judge_faulty (Ok x) e = absurd (omega (arith, first.faulty.1, first.says, rw asks.is at e))

    -- and it is copied to the front of `out`, and has the fault that is answered.
    pub judge_fault : (fault : ℕ) (out' : List ℕ) → fault ≡ fault_from (by_table table t) walk_begin list → out' ≡ take (length list) list ++ drop (length list) out
        → Judges state_limit t out (Fault fault (length list)) out'
    unfolding Judges
    judge_fault fault out' ef eo =
        let front : out' ≡ list ++ drop (length list) out = eo ∙ rw take-length in
        let says : fault ≡ list_fault t list = rw asks.is at ef in
        let long : length out' ≡ length out = rw (front, length-append, length-drop) (omega (arith, judge_room)) in
        let take_front : take (length list) out' ≡ list = rw front (take_at list (drop (length list) out) (length list) refl) in
        let drop_front : drop (length list) out' ≡ drop (length list) out = rw front (drop_at list (drop (length list) out) (length list) refl) in
        (number table t out asks, rw (← asks.is) judge_short_list, rw (take_front, says) first, drop_front, long)

-- ---- the reader's answer

module _ (t out : List ℕ) where
  -- It refuses.
  pub judge_refused : (refusal : Refusal) → refusal_number refusal ≡ table_no state_limit t → Judges state_limit t out (judging_answer (Err refusal)) out
  unfolding Judges judge_no
  judge_refused refusal e =
      let some : 0 < table_no state_limit t = rw (← e) (refusal_some refusal) in
      (rw (e, or_here (table_no state_limit t) _ some), refusal_some refusal, refl)

  -- It gives the table.
  module _ (right : 0 ≡ table_no state_limit t) (table : Table) (is : table ≡ table_of t) where
    -- There is too little room for the list,
    pub judge_short : (refusal : Refusal) → refusal_number refusal ≡ unless (leb (2 * table.states) (length out)) 12 → Judges state_limit t out (judging_answer (Err refusal)) out
    unfolding Judges judge_no
    judge_short refusal e = (sym (e ∙ rw (is, ← right)), refusal_some refusal, refl)

    -- or enough.
    pub judge_asks : 0 ≡ unless (leb (2 * table.states) (length out)) 12 → JudgeAsks table t out
    judge_asks e = record { right = sym right; is = is; fits = leb-true _ _ (unless_zero (leb (2 * table.states) (length out)) 12 (omega arith) (sym e)) }
