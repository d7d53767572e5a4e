-- How a reader takes the documents, as far as their examples go through them: as the definitions say it; by a misreading, those that 01 names and examples can tell, and three others; or
-- by words of 01 that document 02 replaces.
use Rattle.std.specs.Prelude.{ℕ, zero, suc, ◌+◌, ◌*◌, ◌%◌, true, false, not, cond, ◌&&◌, List, [], ◌∷◌, map, ltb, leb, eqb, length, drop}
use Rattle.convention.specs.declared.Sheet.{Sheet}
use Rattle.convention.specs.declared.SheetKind.{SheetKind}
use Rattle.convention.specs.declared.Table.{Table}
use Rattle.convention.specs.Numbers.{state_limit, or_else, unless}
use Rattle.convention.specs.Layout.{length_bytes, kinds_at}
use Rattle.convention.specs.Fields.{length_field, version_of, version_no, head_of, head_no, left_over_no}
use Rattle.convention.specs.Sheets.{sheet_kinds_no, sheet_kind_at, sheet_no}
use Rattle.convention.specs.Tables.{table_of, table_kind, transition}
use Rattle.convention.specs.Lists.{Steps}
use Rattle.convention.specs.Rules.{no_registers, by_rules}
use Rattle.convention.specs.Walked.{by_table}
use Rattle.convention.specs.Explored.{Automaton, Entry, first_entry, entry, meet, met}
use Rattle.convention.specs.Built.{allocation, from_allocation}
use Rattle.convention.specs.Judged.{judge_room}

-- The number of a sheet, the two ways of placing, and how many kinds the lists have at most among which a faulty one is looked for.
pub record Reader : Type 1 where
  pub number : List ℕ → ℕ
  pub rules : Sheet → Steps
  pub table : Table → List ℕ → Steps
  pub hunted : List ℕ → ℕ

-- A way of placing with another state after a step, and with another fault.
abbrev pub with_after : (M : Steps) → (M.State → ℕ → M.State) → Steps
with_after M after = record { State = M.State; begin = M.begin; place = M.place; fault = M.fault; after = after; p = M.p }

abbrev pub with_fault : (M : Steps) → (M.State → ℕ → ℕ) → Steps
with_fault M fault = record { State = M.State; begin = M.begin; place = M.place; fault = fault; after = M.after; p = M.p }

-- As the definitions say it.
abbrev pub as_defined : Reader
as_defined = record { number = sheet_no; rules = by_rules; table = by_table; hunted = judge_room }

-- 'Treating a register once skipped as gone although the kind does not close': every kind is read as closing.
abbrev pub closes : SheetKind → SheetKind
closes k = record { shape = k.shape; flags = k.flags % 2 + 2; tries = k.tries; starts = k.starts }

abbrev pub skipped_gone : Reader
skipped_gone = record {
  number = sheet_no;
  rules = λ sheet. by_rules (record { version = sheet.version; head = sheet.head; kinds = map closes sheet.kinds });
  table = by_table;
  hunted = judge_room;
}

-- 'Keeping p mod A and forgetting p'.
abbrev pub forgets_p : Reader
forgets_p = record {
  number = sheet_no;
  rules = λ sheet. with_after (by_rules sheet) (λ s k. from_allocation (allocation sheet.head.modulus ((by_rules sheet).after s k)));
  table = by_table;
  hunted = judge_room;
}

-- 'Looking at each transition alone': no register is remembered as given.
abbrev pub each_alone : Reader
each_alone = record {
  number = sheet_no;
  rules = by_rules;
  table = λ table t. with_after (by_table table t) (λ s k. record { state = ((by_table table t).after s k).state; given = no_registers; p = ((by_table table t).after s k).p });
  hunted = judge_room;
}

-- 'Stopping at N arguments when hunting'.
abbrev pub stops_at_n : Reader
stops_at_n = record { number = sheet_no; rules = by_rules; table = by_table; hunted = λ t. (table_of t).states }

-- Fault 4 looked for before fault 3.
abbrev pub alignment_first : Reader
alignment_first = record {
  number = sheet_no;
  rules = by_rules;
  table = λ table t. with_fault (by_table table t) (λ s k.
      cond (eqb (transition table t s.state k).form 2 && not (eqb ((transition table t s.state k).a % (table_kind table k).alignment) 0)) 4
      ((by_table table t).fault s k));
  hunted = judge_room;
}

-- 01's words for fault 3 of registers, which document 02 replaces: 'registers with b times w below the size'.
abbrev pub large_enough : Reader
large_enough = record {
  number = sheet_no;
  rules = by_rules;
  table = λ table t. with_fault (by_table table t) (λ s k.
      cond (eqb (transition table t s.state k).form 1 && eqb ((by_table table t).fault s k) 3)
      (unless (leb (table_kind table k).size ((transition table t s.state k).b * table.head.width)) 3)
      ((by_table table t).fault s k));
  hunted = judge_room;
}

-- The length field taken for the count of all bytes, its own two included.
abbrev pub length_of_all : Reader
length_of_all = record {
  number = λ s.
      or_else (unless (leb length_bytes (length s) && eqb (length_field s) (length s)) 1)
      (or_else (version_no s)
      (or_else (head_no s)
      (or_else (sheet_kinds_no (version_of s) (head_of s) (drop kinds_at s) (head_of s).kinds)
      (left_over_no s (sheet_kind_at (version_of s) s (head_of s).kinds)))));
  rules = by_rules;
  table = by_table;
  hunted = judge_room;
}

-- How states are numbered: 'as first met, going through states by number and in each through kinds in order'.
abbrev pub states_then_kinds : (X : Automaton) → List (Entry X)
states_then_kinds X = met X state_limit

-- The same misread: going through kinds in order and in each through states by number, from entry i on; and so in rounds.
unfoldable pub along_kind : (X : Automaton) → ℕ → ℕ → List (Entry X) → ℕ → List (Entry X)
along_kind X k zero l i = l
along_kind X k (suc turns) l i =
    elim (ltb i (length l) && X.goes (entry X l i).node k) [
      | true ↦ along_kind X k turns (meet X l (record { node = X.next (entry X l i).node k; parent = i; kind = k })) (suc i)
      | false ↦ along_kind X k turns l (suc i)
    ]

unfoldable pub kind_by_kind : (X : Automaton) → ℕ → ℕ → List (Entry X) → List (Entry X)
kind_by_kind X turns zero l = l
kind_by_kind X turns (suc j) l = along_kind X j turns (kind_by_kind X turns j l) 0

unfoldable pub in_rounds : (X : Automaton) → ℕ → ℕ → List (Entry X) → List (Entry X)
in_rounds X turns zero l = l
in_rounds X turns (suc rounds) l = in_rounds X turns rounds (kind_by_kind X turns X.kinds l)

-- Two rounds of sixteen turns a kind, which are more than S's twelve states need.
abbrev pub kinds_then_states : (X : Automaton) → List (Entry X)
kinds_then_states X = in_rounds X 16 2 (first_entry X ∷ [])
