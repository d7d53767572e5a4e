-- Document 01, demand 3 and 'Placing by a table': faulty lists and the verdict.
use Rattle.std.specs.Prelude.{ℕ, zero, suc, ◌*◌, ◌<◌, ◌≤◌, ◌≡◌, List, [], ◌∷◌, ◌++◌, map, leb, length, take, drop}
use Rattle.convention.specs.Answers.{JudgingAnswer}
use Rattle.convention.specs.Answers.{Clean, Fault}
use Rattle.convention.specs.Numbers.{or_else, unless}
use Rattle.convention.specs.Tables.{table_no, table_of}
use Rattle.convention.specs.Lists.{Steps, fault_from, KindsBelow}
use Rattle.convention.specs.Walked.{by_table}
use Rattle.convention.specs.Orders.{Before}

-- The fault of a list in the walk by the table t, 0 where the list is not faulty.
abbrev pub list_fault : List ℕ → List ℕ → ℕ
list_fault t ks = fault_from (by_table (table_of t) t) (by_table (table_of t) t).begin ks

-- 'A list of kinds is faulty if some step has a fault.'
unfoldable pub FaultyList : List ℕ → List ℕ → Type 0
FaultyList t ks = KindsBelow (table_of t).head.kinds ks × (0 < list_fault t ks)

-- 'no finite list of its kinds goes wrong'.
unfoldable pub CleanTable : List ℕ → Type 0
CleanTable t = (ks : List ℕ) → FaultyList t ks → ⊥

-- 'a list that does go wrong; no shorter list does, and no list of that length earlier in kind order does'.
pub record FirstFaulty (t : List ℕ) (fault : ℕ) (ks : List ℕ) : Type 0 where
  pub faulty : FaultyList t ks
  pub says : fault ≡ list_fault t ks
  pub first : (ks' : List ℕ) → FaultyList t ks' → Before ks' ks → ⊥

-- 'Needed room: judging, 2N bytes.'
abbrev pub judge_room : List ℕ → ℕ
judge_room t = 2 * (table_of t).states

-- The number of judging: the reader's, then 12.
unfoldable pub judge_no : ℕ → List ℕ → ℕ → ℕ
judge_no limit t room = or_else (table_no limit t) (unless (leb (judge_room t) room) 12)

-- 'The judge answers clean, writing nothing; or fault number and list length, with the list in the first bytes and the others left.'
-- What an answer and the lent memory afterwards mean: t is the table, out the lent memory before.
unfoldable pub Judges : ℕ → List ℕ → List ℕ → JudgingAnswer → List ℕ → Type 0
Judges limit t out Clean out' = (judge_no limit t (length out) ≡ 0) × CleanTable t × (out' ≡ out)
Judges limit t out (Fault fault n) out' =
    (judge_no limit t (length out) ≡ 0) × (n ≤ judge_room t) × FirstFaulty t fault (take n out') × (drop n out' ≡ drop n out) × (length out' ≡ length out)
Judges limit t out (JudgingAnswer.Refused number) out' = (judge_no limit t (length out) ≡ number) × (0 < number) × (out' ≡ out)

-- The same verdict by trying, for examples: all lists of n kinds, in kind order; those of at most n kinds, shorter first; the first that is faulty.
unfoldable pub each_kind : ℕ → List (List ℕ) → List (List ℕ)
each_kind zero lists = []
each_kind (suc m) lists = each_kind m lists ++ map (λ ks. m ∷ ks) lists

unfoldable pub lists_of : ℕ → ℕ → List (List ℕ)
lists_of m zero = [] ∷ []
lists_of m (suc n) = each_kind m (lists_of m n)

unfoldable pub lists_up_to : ℕ → ℕ → List (List ℕ)
lists_up_to m zero = lists_of m zero
lists_up_to m (suc n) = lists_up_to m n ++ lists_of m (suc n)

-- A verdict with its list.
pub record Verdict : Type 0 where
  pub answer : JudgingAnswer
  pub list : List ℕ

unfoldable pub first_fault : (M : Steps) → List (List ℕ) → Verdict
first_fault M [] = record { answer = Clean; list = [] }
first_fault M (ks ∷ lists) =
    elim (fault_from M M.begin ks) [ zero ↦ first_fault M lists | suc fault ↦ record { answer = Fault (suc fault) (length ks); list = ks } ]

-- 'If any faulty list exists, one of at most 2N arguments does.'
unfoldable pub verdict_by_trying : List ℕ → Verdict
verdict_by_trying t = first_fault (by_table (table_of t) t) (lists_up_to (table_of t).head.kinds (judge_room t))
