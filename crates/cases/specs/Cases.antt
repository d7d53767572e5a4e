-- Document 01, 'Examples to settle the reading': P1 to P12, each through bytes. What stands here is 01's text; proofs/Hold.antt holds the definitions to it.
use Rattle.std.specs.Prelude.{ℕ, zero, suc, ◌*◌, Bool, true, false, ◌&&◌, List, [], ◌∷◌, ◌++◌, eqb, length, replicate}
use Rattle.convention.specs.Numbers.{Said, refusal, state_limit, argument_limit, placing_says, judging_says}
use Rattle.convention.specs.Sheets.{sheet_of}
use Rattle.convention.specs.Tables.{table_no, table_of, row_no, row}
use Rattle.convention.specs.Lists.{Steps, record_length, placing, placing_memory}
use Rattle.convention.specs.Rules.{place_by_rules, rules_memory}
use Rattle.convention.specs.Walked.{place_by_table, table_memory}
use Rattle.convention.specs.Judged.{lists_up_to, Verdict, first_fault, verdict_by_trying}
use Rattle.cases.specs.Readings.{Reader, as_defined}

-- A case: a list to place by the rules of a sheet or by a table, with the lent memory; a table to judge; a row to ask for.
pub data Given : Type 0 where
  by_rules_in : (sheet kinds lent : List ℕ) → Given
  by_table_in : (table kinds lent : List ℕ) → Given
  judge : (table : List ℕ) → Given
  ask_row : (table : List ℕ) (state : ℕ) → Given

-- What comes of it: what is said in 01's numbers, and the bytes: the lent memory after placing, the list of a verdict, or the row.
pub record Outcome : Type 0 where
  pub said : Said
  pub bytes : List ℕ

-- Lent memory of the needed room; each byte holds 255 before.
abbrev pub lent_for : List ℕ → List ℕ
lent_for ks = replicate (record_length * length ks) 255

abbrev pub place : List ℕ → List ℕ → Given
place s ks = by_rules_in s ks (lent_for ks)

-- A list that is placed, one way or the other, by a convention of m kinds, of which reading gave a number.
abbrev pub placed_by : ℕ → ℕ → Steps → List ℕ → List ℕ → Outcome
placed_by number m M ks lent = record {
  said = placing_says (placing argument_limit number m M ks (length lent));
  bytes = placing_memory (placing argument_limit number m M ks (length lent)) M ks lent;
}

-- A table that cannot be read is refused; any other gets its verdict.
abbrev pub judged : ℕ → Verdict → Outcome
judged zero verdict = record { said = judging_says verdict.answer; bytes = verdict.list }
judged (suc number) verdict = record { said = refusal (suc number); bytes = [] }

-- What comes of a case for a reader.
unfoldable pub comes_of : Reader → Given → Outcome
comes_of r (by_rules_in s ks lent) = placed_by (r.number s) (sheet_of s).head.kinds (r.rules (sheet_of s)) ks lent
comes_of r (by_table_in t ks lent) = placed_by (table_no state_limit t) (table_of t).head.kinds (r.table (table_of t) t) ks lent
comes_of r (judge t) = judged (table_no state_limit t) (first_fault (r.table (table_of t) t) (lists_up_to (table_of t).head.kinds (r.hunted t)))
comes_of r (ask_row t state) = record { said = refusal (row_no state_limit t state); bytes = row state_limit t state }

-- What the definitions say of it that the public calls' contracts cite.
abbrev pub defined : Given → Outcome
defined (by_rules_in s ks lent) = record { said = placing_says (place_by_rules argument_limit s ks (length lent)); bytes = rules_memory argument_limit s ks lent }
defined (by_table_in t ks lent) = record {
  said = placing_says (place_by_table state_limit argument_limit t ks (length lent));
  bytes = table_memory state_limit argument_limit t ks lent;
}
defined (judge t) = judged (table_no state_limit t) (verdict_by_trying t)
defined (ask_row t state) = record { said = refusal (row_no state_limit t state); bytes = row state_limit t state }

-- The reader whom the cases hold for.
abbrev pub ours : Reader
ours = as_defined

-- Sheet S: its head, char and int, and then double, whose bytes some cases change. The length counts the bytes after it.
abbrev pub with_double : ℕ → List ℕ → List ℕ
with_double len double =
    0x00 ∷ len ∷ 0x01 ∷ 0x04 ∷ 0x04 ∷ 0x08 ∷ 0x03
    ∷ 0x01 ∷ 0x01 ∷ 0x01 ∷ 0x04 ∷ 0x00 ∷ 0x01 ∷ 0x02 ∷ 0x03
    ∷ 0x04 ∷ 0x04 ∷ 0x01 ∷ 0x04 ∷ 0x00 ∷ 0x01 ∷ 0x02 ∷ 0x03
    ∷ double

-- S itself; double closing (flags 3); double without stack (flags 0); double with starts 0 and 2, flags 3.
abbrev pub simple : List ℕ
simple = with_double 0x1C (0x08 ∷ 0x08 ∷ 0x01 ∷ 0x03 ∷ 0x00 ∷ 0x01 ∷ 0x02 ∷ [])

abbrev pub closing_double : List ℕ
closing_double = with_double 0x1C (0x08 ∷ 0x08 ∷ 0x03 ∷ 0x03 ∷ 0x00 ∷ 0x01 ∷ 0x02 ∷ [])

abbrev pub stackless_double : List ℕ
stackless_double = with_double 0x1C (0x08 ∷ 0x08 ∷ 0x00 ∷ 0x03 ∷ 0x00 ∷ 0x01 ∷ 0x02 ∷ [])

abbrev pub even_double : List ℕ
even_double = with_double 0x1B (0x08 ∷ 0x08 ∷ 0x03 ∷ 0x02 ∷ 0x00 ∷ 0x02 ∷ [])

-- 'n = 1, w = A = 4, one kind (4, 4), one state', with one transition.
abbrev pub one_transition : ℕ → ℕ → ℕ → ℕ → List ℕ
one_transition form a b next = 0x00 ∷ 0x0C ∷ 0x01 ∷ 0x01 ∷ 0x04 ∷ 0x04 ∷ 0x01 ∷ 0x04 ∷ 0x04 ∷ 0x01 ∷ form ∷ a ∷ b ∷ next ∷ []

-- char, int and double are kinds 0, 1 and 2.
abbrev pub char : ℕ
char = 0

abbrev pub int : ℕ
int = 1

abbrev pub double : ℕ
double = 2

-- The six bytes of a record whose register or offset fits one byte.
abbrev pub in_registers : ℕ → ℕ → List ℕ
in_registers first count = 1 ∷ 0 ∷ 0 ∷ 0 ∷ first ∷ count ∷ []

abbrev pub on_stack : ℕ → ℕ → List ℕ
on_stack offset count = 2 ∷ 0 ∷ 0 ∷ 0 ∷ offset ∷ count ∷ []

-- Success with so many arguments and the final p; a refusal at a position, lent memory untouched; a verdict.
abbrev pub placed : ℕ → ℕ → List ℕ → Outcome
placed count p bytes = record { said = record { number = 0; fault = 0; count = count; value = p }; bytes = bytes }

abbrev pub refused : ℕ → ℕ → ℕ → List ℕ → Outcome
refused number position fault lent = record { said = record { number = number; fault = fault; count = position; value = 0 }; bytes = lent }

abbrev pub clean_outcome : Outcome
clean_outcome = record { said = record { number = 0; fault = 0; count = 0; value = 0 }; bytes = [] }

abbrev pub goes_wrong : ℕ → List ℕ → Outcome
goes_wrong fault list = record { said = record { number = 0; fault = fault; count = length list; value = 0 }; bytes = list }

-- One line of the table of cases.
pub record Case : Type 0 where
  pub given : Given
  pub says : Outcome

infix 5 ◌⟹◌
abbrev pub ◌⟹◌ : Given → Outcome → Case
◌⟹◌ given says = record { given = given; says = says }

-- P1 to P12, in order.
abbrev pub cases : List Case
cases =
    (place simple [] ⟹ placed 0 0 [])
    ∷ (place simple (char ∷ int ∷ int ∷ double ∷ []) ⟹ placed 4 8 (in_registers 0 1 ++ (in_registers 1 1 ++ (in_registers 2 1 ++ on_stack 0 8))))
    ∷ (place simple (double ∷ double ∷ char ∷ int ∷ []) ⟹ placed 4 8 (in_registers 0 2 ++ (in_registers 2 2 ++ (on_stack 0 1 ++ on_stack 4 4))))
    ∷ (place simple (char ∷ int ∷ int ∷ double ∷ int ∷ [])
    ⟹ placed 5 8 (in_registers 0 1 ++ (in_registers 1 1 ++ (in_registers 2 1 ++ (on_stack 0 8 ++ in_registers 3 1)))))
    ∷ (place closing_double (char ∷ int ∷ int ∷ double ∷ int ∷ [])
    ⟹ placed 5 12 (in_registers 0 1 ++ (in_registers 1 1 ++ (in_registers 2 1 ++ (on_stack 0 8 ++ on_stack 8 4)))))
    ∷ (place stackless_double (char ∷ double ∷ double ∷ []) ⟹ refused 10 2 1 (lent_for (char ∷ double ∷ double ∷ [])))
    ∷ (place even_double (int ∷ double ∷ int ∷ []) ⟹ placed 3 4 (in_registers 0 1 ++ (in_registers 2 2 ++ on_stack 0 4)))
    ∷ (judge (one_transition 1 0 1 0) ⟹ goes_wrong 2 (0 ∷ 0 ∷ []))
    ∷ (judge (one_transition 2 0 4 0) ⟹ clean_outcome)
    ∷ (judge (one_transition 2 0 3 0) ⟹ goes_wrong 3 (0 ∷ []))
    ∷ (judge (one_transition 2 2 4 0) ⟹ goes_wrong 4 (0 ∷ []))
    ∷ (judge (one_transition 2 2 3 0) ⟹ goes_wrong 3 (0 ∷ []))
    ∷ []

-- Whether a case holds for a reader, and the numbers of those that do not, from 1 on.
unfoldable pub same_bytes : List ℕ → List ℕ → Bool
same_bytes [] [] = true
same_bytes [] (y ∷ ys) = false
same_bytes (x ∷ xs) [] = false
same_bytes (x ∷ xs) (y ∷ ys) = eqb x y && same_bytes xs ys

abbrev pub same_outcome : Outcome → Outcome → Bool
same_outcome a b =
    eqb a.said.number b.said.number && eqb a.said.fault b.said.fault && eqb a.said.count b.said.count
    && eqb a.said.value b.said.value && same_bytes a.bytes b.bytes

unfoldable pub failing : Reader → ℕ → List Case → List ℕ
failing r i [] = []
failing r i (c ∷ cs) = elim (same_outcome (comes_of r c.given) c.says) [ true ↦ failing r (suc i) cs | false ↦ i ∷ failing r (suc i) cs ]
