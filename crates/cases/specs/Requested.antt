-- Document 02: examples that settle the reading of its requests, in their order, each through bytes. proofs/Hold.antt holds the definitions to them.
use Rattle.std.specs.Prelude.{ℕ, List, [], ◌∷◌}
use Rattle.cases.specs.Cases.{by_table_in, judge, lent_for, refused, clean_outcome, goes_wrong, Case, ◌⟹◌}
use Rattle.cases.specs.Settled.{shared}

-- W-202: n = 4, w = 4, A = 8 and one kind of so many bytes. The first state gives it so many registers, the second stack bytes.
abbrev pub size_in : ℕ → ℕ → List ℕ
size_in size count = 0x00 ∷ 0x10 ∷ 0x01 ∷ 0x04 ∷ 0x04 ∷ 0x08 ∷ 0x01 ∷ size ∷ 0x08 ∷ 0x02 ∷ 0x01 ∷ 0x00 ∷ count ∷ 0x01 ∷ 0x02 ∷ 0x00 ∷ size ∷ 0x01 ∷ []

abbrev pub double_in : ℕ → List ℕ
double_in = size_in 8

abbrev pub requested : List Case
requested =
    -- W-202, 'A double in three registers was passed': in two it is right, and in three or in none it is not.
    (judge (double_in 2) ⟹ clean_outcome)
    ∷ (judge (double_in 3) ⟹ goes_wrong 3 (0 ∷ []))
    ∷ (judge (double_in 0) ⟹ goes_wrong 3 (0 ∷ []))
    ∷ (by_table_in (double_in 3) (0 ∷ []) (lent_for (0 ∷ [])) ⟹ refused 10 0 3 (lent_for (0 ∷ [])))
    ∷ (by_table_in (double_in 0) (0 ∷ []) (lent_for (0 ∷ [])) ⟹ refused 10 0 3 (lent_for (0 ∷ [])))
    -- 'the size over w, rounded up': five bytes need two registers of four, and one is not right.
    ∷ (judge (size_in 5 2) ⟹ clean_outcome)
    ∷ (judge (size_in 5 1) ⟹ goes_wrong 3 (0 ∷ []))
    -- Fault 2 before fault 3 of too many registers: a register of the second argument's run was given; alone it has fault 3.
    ∷ (by_table_in (shared 3) (0 ∷ 1 ∷ []) (lent_for (0 ∷ 1 ∷ [])) ⟹ refused 10 1 2 (lent_for (0 ∷ 1 ∷ [])))
    ∷ (by_table_in (shared 3) (1 ∷ []) (lent_for (1 ∷ [])) ⟹ refused 10 0 3 (lent_for (1 ∷ [])))
    ∷ []
