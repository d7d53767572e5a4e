-- Document 01, 'Answer numbers', the order of faults, and the offset of 'Placing by a table' through bytes: examples that settle more of the reading, like P1 to P12. proofs/Hold.antt holds the definitions to them.
use Rattle.std.specs.Prelude.{ℕ, List, [], ◌∷◌, ◌++◌, replicate}
use Rattle.convention.specs.Numbers.{refusal}
use Rattle.cases.specs.Cases.{by_rules_in, by_table_in, ask_row, judge, place, lent_for, on_stack, placed, refused, clean_outcome, simple, stackless_double, one_transition, char, int, double, Case, ◌⟹◌}

-- A kind that S does not have.
abbrev pub unknown : ℕ
unknown = 3

-- 401 arguments, the last of an unknown kind.
abbrev pub too_many : List ℕ
too_many = replicate 400 char ++ unknown ∷ []

-- char, double and double of the sheet whose double has no stack, and then an unknown kind: position 2 has no place, position 3 is unknown.
abbrev pub both_wrong : List ℕ
both_wrong = char ∷ double ∷ double ∷ unknown ∷ []

-- n = 3, w = A = 4, kinds of 4 and of 8 bytes, both given register 0 in the one state; the second is given so many registers from it on.
abbrev pub shared : ℕ → List ℕ
shared count = 0x00 ∷ 0x12 ∷ 0x01 ∷ 0x03 ∷ 0x04 ∷ 0x04 ∷ 0x02 ∷ 0x04 ∷ 0x04 ∷ 0x08 ∷ 0x04 ∷ 0x01 ∷ 0x01 ∷ 0x00 ∷ 0x01 ∷ 0x00 ∷ 0x01 ∷ 0x00 ∷ count ∷ 0x00 ∷ []

-- A table whose one transition is of form 9, and the same without its last byte.
abbrev pub wrong_form : List ℕ
wrong_form = one_transition 9 0 0 0

abbrev pub wrong_form_cut : List ℕ
wrong_form_cut = 0x00 ∷ 0x0B ∷ 0x01 ∷ 0x01 ∷ 0x04 ∷ 0x04 ∷ 0x01 ∷ 0x04 ∷ 0x04 ∷ 0x01 ∷ 9 ∷ 0 ∷ 0 ∷ []

-- Two states: the first gives stack bytes and stays; the second, which no list reaches, has no place.
abbrev pub dead_row : List ℕ
dead_row = 0x00 ∷ 0x10 ∷ 0x01 ∷ 0x01 ∷ 0x04 ∷ 0x04 ∷ 0x01 ∷ 0x04 ∷ 0x04 ∷ 0x02 ∷ 0x02 ∷ 0x00 ∷ 0x04 ∷ 0x00 ∷ 0x00 ∷ 0x00 ∷ 0x00 ∷ 0x00 ∷ []

-- No register and A = 8: a kind of 5 bytes with residue 0, and one of 4 bytes with residue 4.
abbrev pub residues : List ℕ
residues = 0x00 ∷ 0x12 ∷ 0x01 ∷ 0x00 ∷ 0x04 ∷ 0x08 ∷ 0x02 ∷ 0x05 ∷ 0x01 ∷ 0x04 ∷ 0x04 ∷ 0x01 ∷ 0x02 ∷ 0x00 ∷ 0x05 ∷ 0x00 ∷ 0x02 ∷ 0x04 ∷ 0x04 ∷ 0x00 ∷ []

abbrev pub settled : List Case
settled =
    -- 'placing: 8, 12, 9, 10': each before those after it.
    (by_rules_in simple too_many [] ⟹ refused 8 0 0 [])
    ∷ (by_rules_in stackless_double both_wrong (255 ∷ []) ⟹ refused 12 0 0 (255 ∷ []))
    -- 'so that 9 anywhere in the list comes before 10'.
    ∷ (place stackless_double both_wrong ⟹ refused 9 3 0 (lent_for both_wrong))
    ∷ (place stackless_double (char ∷ double ∷ double ∷ int ∷ []) ⟹ refused 10 2 1 (lent_for (char ∷ double ∷ double ∷ int ∷ [])))
    -- Fault 2 before fault 3: the second argument's register was given, and is one too few for it; alone it has fault 3.
    ∷ (by_table_in (shared 1) (0 ∷ 1 ∷ []) (lent_for (0 ∷ 1 ∷ [])) ⟹ refused 10 1 2 (lent_for (0 ∷ 1 ∷ [])))
    ∷ (by_table_in (shared 1) (1 ∷ []) (lent_for (1 ∷ [])) ⟹ refused 10 0 3 (lent_for (1 ∷ [])))
    -- 'p = 5, A = 8, residue 4 gives 4 + 8 = 12'.
    ∷ (by_table_in residues (0 ∷ 1 ∷ []) (lent_for (0 ∷ 1 ∷ [])) ⟹ placed 2 16 (on_stack 0 5 ++ on_stack 12 4))
    -- Number 7 'when its four bytes are there', and 3 where one is missing.
    ∷ (by_table_in wrong_form [] [] ⟹ refused 7 0 0 [])
    ∷ (by_table_in wrong_form_cut [] [] ⟹ refused 3 0 0 [])
    -- 'Condemning a table for a bad row that no list reaches' is a misreading.
    ∷ (judge dead_row ⟹ clean_outcome)
    -- Number 13, with the empty part; and the row of the one state that there is.
    ∷ (ask_row (one_transition 2 0 4 0) 1 ⟹ refused 13 0 0 [])
    ∷ (ask_row (one_transition 2 0 4 0) 0 ⟹ record { said = refusal 0; bytes = 2 ∷ 0 ∷ 4 ∷ 0 ∷ [] })
    ∷ []
