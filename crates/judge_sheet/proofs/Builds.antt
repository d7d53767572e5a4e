-- What building with the program's room means: no table needs more, so number 12 is never given, and a table that is built can be judged.
use Prim.Native.Nat.{ℕ, zero, suc, ◌≤◌}
use mathlib.Core.Path.{◌≡◌, refl, sym, ◌∙◌}
use mathlib.Core.List.{List}
use native.Mathlib.Nat.{le_refl}
use lib.ListN.{length, take}
use borrow.Author.Tests.{le-leb}
use Rattle.io.proofs.Counting.{length-take_of_le}
use Rattle.convention.specs.declared.Head.{Head}
use Rattle.convention.specs.Answers.{Built}
use Rattle.std.specs.Prelude.{Result, Ok}
use Rattle.convention.specs.declared.Refusal.{Refusal}
use Rattle.convention.specs.declared.Built.{Built as BuiltTable}
use Rattle.convention.specs.Results.{building_answer}
use Rattle.convention.specs.Numbers.{state_limit, or_else}
use Rattle.convention.specs.Fields.{head_of}
use Rattle.convention.specs.Sheets.{sheet_no, sheet_of}
use Rattle.convention.specs.Built.{built_states, built_table, many_states_no, build_no, build, build_memory}
use Rattle.convention.proofs.Positions.{length_said}
use Rattle.building.proofs.Readable.{built_head, built_states_lem}
use Rattle.building.proofs.Bytes.{built_most_lem, built_says, built_readable, bytes_are, bytes_within}
use Rattle.judge_sheet.specs.Texts.{line_room, table_room, TableLineAsks}

-- Two tests in order agree where the later ones agree after a first that passes.
or_same : (a b c : ℕ) → (a ≡ 0 → b ≡ c) → or_else a b ≡ or_else a c
or_same zero b c same = same refl
or_same (suc a) b c same = refl

module _ (s : List ℕ) where
  abbrev states : ℕ
  states = length (built_states state_limit (sheet_of s))

  abbrev table : List ℕ
  table = built_table state_limit (sheet_of s)

  -- The program's room is as good as the table's length.
  same_no : build_no state_limit s table_room ≡ build_no state_limit s (length table)
  unfolding build_no
  same_no =
      or_same (sheet_no s) _ _ λ read.
      or_same (many_states_no state_limit (sheet_of s)) _ _ λ e. rw (le-leb _ _ (built_most_lem state_limit s read e), le-leb _ _ (le_refl (length table)))

  pub room_enough : build state_limit s table_room ≡ build state_limit s (length (built_table state_limit (sheet_of s)))
  unfolding build
  room_enough = rw same_no

  -- A table that was built is the first `len` bytes of the memory.
  module _ (before after : List ℕ) (result : Result BuiltTable Refusal) (said : building_answer result ≡ build state_limit s (length before))
      (memory : after ≡ build_memory state_limit s before) (built : BuiltTable) (is : result ≡ Ok built) where
    abbrev n : ℕ
    n = built.states

    abbrev len : ℕ
    len = built.length

    known : build state_limit s (length before) ≡ Built n len
    known = sym said ∙ rw is

    pub table_bytes : take len after ≡ built_table state_limit (sheet_of s)
    table_bytes = rw memory (bytes_are state_limit s before n len known)

    pub table_within : len ≤ length after
    table_within = rw memory (bytes_within state_limit s before n len known)

    pub table_long : len ≡ length (take len after)
    table_long = length-take_of_le len after table_within

    -- So it can be judged, and its line written.
    pub table_line_asks : (head : Head) (out : List ℕ) → head ≡ head_of s → line_room ≤ length out → TableLineAsks n head.kinds (take len after) out
    unfolding sheet_of
    table_line_asks head out h room =
        rw table_bytes
        (record {
          readable = built_readable state_limit s (length before) n len known length_said;
          rows = (built_says state_limit s (length before) n len known).1 ∙ sym (built_states_lem _ (sheet_of s) (built_states state_limit (sheet_of s)));
          head = rw (h, built_head _ (sheet_of s) (built_states state_limit (sheet_of s)));
          room = room;
        })
