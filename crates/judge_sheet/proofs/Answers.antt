-- Each answer of the program is the text that it prints: for an input that is too long, a sheet that is refused, and a table that was built.
use Prim.Native.Nat.{ℕ, ◌≤◌, ◌<◌}
use mathlib.Core.Path.{◌≡◌, refl, ◌∙◌}
use mathlib.Core.List.{List, []}
use native.Mathlib.Omega.{arith}
use lib.ListN.{length, take}
use Rattle.convention.specs.declared.Head.{Head}
use Rattle.convention.specs.declared.Refusal.{Refusal}
use Rattle.convention.specs.Results.{refusal_number, building_answer}
use Rattle.convention.specs.declared.Built.{Built as BuiltTable}
use Rattle.std.specs.Prelude.{Result, Ok, Err}
use Rattle.convention.specs.Answers.{BuildingAnswer}
use Rattle.convention.specs.Answers.{Built}
use Rattle.convention.specs.Answers.{Clean}
use Rattle.convention.specs.Numbers.{state_limit}
use Rattle.convention.specs.Fields.{head_of}
use Rattle.convention.specs.Sheets.{sheet_of}
use Rattle.convention.specs.Built.{built_table, build, build_memory}
use Rattle.convention.specs.Program.{input_limit, refused_line, line, Prints}
use Rattle.line.specs.Appended.{FieldRoom, Appended}
use Rattle.line.proofs.Lengths.{refused_most}
use Rattle.judge_sheet.specs.Texts.{line_room, table_room, TextIs, TableLine}
use Rattle.judge_sheet.proofs.Texts.{text_is}
use Rattle.judge_sheet.proofs.Builds.{room_enough, table_bytes}

-- Room for a refusal.
pub refusal_room : (out : List ℕ) (number : ℕ) → line_room ≤ length out → number < 256 → FieldRoom out 0 (refused_line number)
refusal_room out number room h = record { fits = omega (arith, room, refused_most 3 number (omega arith) (omega arith)) }

-- A refusal: there is nothing to judge.
refused_prints : (input : List ℕ) (number : ℕ) → (input_limit < length input → number ≡ 1)
    → (length input ≤ input_limit → BuildingAnswer.Refused number ≡ build state_limit input (length (built_table state_limit (sheet_of input))))
    → Prints input (refused_line number)
unfolding line
refused_prints input number long builds =
    let none : (n len : ℕ) → BuildingAnswer.Refused number ≡ Built n len → ⊥ = λ n len e. let z : ◌≡◌ {A = ℕ} 0 1 = cc in omega arith in
    record {
      building = BuildingAnswer.Refused number;
      verdict = Clean;
      before = [];
      after = [];
      long = λ h. rw (long h);
      builds = builds;
      room = λ n len e. absurd (none n len e);
      judges = λ n len e. absurd (none n len e);
      prints = refl;
    }

pub long_prints : (input : List ℕ) → input_limit < length input → Prints input (refused_line 1)
long_prints input h = refused_prints input 1 (λ _. refl) (λ k. absurd (omega arith))

module _ (input out : List ℕ) (m : ℕ) (out' : List ℕ) where
  pub prints_long : (number : ℕ) → number ≡ 1 → input_limit < length input → Appended out 0 (refused_line number) m out' → TextIs (Prints input) m out'
  prints_long number is h done = text_is (Prints input) (rw is at done) (long_prints input h)

  module _ (before after : List ℕ) (few : length input ≤ input_limit) (room : length before ≡ table_room)
      (result : Result BuiltTable Refusal) (said : building_answer result ≡ build state_limit input (length before)) where
    builds : building_answer result ≡ build state_limit input (length (built_table state_limit (sheet_of input)))
    builds = said ∙ rw room (room_enough input)

    pub prints_refused : (refusal : Refusal) (number : ℕ) → result ≡ Err refusal → number ≡ refusal_number refusal
        → Appended out 0 (refused_line number) m out' → TextIs (Prints input) m out'
    prints_refused refusal number is h done =
        text_is (Prints input) (rw h at done) (refused_prints input (refusal_number refusal) (λ h. absurd (omega arith)) (λ _. rw is at builds))

    pub prints_built : (built : BuiltTable) (head : Head) → result ≡ Ok built → after ≡ build_memory state_limit input before → head ≡ head_of input
        → TextIs (TableLine built.states head.kinds (take built.length after)) m out' → TextIs (Prints input) m out'
    unfolding line sheet_of
    prints_built built head is memory h text =
        let bytes = table_bytes input before after result said memory built is in
        let found = text.holds in
        record {
          counts = text.counts;
          holds =
              record {
                building = Built built.states built.length;
                verdict = found.verdict;
                before = found.before;
                after = found.after;
                long = λ k. absurd (omega arith);
                builds = λ _. rw is at builds;
                room = λ _ _ _. rw bytes at found.room;
                judges = λ _ _ _. rw bytes at found.judges;
                prints = found.prints ∙ rw h;
              };
        }
