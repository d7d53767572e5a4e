-- `answer`: no table needs more room than there is, one that was built can be judged, and each answer is the text that the program prints.
use Rattle.convention.specs.Layout.{shape_length, state_length}
use Rattle.std.proofs.Common.{◌≤◌, length, arith}
use Rattle.convention.specs.Program.{input_limit}
use borrow.Author.Rules.{rules}
use Rattle.judge_sheet.proofs.Builds.{table_within, table_long, table_line_asks}
use Rattle.judge_sheet.proofs.Answers.{refusal_room, prints_long, prints_refused, prints_built}
use Rattle.judge_sheet.proofs.answer.Goals as goal

pub write_refused-requires : goal.write_refused-requires
write_refused-requires c = search (refusal_room, rules)

pub returns-then-input-gt-INPUT_LIMIT : goal.returns-then-input-gt-INPUT_LIMIT
returns-then-input-gt-INPUT_LIMIT c = search (prints_long, rules)

pub slice_bounds-table-end : goal.slice_bounds-table-end
slice_bounds-table-end c = search (table_within, rules)

pub slice_bounds-table_line-end : goal.slice_bounds-table_line-end
slice_bounds-table_line-end c = search (table_long, rules)

pub table_line-requires : goal.table_line-requires
table_line-requires c = search (table_line_asks, rules)

pub write_refused-requires-in-Err : goal.write_refused-requires-in-Err
write_refused-requires-in-Err c = search (refusal_room, rules)

pub returns-in-Ok : goal.returns-in-Ok
unfolding shape_length state_length
returns-in-Ok c =
    let few : length c.args.input.now ≤ input_limit = omega arith in
    search (prints_built, rules)

pub returns-in-Err : goal.returns-in-Err
unfolding shape_length state_length
returns-in-Err c =
    let few : length c.args.input.now ≤ input_limit = omega arith in
    search (prints_refused, rules)
