-- `table_line`: a table that can be read is judged; what the verdict says is small, so the list is within the memory and the line within `out`; that line
-- is the table's.
use borrow.Author.Rules.{rules}
use Rattle.judge_sheet.proofs.Verdicts.{judged, clean_room, clean_line, list_within, list_long, fault_room, fault_line}
use Rattle.judge_sheet.proofs.table_line.Goals as goal

pub unwrap-requires : goal.unwrap-requires
unwrap-requires c = search (judged, rules)

pub write_clean-requires : goal.write_clean-requires
write_clean-requires c = search (clean_room, c.in_default.ensures, rules)

pub returns-in_default : goal.returns-in_default
returns-in_default c = search (clean_line, c.in_default.ensures, rules)

pub slice_bounds-list-end : goal.slice_bounds-list-end
slice_bounds-list-end c = search (list_within, c.in-Some.ensures, rules)

pub slice_bounds-write_faulty-end : goal.slice_bounds-write_faulty-end
slice_bounds-write_faulty-end c = search (list_long, c.in-Some.ensures, rules)

pub write_faulty-requires : goal.write_faulty-requires
write_faulty-requires c = search (fault_room, c.in-Some.ensures, rules)

pub returns : goal.returns
returns c = search (fault_line, c.in-Some.ensures, rules)
