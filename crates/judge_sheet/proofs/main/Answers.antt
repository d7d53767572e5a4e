-- `main`: the text has room for every line, by its digits.
use borrow.Author.Rules.{rules}
use Rattle.convention.specs.Program.{digits_in, decimal}
use Rattle.judge_sheet.proofs.main.Goals as goal

pub answer-n-requires : goal.answer-n-requires
unfolding digits_in decimal
answer-n-requires c = search rules
