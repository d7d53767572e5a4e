-- `word`: one more byte.
use borrow.Author.Rules.{rules}
use Rattle.line.proofs.Appending.{byte_on}
use Rattle.line.proofs.Text.word.Goals as goal

pub loop-byte-preserved : goal.loop-byte-preserved
loop-byte-preserved c = search (byte_on, rules)
