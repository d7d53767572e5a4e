-- `word`: the bytes so far were appended.
use Rattle.std.proofs.Common.{take}
use Rattle.line.specs.Appended.{Grown}
use Rattle.line.proofs.Text.word.Given as goal

abbrev pub invariant-loop-byte : goal.invariant-loop-byte
invariant-loop-byte l = Grown l.initial.self (take l.byte-index l.word) l.self
