-- `kinds`: the kinds so far were appended, each as a field.
use Rattle.std.proofs.Common.{take, flat_map}
use Rattle.line.specs.Appended.{Grown}
use Rattle.line.proofs.Appending.{kind_field}
use Rattle.line.proofs.Text.kinds.Given as goal

abbrev pub invariant-loop-kind : goal.invariant-loop-kind
invariant-loop-kind l = Grown l.initial.self (flat_map kind_field (take l.kind-index l.list)) l.self
