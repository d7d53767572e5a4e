-- `argument`: where its place ends, and what its record and the state after it are, by what each call answers.
use Prim.Native.Nat.{◌≤◌}
use native.Mathlib.Omega.{arith}
use Rattle.walking.proofs.Steps.{stack_ends, argument_on}
use borrow.Author.Rules.{rules}
use Rattle.walking.proofs.argument.Goals as goal

pub place_p-p-requires : goal.place_p-p-requires
place_p-p-requires c = let byte : c.args.step.x.b ≤ 255 = omega arith in search (stack_ends, rules)

pub returns : goal.returns
returns c = argument_on _ _ _ _ c.requires _ _ _ _ c.in_ok-check.ensures c.place-found.ensures c.write_record.ensures c.place_taken-given.ensures c.place_p-p.ensures
