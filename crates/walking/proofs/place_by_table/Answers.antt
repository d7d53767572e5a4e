-- `place_by_table`: the lent memory where the table was refused, and the answer and the memory of a list where it was read.
use Rattle.std.proofs.Common.{ap}
use Rattle.walking.proofs.Calls.{refused_memory, placed_answer, placed_memory}
use Rattle.walking.proofs.place_by_table.Goals as goal

pub returns-in_err-read-clause-out_after : goal.returns-in_err-read-clause-out_after
returns-in_err-read-clause-out_after c = refused_memory _ _ _ _ c.in_err-read.ensures.number

pub returns-clause-value : goal.returns-clause-value
returns-clause-value c =
    placed_answer _ _ _ _ _ c.in_ok-read.ensures.number c.in_ok-read.ensures.table (ap (λ b. b.now) c.in_ok-read.ensures.bytes) _ _ c.place_list.ensures

pub returns-clause-out_after : goal.returns-clause-out_after
returns-clause-out_after c =
    placed_memory _ _ _ _ _ c.in_ok-read.ensures.number c.in_ok-read.ensures.table (ap (λ b. b.now) c.in_ok-read.ensures.bytes) _ _ c.place_list.ensures
