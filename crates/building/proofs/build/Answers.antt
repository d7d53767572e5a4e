-- `build`: the answer is that of building in the sheet's rules where it could be read; the reader's refusal otherwise.
use Rattle.std.proofs.lemmas.Result.{err_from_is_err_and}
use Rattle.building.proofs.Answering.{built_answer, built_memory, refused_answer, refused_memory}
use Rattle.building.proofs.build.Goals as goal

pub returns-in_err-rules : goal.returns-in_err-rules
returns-in_err-rules c =
    let p = err_from_is_err_and c.from_residual.result c.from_residual.ensures.1 in
    rw (p.1, p.2) (record { value = refused_answer _ _ c.in_err-rules.ensures _; out_after = refused_memory _ _ c.in_err-rules.ensures _ })

pub returns : goal.returns
returns c = record {
  value = built_answer _ _ c.in_ok-rules.ensures.0 c.in_ok-rules.ensures.1 _ _ _ c.build_in.ensures;
  out_after = built_memory _ _ c.in_ok-rules.ensures.0 c.in_ok-rules.ensures.1 _ _ _ c.build_in.ensures;
}
