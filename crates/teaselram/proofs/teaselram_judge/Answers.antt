-- `teaselram_judge`: the list's length fits its field.
use Rattle.teaselram.proofs.Says.{verdict_fits}
use Rattle.teaselram.proofs.teaselram_judge.Goals as goal

pub judging_says-requires : goal.judging_says-requires
judging_says-requires c = verdict_fits _ _ _ _ c.judge.ensures
