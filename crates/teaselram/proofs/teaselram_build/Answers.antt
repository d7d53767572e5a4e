-- `teaselram_build`: the table's length fits its field.
use Rattle.teaselram.proofs.Says.{length_fits}
use Rattle.teaselram.proofs.teaselram_build.Goals as goal

pub building_says-requires : goal.building_says-requires
building_says-requires c = length_fits _ _ _ c.build.ensures.value
