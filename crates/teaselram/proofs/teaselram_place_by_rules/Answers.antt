-- `teaselram_place_by_rules`: so few arguments are placed that their count fits its field.
use Rattle.teaselram.proofs.Says.{rules_count}
use Rattle.teaselram.proofs.teaselram_place_by_rules.Goals as goal

pub placing_says-requires : goal.placing_says-requires
placing_says-requires c = rules_count _ _ _ _ c.place_by_rules.ensures.value
