-- `teaselram_place_by_table`: so few arguments are placed that their count fits its field.
use Rattle.teaselram.proofs.Says.{table_count}
use Rattle.teaselram.proofs.teaselram_place_by_table.Goals as goal

pub placing_says-requires : goal.placing_says-requires
placing_says-requires c = table_count _ _ _ _ c.place_by_table.ensures.value
