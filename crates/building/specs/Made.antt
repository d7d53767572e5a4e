-- Document 01, 'The built table': placing by it.
use Rattle.std.specs.Prelude.{ℕ}
use Rattle.convention.specs.declared.Sheet.{Sheet}
use Rattle.convention.specs.Tables.{table_of}
use Rattle.convention.specs.Lists.{Steps}
use Rattle.convention.specs.Walked.{by_table}
use Rattle.convention.specs.Built.{built_table}

-- Placing by the table that is built of a sheet.
abbrev pub by_built : ℕ → Sheet → Steps
by_built limit sheet = by_table (table_of (built_table limit sheet)) (built_table limit sheet)
