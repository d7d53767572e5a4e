-- The most nodes of a watched walk, two for each state, and so the most kinds of a list that is found.
use Rattle.std.specs.Prelude.{ℕ, ◌*◌}
use Rattle.convention.specs.Numbers.{state_limit}

abbrev pub node_limit : ℕ
node_limit = 2 * state_limit
