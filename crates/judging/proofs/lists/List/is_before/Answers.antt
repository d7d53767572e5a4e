-- `is_before`: the lengths decide, or else the library's order of slices, which is kind order.
use Rattle.judging.proofs.Listing.{compare_is}
use Rattle.judging.proofs.lists.List.is_before.Goals as goal

pub returns : goal.returns
returns c = rw (c.is_lt.ensures, c.then.ensures, c.cmp-lengths.ensures, c.cmp.ensures, c.as_slice-kinds.ensures, c.as_slice-others.ensures) (compare_is _ _)
