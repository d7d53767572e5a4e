-- Why the path is written: the kinds after those of the path to entry j stand before the end, at each turn, and entry j's pair tells its parent and the kind before them.
use Rattle.std.proofs.Common.{ℕ, suc, ◌+◌, ◌-◌, ◌/◌, ◌%◌, ◌≤◌, ◌<◌, ◌≡◌, List, ◌∷◌, ◌++◌, length, get_or, take, drop, set, ◌∙◌, arith}
use mathlib.Core.List.{append_assoc}
use lib.Seq.{take-suc, set_at, length-take-le, append_snoc}
use Rattle.convention.specs.Bytes.{written}
use Rattle.convention.specs.Explored.{Numbered, numbered, path_from, path}
use Rattle.convention.specs.Scanned.{Tree}
use Rattle.convention.proofs.Exploring.{path_suc}
use Rattle.exploring.specs.declared.Entry.{Entry as Met}
use Rattle.exploring.specs.Stored.{pair_kinds, entries_of, kept_at, Kept, PathIs, PathHalf}
use Rattle.exploring.proofs.Meeting.{counted, read_entry, long}

-- One more byte written before those that were.
written_front : (d : List ℕ) (a b : ℕ) (bs : List ℕ) → a < length d → set (written d (suc a) bs) a b ≡ written d a (b ∷ bs)
written_front d a b bs h =
    let same : suc a + length bs ≡ a + suc (length bs) = omega arith in
    rw (take-suc d a 0 h, append_snoc, set_at (take a d) (get_or d a 0) (bs ++ drop (suc a + length bs) d) b a (length-take-le a d (omega arith)), same)

module _ (nodes : ℕ) (marks : List ℕ) (entries : List Met) (count : ℕ) (kept : Kept nodes marks entries count) (wide : length entries ≡ nodes) (l : List Met)
    (is : take count entries ≡ l) (i : ℕ) (before : List ℕ) where
  -- Before entry j.
  module _ (j at : ℕ) (work : List ℕ) (half : PathHalf l i before j at work) where
    within : at ≤ length before
    within = omega (arith, half.ends)

    here : j < count
    here = omega (arith, half.inside, counted nodes marks entries count kept wide l is)

    module _ (h : 0 < j) where
      abbrev pair : ℕ
      pair = (kept_at entries j).pair

      -- Its parent is a lower one.
      pub path_less : pair / pair_kinds < j
      path_less = kept.lower j h here

      longer : (N : Numbered) → Tree (numbered N) (entries_of N l)
          → path (numbered N) (entries_of N l) i ≡ path (numbered N) (entries_of N l) (pair / pair_kinds) ++ pair % pair_kinds ∷ half.kinds
      longer N tree =
          half.rest N tree
          ∙ rw (
            path_suc (numbered N) (entries_of N l) tree j h (omega (arith, here, long nodes marks entries count kept wide l is N)),
            read_entry nodes marks entries count kept wide l is N j here,
            append_assoc,
          )

      -- One more kind before those written.
      pub path_turn : PathHalf l i before (pair / pair_kinds) (at - 1) (set work (at - 1) (pair % pair_kinds))
      path_turn =
          let less = path_less in
          let front : suc (at - 1) ≡ at = omega (arith, half.from) in
          record {
            inside = omega (arith, half.inside);
            from = omega (arith, half.from);
            kinds = pair % pair_kinds ∷ half.kinds;
            ends = omega (arith, half.ends, half.from);
            memory = rw (half.memory, ← written_front before (at - 1) (pair % pair_kinds) half.kinds (omega (arith, within, half.from)), front);
            rest = longer;
          }

    -- The start is reached.
    pub path_end : j ≤ 0 → PathIs l i before at work
    unfolding path_from
    path_end h =
        let none : j ≡ 0 = omega arith in
        let all : (N : Numbered) → Tree (numbered N) (entries_of N l) → path (numbered N) (entries_of N l) i ≡ half.kinds = λ N tree. rw none at (half.rest N tree) in
        record { within = within; writes = λ N tree. rw (all N tree) (half.ends, half.memory) }
