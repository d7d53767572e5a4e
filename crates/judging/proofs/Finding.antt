-- One search, on plain values: what is asked, and the list of the first hit.
use Rattle.std.proofs.Common.{ℕ, ◌<◌, ◌≡◌, List, [], ◌∷◌, length, inl, refl, ◌∙◌, arith, Option, Some, None}
use Rattle.convention.specs.declared.Table.{Table}
use Rattle.convention.specs.Numbers.{state_limit}
use Rattle.convention.specs.Explored.{Automaton, Entry, met, met_up_to}
use Rattle.convention.specs.Scanned.{Tree}
use Rattle.convention.specs.Promised.{TableRead}
use Rattle.convention.proofs.Exploring.{path_stays}
use Rattle.convention.proofs.Numbering.{up_to_there, up_to_grows}
use Rattle.convention.proofs.Numbered.{numbered_decides}
use Rattle.convention.proofs.Scanning.{up_to_scanned}
use Rattle.exploring.specs.declared.Entry.{Entry as Met}
use Rattle.exploring.specs.Stored.{start_entry}
use Rattle.judging.specs.declared.search.Found.{Found}
use Rattle.judging.specs.Limits.{node_limit}
use Rattle.judging.specs.Watched.{Watch, watched_steps, watched, nodes, scan}
use Rattle.judging.specs.Searched.{SearchAsks, HoldsUpTo, SearchIs}
use Rattle.judging.specs.Listed.{FoundIs, KeepIs}
use Rattle.judging.specs.Found.{FindIs, ImproveIs}
use Rattle.judging.proofs.Searching.{held_long}
use Rattle.judging.proofs.Watched.{nodes_few}

module _ (table : Table) (t : List ℕ) (watch : Watch) (read : TableRead state_limit table t) where
  -- The start is met.
  pub find_searches : SearchAsks table t watch (start_entry ∷ [])
  unfolding met
  find_searches = record { holds = refl }

  module _ (r : Option Found) (kept : List Met) (searched : SearchIs table t watch r kept) where
    -- Nothing hits.
    pub find_none : r ≡ None → (best : Option (List ℕ)) → ImproveIs table t watch best best
    find_none e best = record {
      found = None;
      find = record { none = λ _. searched.none e; some = λ ks q. absurd (cc) };
      better = inl (record { is = refl; why = λ ks q. absurd (cc) });
    }

    module _ (f : Found) (e : r ≡ Some f) where
      abbrev walk : Automaton
      walk = watched table t watch

      abbrev entries : List (Entry walk)
      entries = met_up_to walk f.entry f.kind

      abbrev held : HoldsUpTo table t watch f.entry f.kind kept
      held = searched.holds f e

      inside : f.entry < nodes table
      inside = omega (arith, (searched.hit f e).hit.inside, nodes_few state_limit table t read watch (nodes table))

      tree : Tree walk entries
      tree = (up_to_scanned walk (numbered_decides (watched_steps table t watch)) f.entry f.kind held.there (omega (arith, (searched.hit f e).hit.below))).tree

      -- The path to the entry can be written.
      pub find_there : f.entry < length kept
      find_there = omega (arith, up_to_there walk f.entry held.there f.kind, held_long table t watch entries kept held.holds)

      pub find_room : f.entry < node_limit
      find_room = omega (arith, inside, read.states)

      -- The list of the first hit is found.
      find_list : (ks : List ℕ) → FoundIs kept f.entry f.kind ks → FindIs table t watch (Some ks)
      find_list ks found =
          let grows = up_to_grows walk f.entry held.there f.kind (nodes table) (omega (arith, (searched.hit f e).hit.below)) inside in
          let same = path_stays walk entries tree (scan table t watch) grows f.entry (up_to_there walk f.entry held.there f.kind) in
          let list = (rw held.holds at (found.list (watched_steps table t watch))) tree in
          record {
            none = λ q. absurd (cc);
            some = λ others q. (f.entry, f.kind, searched.hit f e, (let is : others ≡ ks = cc in is ∙ (list ∙ rw same)));
          }

      pub find_some : (before after : Option (List ℕ)) → KeepIs kept f.entry f.kind before after → ImproveIs table t watch before after
      find_some before after keep = record { found = Some keep.found; find = find_list keep.found keep.is; better = keep.better }
