-- The lists that are found: how one is written, how two are compared, and which is kept.
use Rattle.std.specs.Prelude.{ℕ, ◌≡◌, Bool, true, false, ◌⊎◌, List, [], ◌∷◌, ◌++◌, Option, Some}
use Rattle.convention.specs.Orders.{Before, NotAfter}
use Rattle.convention.specs.Explored.{Numbered, numbered, path}
use Rattle.convention.specs.Scanned.{Tree}
use Rattle.exploring.specs.declared.Entry.{Entry as Met}
use Rattle.exploring.specs.Stored.{entries_of}

-- Whatever tree the entries are read as, the list is entry i's path and then kind k.
pub record FoundIs (l : List Met) (i k : ℕ) (ks : List ℕ) : Type 0 where
  pub list : (N : Numbered) → Tree (numbered N) (entries_of N l) → ks ≡ path (numbered N) (entries_of N l) i ++ k ∷ []

-- Whether a list is before another.
pub record CompareIs (ks others : List ℕ) (answer : Bool) : Type 0 where
  pub yes : answer ≡ true → Before ks others
  pub no : answer ≡ false → NotAfter others ks

-- The best list stays, since none was found, or one that is not before it.
pub record Stays (found before after : Option (List ℕ)) : Type 0 where
  pub is : after ≡ before
  pub why : (ks : List ℕ) → found ≡ Some ks → (others : List ℕ) × (before ≡ Some others) × NotAfter others ks

-- The list found is the best, since there was none, or none that is before it.
pub record Changes (found before after : Option (List ℕ)) : Type 0 where
  pub list : List ℕ
  pub was : found ≡ Some list
  pub is : after ≡ Some list
  pub why : (others : List ℕ) → before ≡ Some others → NotAfter list others

-- The better of the list found and the best is the best now.
abbrev pub Better : (found before after : Option (List ℕ)) → Type 0
Better found before after = Stays found before after ⊎ Changes found before after

-- The list that is found by entry i and kind k is kept where it is the better.
pub record KeepIs (l : List Met) (i k : ℕ) (before after : Option (List ℕ)) : Type 0 where
  pub found : List ℕ
  pub is : FoundIs l i k found
  pub better : Better (Some found) before after
