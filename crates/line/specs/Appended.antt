-- What appending a field asks and promises.
use Rattle.std.specs.Prelude.{ℕ, ◌+◌, ◌≤◌, ◌≡◌, List, length}
use Rattle.convention.specs.Bytes.{written}
use Rattle.line.specs.declared.Text.{Text}

-- There is room for `field` from byte `at` on.
pub record FieldRoom (out : List ℕ) (at : ℕ) (field : List ℕ) : Type 0 where
  pub fits : at + length field ≤ length out

-- `field` stands in `after` from byte `at` on, and the next one goes after it; every other byte is as it was.
pub record Appended (before : List ℕ) (at : ℕ) (field : List ℕ) (next : ℕ) (after : List ℕ) : Type 0 where
  pub room : FieldRoom before at field
  pub holds : after ≡ written before at field
  pub ends : next ≡ at + length field

-- There is room for `field` at the end of a text.
pub record Room (text : Text) (field : List ℕ) : Type 0 where
  pub there : FieldRoom text.out.now text.len field

-- `field` was appended to a text, whose memory is the same.
pub record Grown (before : Text) (field : List ℕ) (after : Text) : Type 0 where
  pub appended : Appended before.out.now before.len field after.len after.out.now
  pub same_memory : after.out.ghost_name ≡ before.out.ghost_name
