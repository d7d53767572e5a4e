-- What is promised of a sheet or a table that was read: 01's bounds of every field. Whoever stands above a reader relies on these records and on nothing else of it.
use Rattle.std.specs.Prelude.{ℕ, ◌+◌, ◌≤◌, ◌<◌, ◌≡◌, true, List, length, get_or}
use Rattle.convention.specs.declared.Head.{Head}
use Rattle.convention.specs.declared.Shape.{Shape}
use Rattle.convention.specs.declared.SheetKind.{SheetKind}
use Rattle.convention.specs.declared.Sheet.{Sheet}
use Rattle.convention.specs.declared.Table.{Table}
use Rattle.convention.specs.Fields.{is_version, is_width, is_modulus}
use Rattle.convention.specs.Layout.{table_length}
use Rattle.convention.specs.Shapes.{registers_needed}
use Rattle.convention.specs.Sheets.{sheet_kind}
use Rattle.convention.specs.Tables.{table_kind, transition, is_transition}

-- 'Head: registers n (0 to 16), register width w (1, 2, 4 or 8), stack modulus A (1, 2, 4, 8 or 16), number of kinds m (1 to 8)'.
pub record HeadRead (h : Head) : Type 0 where
  pub registers : h.registers ≤ 16
  pub width : is_width h.width ≡ true
  pub modulus : is_modulus h.modulus ≡ true
  pub some : 1 ≤ h.kinds
  pub kinds : h.kinds ≤ 8

-- 'size (1 to 64), alignment (1, 2, 4, 8 or 16, at most A)', of either file.
pub record ShapeRead (h : Head) (shape : Shape) : Type 0 where
  pub some : 1 ≤ shape.size
  pub size : shape.size ≤ 64
  pub alignment : is_modulus shape.alignment ≡ true
  pub within : shape.alignment ≤ h.modulus

-- 'flags (..), number of starts t (0 to 16), then t start registers. Each start s must have s + k at most n.'
pub record SheetKindRead (h : Head) (k : SheetKind) : Type 0 where
  pub shape : ShapeRead h k.shape
  pub flags : k.flags ≤ 3
  pub tries : k.tries ≤ 16
  pub sixteen : length k.starts ≡ 16
  pub starts : (i : ℕ) → i < k.tries → get_or k.starts i 0 + registers_needed h.width k.shape ≤ h.registers

-- A sheet that was read.
pub record SheetRead (sheet : Sheet) : Type 0 where
  pub version : is_version sheet.version ≡ true
  pub head : HeadRead sheet.head
  pub eight : length sheet.kinds ≡ 8
  pub kind : (k : ℕ) → k < sheet.head.kinds → SheetKindRead sheet.head (sheet_kind sheet k)

-- A table that was read, of bytes t: 'number of states N (1 to 200), then for each state a row of m transitions', each as 01 allows.
pub record TableRead (limit : ℕ) (table : Table) (t : List ℕ) : Type 0 where
  pub version : is_version table.version ≡ true
  pub head : HeadRead table.head
  pub eight : length table.kinds ≡ 8
  pub kind : (k : ℕ) → k < table.head.kinds → ShapeRead table.head (table_kind table k)
  pub some : 1 ≤ table.states
  pub states : table.states ≤ limit
  pub whole : length t ≡ table_length table.version table.head table.states
  pub transition : (state k : ℕ) → state < table.states → k < table.head.kinds → is_transition table.head table.states (transition table t state k) ≡ true
