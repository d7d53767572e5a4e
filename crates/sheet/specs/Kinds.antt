-- What the reader's functions promise one another.
use Rattle.std.specs.Prelude.{ℕ, ◌+◌, ◌-◌, ◌≤◌, ◌<◌, ◌≡◌, true, List, ◌++◌, length, get_or, take, drop, replicate}
use Rattle.convention.specs.declared.Head.{Head}
use Rattle.convention.specs.declared.SheetKind.{SheetKind}
use Rattle.convention.specs.Layout.{kinds_at, tries_at}
use Rattle.convention.specs.Fields.{is_width, version_of, head_of}
use Rattle.convention.specs.Sheets.{sheet_kind_length, sheet_kinds_no, sheet_kinds_length, sheet_kinds_of, sheet_kind_at, sheet_no, blank_kind}

-- Half way through: `left` kinds are left, the next one at byte `at`, and those that are left give the number and the end of all.
pub record KindsRest (v : ℕ) (h : Head) (s : List ℕ) (at left : ℕ) : Type 0 where
  pub within : at ≤ length s
  pub numbers : sheet_kinds_no v h (drop at s) left ≡ sheet_kinds_no v h (drop kinds_at s) h.kinds
  pub lengths : at + sheet_kinds_length v (drop at s) left ≡ sheet_kind_at v s h.kinds

-- A sheet that is at least as long as its head, which says how wide a register is.
pub record HeadThere (h : Head) (s : List ℕ) : Type 0 where
  pub wide : is_width h.width ≡ true
  pub within : kinds_at ≤ length s

-- A kind that ends within the sheet; s begins at its first byte.
pub record KindWhole (v : ℕ) (s : List ℕ) : Type 0 where
  pub tries : get_or s (tries_at v) 0 ≤ 16
  pub whole : sheet_kind_length v s ≤ length s

-- Nothing is wrong with any kind of a sheet s.
pub record KindsRight (v : ℕ) (h : Head) (s : List ℕ) : Type 0 where
  pub within : kinds_at ≤ length s
  pub count : h.kinds ≤ 8
  pub right : sheet_kinds_no v h (drop kinds_at s) h.kinds ≡ 0

-- Half way through storing: the first i kinds are stored, the next one is at byte `at`, and those that are left follow from there.
pub record KindsStored (v : ℕ) (h : Head) (s : List ℕ) (at i : ℕ) (kinds : List SheetKind) : Type 0 where
  pub within : at ≤ length s
  pub count : i ≤ h.kinds
  pub right : sheet_kinds_no v h (drop at s) (h.kinds - i) ≡ 0
  pub rest : drop i (sheet_kinds_of v (drop kinds_at s) h.kinds) ≡ sheet_kinds_of v (drop at s) (h.kinds - i)
  pub stored : kinds ≡ take i (sheet_kinds_of v (drop kinds_at s) h.kinds) ++ replicate (8 - i) blank_kind

-- A sheet s of version v that was read has a kind k.
pub record KindThere (v : ℕ) (s : List ℕ) (k : ℕ) : Type 0 where
  pub read : sheet_no s ≡ 0
  pub version : v ≡ version_of s
  pub known : k < (head_of s).kinds
