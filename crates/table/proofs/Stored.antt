-- Storing a table's kinds, each read from its first byte on.
use Prim.Native.Nat.{ℕ, ◌+◌, ◌-◌, ◌≤◌, ◌<◌}
use mathlib.Core.Path.{◌≡◌, sym, ◌∙◌}
use mathlib.Core.List.{List, ◌++◌}
use native.Mathlib.Nat.{le_refl}
use native.Mathlib.Omega.{arith}
use lib.ListN.{get_or, drop, set, replicate}
use lib.Seq.{take_all, drop-drop}
use Rattle.convention.specs.declared.Head.{Head}
use Rattle.convention.specs.declared.Shape.{Shape}
use Rattle.convention.specs.Layout.{kinds_at, table_kind_at}
use Rattle.convention.specs.Fields.{shape_of}
use Rattle.convention.specs.Sheets.{blank_shape}
use Rattle.convention.specs.Tables.{table_kinds_of}
use Rattle.convention.proofs.Filled.{filled, fill_turn, fill_done}
use Rattle.convention.proofs.Tables.{table_kinds_count, table_kind_at_lem}
use Rattle.table.specs.Within.{KindsThere}

module _ (v : ℕ) (h : Head) (t : List ℕ) where
  abbrev all : List Shape
  all = table_kinds_of v (drop kinds_at t) h.kinds

  -- One more kind in its place.
  pub kind_stored : (kinds : List Shape) (i : ℕ) (kind : Shape) → KindsThere v h t
      → kinds ≡ filled all 8 blank_shape i → i < h.kinds
      → (at : ℕ) → at ≡ table_kind_at v i → kind ≡ shape_of v (drop at t)
      → set kinds i kind ≡ filled all 8 blank_shape (i + 1)
  kind_stored kinds i kind asked inv l at ea e =
      let here : get_or all i kind ≡ kind = table_kind_at_lem v (drop kinds_at t) h.kinds i kind l ∙ sym (e ∙ rw (ea, drop-drop)) in
      fill_turn all 8 blank_shape kinds i kind kind inv (omega (arith, asked.count)) (rw table_kinds_count l) here

  -- All kinds in their places.
  pub kinds_done : (kinds : List Shape) (i : ℕ) → kinds ≡ filled all 8 blank_shape i → i ≤ h.kinds → h.kinds ≤ i
      → kinds ≡ all ++ replicate (8 - h.kinds) blank_shape
  kinds_done kinds i inv le ge =
      rw (take_all h.kinds all (rw table_kinds_count (le_refl h.kinds))) at (fill_done all 8 blank_shape kinds i h.kinds inv le ge)
