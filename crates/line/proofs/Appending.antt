-- Laws of appending: nothing, a field after another, and a field item by item, as a loop takes it.
use Prim.Native.Nat.{ℕ, ◌+◌, ◌≤◌, ◌<◌}
use mathlib.Core.Path.{◌≡◌, refl, sym, ap, ◌∙◌}
use mathlib.Core.List.{List, [], ◌∷◌, ◌++◌}
use native.Mathlib.Nat.{add-zero}
use native.Mathlib.Omega.{arith}
use lib.ListN.{length, get_or, take, length-append}
use lib.Seq.{take_all}
use Rattle.std.specs.List.{flat_map}
use Rattle.std.proofs.lemmas.List.{take_more, flat_map_more}
use Rattle.std.proofs.lemmas.List.Folds.{length-flat_map-take}
use Rattle.convention.specs.Program.{decimal, further, kind_fields}
use Rattle.convention.proofs.Bytes.{written_nothing, written_more, length_written}
use Rattle.line.specs.declared.Text.{Text}
use Rattle.line.specs.Appended.{Appended, Room, Grown}

-- Appending keeps the length.
pub as_long : {out : List ℕ} {at : ℕ} {field : List ℕ} {next : ℕ} {after : List ℕ} → Appended out at field next after → length after ≡ length out
as_long {out} {at} {field} done = rw done.holds (length_written out at field done.room.fits)

-- A field in two parts: room for the first, and room for the second after it.
pub room_first : {text : Text} (a b : List ℕ) → Room text (a ++ b) → Room text a
room_first a b room = record { there = record { fits = omega (arith, length-append a b, room.there.fits) } }

pub room_after : {text after : Text} {a b : List ℕ} → Room text (a ++ b) → Grown text a after → Room after b
room_after {a = a} {b} room first =
    record { there = record { fits = omega (arith, length-append a b, room.there.fits, as_long first.appended, first.appended.ends) } }

-- Nothing, and two fields in a row.
pub nothing : {text : Text} → Room text [] → Grown text [] text
nothing {text} room =
    record {
      appended = record { room = room.there; holds = sym (written_nothing text.out.now text.len); ends = sym (add-zero text.len) };
      same_memory = refl;
    }

pub in_a_row : {text mid after : Text} {a b : List ℕ} → Grown text a mid → Grown mid b after → Grown text (a ++ b) after
in_a_row {text} {a = a} {b} first second =
    let x = first.appended in
    let y = second.appended in
    record {
      appended =
          record {
            room = record { fits = omega (arith, length-append a b, as_long x, x.ends, y.room.fits) };
            holds = y.holds ∙ rw (x.holds, x.ends) (written_more text.out.now text.len a (omega (arith, x.room.fits)) b);
            ends = omega (arith, length-append a b, x.ends, y.ends);
          };
      same_memory = second.same_memory ∙ first.same_memory;
    }

-- For tactics.
pub ruleset fields = (room_first, room_after, nothing, in_a_row)

-- One more byte of a word, as a loop takes it.
pub byte_on : {text mid after : Text} (word : List ℕ) (i : ℕ) → i < length word → Grown text (take i word) mid → Grown mid (get_or word i 0 ∷ []) after
    → Grown text (take (i + 1) word) after
byte_on word i h so_far next = rw (take_more word i 0 h) (in_a_row so_far next)

-- The kinds of a list one by one, in the library's words.
abbrev pub kind_field : ℕ → List ℕ
kind_field k = further (decimal k)

pub kinds_flat : (list : List ℕ) → kind_fields list ≡ flat_map kind_field list
unfolding kind_fields
kinds_flat [] = refl
kinds_flat (k ∷ list) = rw (kinds_flat list) refl

pub kinds_done : {text after : Text} (list : List ℕ) (i : ℕ) → length list ≤ i → Grown text (flat_map kind_field (take i list)) after
    → Grown text (kind_fields list) after
kinds_done list i h done = rw kinds_flat (rw (take_all i list h) at done)

-- So there is room for the next one, and one more is appended.
module _ {text mid : Text} (list : List ℕ) (i : ℕ) (h : i < length list) (so_far : Grown text (flat_map kind_field (take i list)) mid) where
  pub kind_room : Room text (kind_fields list) → Room mid (kind_field (get_or list i 0))
  kind_room room =
      let done = so_far.appended in
      let less = length-flat_map-take kind_field list i 0 h in
      record { there = record { fits = omega (arith, ap length (kinds_flat list), room.there.fits, less, as_long done, done.ends) } }

  pub kind_on : {after : Text} → Grown mid (kind_field (get_or list i 0)) after → Grown text (flat_map kind_field (take (i + 1) list)) after
  kind_on next = rw (take_more list i 0 h, ← flat_map_more kind_field [] (take i list) (get_or list i 0)) (in_a_row so_far next)
