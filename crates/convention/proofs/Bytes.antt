-- Laws of bytes: big-endian bytes read back, what memory holds once bytes were written, and blocks of one length laid one after the other.
use Prim.Native.Nat.{ℕ, zero, suc, ◌+◌, ◌*◌, ◌/◌, ◌%◌, ◌^◌, ◌≤◌, ◌<◌}
use mathlib.Core.Path.{◌≡◌, sym, ◌∙◌}
use mathlib.Core.Logic.{◌⊎◌, inl, inr}
use mathlib.Core.List.{List, [], ◌∷◌, ◌++◌, append_assoc}
use native.Mathlib.Nat.{add-zero, add_assoc, mul-le-mul_left, div-div-eq-div-mul, eq-or-lt_of_le, le_of_suc-le-suc}
use native.Mathlib.Omega.{arith}
use lib.ListN.{length, set, take, drop, length-append, length-take, length-drop, take-append-drop}
use lib.Seq.{length-take-le, take_all, take-append_seam, drop-append_seam, take-append-le, drop-append-le, drop-drop, take-add}
use lib.Seq.{take_at, drop_at, sets, sets-eq}
use Rattle.convention.specs.Bytes.{two_bytes, written, blocks}
use Rattle.convention.specs.Fields.{length_field}

-- Two bytes say the number that they were made from, as a length field too, whatever follows.
pub two_read : (x : ℕ) → x < 65536 → 256 * (x / 256 % 256) + x % 256 ≡ x
two_read x h = omega arith

pub length_read : (x : ℕ) (rest : List ℕ) → x < 65536 → length_field (two_bytes x ++ rest) ≡ x
length_read x rest h = two_read x h

-- So do four bytes; and different numbers have different bytes.
pub four_read : (x : ℕ) → x < 2 ^ 32
    → 2 ^ 24 * (x / 2 ^ 24 % 256) + 2 ^ 16 * (x / 2 ^ 16 % 256) + 256 * (x / 256 % 256) + x % 256 ≡ x
four_read x h = rw (← div-div-eq-div-mul x (2 ^ 16) 256, ← div-div-eq-div-mul x 256 256) (omega arith)

-- Writing keeps the length.
pub length_written : (d : List ℕ) (at : ℕ) (bs : List ℕ) → at + length bs ≤ length d → length (written d at bs) ≡ length d
length_written d at bs h = simp (length-append, length-take, length-drop) (omega arith)

-- What was written, in other words: nothing; stores one by one; one store.
pub written_nothing : (d : List ℕ) (at : ℕ) → written d at [] ≡ d
written_nothing d at = rw (add-zero, take-append-drop)

pub written_sets : (d : List ℕ) (at : ℕ) (bs : List ℕ) → at + length bs ≤ length d → sets d at bs ≡ written d at bs
written_sets d at bs h = sets-eq bs d at h ∙ append_assoc (take at d) bs (drop (at + length bs) d)

pub written_one : (d : List ℕ) (at b : ℕ) → at < length d → set d at b ≡ written d at (b ∷ [])
written_one d at b h = written_sets d at (b ∷ []) (omega arith)

module _ (d : List ℕ) (at : ℕ) (bs : List ℕ) (h : at ≤ length d) where
  -- What stands before `at`, from there on, in the part that was written, and after it.
  pub take_written : take at (written d at bs) ≡ take at d
  take_written = take_at (take at d) _ at (length-take-le at d h)

  pub from_written : drop at (written d at bs) ≡ bs ++ drop (at + length bs) d
  from_written = drop_at (take at d) _ at (length-take-le at d h)

  pub part_written : take (length bs) (drop at (written d at bs)) ≡ bs
  part_written = rw from_written (take-append_seam bs _)

  pub drop_written : drop (at + length bs) (written d at bs) ≡ drop (at + length bs) d
  drop_written = sym (drop-drop (length bs) at (written d at bs)) ∙ rw from_written (drop-append_seam bs _)

  -- One more run, written right after it.
  pub written_more : (cs : List ℕ) → written (written d at bs) (at + length bs) cs ≡ written d at (bs ++ cs)
  written_more cs =
      let w = written d at bs in
      rw (take-add at (length bs) w, take_written, part_written, ← drop-drop (length cs) (at + length bs) w, drop_written)
      (simp (drop-drop, length-append, append_assoc, add_assoc))

-- Blocks of length w, and where they stand: block i from byte w * i on.
pub length_blocks : (f : ℕ → List ℕ) (w n : ℕ) → ((i : ℕ) → i < n → length (f i) ≡ w) → length (blocks f n) ≡ w * n
unfolding blocks
length_blocks f w zero wide = omega arith
length_blocks f w (suc n) wide =
    simp (length-append, length_blocks f w n (λ i h. wide i (omega arith)), wide n (omega arith)) (omega arith)

pub block_at : (f : ℕ → List ℕ) (w n : ℕ) → ((i : ℕ) → i < n → length (f i) ≡ w)
    → (i : ℕ) → i < n → take w (drop (w * i) (blocks f n)) ≡ f i
unfolding blocks
block_at f w zero wide i h = absurd (omega arith)
block_at f w (suc n) wide i h = go (eq-or-lt_of_le (le_of_suc-le-suc h)) (block_at f w n (λ k b. wide k (omega arith)) i)
  where
    len : length (blocks f n) ≡ w * n
    len = length_blocks f w n (λ k b. wide k (omega arith))

    go : (i ≡ n) ⊎ (i < n) → (i < n → take w (drop (w * i) (blocks f n)) ≡ f i) → take w (drop (w * i) (blocks f n ++ f n)) ≡ f i
    go (inl e) earlier = rw (e, drop_at (blocks f n) (f n) (w * n) len) (take_all w (f n) (omega (arith, wide n (omega arith))))
    go (inr l) earlier =
        let room = mul-le-mul_left w l in
        rw (
          drop-append-le (w * i) (blocks f n) (f n) (omega (arith, len)),
          take-append-le w (drop (w * i) (blocks f n)) (f n) (rw (length-drop, len) (omega arith)),
        ) (earlier l)

-- The same where something follows the blocks.
pub block_in : (f : ℕ → List ℕ) (w n : ℕ) → ((i : ℕ) → i < n → length (f i) ≡ w) → (rest : List ℕ)
    → (i : ℕ) → i < n → take w (drop (w * i) (blocks f n ++ rest)) ≡ f i
block_in f w n wide rest i h =
    let len = length_blocks f w n wide in
    let room = mul-le-mul_left w h in
    rw (
      drop-append-le (w * i) (blocks f n) rest (omega (arith, len)),
      take-append-le w (drop (w * i) (blocks f n)) rest (rw (length-drop, len) (omega arith)),
    )
    (block_at f w n wide i h)

-- One more block of a run.
pub written_block : (d : List ℕ) (at : ℕ) (f : ℕ → List ℕ) (w n : ℕ) → ((i : ℕ) → i < n → length (f i) ≡ w) → at ≤ length d
    → written (written d at (blocks f n)) (at + w * n) (f n) ≡ written d at (blocks f (suc n))
unfolding blocks
written_block d at f w n wide h = rw (← length_blocks f w n wide) (written_more d at (blocks f n) h (f n))
