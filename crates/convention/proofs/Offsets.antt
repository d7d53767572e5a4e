-- Laws of the least offset, for every modulus at once; and of the widths and moduli that a head may have.
use Prim.Native.Nat.{ℕ, ◌+◌, ◌-◌, ◌/◌, ◌%◌, ◌^◌, ◌≤◌, ◌<◌, ◌∣◌}
use mathlib.Core.Path.{◌≡◌, refl, sym, subst, ◌∙◌}
use mathlib.Core.Bool.{Bool, true, false, not, ◌&&◌, ◌||◌, and-eq-true_iff}
use native.Mathlib.Nat.{le_antisymm, le_of_suc-le-suc, lt_of_not-le, not-le_of_lt}
use native.Mathlib.Nat.{mod-lt, mod-eq_of_lt, mod-add-mod, add-mod-mod, add-mod_left, mod-mod_of_dvd}
use native.Mathlib.Nat.{div-add-mod, dvd-mul_right, dvd-sub, le_of_dvd, dvd_of_mod-eq-zero}
use native.Mathlib.Omega.{arith}
use lib.Dec.{ltb, leb, eqb}
use lib.Bits.{bit_and, and_mask}
use borrow.Author.Tests.{ltb-true, leb-true, le-leb, eqb-true, eq-eqb}
use Rattle.convention.specs.Fields.{is_width, is_modulus}
use Rattle.convention.specs.Offsets.{IsLeast, least_offset}

-- What has x's remainder and is below x + m is at most x.
near : (m x y : ℕ) → x % m ≡ y % m → y < x + m → y ≤ x
near m x y e h = le_of_suc-le-suc (lt_of_not-le (λ above. not-le_of_lt h (omega (arith, le_of_dvd {n = y - x} (omega arith) apart))))
  where
    apart : m ∣ y - x
    apart =
        subst (λ (k : ℕ). m ∣ k) (omega (arith, div-add-mod x m, div-add-mod y m))
        (dvd-sub m (dvd-mul_right m (y / m)) (dvd-mul_right m (x / m)))

-- So an offset with the remainder r that lies from p up to, not including, p + m is the least.
near_least : {m r p o : ℕ} → p ≤ o → o < p + m → o % m ≡ r → IsLeast m r p o
near_least {m} {o = o} h k e = record { at_least = h; remainder = e; least = λ x above same. near m x o (same ∙ sym e) (omega arith) }

-- The offset that is worked out lies there.
pub least_ge : (m r p : ℕ) → p ≤ least_offset m r p
unfolding least_offset
least_ge m r p = omega arith

pub least_lt : (m r p : ℕ) → 0 < m → least_offset m r p < p + m
unfolding least_offset
least_lt m r p h = omega (arith, mod-lt (m + r - p % m) h)

-- It is the least, and no other is.
pub least_is : (m r p : ℕ) → r < m → IsLeast m r p (least_offset m r p)
unfolding least_offset
least_is m r p h = near_least (least_ge m r p) (least_lt m r p (omega arith)) remainder
  where
    sum : p % m + (m + r - p % m) ≡ m + r
    sum = omega (arith, mod-lt p {m = m} (omega arith))

    remainder : least_offset m r p % m ≡ r
    remainder = add-mod-mod p (m + r - p % m) m ∙ rw (← mod-add-mod p m (m + r - p % m), sum, add-mod_left) (mod-eq_of_lt h)

pub least_unique : {m r p o o' : ℕ} → IsLeast m r p o → IsLeast m r p o' → o ≡ o'
least_unique a b = le_antisymm (a.least _ b.at_least b.remainder) (b.least _ a.at_least a.remainder)

-- Why a table and the rules agree: with the remainder of the rules' offset as its residue, the table gives that offset.
pub aligned_residue : (a A p : ℕ) → 0 < a → 0 < A → a ∣ A → least_offset A (least_offset a 0 p % A) p ≡ least_offset a 0 p
aligned_residue a A p h k d =
    least_unique (least_is A (least_offset a 0 p % A) p (mod-lt (least_offset a 0 p) k))
    (near_least (least_ge a 0 p) (omega (arith, least_lt a 0 p h, le_of_dvd k d)) refl)

-- The rules' step taken at p's remainder by A: the offset, and what lies a size after it, have the remainders that they have at p.
pub shift_mod : (a A p : ℕ) → a ∣ A → least_offset a 0 (p % A) % A ≡ least_offset a 0 p % A
unfolding least_offset
shift_mod a A p d = rw (mod-mod_of_dvd a p d) (mod-add-mod p A _)

pub shift_mod_size : (a A p size : ℕ) → a ∣ A → (least_offset a 0 (p % A) + size) % A ≡ (least_offset a 0 p + size) % A
shift_mod_size a A p size d =
    rw (← mod-add-mod (least_offset a 0 (p % A)) A size, shift_mod a A p d) (mod-add-mod (least_offset a 0 p) A size)

-- The rules' residue is a multiple of the alignment; a table's offset is one exactly where its residue is, which is where there is no fault 4.
pub residue_aligned : (a A p : ℕ) → 0 < a → a ∣ A → least_offset a 0 p % A % a ≡ 0
residue_aligned a A p h d = mod-mod_of_dvd a (least_offset a 0 p) d ∙ (least_is a 0 p h).remainder

pub offset_residue : (a A r p : ℕ) → r < A → a ∣ A → least_offset A r p % a ≡ r % a
offset_residue a A r p h d = sym (mod-mod_of_dvd a (least_offset A r p) d) ∙ rw (least_is A r p h).remainder

-- A test of a value that is one of several numbers: it passes at k, and the value is k; or it passes at k and before, and the value is k or one seen before.
passes_at : (test : ℕ → Bool) (a k : ℕ) → test k ≡ true → eqb a k ≡ true → test a ≡ true
passes_at test a k t e = rw (eqb-true a k e) t

passes_too : (test : ℕ → Bool) (a k : ℕ) {before seen : Bool} → (before ≡ true → seen ≡ true → test a ≡ true)
    → before && test k ≡ true → seen || eqb a k ≡ true → test a ≡ true
passes_too test a k {before} {seen = true} f t e = f ((and-eq-true_iff before (test k)).0 t).0 e
passes_too test a k {before} {seen = false} f t e = passes_at test a k ((and-eq-true_iff before (test k)).0 t).1 e

-- So what holds of all widths, or of all moduli, is one test that computes.
all_widths : (test : ℕ → Bool) → test 1 && test 2 && test 4 && test 8 ≡ true → (w : ℕ) → is_width w ≡ true → test w ≡ true
all_widths test t w = passes_too test w 8 (passes_too test w 4 (passes_too test w 2 (passes_at test w 1))) t

abbrev all_moduli : (ℕ → Bool) → Bool
all_moduli test = test 1 && test 2 && test 4 && test 8 && test 16

all_moduli_lem : (test : ℕ → Bool) → all_moduli test ≡ true → (a : ℕ) → is_modulus a ≡ true → test a ≡ true
all_moduli_lem test t a =
    passes_too test a 16 (passes_too test a 8 (passes_too test a 4 (passes_too test a 2 (passes_at test a 1)))) t

-- The bounds of a width and of a modulus, or alignment.
pub width_pos : (w : ℕ) → is_width w ≡ true → 0 < w
width_pos w e = ltb-true 0 w (all_widths (ltb 0) refl w e)

pub width_most : (w : ℕ) → is_width w ≡ true → w ≤ 8
width_most w e = leb-true w 8 (all_widths (λ w. leb w 8) refl w e)

-- Which power of two a width is.
pub width_power : (w : ℕ) → is_width w ≡ true → 2 ^ (w / 2 - w / 8) ≡ w
width_power w e = eqb-true _ w (all_widths (λ w. eqb (2 ^ (w / 2 - w / 8)) w) refl w e)

pub modulus_pos : (a : ℕ) → is_modulus a ≡ true → 0 < a
modulus_pos a e = ltb-true 0 a (all_moduli_lem (ltb 0) refl a e)

pub modulus_most : (a : ℕ) → is_modulus a ≡ true → a ≤ 16
modulus_most a e = leb-true a 16 (all_moduli_lem (λ k. leb k 16) refl a e)

-- Of two moduli, the one that is not the greater divides the other.
pub divides : (a b : ℕ) → is_modulus a ≡ true → is_modulus b ≡ true → a ≤ b → a ∣ b
divides a b ha hb h =
    let tested = all_moduli_lem (test a) (all_moduli_lem (λ k. all_moduli (test k)) refl a ha) b hb in
    dvd_of_mod-eq-zero a (eqb-true (b % a) 0 (rw (le-leb a b h) at tested))
  where
    test : ℕ → ℕ → Bool
    test k l = not (leb k l) || eqb (l % k) 0

-- A modulus is a power of two, so a mask of the bits below it keeps the remainder.
pub remainder_mask : (x a : ℕ) → is_modulus a ≡ true → bit_and x (a - 1) ≡ x % a
remainder_mask x a h = eqb-true (bit_and x (a - 1)) (x % a) (all_moduli_lem kept (rw (power 0, power 1, power 2, power 3, power 4)) a h)
  where
    kept : ℕ → Bool
    kept k = eqb (bit_and x (k - 1)) (x % k)

    power : (k : ℕ) → kept (2 ^ k) ≡ true
    power k = eq-eqb (bit_and x (2 ^ k - 1)) (x % 2 ^ k) (and_mask x k)
