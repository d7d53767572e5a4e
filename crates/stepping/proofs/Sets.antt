-- Laws of sets of registers as numbers: which runs are free, and what marking one makes of the set, by its bits.
use Prim.Native.Nat.{ℕ, zero, suc, ◌+◌, ◌-◌, ◌*◌, ◌/◌, ◌%◌, ◌≤◌, ◌^◌, min, max, zero-le}
use native.Mathlib.Nat.{two-pow-succ, mul-one, zero-mul, min-zero, max-zero, suc-add, eq-or-lt_of_le}
use native.Mathlib.Omega.{arith}
use mathlib.Core.Path.{◌≡◌, refl, ap, ap₂, sym, ◌∙◌}
use mathlib.Core.Bool.{Bool, true, false, true≢false, false≢true}
use mathlib.Core.List.{List, [], ◌∷◌}
use mathlib.Core.Logic.{◌⊎◌, inl, inr}
use borrow.Author.Tests.{eqb-true, ne_eqb}
use lib.Dec.{eqb}
use lib.Pow.{pow_pos}
use lib.Bits.{bit_and, bit_or, and_step, or_step, and_zero_r, or_zero_r, or_comm, and_shr, or_shr, shifted_half, shifted_even}
use lib.ListN.{length, get_or, set, replicate}
use lib.Seq.{sets}
use Rattle.convention.specs.Rules.{free_run, mark_run}
use Rattle.convention.proofs.Runs.{either}
use Rattle.stepping.specs.Sets.{set_of, run_bits, Among}

-- The last bit of a run that begins at the first register, and those before it.
ones_half : (n : ℕ) → run_bits 0 (suc n) / 2 ≡ run_bits 0 n
ones_half n = rw (two-pow-succ, mul-one, mul-one) (omega (arith, pow_pos n))

ones_odd : (n : ℕ) → run_bits 0 (suc n) % 2 ≡ 1
ones_odd n = rw (two-pow-succ, mul-one) (omega (arith, pow_pos n))

-- A run of the registers after the first.
free_behind : (f : Bool) (fs : List Bool) (at left : ℕ) → free_run (f ∷ fs) (suc at) left ≡ free_run fs at left
unfolding free_run
free_behind f fs at zero = refl
free_behind f fs at (suc left) = elim (either (get_or fs at false)) [
  | inl t ↦ rw (t, free_run) refl
  | inr t ↦ rw (t, free_run, suc-add) (free_behind f fs (at + 1) left)
]

sets_behind : (f : Bool) (fs : List Bool) (at : ℕ) (vs : List Bool) → sets (f ∷ fs) (suc at) vs ≡ f ∷ sets fs at vs
sets_behind f fs at [] = refl
sets_behind f fs at (v ∷ vs) = sets_behind f (set fs at v) (suc at) vs

-- A run from the first register on, by the first flag.
free_none : (f : Bool) (fs : List Bool) (count : ℕ) → f ≡ false → free_run (f ∷ fs) 0 (suc count) ≡ free_run fs 0 count
unfolding free_run
free_none true fs count e = absurd (true≢false e)
free_none false fs count e = free_behind false fs 0 count

free_taken : (f : Bool) (fs : List Bool) (count : ℕ) → f ≡ true → free_run (f ∷ fs) 0 (suc count) ≡ false
unfolding free_run
free_taken true fs count e = refl
free_taken false fs count e = absurd (false≢true e)

-- Whether a number is 0, by its bits.
even_zero : (n : ℕ) → eqb (n * 2 + 0) 0 ≡ eqb n 0
even_zero zero = refl
even_zero (suc n) = ne_eqb (suc n * 2 + 0) 0 (λ e. omega arith) ∙ sym (ne_eqb (suc n) 0 (λ e. omega arith))

odd_zero : (n : ℕ) → eqb (n * 2 + 1) 0 ≡ false
odd_zero n = ne_eqb (n * 2 + 1) 0 (λ e. omega arith)

-- A bit is 0 or 1.
bit : (b : ℕ) → (b % 2 ≡ 0) ⊎ (b % 2 ≡ 1)
bit b = elim (eq-or-lt_of_le (zero-le {n = b % 2})) [ inl e ↦ inl (sym e) | inr l ↦ inr (omega arith) ]

max_one : (b : ℕ) → max (b % 2) 1 ≡ 1
max_one b = elim (bit b) [ inl z ↦ rw z refl | inr o ↦ rw o refl ]

-- The operations on a set's number and a run's, by the last bit and those before it: a run after the first register, and one from it on.
and_shift : (b first count : ℕ) → bit_and b (run_bits (suc first) count) ≡ bit_and (b / 2) (run_bits first count) * 2 + 0
and_shift b first count =
    and_step b _ ∙ ap₂ (λ (x y : ℕ). bit_and (b / 2) x * 2 + min (b % 2) y) (shifted_half (2 ^ count - 1) first) (shifted_even (2 ^ count - 1) first)
    ∙ ap (λ (y : ℕ). bit_and (b / 2) (run_bits first count) * 2 + y) (min-zero (b % 2))

or_shift : (b first count : ℕ) → bit_or b (run_bits (suc first) count) ≡ bit_or (b / 2) (run_bits first count) * 2 + b % 2
or_shift b first count =
    or_step b _ ∙ ap₂ (λ (x y : ℕ). bit_or (b / 2) x * 2 + max (b % 2) y) (shifted_half (2 ^ count - 1) first) (shifted_even (2 ^ count - 1) first)
    ∙ ap (λ (y : ℕ). bit_or (b / 2) (run_bits first count) * 2 + y) (max-zero (b % 2))

and_ones : (b count : ℕ) → bit_and b (run_bits 0 (suc count)) ≡ bit_and (b / 2) (run_bits 0 count) * 2 + min (b % 2) 1
and_ones b count = and_step b _ ∙ ap₂ (λ (x y : ℕ). bit_and (b / 2) x * 2 + min (b % 2) y) (ones_half count) (ones_odd count)

or_ones : (b count : ℕ) → bit_or b (run_bits 0 (suc count)) ≡ bit_or (b / 2) (run_bits 0 count) * 2 + max (b % 2) 1
or_ones b count = or_step b _ ∙ ap₂ (λ (x y : ℕ). bit_or (b / 2) x * 2 + max (b % 2) y) (ones_half count) (ones_odd count)

-- A run is free exactly where the set shares no bit with it.
pub free_set : (n b first count : ℕ) → first + count ≤ n → eqb (bit_and b (run_bits first count)) 0 ≡ free_run (set_of n b) first count
unfolding free_run set_of
free_set n b first zero h = ap (λ (x : ℕ). eqb (bit_and b x) 0) (zero-mul (2 ^ first)) ∙ ap (λ (x : ℕ). eqb x 0) (and_zero_r b)
free_set zero b first (suc count) h = absurd (omega arith)
free_set (suc n) b (suc first) (suc count) h =
    ap (λ (x : ℕ). eqb x 0) (and_shift b first (suc count)) ∙ even_zero (bit_and (b / 2) (run_bits first (suc count)))
    ∙ free_set n (b / 2) first (suc count) (omega arith) ∙ sym (free_behind (eqb (b % 2) 1) (set_of n (b / 2)) first (suc count))
free_set (suc n) b zero (suc count) h = elim (bit b) [
  | inl z ↦ ap (λ (x : ℕ). eqb x 0) (and_ones b count ∙ ap (λ (d : ℕ). bit_and (b / 2) (run_bits 0 count) * 2 + min d 1) z)
      ∙ even_zero (bit_and (b / 2) (run_bits 0 count)) ∙ free_set n (b / 2) 0 count (omega arith) ∙ sym (free_none (eqb (b % 2) 1) (set_of n (b / 2)) count (rw z refl))
  | inr o ↦ ap (λ (x : ℕ). eqb x 0) (and_ones b count ∙ ap (λ (d : ℕ). bit_and (b / 2) (run_bits 0 count) * 2 + min d 1) o)
      ∙ odd_zero (bit_and (b / 2) (run_bits 0 count)) ∙ sym (free_taken (eqb (b % 2) 1) (set_of n (b / 2)) count (rw o refl))
]

-- Marking a run adds its bits.
pub mark_set : (n b first count : ℕ) → first + count ≤ n → mark_run (set_of n b) first count ≡ set_of n (bit_or b (run_bits first count))
unfolding set_of
mark_set n b first zero h = ap (set_of n) (sym (ap (λ (x : ℕ). bit_or b x) (zero-mul (2 ^ first)) ∙ or_zero_r b))
mark_set zero b first (suc count) h = absurd (omega arith)
mark_set (suc n) b (suc first) (suc count) h =
    let m = bit_or (b / 2) (run_bits first (suc count)) in
    let half : (m * 2 + b % 2) / 2 ≡ m = omega arith in
    let odd : (m * 2 + b % 2) % 2 ≡ b % 2 = omega arith in
    sets_behind (eqb (b % 2) 1) (set_of n (b / 2)) first (replicate (suc count) true)
    ∙ rw (or_shift b first (suc count), half, odd) (ap (λ (l : List Bool). eqb (b % 2) 1 ∷ l) (mark_set n (b / 2) first (suc count) (omega arith)))
mark_set (suc n) b zero (suc count) h =
    let m = bit_or (b / 2) (run_bits 0 count) in
    let one : max (b % 2) 1 ≡ 1 = max_one b in
    let half : (m * 2 + 1) / 2 ≡ m = omega arith in
    let odd : (m * 2 + 1) % 2 ≡ 1 = omega arith in
    sets_behind true (set_of n (b / 2)) 0 (replicate count true)
    ∙ rw (or_ones b count, one, half, odd) (ap (λ (l : List Bool). true ∷ l) (mark_set n (b / 2) 0 count (omega arith)))

-- Bits are added in any grouping.
or_half : (a b : ℕ) → bit_or a b / 2 ≡ bit_or (a / 2) (b / 2)
or_half a b = or_shr a b 1

or_bit : (a b : ℕ) → bit_or a b % 2 ≡ max (a % 2) (b % 2)
or_bit a b = elim (bit a) [
  | inl z ↦ elim (bit b) [ inl y ↦ rw (or_step, z, y) (omega arith) | inr y ↦ rw (or_step, z, y) (omega arith) ]
  | inr z ↦ elim (bit b) [ inl y ↦ rw (or_step, z, y) (omega arith) | inr y ↦ rw (or_step, z, y) (omega arith) ]
]

max_grouped : (a b c : ℕ) → max (max (a % 2) (b % 2)) (c % 2) ≡ max (a % 2) (max (b % 2) (c % 2))
max_grouped a b c = elim (bit a) [
  | inl x ↦ elim (bit b) [
    | inl y ↦ elim (bit c) [ inl z ↦ rw (x, y, z) refl | inr z ↦ rw (x, y, z) refl ]
    | inr y ↦ elim (bit c) [ inl z ↦ rw (x, y, z) refl | inr z ↦ rw (x, y, z) refl ]
  ]
  | inr x ↦ elim (bit b) [
    | inl y ↦ elim (bit c) [ inl z ↦ rw (x, y, z) refl | inr z ↦ rw (x, y, z) refl ]
    | inr y ↦ elim (bit c) [ inl z ↦ rw (x, y, z) refl | inr z ↦ rw (x, y, z) refl ]
  ]
]

pub or_grouped : (n a b c : ℕ) → set_of n (bit_or (bit_or a b) c) ≡ set_of n (bit_or a (bit_or b c))
unfolding set_of
or_grouped zero a b c = refl
or_grouped (suc n) a b c =
    let last : bit_or (bit_or a b) c % 2 ≡ bit_or a (bit_or b c) % 2
    = rw (or_bit (bit_or a b) c, or_bit a (bit_or b c), or_bit a b, or_bit b c) (max_grouped a b c) in
    let others : set_of n (bit_or (bit_or a b) c / 2) ≡ set_of n (bit_or a (bit_or b c) / 2)
    = rw (or_half (bit_or a b) c, or_half a b, or_half a (bit_or b c), or_half b c) (or_grouped n (a / 2) (b / 2) (c / 2)) in
    rw (last, others)

-- There is a flag for each register.
pub set_long : (n b : ℕ) → length (set_of n b) ≡ n
unfolding set_of
set_long zero b = refl
set_long (suc n) b = ap suc (set_long n (b / 2))

-- A number that a mask leaves whole has its registers among the mask's.
mask_half : (m u : ℕ) → bit_and m u ≡ u → bit_and (m / 2) (u / 2) ≡ u / 2
mask_half m u e = omega (arith, and_step m u)

mask_bit : (m u : ℕ) → bit_and m u ≡ u → u % 2 ≡ 1 → m % 2 ≡ 1
mask_bit m u e o = omega (arith, and_step m u)

pub mask_among : (n m u : ℕ) → bit_and m u ≡ u → Among (set_of n u) (set_of n m)
unfolding set_of
mask_among zero m u e r g = g
mask_among (suc n) m u e zero g = rw (mask_bit m u e (eqb-true (u % 2) 1 g)) refl
mask_among (suc n) m u e (suc r) g = mask_among n (m / 2) (u / 2) (mask_half m u e) r g

-- A set has what either of two has that it was made of by or, and what both have that it was made of by and.
pub or_left : (n a b : ℕ) → Among (set_of n a) (set_of n (bit_or a b))
unfolding set_of
or_left zero a b r g = g
or_left (suc n) a b zero g = let odd : bit_or a b % 2 ≡ 1 = omega (arith, or_step a b, eqb-true (a % 2) 1 g) in rw odd refl
or_left (suc n) a b (suc r) g = rw (or_half a b) (or_left n (a / 2) (b / 2) r g)

pub or_right : (n a b : ℕ) → Among (set_of n b) (set_of n (bit_or a b))
or_right n a b = rw (or_comm a b) (or_left n b a)

pub and_both : (n a b r : ℕ) → get_or (set_of n a) r false ≡ true → get_or (set_of n b) r false ≡ true → get_or (set_of n (bit_and a b)) r false ≡ true
unfolding set_of
and_both zero a b r g h = g
and_both (suc n) a b zero g h = let odd : bit_and a b % 2 ≡ 1 = omega (arith, and_step a b, eqb-true (a % 2) 1 g, eqb-true (b % 2) 1 h) in rw odd refl
and_both (suc n) a b (suc r) g h = rw (and_shr a b 1) (and_both n (a / 2) (b / 2) r g h)

-- The number 0 is no register.
pub set_none : (n : ℕ) → set_of n 0 ≡ replicate n false
unfolding set_of
set_none zero = refl
set_none (suc n) = ap (λ (l : List Bool). false ∷ l) (set_none n)
