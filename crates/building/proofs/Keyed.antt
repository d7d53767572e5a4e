-- Laws of keys: a state is had back from its key; and one turn of each loop over flags, on plain values.
use Prim.Native.Nat.{ℕ, zero, suc, ◌+◌, ◌-◌, ◌*◌, ◌/◌, ◌%◌, ◌≤◌, ◌<◌, ◌^◌}
use mathlib.Core.Path.{◌≡◌, refl, sym, ap, ◌∙◌}
use mathlib.Core.Bool.{Bool, true, false}
use mathlib.Core.List.{List, [], ◌∷◌, append-nil}
use native.Mathlib.Nat.{two-pow-succ, pow-le-pow_right}
use native.Mathlib.Numerals.{add-one}
use native.Mathlib.Omega.{arith}
use mir.Val.{bool_byte}
use lib.Dec.{eqb}
use lib.ListN.{length, get_or, drop, set, length-drop, drop_of_length-le}
use lib.Seq.{drop-cons, take_all, take-suc-set, append_snoc}
use Rattle.convention.specs.declared.Allocation.{Allocation}
use Rattle.stepping.specs.Sets.{set_of}
use Rattle.building.specs.Keys.{set_number, key_of, state_of, key_limit, KeyIs, NumberFrom, SetUpTo}

-- The number of a set is below the number of sets.
number_most : (fs : List Bool) → set_number fs < 2 ^ length fs
unfolding set_number
number_most [] = omega arith
number_most (true ∷ fs) = rw two-pow-succ (omega (arith, number_most fs))
number_most (false ∷ fs) = rw two-pow-succ (omega (arith, number_most fs))

number_small : (fs : List Bool) → length fs ≤ 16 → set_number fs < 65536
number_small fs h =
    let sets : 2 ^ length fs ≤ 2 ^ 16 = pow-le-pow_right (omega arith) h in
    omega (arith, number_most fs, sets)

-- The set is had back from its number.
set_back : (fs : List Bool) → set_of (length fs) (set_number fs) ≡ fs
unfolding set_number set_of
set_back [] = refl
set_back (true ∷ fs) =
    let odd : (1 + 2 * set_number fs) % 2 ≡ 1 = omega arith in
    let half : (1 + 2 * set_number fs) / 2 ≡ set_number fs = omega arith in
    rw (odd, half, set_back fs)
set_back (false ∷ fs) =
    let even : (0 + 2 * set_number fs) % 2 ≡ 0 = omega arith in
    let half : (0 + 2 * set_number fs) / 2 ≡ set_number fs = omega arith in
    rw (even, half, set_back fs)

pub sixteen_back : (fs : List Bool) (number : ℕ) → length fs ≡ 16 → number ≡ set_number fs → set_of 16 number ≡ fs
sixteen_back fs number long e = rw (e, ← long) (set_back fs)

-- So is the state from its key, and the key from its state.
pub key_is : (a : Allocation) (number : ℕ) → length a.unavailable ≡ 16 → a.remainder < 256 → number < 65536 → number ≡ set_number a.unavailable
    → KeyIs (number + 65536 * a.remainder) a
key_is a number long byte small e =
    let flags : (number + 65536 * a.remainder) % 65536 ≡ number = omega arith in
    let high : (number + 65536 * a.remainder) / 65536 ≡ a.remainder = omega arith in
    let rest : a.remainder % 256 ≡ a.remainder = omega arith in
    let back : set_of 16 number ≡ a.unavailable = sixteen_back a.unavailable number long e in
    record { number = rw e; state = rw (flags, high, rest, back); small = omega arith }

-- The number of a set is had back from the set.
number_back : (n number : ℕ) → number < 2 ^ n → set_number (set_of n number) ≡ number
unfolding set_number set_of
number_back zero number h = omega arith
number_back (suc n) number h =
    let half : set_number (set_of n (number / 2)) ≡ number / 2 = number_back n (number / 2) (omega (arith, rw two-pow-succ at h)) in
    rw half (odd_or_even (number % 2) (omega arith))
  where
    odd_or_even : (r : ℕ) → r ≡ number % 2 → bool_byte (eqb r 1) + 2 * (number / 2) ≡ number
    odd_or_even zero e = omega arith
    odd_or_even (suc zero) e = omega arith
    odd_or_even (suc (suc r)) e = absurd (omega arith)

pub key_back : (key : ℕ) → key < key_limit → key_of (state_of key) ≡ key
key_back key h =
    let flags : set_number (set_of 16 (key % 65536)) ≡ key % 65536 = number_back 16 (key % 65536) (omega arith) in
    rw flags (omega arith)

-- Two keys of one state are the same.
pub key_same : (x y : ℕ) → x < key_limit → y < key_limit → state_of x ≡ state_of y → x ≡ y
key_same x y h k e = sym (key_back x h) ∙ ap key_of e ∙ key_back y k

-- The number of a set, before register i - 1 is counted: of no register, of one more.
module _ (flags : List Bool) (long : length flags ≡ 16) where
  pub number_begin : NumberFrom flags 16 0
  unfolding set_number
  number_begin = record { is = rw (drop_of_length-le flags {i = 16} (omega arith)); small = omega arith }

  pub number_on : (i number : ℕ) → NumberFrom flags i number → 0 < i → i ≤ 16 → NumberFrom flags (i - 1) (2 * number + bool_byte (get_or flags (i - 1) false))
  unfolding set_number
  number_on i number from h b = record { is = one; small = rw one (number_small (drop (i - 1) flags) few) }
    where
      few : length (drop (i - 1) flags) ≤ 16
      few = rw length-drop (omega arith)

      doubled : set_number (drop (i - 1) flags) ≡ bool_byte (get_or flags (i - 1) false) + 2 * set_number (drop (suc (i - 1)) flags)
      doubled = ap set_number (drop-cons flags (i - 1) false (omega arith))

      one : 2 * number + bool_byte (get_or flags (i - 1) false) ≡ set_number (drop (i - 1) flags)
      one = let next : suc (i - 1) ≡ i = omega arith in omega (arith, from.is, rw next at doubled)

-- The set that has a number, before register i is told: none yet, one more, all.
module _ (number i rest : ℕ) (flags : List Bool) (up_to : SetUpTo number i rest flags) (long : length flags ≡ 16) where
  pub set_on : i < 16 → SetUpTo number (i + 1) (rest / 2) (set flags i (eqb (rest % 2) 1))
  unfolding set_of
  set_on h = record {
    is = rw (add-one, take-suc-set flags i (eqb (rest % 2) 1) (omega (arith, long)), append_snoc, ← more) up_to.is;
  }
    where
      more : set_of (16 - i) rest ≡ eqb (rest % 2) 1 ∷ set_of (16 - suc i) (rest / 2)
      more = let one : 16 - i ≡ suc (16 - suc i) = omega arith in rw one

  pub set_end : 16 ≤ i → flags ≡ set_of 16 number
  unfolding set_of
  set_end h =
      let none : 16 - i ≡ 0 = omega arith in
      rw (none, append-nil, take_all i flags (omega (arith, long))) at up_to.is
