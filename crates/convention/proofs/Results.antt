-- What a `?` makes of the numbers: a test that passes leaves the number to those after it, and a refusal is the number of them all.
use Rattle.std.proofs.Common.{ℕ, ◌≡◌, ◌<◌, refl, sym, ap, ◌∙◌, arith, cond, Option, Some, None, Result, Ok, Err}
use Rattle.std.specs.Prelude.{⊤}
use lib.Dec.{eqb}
use Rattle.convention.specs.declared.Refusal.{Refusal}
use Rattle.convention.specs.declared.Refusal.TheVariants.{Length, Version, Missing, Head, Kind, LeftOver, Transition, Arguments, States, Room, Row}
use Rattle.convention.specs.declared.Fault.{Fault}
use Rattle.convention.specs.declared.Fault.TheVariants.{NoPlace, GivenTwice, WrongCount, Misaligned}
use Rattle.convention.specs.Numbers.{or_else}
use Rattle.convention.proofs.Numbers.{or_here, or_on}
use Rattle.convention.specs.declared.Sheet.{Sheet}
use Rattle.convention.specs.declared.Table.{Table}
use Rattle.convention.specs.declared.Placed.{Placed}
use Rattle.convention.specs.declared.Unplaced.{Unplaced}
use Rattle.convention.specs.declared.Unplaced.TheVariants.{Refused, Unknown, Faulty}
use Rattle.convention.specs.declared.Built.{Built}
use Rattle.convention.specs.declared.FaultyList.{FaultyList}
use Rattle.convention.specs.declared.Offset.{Offset}
use Rattle.convention.specs.Answers.{SheetAnswer, TableAnswer}
use Rattle.convention.specs.Results.{refusal_number, fault_number, number_of, sheet_answer, table_answer, placing_answer, building_answer, judging_answer}

-- A refusal has a number, and so has a fault.
pub refusal_some : (refusal : Refusal) → 0 < refusal_number refusal
refusal_some Length = omega arith
refusal_some Version = omega arith
refusal_some Missing = omega arith
refusal_some Head = omega arith
refusal_some Kind = omega arith
refusal_some LeftOver = omega arith
refusal_some Transition = omega arith
refusal_some Arguments = omega arith
refusal_some States = omega arith
refusal_some Room = omega arith
refusal_some Row = omega arith

pub fault_some : (fault : Fault) → 0 < fault_number fault
fault_some NoPlace = omega arith
fault_some GivenTwice = omega arith
fault_some WrongCount = omega arith
fault_some Misaligned = omega arith

pub refusal_not : (refusal : Refusal) → refusal_number refusal ≡ 0 → ⊥
refusal_not refusal e = omega (arith, refusal_some refusal)

-- A test that passed, before a later one; and a refusal, or a fault, before one.
pub passed : (n m : ℕ) → 0 ≡ n → or_else n m ≡ m
passed n m e = or_on n m (sym e)

pub refused : (refusal : Refusal) (n m : ℕ) → refusal_number refusal ≡ n → refusal_number refusal ≡ or_else n m
refused refusal n m e = let h : 0 < n = omega (arith, refusal_some refusal) in e ∙ sym (or_here n m h)

pub faulty : (fault : Fault) (n m : ℕ) → fault_number fault ≡ n → fault_number fault ≡ or_else n m
faulty fault n m e = let h : 0 < n = omega (arith, fault_some fault) in e ∙ sym (or_here n m h)

-- For tactics.
pub ruleset tests = (passed, refused, faulty)

-- A number is the number of one refusal alone, and of one fault: what a number comes from, where it comes from one.
refusal_from : ℕ → Refusal
refusal_from n =
    cond (eqb n 1) Length (cond (eqb n 2) Version (cond (eqb n 3) Missing (cond (eqb n 4) Head (cond (eqb n 5) Kind
    (cond (eqb n 6) LeftOver (cond (eqb n 7) Transition (cond (eqb n 8) Arguments (cond (eqb n 11) States (cond (eqb n 12) Room Row)))))))))

refusal_back : (refusal : Refusal) → refusal_from (refusal_number refusal) ≡ refusal
unfolding refusal_from
refusal_back Length = refl
refusal_back Version = refl
refusal_back Missing = refl
refusal_back Head = refl
refusal_back Kind = refl
refusal_back LeftOver = refl
refusal_back Transition = refl
refusal_back Arguments = refl
refusal_back States = refl
refusal_back Room = refl
refusal_back Row = refl

pub refusal_one : (a b : Refusal) → refusal_number a ≡ refusal_number b → a ≡ b
refusal_one a b e = sym (refusal_back a) ∙ (ap refusal_from e ∙ refusal_back b)

fault_from : ℕ → Fault
fault_from n = cond (eqb n 1) NoPlace (cond (eqb n 2) GivenTwice (cond (eqb n 3) WrongCount Misaligned))

fault_back : (fault : Fault) → fault_from (fault_number fault) ≡ fault
unfolding fault_from
fault_back NoPlace = refl
fault_back GivenTwice = refl
fault_back WrongCount = refl
fault_back Misaligned = refl

pub fault_one : (a b : Fault) → fault_number a ≡ fault_number b → a ≡ b
fault_one a b e = sym (fault_back a) ∙ (ap fault_from e ∙ fault_back b)

-- So two tests that give one number are the same, and two results that say one answer.
pub number_one : (a b : Result ⊤ Refusal) → number_of a ≡ number_of b → a ≡ b
number_one (Ok x) (Ok y) e = refl
number_one (Ok x) (Err q) e = absurd (omega (arith, refusal_some q))
number_one (Err r) (Ok y) e = absurd (omega (arith, refusal_some r))
number_one (Err r) (Err q) e = ap (λ (r : Refusal). Err r) (refusal_one r q e)

pub placing_one : (a b : Result Placed Unplaced) → placing_answer a ≡ placing_answer b → a ≡ b
placing_one (Ok a) (Ok b) e =
    let n : a.arguments ≡ b.arguments = cc in
    let p : a.p ≡ b.p = cc in
    ap (λ (n : ℕ). Ok (record { arguments = n; p = a.p })) n ∙ ap (λ (p : Offset). Ok (record { arguments = b.arguments; p = p })) p
placing_one (Ok a) (Err (Refused r)) e = absurd (cc)
placing_one (Ok a) (Err (Unknown n)) e = absurd (cc)
placing_one (Ok a) (Err (Faulty n f)) e = absurd (cc)
placing_one (Err (Refused r)) (Ok b) e = absurd (cc)
placing_one (Err (Unknown n)) (Ok b) e = absurd (cc)
placing_one (Err (Faulty n f)) (Ok b) e = absurd (cc)
placing_one (Err (Refused r)) (Err (Refused q)) e = let same : refusal_number r ≡ refusal_number q = cc in ap (λ (r : Refusal). Err (Refused r)) (refusal_one r q same)
placing_one (Err (Refused r)) (Err (Unknown n)) e = absurd (cc)
placing_one (Err (Refused r)) (Err (Faulty n f)) e = absurd (cc)
placing_one (Err (Unknown n)) (Err (Refused q)) e = absurd (cc)
placing_one (Err (Unknown n)) (Err (Unknown m)) e = cc
placing_one (Err (Unknown n)) (Err (Faulty m f)) e = absurd (cc)
placing_one (Err (Faulty n f)) (Err (Refused q)) e = absurd (cc)
placing_one (Err (Faulty n f)) (Err (Unknown m)) e = absurd (cc)
placing_one (Err (Faulty n f)) (Err (Faulty m g)) e =
    let at : n ≡ m = cc in
    let same : fault_number f ≡ fault_number g = cc in
    rw (at, fault_one f g same)

pub building_one : (a b : Result Built Refusal) → building_answer a ≡ building_answer b → a ≡ b
building_one (Ok a) (Ok b) e =
    let n : a.states ≡ b.states = cc in
    let l : a.length ≡ b.length = cc in
    ap (λ (n : ℕ). Ok (record { states = n; length = a.length })) n ∙ ap (λ (l : ℕ). Ok (record { states = b.states; length = l })) l
building_one (Ok a) (Err q) e = absurd (cc)
building_one (Err r) (Ok b) e = absurd (cc)
building_one (Err r) (Err q) e = let same : refusal_number r ≡ refusal_number q = cc in ap (λ (r : Refusal). Err r) (refusal_one r q same)

pub judging_one : (a b : Result (Option FaultyList) Refusal) → judging_answer a ≡ judging_answer b → a ≡ b
judging_one (Ok None) (Ok None) e = refl
judging_one (Ok None) (Ok (Some b)) e = absurd (cc)
judging_one (Ok None) (Err q) e = absurd (cc)
judging_one (Ok (Some a)) (Ok None) e = absurd (cc)
judging_one (Ok (Some a)) (Ok (Some b)) e =
    let same : fault_number a.fault ≡ fault_number b.fault = cc in
    let fault : a.fault ≡ b.fault = fault_one a.fault b.fault same in
    let kinds : a.kinds ≡ b.kinds = cc in
    ap (λ (fault : Fault). Ok (Some (record { fault = fault; kinds = a.kinds }))) fault ∙ ap (λ (kinds : ℕ). Ok (Some (record { fault = b.fault; kinds = kinds }))) kinds
judging_one (Ok (Some a)) (Err q) e = absurd (cc)
judging_one (Err r) (Ok None) e = absurd (cc)
judging_one (Err r) (Ok (Some b)) e = absurd (cc)
judging_one (Err r) (Err q) e = let same : refusal_number r ≡ refusal_number q = cc in ap (λ (r : Refusal). Err r) (refusal_one r q same)

pub sheet_one : (a b : Result Sheet Refusal) → sheet_answer a ≡ sheet_answer b → a ≡ b
sheet_one (Ok a) (Ok b) e = ap (λ (answer : SheetAnswer). Ok answer.sheet) e
sheet_one (Ok a) (Err q) e = let differ = ap (λ (answer : SheetAnswer). answer.reading) e in absurd (cc)
sheet_one (Err r) (Ok b) e = let differ = ap (λ (answer : SheetAnswer). answer.reading) e in absurd (cc)
sheet_one (Err r) (Err q) e =
    let reading = ap (λ (answer : SheetAnswer). answer.reading) e in
    let same : refusal_number r ≡ refusal_number q = cc in
    ap (λ (r : Refusal). Err r) (refusal_one r q same)

pub table_one : (a b : Result Table Refusal) → table_answer a ≡ table_answer b → a ≡ b
table_one (Ok a) (Ok b) e = ap (λ (answer : TableAnswer). Ok answer.table) e
table_one (Ok a) (Err q) e = let differ = ap (λ (answer : TableAnswer). answer.reading) e in absurd (cc)
table_one (Err r) (Ok b) e = let differ = ap (λ (answer : TableAnswer). answer.reading) e in absurd (cc)
table_one (Err r) (Err q) e =
    let reading = ap (λ (answer : TableAnswer). answer.reading) e in
    let same : refusal_number r ≡ refusal_number q = cc in
    ap (λ (r : Refusal). Err r) (refusal_one r q same)
