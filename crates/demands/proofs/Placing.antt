-- Demand 1 of placing, over either way of it: each number is given exactly when its line says, and a refusal writes nothing.
use Prim.Native.Nat.{ℕ, zero, suc, ◌*◌, ◌≤◌, ◌<◌}
use mathlib.Core.Path.{◌≡◌, refl, sym, ap, ◌∙◌}
use mathlib.Core.Logic.Iff
use mathlib.Core.Logic.{inl, inr, ◌↔◌}
use mathlib.Core.List.{List, [], ◌∷◌}
use native.Mathlib.Decide.{dec_lt}
use native.Mathlib.Omega.{arith}
use lib.Dec.{ltb, leb, lit<}
use lib.ListN.{length, get_or, take, drop, take-append-drop}
use lib.Seq.{length-take-le}
use borrow.Author.Tests.{ltb-true, ltb-false}
use Rattle.convention.specs.Answers.{PlacingAnswer}
use Rattle.convention.specs.Answers.{Placed, Unknown, Faulty}
use Rattle.convention.specs.Numbers.{argument_limit, or_else, unless, placing_says}
use Rattle.convention.specs.Lists.{Steps, fault_from, stop_from, state_from, unknown_at, record_length, walk_answer, placed_or_refused, placing, placing_memory, KindsBelow}
use Rattle.convention.proofs.Numbers.{or_zero, or_here, or_at, or_past, or_on, or_keeps}
use Rattle.convention.proofs.Lists.{unknown_le, unknown_turn, unknown_hit, known_below, below_at, fault_append, stop_append, fault_hit, stop_hit}
use Rattle.convention.proofs.Runs.{either}
use Rattle.judging.proofs.Fronts.{stops}
use Rattle.demands.proofs.Tests.{test_passes, test_fails, test_other, test_keeps}
use Rattle.demands.specs.Demands.{OneOf, FirstUnknown, FirstFault, Ready, PlacingRefuses}

-- Looking for an unknown kind finds the first.
unknown_first : (m : ℕ) (ks : List ℕ) → unknown_at m ks < length ks → FirstUnknown m ks (unknown_at m ks)
unfolding unknown_at
unknown_first m [] h = absurd (omega arith)
unknown_first m (k ∷ ks) h = elim (dec_lt k m) [
  | yes l ↦
      let next : unknown_at m (k ∷ ks) ≡ suc (unknown_at m ks) = omega (arith, unknown_turn m (k ∷ ks) 0 (omega arith) l) in
      let later = unknown_first m ks (omega arith) in
      rw next (record { inside = omega (arith, later.inside); unknown = later.unknown; before = below k ks l later.before })
  | no l ↦
      let here : unknown_at m (k ∷ ks) ≡ 0 = unknown_hit m (k ∷ ks) 0 (omega arith) (omega arith) in
      rw here (record { inside = omega arith; unknown = omega arith; before = λ i o. absurd (omega arith) })
]
  where
    below : (k : ℕ) (ks : List ℕ) → k < m → ((i : ℕ) → i < unknown_at m ks → get_or ks i 0 < m) → (i : ℕ) → i < suc (unknown_at m ks) → get_or (k ∷ ks) i 0 < m
    below k ks l each zero o = l
    below k ks l each (suc i) o = each i (omega arith)

-- There is one first.
first_unknown : (m : ℕ) (ks : List ℕ) (at : ℕ) → FirstUnknown m ks at → unknown_at m ks ≡ at
first_unknown m ks at f = elim (dec_lt (unknown_at m ks) (length ks)) [
  | yes h ↦
      let g = unknown_first m ks h in
      elim (dec_lt (unknown_at m ks) at) [
        | yes l ↦ absurd (omega (arith, f.before (unknown_at m ks) l, g.unknown))
        | no l ↦ elim (dec_lt at (unknown_at m ks)) [
          | yes o ↦ absurd (omega (arith, g.before at o, f.unknown))
          | no o ↦ omega arith
        ]
      ]
  | no h ↦ absurd (omega (arith, below_at m ks (known_below m ks (omega (arith, unknown_le m ks))) at f.inside, f.unknown))
]

module _ (M : Steps) (ks : List ℕ) where
  -- Where the first fault is, the walk stops, with that fault.
  module _ (at fault : ℕ) (f : FirstFault M ks at fault) where
    first_fault_lem : fault_from M M.begin ks ≡ fault
    first_fault_lem =
        ap (fault_from M M.begin) (sym (take-append-drop at ks))
        ∙ (fault_append M M.begin (take at ks) (drop at ks)
        ∙ (or_on _ _ f.before ∙ (fault_hit M _ ks at f.inside (rw f.here f.faulty) ∙ f.here)))

    first_stop : stop_from M M.begin ks ≡ at
    first_stop =
        ap (stop_from M M.begin) (sym (take-append-drop at ks))
        ∙ (stop_append M M.begin (take at ks) (drop at ks) f.before
        ∙ omega (arith, length-take-le at ks (omega (arith, f.inside)), stop_hit M (state_from M M.begin (take at ks)) ks at f.inside (rw f.here f.faulty)))

  -- Where the walk stops with a fault, the first fault is.
  fault_first : 0 < fault_from M M.begin ks → FirstFault M ks (stop_from M M.begin ks) (fault_from M M.begin ks)
  fault_first h =
      let s = stops M M.begin ks h in
      let first : FirstFault M ks (stop_from M M.begin ks) _ = record { inside = s.inside; faulty = s.faulty; here = refl; before = s.clean } in
      rw (first_fault_lem _ _ first) first

-- What an answer tells, and what makes it, after the number of the tests that come first.
module _ (m : ℕ) (M : Steps) (ks : List ℕ) where
  -- Where that number is 0: an unknown kind, a fault, or success.
  data Walked (answer : PlacingAnswer) : Type 0 where
    unknown : (at : ℕ) → answer ≡ Unknown at → FirstUnknown m ks at → Walked answer
    faulty : (at fault : ℕ) → answer ≡ Faulty at fault → KindsBelow m ks → FirstFault M ks at fault → Walked answer
    placed : answer ≡ Placed (length ks) (M.p (state_from M M.begin ks)) → KindsBelow m ks → fault_from M M.begin ks ≡ 0 → Walked answer

  walk_answers : (fault : ℕ) → fault_from M M.begin ks ≡ fault → KindsBelow m ks
      → Walked (walk_answer fault (stop_from M M.begin ks) (length ks) (M.p (state_from M M.begin ks)))
  walk_answers zero e below = placed refl below e
  walk_answers (suc fault) e below =
      let first = fault_first M ks (rw e (omega arith)) in
      faulty _ _ refl below (rw e at first)

  walked : Walked (placed_or_refused 0 m M ks)
  walked = elim (either (ltb (unknown_at m ks) (length ks))) [
    | inl h ↦ rw h (unknown _ refl (unknown_first m ks (ltb-true _ _ h)))
    | inr h ↦ rw h (walk_answers _ refl (known_below m ks (omega (arith, unknown_le m ks, ltb-false (unknown_at m ks) (length ks) h))))
  ]

  -- A list with an unknown kind is not one of known kinds.
  not_both : (at : ℕ) → FirstUnknown m ks at → KindsBelow m ks → ⊥
  not_both at f below = omega (arith, f.unknown, below_at m ks below at f.inside)

  -- So each answer is given exactly when its line says.
  after_refused : (number n : ℕ) → 0 < n → placed_or_refused number m M ks ≡ PlacingAnswer.Refused n ↔ number ≡ n
  after_refused zero n h = (
    λ e. absurd (elim walked [
      | unknown at a f ↦ let z : ◌≡◌ {A = ℕ} 0 1 = cc in omega arith
      | faulty at fault a b f ↦ let z : ◌≡◌ {A = ℕ} 0 1 = cc in omega arith
      | placed a b f ↦ let z : ◌≡◌ {A = ℕ} 0 1 = cc in omega arith
    ]),
    λ e. absurd (omega arith),
  )
  after_refused (suc number) n h = (λ e. cc, λ e. rw e)

  after_unknown : (number at : ℕ) → placed_or_refused number m M ks ≡ Unknown at ↔ (number ≡ 0) × FirstUnknown m ks at
  after_unknown zero at = (
    λ e. (
      refl,
      elim walked [
        | unknown at' a f ↦ let same : at' ≡ at = cc in rw same at f
        | faulty at' fault a b f ↦ absurd (let z : ◌≡◌ {A = ℕ} 0 1 = cc in omega arith)
        | placed a b f ↦ absurd (let z : ◌≡◌ {A = ℕ} 0 1 = cc in omega arith)
      ],
    ),
    λ e. elim walked [
      | unknown at' a f ↦ a ∙ ap Unknown (sym (first_unknown m ks at' f) ∙ first_unknown m ks at e.1)
      | faulty at' fault a b f ↦ absurd (not_both at e.1 b)
      | placed a b f ↦ absurd (not_both at e.1 b)
    ],
  )
  after_unknown (suc number) at = (λ e. absurd (let z : ◌≡◌ {A = ℕ} 0 1 = cc in omega arith), λ e. absurd (omega arith))

  after_faulty : (number at fault : ℕ) → placed_or_refused number m M ks ≡ Faulty at fault ↔ (number ≡ 0) × KindsBelow m ks × FirstFault M ks at fault
  after_faulty zero at fault = (
    λ e. elim walked [
      | unknown at' a f ↦ absurd (let z : ◌≡◌ {A = ℕ} 0 1 = cc in omega arith)
      | faulty at' fault' a b f ↦ let same : at' ≡ at = cc in let too : fault' ≡ fault = cc in (refl, b, rw (same, too) at f)
      | placed a b f ↦ absurd (let z : ◌≡◌ {A = ℕ} 0 1 = cc in omega arith)
    ],
    λ e. elim walked [
      | unknown at' a f ↦ absurd (not_both at' f e.1)
      | faulty at' fault' a b f ↦
          let same : at' ≡ at = sym (first_stop M ks at' fault' f) ∙ first_stop M ks at fault e.2 in
          let too : fault' ≡ fault = sym (first_fault_lem M ks at' fault' f) ∙ first_fault_lem M ks at fault e.2 in
          a ∙ rw (same, too)
      | placed a b f ↦ absurd (omega (arith, first_fault_lem M ks at fault e.2, e.2.faulty))
    ],
  )
  after_faulty (suc number) at fault = (λ e. absurd (let z : ◌≡◌ {A = ℕ} 0 1 = cc in omega arith), λ e. absurd (omega arith))

  after_placed : (number : ℕ) → placed_or_refused number m M ks ≡ Placed (length ks) (M.p (state_from M M.begin ks))
      ↔ (number ≡ 0) × KindsBelow m ks × (fault_from M M.begin ks ≡ 0)
  after_placed zero = (
    λ e. elim walked [
      | unknown at a f ↦ absurd (let z : ◌≡◌ {A = ℕ} 0 1 = cc in omega arith)
      | faulty at fault a b f ↦ absurd (let z : ◌≡◌ {A = ℕ} 0 1 = cc in omega arith)
      | placed a b f ↦ (refl, b, f)
    ],
    λ e. elim walked [
      | unknown at a f ↦ absurd (not_both at f e.1)
      | faulty at fault a b f ↦ absurd (omega (arith, first_fault_lem M ks at fault f, f.faulty, e.2))
      | placed a b f ↦ a
    ],
  )
  after_placed (suc number) = (λ e. absurd (let z : ◌≡◌ {A = ℕ} 0 1 = cc in omega arith), λ e. absurd (omega arith))

  -- No other number is given.
  after_others : (P : ℕ → Type 0) (number : ℕ) → P number → P 0 → P 9 → P 10 → P (placing_says (placed_or_refused number m M ks)).number
  after_others P zero here none nine ten = elim walked [ unknown at a f ↦ rw a nine | faulty at fault a b f ↦ rw a ten | placed a b f ↦ rw a none ]
  after_others P (suc number) here none nine ten = here

-- The answer and the output of placing, where reading gave no number above 7.
module _ (read m : ℕ) (low : read ≤ 7) (M : Steps) (ks out : List ℕ) where
  abbrev many : ℕ
  many = unless (leb (length ks) argument_limit) 8

  abbrev narrow : ℕ
  narrow = unless (leb (record_length * length ks) (length out)) 12

  abbrev first : ℕ
  first = or_else read (or_else many narrow)

  ready : first ≡ 0 ↔ Ready read ks out
  ready = (
    λ e.
        let a = or_zero read _ e in
        let b = or_zero many narrow a.1 in
        record { reads = a.0; short = (test_passes _ _ 8 (lit< tt)).0 b.0; room = (test_passes _ _ 12 (lit< tt)).0 b.1 },
    λ r. or_on _ _ r.reads ∙ (or_on _ _ ((test_passes _ _ 8 (lit< tt)).1 r.short) ∙ (test_passes _ _ 12 (lit< tt)).1 r.room),
  )

  abbrev Listed : ℕ → Type 0
  Listed = OneOf (0 ∷ read ∷ 8 ∷ 12 ∷ 9 ∷ 10 ∷ [])

  few_narrow : or_else many narrow ≡ 12 ↔ (length ks ≤ argument_limit) × (length out < record_length * length ks)
  few_narrow =
      Iff.trans (or_past many narrow 12 (test_other (leb (length ks) argument_limit) 8 12 (lit< tt) (λ e. omega arith)))
      (Iff.and (test_passes _ _ 8 (lit< tt)) (test_fails _ _ 12 (lit< tt)))

  placing_untouched : (answer : PlacingAnswer) → 0 < (placing_says answer).number → placing_memory answer M ks out ≡ out
  unfolding placing_memory
  placing_untouched (Placed n p) h = absurd (omega arith)
  placing_untouched (Unknown at) h = refl
  placing_untouched (Faulty at fault) h = refl
  placing_untouched (PlacingAnswer.Refused number) h = refl

  pub placing_refuses : PlacingRefuses read m M ks out (placing argument_limit read m M ks (length out)) (placing_memory (placing argument_limit read m M ks (length out)) M ks out)
  unfolding placing OneOf
  placing_refuses = record {
    reader = λ h. rw (or_here read (or_else many narrow) h) ((after_refused m M ks read read h).1 refl);
    eight =
        Iff.trans (after_refused m M ks first 8 (lit< tt))
        (Iff.trans (or_past read _ 8 (λ e. omega arith))
        (Iff.and Iff.rfl (Iff.trans (or_at many narrow 8 (lit< tt) (test_other (leb (record_length * length ks) (length out)) 12 8 (lit< tt) (λ e. omega arith))) (test_fails _ _ 8 (lit< tt)))));
    twelve =
        Iff.trans (after_refused m M ks first 12 (lit< tt))
        (Iff.trans (or_past read _ 12 (λ e. omega arith)) (
          λ e. let both = few_narrow.0 e.1 in (e.0, both.0, both.1),
          λ e. (e.0, few_narrow.1 (e.1, e.2)),
        ));
    nine = λ at. Iff.trans (after_unknown m M ks first at) (Iff.and ready Iff.rfl);
    ten = λ at fault. Iff.trans (after_faulty m M ks first at fault) (λ e. (ready.0 e.0, e.1, e.2), λ e. (ready.1 e.0, e.1, e.2));
    success = Iff.trans (after_placed m M ks first) (λ e. (ready.0 e.0, e.1, e.2), λ e. (ready.1 e.0, e.1, e.2));
    others =
        after_others m M ks Listed first
        (or_keeps Listed read (or_else many narrow) (inr (inl refl))
        (or_keeps Listed many narrow (test_keeps Listed (leb (length ks) argument_limit) 8 (inl refl) (inr (inr (inl refl)))) (test_keeps Listed (leb (record_length * length ks) (length out)) 12 (inl refl) (inr (inr (inr (inl refl)))))))
        (inl refl)
        (inr (inr (inr (inr (inl refl)))))
        (inr (inr (inr (inr (inr (inl refl))))));
    untouched = placing_untouched _;
  }
