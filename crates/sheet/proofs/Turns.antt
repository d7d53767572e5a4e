-- One turn of each loop of the reader, on plain values: what is left answers the whole.
use Prim.Native.Nat.{ℕ, zero, suc, ◌+◌, ◌-◌, ◌≤◌, ◌<◌}
use mathlib.Core.Path.{◌≡◌, refl, sym, ◌∙◌}
use mathlib.Core.List.{List, ◌∷◌, ◌++◌, head-eq_of_cons-eq, tail-eq_of_cons-eq}
use native.Mathlib.Omega.{arith}
use native.Mathlib.Nat.{le_refl, add-zero}
use native.Mathlib.Numerals.{add-one}
use lib.Dec.{leb}
use lib.ListN.{length, get_or, take, drop, set, replicate, length-drop}
use lib.Seq.{take_all, drop-cons, drop-drop}
use Rattle.convention.specs.Fields.{field_no}
use Rattle.convention.specs.Layout.{kinds_at}
use Rattle.convention.specs.declared.Head.{Head}
use Rattle.convention.specs.declared.SheetKind.{SheetKind}
use Rattle.convention.specs.declared.Refusal.{Refusal}
use Rattle.convention.specs.Results.{refusal_number}
use Rattle.convention.proofs.Results.{refusal_not}
use Rattle.convention.specs.Sheets.{starts_no, sheet_kind_length, sheet_kind_no, sheet_kind_of, sheet_kinds_no, sheet_kinds_of, sheet_kinds_length, sheet_kind_at, blank_kind}
use Rattle.convention.proofs.Slices.{rest_of}
use Rattle.convention.proofs.Filled.{fill_turn, fill_done}
use Rattle.convention.proofs.Sheets.{kind_tries, kind_length, kinds_count, kind_next, kind_within}
use Rattle.sheet.specs.Kinds.{KindsRest, KindWhole, KindsStored, KindThere}
use Rattle.convention.proofs.Numbers.{or_zero}
use Rattle.convention.proofs.InTurn.{Things, InTurn, turn_right, turn_wrong, turn_end}

-- The starts of a kind, a byte each. A start that is right leaves the number of the others; one that is not gives its own.
abbrev starts_in_turn : ℕ → ℕ → List ℕ → Things
starts_in_turn n k s = record { long = λ at. 1; one = λ at. field_no s at (leb (get_or s at 0 + k) n) 5; all = starts_no n k s }

starts_turns : (n k : ℕ) (s : List ℕ) → InTurn (starts_in_turn n k s)
unfolding starts_no
starts_turns n k s = record { none = λ at. refl; more = λ at left. refl }

module _ (n k : ℕ) (s : List ℕ) (at end w : ℕ) (inv : starts_no n k s at (end - at) ≡ w) where
  pub starts_more : (start : ℕ) → at < end → start ≡ get_or s at 0 → 0 ≡ field_no s at (leb (start + k) n) 5 → starts_no n k s (at + 1) (end - (at + 1)) ≡ w
  starts_more start h es ez =
      let less : end - (at + 1) ≡ end - at - 1 = omega arith in
      rw less (turn_right (starts_in_turn n k s) (starts_turns n k s) w at (end - at) 0 inv (omega arith) (rw (← es) ez) refl)

  pub starts_hit : (start : ℕ) (refusal : Refusal) → at < end → start ≡ get_or s at 0
      → refusal_number refusal ≡ field_no s at (leb (start + k) n) 5 → refusal_number refusal ≡ w
  starts_hit start refusal h es en =
      turn_wrong (starts_in_turn n k s) (starts_turns n k s) w at (end - at) (refusal_number refusal) inv (omega arith) (rw (← es) en) (refusal_not refusal)

  pub starts_end : end ≤ at → 0 ≡ w
  starts_end h = turn_end (starts_in_turn n k s) (starts_turns n k s) w at (end - at) inv (omega arith)

-- The kinds, each where the one before it ends. A kind that is right leaves the number and the end of the others; one that is not gives its own number.
abbrev kinds_in_turn : ℕ → Head → List ℕ → Things
kinds_in_turn v h s = record {
  long = λ at. sheet_kind_length v (drop at s);
  one = λ at. sheet_kind_no v h (drop at s);
  all = λ at left. sheet_kinds_no v h (drop at s) left;
}

kinds_turns : (v : ℕ) (h : Head) (s : List ℕ) → InTurn (kinds_in_turn v h s)
unfolding sheet_kinds_no
kinds_turns v h s = record { none = λ at. refl; more = λ at left. rw (← drop-drop (sheet_kind_length v (drop at s)) at s) }

-- Where the last one ends: after one more, and where none is left.
lengths_on : (v : ℕ) (s : List ℕ) (at left : ℕ) → 0 < left
    → at + sheet_kind_length v (drop at s) + sheet_kinds_length v (drop (at + sheet_kind_length v (drop at s)) s) (left - 1) ≡ at + sheet_kinds_length v (drop at s) left
unfolding sheet_kinds_length
lengths_on v s at zero t = absurd (omega arith)
lengths_on v s at (suc left) t =
    let less : suc left - 1 ≡ left = omega arith in
    rw (less, ← drop-drop (sheet_kind_length v (drop at s)) at s) (omega arith)

lengths_end : (v : ℕ) (s : List ℕ) (at left : ℕ) → left ≤ 0 → at + sheet_kinds_length v (drop at s) left ≡ at
unfolding sheet_kinds_length
lengths_end v s at zero t = add-zero at
lengths_end v s at (suc left) t = absurd (omega arith)

module _ (v : ℕ) (h : Head) (s : List ℕ) (at i : ℕ) (inv : KindsRest v h s at (h.kinds - i)) where
  this : (number : ℕ) → number ≡ sheet_kind_no v h (take (length s - at) (drop at s)) → number ≡ sheet_kind_no v h (drop at s)
  this number en = rw (← rest_of s at) en

  pub kinds_turn : (len : ℕ) → i < h.kinds → 0 ≡ sheet_kind_no v h (take (length s - at) (drop at s))
      → len ≡ sheet_kind_length v (take (length s - at) (drop at s)) → KindsRest v h s (at + len) (h.kinds - (i + 1))
  kinds_turn len t ez el =
      let long : len ≡ sheet_kind_length v (drop at s) = rw (← rest_of s at) el in
      let less : h.kinds - (i + 1) ≡ h.kinds - i - 1 = omega arith in
      record {
        within = omega (arith, simp length-drop at (kind_length v h (drop at s) (sym (this 0 ez))), inv.within);
        numbers = rw (long, less) (turn_right (kinds_in_turn v h s) (kinds_turns v h s) _ at (h.kinds - i) 0 inv.numbers (omega arith) (this 0 ez) refl);
        lengths = rw (long, less) (lengths_on v s at (h.kinds - i) (omega arith) ∙ inv.lengths);
      }

  pub kinds_hit : (refusal : Refusal) → i < h.kinds → refusal_number refusal ≡ sheet_kind_no v h (take (length s - at) (drop at s))
      → refusal_number refusal ≡ sheet_kinds_no v h (drop kinds_at s) h.kinds
  kinds_hit refusal t en =
      turn_wrong (kinds_in_turn v h s) (kinds_turns v h s) _ at (h.kinds - i) (refusal_number refusal) inv.numbers (omega arith) (this _ en) (refusal_not refusal)

  pub kinds_end : h.kinds ≤ i → 0 ≡ sheet_kinds_no v h (drop kinds_at s) h.kinds
  kinds_end t = turn_end (kinds_in_turn v h s) (kinds_turns v h s) _ at (h.kinds - i) inv.numbers (omega arith)

  pub kinds_ended : h.kinds ≤ i → at ≡ sheet_kind_at v s h.kinds
  kinds_ended t = sym (lengths_end v s at (h.kinds - i) (omega arith)) ∙ inv.lengths

-- What storing the next kind needs to know of it: it is right, it ends within the sheet, and it is the next of all.
module _ (v : ℕ) (h : Head) (s : List ℕ) (at i : ℕ) (kinds : List SheetKind) (inv : KindsStored v h s at i kinds) (t : i < h.kinds) where
  left : h.kinds - i ≡ suc (h.kinds - (i + 1))
  left = omega arith

  numbers : (sheet_kind_no v h (drop at s) ≡ 0) × (sheet_kinds_no v h (drop (sheet_kind_length v (drop at s)) (drop at s)) (h.kinds - (i + 1)) ≡ 0)
  unfolding sheet_kinds_no
  numbers = or_zero _ _ (rw left at inv.right)

  pub next_right : sheet_kind_no v h (drop at s) ≡ 0
  next_right = numbers.0

  pub next_whole : KindWhole v (take (length s - at) (drop at s))
  next_whole = rw rest_of (record { tries = kind_tries v h (drop at s) next_right; whole = kind_length v h (drop at s) next_right })

  rest_next : drop i (sheet_kinds_of v (drop kinds_at s) h.kinds)
      ≡ sheet_kind_of v (drop at s) ∷ sheet_kinds_of v (drop (sheet_kind_length v (drop at s)) (drop at s)) (h.kinds - (i + 1))
  unfolding sheet_kinds_of
  rest_next = rw left at inv.rest

  pub kind_stored : (kind : SheetKind) (len : ℕ) → h.kinds ≤ 8
      → kind ≡ sheet_kind_of v (take (length s - at) (drop at s)) → len ≡ sheet_kind_length v (take (length s - at) (drop at s))
      → KindsStored v h s (at + len) (i + 1) (set kinds i kind)
  kind_stored kind len m ek el =
      let long : len ≡ sheet_kind_length v (drop at s) = rw (← rest_of s at) el in
      let next : drop (at + len) s ≡ drop (sheet_kind_length v (drop at s)) (drop at s) = rw (drop-drop, long) in
      let all = sheet_kinds_of v (drop kinds_at s) h.kinds in
      let count : length all ≡ h.kinds = kinds_count v (drop kinds_at s) h.kinds in
      let both = sym (drop-cons all i kind (omega arith)) ∙ rest_next in
      let here : get_or all i kind ≡ kind = head-eq_of_cons-eq both ∙ sym (rw (← rest_of s at) ek) in
      record {
        within = omega (arith, simp length-drop at (kind_length v h (drop at s) next_right), inv.within);
        count = omega arith;
        right = rw next numbers.1;
        rest = rw next (rw (← add-one i) at (tail-eq_of_cons-eq both));
        stored = fill_turn all 8 blank_kind kinds i kind kind inv.stored (omega arith) (omega arith) here;
      }

-- All stored.
pub kinds_done : (v : ℕ) (h : Head) (s : List ℕ) (at i : ℕ) (kinds : List SheetKind)
    → KindsStored v h s at i kinds → h.kinds ≤ i → kinds ≡ sheet_kinds_of v (drop kinds_at s) h.kinds ++ replicate (8 - h.kinds) blank_kind
kinds_done v h s at i kinds inv t =
    let all = sheet_kinds_of v (drop kinds_at s) h.kinds in
    let stored = fill_done all 8 blank_kind kinds i h.kinds inv.stored inv.count t in
    rw (take_all h.kinds all (rw kinds_count (le_refl h.kinds))) at stored

-- Going to kind k: the next kind is where the kinds before it end, within the sheet.
pub kind_begins : (v : ℕ) (s : List ℕ) → kinds_at ≡ sheet_kind_at v s 0
unfolding sheet_kinds_length
kind_begins v s = refl

module _ (v : ℕ) (s : List ℕ) (k at i : ℕ) (inv : at ≡ sheet_kind_at v s i) where
  pub at_within : KindThere v s k → i ≤ k → at ≤ length s
  at_within there l = rw (inv, there.version) (kind_within s there.read i (omega (arith, there.known)))

  pub at_turn : (len : ℕ) → len ≡ sheet_kind_length v (take (length s - at) (drop at s)) → at + len ≡ sheet_kind_at v s (i + 1)
  at_turn len el =
      let long : len ≡ sheet_kind_length v (drop at s) = rw (← rest_of s at) el in
      rw (long, kind_next, inv)
