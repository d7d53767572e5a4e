-- The reader's numbers, the other way round: no number is given where the bytes are there and have the values that are promised of them.
use Prim.Native.Nat.{ℕ, suc, ◌+◌, ◌*◌, ◌/◌, ◌%◌, ◌≤◌, ◌<◌}
use mathlib.Core.Path.{◌≡◌, refl, ◌∙◌}
use mathlib.Core.Bool.{and-eq-true_iff}
use mathlib.Core.List.{List}
use native.Mathlib.Nat.{zero-add, le_of_eq, mod-lt, div-add-mod, div-lt_iff_lt-mul}
use native.Mathlib.Omega.{arith}
use lib.ListN.{length, drop, length-drop, get_or-append}
use lib.Seq.{drop-drop}
use borrow.Author.Tests.{le-leb, eq-eqb}
use Rattle.convention.specs.declared.Head.{Head}
use Rattle.convention.specs.Layout.{kinds_at, shape_length, states_at, state_length, rows_at, transition_length, transition_at}
use Rattle.convention.specs.Fields.{length_no, version_of, head_of, shape_no}
use Rattle.convention.specs.Tables.{table_kinds_no, table_kinds_of, states_of, transition_of, is_transition, transition_no, transitions_no, table_no, table_of}
use Rattle.convention.specs.Built.{after_length}
use Rattle.convention.specs.Promised.{TableRead}
use Rattle.convention.proofs.Bytes.{length_read}
use Rattle.convention.proofs.Numbers.{or_on, unless_true, part_pass}
use Rattle.convention.proofs.Fields.{opening_pass, shape_pass}
use Rattle.convention.proofs.InTurn.{turns_pass}
use Rattle.convention.proofs.Positions.{kind_inside, transition_inside, transition_counted}
use Rattle.convention.proofs.Tables.{table_kinds_count, table_kind_at_lem}

-- The length, where two bytes can say it.
pub length_pass : (body : List ℕ) → length body < 65536 → length_no (after_length body) ≡ 0
length_pass body h =
    let counted : 2 ≤ suc (suc (length body)) = omega arith in
    unless_true _ 1 ((and-eq-true_iff _ _).1 (le-leb _ _ counted, eq-eqb _ _ (length_read (length body) body h ∙ omega arith)))

-- A table of which all that is promised holds.
module _ (limit : ℕ) (t : List ℕ) (r : TableRead limit (table_of t) t) where
  abbrev v : ℕ
  v = version_of t

  abbrev h : Head
  h = head_of t

  -- Its kinds give no number.
  kinds_pass : table_kinds_no v h (drop kinds_at t) h.kinds ≡ 0
  unfolding table_of table_kinds_no
  kinds_pass =
      turns_pass
      (record {
        long = λ at. shape_length v;
        one = λ at. shape_no v h (drop at (drop kinds_at t));
        all = λ at left. table_kinds_no v h (drop at (drop kinds_at t)) left;
      })
      (shape_length v)
      (record { none = λ at. refl; more = λ at left. rw (drop-drop (shape_length v) at (drop kinds_at t)) })
      (λ at. refl)
      0
      h.kinds
      (λ k b. rw zero-add (each k b))
    where
      each : (k : ℕ) → k < h.kinds → shape_no v h (drop (shape_length v * k) (drop kinds_at t)) ≡ 0
      each k b =
          let kinds = table_kinds_of v (drop kinds_at t) h.kinds in
          shape_pass v h _ (rw (length-drop, length-drop) (omega (arith, r.whole, kind_inside v h k b)))
          (rw (get_or-append kinds _ _ k (rw table_kinds_count b), table_kind_at_lem v (drop kinds_at t) h.kinds k _ b) at (r.kind k b))

  -- Nor do its transitions: of all, number j is that of state j / m and kind j % m.
  transitions_pass : transitions_no v h (states_of t) t (rows_at v h) (h.kinds * states_of t) ≡ 0
  unfolding table_of transitions_no transition_no
  transitions_pass =
      turns_pass
      (record { long = λ at. transition_length v; one = transition_no v h (states_of t) t; all = transitions_no v h (states_of t) t })
      (transition_length v)
      (record { none = λ at. refl; more = λ at left. refl })
      (λ at. refl)
      _
      _
      each
    where
      each : (j : ℕ) → j < h.kinds * states_of t → transition_no v h (states_of t) t (rows_at v h + transition_length v * j) ≡ 0
      each j b =
          let m = h.kinds in
          let at = rows_at v h + transition_length v * j in
          let kind : j % m < m = mod-lt j r.head.some in
          let state : j / m < states_of t = (div-lt_iff_lt-mul r.head.some).1 (omega arith) in
          let counted : m * (j / m) + j % m ≡ j = div-add-mod j m in
          let place : at ≡ transition_at v h (j / m) (j % m) = rw counted at (transition_counted v h (j / m) (j % m)) in
          let there : at + transition_length v ≤ length t = rw (place, r.whole) (transition_inside v h (states_of t) (j / m) state (j % m) kind) in
          part_pass t at (transition_length v) (is_transition h (states_of t) (transition_of v t at)) 7 there (rw place (r.transition (j / m) (j % m) state kind))

  -- So the table gives none, where its length gives none.
  pub table_pass : length_no t ≡ 0 → table_no limit t ≡ 0
  unfolding table_no table_of
  table_pass e =
      let states = (and-eq-true_iff _ _).1 (le-leb _ _ r.some, le-leb _ _ r.states) in
      or_on _ _ (opening_pass t e (omega (arith, r.whole)) r.version r.head)
      ∙ or_on _ _ kinds_pass
      ∙ or_on _ _ (part_pass t (states_at v h) (state_length v) _ 4 (omega (arith, r.whole)) states)
      ∙ or_on _ _ transitions_pass
      ∙ unless_true _ 6 (le-leb _ _ (le_of_eq r.whole))
