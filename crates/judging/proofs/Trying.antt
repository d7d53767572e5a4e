-- Why trying gives the verdict, too: all lists of at most 2N known kinds are tried, in order, so the first of them that is faulty is the first of
-- all; and where none of them is faulty, none is.
use Prim.Native.Nat.{ℕ, ◌≤◌, ◌<◌}
use native.Mathlib.Nat.{eq-zero-or-pos, le_trans, suc-pred-eq_of_pos}
use native.Mathlib.Omega.{arith}
use mathlib.Core.Path.{◌≡◌, refl}
use mathlib.Core.Logic.{◌⊎◌, inl, inr, ⊎_map}
use mathlib.Core.List.{List, [], ◌∷◌, ◌++◌}
use lib.ListN.{length, drop, length-append, length-drop}
use lib.Seq.{take-append_seam, drop-append_seam}
use Rattle.convention.specs.Answers.{JudgingAnswer}
use Rattle.convention.specs.Answers.{Clean, Fault}
use Rattle.convention.specs.Tables.{table_no, table_of}
use Rattle.convention.specs.Lists.{Steps, fault_from, KindsBelow}
use Rattle.convention.specs.Walked.{by_table}
use Rattle.convention.specs.Orders.{Before}
use Rattle.convention.specs.Judged.{list_fault, FaultyList, CleanTable, FirstFaulty, judge_room, judge_no, Judges}
use Rattle.convention.specs.Judged.{lists_up_to, Verdict, first_fault, verdict_by_trying}
use Rattle.convention.specs.Promised.{TableRead}
use Rattle.convention.proofs.Shortlex.{before_irrefl, before_trans}
use Rattle.convention.proofs.Tables.{table_read}
use Rattle.judging.proofs.AllLists.{All, Rising, all_each, all_up_to, up_to_each, rising_up_to}
use Rattle.judging.proofs.Verdict.{bound}
use Rattle.judging.proofs.Unique.{judge_zero, unique}

-- ---- the first that is faulty

module _ (M : Steps) where
  -- What the verdict on several lists says, each with P: none of them is faulty; or it names one that is, and no faulty one is before that.
  record NoneFaulty (lists : List (List ℕ)) (v : Verdict) : Type 0 where
    answer : v.answer ≡ Clean
    list : v.list ≡ []
    none : All (λ ks. fault_from M M.begin ks ≡ 0) lists

  record OneFaulty (P : List ℕ → Type 0) (lists : List (List ℕ)) (v : Verdict) : Type 0 where
    answer : v.answer ≡ Fault (fault_from M M.begin v.list) (length v.list)
    faulty : 0 < fault_from M M.begin v.list
    first : All (λ ks. 0 < fault_from M M.begin ks → Before ks v.list → ⊥) lists
    has : P v.list

  -- The first list is faulty, or the verdict is that on the others.
  first_here : (ks : List ℕ) (lists : List (List ℕ)) → 0 < fault_from M M.begin ks
      → first_fault M (ks ∷ lists) ≡ record { answer = Fault (fault_from M M.begin ks) (length ks); list = ks }
  unfolding first_fault
  first_here ks lists p = rw (← suc-pred-eq_of_pos p, first_fault)

  first_later : (ks : List ℕ) (lists : List (List ℕ)) → fault_from M M.begin ks ≡ 0 → first_fault M (ks ∷ lists) ≡ first_fault M lists
  unfolding first_fault
  first_later ks lists e = rw (e, first_fault)

  -- On lists in order that is what it says.
  first_tried : (P : List ℕ → Type 0) (lists : List (List ℕ)) → All P lists → Rising lists
      → NoneFaulty lists (first_fault M lists) ⊎ OneFaulty P lists (first_fault M lists)
  unfolding first_fault All Rising
  first_tried P [] a r = inl (record { answer = refl; list = refl; none = tt })
  first_tried P (ks ∷ lists) a r = elim (eq-zero-or-pos (fault_from M M.begin ks)) [
    | inl e ↦ rw (first_later ks lists e) (⊎_map
        (λ n. record { answer = n.answer; list = n.list; none = (e, n.none) })
        (λ o. record { answer = o.answer; faulty = o.faulty; first = ((λ f _. omega arith), o.first); has = o.has })
        (first_tried P lists a.1 r.1))
    | inr p ↦ rw (first_here ks lists p) (inr (record {
      answer = refl;
      faulty = p;
      first = ((λ _ b. before_irrefl ks b), all_each lists (λ ks' b _ b'. before_irrefl ks (before_trans ks ks' ks b b')) r.0);
      has = a.0;
    }))
  ]

-- ---- the verdict

-- The lists that are tried of a table: those of known kinds, at most 2N of them.
abbrev Short : List ℕ → List ℕ → Type 0
Short t ks = KindsBelow (table_of t).head.kinds ks × (length ks ≤ judge_room t)

abbrev short_lists : List ℕ → List (List ℕ)
short_lists t = lists_up_to (table_of t).head.kinds (judge_room t)

short_all : (t : List ℕ) (P : List ℕ → Type 0) → All P (short_lists t) → (ks : List ℕ) → Short t ks → P ks
short_all t P x ks s = up_to_each (table_of t).head.kinds (judge_room t) P x ks s.0 s.1

-- What the verdict by trying says of them.
tried : (t : List ℕ) → NoneFaulty (by_table (table_of t) t) (short_lists t) (verdict_by_trying t)
    ⊎ OneFaulty (by_table (table_of t) t) (Short t) (short_lists t) (verdict_by_trying t)
unfolding verdict_by_trying
tried t = first_tried (by_table (table_of t) t) (Short t) (short_lists t) (all_up_to _ _ _ (λ ks b h. (b, h))) (rising_up_to _ _)

-- A list before another is no longer.
before_length : (a b : List ℕ) → Before a b → length a ≤ length b
unfolding Before
before_length a b (inl h) = omega arith
before_length a b (inr e) = omega arith

-- The list that it names is the first faulty list: a list before that one was tried, too.
one_first : (t : List ℕ) → OneFaulty (by_table (table_of t) t) (Short t) (short_lists t) (verdict_by_trying t)
    → FirstFaulty t (list_fault t (verdict_by_trying t).list) (verdict_by_trying t).list
unfolding FaultyList
one_first t o = record {
  faulty = (o.has.0, o.faulty);
  says = refl;
  first = λ ks f b. short_all t _ o.first ks (f.0, le_trans (before_length ks _ b) o.has.1) f.1 b;
}

module _ (limit : ℕ) (t : List ℕ) (read : TableRead limit (table_of t) t) where
  -- Where none of them is faulty, no longer list is.
  none_clean : NoneFaulty (by_table (table_of t) t) (short_lists t) (verdict_by_trying t) → CleanTable t
  unfolding CleanTable FaultyList
  none_clean n ks f =
      let (ks', (known, faulty), short) = bound limit t read ks f in
      omega (arith, short_all t _ n.none ks' (known, short))

-- Judging may give that answer, with the list in the first bytes and the others untouched,
pub trying_judges : (limit : ℕ) (t out : List ℕ) → judge_no limit t (length out) ≡ 0
    → Judges limit t out (verdict_by_trying t).answer ((verdict_by_trying t).list ++ drop (length (verdict_by_trying t).list) out)
unfolding Judges
trying_judges limit t out e = elim (tried t) [
  | inl n ↦ rw (n.answer, n.list) (e, none_clean limit t (table_read limit t fits.0) n, refl)
  | inr o ↦ rw o.answer (
    e,
    o.has.1,
    rw take-append_seam (one_first t o),
    rw drop-append_seam,
    rw (length-append, length-drop) (omega (arith, o.has.1, fits.1)),
  )
]
  where
    fits : (table_no limit t ≡ 0) × (judge_room t ≤ length out)
    fits = judge_zero limit t (length out) e

-- and no other.
pub judges_trying : (limit : ℕ) (t out : List ℕ) → judge_no limit t (length out) ≡ 0
    → (answer : JudgingAnswer) (out' : List ℕ) → Judges limit t out answer out'
    → (answer ≡ (verdict_by_trying t).answer) × (out' ≡ (verdict_by_trying t).list ++ drop (length (verdict_by_trying t).list) out)
judges_trying limit t out e answer out' j = unique limit t out answer _ out' _ j (trying_judges limit t out e)
