-- Why the library's order, by length and then of slices, is the order of lists.
use Rattle.std.proofs.Common.{◌+◌, ℕ, ◌<◌, ◌≡◌, inl, inr, List, [], ◌∷◌, ◌++◌, length, refl, sym, ap₂, ◌∙◌, arith, Ordering, Less, Equal, Greater}
use native.Mathlib.Nat.{suc_inj}
use Rattle.std.specs.Ordering.{MatchOrdering, nat_cmp, ordering_then, is_lt}
use Rattle.std.specs.Cmp.Lexicographic.{slice_cmp}
use Rattle.std.proofs.lemmas.Cmp.{ranked}
use Rattle.convention.specs.Orders.{Earlier, Before}
use Rattle.convention.specs.Explored.{numbered, path}
use Rattle.exploring.specs.declared.Entry.{Entry as Met}
use Rattle.exploring.specs.Stored.{entries_of, PathIs}
use Rattle.judging.specs.Listed.{FoundIs, CompareIs}
use mathlib.Core.List.{append_assoc, append-nil}
use lib.ListN.{take, drop, set, length-append}
use lib.Seq.{set_at, drop_at, length-take-le, drop-length}

-- The library's order of lists of one length is kind order.
module _ (x y : ℕ) (a b : List ℕ) where
  ranked_last : x ≡ y → (r : Ordering) → MatchOrdering r (Earlier a b) (a ≡ b) (Earlier b a)
      → MatchOrdering r (Earlier (x ∷ a) (y ∷ b)) (x ∷ a ≡ y ∷ b) (Earlier (y ∷ b) (x ∷ a))
  unfolding Earlier
  ranked_last e Less f = inr (e, f)
  ranked_last e Equal f = ap₂ ◌∷◌ e f
  ranked_last e Greater f = inr (sym e, f)

  ranked_more : (o : Ordering) → MatchOrdering o (x < y) (x ≡ y) (y < x) → MatchOrdering (slice_cmp nat_cmp a b) (Earlier a b) (a ≡ b) (Earlier b a)
      → MatchOrdering (ordering_then o (slice_cmp nat_cmp a b)) (Earlier (x ∷ a) (y ∷ b)) (x ∷ a ≡ y ∷ b) (Earlier (y ∷ b) (x ∷ a))
  unfolding Earlier
  ranked_more Less h f = inl h
  ranked_more Equal h f = ranked_last h (slice_cmp nat_cmp a b) f
  ranked_more Greater h f = inl h

earlier_ranked : (a b : List ℕ) → length a ≡ length b → MatchOrdering (slice_cmp nat_cmp a b) (Earlier a b) (a ≡ b) (Earlier b a)
earlier_ranked [] [] e = refl
earlier_ranked [] (y ∷ b) e = absurd (omega arith)
earlier_ranked (x ∷ a) [] e = absurd (omega arith)
earlier_ranked (x ∷ a) (y ∷ b) e = ranked_more x y a b (nat_cmp x y) (ranked x y (nat_cmp x y) refl) (earlier_ranked a b (suc_inj e))

-- After the lengths it is the order of lists.
module _ (a b : List ℕ) where
  compared_same : length a ≡ length b → (r : Ordering) → MatchOrdering r (Earlier a b) (a ≡ b) (Earlier b a) → CompareIs a b (is_lt r)
  unfolding Before
  compared_same e Less f = record { yes = λ _. inr (e, f); no = λ q. absurd (cc) }
  compared_same e Equal f = record { yes = λ q. absurd (cc); no = λ _. inl (sym f) }
  compared_same e Greater f = record { yes = λ q. absurd (cc); no = λ _. inr (inr (sym e, f)) }

  compared_lengths : (o : Ordering) → MatchOrdering o (length a < length b) (length a ≡ length b) (length b < length a)
      → CompareIs a b (is_lt (ordering_then o (slice_cmp nat_cmp a b)))
  unfolding Before
  compared_lengths Less h = record { yes = λ _. inl h; no = λ q. absurd (cc) }
  compared_lengths Equal h = compared_same h (slice_cmp nat_cmp a b) (earlier_ranked a b h)
  compared_lengths Greater h = record { yes = λ q. absurd (cc); no = λ _. inr (inl h) }

  pub compare_is : CompareIs a b (is_lt (ordering_then (nat_cmp (length a) (length b)) (slice_cmp nat_cmp a b)))
  compare_is = compared_lengths (nat_cmp (length a) (length b)) (ranked (length a) (length b) _ refl)

-- A path and a kind after it are the list found.
module _ (l : List Met) (i k : ℕ) (before after : List ℕ) (from : ℕ) (is : PathIs l i before from after) (n : ℕ) (last : length before ≡ n) where
  pub found_is : (rest : List ℕ) → length rest ≡ 1 → FoundIs l i k (drop from (set (after ++ rest) n k))
  found_is [] h = absurd (omega arith)
  found_is (x ∷ y ∷ rest) h = absurd (omega arith)
  found_is (x ∷ []) h = record {
    list = λ N tree.
        let ks = path (numbered N) (entries_of N l) i in
        let (ends, memory) = is.writes N tree in
        let none : drop (from + length ks) before ≡ [] = rw ends (drop-length before) in
        let whole : after ≡ take from before ++ ks = memory ∙ rw (none, append-nil) in
        let long : length after ≡ length before = rw whole (simp (length-append, length-take-le from before is.within) (omega arith)) in
        rw (set_at after x [] k n (long ∙ last), whole, append_assoc) (drop_at (take from before) (ks ++ k ∷ []) from (length-take-le from before is.within));
  }
