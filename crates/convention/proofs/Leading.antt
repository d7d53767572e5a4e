-- Lists that lead somewhere: along known kinds, to one node.
use Prim.Native.Nat.{ℕ, ◌<◌}
use mathlib.Core.Path.{◌≡◌, refl}
use mathlib.Core.Bool.{true}
use mathlib.Core.List.{List, [], ◌∷◌, ◌++◌}
use Rattle.convention.specs.Explored.{Automaton, Leads}
use Rattle.convention.specs.Lists.{KindsBelow}

module _ (X : Automaton) where
  -- One more kind, which leads on from where a list leads.
  pub leads_snoc : (s : X.Node) (ks : List ℕ) (t : X.Node) (k : ℕ) → Leads X s ks t → k < X.kinds → X.goes t k ≡ true
      → Leads X s (ks ++ k ∷ []) (X.next t k)
  unfolding Leads
  leads_snoc s [] t k e b w = rw e (b, w, refl)
  leads_snoc s (j ∷ ks) t k h b w = (h.0, h.1, leads_snoc (X.next s j) ks t k h.2 b w)

  -- A list leads to one node at most.
  pub leads_unique : (s : X.Node) (ks : List ℕ) (t u : X.Node) → Leads X s ks t → Leads X s ks u → t ≡ u
  unfolding Leads
  leads_unique s [] t u h g = cc
  leads_unique s (k ∷ ks) t u h g = leads_unique (X.next s k) ks t u h.2 g.2

  -- A list that leads somewhere is one of known kinds.
  pub leads_below : (s : X.Node) (ks : List ℕ) (t : X.Node) → Leads X s ks t → KindsBelow X.kinds ks
  unfolding Leads KindsBelow
  leads_below s [] t l = tt
  leads_below s (k ∷ ks) t l = (l.0, leads_below (X.next s k) ks t l.2)
