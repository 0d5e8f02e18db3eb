-- What parameters hand on to the points that may stand for them.
use Rattle.std.proofs.Common.{◌≡◌, sym, ◌∙◌, ap, subst, ℕ, ◌&&◌, nat_eq, Bool, List, [], filter, Contains, inl, inr}
use Rattle.std.proofs.lemmas.Bool.{eqb-true, and_parts}
use Rattle.hs_scheme.specs.declared.flow.FlowPair.{FlowPair}
use Rattle.hs_scheme.specs.sorting.Parameters.{IsParameter, parameter_of}
use Rattle.hs_scheme.specs.Problem.{ProblemData}
use Rattle.hs_scheme.proofs.Lists.{none_in, filter_has, filter_passes}
use Rattle.hs_scheme.proofs.ParameterLemmas.{number_once}
use Rattle.hs_weak.specs.Reads.{FlowsTo}
use Rattle.hs_reads.specs.ByPoint.{pairs_by_point, IsOneMore}
use Rattle.hs_reads.specs.Pairs.{AreHanded}
use Rattle.hs_reads.proofs.FoundLemmas.{more_only}

pub none_handed : (p : ProblemData) (rows : List (List ℕ)) (pairs : List (ℕ × ℕ)) → rows ≡ [] → AreHanded p (pairs_by_point rows) pairs
none_handed p rows pairs e rule x v q is m flows =
    absurd (none_in (parameter_of p.points.params rule x, q) (subst (λ (rs : List (List ℕ)). Contains (pairs_by_point rs) (parameter_of p.points.params rule x, q)) e m))

pub handed_stays : (p : ProblemData) (handed old new : List (ℕ × ℕ)) → ((x : ℕ × ℕ) → Contains old x → Contains new x) → AreHanded p handed old → AreHanded p handed new
handed_stays p handed old new kept are rule x v q is m flows = kept (v, q) (are rule x v q is m flows)

-- one parameter more, in one state
pub handed_more : (p : ProblemData) (rule x n q : ℕ) (was now old new : List (ℕ × ℕ)) → IsParameter p.points.params rule x → n ≡ parameter_of p.points.params rule x → IsOneMore (n, q) was now
    → ((y : ℕ × ℕ) → Contains old y → Contains new y) → AreHanded p was old → ((v : ℕ) → FlowsTo p rule x v → Contains new (v, q)) → AreHanded p now new
handed_more p rule x n q was now old new is number more kept are there other y v r is_other m flows = elim (more_only (n, q) was now more (parameter_of p.points.params other y, r) m) [
  | inl before ↦ kept (v, r) (are other y v r is_other before flows)
  | inr same ↦ let at : parameter_of p.points.params rule x ≡ parameter_of p.points.params other y = sym number ∙ sym (ap (λ (z : ℕ × ℕ). z.0) same) in
      let once = number_once p.points.params rule x other y is is_other at in
      let state : r ≡ q = ap (λ (z : ℕ × ℕ). z.1) same in
      subst (λ (s : ℕ). Contains new (v, s)) (sym state)
      (there v (subst (λ (k : ℕ). FlowsTo p k x v) (sym once.0) (subst (λ (k : ℕ). FlowsTo p other k v) (sym once.1) flows)))
]

-- the points of a parameter's row flow to it
pub row_flows : (p : ProblemData) (rule x q : ℕ) (row : List FlowPair) → row ≡ filter (λ (f : FlowPair). nat_eq f.rule rule && nat_eq f.param x) p.flow.pairs
    → (y : ℕ × ℕ) → (f : FlowPair) × (Contains row f × (y ≡ (f.point, q))) → FlowsTo p rule x y.0 × (y.1 ≡ q)
row_flows p rule x q row is y (f, h) =
    let m = subst (λ (fs : List FlowPair). Contains fs f) is h.0 in
    let test : FlowPair → Bool = λ g. nat_eq g.rule rule && nat_eq g.param x in
    let parts = and_parts (nat_eq f.rule rule) (nat_eq f.param x) (filter_passes test p.flow.pairs f m) in
    let flows : FlowsTo p rule x f.point =
    subst (λ n. FlowsTo p rule n f.point) (eqb-true f.param x parts.1) (subst (λ n. FlowsTo p n f.param f.point) (eqb-true f.rule rule parts.0) (filter_has test p.flow.pairs f m)) in
    (subst (λ n. FlowsTo p rule x n) (sym (ap (λ (z : ℕ × ℕ). z.0) h.1)) flows, ap (λ (z : ℕ × ℕ). z.1) h.1)
