use Rattle.std.proofs.Common.{sym, subst, ℕ, List, Contains, inl, inr}
use Rattle.hs_scheme.specs.declared.flow.HeadPair.{HeadPair}
use Rattle.hs_flow_checker.specs.Starts.{IsEmptyAt}
use Rattle.hs_flow_checker.proofs.StartLemmas.{none_at}
use Rattle.hs_flow_checker.proofs.head_pairs.HeadPairs.from_first_headed.Goals as goal

pub returns-clause-rest : goal.returns-clause-rest
returns-clause-rest c = λ f h there own is. elim (c.from_first_with.ensures.rest f there) [
  | inl left ↦ left
  | inr empty ↦ absurd (none_at (λ (x : HeadPair). x.point) c.self.inside.pairs.now c.self.inside.starts.items f.point c.self.invariant.starts (subst (λ (ns : List ℕ). IsEmptyAt ns f.point) c.as_slice.ensures.value empty) h
      (subst (λ (hs : List HeadPair). Contains hs h) (sym c.self.view_is) own) is)
]
