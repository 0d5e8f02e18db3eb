use Rattle.std.proofs.Common.{sym, subst, ℕ, List, map, Contains, Bor, inl, inr}
use Rattle.hs_types.specs.Interned.{RowData}
use Rattle.hs_flow_checker.specs.Starts.{IsEmptyAt}
use Rattle.hs_flow_checker.proofs.StartLemmas.{none_at}
use Rattle.hs_checker.proofs.index.RowIndex.from_first_row.Goals as goal

pub returns-clause-rest : goal.returns-clause-rest
returns-clause-rest c = λ f e there own is. elim (c.from_first_with.ensures.rest f there) [
  | inl left ↦ left
  | inr empty ↦ absurd (none_at (λ (x : RowData). x.point) (map (λ (r : Bor RowData). r.now) c.self.inside.rows.items) c.self.inside.starts.items f.point c.self.invariant.starts (subst (λ (ns : List ℕ). IsEmptyAt ns f.point) c.as_slice.ensures.value empty) e
      (subst (λ (es : List RowData). Contains es e) (sym c.self.view_is) own) is)
]
