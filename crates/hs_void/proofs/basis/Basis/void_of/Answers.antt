use Rattle.std.proofs.Common.{sym, ap, subst, List, Contains}
use Rattle.hs_numbered.specs.Certificates.{VoidRowData}
use Rattle.hs_void.specs.Voids.{BasisData}
use Rattle.hs_void.proofs.basis.Basis.void_of.Goals as goal

pub returns : goal.returns
returns c = λ v.
    let part = c.part_of.ensures v in
    let same = c.self.invariant.same v in
    let own = ap (λ (b : BasisData). b.void) c.self.view_is in
    let items = c.as_slice.ensures.value in (
      λ m. let r = part.0 m in (subst (λ (vs : List VoidRowData). Contains vs v) own (same.0 (subst (λ (vs : List VoidRowData). Contains vs v) items r.0)), r.1),
      λ h. part.1 (subst (λ (vs : List VoidRowData). Contains vs v) (sym items) (same.1 (subst (λ (vs : List VoidRowData). Contains vs v) (sym own) h.0)), h.1),
    )
