use Rattle.std.proofs.Common.{refl, subst, length, inl, inr}
use Rattle.hs_sorts.specs.declared.store.Shape.{Shape}
use Rattle.hs_sorts.specs.declared.store.Node.TheVariants.{Root}
use Rattle.hs_sorts.specs.Measures.{ChildrenBelow}
use Rattle.hs_sorts.proofs.measures.step_at_root.Goals as goal

pub step_at_arrow-requires-clause-argument : goal.step_at_arrow-requires-clause-argument
step_at_arrow-requires-clause-argument c =
    subst (λ (s : Shape). ChildrenBelow (length c.args.marks.now) (Root s)) c.in-Arrow.is c.requires c.in-Arrow.argument (inl refl)

pub step_at_arrow-requires-clause-rest : goal.step_at_arrow-requires-clause-rest
step_at_arrow-requires-clause-rest c =
    subst (λ (s : Shape). ChildrenBelow (length c.args.marks.now) (Root s)) c.in-Arrow.is c.requires c.in-Arrow.rest (inr refl)
