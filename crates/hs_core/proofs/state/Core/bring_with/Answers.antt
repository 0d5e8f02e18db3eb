use Rattle.std.proofs.Common.{ap, ◌∙◌, arith}
use Rattle.std.proofs.lemmas.List.Elements.{same_from_all_zip}
use Rattle.hs_rules.specs.Conclusions.{DeducedData}
use Rattle.hs_core.specs.Core.{deduction_of}
use Rattle.hs_core.proofs.Stepping.{base_of, fields_of, brought_inside, brought_value}
use Rattle.hs_core.proofs.state.Core.bring_with.Goals as goal

pub returns-clause-same : goal.returns-clause-same
returns-clause-same c =
    let args = same_from_all_zip _ c.deduced.inside.args.items c.in_ok-args.args.items c.in_ok-args.ensures.cases.0 (λ x y same. λ i. (same.0 i, same.1 i)) in
    (λ i. record { entry = c.in_ok-row.ensures.entry i; support = record { head = c.deduced.inside.head; args = args i } }) ∙ ap (λ (d : DeducedData). deduction_of c.args.from.now d) c.deduced.view_is

pub returns-clause-kept : goal.returns-clause-kept
returns-clause-kept c =
    let kept = c.in_ok-row.ensures.kept in
    brought_value (base_of c.self.inside) (fields_of c.self.inside) c.self.invariant.0 c.self.inside.spare c.args.self.now c.self.view_is c.import_with.new.self.ids c.import_with.new.self.log kept.log kept.grows

pub returns-in_err-row-clause-kept : goal.returns-in_err-row-clause-kept
returns-in_err-row-clause-kept c =
    let kept = c.in_err-row.ensures.kept in
    brought_value (base_of c.self.inside) (fields_of c.self.inside) c.self.invariant.0 c.self.inside.spare c.args.self.now c.self.view_is c.import_with.new.self.ids c.import_with.new.self.log kept.log kept.grows

pub returns-in_err-args-clause-kept : goal.returns-in_err-args-clause-kept
returns-in_err-args-clause-kept c =
    let kept = c.in_ok-row.ensures.kept in
    brought_value (base_of c.self.inside) (fields_of c.self.inside) c.self.invariant.0 c.self.inside.spare c.args.self.now c.self.view_is c.import_with.new.self.ids c.import_with.new.self.log kept.log kept.grows

pub invariant_of-self : goal.invariant_of-self
invariant_of-self c =
    let kept = c.in_err-row.ensures.kept in (
      brought_inside (base_of c.self.inside) (fields_of c.self.inside) c.self.invariant.0 c.import_with.new.self.ids c.import_with.new.self.log kept.log kept.grows,
      record { replica = omega (arith, kept.spare); tickets = omega arith; supports = omega arith; pending = omega arith; journal = omega arith },
    )

pub invariant_of-self-in_err-args : goal.invariant_of-self-in_err-args
invariant_of-self-in_err-args c =
    let kept = c.in_ok-row.ensures.kept in (
      brought_inside (base_of c.self.inside) (fields_of c.self.inside) c.self.invariant.0 c.import_with.new.self.ids c.import_with.new.self.log kept.log kept.grows,
      record { replica = omega (arith, kept.spare); tickets = omega arith; supports = omega arith; pending = omega arith; journal = omega arith },
    )

pub invariant_of-self-2 : goal.invariant_of-self-2
invariant_of-self-2 c =
    let kept = c.in_ok-row.ensures.kept in (
      brought_inside (base_of c.self.inside) (fields_of c.self.inside) c.self.invariant.0 c.import_with.new.self.ids c.import_with.new.self.log kept.log kept.grows,
      record { replica = omega (arith, kept.spare); tickets = omega arith; supports = omega arith; pending = omega arith; journal = omega arith },
    )
