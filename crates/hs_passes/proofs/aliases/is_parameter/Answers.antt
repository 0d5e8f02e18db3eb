use Rattle.std.proofs.Common.{sym, ◌∙◌, ap}
use Rattle.hs_scheme.specs.Tree.{node, forest}
use Rattle.hs_passes.specs.Aliases.{is_parameter}
use Rattle.hs_passes.proofs.Parameters.{parameter_made}
use Rattle.hs_passes.proofs.aliases.is_parameter.Goals as goal

pub returns-then-parameter-number : goal.returns-then-parameter-number
returns-then-parameter-number c =
    let us = c.term.inside.args.items in
    c.is_empty.ensures
    ∙ (parameter_made c.args.number c.in-Var.parameter c.term.inside.args.len us c.term.inside.args.ok.0 c.if-parameter-number.true
    ∙ (ap (λ h. is_parameter c.args.number (node h (forest us))) (sym c.in-Var.is) ∙ ap (is_parameter c.args.number) c.term.view_is))
