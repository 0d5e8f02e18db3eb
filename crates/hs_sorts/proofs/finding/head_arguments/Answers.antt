use Rattle.std.proofs.Common.{◌≡◌, ◌∙◌, sym, ap, length, arith}
use Rattle.hs_scheme.specs.Tree.{children-forest}
use Rattle.hs_sorts.specs.Inference as inference
use Rattle.hs_sorts.proofs.finding.head_arguments.Goals as goal

pub returns : goal.returns
returns c =
    let long : c.len.result ≡ length c.term.inside.args.items = omega (arith, c.len.ensures) in
    long ∙ (ap length (sym (children-forest c.term.inside.args.items)) ∙ ap inference.head_arguments c.term.view_is)
