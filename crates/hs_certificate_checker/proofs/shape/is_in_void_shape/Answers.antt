use Rattle.std.proofs.Common.{◌∙◌, ap, ◌<◌, length, arith}
use Rattle.hs_weak.specs.Void.{VoidData}
use Rattle.hs_certificate_checker.proofs.ShapeLemmas.{shape_whole}
use Rattle.hs_certificate_checker.proofs.shape.is_in_void_shape.Goals as goal

pub returns : goal.returns
returns c =
    let p = c.args.problem.now in
    let v = c.args.pair.now in
    let rule = ap (λ (x : VoidData). x.rule) c.pair.view_is in
    let env = c.as_slice.ensures.value ∙ ap (λ (x : VoidData). x.env) c.pair.view_is in
    let within : v.rule < length p.sorted.scheme.rules = omega (arith, c.if-pair-rule_count.false, c.rule_count.ensures, rule) in
    shape_whole p v _ c.as_slice.result.now c.is_env_of.result rule env within c.is_env_of.ensures
