use Rattle.std.proofs.Common.{refl, ◌<◌, length, arith}
use Rattle.hs_types.specs.Interned.{env_of_id}
use Rattle.hs_numbered.specs.Certificates.{void_of}
use Rattle.hs_certificate_checker.proofs.ShapeLemmas.{shape_whole}
use Rattle.hs_certificate_checker.proofs.row_shape.is_void_row_in_shape.Goals as goal

pub returns : goal.returns
returns c =
    let p = c.args.problem.now in
    let I = c.args.interner.now in
    let row = c.args.row.now in
    let within : row.rule < length p.sorted.scheme.rules = omega (arith, c.if-row-rule_count.false, c.rule_count.ensures) in
    shape_whole p (void_of I row) row.rule (env_of_id I row.env) c.is_env_of_rule.result refl refl within c.is_env_of_rule.ensures
