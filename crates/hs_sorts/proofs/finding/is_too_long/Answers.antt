use Rattle.std.proofs.Common.{◌∙◌, ◌+◌, ap, min}
use Rattle.hs_sorts.proofs.Lengthenings.{tells_by_arguments}
use Rattle.hs_sorts.proofs.finding.is_too_long.Goals as goal

pub returns-else-parameters-gt-MAX_PARAMETERS : goal.returns-else-parameters-gt-MAX_PARAMETERS
returns-else-parameters-gt-MAX_PARAMETERS c =
    tells_by_arguments c.args.rule.now c.args.arity c.saturating_sub-missing.result c.saturating_add-arguments.result c.saturating_sub-missing.ensures c.if-missing-gt0.true c.if-parameters-gt-MAX_PARAMETERS.false
    (c.saturating_add-arguments.ensures ∙ ap (λ n. min (n + c.saturating_sub-missing.result) 18446744073709551615) c.head_arguments.ensures)
