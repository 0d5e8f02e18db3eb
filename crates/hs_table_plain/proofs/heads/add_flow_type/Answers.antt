use Rattle.std.proofs.Common.{◌∙◌, ap, [], ◌∷◌, ◌++◌}
use Rattle.hs_table_plain.proofs.Loops.{flow_none, flow_one}
use Rattle.hs_table_plain.proofs.heads.add_flow_type.Goals as goal

pub returns-else-holds : goal.returns-else-holds
returns-else-holds c =
    let none = flow_none c.problem.inside.flow.pairs c.args.parameter.0 c.args.parameter.1 (record { point = c.entry.inside.point; env = c.entry.inside.env.items; ty = c.entry.inside.ty }) c.args.out.now.items c.holds.result c.holds.ensures c.if-holds.false in
    rw (← c.problem.view_is, ← c.entry.view_is) none

pub returns-in_ok-push : goal.returns-in_ok-push
returns-in_ok-push c =
    let one = flow_one c.problem.inside.flow.pairs c.args.parameter.0 c.args.parameter.1 (record { point = c.entry.inside.point; env = c.entry.inside.env.items; ty = c.entry.inside.ty }) c.holds.result c.holds.ensures c.if-holds.true in
    let more = c.in_ok-push.ensures.items ∙ ap (λ ts. c.args.out.now.items ++ ts) (ap (λ t. t ∷ []) c.in_ok-copy.ensures ∙ one) in
    rw (← c.problem.view_is, ← c.entry.view_is) more
