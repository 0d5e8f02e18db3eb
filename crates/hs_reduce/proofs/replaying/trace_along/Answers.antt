use Rattle.std.proofs.Common.{subst}
use Rattle.hs_reduce.specs.declared.answers.Replay.{Replay}
use Rattle.hs_reduce.specs.declared.answers.Replay.TheVariants.{Stuck}
use Rattle.hs_reduce.specs.Advances.{EndsTrail}
use Rattle.hs_reduce.proofs.TraceLemmas.{traced, no_trace}
use Rattle.hs_reduce.proofs.replaying.trace_along.Goals as goal

pub follow-requires-clause-empty : goal.follow-requires-clause-empty
follow-requires-clause-empty c = c.new-trail.ensures c.args.most

pub returns-in-Stuck : goal.returns-in-Stuck
returns-in-Stuck c =
    let s = c.args.sorted.now in let path = c.args.path.now in
    let stuck = c.in-Stuck in let all = c.in_ok-terminal.ensures.trail.0 in
    traced s path c.args.steps c.args.most stuck.terminal stuck.state stuck.at stuck.used all c.follow.new.trail c.in_ok-terminal.ensures.trail.1
    (subst (λ (r : Replay). EndsTrail s path all r) stuck.is c.in_ok-terminal.ensures.trail.2)
    ((c.in_ok-terminal.ensures.answer (Stuck stuck.terminal stuck.state stuck.at stuck.used)).0 stuck.is)

pub returns-in_default : goal.returns-in_default
returns-in_default c =
    no_trace c.args.sorted.now c.args.path.now c.args.steps c.args.most c.in_ok-terminal.field-0 c.in_ok-terminal.ensures.answer
    (λ a q at used e. c.in_default.not-Stuck a q at used e)
