use Rattle.std.proofs.Common.{sym, length}
use Rattle.std.proofs.lemmas.Bool.{eqb-true, ltb-true}
use Rattle.hs_flow_checker.proofs.head_pairs.is_head_at.Goals as goal

pub returns-then-pair-rule : goal.returns-then-pair-rule
returns-then-pair-rule c = λ same.
    let pair = c.in-Some.pair.now in (
      pair,
      ((c.args.place, ltb-true c.args.place (length c.args.pairs.now) (sym c.in-Some.ensures.lookup.0), sym c.in-Some.ensures.lookup.1), (c.if-pair-rule.true, eqb-true pair.given c.args.given same)),
    )
