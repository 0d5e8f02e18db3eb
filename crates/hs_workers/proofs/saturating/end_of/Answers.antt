use Rattle.std.proofs.Common.{sym, subst, ◌∙◌, IsSome}
use Rattle.hs_scheme.proofs.Lists.{Contains-at}
use Rattle.hs_core.specs.Core.{log_of, deduction_of}
use Rattle.hs_core.proofs.Moving.{least_answer, over_answer, mapped_some, mapped_none}
use Rattle.hs_workers.proofs.saturating.end_of.Goals as goal

pub returns-in-Some : goal.returns-in-Some
returns-in-Some c =
    let found = (c.found.ensures c.in-Some._place).0 c.in-Some.is in
    record { first = found.first; start = (found.start.entry, (found.start.is_start, Contains-at (log_of c.args.core.now) c.in-Some._place found.start.entry found.start.at)) }

pub returns-then-is_some : goal.returns-then-is_some
returns-then-is_some c = over_answer c.args.core.now c.know_core.ensures.legal (λ place found. c.in_default.not-Some place ((c.found.ensures place).1 found))
    (subst (λ k. IsSome k) (sym c.past.ensures.kept) (mapped_some (deduction_of c.args.core.now.ids) c.past.result (sym c.if-is_some.ensures)))

pub returns : goal.returns
returns c = least_answer c.args.core.now c.know_core.ensures.legal (λ place found. c.in_default.not-Some place ((c.found.ensures place).1 found)) c.requires
    (c.past.ensures.kept ∙ mapped_none (deduction_of c.args.core.now.ids) c.past.result (sym c.if-is_some.ensures))
