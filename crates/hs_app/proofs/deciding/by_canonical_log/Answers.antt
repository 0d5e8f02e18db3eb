use Rattle.std.proofs.Common.{sym, ap}
use Rattle.hs_history.specs.Story.{Base}
use Rattle.hs_core.specs.Core.{log_of}
use Rattle.hs_app.proofs.DecidingLemmas.{least_within}
use Rattle.hs_app.proofs.ReportedTables.{reported_least}
use Rattle.hs_app.proofs.deciding.by_canonical_log.Goals as goal

pub rejected-decided-requires-clause-problem : goal.rejected-decided-requires-clause-problem
rejected-decided-requires-clause-problem c = sym (ap (λ (b : Base). b.problem) c.in_ok-ranked.ensures.base)

pub rejected-decided-requires-clause-few : goal.rejected-decided-requires-clause-few
rejected-decided-requires-clause-few c = least_within c.args.problem.now c.args.settings.entries (log_of c.in_ok-ranked.ranked) c.requires.few c.in_ok-ranked.ensures.canonical.least

pub rejected-decided-requires-clause-reported : goal.rejected-decided-requires-clause-reported
rejected-decided-requires-clause-reported c =
    let least = c.in_ok-ranked.ensures.canonical.least in
    reported_least c.args.settings.first c.args.problem.now (log_of c.in_ok-ranked.ranked) c.requires.all least (c.requires.start (log_of c.in_ok-ranked.ranked) least)

pub rejected-decided-requires-clause-canonical : goal.rejected-decided-requires-clause-canonical
rejected-decided-requires-clause-canonical c = λ all. c.in_ok-ranked.ensures.canonical

pub rejected-decided-requires-clause-start : goal.rejected-decided-requires-clause-start
rejected-decided-requires-clause-start c = c.requires.start (log_of c.in_ok-ranked.ranked) c.in_ok-ranked.ensures.canonical.least
