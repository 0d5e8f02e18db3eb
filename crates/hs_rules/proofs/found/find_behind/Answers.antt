use Rattle.std.proofs.Common.{sym}
use Rattle.hs_replica.proofs.KeptLemmas.{found_at, found_nowhere}
use Rattle.hs_rules.proofs.FoundLemmas.{behind_at}
use Rattle.hs_rules.proofs.found.find_behind.Goals as goal

pub returns-in-Some : goal.returns-in-Some
returns-in-Some c =
    let rows = c.args.found.now.rows.keys in
    behind_at rows c.args.found.now.list.items c.in-Some.place c.args.row.now c.requires (found_at c.args.row.now rows c.in-Some.place (sym c.in-Some.ensures.index))

pub returns-in-None : goal.returns-in-None
returns-in-None c = found_nowhere c.args.row.now c.args.found.now.rows.keys c.in-None.ensures.found
