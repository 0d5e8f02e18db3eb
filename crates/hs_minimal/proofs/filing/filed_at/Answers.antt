use Rattle.std.proofs.Common.{sym, ◌∙◌, ap}
use Rattle.hs_minimal.specs.Ends.{EndData, rows_ending}
use Rattle.hs_minimal.proofs.FilingLemmas.{got_list, got_no_list}
use Rattle.hs_minimal.proofs.filing.filed_at.Goals as goal

pub returns-in-Some : goal.returns-in-Some
returns-in-Some c = c.at.ensures ∙ ap (λ (z : EndData). rows_ending z c.args.end c.args.state) (sym (got_list c.args.filed.now c.args.point c.in-Some.rows.now c.in-Some.ensures.lookup.0 c.in-Some.ensures.lookup.1))

pub returns-in-None : goal.returns-in-None
returns-in-None c = sym (ap (λ (z : EndData). rows_ending z c.args.end c.args.state) (got_no_list c.args.filed.now c.args.point c.in-None.ensures.lookup.0))
