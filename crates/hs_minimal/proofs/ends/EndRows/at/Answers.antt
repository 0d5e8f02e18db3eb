use Rattle.std.proofs.Common.{sym, ◌∙◌, ap}
use Rattle.hs_minimal.proofs.EndLemmas.{items_of, ending_is}
use Rattle.hs_minimal.proofs.ends.EndRows.at.Goals as goal

pub returns-in-Some : goal.returns-in-Some
returns-in-Some c = c.as_slice.ensures.value ∙ (ap items_of c.in-Some.ensures.value ∙ sym (ending_is c.self.inside.rows.entries c.args.self.now c.self.view_is c.args.point c.args.state))

pub returns-in-None : goal.returns-in-None
returns-in-None c = ap items_of c.in-None.ensures.value ∙ sym (ending_is c.self.inside.rows.entries c.args.self.now c.self.view_is c.args.point c.args.state)
