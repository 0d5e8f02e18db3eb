use Rattle.std.proofs.Common.{◌≡◌, ◌<◌, [], length}
use Rattle.std.proofs.lemmas.Result.{IfOk-weaker}
use Rattle.hs_types.specs.Interned.{set_of_id, IsSetOf}
use Rattle.hs_rules.proofs.TerminalLemmas.{set_none}
use Rattle.hs_rules.proofs.terminals.empty_set.Goals as goal

pub returns-clause-is : goal.returns-clause-is
returns-clause-is c =
    IfOk-weaker c.set.result (λ id. (id < length c.set.new.self.ids.sets) × IsSetOf [] (set_of_id c.set.new.self.ids id)) (λ id. set_of_id c.set.new.self.ids id ≡ [])
    (λ id h. set_none (set_of_id c.set.new.self.ids id) h.1) c.set.ensures.ok
