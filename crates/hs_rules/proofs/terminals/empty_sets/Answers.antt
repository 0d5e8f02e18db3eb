use Rattle.std.proofs.Common.{◌≡◌, ◌∙◌, [], ap, map, replicate}
use Rattle.std.proofs.lemmas.Result.{IfOk-weaker}
use Rattle.hs_types.specs.Interned.{set_of_id}
use Rattle.hs_rules.proofs.TerminalLemmas.{map-replicate}
use Rattle.hs_rules.proofs.terminals.empty_sets.Goals as goal

pub returns-clause-are : goal.returns-clause-are
returns-clause-are c =
    let K = c.empty_set.new.replica.ids in
    IfOk-weaker c.repeated.result (λ sets. sets.items ≡ replicate c.args.count c.in_ok-empty.empty) (λ sets. map (set_of_id K) sets.items ≡ replicate c.args.count [])
    (λ sets h. ap (map (set_of_id K)) h ∙ map-replicate (set_of_id K) c.args.count c.in_ok-empty.empty [] c.in_ok-empty.ensures.is) c.repeated.ensures
