use Rattle.std.proofs.Common.{◌≡◌, ◌<◌, ◌∷◌, [], ◌∙◌, ap, length}
use Rattle.std.proofs.lemmas.Option.{get_or_from_slice_get}
use Rattle.std.proofs.lemmas.Result.{IfOk-weaker}
use Rattle.hs_table.specs.Types.{state}
use Rattle.hs_types.specs.Interned.{type_of_id, set_of_id, IsSetOf}
use Rattle.hs_rules.proofs.TerminalLemmas.{set_one}
use Rattle.hs_rules.proofs.terminals.state_set.Goals as goal

pub returns-clause-is : goal.returns-clause-is
returns-clause-is c =
    let J = c.base.new.self.ids in
    let K = c.set.new.self.ids in
    let t = c.in_ok-state.state in
    IfOk-weaker c.set.result (λ id. (id < length K.sets) × IsSetOf (type_of_id J t ∷ []) (set_of_id K id)) (λ id. set_of_id K id ≡ state c.args.q ∷ [])
    (λ id h. set_one (type_of_id J t) (set_of_id K id) h.1 ∙ ap (λ x. x ∷ []) (get_or_from_slice_get J.types t (state c.args.q) (state 0) c.in_ok-state.ensures.ok)) c.set.ensures.ok
