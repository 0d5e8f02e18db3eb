use Rattle.std.proofs.Common.{ℕ, Contains, subst}
use Rattle.std.proofs.lemmas.Result.{on_ok_weaker}
use Rattle.hs_weak.specs.Reads.{last_state}
use Rattle.hs_types.specs.Interned.{type_of_id}
use Rattle.hs_types.proofs.Numbers.{Grows-refl}
use Rattle.hs_heads.specs.Sources.{FlowSays}
use Rattle.hs_heads.proofs.Gaining.{gains_one}
use Rattle.hs_heads.proofs.RowLemmas.{flow_says, only_flow}
use Rattle.hs_heads.proofs.rows.add_row.Goals as goal

pub returns : goal.returns
returns c =
    let I = c.args.types.now in
    let R = c.args.reads.now in
    let point = c.args.point in
    let row = c.args.row.now in
    let read : Contains R (point, last_state (type_of_id I row.ty)) = subst (λ (q : ℕ). Contains R (point, q)) c.last_state.ensures (c.holds.ensures.0 c.if-not-holds.false) in
    on_ok_weaker c.add.result (λ added.
    gains_one I I c.args.found.now.keys c.add.new.found.keys row.ty (FlowSays I R point row) (Grows-refl I) added c.requires.1 (flow_says I R point row read) (only_flow I R point row)) c.add.ensures
