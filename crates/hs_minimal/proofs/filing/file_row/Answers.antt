use Rattle.std.proofs.Common.{refl}
use Rattle.std.proofs.lemmas.Result.{on_ok_weaker}
use Rattle.hs_minimal.proofs.FilingLemmas.{row_filed, still_filed, only_filed, by_end}
use Rattle.hs_minimal.proofs.filing.file_row.Goals as goal

pub returns-clause-own : goal.returns-clause-own
returns-clause-own c =
    on_ok_weaker c.push.result (λ pushes. row_filed c.args.types.now c.args.row c.filing_state-state.result c.filing_state-state.ensures c.args.filed.now.items c.requires.point _ c.index_mut-rows.result.now c.push.new.self c.index_mut-rows.ensures.value refl
    (by_end c.args.types.now c.args.row c.filing_state-state.result c.index_mut-rows.result.now c.push.new.self c.last_state-end.result c.last_state-end.ensures pushes)) c.push.ensures

pub returns-clause-keeps : goal.returns-clause-keeps
returns-clause-keeps c =
    on_ok_weaker c.push.result (λ pushes. still_filed c.args.types.now c.args.row c.filing_state-state.result c.filing_state-state.ensures c.args.filed.now.items c.requires.point _ c.index_mut-rows.result.now c.push.new.self c.index_mut-rows.ensures.value refl
    (by_end c.args.types.now c.args.row c.filing_state-state.result c.index_mut-rows.result.now c.push.new.self c.last_state-end.result c.last_state-end.ensures pushes)) c.push.ensures

pub returns-clause-only : goal.returns-clause-only
returns-clause-only c =
    on_ok_weaker c.push.result (λ pushes. only_filed c.args.types.now c.args.row c.filing_state-state.result c.filing_state-state.ensures c.args.filed.now.items c.requires.point _ c.index_mut-rows.result.now c.push.new.self c.index_mut-rows.ensures.value refl
    (by_end c.args.types.now c.args.row c.filing_state-state.result c.index_mut-rows.result.now c.push.new.self c.last_state-end.result c.last_state-end.ensures pushes)) c.push.ensures
