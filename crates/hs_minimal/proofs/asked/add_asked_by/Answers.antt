use Rattle.std.proofs.Common.{List}
use Rattle.std.proofs.lemmas.Result.{on_ok_weaker}
use Rattle.hs_table.specs.Types.{TypeTree}
use Rattle.hs_types.specs.Interned.{type_of_id, set_of_id, env_of_id}
use Rattle.hs_strength.proofs.Rows.{each_mapped}
use Rattle.hs_minimal.specs.Strongest.{HasArrows}
use Rattle.hs_minimal.proofs.AskedLemmas.{adds_then, arrows_stay, arrows_ask, on_both}
use Rattle.hs_minimal.proofs.asked.add_asked_by.Goals as goal

pub returns-clause-adds : goal.returns-clause-adds
returns-clause-adds c = on_ok_weaker c.add_before.result (λ h. adds_then c.args.types.now c.args.found.now.keys c.add_sets.new.found.keys c.add_before.new.found.keys c.in_ok-add_sets.ensures.adds h) c.add_before.ensures.adds

pub returns-clause-own : goal.returns-clause-own
returns-clause-own c =
    let I = c.args.types.now in
    let mid = c.add_sets.new.found.keys in
    let new = c.add_before.new.found.keys in
    let env = env_of_id I c.args.row.now.env in
    on_both c.add_before.result
    (λ adds asked. arrows_ask I new env (type_of_id I c.args.row.now.ty)
    (each_mapped (set_of_id I) (λ (s : List TypeTree). HasArrows I new s) c.sets.result.now env c.sets.ensures.sets (λ n m. arrows_stay I mid new adds (set_of_id I n) (c.in_ok-add_sets.ensures.own n m))) asked)
    c.add_before.ensures.adds c.add_before.ensures.own
