use Rattle.std.proofs.lemmas.Result.{on_ok_weaker}
use Rattle.hs_types.specs.Interned.{type_of_id, set_of_id}
use Rattle.hs_minimal.proofs.AskedLemmas.{adds_then, arrows_stay, state_asks, arrow_asks, on_both}
use Rattle.hs_minimal.proofs.asked.+add_before.Goals as goal

pub returns-in-State-clause-own : goal.returns-in-State-clause-own
returns-in-State-clause-own t c = state_asks c.args.types.now c.args.found.now.keys c.in-State.field-0 (type_of_id c.args.types.now c.args.ty) c.in-State.ensures

pub returns-in_ok-add_set-in-Arrow-clause-adds : goal.returns-in_ok-add_set-in-Arrow-clause-adds
returns-in_ok-add_set-in-Arrow-clause-adds t c =
    on_ok_weaker c.add_before.result (λ h. adds_then c.args.types.now c.args.found.now.keys c.add_set.new.found.keys c.add_before.new.found.keys c.in_ok-add_set-in-Arrow.ensures.adds h) c.add_before.ensures.adds

pub returns-in_ok-add_set-in-Arrow-clause-own : goal.returns-in_ok-add_set-in-Arrow-clause-own
returns-in_ok-add_set-in-Arrow-clause-own t c =
    let I = c.args.types.now in
    let mid = c.add_set.new.found.keys in
    let new = c.add_before.new.found.keys in
    let s = set_of_id I c.in-Arrow.set in
    on_both c.add_before.result (λ adds asked. arrow_asks I new s (type_of_id I c.in-Arrow.rest) (type_of_id I c.args.ty) c.in-Arrow.ensures.2 (arrows_stay I mid new adds s c.in_ok-add_set-in-Arrow.ensures.own) asked)
    c.add_before.ensures.adds c.add_before.ensures.own
