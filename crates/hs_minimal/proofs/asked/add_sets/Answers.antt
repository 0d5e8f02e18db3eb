use Rattle.std.proofs.Common.{◌<◌, length}
use Rattle.hs_scheme.proofs.Lists.{none_in}
use Rattle.hs_types.specs.Interned.{set_of_id}
use Rattle.hs_strength.proofs.Rows.{each_more, each_all}
use Rattle.hs_minimal.specs.Strongest.{HasArrows}
use Rattle.hs_minimal.proofs.CoverLemmas.{at_index}
use Rattle.hs_minimal.proofs.AskedLemmas.{adds_none, adds_then, arrows_stay}
use Rattle.hs_minimal.proofs.asked.add_sets.Goals as goal

pub loop-set-init : goal.loop-set-init
loop-set-init c = record { adds = adds_none c.args.types.now c.args.found.now.keys; own = λ s m. absurd (none_in s m); seen = c.requires.seen }

pub add_set-requires-clause-set : goal.add_set-requires-clause-set
add_set-requires-clause-set c = at_index (λ s. s < length c.args.types.now.sets) c.args.sets.now c.loop-set.set-index c.set-item.result c.requires.sets c.loop-set-test.true c.set-item.is

pub loop-set-preserved : goal.loop-set-preserved
loop-set-preserved c =
    let I = c.args.types.now in
    let old = c.loop-set.found.keys in
    let new = c.add_set.new.found.keys in
    let adds = c.in_ok-add_set.ensures.adds in
    record {
      adds = adds_then I c.args.found.now.keys old new c.loop-set.invariant.adds adds;
      own = each_more (λ s. HasArrows I new (set_of_id I s)) c.args.sets.now c.loop-set.set-index c.set-item.result c.loop-set-test.true c.set-item.is (λ s m. arrows_stay I old new adds (set_of_id I s) (c.loop-set.invariant.own s m)) c.in_ok-add_set.ensures.own;
      seen = c.in_ok-add_set.ensures.seen;
    }

pub returns-clause-own : goal.returns-clause-own
returns-clause-own c = each_all (λ s. HasArrows c.args.types.now c.loop-set.found.keys (set_of_id c.args.types.now s)) c.args.sets.now c.loop-set.set-index c.loop-set-test.false c.loop-set.invariant.own
