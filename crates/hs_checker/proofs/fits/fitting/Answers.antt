use Rattle.std.proofs.Common.{sym, subst, ℕ, ◌<◌, List, length, take, Contains, ◌↔◌}
use Rattle.std.proofs.lemmas.List.{take_all}
use Rattle.hs_table.specs.Types.{TypeTree}
use Rattle.hs_types.specs.Interned.{type_of_id}
use Rattle.hs_checker.specs.Slots.{FitsSets}
use Rattle.hs_checker.specs.Numbers.{entries_of, trees_of}
use Rattle.hs_checker.proofs.InstanceLemmas.{fitting_added}
use Rattle.hs_checker.proofs.NumberLemmas.{mapped_next}
use Rattle.hs_checker.proofs.fits.fitting.Goals as goal

pub add_fitting-requires-clause-ty : goal.add_fitting-requires-clause-ty
add_fitting-requires-clause-ty c = subst (λ n. n < length c.args.types.now.types) (sym c.ty-item.is) (c.requires.all c.loop-ty.ty-index c.ty-item.result c.loop-ty-test.true)

pub loop-ty-preserved : goal.loop-ty-preserved
loop-ty-preserved c =
    let I = c.args.types.now in
    let E = entries_of I c.args.index.now in
    let us = c.args.args.now in
    let all = c.args.all.now in
    let k = c.loop-ty.ty-index in
    let ty = c.ty-item.result in
    let news = c.add_fitting.new.found.items in
    let olds = trees_of I (take k all) in
    record {
      range = c.in_ok-add_fitting.ensures.range;
      each = λ t. subst (λ (ts : List TypeTree). Contains (trees_of I news) t ↔ (Contains ts t × FitsSets E us t)) (sym (mapped_next (type_of_id I) all k ty c.loop-ty-test.true c.ty-item.is))
          (fitting_added E us olds (trees_of I c.loop-ty.found.items) (trees_of I news) (type_of_id I ty) c.in_ok-add_fitting.ensures.exact c.loop-ty.invariant.each t);
    }

pub returns-clause-each : goal.returns-clause-each
returns-clause-each c = λ t.
    let I = c.args.types.now in
    subst (λ (ts : List ℕ). Contains (trees_of I c.loop-ty.found.items) t ↔ (Contains (trees_of I ts) t × FitsSets (entries_of I c.args.index.now) c.args.args.now t))
    (take_all c.loop-ty.ty-index c.args.all.now c.loop-ty-test.false) (c.loop-ty.invariant.each t)
