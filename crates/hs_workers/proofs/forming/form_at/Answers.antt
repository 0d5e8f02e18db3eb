use Rattle.std.proofs.Common.{◌≡◌, sym, subst, ◌∙◌, ◌+◌, ◌<◌, ◌≤◌, length, take, get_or, arith, All}
use Rattle.hs_types.proofs.Numbers.{Grows-trans}
use Rattle.hs_table.specs.Entries.{InShape}
use Rattle.hs_rules.specs.Conclusions.{AreConclusions, Uses}
use Rattle.hs_workers.proofs.FormingLemmas.{AreAllBefore, point_more, whole_so_far}
use Rattle.hs_workers.proofs.forming.form_at.Goals as goal

pub loop-point-preserved : goal.loop-point-preserved
loop-point-preserved c =
    let p = c.args.problem.now in
    let place = c.args.place in
    let points = c.args.points.now in
    let n = c.loop-point.point-index in
    let I = c.loop-point.replica.ids in
    let J = c.conclusions_within.new.replica.ids in
    let new = c.conclusions_within.new.replica.log in
    let same : new ≡ c.loop-point.replica.log = c.in_ok-formed.ensures.log in
    let formed = c.in_ok-formed.formed.items in
    let old = c.loop-point.found.items in
    let few : length formed ≤ c.args.most = omega (arith, c.if-len-most.false, c.len.ensures, c.len-in-loop-point.ensures) in
    record {
      log = same ∙ c.loop-point.invariant.log;
      grows = Grows-trans c.args.replica.now.ids I J c.loop-point.invariant.grows c.in_ok-formed.ensures.grows;
      so_far = point_more p I J new points n place formed old c.keep_new.new.found.items c.in_ok-formed.ensures.grows
          (subst (λ xs. place < length xs) (sym (same ∙ c.loop-point.invariant.log)) c.requires.place)
          (subst (λ xs. AreConclusions p J (take (place + 1) xs) (get_or points n 0) (Uses place) formed) (sym same) (c.in_ok-formed.ensures.all few))
          c.in_ok-keep_new.ensures
          (subst (λ xs. AreAllBefore p I xs points n place old) (sym same) c.loop-point.invariant.so_far);
    }

pub returns-clause-found : goal.returns-clause-found
returns-clause-found c =
    whole_so_far c.args.problem.now c.loop-point.replica.ids c.loop-point.replica.log c.args.points.now c.loop-point.point-index c.args.place c.loop-point.found.items c.loop-point-test.false c.loop-point.invariant.so_far

pub conclusions_within-requires-clause-place : goal.conclusions_within-requires-clause-place
conclusions_within-requires-clause-place c = subst (λ xs. c.args.place < length xs) (sym c.loop-point.invariant.log) c.requires.place

pub conclusions_within-requires-clause-shape : goal.conclusions_within-requires-clause-shape
conclusions_within-requires-clause-shape c = subst (λ xs. All (InShape c.args.problem.now) xs) (sym c.loop-point.invariant.log) c.requires.shape

pub returns-in_err-keep_new-clause-log : goal.returns-in_err-keep_new-clause-log
returns-in_err-keep_new-clause-log c = c.in_ok-formed.ensures.log ∙ c.loop-point.invariant.log

pub returns-in_err-keep_new-clause-grows : goal.returns-in_err-keep_new-clause-grows
returns-in_err-keep_new-clause-grows c =
    Grows-trans c.args.replica.now.ids c.loop-point.replica.ids c.conclusions_within.new.replica.ids c.loop-point.invariant.grows c.in_ok-formed.ensures.grows

pub returns-clause-log : goal.returns-clause-log
returns-clause-log c = c.loop-point.invariant.log

pub returns-clause-grows : goal.returns-clause-grows
returns-clause-grows c = c.loop-point.invariant.grows

pub returns-then-len-most-clause-log : goal.returns-then-len-most-clause-log
returns-then-len-most-clause-log c = c.in_ok-formed.ensures.log ∙ c.loop-point.invariant.log

pub returns-then-len-most-clause-grows : goal.returns-then-len-most-clause-grows
returns-then-len-most-clause-grows c = Grows-trans c.args.replica.now.ids c.loop-point.replica.ids c.conclusions_within.new.replica.ids c.loop-point.invariant.grows c.in_ok-formed.ensures.grows
