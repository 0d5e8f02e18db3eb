use Rattle.std.proofs.Common.{Result, Ok, Err}
use Rattle.std.specs.Prelude.{OnOk}
use Rattle.std.proofs.lemmas.Result.{on_ok_weaker}
use Rattle.hs_flow.specs.Bases.{HasBase}
use Rattle.hs_flow.specs.Passing.{PassedFor}
use Rattle.hs_flow.specs.Pairs.{PairsData}
use Rattle.hs_flow.proofs.PairLemmas.{with_bases, finds_extends, extends_then}
use Rattle.hs_flow.proofs.NotingLemmas.{was_there, wasnt_there, bases_stay, noted_are, noted_extends, noted_has, noted_known, noted_addable, noted_ready, noted_still}
use Rattle.hs_flow.proofs.pairs.Pairs.pass_once.Goals as goal

both_ok : {P Q R : Type 0} {A E : Type 0} (r : Result A E) → (P → Q → R) → OnOk r P → OnOk r Q → OnOk r R
both_ok (Ok a) f p q = f p q
both_ok (Err e) f p q = tt

pub returns-in_err-insert-clause-extends : goal.returns-in_err-insert-clause-extends
returns-in_err-insert-clause-extends c =
    let a : PairsData = record { rules = c.self.inside.rules.now; max = c.self.inside.max; found = c.self.inside.found.items; bases = c.self.inside.bases } in
    bases_stay a c.args.self.now c.insert.new.self c.self.view_is c.in_err-insert.ensures.same

pub invariant_of-self-then-not-branch : goal.invariant_of-self-then-not-branch
invariant_of-self-then-not-branch c =
    let a : PairsData = record { rules = c.self.inside.rules.now; max = c.self.inside.max; found = c.self.inside.found.items; bases = c.self.inside.bases } in
    noted_are c.self.inside.points.now c.self.inside.users.now a c.args.self.now c.self.view_is c.self.invariant c.params.result.now c.params.ensures.params c.args.base c.insert.new.self c.in_ok-insert.ensures.bases

pub returns-then-not-branch-clause-extends : goal.returns-then-not-branch-clause-extends
returns-then-not-branch-clause-extends c =
    let a : PairsData = record { rules = c.self.inside.rules.now; max = c.self.inside.max; found = c.self.inside.found.items; bases = c.self.inside.bases } in
    noted_extends c.self.inside.points.now c.self.inside.users.now a c.args.self.now c.self.view_is c.self.invariant c.params.result.now c.params.ensures.params c.args.base c.insert.new.self c.in_ok-insert.ensures.bases

pub returns-then-not-branch-clause-ready : goal.returns-then-not-branch-clause-ready
returns-then-not-branch-clause-ready c =
    let a : PairsData = record { rules = c.self.inside.rules.now; max = c.self.inside.max; found = c.self.inside.found.items; bases = c.self.inside.bases } in
    noted_known c.self.inside.points.now c.self.inside.users.now a c.args.self.now c.self.view_is c.self.invariant c.params.result.now c.params.ensures.params c.args.base c.insert.new.self c.in_ok-insert.ensures.bases c.requires.ready
    (was_there (HasBase c.params.result.now c.self.inside.bases c.args.base) c.in_ok-insert.field-0 c.if-not-branch.true c.in_ok-insert.ensures.new)

pub returns-then-not-branch-clause-base : goal.returns-then-not-branch-clause-base
returns-then-not-branch-clause-base c =
    let a : PairsData = record { rules = c.self.inside.rules.now; max = c.self.inside.max; found = c.self.inside.found.items; bases = c.self.inside.bases } in
    noted_has c.self.inside.points.now c.self.inside.users.now a c.args.self.now c.self.view_is c.self.invariant c.params.result.now c.params.ensures.params c.args.base c.insert.new.self c.in_ok-insert.ensures.bases

pub invariant_of-self-2 : goal.invariant_of-self-2
invariant_of-self-2 c =
    let a : PairsData = record { rules = c.self.inside.rules.now; max = c.self.inside.max; found = c.self.inside.found.items; bases = c.self.inside.bases } in
    noted_are c.self.inside.points.now c.self.inside.users.now a c.args.self.now c.self.view_is c.self.invariant c.params.result.now c.params.ensures.params c.args.base c.insert.new.self c.in_ok-insert.ensures.bases

pub pass_all-requires-clause-addable : goal.pass_all-requires-clause-addable
pass_all-requires-clause-addable c =
    let a : PairsData = record { rules = c.self.inside.rules.now; max = c.self.inside.max; found = c.self.inside.found.items; bases = c.self.inside.bases } in
    noted_addable c.self.inside.points.now c.self.inside.users.now a c.args.self.now c.self.view_is c.self.invariant c.params.result.now c.params.ensures.params c.args.base c.insert.new.self c.in_ok-insert.ensures.bases c.requires.may
    (wasnt_there (HasBase c.params.result.now c.self.inside.bases c.args.base) c.in_ok-insert.field-0 c.if-not-branch.false c.in_ok-insert.ensures.new)

pub returns-clause-extends : goal.returns-clause-extends
returns-clause-extends c =
    let a : PairsData = record { rules = c.self.inside.rules.now; max = c.self.inside.max; found = c.self.inside.found.items; bases = c.self.inside.bases } in
    extends_then c.args.self.now (with_bases a c.insert.new.self) c.pass_all.new.self
    (noted_extends c.self.inside.points.now c.self.inside.users.now a c.args.self.now c.self.view_is c.self.invariant c.params.result.now c.params.ensures.params c.args.base c.insert.new.self c.in_ok-insert.ensures.bases)
    (finds_extends (PassedFor a.rules c.args.base) (with_bases a c.insert.new.self) c.pass_all.new.self c.pass_all.ensures.finds)

pub returns-clause-ready : goal.returns-clause-ready
returns-clause-ready c =
    let a : PairsData = record { rules = c.self.inside.rules.now; max = c.self.inside.max; found = c.self.inside.found.items; bases = c.self.inside.bases } in
    both_ok c.pass_all.result
    (noted_ready c.self.inside.points.now c.self.inside.users.now a c.args.self.now c.self.view_is c.self.invariant c.params.result.now c.params.ensures.params c.args.base c.insert.new.self c.in_ok-insert.ensures.bases c.pass_all.new.self c.pass_all.ensures.finds
    c.requires.ready) c.pass_all.ensures.limit.within c.pass_all.ensures.all

pub returns-clause-base : goal.returns-clause-base
returns-clause-base c =
    let a : PairsData = record { rules = c.self.inside.rules.now; max = c.self.inside.max; found = c.self.inside.found.items; bases = c.self.inside.bases } in
    on_ok_weaker c.pass_all.result
    (λ all. noted_still c.self.inside.points.now c.self.inside.users.now a c.args.self.now c.self.view_is c.self.invariant c.params.result.now c.params.ensures.params c.args.base c.insert.new.self c.in_ok-insert.ensures.bases c.pass_all.new.self
    c.pass_all.ensures.finds) c.pass_all.ensures.all
