use Rattle.std.proofs.Common.{sym, ap, subst, ◌∙◌, ◌∷◌, ◌++◌, [], append_assoc, Contains}
use Rattle.hs_types.specs.Interned.{entry_of}
use Rattle.hs_rules.specs.Conclusions.{DeducedData}
use Rattle.hs_workers.specs.Forming.{KeepsNew}
use Rattle.hs_workers.proofs.FormingLemmas.{keeps_new, keeps_known}
use Rattle.hs_workers.proofs.forming.keep_new.Goals as goal

pub loop-deduced-preserved-in-Continue-1 : goal.loop-deduced-preserved-in-Continue-1
loop-deduced-preserved-in-Continue-1 c =
    let ids = c.args.replica.now.ids in
    let log = c.args.replica.now.log in
    let ys = c.loop-deduced.yielded in
    let d = c.in-Some.deduced in
    record {
      keeps = subst (λ xs. KeepsNew ids log (ys ++ d ∷ []) c.args.found.now.items xs) (sym c.in_ok-push.ensures.items) (keeps_new ids log ys c.args.found.now.items c.loop-deduced.found.items c.loop-deduced.invariant.keeps d);
      whole = append_assoc ys (d ∷ []) _ ∙ sym (ap (λ xs. ys ++ xs) c.in-Some.ensures.steps.0) ∙ c.loop-deduced.invariant.whole;
    }

pub loop-deduced-preserved : goal.loop-deduced-preserved
loop-deduced-preserved c =
    let ids = c.args.replica.now.ids in
    let log = c.args.replica.now.log in
    let ys = c.loop-deduced.yielded in
    let d = c.in-Some.deduced in
    record {
      keeps = keeps_known ids log ys c.args.found.now.items c.loop-deduced.found.items c.loop-deduced.invariant.keeps d
          (subst (λ (x : DeducedData). Contains log (entry_of ids x.row)) c.deduced.view_is (c.knows.ensures c.if-not-knows.false));
      whole = append_assoc ys (d ∷ []) _ ∙ sym (ap (λ xs. ys ++ xs) c.in-Some.ensures.steps.0) ∙ c.loop-deduced.invariant.whole;
    }
