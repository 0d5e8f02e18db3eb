use Rattle.std.proofs.Common.{◌≡◌, ◌∙◌, ap, subst, List, Vec, Contains}
use Rattle.std.specs.declared.alloc.Global.{Global}
use Rattle.std.proofs.lemmas.Result.{IfOk-weaker}
use Rattle.hs_rules.specs.Conclusions.{DeducedData}
use Rattle.hs_rank.specs.Ordering.{picked, AreInOrder}
use Rattle.hs_rank.proofs.merging.merged.Goals as goal

pub returns-clause-only : goal.returns-clause-only
returns-clause-only c =
    let found = c.args.found.now.items in
    let places = c.in_ok-places.places.items in
    let order = subst (λ (fs : List DeducedData). AreInOrder c.args.replica.now.ids fs places) c.as_slice.ensures.value c.in_ok-places.ensures in
    IfOk-weaker c.take_all_out.result (λ (v : Vec DeducedData Global). v.items ≡ picked found c.as_slice-2.result.now) (λ (v : Vec DeducedData Global). (d : DeducedData) → Contains v.items d → Contains found d)
    (λ v is d h. order.only d (subst (λ (xs : List DeducedData). Contains xs d) (is ∙ ap (picked found) c.as_slice-2.ensures.value) h)) c.take_all_out.ensures
