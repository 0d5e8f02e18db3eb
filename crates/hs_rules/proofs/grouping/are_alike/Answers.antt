use Rattle.std.proofs.Common.{◌≡◌, sym, ◌∙◌, ap}
use Rattle.std.proofs.lemmas.Bool.{OnTrue_from, not-false}
use Rattle.std.proofs.lemmas.Slice.Eq.{slice_eq-Decides}
use Rattle.hs_rules.specs.Found.{HeadData, IsAlike}
use Rattle.hs_rules.proofs.SetLemmas.{env_same, set_same}
use Rattle.hs_rules.proofs.grouping.are_alike.Goals as goal

pub returns : goal.returns
returns c =
    let head = c.args.head.now in
    let other = c.args.other.now in
    let sets_is : c.as_slice.result.now ≡ head.sets = c.as_slice.ensures ∙ ap (λ (x : HeadData). x.sets) c.head.view_is in
    let others_is : c.as_slice-2.result.now ≡ other.sets = c.as_slice-2.ensures ∙ ap (λ (x : HeadData). x.sets) c.other.view_is in
    let own_same : c.head.inside.own ≡ c.other.inside.own = (env_same c.head.inside.own c.other.inside.own).0 (not-false _ (sym c.ne.ensures ∙ c.if-ne.false)) in
    OnTrue_from c.eq.result (IsAlike head other) (λ is. record {
      own = sym (ap (λ (x : HeadData). x.own) c.head.view_is) ∙ (own_same ∙ ap (λ (x : HeadData). x.own) c.other.view_is);
      sets = sym sets_is ∙ ((slice_eq-Decides set_same c.as_slice.result.now c.as_slice-2.result.now c.eq.result c.eq.ensures).0 is ∙ others_is);
    })
