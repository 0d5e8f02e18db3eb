use Rattle.std.proofs.Common.{subst, List, get_or, length}
use Rattle.hs_table.specs.Entries.{EntryData}
use Rattle.hs_rules.specs.Heads.{GainsHeads, ParamAt}
use Rattle.hs_rules.proofs.KeepLemmas.{keeps_then}
use Rattle.hs_rules.proofs.Lists.{read_self}
use Rattle.hs_rules.proofs.HeadLemmas.{heads_next}
use Rattle.hs_rules.proofs.heads.push_params.Goals as goal

pub loop-place-preserved : goal.loop-place-preserved
loop-place-preserved c =
    let J = c.loop-place.replica.ids in
    let K = c.push_param.new.replica.ids in
    let log = c.args.replica.now.log in
    let places = c.args.places.now in
    let k = c.loop-place.place-index in
    let place = get_or places k 0 in
    let gains = subst (λ (l : List EntryData). GainsHeads K (length c.args.at.now.search.args.now) (ParamAt l c.args.at.now.params c.args.x place) c.loop-place.out.items c.push_param.new.out.items) c.loop-place.invariant.kept.log c.in_ok-push_param.ensures.gains in
    record {
      kept = keeps_then c.args.replica.now c.loop-place.replica c.push_param.new.replica c.loop-place.invariant.kept c.in_ok-push_param.ensures.kept;
      gains = heads_next J K (length c.args.at.now.search.args.now) (ParamAt log c.args.at.now.params c.args.x) places k place c.args.out.now.items c.loop-place.out.items c.push_param.new.out.items c.in_ok-push_param.ensures.kept.grows c.loop-place-test.true
          (read_self places k 0 c.loop-place-test.true) c.loop-place.invariant.gains gains;
    }
