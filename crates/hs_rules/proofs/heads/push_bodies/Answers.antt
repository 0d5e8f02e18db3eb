use Rattle.std.proofs.Common.{subst, List, get_or, length}
use Rattle.hs_table.specs.Entries.{Env, EntryData}
use Rattle.hs_types.specs.Interned.{env_of_id}
use Rattle.hs_types.proofs.Numbers.{env_stays}
use Rattle.hs_rules.specs.Heads.{GainsHeads, BodyAt}
use Rattle.hs_rules.proofs.KeepLemmas.{keeps_then}
use Rattle.hs_rules.proofs.Lists.{read_self}
use Rattle.hs_rules.proofs.HeadLemmas.{heads_next}
use Rattle.hs_rules.proofs.heads.push_bodies.Goals as goal

pub loop-place-preserved : goal.loop-place-preserved
loop-place-preserved c =
    let I = c.args.replica.now.ids in
    let J = c.loop-place.replica.ids in
    let K = c.push_body.new.replica.ids in
    let log = c.args.replica.now.log in
    let own = env_of_id I c.args.own in
    let places = c.args.places.now in
    let k = c.loop-place.place-index in
    let place = get_or places k 0 in
    let gains = subst (λ (l : List EntryData). GainsHeads K (length c.args.at.now.search.args.now) (BodyAt l own place) c.loop-place.out.items c.push_body.new.out.items) c.loop-place.invariant.kept.log
    (subst (λ (o : Env). GainsHeads K (length c.args.at.now.search.args.now) (BodyAt c.loop-place.replica.log o place) c.loop-place.out.items c.push_body.new.out.items)
    (env_stays I J c.loop-place.invariant.kept.grows c.args.own c.requires.own) c.in_ok-push_body.ensures.gains) in
    record {
      kept = keeps_then c.args.replica.now c.loop-place.replica c.push_body.new.replica c.loop-place.invariant.kept c.in_ok-push_body.ensures.kept;
      gains = heads_next J K (length c.args.at.now.search.args.now) (BodyAt log own) places k place c.args.out.now.items c.loop-place.out.items c.push_body.new.out.items c.in_ok-push_body.ensures.kept.grows c.loop-place-test.true
          (read_self places k 0 c.loop-place-test.true) c.loop-place.invariant.gains gains;
    }
