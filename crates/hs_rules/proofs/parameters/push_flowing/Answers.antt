use Rattle.std.proofs.Common.{sym, ◌∙◌, ap, subst, List, ℕ, ◌<◌, length, get_or, arith, All}
use Rattle.hs_scheme.specs.declared.flow.FlowPair.{FlowPair}
use Rattle.hs_table.specs.Entries.{EntryData}
use Rattle.hs_replica.specs.Places.{here, ArePlaces}
use Rattle.hs_rules.specs.Heads.{GainsHeads, ParamAt, AtSome, AtFlow}
use Rattle.hs_rules.proofs.KeepLemmas.{keeps_then}
use Rattle.hs_rules.proofs.Lists.{along, all_from}
use Rattle.hs_rules.proofs.HeadLemmas.{flow_next}
use Rattle.std.proofs.lemmas.List.{take_all}
use Rattle.hs_rules.proofs.parameters.push_flowing.Goals as goal

pub push_params-requires-clause-places : goal.push_params-requires-clause-places
push_params-requires-clause-places c =
    subst (λ (xs : List ℕ). All (λ place. place < length c.loop-pair.replica.log) xs) (sym c.as_slice.ensures)
    (all_from (λ place. place < length c.loop-pair.replica.log) c.in_ok-places.places.items (λ place there.
    let b = (c.in_ok-places.ensures.places place).0 there in
    omega (arith, b.1, c.requires.can.search.limited, ap (λ (l : List EntryData). length l) c.loop-pair.invariant.kept.log)))

pub loop-pair-preserved : goal.loop-pair-preserved
loop-pair-preserved c =
    let J = c.loop-pair.replica.ids in
    let K = c.push_params.new.replica.ids in
    let log = c.args.replica.now.log in
    let pairs = c.args.pairs.now in
    let k = c.loop-pair.pair-index in
    let d : FlowPair = record { rule = 0; param = 0; point = 0 } in
    let pair = get_or pairs k d in
    let count = length c.args.at.now.search.args.now in
    let same = c.loop-pair.invariant.kept.log in
    let are = subst (λ (l : List EntryData). ArePlaces l c.loop-pair.replica.indexed (here pair.point) c.at_point.result.now) same c.at_point.ensures in
    let gains = along (λ i. GainsHeads K count (AtSome (ParamAt (same i) c.args.at.now.params c.args.x) (c.as_slice.ensures i)) c.loop-pair.out.items c.push_params.new.out.items) c.in_ok-push_params.ensures.gains in
    record {
      kept = keeps_then c.args.replica.now c.loop-pair.replica c.push_params.new.replica c.loop-pair.invariant.kept c.in_ok-push_params.ensures.kept;
      gains = flow_next J K count log c.args.at.now.params c.args.x c.args.at.now.search.limit here pairs k d c.at_point.result.now c.in_ok-places.places.items c.loop-pair.replica.indexed
          c.args.out.now.items c.loop-pair.out.items c.push_params.new.out.items c.in_ok-push_params.ensures.kept.grows c.loop-pair-test.true (c.loop-pair.invariant.kept.indexed ∙ c.requires.can.search.indexed) are c.in_ok-places.ensures.places
          c.loop-pair.invariant.gains gains;
    }

pub returns-in_err-places-clause-kept : goal.returns-in_err-places-clause-kept
returns-in_err-places-clause-kept c = c.loop-pair.invariant.kept

pub returns-in_err-push_params-clause-kept : goal.returns-in_err-push_params-clause-kept
returns-in_err-push_params-clause-kept c = keeps_then c.args.replica.now c.loop-pair.replica c.push_params.new.replica c.loop-pair.invariant.kept c.push_params.ensures.kept

pub returns-clause-kept : goal.returns-clause-kept
returns-clause-kept c = c.loop-pair.invariant.kept

pub returns-clause-gains : goal.returns-clause-gains
returns-clause-gains c =
    subst (λ (fs : List FlowPair). GainsHeads c.loop-pair.replica.ids (length c.args.at.now.search.args.now) (AtFlow c.args.replica.now.log c.args.at.now.params c.args.x c.args.at.now.search.limit here fs) c.args.out.now.items c.loop-pair.out.items)
    (take_all c.loop-pair.pair-index c.args.pairs.now c.loop-pair-test.false) c.loop-pair.invariant.gains
