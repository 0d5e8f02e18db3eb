use Rattle.std.proofs.Common.{◌≡◌, sym, ◌∙◌, ap, subst, List, ℕ, ◌<◌, length, take, get_or, arith, All}
use Rattle.std.proofs.lemmas.List.{take_all}
use Rattle.hs_scheme.specs.declared.flow.FlowPair.{FlowPair}
use Rattle.hs_table.specs.Types.{TypeTree}
use Rattle.hs_table.specs.Entries.{EntryData}
use Rattle.hs_types.specs.Interned.{type_of_id}
use Rattle.hs_types.proofs.Numbers.{type_within, type_stays}
use Rattle.hs_replica.specs.Places.{takes, ArePlaces}
use Rattle.hs_replica.specs.Replica.{ReplicaData, typed_to, ListsMore, KeepsLog}
use Rattle.hs_rules.specs.Heads.{GainsHeads, ParamAt, AtSome, AtFlow}
use Rattle.hs_rules.proofs.KeepLemmas.{keeps_then, as_then, lists_keep}
use Rattle.hs_rules.proofs.Lists.{along, all_from}
use Rattle.hs_rules.proofs.HeadLemmas.{flow_next}
use Rattle.hs_rules.proofs.parameters.push_taking.Goals as goal

-- the log as it is kept when the point is listed
listed : (r s t : ReplicaData) → KeepsLog r s → ListsMore s t → KeepsLog r t
listed r s t k l = keeps_then r s t k (lists_keep s t l)

pub taking-requires : goal.taking-requires
taking-requires c =
    let kept = listed c.args.replica.now c.loop-pair.replica c.list_types.new.self c.loop-pair.invariant.kept c.in_ok-list_types.ensures.kept in
    type_within c.args.replica.now.ids c.list_types.new.self.ids kept.grows c.args.asked.now.ty c.requires.ty

pub push_params-requires-clause-places : goal.push_params-requires-clause-places
push_params-requires-clause-places c =
    let now = c.list_types.new.self in
    let kept = listed c.args.replica.now c.loop-pair.replica now c.loop-pair.invariant.kept c.in_ok-list_types.ensures.kept in
    subst (λ (xs : List ℕ). All (λ place. place < length now.log) xs) (sym c.as_slice.ensures)
    (all_from (λ place. place < length now.log) c.in_ok-places.places.items (λ place there.
    let b = (c.in_ok-places.ensures.places place).0 there in
    omega (arith, b.1, c.requires.can.search.limited, ap (λ (l : List EntryData). length l) kept.log)))

pub loop-pair-preserved : goal.loop-pair-preserved
loop-pair-preserved c =
    let I = c.args.replica.now.ids in
    let now = c.list_types.new.self in
    let J = now.ids in
    let K = c.push_params.new.replica.ids in
    let log = c.args.replica.now.log in
    let pairs = c.args.pairs.now in
    let k = c.loop-pair.pair-index in
    let d : FlowPair = record { rule = 0; param = 0; point = 0 } in
    let pair = get_or pairs k d in
    let ty = type_of_id I c.args.asked.now.ty in
    let count = length c.args.at.now.search.args.now in
    let kept = listed c.args.replica.now c.loop-pair.replica now c.loop-pair.invariant.kept c.in_ok-list_types.ensures.kept in
    let same = kept.log in
    let told : typed_to now pair.point ≡ length log = c.in_ok-list_types.ensures.ok ∙ (kept.indexed ∙ c.requires.can.search.indexed) in
    let are = subst (λ (t : TypeTree). ArePlaces log (typed_to now pair.point) (takes pair.point c.args.asked.now.arg t) c.taking.result.now) (type_stays I J kept.grows c.args.asked.now.ty c.requires.ty)
    (subst (λ (l : List EntryData). ArePlaces l (typed_to now pair.point) (takes pair.point c.args.asked.now.arg (type_of_id J c.args.asked.now.ty)) c.taking.result.now) same c.taking.ensures) in
    let gains = along (λ i. GainsHeads K count (AtSome (ParamAt (same i) c.args.at.now.params c.args.x) (c.as_slice.ensures i)) c.loop-pair.out.items c.push_params.new.out.items) c.in_ok-push_params.ensures.gains in
    let before = as_then c.loop-pair.replica now c.in_ok-list_types.ensures.kept
    (λ ids es. GainsHeads ids count (AtFlow log c.args.at.now.params c.args.x c.args.at.now.search.limit (λ u. takes u c.args.asked.now.arg ty) (take k pairs)) c.args.out.now.items c.loop-pair.out.items) c.loop-pair.invariant.gains in
    record {
      kept = keeps_then c.args.replica.now now c.push_params.new.replica kept c.in_ok-push_params.ensures.kept;
      gains = flow_next J K count log c.args.at.now.params c.args.x c.args.at.now.search.limit (λ u. takes u c.args.asked.now.arg ty) pairs k d c.taking.result.now c.in_ok-places.places.items (typed_to now pair.point)
          c.args.out.now.items c.loop-pair.out.items c.push_params.new.out.items c.in_ok-push_params.ensures.kept.grows c.loop-pair-test.true told are c.in_ok-places.ensures.places
          before gains;
    }

pub returns-clause-gains : goal.returns-clause-gains
returns-clause-gains c =
    subst (λ (fs : List FlowPair). GainsHeads c.loop-pair.replica.ids (length c.args.at.now.search.args.now) (AtFlow c.args.replica.now.log c.args.at.now.params c.args.x c.args.at.now.search.limit (λ u. takes u c.args.asked.now.arg (type_of_id c.args.replica.now.ids c.args.asked.now.ty)) fs) c.args.out.now.items c.loop-pair.out.items)
    (take_all c.loop-pair.pair-index c.args.pairs.now c.loop-pair-test.false) c.loop-pair.invariant.gains

pub returns-in_err-list_types-clause-kept : goal.returns-in_err-list_types-clause-kept
returns-in_err-list_types-clause-kept c = listed c.args.replica.now c.loop-pair.replica c.list_types.new.self c.loop-pair.invariant.kept c.list_types.ensures.kept

pub returns-in_err-places-clause-kept : goal.returns-in_err-places-clause-kept
returns-in_err-places-clause-kept c = listed c.args.replica.now c.loop-pair.replica c.list_types.new.self c.loop-pair.invariant.kept c.in_ok-list_types.ensures.kept

pub returns-in_err-push_params-clause-kept : goal.returns-in_err-push_params-clause-kept
returns-in_err-push_params-clause-kept c = keeps_then c.args.replica.now c.list_types.new.self c.push_params.new.replica (listed c.args.replica.now c.loop-pair.replica c.list_types.new.self c.loop-pair.invariant.kept c.in_ok-list_types.ensures.kept) c.push_params.ensures.kept

pub returns-clause-kept : goal.returns-clause-kept
returns-clause-kept c = c.loop-pair.invariant.kept
