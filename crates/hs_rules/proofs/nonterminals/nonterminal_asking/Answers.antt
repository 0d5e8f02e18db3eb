use Rattle.std.proofs.Common.{◌≡◌, sym, ◌∙◌, ap, subst, ℕ, ◌<◌, List, [], length, replicate, get_or, take, slice_get, Some, OnOk, Contains, arith}
use Rattle.std.proofs.lemmas.Option.{slice_get-get_or, slice_get_within, get_or_from_slice_get}
use Rattle.std.proofs.lemmas.List.Elements.{All-contains}
use Rattle.hs_scheme.specs.declared.term.Head.TheVariants.{Nt}
use Rattle.hs_scheme.specs.flow.Points.{PointsData}
use Rattle.hs_scheme.specs.Problem.{ProblemData}
use Rattle.hs_table.specs.Entries.{Env, EntryData, InShape, params_of}
use Rattle.hs_types.specs.Interned.{type_of_id, env_of_id}
use Rattle.hs_replica.specs.Replica.{ReplicaData, KeepsLog}
use Rattle.hs_replica.specs.Places.{asks, ArePlaces}
use Rattle.hs_rules.specs.Heads.{GainsHeads, BodyAt, AtSome, AreHeads, Asks}
use Rattle.hs_rules.proofs.Lists.{along, all_from, on_ok_map}
use Rattle.hs_rules.proofs.KeepLemmas.{keeps_none, keeps_then}
use Rattle.hs_rules.proofs.SourceLemmas.{bodies_asking}
use Rattle.hs_rules.proofs.nonterminals.nonterminal_asking.Goals as goal

-- asking about the point changed nothing
kept_from : (old mid new : ReplicaData) → mid ≡ old → KeepsLog mid new → KeepsLog old new
kept_from old mid new same = subst (λ (r : ReplicaData). KeepsLog r new) same

pub push_bodies-requires-clause-places : goal.push_bodies-requires-clause-places
push_bodies-requires-clause-places c =
    all_from (λ place. place < length c.empty_env.new.self.log) c.begin_below-places.result.now (λ place there.
    let b = (c.begin_below-places.ensures.places place).0 there in
    omega (arith, b.1, c.requires.can.search.limited, ap (λ (l : List EntryData). length l) (kept_from c.args.replica.now c.asking.new.self c.empty_env.new.self c.in_ok-entries.ensures.kept c.in_ok-own.ensures.kept).log))

pub push_bodies-requires-clause-own : goal.push_bodies-requires-clause-own
push_bodies-requires-clause-own c = slice_get_within c.empty_env.new.self.ids.envs c.in_ok-own.own (replicate c.args.at.now.params []) c.in_ok-own.ensures.ok

pub returns-clause-heads : goal.returns-clause-heads
returns-clause-heads c =
    let p = c.args.at.now.problem.now in
    let I = c.args.replica.now.ids in
    let J = c.empty_env.new.self.ids in
    let K = c.push_bodies.new.replica.ids in
    let log = c.args.replica.now.log in
    let limit = c.args.at.now.search.limit in
    let args = c.args.at.now.search.args.now in
    let f = c.args.nonterminal in
    let own = c.in_ok-own.own in
    let same = (kept_from c.args.replica.now c.asking.new.self c.empty_env.new.self c.in_ok-entries.ensures.kept c.in_ok-own.ensures.kept).log in
    let none : Env = replicate c.args.at.now.params [] in
    let own_is : env_of_id J own ≡ replicate (params_of p c.args.at.now.rule) [] = get_or_from_slice_get J.envs own none [] c.in_ok-own.ensures.ok ∙ ap (λ (k : ℕ). let e : Env = replicate k [] in e) c.requires.can.params_are in
    let points = ap (λ (q : ProblemData). q.points) c.problem.view_is in
    let body = c.body_of-body.result in
    let body_is : slice_get p.points.bodies f ≡ Some body = slice_get-get_or p.points.bodies f 0 c.requires.head ∙ ap (λ (k : ℕ). Some k) (sym (c.body_of-body.ensures.body ∙ ap (λ (x : PointsData). get_or x.bodies f 0) points)) in
    let shapes = λ (e : EntryData) (m : Contains (take limit log) e). All-contains (InShape p) (take limit log) e c.requires.can.shapes m in
    let heads = c.push_bodies.new.out.items in
    let gains = along (λ i. OnOk c.push_bodies.result (GainsHeads K (length args) (AtSome (BodyAt (same i) (own_is i)) c.begin_below-places.result.now) (c.requires.none i) heads)) c.push_bodies.ensures.gains in
    let are = subst (λ (xs : List ℕ). ArePlaces log c.args.replica.now.indexed (asks body c.args.asked.now.arg (type_of_id I c.args.asked.now.ty)) xs) (sym c.as_slice.ensures) c.in_ok-entries.ensures.exact in
    on_ok_map c.push_bodies.result (GainsHeads K (length args) (AtSome (BodyAt log (replicate (params_of p c.args.at.now.rule) [])) c.begin_below-places.result.now) [] heads)
    (AreHeads p (take limit log) (record { rule = c.args.at.now.rule; head = Nt f; args = args }) K (Asks c.args.asked.now.arg (type_of_id I c.args.asked.now.ty)) heads)
    (bodies_asking p log limit c.args.at.now.rule args shapes f body body_is K c.begin_below-places.result.now heads c.args.replica.now.indexed c.args.asked.now.arg (type_of_id I c.args.asked.now.ty) c.as_slice.result.now c.requires.can.search.indexed c.requires.arg are
    c.begin_below-places.ensures.places) gains

pub returns-in_err-entries-clause-kept : goal.returns-in_err-entries-clause-kept
returns-in_err-entries-clause-kept c = subst (λ (r : ReplicaData). KeepsLog c.args.replica.now r) (sym c.asking.ensures.kept) (keeps_none c.args.replica.now)

pub returns-in_err-own-clause-kept : goal.returns-in_err-own-clause-kept
returns-in_err-own-clause-kept c = kept_from c.args.replica.now c.asking.new.self c.empty_env.new.self c.in_ok-entries.ensures.kept c.empty_env.ensures.kept

pub returns-clause-kept : goal.returns-clause-kept
returns-clause-kept c =
    keeps_then c.args.replica.now c.empty_env.new.self c.push_bodies.new.replica (kept_from c.args.replica.now c.asking.new.self c.empty_env.new.self c.in_ok-entries.ensures.kept c.in_ok-own.ensures.kept) c.push_bodies.ensures.kept
