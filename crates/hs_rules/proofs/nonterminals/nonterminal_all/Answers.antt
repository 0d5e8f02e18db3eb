use Rattle.std.proofs.Common.{◌≡◌, sym, ◌∙◌, ap, subst, ℕ, ◌<◌, List, [], length, replicate, get_or, take, slice_get, Some, All, OnOk, Contains, arith}
use Rattle.std.proofs.lemmas.Option.{slice_get-get_or, slice_get_within, get_or_from_slice_get}
use Rattle.std.proofs.lemmas.List.Elements.{All-contains}
use Rattle.hs_scheme.specs.declared.term.Head.TheVariants.{Nt}
use Rattle.hs_scheme.specs.flow.Points.{PointsData}
use Rattle.hs_scheme.specs.Problem.{ProblemData}
use Rattle.hs_table.specs.Entries.{Env, EntryData, InShape, params_of}
use Rattle.hs_types.specs.Interned.{env_of_id}
use Rattle.hs_replica.specs.Places.{here, ArePlaces}
use Rattle.hs_rules.specs.Heads.{GainsHeads, BodyAt, AtSome, AreHeads, AnyHead}
use Rattle.hs_rules.proofs.Lists.{along, all_from, on_ok_map}
use Rattle.hs_rules.proofs.KeepLemmas.{keeps_then}
use Rattle.hs_rules.proofs.SourceLemmas.{bodies_all}
use Rattle.hs_rules.proofs.nonterminals.nonterminal_all.Goals as goal

pub push_bodies-requires-clause-places : goal.push_bodies-requires-clause-places
push_bodies-requires-clause-places c =
    subst (λ (xs : List ℕ). All (λ place. place < length c.empty_env.new.self.log) xs) (sym c.as_slice.ensures)
    (all_from (λ place. place < length c.empty_env.new.self.log) c.in_ok-places.places.items (λ place there.
    let b = (c.in_ok-places.ensures.places place).0 there in
    omega (arith, b.1, c.requires.can.search.limited, ap (λ (l : List EntryData). length l) c.in_ok-own.ensures.kept.log)))

pub push_bodies-requires-clause-own : goal.push_bodies-requires-clause-own
push_bodies-requires-clause-own c = slice_get_within c.empty_env.new.self.ids.envs c.in_ok-own.own (replicate c.args.at.now.params []) c.in_ok-own.ensures.ok

pub returns-clause-heads : goal.returns-clause-heads
returns-clause-heads c =
    let p = c.args.at.now.problem.now in
    let I = c.args.replica.now.ids in
    let J = c.empty_env.new.self.ids in
    let K = c.push_bodies.new.replica.ids in
    let log = c.args.replica.now.log in
    let limit = c.args.at.now.search.limit in
    let args = c.args.at.now.search.args.now in
    let f = c.args.nonterminal in
    let own = c.in_ok-own.own in
    let same = c.in_ok-own.ensures.kept.log in
    let none : Env = replicate c.args.at.now.params [] in
    let own_is : env_of_id J own ≡ replicate (params_of p c.args.at.now.rule) [] = get_or_from_slice_get J.envs own none [] c.in_ok-own.ensures.ok ∙ ap (λ (k : ℕ). let e : Env = replicate k [] in e) c.requires.can.params_are in
    let points = ap (λ (q : ProblemData). q.points) c.problem.view_is in
    let body = c.body_of-body.result in
    let body_is : slice_get p.points.bodies f ≡ Some body = slice_get-get_or p.points.bodies f 0 c.requires.head ∙ ap (λ (k : ℕ). Some k) (sym (c.body_of-body.ensures.body ∙ ap (λ (x : PointsData). get_or x.bodies f 0) points)) in
    let shapes = λ (e : EntryData) (m : Contains (take limit log) e). All-contains (InShape p) (take limit log) e c.requires.can.shapes m in
    let heads = c.push_bodies.new.out.items in
    let gains = along (λ i. OnOk c.push_bodies.result (GainsHeads K (length args) (AtSome (BodyAt (same i) (own_is i)) (c.as_slice.ensures i)) (c.requires.none i) heads)) c.push_bodies.ensures.gains in
    let indexed = c.in_ok-own.ensures.kept.indexed ∙ c.requires.can.search.indexed in
    let are = subst (λ (l : List EntryData). ArePlaces l c.empty_env.new.self.indexed (here body) c.at_point.result.now) same c.at_point.ensures in
    on_ok_map c.push_bodies.result (GainsHeads K (length args) (AtSome (BodyAt log (replicate (params_of p c.args.at.now.rule) [])) c.in_ok-places.places.items) [] heads)
    (AreHeads p (take limit log) (record { rule = c.args.at.now.rule; head = Nt f; args = args }) K AnyHead heads)
    (bodies_all p log limit c.args.at.now.rule args shapes f body body_is K c.in_ok-places.places.items heads c.empty_env.new.self.indexed c.at_point.result.now indexed are c.in_ok-places.ensures.places) gains

pub returns-in_err-own-clause-kept : goal.returns-in_err-own-clause-kept
returns-in_err-own-clause-kept c = c.empty_env.ensures.kept

pub returns-in_err-places-clause-kept : goal.returns-in_err-places-clause-kept
returns-in_err-places-clause-kept c = c.in_ok-own.ensures.kept

pub returns-clause-kept : goal.returns-clause-kept
returns-clause-kept c = keeps_then c.args.replica.now c.empty_env.new.self c.push_bodies.new.replica c.in_ok-own.ensures.kept c.push_bodies.ensures.kept
