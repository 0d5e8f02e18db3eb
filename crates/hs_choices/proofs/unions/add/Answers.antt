use Rattle.std.proofs.Common.{refl, sym, ◌∙◌, subst, List, ℕ, Contains}
use Rattle.hs_types.specs.Interned.{InternerData, env_of_id}
use Rattle.hs_choices.proofs.Growing.{left_out, known_dropped, come_added, least_added, asked_so, lost_so}
use Rattle.hs_choices.proofs.unions.add.Goals as goal

pub drops-requires-clause-fits : goal.drops-requires-clause-fits
drops-requires-clause-fits g c = subst (λ (z : InternerData). g.D.Dropping.fits c.args.dropping.now z) (sym c.asks_some.ensures.same) c.requires.fits

pub returns-then-branch-clause-least : goal.returns-then-branch-clause-least
returns-then-branch-clause-least g c =
    let I = g.T.Comparing.known c.args.types.now in
    known_dropped (g.D.Dropping.dropped c.args.dropping.now I c.args.rule) I c.args.kept.now.items c.args.env
    (asked_so I I refl c.args.kept.now.items c.as_slice.result.now c.as_slice.ensures.value c.args.env (c.in_ok-asks_some.ensures.ok.0 c.if-branch.true))

pub returns-then-branch-2-clause-least : goal.returns-then-branch-2-clause-least
returns-then-branch-2-clause-least g c =
    let I = g.T.Comparing.known c.args.types.now in
    let d = c.args.dropping.now in
    let is = subst (λ (z : InternerData). g.D.Dropping.dropped d z c.args.rule (env_of_id z c.args.env)) c.asks_some.ensures.same (c.in_ok-drops.ensures.ok c.if-branch-2.true) in
    left_out (g.D.Dropping.dropped d I c.args.rule) I c.args.kept.now.items c.args.env (λ U a. g.met.D.Dropping.asks_more d I c.args.rule U (env_of_id I c.args.env) a is)

pub returns-clause-come : goal.returns-clause-come
returns-clause-come g c =
    let I = g.T.Comparing.known c.args.types.now in
    come_added (g.D.Dropping.dropped c.args.dropping.now I c.args.rule) I c.args.kept.now.items c.args.env c.in_ok-rest.rest.items c.push.new.self.items c.in_ok-push.ensures.items
    (λ k m. subst (λ (ks : List ℕ). Contains ks k) c.as_slice-2.ensures.value (c.in_ok-rest.ensures.left k m))

pub returns-clause-least : goal.returns-clause-least
returns-clause-least g c =
    let I = g.T.Comparing.known c.args.types.now in
    let J = g.T.Comparing.known c.drops.new.types in
    least_added (g.D.Dropping.dropped c.args.dropping.now I c.args.rule) I c.args.kept.now.items c.args.env c.in_ok-rest.rest.items c.push.new.self.items c.in_ok-push.ensures.items
    (lost_so I J (c.drops.ensures.same ∙ c.asks_some.ensures.same) c.args.kept.now.items c.as_slice-2.result.now c.as_slice-2.ensures.value c.args.env c.in_ok-rest.rest.items c.in_ok-rest.ensures.lost)
