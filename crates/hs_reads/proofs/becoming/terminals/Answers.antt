use Rattle.std.proofs.Common.{◌≡◌, ◌∙◌, ap, subst, ℕ, List}
use Rattle.hs_scheme.specs.Problem.{ProblemData}
use Rattle.hs_reads.specs.Becomings.{AnyBecoming, IsByParameter, AreApart}
use Rattle.hs_reads.specs.Own.{IsBecoming}
use Rattle.hs_reads.proofs.GrowLemmas.{not_many}
use Rattle.hs_reads.proofs.BecomingLemmas.{has_terminals, only_terminals, all_becomings}
use Rattle.hs_reads.proofs.becoming.terminals.Goals as goal

pub find-requires : goal.find-requires
find-requires c = c.new-found.ensures.empty

pub returns-clause-all : goal.returns-clause-all
returns-clause-all c =
    let p = c.args.problem.now in
    let params : c.params.result.now ≡ p.points.params = c.params.ensures.params ∙ ap (λ (z : ProblemData). z.points.params) c.problem.view_is in
    has_terminals p c.find.new.found.keys c.in_ok-lists.lists c.in_ok-find.ensures.all
    (subst (λ (ns : List ℕ). IsByParameter ns c.find.new.found.keys c.in_ok-lists.lists) params
    (subst (λ (bs : List AnyBecoming). IsByParameter c.params.result.now bs c.in_ok-lists.lists) c.as_slice.ensures.keys c.in_ok-lists.ensures.has))

pub returns-clause-only : goal.returns-clause-only
returns-clause-only c =
    let p = c.args.problem.now in
    let params : c.params.result.now ≡ p.points.params = c.params.ensures.params ∙ ap (λ (z : ProblemData). z.points.params) c.problem.view_is in
    only_terminals p c.find.new.found.keys c.in_ok-lists.lists c.find.ensures.known
    (subst (λ (ns : List ℕ). AreApart ns c.find.new.found.keys c.in_ok-lists.lists) params
    (subst (λ (bs : List AnyBecoming). AreApart c.params.result.now bs c.in_ok-lists.lists) c.as_slice.ensures.keys c.in_ok-lists.ensures.only))

pub returns-clause-few : goal.returns-clause-few
returns-clause-few c =
    let p = c.args.problem.now in
    not_many (IsBecoming p) c.find.new.found.keys c.in_ok-find.ensures.few (λ b k. all_becomings p c.find.new.found.keys c.in_ok-find.ensures.all k.0 b.terminal b.given k.1.1 b.rule b.param k.1.0)
