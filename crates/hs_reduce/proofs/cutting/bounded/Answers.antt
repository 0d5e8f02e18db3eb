use Rattle.std.proofs.Common.{◌∙◌, ap, subst, Option}
use Rattle.hs_scheme.specs.acceptance.Run.{start}
use Rattle.hs_scheme.specs.Scheme.{IsScheme}
use Rattle.hs_scheme.specs.sorting.Sorted.{SortedData, IsSorted}
use Rattle.hs_scheme.specs.Tree.{Tree}
use Rattle.hs_scheme.specs.declared.term.Head.{Head}
use Rattle.hs_scheme.specs.acceptance.FailingPath.{FailingPathData}
use Rattle.hs_reduce.specs.Graph.{term_at}
use Rattle.hs_reduce.specs.Advances.{HasKnownSorts}
use Rattle.hs_reduce.specs.Bounds.{IsErrorWithin, IsFoundWithin}
use Rattle.hs_reduce.proofs.ReplayLemmas.{has_sorting}
use Rattle.hs_reduce.proofs.CutLemmas.{refused}
use Rattle.hs_reduce.proofs.cutting.bounded.Goals as goal

pub returns : goal.returns
returns c =
    let s = c.args.sorted.now in
    let scheme_is = c.scheme.view_is ∙ ap (λ (x : SortedData). x.scheme) c.sorted.view_is in
    let sorted : HasKnownSorts s = has_sorting s (subst IsSorted c.sorted.view_is c.sorted.invariant) (subst IsScheme scheme_is c.scheme.invariant) in
    let t = term_at c.add.new.self c.in_ok-start.start in
    let error : IsErrorWithin s c.args.n 0 start c.in-Some.path = subst (λ (u : Tree Head). IsErrorWithin s c.args.n 0 u c.in-Some.path) c.in_ok-start.ensures.term
    (subst (λ (o : Option FailingPathData). IsFoundWithin s c.args.n 0 t o) c.in-Some.is c.in_ok-first_error.ensures.found) in
    (refused s sorted c.args.n 0 start c.in-Some.path error, error)
