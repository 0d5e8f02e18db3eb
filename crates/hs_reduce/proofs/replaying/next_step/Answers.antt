use Rattle.std.proofs.Common.{refl, sym, subst, Option, ℕ, ◌+◌, ◌∷◌, [], ◌++◌}
use Rattle.hs_scheme.specs.Tree.{Tree}
use Rattle.hs_scheme.specs.acceptance.Cut.{unfolded}
use Rattle.hs_scheme.specs.declared.term.Head.{Head}
use Rattle.hs_reduce.specs.declared.answers.ReductionStep.TheVariants.{Call}
use Rattle.hs_reduce.specs.Graph.{term_at, arguments_of, Unfolds}
use Rattle.hs_reduce.specs.Advances.{IsTraced}
use Rattle.hs_reduce.proofs.TraceLemmas.{traced_replaced}
use Rattle.hs_reduce.proofs.replaying.next_step.Goals as goal

pub returns-in-Some : goal.returns-in-Some
returns-in-Some c = λ all is.
    let s = c.args.sorted.now in let t = term_at c.args.graph.now c.args.progress.place in let new = c.replace.new.graph in
    let place = c.in-Some.place in let rule = c.in-Nt.number in
    let found = subst (λ (o : Option ℕ). Unfolds c.args.graph.now new o (unfolded s.scheme.rules rule (arguments_of t))) c.in-Some.is c.in_ok-replace-in-Nt.ensures in (
      refl,
      found.2.within,
      subst (λ (u : Tree Head). IsTraced s c.args.path.now (all ++ Call rule ∷ []) (record { place = place; state = c.args.progress.state; at = c.args.progress.at; used = c.args.progress.used + 1 }) u) (sym found.2.term)
          (traced_replaced s c.args.path.now all c.args.progress t is c.requires.sorted found.0 rule place (sym c.in-Nt.ensures) found.1),
    )
