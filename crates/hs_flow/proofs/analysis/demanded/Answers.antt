use Rattle.std.proofs.Common.{◌≡◌, sym, ◌∙◌, subst, List}
use Rattle.hs_scheme.specs.declared.term.Rule.{Rule}
use Rattle.hs_scheme.specs.declared.flow.Pair.{Pair}
use Rattle.hs_scheme.specs.flow.Flow.{IsClosed}
use Rattle.hs_flow.proofs.PairLemmas.{extends_rules}
use Rattle.hs_flow.proofs.analysis.demanded.Goals as goal

pub returns-clause-closed : goal.returns-clause-closed
returns-clause-closed c =
    let rules : c.run-ran.new.self.pairs.rules ≡ c.args.rules.now = extends_rules _ _ c.run-ran.ensures.extends ∙ c.in_ok-analysis.ensures.none.rules_are in
    subst (λ (ps : List Pair). IsClosed c.args.rules.now ps) (sym c.into_found-found.ensures.found) (subst (λ (rs : List Rule). IsClosed rs c.run-ran.new.self.pairs.found) rules c.in_ok-ran.ensures.closed)
