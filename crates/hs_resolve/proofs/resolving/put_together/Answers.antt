use Rattle.std.proofs.Common.{◌≡◌, sym, subst}
use Rattle.hs_scheme.specs.sorting.Unsorted.{IsUnsorted}
use Rattle.hs_resolve.specs.Tables.{made_of}
use Rattle.hs_resolve.proofs.resolving.put_together.Goals as goal

pub invariant_of-result : goal.invariant_of-result
invariant_of-result c =
    let same : _ ≡ made_of c.args.tables.now c.args.numbered = (λ i. record { rules = c.args.numbered.rules.items; ranks = c.in_ok-ranks.ensures i; automaton = c.in_ok-automaton.ensures.automaton i; names = c.in_ok-automaton.ensures.names i }) in
    subst IsUnsorted (sym same) c.requires.scheme

pub returns : goal.returns
returns c = (λ i. record { rules = c.args.numbered.rules.items; ranks = c.in_ok-ranks.ensures i; automaton = c.in_ok-automaton.ensures.automaton i; names = c.in_ok-automaton.ensures.names i })
