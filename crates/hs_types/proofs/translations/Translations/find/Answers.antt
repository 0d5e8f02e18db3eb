use Rattle.std.proofs.Common.{ℕ, subst, Contains, rules}
use Rattle.hs_types.proofs.translations.Translations.find.Goals as goal

pub returns-then-pair-other : goal.returns-then-pair-other
returns-then-pair-other c =
    let pairs = c.args.self.now.pairs.items in
    let pair = c.in_ok-pair.pair.now in
    let there : Contains pairs pair = search rules in
    subst (λ (n : ℕ). Contains pairs (record { other = n; own = pair.own })) c.if-pair-other.true there
