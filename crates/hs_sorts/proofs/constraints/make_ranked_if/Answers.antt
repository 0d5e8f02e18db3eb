use Rattle.std.proofs.Common.{sym, subst, ℕ, Option, None}
use Rattle.hs_sorts.specs.Constraints.{Claims, IsRankedIf}
use Rattle.hs_sorts.proofs.Laying.{claims_none}
use Rattle.hs_sorts.proofs.constraints.make_ranked_if.Goals as goal

pub returns-in-None : goal.returns-in-None
returns-in-None c =
    subst (λ (rank : Option ℕ). Claims c.args.store.now c.args.store.now (IsRankedIf c.args.node rank)) (sym c.in-None.is)
    (claims_none c.args.store.now (IsRankedIf c.args.node None) c.requires.few (λ v. tt))
