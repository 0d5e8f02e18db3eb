use Rattle.std.proofs.Common.{subst, ℕ, ◌<◌, List, Contains, ◌↔◌}
use Rattle.std.proofs.lemmas.Option.{IfSome_then}
use Rattle.hs_replica.proofs.FromLemmas.{none_then}
use Rattle.hs_replica.proofs.reaching.next_at.Goals as goal

pub returns-clause-there : goal.returns-clause-there
returns-clause-there c =
    let exact = subst (λ (xs : List ℕ). (i : ℕ) → Contains c.below.result.now i ↔ ((i < c.args.indexed) × Contains xs i)) c.list_of.ensures c.below.ensures.exact in
    IfSome_then c.first_from.result c.first_from.ensures.there (λ place h. (h.0, (exact place).0 h.1))

pub returns-clause-first : goal.returns-clause-first
returns-clause-first c =
    let exact = subst (λ (xs : List ℕ). (i : ℕ) → Contains c.below.result.now i ↔ ((i < c.args.indexed) × Contains xs i)) c.list_of.ensures c.below.ensures.exact in
    IfSome_then c.first_from.result c.first_from.ensures.first (λ place h i there le lt. h i ((exact i).1 (lt, there)) le)

pub returns-clause-none : goal.returns-clause-none
returns-clause-none c =
    let exact = subst (λ (xs : List ℕ). (i : ℕ) → Contains c.below.result.now i ↔ ((i < c.args.indexed) × Contains xs i)) c.list_of.ensures c.below.ensures.exact in
    none_then c.first_from.result c.first_from.ensures.none (λ h i there lt. h i ((exact i).1 (lt, there)))
