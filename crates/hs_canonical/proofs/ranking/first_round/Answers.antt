use Rattle.std.proofs.Common.{◌≡◌, sym, ◌∙◌, ap, subst, ℕ, List, length, Contains}
use Rattle.std.proofs.lemmas.Result.{on_ok_weaker}
use Rattle.hs_scheme.proofs.Lists.{none_in}
use Rattle.hs_table.specs.Entries.{EntryData}
use Rattle.hs_table.specs.Follows.{FollowsBy}
use Rattle.hs_rules.specs.Conclusions.{DeducedData}
use Rattle.hs_core.specs.Core.{CoreData, log_of}
use Rattle.hs_rank.specs.Gathering.{AreNewDeduced, IsKnown}
use Rattle.hs_rank.specs.Ranked.{HoldsRound, IsAtRound}
use Rattle.hs_rank.proofs.Filling.{nothing_ranked, seeds_follow}
use Rattle.hs_canonical.specs.Ranking.{IsRanking}
use Rattle.hs_canonical.proofs.ranking.first_round.Goals as goal

pub gather_seeds-requires : goal.gather_seeds-requires
gather_seeds-requires c = record { fresh = λ d there. absurd (none_in d (subst (λ (xs : List DeducedData). Contains xs d) c.in_ok-fresh.ensures there)) }

pub add_round-requires-clause-fresh : goal.add_round-requires-clause-fresh
add_round-requires-clause-fresh c =
    let m = c.gather_seeds.new.core in
    subst (λ (x : CoreData). AreNewDeduced x.base.problem m.ids (log_of x) c.gather_seeds.new.fresh.list.items) (sym c.in_ok-gather_seeds.ensures.kept) c.in_ok-gather_seeds.ensures.gathered.fresh

pub add_round-requires-clause-all : goal.add_round-requires-clause-all
add_round-requires-clause-all c =
    let a = c.args.core.now in
    let m = c.gather_seeds.new.core in
    let xs = c.gather_seeds.new.fresh.list.items in
    subst (λ (x : CoreData). (s : _) (e : EntryData) → FollowsBy x.base.problem (log_of x) s e → IsKnown m.ids (log_of x) xs s e) (sym c.in_ok-gather_seeds.ensures.kept)
    (λ s e follows. seeds_follow a.base.problem (IsKnown m.ids (log_of a) xs) c.in_ok-gather_seeds.ensures.all s e (subst (λ (L : List EntryData). FollowsBy a.base.problem L s e) c.requires.none follows))

pub add_round-requires-clause-ranked : goal.add_round-requires-clause-ranked
add_round-requires-clause-ranked c =
    let a = c.args.core.now in
    (0, subst (λ (x : CoreData). HoldsRound x.base.problem 0 (log_of x)) (sym c.in_ok-gather_seeds.ensures.kept) (subst (λ (L : List EntryData). HoldsRound a.base.problem 0 L) (sym c.requires.none) (nothing_ranked a.base.problem)))

pub add_round-requires-clause-ranking : goal.add_round-requires-clause-ranking
add_round-requires-clause-ranking c =
    let r = c.requires.ranking in
    subst (λ (x : CoreData). IsRanking c.args.ticket x) (sym c.in_ok-gather_seeds.ensures.kept) (record { fits = r.fits; holds = r.holds; supports = r.supports })

pub returns-clause-base : goal.returns-clause-base
returns-clause-base c = on_ok_weaker c.add_round.result (λ same. same ∙ ap (λ (x : CoreData). x.base) c.in_ok-gather_seeds.ensures.kept) c.add_round.ensures.base

pub returns-clause-at : goal.returns-clause-at
returns-clause-at c =
    let kept = c.in_ok-gather_seeds.ensures.kept in
    let new = c.add_round.new.core in
    let none : length (log_of c.gather_seeds.new.core) ≡ 0 = ap (λ (L : List EntryData). length L) (ap (λ (x : CoreData). log_of x) kept ∙ c.requires.none) in
    on_ok_weaker c.add_round.result (λ at. subst (λ (n : ℕ). IsAtRound c.args.core.now.base.problem n (log_of new)) none (subst (λ (x : CoreData). IsAtRound x.base.problem (length (log_of c.gather_seeds.new.core)) (log_of new)) kept at)) c.add_round.ensures.at

pub returns-clause-ranking : goal.returns-clause-ranking
returns-clause-ranking c = c.add_round.ensures.ranking
