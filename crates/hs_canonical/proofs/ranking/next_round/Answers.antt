use Rattle.std.proofs.Common.{sym, ◌∙◌, ap, subst, suc, List, length, Contains, inl}
use Rattle.std.proofs.lemmas.Result.{on_ok_weaker}
use Rattle.hs_scheme.proofs.Lists.{none_in}
use Rattle.hs_table.specs.Entries.{EntryData}
use Rattle.hs_table.specs.Follows.{FollowsBy}
use Rattle.hs_rules.specs.Conclusions.{DeducedData}
use Rattle.hs_core.specs.Core.{CoreData, log_of}
use Rattle.hs_rank.specs.Gathering.{AreNewDeduced, IsKnown}
use Rattle.hs_rank.specs.Ranked.{HoldsRound, IsAtRound}
use Rattle.hs_rank.proofs.Filling.{all_follow}
use Rattle.hs_canonical.specs.Ranking.{IsRanking}
use Rattle.hs_canonical.proofs.ranking.next_round.Goals as goal

pub gather_places-requires-clause-fresh : goal.gather_places-requires-clause-fresh
gather_places-requires-clause-fresh c = λ d there. absurd (none_in d (subst (λ (xs : List DeducedData). Contains xs d) c.in_ok-fresh.ensures there))

pub add_round-requires-clause-fresh : goal.add_round-requires-clause-fresh
add_round-requires-clause-fresh c =
    let m = c.gather_places.new.core in
    subst (λ (x : CoreData). AreNewDeduced x.base.problem m.ids (log_of x) c.gather_places.new.fresh.list.items) (sym c.in_ok-gather_places.ensures.kept) c.in_ok-gather_places.ensures.gathered.fresh

pub add_round-requires-clause-all : goal.add_round-requires-clause-all
add_round-requires-clause-all c =
    let a = c.args.core.now in
    let m = c.gather_places.new.core in
    let xs = c.gather_places.new.fresh.list.items in
    subst (λ (x : CoreData). (s : _) (e : EntryData) → FollowsBy x.base.problem (log_of x) s e → IsKnown m.ids (log_of x) xs s e) (sym c.in_ok-gather_places.ensures.kept)
    (λ s e follows. all_follow a.base.problem c.args.from (log_of a) c.requires.at (IsKnown m.ids (log_of a) xs) (λ r x was. inl was) c.in_ok-gather_places.ensures.all s e follows)

pub add_round-requires-clause-ranked : goal.add_round-requires-clause-ranked
add_round-requires-clause-ranked c =
    (suc c.requires.at.number, subst (λ (x : CoreData). HoldsRound x.base.problem (suc c.requires.at.number) (log_of x)) (sym c.in_ok-gather_places.ensures.kept) c.requires.at.ranked)

pub add_round-requires-clause-ranking : goal.add_round-requires-clause-ranking
add_round-requires-clause-ranking c =
    let r = c.requires.ranking in
    subst (λ (x : CoreData). IsRanking c.args.ticket x) (sym c.in_ok-gather_places.ensures.kept) (record { fits = r.fits; holds = r.holds; supports = r.supports })

pub returns-clause-base : goal.returns-clause-base
returns-clause-base c = on_ok_weaker c.add_round.result (λ same. same ∙ ap (λ (x : CoreData). x.base) c.in_ok-gather_places.ensures.kept) c.add_round.ensures.base

pub returns-clause-at : goal.returns-clause-at
returns-clause-at c =
    let new = c.add_round.new.core in
    on_ok_weaker c.add_round.result (λ at. subst (λ (x : CoreData). IsAtRound x.base.problem (length (log_of x)) (log_of new)) c.in_ok-gather_places.ensures.kept at) c.add_round.ensures.at

pub returns-clause-ranking : goal.returns-clause-ranking
returns-clause-ranking c = c.add_round.ensures.ranking
