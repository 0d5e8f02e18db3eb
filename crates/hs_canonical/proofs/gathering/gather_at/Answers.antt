use Rattle.std.proofs.Common.{◌≡◌, sym, ◌∙◌, ap, ◌+◌, take, All, Contains}
use Rattle.std.proofs.lemmas.Result.{on_ok_weaker}
use Rattle.hs_types.specs.Interned.{IsRow}
use Rattle.hs_rules.specs.Conclusions.{Uses}
use Rattle.hs_rules.proofs.Lists.{along}
use Rattle.hs_core.specs.Core.{CoreData, log_of}
use Rattle.hs_rank.specs.Gathering.{AddsNew}
use Rattle.hs_rank.proofs.Gathered.{rows_after, by_front, deduced_of, gathered_by, found_known}
use Rattle.hs_canonical.proofs.gathering.gather_at.Goals as goal

pub keep_new-requires-clause-known : goal.keep_new-requires-clause-known
keep_new-requires-clause-known c =
    let found = c.in_ok-found.found.items in
    along (λ i. All (λ d. IsRow (sym c.replica.ensures.ids i) d.row) found) (λ k d lt. (c.in_ok-found.ensures.found.deduced k d lt).row)

pub returns-clause-kept : goal.returns-clause-kept
returns-clause-kept c = on_ok_weaker c.keep_new.result (λ adds. c.in_ok-found.ensures.kept) c.keep_new.ensures

pub returns-clause-gathered : goal.returns-clause-gathered
returns-clause-gathered c =
    let a = c.args.core.now in
    let m = c.at_place.new.self in
    let found = c.in_ok-found.found.items in
    let front = take (c.args.place + 1) (log_of a) in
    let log : c.replica.result.now.log ≡ log_of a = c.replica.ensures.log ∙ ap (λ (x : CoreData). log_of x) c.in_ok-found.ensures.kept in
    on_ok_weaker c.keep_new.result
    (λ adds. gathered_by a.base.problem (log_of a) a.ids m.ids c.args.fresh.now.list.items c.keep_new.new.fresh.list.items (Contains found) c.in_ok-found.ensures.grows
    (deduced_of a.base.problem m.ids front (log_of a) found c.in_ok-found.ensures.found.deduced (λ s e by. by_front a.base.problem (c.args.place + 1) (log_of a) s e by)) c.requires.fresh
    (along (λ i. AddsNew (c.replica.ensures.ids i) (log i) (Contains found) c.args.fresh.now.list.items c.keep_new.new.fresh.list.items) adds)) c.keep_new.ensures

pub returns-clause-all : goal.returns-clause-all
returns-clause-all c =
    let a = c.args.core.now in
    let m = c.at_place.new.self in
    let found = c.in_ok-found.found.items in
    let front = take (c.args.place + 1) (log_of a) in
    let log : c.replica.result.now.log ≡ log_of a = c.replica.ensures.log ∙ ap (λ (x : CoreData). log_of x) c.in_ok-found.ensures.kept in
    on_ok_weaker c.keep_new.result
    (λ adds s e at by among. found_known a.base.problem m.ids front (log_of a) c.args.point (Uses c.args.place) found c.args.fresh.now.list.items c.keep_new.new.fresh.list.items c.in_ok-found.ensures.found
    (along (λ i. AddsNew (c.replica.ensures.ids i) (log i) (Contains found) c.args.fresh.now.list.items c.keep_new.new.fresh.list.items) adds) s e at by among) c.keep_new.ensures

pub keep_new-requires-clause-gathered : goal.keep_new-requires-clause-gathered
keep_new-requires-clause-gathered c =
    let a = c.args.core.now in
    let xs = c.args.fresh.now.list.items in
    along (λ i. All (λ d. IsRow (sym c.replica.ensures.ids i) d.row) xs) (rows_after a.base.problem a.ids c.at_place.new.self.ids c.in_ok-found.ensures.grows (log_of a) xs c.requires.fresh)
