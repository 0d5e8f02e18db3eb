use Rattle.std.proofs.Common.{◌≡◌, ◌≤◌, length, take, ◌∷◌, [], OnOk}
use Rattle.std.proofs.lemmas.Bool.{OnFalse_at}
use Rattle.hs_table.specs.Follows.{head_premise}
use Rattle.hs_rules.specs.Conclusions.{Uses}
use Rattle.hs_rules.specs.Parts.{ArePart, HasAll}
use Rattle.hs_rules.proofs.KeepLemmas.{keeps_then, as_before, as_then, lists_keep}
use Rattle.hs_rules.proofs.PartLemmas.{can_gather_later}
use Rattle.hs_rules.proofs.FoundLemmas.{lowers_none}
use Rattle.hs_rules.proofs.gathering.add_by_head.Goals as goal

pub returns-then-not-may-clause-all : goal.returns-then-not-may-clause-all
returns-then-not-may-clause-all c = λ few s e here_is follows by. absurd (OnFalse_at c.if-not-may.true c.in_ok-may.ensures.nothing s e here_is follows by)

pub add_from_head-requires-clause-part : goal.add_from_head-requires-clause-part
add_from_head-requires-clause-part c =
    let s = c.args.at.now.search in
    as_then c.args.replica.now c.may_follow.new.replica c.in_ok-may.ensures.kept
    (λ I es. ArePart c.args.at.now.problem.now I (take s.limit es) s.point (Uses c.args.place) c.args.found.now.rows.keys c.args.found.now.list.items) c.requires.part

pub returns-clause-part : goal.returns-clause-part
returns-clause-part c =
    let s = c.args.at.now.search in
    let new = c.add_from_head.new.found in
    as_before c.args.replica.now c.may_follow.new.replica c.in_ok-may.ensures.kept
    (λ I es. OnOk c.add_from_head.result (ArePart c.args.at.now.problem.now c.add_from_head.new.replica.ids (take s.limit es) s.point (Uses c.args.place) new.rows.keys new.list.items)) c.add_from_head.ensures.part

pub returns-clause-all : goal.returns-clause-all
returns-clause-all c =
    let s = c.args.at.now.search in
    as_before c.args.replica.now c.may_follow.new.replica c.in_ok-may.ensures.kept
    (λ I es. OnOk c.add_from_head.result (length c.add_from_head.new.found.list.items ≤ s.most → HasAll c.args.at.now.problem.now c.add_from_head.new.replica.ids (take s.limit es) s.point (λ x. head_premise x.head ≡ c.args.place ∷ []) c.add_from_head.new.found.list.items))
    c.add_from_head.ensures.all

pub returns-clause-kept : goal.returns-clause-kept
returns-clause-kept c =
    let mid = c.may_follow.new.replica in
    keeps_then c.args.replica.now mid c.add_from_head.new.replica (lists_keep c.args.replica.now mid c.in_ok-may.ensures.kept) c.add_from_head.ensures.kept

pub returns-then-not-may-clause-lowers : goal.returns-then-not-may-clause-lowers
returns-then-not-may-clause-lowers c = lowers_none c.args.found.now.list.items

pub add_from_head-requires-clause-can : goal.add_from_head-requires-clause-can
add_from_head-requires-clause-can c =
    can_gather_later c.args.replica.now c.may_follow.new.replica c.args.at.now (lists_keep c.args.replica.now c.may_follow.new.replica c.in_ok-may.ensures.kept) c.requires.can
