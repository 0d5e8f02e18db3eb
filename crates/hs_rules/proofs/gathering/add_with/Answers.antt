use Rattle.std.proofs.Common.{sym, subst, ◌≤◌, List, length, take, arith, OnOk}
use Rattle.hs_table.specs.Entries.{EntryData}
use Rattle.hs_rules.specs.Conclusions.{Uses}
use Rattle.hs_rules.specs.Found.{Lowers}
use Rattle.hs_rules.specs.Parts.{ArePart, HasAll, UsesArgument}
use Rattle.hs_rules.proofs.Lists.{on_ok_both}
use Rattle.hs_rules.proofs.KeepLemmas.{keeps_then}
use Rattle.hs_rules.proofs.PartLemmas.{can_gather_later, both_kinds}
use Rattle.hs_rules.proofs.gathering.add_with.Goals as goal

pub add_by_head-requires-clause-place : goal.add_by_head-requires-clause-place
add_by_head-requires-clause-place c = c.requires.place

pub add_by_head-requires-clause-part : goal.add_by_head-requires-clause-part
add_by_head-requires-clause-part c = c.requires.part

pub add_by_argument-requires-clause-place : goal.add_by_argument-requires-clause-place
add_by_argument-requires-clause-place c = c.requires.place

pub add_by_argument-requires-clause-part : goal.add_by_argument-requires-clause-part
add_by_argument-requires-clause-part c =
    let mid = c.add_by_head.new.found in
    subst (λ (l : List EntryData). ArePart c.args.at.now.problem.now c.add_by_head.new.replica.ids (take c.args.at.now.search.limit l) c.args.at.now.search.point (Uses c.args.place) mid.rows.keys mid.list.items)
    (sym c.in_ok-add_by_head.ensures.kept.log) c.in_ok-add_by_head.ensures.part

pub returns-in_err-add_by_head-clause-kept : goal.returns-in_err-add_by_head-clause-kept
returns-in_err-add_by_head-clause-kept c = c.add_by_head.ensures.kept

pub returns-clause-part : goal.returns-clause-part
returns-clause-part c =
    let new = c.add_by_argument.new.found in
    subst (λ (l : List EntryData). OnOk c.add_by_argument.result (ArePart c.args.at.now.problem.now c.add_by_argument.new.replica.ids (take c.args.at.now.search.limit l) c.args.at.now.search.point (Uses c.args.place) new.rows.keys new.list.items))
    c.in_ok-add_by_head.ensures.kept.log c.add_by_argument.ensures.part

pub returns-clause-all : goal.returns-clause-all
returns-clause-all c =
    let p = c.args.at.now.problem.now in
    let J = c.add_by_head.new.replica.ids in
    let K = c.add_by_argument.new.replica.ids in
    let s = c.args.at.now.search in
    let E = take s.limit c.args.replica.now.log in
    let place = c.args.place in
    let mid = c.add_by_head.new.found in
    let new = c.add_by_argument.new.found.list.items in
    let few_before : length mid.list.items ≤ s.most = omega (arith, c.if-len-at.false, c.len.ensures) in
    let by_argument = subst (λ (l : List EntryData). OnOk c.add_by_argument.result (length new ≤ s.most → HasAll p K (take s.limit l) s.point (UsesArgument place) new)) c.in_ok-add_by_head.ensures.kept.log c.add_by_argument.ensures.all in
    on_ok_both c.add_by_argument.result (Lowers mid.list.items new) (length new ≤ s.most → HasAll p K E s.point (UsesArgument place) new) (length new ≤ s.most → HasAll p K E s.point (Uses place) new)
    (λ lowers all few. both_kinds p J K E s.point place mid.rows.keys mid.list.items new c.add_by_argument.ensures.kept.grows c.in_ok-add_by_head.ensures.part lowers (c.in_ok-add_by_head.ensures.all few_before) (all few))
    c.add_by_argument.ensures.lowers by_argument

pub returns-clause-kept : goal.returns-clause-kept
returns-clause-kept c = keeps_then c.args.replica.now c.add_by_head.new.replica c.add_by_argument.new.replica c.in_ok-add_by_head.ensures.kept c.add_by_argument.ensures.kept

pub add_by_head-requires-clause-can : goal.add_by_head-requires-clause-can
add_by_head-requires-clause-can c = c.requires.can

pub add_by_argument-requires-clause-can : goal.add_by_argument-requires-clause-can
add_by_argument-requires-clause-can c = can_gather_later c.args.replica.now c.add_by_head.new.replica c.args.at.now c.in_ok-add_by_head.ensures.kept c.requires.can

pub returns-then-len-at-clause-part : goal.returns-then-len-at-clause-part
returns-then-len-at-clause-part c = c.in_ok-add_by_head.ensures.part

pub returns-then-len-at-clause-all : goal.returns-then-len-at-clause-all
returns-then-len-at-clause-all c = λ few. absurd (omega (arith, few, c.if-len-at.true, c.len.ensures))

pub returns-then-len-at-clause-kept : goal.returns-then-len-at-clause-kept
returns-then-len-at-clause-kept c = c.in_ok-add_by_head.ensures.kept
