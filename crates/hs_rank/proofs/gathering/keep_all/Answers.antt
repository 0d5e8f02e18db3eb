use Rattle.std.proofs.Common.{◌≡◌, ◌∙◌, ap, [], take, append-nil, ◌-◌, arith}
use Rattle.hs_types.specs.Interned.{IsRow}
use Rattle.hs_rules.specs.Conclusions.{DeducedData}
use Rattle.hs_rank.proofs.Keeping.{added_none, added_next, added_all, next_among}
use Rattle.hs_rank.proofs.gathering.keep_all.Goals as goal

pub loop-deduced-init : goal.loop-deduced-init
loop-deduced-init c = added_none c.args.replica.now.ids c.args.replica.now.log c.args.found.items c.args.fresh.now.list.items

pub keep-requires : goal.keep-requires
keep-requires c =
    let r = c.args.replica.now in
    next_among (λ (x : DeducedData). IsRow r.ids x.row) r.ids r.log c.args.found.items c.loop-deduced.left.items c.pop.new.self.items c.args.fresh.now.list.items c.loop-deduced.fresh.list.items c.in-Some.deduced c.in-Some.ensures.items
    c.loop-deduced.invariant c.requires

pub loop-deduced-preserved : goal.loop-deduced-preserved
loop-deduced-preserved c =
    let r = c.args.replica.now in
    added_next r.ids r.log c.args.found.items c.loop-deduced.left.items c.pop.new.self.items c.args.fresh.now.list.items c.loop-deduced.fresh.list.items c.keep.new.fresh.list.items c.in-Some.deduced c.in-Some.ensures.items
    c.loop-deduced.invariant c.in_ok-keep.ensures

pub returns : goal.returns
returns c =
    let r = c.args.replica.now in
    let left = c.loop-deduced.left.items in
    let e = c.in_default.ensures in
    let empty : c.loop-deduced.left.len - 1 ≡ 0 = omega (arith, e.cases.0) in
    let none : left ≡ [] = e.items ∙ (append-nil c.pop.new.self.items ∙ (e.rest ∙ ap (λ n. take n left) empty)) in
    added_all r.ids r.log c.args.found.items left c.args.fresh.now.list.items c.loop-deduced.fresh.list.items none c.loop-deduced.invariant
