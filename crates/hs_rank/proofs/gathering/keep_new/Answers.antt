use Rattle.std.proofs.Common.{Contains}
use Rattle.hs_rules.specs.Conclusions.{DeducedData}
use Rattle.hs_rules.specs.Found.{Lowers}
use Rattle.hs_rules.proofs.Lists.{on_ok_both}
use Rattle.hs_rank.specs.Gathering.{AddsNew}
use Rattle.hs_rank.proofs.Keeping.{adds_then, known_after}
use Rattle.hs_rank.proofs.gathering.keep_new.Goals as goal

pub merge-requires : goal.merge-requires
merge-requires c =
    let r = c.args.replica.now in
    known_after r.ids r.log c.args.found.items c.args.fresh.now.list.items c.keep_all.new.fresh.list.items c.requires.known c.requires.gathered c.in_ok-keep_all.ensures

pub returns : goal.returns
returns c =
    let r = c.args.replica.now in
    let old = c.args.fresh.now.list.items in
    let mid = c.keep_all.new.fresh.list.items in
    let new = c.merge.new.fresh.list.items in
    on_ok_both c.merge.result (Lowers mid new) ((d : DeducedData) → Contains new d → Contains mid d) (AddsNew r.ids r.log (Contains c.args.found.items) old new)
    (λ lowers only. adds_then r.ids r.log (Contains c.args.found.items) old mid new c.in_ok-keep_all.ensures lowers only) c.merge.ensures.lowers c.merge.ensures.only
