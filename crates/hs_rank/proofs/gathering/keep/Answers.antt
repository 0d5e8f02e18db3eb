use Rattle.std.proofs.Common.{◌≡◌, subst, ◌∷◌, ◌++◌, [], slice_get, Some, Contains}
use Rattle.hs_scheme.proofs.Lists.{Contains-at}
use Rattle.hs_types.specs.Interned.{entry_of}
use Rattle.hs_rules.specs.Conclusions.{DeducedData}
use Rattle.hs_rules.proofs.FoundLemmas.{lowers_keeps, pushed_there, found_keeps, found_only}
use Rattle.hs_rank.proofs.Keeping.{adds_known, adds_one}
use Rattle.hs_rank.proofs.gathering.keep.Goals as goal

pub returns-in-Some : goal.returns-in-Some
returns-in-Some c =
    let r = c.args.replica.now in
    let there = subst (λ (x : DeducedData). slice_get r.log c.in-Some._place ≡ Some (entry_of r.ids x.row)) c.deduced.view_is c.in-Some.ensures.found in
    adds_known r.ids r.log c.args.fresh.now.list.items c.args.fresh.now.list.items c.args.deduced (Contains-at r.log c.in-Some._place (entry_of r.ids c.args.deduced.row) there)

pub returns : goal.returns
returns c =
    let r = c.args.replica.now in
    let d = c.args.deduced in
    let old = c.args.fresh.now.list.items in
    let new = c.push.new.self.items in
    let is : new ≡ old ++ d ∷ [] = c.in_ok-push.ensures.items in
    let absent = subst (λ (x : DeducedData). Contains r.log (entry_of r.ids x.row) → ⊥) c.deduced.view_is c.in_default.ensures.absent in
    adds_one r.ids r.log old new d (lowers_keeps old new (found_keeps old new d is)) (found_only old new d is) (pushed_there old new d is) absent
