use Rattle.std.proofs.Common.{◌≡◌, subst, ℕ, List, slice_get, Some, Contains, IsTrue, ◌↔◌, IfOk, OnOk}
use Rattle.hs_replica.proofs.GainLemmas.{point_added, point_written}
use Rattle.hs_replica.proofs.lists.add_at.Goals as goal

pub returns-clause-adds : goal.returns-clause-adds
returns-clause-adds c =
    point_added c.args.at.now.items c.lengthen.new.at.items c.args.point c.args.place c.index_mut-list.result.now c.push_once.new.list c.in_ok-lengthen.ensures.same
    c.in_ok-lengthen.ensures.long c.index_mut-list.ensures.value c.push_once.ensures.adds

pub returns-clause-there : goal.returns-clause-there
returns-clause-there c =
    subst (λ (xs : List ℕ). OnOk c.push_once.result (Contains xs c.args.place))
    (point_written c.args.at.now.items c.lengthen.new.at.items c.args.point c.args.place c.index_mut-list.result.now c.push_once.new.list c.in_ok-lengthen.ensures.same
    c.in_ok-lengthen.ensures.long c.index_mut-list.ensures.value) c.push_once.ensures.there

pub returns-clause-first : goal.returns-clause-first
returns-clause-first c =
    subst (λ (xs : List ℕ). IfOk c.push_once.result (λ first. IsTrue first ↔ (slice_get xs 0 ≡ Some c.args.place)))
    (point_written c.args.at.now.items c.lengthen.new.at.items c.args.point c.args.place c.index_mut-list.result.now c.push_once.new.list c.in_ok-lengthen.ensures.same
    c.in_ok-lengthen.ensures.long c.index_mut-list.ensures.value) c.push_once.ensures.first
