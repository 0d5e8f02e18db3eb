use Rattle.std.proofs.Common.{subst, length, false, arith}
use Rattle.std.proofs.lemmas.Result.{IfOk-weaker}
use Rattle.hs_sorts.specs.Nodes.{IsEquation}
use Rattle.hs_sorts.specs.Constraints.{node_of, IsNodeFor, AddsNode, LeavesSort, HasSortAt, IsClaim, IsRuled}
use Rattle.hs_sorts.proofs.Claiming.{same_sort, no_second}
use Rattle.hs_sorts.proofs.Typing.{nodes_wider, has_same}
use Rattle.hs_sorts.proofs.Ruling.{long, nodes_below, none_left, begun, ruled}
use Rattle.hs_sorts.proofs.constraints.make_rule.Goals as goal

pub rest_behind-requires-clause-arguments : goal.rest_behind-requires-clause-arguments
rest_behind-requires-clause-arguments c = omega (arith, c.in_ok-first.ensures.added.0, long c.args.store.now c.in_ok-first.ensures.before c.args.rules c.args.count c.args.number c.args.rule.now c.requires.number c.requires.body c.add_all.new.self c.in_ok-first.first c.in_ok-first.ensures.added.0 c.in_ok-first.ensures.added.1)

pub rest_behind-requires-clause-node : goal.rest_behind-requires-clause-node
rest_behind-requires-clause-node c = omega (arith, c.requires.number, long c.args.store.now c.in_ok-first.ensures.before c.args.rules c.args.count c.args.number c.args.rule.now c.requires.number c.requires.body c.add_all.new.self c.in_ok-first.first c.in_ok-first.ensures.added.0 c.in_ok-first.ensures.added.1)

pub returns-in_default : goal.returns-in_default
returns-in_default c =
    none_left c.args.store.now c.in_ok-first.ensures.before c.args.rules c.args.count c.args.number c.args.rule.now c.requires.number c.requires.body c.add_all.new.self c.in_ok-first.first c.in_ok-first.ensures.added.0 c.in_ok-first.ensures.added.1
    (subst (IsNodeFor c.add_all.new.self c.rest_behind.new.store (LeavesSort c.args.number c.in_ok-first.first c.args.rule.now.params)) c.in_default.is c.in_ok-rest.ensures)

pub returns-then-number-count : goal.returns-then-number-count
returns-then-number-count c =
    begun c.args.store.now c.in_ok-first.ensures.before c.args.rules c.args.count c.args.number c.args.rule.now c.requires.number c.requires.body c.add_all.new.self c.in_ok-first.first c.in_ok-first.ensures.added.0 c.in_ok-first.ensures.added.1 c.rest_behind.new.store c.in-Some.rest (c.if-number-count.true)
    (subst (IsNodeFor c.add_all.new.self c.rest_behind.new.store (LeavesSort c.args.number c.in_ok-first.first c.args.rule.now.params)) c.in-Some.is c.in_ok-rest.ensures)

pub term_sort-requires-clause-nodes : goal.term_sort-requires-clause-nodes
term_sort-requires-clause-nodes c =
    let rest : AddsNode c.add_all.new.self c.rest_behind.new.store c.in-Some.rest (LeavesSort c.args.number c.in_ok-first.first c.args.rule.now.params) = (subst (IsNodeFor c.add_all.new.self c.rest_behind.new.store (LeavesSort c.args.number c.in_ok-first.first c.args.rule.now.params)) c.in-Some.is c.in_ok-rest.ensures) in
    nodes_wider (node_of c.args.rules c.in_ok-first.first) (length c.add_all.new.self) (length c.rest_behind.new.store) c.args.rule.now.body rest.longer
    (nodes_below c.args.store.now c.in_ok-first.ensures.before c.args.rules c.args.count c.args.number c.args.rule.now c.requires.number c.requires.body c.add_all.new.self c.in_ok-first.first c.in_ok-first.ensures.added.0 c.in_ok-first.ensures.added.1)

pub returns-in_default-2 : goal.returns-in_default-2
returns-in_default-2 c =
    ruled c.args.store.now c.in_ok-first.ensures.before c.args.rules c.args.count c.args.number c.args.rule.now c.requires.number c.requires.body c.add_all.new.self c.in_ok-first.first c.in_ok-first.ensures.added.0 c.in_ok-first.ensures.added.1 c.term_sort.new.store false (c.if-number-count.false)
    (no_second c.add_all.new.self c.rest_behind.new.store c.in-Some.rest (LeavesSort c.args.number c.in_ok-first.first c.args.rule.now.params) (HasSortAt (node_of c.args.rules c.in_ok-first.first) c.args.rule.now.body) (subst (IsNodeFor c.add_all.new.self c.rest_behind.new.store (LeavesSort c.args.number c.in_ok-first.first c.args.rule.now.params)) c.in-Some.is c.in_ok-rest.ensures)
    (λ v w k same h. has_same (node_of c.args.rules c.in_ok-first.first) (length c.add_all.new.self) v w same c.args.rule.now.body k (nodes_below c.args.store.now c.in_ok-first.ensures.before c.args.rules c.args.count c.args.number c.args.rule.now c.requires.number c.requires.body c.add_all.new.self c.in_ok-first.first c.in_ok-first.ensures.added.0 c.in_ok-first.ensures.added.1) h)
    (subst (IsNodeFor c.rest_behind.new.store c.term_sort.new.store (HasSortAt (node_of c.args.rules c.in_ok-first.first) c.args.rule.now.body)) c.in_default-2.is c.in_ok-body.ensures))

pub returns : goal.returns
returns c =
    IfOk-weaker c.equate.result (IsEquation c.in-Some.rest c.in-Some-2.body c.term_sort.new.store c.equate.new.self)
    (IsClaim c.args.store.now c.equate.new.self (IsRuled c.args.rules c.args.count c.args.number c.args.rule.now)) (λ answer e.
    ruled c.args.store.now c.in_ok-first.ensures.before c.args.rules c.args.count c.args.number c.args.rule.now c.requires.number c.requires.body c.add_all.new.self c.in_ok-first.first c.in_ok-first.ensures.added.0 c.in_ok-first.ensures.added.1 c.equate.new.self answer (c.if-number-count.false)
    (same_sort c.add_all.new.self c.rest_behind.new.store c.term_sort.new.store c.in-Some.rest c.in-Some-2.body (LeavesSort c.args.number c.in_ok-first.first c.args.rule.now.params) (HasSortAt (node_of c.args.rules c.in_ok-first.first) c.args.rule.now.body) (subst (IsNodeFor c.add_all.new.self c.rest_behind.new.store (LeavesSort c.args.number c.in_ok-first.first c.args.rule.now.params)) c.in-Some.is c.in_ok-rest.ensures)
    (subst (IsNodeFor c.rest_behind.new.store c.term_sort.new.store (HasSortAt (node_of c.args.rules c.in_ok-first.first) c.args.rule.now.body)) c.in-Some-2.is c.in_ok-body.ensures)
    (λ v w k same h. has_same (node_of c.args.rules c.in_ok-first.first) (length c.add_all.new.self) v w same c.args.rule.now.body k (nodes_below c.args.store.now c.in_ok-first.ensures.before c.args.rules c.args.count c.args.number c.args.rule.now c.requires.number c.requires.body c.add_all.new.self c.in_ok-first.first c.in_ok-first.ensures.added.0 c.in_ok-first.ensures.added.1) h)
    c.equate.new.self answer e)) c.equate.ensures
