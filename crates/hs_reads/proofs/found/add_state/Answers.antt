use Rattle.std.proofs.Common.{sym, subst, ℕ, ◌<◌, List, length, set, Contains, arith}
use Rattle.hs_reads.specs.ByPoint.{pairs_by_point, IsOneMore}
use Rattle.hs_reads.proofs.RowLemmas.{row_has, row_longer}
use Rattle.hs_reads.proofs.found.add_state.Goals as goal

pub returns-then-contains-clause-there : goal.returns-then-contains-clause-there
returns-then-contains-clause-there c = λ _.
    let lt : c.args.point < length c.reach.new.rows.items = omega (arith, c.in_ok-reach.ensures.len, c.reach.new.rows.ok) in
    let has = row_has c.reach.new.rows.items c.args.point c.index_mut-row.result.now c.index_mut-row.result.now lt c.index_mut-row.ensures.value c.args.state in
    subst (λ (xs : List (ℕ × ℕ)). Contains xs (c.args.point, c.args.state)) c.in_ok-reach.ensures.same (has.0 (c.contains.ensures.0 c.if-contains.true))

pub returns-clause-absent : goal.returns-clause-absent
returns-clause-absent c = λ _ m.
    let lt : c.args.point < length c.reach.new.rows.items = omega (arith, c.in_ok-reach.ensures.len, c.reach.new.rows.ok) in
    let has = row_has c.reach.new.rows.items c.args.point c.index_mut-row.result.now c.index_mut-row.result.now lt c.index_mut-row.ensures.value c.args.state in
    let yes = c.contains.ensures.1 (has.1 (subst (λ (xs : List (ℕ × ℕ)). Contains xs (c.args.point, c.args.state)) (sym c.in_ok-reach.ensures.same) m)) in
    let none = c.if-contains.false in
    absurd (cc)

pub returns-clause-more : goal.returns-clause-more
returns-clause-more c = λ _.
    let lt : c.args.point < length c.reach.new.rows.items = omega (arith, c.in_ok-reach.ensures.len, c.reach.new.rows.ok) in
    subst (λ (xs : List (ℕ × ℕ)). IsOneMore (c.args.point, c.args.state) xs (pairs_by_point (set c.reach.new.rows.items c.args.point c.push.new.self))) c.in_ok-reach.ensures.same
    (row_longer c.reach.new.rows.items c.args.point c.index_mut-row.result.now c.push.new.self lt c.index_mut-row.ensures.value c.args.state c.in_ok-push.ensures.pushed)
