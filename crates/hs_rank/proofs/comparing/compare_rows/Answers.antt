use Rattle.hs_types.specs.Interned.{entry_of}
use Rattle.hs_table.proofs.OrderLemmas.{cmp_by_point, cmp_by_env, cmp_by_type}
use Rattle.hs_rank.proofs.comparing.compare_rows.Goals as goal

pub returns-then-ne : goal.returns-then-ne
returns-then-ne c =
    let p = c.cmp-by_point.result in
    cmp_by_point p p p (entry_of c.args.interner.now c.args.row) (entry_of c.args.interner.now c.args.other) c.cmp-by_point.ensures c.if-ne.ensures

pub returns-then-ne-2 : goal.returns-then-ne-2
returns-then-ne-2 c =
    let r = c.compare_envs-by_env.result in
    cmp_by_env c.cmp-by_point.result r r (entry_of c.args.interner.now c.args.row) (entry_of c.args.interner.now c.args.other) c.cmp-by_point.ensures c.if-ne.ensures c.compare_envs-by_env.ensures c.if-ne-2.ensures

pub returns : goal.returns
returns c =
    cmp_by_type c.cmp-by_point.result c.compare_envs-by_env.result c.compare.result (entry_of c.args.interner.now c.args.row) (entry_of c.args.interner.now c.args.other) c.cmp-by_point.ensures c.if-ne.ensures c.compare_envs-by_env.ensures
    c.if-ne-2.ensures c.compare.ensures
