use Rattle.hs_strength.proofs.Memory.{noted}
use Rattle.hs_strength.proofs.memo.Strengths.kinds.Goals as goal

pub returns-in-Some-clause-itself : goal.returns-in-Some-clause-itself
returns-in-Some-clause-itself c = (c.requires.memo.kinds c.args.env c.in-Some.kinds c.in-Some.ensures).2

pub returns-in_err-keep_kinds-clause-memo : goal.returns-in_err-keep_kinds-clause-memo
returns-in_err-keep_kinds-clause-memo c =
    noted c.args.types.now c.see_env.new.self c.keep_kinds.new.self c.args.env c.kinds_of-kinds.result c.see_env.ensures.memo c.requires.env c.kinds_of-kinds.ensures c.in_ok-see_env.ensures.itself c.keep_kinds.ensures

pub returns-clause-memo : goal.returns-clause-memo
returns-clause-memo c =
    noted c.args.types.now c.see_env.new.self c.keep_kinds.new.self c.args.env c.kinds_of-kinds.result c.see_env.ensures.memo c.requires.env c.kinds_of-kinds.ensures c.in_ok-see_env.ensures.itself c.keep_kinds.ensures
