use Rattle.std.proofs.Common.{sym, ap, ◌∙◌, length, []}
use Rattle.hs_table.specs.Entries.{Env}
use Rattle.hs_types.proofs.Numbers.{env_within, env_stays}
use Rattle.hs_table_examples.proofs.NumberLemmas.{given, read}
use Rattle.hs_table_examples.proofs.numbers.union_of_two.Goals as goal

pub single_env-requires-clause-ty : goal.single_env-requires-clause-ty
single_env-requires-clause-ty c = given c.base.new.self.types c.in_ok-b.b c.in_ok-b.ensures.ok

pub single_env-requires-2-clause-ty : goal.single_env-requires-2-clause-ty
single_env-requires-2-clause-ty c = given c.base-2.new.self.types c.in_ok-a.a c.in_ok-a.ensures.ok

pub union_envs-requires-clause-a : goal.union_envs-requires-clause-a
union_envs-requires-clause-a c =
    let I = c.single_env.new.self in
    let J = c.base-2.new.self in
    env_within J c.single_env-2.new.self c.in_ok-second.ensures.grows c.in_ok-first.first (env_within I J c.in_ok-a.ensures.grows c.in_ok-first.first (given I.envs c.in_ok-first.first c.in_ok-first.ensures.ok))

pub union_envs-requires-clause-b : goal.union_envs-requires-clause-b
union_envs-requires-clause-b c = given c.single_env-2.new.self.envs c.in_ok-second.second c.in_ok-second.ensures.ok

pub union_envs-requires-clause-long : goal.union_envs-requires-clause-long
union_envs-requires-clause-long c =
    let I = c.single_env.new.self in
    let J = c.base-2.new.self in
    let K = c.single_env-2.new.self in
    let first = c.in_ok-first.first in
    let within = given I.envs first c.in_ok-first.ensures.ok in
    let same = env_stays J K c.in_ok-second.ensures.grows first (env_within I J c.in_ok-a.ensures.grows first within) ∙ env_stays I J c.in_ok-a.ensures.grows first within in
    ap (λ (e : Env). length e) (same ∙ read I.envs first [] c.in_ok-first.ensures.ok) ∙ sym (ap (λ (e : Env). length e) (read K.envs c.in_ok-second.second [] c.in_ok-second.ensures.ok))

pub returns : goal.returns
returns c = c.in_ok-env.ensures.ok.0
