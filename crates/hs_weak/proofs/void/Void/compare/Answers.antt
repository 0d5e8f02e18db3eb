use Rattle.std.proofs.Common.{◌≡◌, ◌∙◌}
use Rattle.hs_table.specs.Entries.{env_cmp}
use Rattle.hs_weak.specs.Void.{VoidData, void_cmp}
use Rattle.hs_weak.proofs.VoidLemmas.{cmp_by_rule, cmp_by_env}
use Rattle.hs_weak.proofs.void.Void.compare.Goals as goal

pub returns-then-ne : goal.returns-then-ne
returns-then-ne c =
    let a : VoidData = record { rule = c.self.inside.rule; env = c.self.inside.env.items } in
    let b : VoidData = record { rule = c.other.inside.rule; env = c.other.inside.env.items } in
    cmp_by_rule c.cmp-by_rule.result a b c.cmp-by_rule.ensures c.if-ne.ensures ∙ (λ i. void_cmp (c.self.view_is i) (c.other.view_is i))

pub returns : goal.returns
returns c =
    let a : VoidData = record { rule = c.self.inside.rule; env = c.self.inside.env.items } in
    let b : VoidData = record { rule = c.other.inside.rule; env = c.other.inside.env.items } in
    let r = c.compare_envs.result in
    let by_env : r ≡ env_cmp a.env b.env = c.compare_envs.ensures ∙ (λ i. env_cmp (c.as_slice.ensures.value i) (c.as_slice-2.ensures.value i)) in
    cmp_by_env c.cmp-by_rule.result a b c.cmp-by_rule.ensures r c.if-ne.ensures by_env ∙ (λ i. void_cmp (c.self.view_is i) (c.other.view_is i))
