use Rattle.std.proofs.Common.{◌≡◌, ◌∙◌}
use Rattle.hs_table.specs.Entries.{EntryData, env_cmp, entry_cmp}
use Rattle.hs_table.proofs.OrderLemmas.{cmp_by_point, cmp_by_env, cmp_by_type}
use Rattle.hs_table.proofs.entry.Entry.compare.Goals as goal

pub returns-then-ne : goal.returns-then-ne
returns-then-ne c =
    let a : EntryData = record { point = c.self.inside.point; env = c.self.inside.env.items; ty = c.self.inside.ty } in
    let b : EntryData = record { point = c.other.inside.point; env = c.other.inside.env.items; ty = c.other.inside.ty } in
    let p = c.cmp-by_point.result in
    cmp_by_point p p p a b c.cmp-by_point.ensures c.if-ne.ensures ∙ (λ i. entry_cmp (c.self.view_is i) (c.other.view_is i))

pub returns-then-ne-2 : goal.returns-then-ne-2
returns-then-ne-2 c =
    let a : EntryData = record { point = c.self.inside.point; env = c.self.inside.env.items; ty = c.self.inside.ty } in
    let b : EntryData = record { point = c.other.inside.point; env = c.other.inside.env.items; ty = c.other.inside.ty } in
    let r = c.compare_envs-by_env.result in
    let by_env : r ≡ env_cmp a.env b.env = c.compare_envs-by_env.ensures ∙ (λ i. env_cmp (c.as_slice.ensures.value i) (c.as_slice-2.ensures.value i)) in
    cmp_by_env c.cmp-by_point.result r r a b c.cmp-by_point.ensures c.if-ne.ensures by_env c.if-ne-2.ensures ∙ (λ i. entry_cmp (c.self.view_is i) (c.other.view_is i))

pub returns : goal.returns
returns c =
    let a : EntryData = record { point = c.self.inside.point; env = c.self.inside.env.items; ty = c.self.inside.ty } in
    let b : EntryData = record { point = c.other.inside.point; env = c.other.inside.env.items; ty = c.other.inside.ty } in
    let r = c.compare_envs-by_env.result in
    let by_env : r ≡ env_cmp a.env b.env = c.compare_envs-by_env.ensures ∙ (λ i. env_cmp (c.as_slice.ensures.value i) (c.as_slice-2.ensures.value i)) in
    cmp_by_type c.cmp-by_point.result r c.compare.result a b c.cmp-by_point.ensures c.if-ne.ensures by_env c.if-ne-2.ensures c.compare.ensures
    ∙ (λ i. entry_cmp (c.self.view_is i) (c.other.view_is i))
