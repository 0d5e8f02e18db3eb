use Rattle.std.proofs.Common.{◌≡◌, sym, ◌∙◌, ap, subst, ℕ, List, length, Contains, ◌⊎◌, ◌↔◌, inl, inr}
use Rattle.std.proofs.lemmas.List.{take_all}
use Rattle.hs_scheme.proofs.Lists.{none_in}
use Rattle.hs_table.specs.Entries.{EntryData}
use Rattle.hs_table_plain.specs.Enumeration.{joined}
use Rattle.hs_types.specs.Interned.{env_of_id, entry_of}
use Rattle.hs_types.proofs.Numbers.{Grows-refl, Grows-trans, env_within, env_stays}
use Rattle.hs_checker.specs.Numbers.{opened, opened_by, IsJoined}
use Rattle.hs_checker.proofs.AnyLemmas.{any_step_beside}
use Rattle.hs_checker.proofs.UnionSteps.{joined_one, opened_more, envs_more, env_at}
use Rattle.hs_checker.proofs.unions.add_unions.Goals as goal

pub union_envs-requires-clause-a : goal.union_envs-requires-clause-a
union_envs-requires-clause-a c =
    let I = c.args.types.now in
    let x = env_at (length (env_of_id I c.args.row.now.env)) I c.args.kept.now c.loop-env.env-index c.env-item.result c.loop-env-test.true c.env-item.is c.requires.kept in
    env_within I c.loop-env.types c.loop-env.invariant.grows c.env-item.result x.0

pub union_envs-requires-clause-b : goal.union_envs-requires-clause-b
union_envs-requires-clause-b c = env_within c.args.types.now c.loop-env.types c.loop-env.invariant.grows c.args.row.now.env c.requires.row.0

pub union_envs-requires-clause-long : goal.union_envs-requires-clause-long
union_envs-requires-clause-long c =
    let I = c.args.types.now in
    let J = c.loop-env.types in
    let x = env_at (length (env_of_id I c.args.row.now.env)) I c.args.kept.now c.loop-env.env-index c.env-item.result c.loop-env-test.true c.env-item.is c.requires.kept in
    ap length (env_stays I J c.loop-env.invariant.grows c.env-item.result x.0) ∙ (x.1 ∙ sym (ap length (env_stays I J c.loop-env.invariant.grows c.args.row.now.env c.requires.row.0)))

pub loop-env-init : goal.loop-env-init
loop-env-init c = record {
  grows = Grows-refl c.args.types.now;
  range = c.requires.found;
  each = λ u e. (λ k. inl k, λ h. elim h [ inl k ↦ k | inr a ↦ absurd (none_in a.item a.there) ]);
}

pub loop-env-preserved : goal.loop-env-preserved
loop-env-preserved c =
    let I = c.args.types.now in
    let J = c.loop-env.types in
    let K = c.union_envs.new.self in
    let h = c.loop-env.invariant in
    let n = length (env_of_id I c.args.row.now.env) in
    let k = c.env-item.result in
    let id = c.in_ok-union_envs.field-0 in
    let news = c.push.new.self.items in
    let x = env_at n I c.args.kept.now c.loop-env.env-index k c.loop-env-test.true c.env-item.is c.requires.kept in
    let made = c.in_ok-union_envs.ensures.ok in
    let long = made.1.long ∙ (ap length (env_stays I J h.grows k x.0) ∙ x.1) in
    record {
      grows = Grows-trans I J K h.grows c.union_envs.ensures.grows;
      range = envs_more J K c.union_envs.ensures.grows n c.loop-env.found.items news id h.range (made.0, long) c.in_ok-push.ensures.items;
      each = λ u.
          let is = joined_one I J K h.grows c.know_numbers.ensures c.args.row.now c.requires.row k id n x.0 x.1 made u in
          any_step_beside (λ (k : ℕ) (y : EntryData). y ≡ joined (opened u (env_of_id I k)) (entry_of I c.args.row.now)) c.args.kept.now c.loop-env.env-index k c.loop-env-test.true c.env-item.is
          (λ e. Contains (opened_by I u c.args.found.now.items) e) (λ e. Contains (opened_by J u c.loop-env.found.items) e) (λ e. Contains (opened_by K u news) e)
          (λ e. subst (λ (z : EntryData). Contains (opened_by K u news) e ↔ (Contains (opened_by J u c.loop-env.found.items) e ⊎ (e ≡ z))) is
          (opened_more J K c.union_envs.ensures.grows n c.loop-env.found.items news id h.range c.in_ok-push.ensures.items u e))
          (h.each u);
    }

pub returns-clause-each : goal.returns-clause-each
returns-clause-each c = λ u e.
    let I = c.args.types.now in
    let all = c.loop-env.invariant.each u e in
    subst (λ (ks : List ℕ). Contains (opened_by c.loop-env.types u c.loop-env.found.items) e ↔ (Contains (opened_by I u c.args.found.now.items) e ⊎ IsJoined I u ks c.args.row.now e))
    (take_all c.loop-env.env-index c.args.kept.now c.loop-env-test.false) all
