use Rattle.std.proofs.Common.{sym, ◌∙◌, ap, subst, ℕ, List, [], length, inl, inr}
use Rattle.std.specs.List.{insert}
use Rattle.hs_scheme.proofs.Lists.{here}
use Rattle.hs_rules.specs.Order.{chosen_places}
use Rattle.hs_types.specs.Interned.{env_of_id, IsUnionEnv}
use Rattle.hs_types.proofs.Numbers.{Grows-refl}
use Rattle.hs_rules.specs.Joins.{PartialData, MetAre, only_place}
use Rattle.hs_rules.proofs.JoinLemmas.{IsThere, made_next, covered_next}
use Rattle.hs_rules.proofs.ExtendLemmas.{met_stays}
use Rattle.hs_rules.proofs.joining.join_one.Goals as goal

pub returns-clause-gathered : goal.returns-clause-gathered
returns-clause-gathered c =
    let I = c.args.replica.now.ids in
    let K = c.union_envs.new.self.ids in
    let n = length (env_of_id I c.args.partial.now.env) in
    record {
      known = c.in_ok-add.ensures.seen;
      masked = subst (λ (met : List ℕ). MetAre K n met c.add.new.out.list.items) (sym c.in_ok-add.ensures.met)
          (met_stays I K c.in_ok-joined.ensures.kept.grows n c.args.out.now.met.masks.keys c.args.out.now.list.items c.add.new.out.list.items c.in_ok-add.ensures.keeps c.requires.gathered.masked);
      ascends = c.in_ok-add.ensures.ascending;
    }

pub returns-clause-joins : goal.returns-clause-joins
returns-clause-joins c =
    let I = c.args.replica.now.ids in
    let K = c.union_envs.new.self.ids in
    let log = c.args.replica.now.log in
    let from = c.args.partial.now in
    let at = c.args.candidate.at in
    let place = c.args.candidate.place in
    let f = only_place c.args.candidate.arg place in
    let row = c.row-other.result in
    let id = c.in_ok-joined.joined in
    let old = c.args.out.now.list.items in
    let new = c.add.new.out.list.items in
    let env_is = ap (λ (x : PartialData). x.env) c.partial.view_is in
    let from_is = c.as_slice.ensures ∙ ap (λ (x : PartialData). x.args) c.partial.view_is in
    let is_row = c.row-other.ensures.entry in
    let union = subst (λ (n : ℕ). IsUnionEnv (env_of_id I n) (env_of_id I row.env) (env_of_id K id)) env_is c.in_ok-joined.ensures.ok.1 in
    let g = Grows-refl I in
    let h = c.in_ok-joined.ensures.kept.grows in
    record {
      keeps = c.in_ok-add.ensures.keeps;
      made = made_next I I K log from f at g h c.requires.env row place id is_row (here place []) c.in_ok-joined.ensures.ok.0 union old old new (λ x there. inl there)
          (λ x there. elim (c.in_ok-add.ensures.only x there) [
            | inl was ↦ inl was
            | inr is ↦ inr (is ∙ (λ i. record { env = id; args = insert (from_is i) at (c.args.candidate.arg, place) }))
          ]);
      there = λ e e_at. covered_next I I K log from f at g h c.requires.env row place id is_row (here place []) c.in_ok-joined.ensures.ok.0 union new
          (subst (λ (a : List (ℕ × ℕ)). IsThere new id (insert (chosen_places a) at place)) from_is c.in_ok-add.ensures.there) e e_at;
    }
