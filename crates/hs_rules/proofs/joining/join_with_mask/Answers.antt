use Rattle.std.proofs.Common.{sym, ◌∙◌, ap, subst, ℕ, List, [], length, Contains, inl, inr}
use Rattle.std.specs.List.{insert}
use Rattle.hs_scheme.proofs.Lists.{here}
use Rattle.hs_types.specs.Interned.{InternerData, env_of_id, IsUnionEnv}
use Rattle.hs_types.proofs.Numbers.{Grows-refl}
use Rattle.std.proofs.lemmas.Bool.{OnFalse_at}
use Rattle.std.proofs.lemmas.List.Elements.{Contains-push}
use Rattle.hs_table.specs.Types.{IsSet}
use Rattle.hs_table.specs.Entries.{set_at}
use Rattle.hs_table_laws.proofs.Places.{within_from}
use Rattle.hs_types.specs.Interned.{entry_of}
use Rattle.hs_replica.proofs.MaskLemmas.{mask_grows}
use Rattle.hs_replica.proofs.UnionMasks.{union_of_mask, mask_of_union}
use Rattle.hs_rules.specs.Order.{chosen_places}
use Rattle.hs_rules.specs.Joins.{PartialData, SeenAre, MetAre, only_place}
use Rattle.hs_rules.proofs.Lists.{pushed_keeps, pushed_only}
use Rattle.hs_rules.proofs.OrderLemmas.{less_no_greater, places_insert}
use Rattle.hs_rules.proofs.JoinLemmas.{made_next, covered_next, pushed_there, pushed_ascends}
use Rattle.hs_rules.proofs.ExtendLemmas.{met_stays, met_more}
use Rattle.hs_rules.proofs.joining.join_with_mask.Goals as goal

pub returns-then-not-is_new-clause-joins : goal.returns-then-not-is_new-clause-joins
returns-then-not-is_new-clause-joins c = record {
  keeps = λ x there. there;
  made = λ x there. inl there;
  there = λ e at.
      let I = c.args.replica.now.ids in
      let E = env_of_id I c.args.partial.now.env in
      let r = c.requires.gathered.masked c.args.mask (OnFalse_at c.if-not-is_new.true c.in_ok-is_new.ensures.old) in
      record {
        item = r.0;
        there = r.1;
        within = r.2;
        union = union_of_mask I E e.env (env_of_id I r.0.env) c.args.mask (c.requires.mask e at) (λ j. subst (λ (K : InternerData). IsSet (set_at (env_of_id K r.0.env) j)) c.interner.ensures (c.know_numbers.ensures.env_ascends r.0.env j)) r.3;
        least = less_no_greater (chosen_places r.0.args) (insert (chosen_places c.args.partial.now.args) c.args.candidate.at c.args.candidate.place) (c.requires.before r.0 r.1);
      };
}

pub row-other-requires : goal.row-other-requires
row-other-requires c = within_from c.args.replica.now.log c.args.candidate.place c.requires.placed.entry c.requires.placed.at

pub returns-then-not-is_new-clause-gathered : goal.returns-then-not-is_new-clause-gathered
returns-then-not-is_new-clause-gathered c =
    let I = c.args.replica.now.ids in
    let n = length (env_of_id I c.args.partial.now.env) in
    let r = c.requires.gathered.masked c.args.mask (OnFalse_at c.if-not-is_new.true c.in_ok-is_new.ensures.old) in
    record {
      known = c.requires.gathered.known;
      masked = met_more I n c.args.mask c.args.out.now.met.masks.keys c.meet.new.met.masks.keys c.args.out.now.list.items r.0 c.requires.gathered.masked c.in_ok-is_new.ensures.only r.1 r.2 r.3;
      ascends = c.requires.gathered.ascends;
    }

pub returns-clause-gathered : goal.returns-clause-gathered
returns-clause-gathered c =
    let I = c.args.replica.now.ids in
    let K = c.union_with_mask.new.self.ids in
    let g = c.in_ok-joined.ensures.kept.grows in
    let from = c.args.partial.now in
    let E = env_of_id I from.env in
    let n = length E in
    let id = c.in_ok-joined.joined in
    let row = c.row-other.result in
    let old = c.args.out.now.list.items in
    let new = c.push.new.out.list.items in
    let k = c.args.candidate in
    let args = insert c.as_slice.result.now k.at (k.arg, k.place) in
    let x : PartialData = record { env = id; args = args } in
    let env_is = ap (λ (y : PartialData). y.env) c.partial.view_is in
    let from_is = c.as_slice.ensures ∙ ap (λ (y : PartialData). y.args) c.partial.view_is in
    let union = subst (λ (m : ℕ). IsUnionEnv (env_of_id I m) (env_of_id I row.env) (env_of_id K id)) env_is c.in_ok-joined.ensures.ok.1 in
    let u = c.requires.mask (entry_of I row) c.row-other.ensures.entry in
    let is = mask_of_union K E (env_of_id I row.env) (env_of_id K id) c.args.mask (record {
      long = u.long;
      own = u.own;
      other = u.other;
      of_own = mask_grows I K g n u.own E u.of_own;
      of_other = mask_grows I K g n u.other (env_of_id I row.env) u.of_other;
      united = u.united;
    }) union in
    let keeps = pushed_keeps old new x c.in_ok-push.ensures.list in
    let there = subst (λ (ys : List PartialData). Contains ys x) (sym c.in_ok-push.ensures.list) (Contains-push old x) in
    record {
      known = subst (λ (seen : List ℕ). SeenAre seen new) (sym c.in_ok-push.ensures.seen) (λ m at. let r = c.requires.gathered.known m at in (r.0, keeps r.0 r.1, r.2));
      masked = subst (λ (met : List ℕ). MetAre K n met new) (sym c.in_ok-push.ensures.met)
          (met_more K n c.args.mask c.args.out.now.met.masks.keys c.meet.new.met.masks.keys new x (met_stays I K g n c.args.out.now.met.masks.keys old new keeps c.requires.gathered.masked) c.in_ok-is_new.ensures.only there c.in_ok-joined.ensures.ok.0 is);
      ascends = pushed_ascends old new id args (insert (chosen_places from.args) k.at k.place) (ap (λ (a : List (ℕ × ℕ)). chosen_places (insert a k.at (k.arg, k.place))) from_is ∙ places_insert from.args k.at k.arg k.place) c.in_ok-push.ensures.list c.requires.gathered.ascends c.requires.before;
    }

pub returns-clause-joins : goal.returns-clause-joins
returns-clause-joins c =
    let I = c.args.replica.now.ids in
    let K = c.union_with_mask.new.self.ids in
    let log = c.args.replica.now.log in
    let from = c.args.partial.now in
    let k = c.args.candidate in
    let at = k.at in
    let place = k.place in
    let f = only_place k.arg place in
    let row = c.row-other.result in
    let id = c.in_ok-joined.joined in
    let old = c.args.out.now.list.items in
    let new = c.push.new.out.list.items in
    let args = insert c.as_slice.result.now at (k.arg, place) in
    let x : PartialData = record { env = id; args = args } in
    let env_is = ap (λ (y : PartialData). y.env) c.partial.view_is in
    let from_is = c.as_slice.ensures ∙ ap (λ (y : PartialData). y.args) c.partial.view_is in
    let is_row = c.row-other.ensures.entry in
    let union = subst (λ (n : ℕ). IsUnionEnv (env_of_id I n) (env_of_id I row.env) (env_of_id K id)) env_is c.in_ok-joined.ensures.ok.1 in
    let g = Grows-refl I in
    let h = c.in_ok-joined.ensures.kept.grows in
    record {
      keeps = pushed_keeps old new x c.in_ok-push.ensures.list;
      made = made_next I I K log from f at g h c.requires.env row place id is_row (here place []) c.in_ok-joined.ensures.ok.0 union old old new (λ y there. inl there)
          (λ y there. elim (pushed_only old new x c.in_ok-push.ensures.list y there) [
            | inl was ↦ inl was
            | inr is ↦ inr (is ∙ (λ i. record { env = id; args = insert (from_is i) at (k.arg, place) }))
          ]);
      there = λ e e_at. covered_next I I K log from f at g h c.requires.env row place id is_row (here place []) c.in_ok-joined.ensures.ok.0 union new
          (pushed_there old new id args (insert (chosen_places from.args) at place) (ap (λ (a : List (ℕ × ℕ)). chosen_places (insert a at (k.arg, place))) from_is ∙ places_insert from.args at k.arg place) c.in_ok-push.ensures.list) e e_at;
    }
