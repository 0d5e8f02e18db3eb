use Rattle.std.proofs.Common.{◌≡◌, ◌≢◌, AllPairs, sym, ◌∙◌, ap, subst, ℕ, nat_eq, ◌&&◌, cond, ◌++◌, ◌∷◌, [], List, length, sum, slice_get, Some, Contains, ◌↔◌, ◌<◌, ◌+◌, arith}
use Rattle.std.proofs.lemmas.Option.{slice_get_within, slice_get-get_or}
use Rattle.hs_scheme.specs.Key.{key_eq}
use Rattle.hs_scheme.specs.declared.term.Head.{Head}
use Rattle.hs_scheme.specs.sorting.Parameters.{IsParameter}
use Rattle.hs_scheme.specs.flow.Points.{ParameterWithin, point_at}
use Rattle.hs_scheme.proofs.Lists.{none_in}
use Rattle.hs_flow.specs.Users.{UserMap, list_for, users_of, IsUser}
use Rattle.hs_flow.proofs.UserLemmas.{user_skip, user_step, once_more, all_empty}
use Rattle.hs_flow.proofs.users.Users.of.Goals as goal
use Rattle.hs_flow.proofs.users.Users.of.Goals.{in-Var+in_ok-add, in_default}

lists_stay : (old new now : UserMap) → now ≡ new → new.params ≡ old.params → length new.lists ≡ length old.lists → length old.lists ≡ sum old.params → length now.lists ≡ sum now.params
lists_stay old new now is params lists was = subst (λ (m : UserMap). length m.lists ≡ sum m.params) (sym is) (lists ∙ (was ∙ ap sum (sym params)))

pub add-requires-clause-param : goal.add-requires-clause-param
add-requires-clause-param c =
    subst (λ (ns : List ℕ). IsParameter ns c.rule_of.result c.in-Var.param) (sym c.loop-point.invariant.params)
    (subst (λ (r : ℕ). IsParameter c.args.points.now.params r c.in-Var.param) (sym c.rule_of.ensures.rule)
    (subst (λ (h : Head). ParameterWithin c.args.points.now.params (point_at c.args.points.now c.loop-point.point).rule h) c.in-Var.is c.head_of.ensures.parameter))

pub loop-point-init : goal.loop-point-init
loop-point-init c =
    let none : (rule x : ℕ) → list_for c.in_ok-params.params c.in_ok-lists.lists rule x ≡ [] = λ rule x. all_empty c.in_ok-params.params c.in_ok-lists.lists rule x c.in_ok-lists.ensures.empty in
    record {
      params = c.in_ok-params.ensures ∙ c.params.ensures.params;
      lists = c.in_ok-lists.ensures.len ∙ c.count.ensures;
      exact = λ rule x p. (λ h. absurd (none_in p (subst (λ (ps : List ℕ). Contains ps p) (none rule x) h)), λ h. absurd (omega (arith, h.0)));
      once = λ rule x. subst (λ (ps : List ℕ). AllPairs (λ a b. a ≢ b) ps) (sym (none rule x)) (λ i j d less within. absurd (omega arith));
    }

pub loop-point-preserved : goal.loop-point-preserved
loop-point-preserved c =
    let points = c.args.points.now.points in
    let n = c.loop-point.point in
    let d = point_at c.args.points.now n in
    let at : slice_get points n ≡ Some d = slice_get-get_or points n _ (omega arith) in
    let head : d.head ≡ c.head_of.result = sym c.head_of.ensures.head in
    elim c.match-head_of.branch [
      | in-Var+in_ok-add w ↦
          let grown : (rule x : ℕ) → users_of c.match-head_of.users rule x ≡ cond (key_eq (d.rule, w.in-Var.param) (rule, x)) (users_of c.loop-point.users rule x ++ n ∷ []) (users_of c.loop-point.users rule x) =
          λ rule x. ap (λ (m : UserMap). users_of m rule x) w.users-is ∙ (w.in_ok-add.ensures.added rule x
          ∙ ap (λ r. cond (nat_eq r rule && nat_eq w.in-Var.param x) (users_of c.loop-point.users rule x ++ n ∷ []) (users_of c.loop-point.users rule x)) w.rule_of.ensures.rule) in
          record {
            params = ap (λ (m : UserMap). m.params) w.users-is ∙ (w.add.ensures.params ∙ c.loop-point.invariant.params);
            lists = lists_stay c.loop-point.users w.add.new.self c.match-head_of.users w.users-is w.add.ensures.params w.in_ok-add.ensures.lists c.loop-point.invariant.lists;
            exact = user_step points n d at (users_of c.loop-point.users) c.loop-point.invariant.exact w.in-Var.param (head ∙ w.in-Var.is) (users_of c.match-head_of.users) grown;
            once = λ rule x. subst (λ (ps : List ℕ). AllPairs (λ a b. a ≢ b) ps) (sym (grown rule x))
                (once_more (users_of c.loop-point.users rule x) n (key_eq (d.rule, w.in-Var.param) (rule, x)) (λ p h. ((c.loop-point.invariant.exact rule x p).0 h).0) (c.loop-point.invariant.once rule x));
          }
      | in_default w ↦ record {
        params = ap (λ (m : UserMap). m.params) w.users-is ∙ c.loop-point.invariant.params;
        lists = subst (λ (m : UserMap). length m.lists ≡ sum m.params) (sym w.users-is) c.loop-point.invariant.lists;
        exact = subst (λ (m : UserMap). (rule x p : ℕ) → Contains (users_of m rule x) p ↔ ((p < n + 1) × IsUser points rule x p)) (sym w.users-is)
            (user_skip points n d at (users_of c.loop-point.users) c.loop-point.invariant.exact (λ x e. w.in_default.not-Var x (sym head ∙ e)));
        once = subst (λ (m : UserMap). (rule x : ℕ) → AllPairs (λ a b. a ≢ b) (users_of m rule x)) (sym w.users-is) c.loop-point.invariant.once;
      }
    ]

pub returns : goal.returns
returns c = record {
  lists = c.loop-point.invariant.lists;
  exact = λ rule x p. (
    λ h. ((c.loop-point.invariant.exact rule x p).0 h).1,
    λ u. (c.loop-point.invariant.exact rule x p).1 (omega (arith, slice_get_within c.args.points.now.points p u.of u.at), u),
  );
  once = c.loop-point.invariant.once;
}
