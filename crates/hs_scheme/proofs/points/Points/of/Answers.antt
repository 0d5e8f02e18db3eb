use Rattle.std.proofs.Common.{◌≡◌, sym, ◌∙◌, ap, subst, ℕ, List, ◌∷◌, [], ◌++◌, ◌^◌, ◌<◌, ◌≤◌, length, take, sum, arith}
use Rattle.std.proofs.lemmas.List.{take_all, length-map}
use Rattle.std.proofs.lemmas.Result.{err_from_is_err_and}
use Rattle.hs_scheme.specs.declared.term.Rule.{Rule}
use Rattle.hs_scheme.specs.declared.points.Row.{Row}
use Rattle.hs_scheme.specs.Scheme.{SchemeData, AreRules}
use Rattle.hs_scheme.specs.sorting.Parameters.{counts_of}
use Rattle.hs_scheme.specs.flow.Points.{PointData, PointsData, IsPoints, rules_points, term_points, bodies, points_of}
use Rattle.hs_scheme.specs.flow.Rows.{point_of, points_in, places_in, ArePlacesOfArguments, rules_places}
use Rattle.hs_scheme.proofs.ParameterLemmas.{sum_few}
use Rattle.hs_scheme.proofs.PointLemmas.{rule_more, rule_length, body_more, rule_many, are_points}
use Rattle.hs_scheme.proofs.RowLemmas.{rule_places_more}
use Rattle.hs_scheme.proofs.PlaceLemmas.{exact, once}
use Rattle.hs_scheme.proofs.points.Points.of.Goals as goal

as_many : (args : List ℕ) (rows : List Row) → length (points_in args rows) ≡ length rows
as_many args rows = length-map rows (point_of args)

-- all rules have their points
all_points : (rules : List Rule) (i : ℕ) (points : List PointData) (places params : List ℕ) → length rules ≤ i → points ≡ rules_points 0 0 (take i rules) → places ≡ bodies 0 (take i rules) → params ≡ counts_of rules
    → record { points = points; bodies = places; params = params } ≡ points_of rules
all_points rules i points places params all so_far numbered counted =
    let whole : take i rules ≡ rules = take_all i rules all in
    λ j. record { points = (so_far ∙ ap (rules_points 0 0) whole) j; bodies = (numbered ∙ ap (bodies 0) whole) j; params = counted j }

pub of-requires : goal.of-requires
of-requires c =
    subst (λ (rules : List Rule). sum (counts_of rules) < 2 ^ 32) (sym c.as_slice.ensures.value)
    (omega (arith, sum_few c.scheme.inside.rules.items 64 c.scheme.invariant.few_params, c.scheme.invariant.few_rules))

pub returns-in_err-add_term : goal.returns-in_err-add_term
returns-in_err-add_term c =
    let p = err_from_is_err_and c.from_residual-in_err-add_term.result c.from_residual-in_err-add_term.ensures.1 in
    let points = points_in c.loop-number.rows.args.items c.loop-number.rows.points.items in
    rw p.1 (record {
      points = tt;
      few = tt;
      many = λ h. subst (λ (rules : List Rule). 500000 < length (rules_points 0 0 rules)) (c.deref-rule-items.ensures.value ∙ ap (λ (s : SchemeData). s.rules) c.scheme.view_is)
          (rule_many c.loop-number.number c.deref-rule-items.result.now c.rule-item.result points c.loop-number-test.true c.rule-item.is c.loop-number.invariant.points 500000
          (omega (arith, as_many c.loop-number.rows.args.items c.loop-number.rows.points.items, c.in_err-add_term.ensures.many (cc (p.2, h)))));
    })

pub returns-in_err-params : goal.returns-in_err-params
returns-in_err-params c =
    let p = err_from_is_err_and c.from_residual.result c.from_residual.ensures.1 in
    rw p.1 (record { points = tt; few = tt; many = λ h. absurd (cc (p.2, h)) })

pub returns-in_err-bodies : goal.returns-in_err-bodies
returns-in_err-bodies c =
    let p = err_from_is_err_and c.from_residual-in_err-bodies.result c.from_residual-in_err-bodies.ensures.1 in
    rw p.1 (record { points = tt; few = tt; many = λ h. absurd (cc (p.2, h)) })

pub push_reserved-requires : goal.push_reserved-requires
push_reserved-requires c = omega (arith, c.loop-number.invariant.numbered, c.loop-number.invariant.bodies_room, c.loop-number-test.true)

pub loop-number-init : goal.loop-number-init
loop-number-init c =
    let none = ap (λ (rows : List Row). length rows) c.new.ensures.items in
    record {
      points = ap (points_in c.new-2.result.items) c.new.ensures.items;
      places = ap places_in c.new.ensures.items;
      bodies = c.in_ok-bodies.ensures.items;
      numbered = c.in_ok-bodies.ensures.len;
      bodies_room = omega (arith, c.in_ok-bodies.ensures.capacity, c.len.ensures, ap (λ (rules : List Rule). length rules) c.deref-rule-items.ensures.value, c.scheme.inside.rules.ok.0);
      ranges = λ k d l. absurd (omega (arith, none));
      few = omega (arith, none);
      room = omega (arith, none, ap (λ (args : List ℕ). length args) c.new-2.ensures.items);
    }

pub add_term-requires : goal.add_term-requires
add_term-requires c = record { few = c.loop-number.invariant.few; args = c.loop-number.invariant.room; ranges = c.loop-number.invariant.ranges }

pub returns-clause-points : goal.returns-clause-points
returns-clause-points c =
    let rules = c.deref-rule-items.result.now in
    all_points rules c.loop-number.number (points_in c.loop-number.rows.args.items c.loop-number.rows.points.items) c.loop-number.bodies.items c.in_ok-params.params c.loop-number-test.false c.loop-number.invariant.points c.loop-number.invariant.bodies
    (c.in_ok-params.ensures ∙ ap counts_of (c.as_slice.ensures.value ∙ sym c.deref-rule-items.ensures.value))
    ∙ ap points_of (c.deref-rule-items.ensures.value ∙ ap (λ (s : SchemeData). s.rules) c.scheme.view_is)

pub returns-clause-few : goal.returns-clause-few
returns-clause-few c =
    subst (λ n. n ≤ 500000) (sym (as_many c.loop-number.rows.args.items c.loop-number.rows.points.items)) c.loop-number.invariant.few

pub returns-clause-many : goal.returns-clause-many
returns-clause-many c = λ h. absurd (cc h)

pub loop-number-preserved : goal.loop-number-preserved
loop-number-preserved c =
    let rules = c.deref-rule-items.result.now in
    let rows = c.loop-number.rows.points.items in
    let points = points_in c.loop-number.rows.args.items rows in
    let count : length points ≡ length rows = as_many c.loop-number.rows.args.items rows in
    record {
      points = rule_more c.loop-number.number rules c.rule-item.result points c.loop-number-test.true c.rule-item.is c.loop-number.invariant.points
          (points_in c.add_term.new.rows.args.items c.add_term.new.rows.points.items) (c.in_ok-add_term.ensures.added ∙ ap (λ n. points ++ term_points c.loop-number.number n c.rule-item.result.body) (sym count));
      places = rule_places_more c.loop-number.number (length rows) rules c.rule-item.result (places_in rows) (places_in c.add_term.new.rows.points.items) c.loop-number-test.true c.rule-item.is
          (sym count ∙ rule_length c.loop-number.number rules c.rule-item.result points c.loop-number-test.true c.rule-item.is c.loop-number.invariant.points)
          c.loop-number.invariant.places c.in_ok-add_term.ensures.places;
      bodies = body_more c.loop-number.number rules c.rule-item.result points c.loop-number-test.true c.rule-item.is c.loop-number.invariant.points
          c.loop-number.bodies.items c.push_reserved.new.self.items c.loop-number.invariant.bodies (c.push_reserved.ensures.items ∙ ap (λ n. c.loop-number.bodies.items ++ n ∷ []) (omega (arith, count)));
      numbered = omega (arith, c.push_reserved.ensures.len, c.loop-number.invariant.numbered);
      bodies_room = omega (arith, c.push_reserved.ensures.capacity, c.loop-number.invariant.bodies_room);
      ranges = c.in_ok-add_term.ensures.ranges;
      few = c.in_ok-add_term.ensures.few;
      room = omega (arith, c.in_ok-add_term.ensures.args, c.loop-number.invariant.room);
    }

pub invariant_of-result : goal.invariant_of-result
invariant_of-result c =
    let rules = c.deref-rule-items.result.now in
    let args = c.loop-number.rows.args.items in
    let rows = c.loop-number.rows.points.items in
    let points : points_in args rows ≡ rules_points 0 0 rules = c.loop-number.invariant.points ∙ ap (rules_points 0 0) (take_all c.loop-number.number rules c.loop-number-test.false) in
    let places : places_in rows ≡ rules_places 0 rules = c.loop-number.invariant.places ∙ ap (rules_places 0) (take_all c.loop-number.number rules c.loop-number-test.false) in
    let numbers : c.loop-number.bodies.items ≡ bodies 0 rules = c.loop-number.invariant.bodies ∙ ap (bodies 0) (take_all c.loop-number.number rules c.loop-number-test.false) in
    let params : c.in_ok-params.params ≡ counts_of rules = c.in_ok-params.ensures ∙ ap counts_of (c.as_slice.ensures.value ∙ sym c.deref-rule-items.ensures.value) in
    let same : points_of rules ≡ record { points = points_in args rows; bodies = c.loop-number.bodies.items; params = c.in_ok-params.params } = λ j. record { points = sym points j; bodies = sym numbers j; params = sym params j } in
    record {
      are_points = subst (λ (p : PointsData). IsPoints p) same
          (are_points rules (length c.scheme.inside.ranks.items) (subst (λ (rs : List Rule). AreRules rs (length c.scheme.inside.ranks.items)) (sym c.deref-rule-items.ensures.value) c.scheme.invariant)
          (subst (λ (ps : List PointData). length ps ≤ 500000) points (omega (arith, as_many args rows, c.loop-number.invariant.few))) (once rules));
      ranges = c.loop-number.invariant.ranges;
      places = subst (λ (p : PointsData). ArePlacesOfArguments p (places_in rows)) same (subst (ArePlacesOfArguments (points_of rules)) (sym places) (exact rules));
    }
