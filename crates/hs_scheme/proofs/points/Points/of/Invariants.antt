-- the rules so far have their points
use Rattle.std.proofs.Common.{◌≡◌, ◌≤◌, take, length, All, vec_len, vec_capacity}
use Rattle.hs_scheme.specs.flow.Points.{rules_points, bodies}
use Rattle.hs_scheme.specs.flow.Rows.{points_in, places_in, Fits, rules_places}
use Rattle.hs_scheme.proofs.points.Points.of.Given as goal

abbrev pub invariant-loop-number : goal.invariant-loop-number
invariant-loop-number l = record {
  points : points_in l.rows.args.items l.rows.points.items ≡ rules_points 0 0 (take l.number l.rule-items);
  places : places_in l.rows.points.items ≡ rules_places 0 (take l.number l.rule-items);
  bodies : l.bodies.items ≡ bodies 0 (take l.number l.rule-items);
  numbered : vec_len l.bodies ≡ l.number;
  bodies_room : length l.rule-items ≤ vec_capacity l.bodies;
  ranges : All (Fits l.rows.args.items) l.rows.points.items;
  few : length l.rows.points.items ≤ 500000;
  room : length l.rows.args.items ≤ length l.rows.points.items;
}
