-- the point stands without its arguments, and those so far stand behind it
use Rattle.std.proofs.Common.{◌≡◌, ◌≤◌, ◌+◌, ◌++◌, take, length, All}
use Rattle.hs_scheme.specs.Tree.{forest}
use Rattle.hs_scheme.specs.flow.Points.{numbers, terms_points}
use Rattle.hs_scheme.specs.flow.Rows.{points_in, places_in, Fits, terms_places}
use Rattle.hs_scheme.proofs.points.+add_term.Given as goal

abbrev pub invariant-loop-place : goal.invariant-loop-place
invariant-loop-place l = record {
  points : points_in l.rows.args.items l.rows.points.items ≡ points_in l.initial.rows.args.items l.initial.rows.points.items ++ terms_points l.rule (l.number + 1) (forest (take l.place l.arg-items));
  places : places_in l.rows.points.items ≡ places_in l.initial.rows.points.items ++ terms_places l.number 0 (l.number + 1) (forest (take l.place l.arg-items));
  args : l.pending.items ≡ l.initial.pending.items ++ numbers (l.number + 1) (forest (take l.place l.arg-items));
  ranges : All (Fits l.rows.args.items) l.rows.points.items;
  few : length l.rows.points.items ≤ 500000;
  room : length l.rows.args.items + l.place + length l.initial.rows.points.items ≤ length l.rows.points.items + length l.initial.rows.args.items;
}
