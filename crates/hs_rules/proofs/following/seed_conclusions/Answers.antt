use Rattle.std.proofs.Common.{◌≡◌, sym, ◌∙◌, ap, ℕ, [], refl, subst, length, take, arith}
use Rattle.hs_scheme.specs.flow.Points.{PointsData, point_at, points_of, NonterminalWithin, ParameterWithin}
use Rattle.hs_scheme.proofs.Lists.{none_in}
use Rattle.hs_scheme.specs.Problem.{ProblemData}
use Rattle.hs_rules.specs.Conclusions.{AnySupport}
use Rattle.hs_rules.proofs.PartLemmas.{part_conclusions, part_none, point_parts, head_within}
use Rattle.hs_rules.proofs.SeedLemmas.{nothing_follows}
use Rattle.hs_types.specs.Interned.{InternerData, IsInterner, Grows}
use Rattle.hs_types.proofs.Numbers.{Grows-refl}
use Rattle.hs_replica.specs.Replica.{ReplicaData}
use Rattle.hs_rules.proofs.ListedLemmas.{tells_indexed, tells_then, tells_same}
use Rattle.hs_rules.proofs.following.seed_conclusions.Goals as goal

pub returns-clause-found : goal.returns-clause-found
returns-clause-found c =
    part_conclusions c.args.problem.now c.add_seeds.new.replica.ids [] c.args.point AnySupport c.add_seeds.new.found.rows.keys c.add_seeds.new.found.list.items (subst (λ (I : InternerData). IsInterner I) c.interner-2.ensures c.know_numbers-2.ensures) c.in_ok-add_seeds.ensures.part (c.in_ok-add_seeds.ensures.all (omega (arith, c.add_seeds.new.found.list.ok.0)))

pub returns-then-starts_nothing-clause-found : goal.returns-then-starts_nothing-clause-found
returns-then-starts_nothing-clause-found c =
    let p = c.args.problem.now in
    let points = ap (λ (q : ProblemData). q.points) c.problem.view_is in
    let rule = c.rule_of-rule.result in
    let head = c.head_of-head.result in
    let args = c.arguments-args.result.now in
    let at = point_parts p.points c.args.point rule head args c.requires.point
    (c.rule_of-rule.ensures.rule ∙ ap (λ (x : PointsData). (point_at x c.args.point).rule) points)
    (c.head_of-head.ensures.head ∙ ap (λ (x : PointsData). (point_at x c.args.point).head) points) c.arguments-args.ensures.args in
    nothing_follows p c.args.replica.now.ids c.args.point (record { rule = rule; head = head; args = args }) c.new.result.items c.new.ensures.items at (subst (λ (I : InternerData). IsInterner I) c.interner.ensures c.know_numbers.ensures)
    (c.starts_nothing.ensures rule c.args.replica.now.ids c.if-starts_nothing.true)

pub returns-then-starts_nothing-clause-log : goal.returns-then-starts_nothing-clause-log
returns-then-starts_nothing-clause-log c = refl

pub returns-then-starts_nothing-clause-spare : goal.returns-then-starts_nothing-clause-spare
returns-then-starts_nothing-clause-spare c = refl

pub returns-then-starts_nothing-clause-grows : goal.returns-then-starts_nothing-clause-grows
returns-then-starts_nothing-clause-grows c = Grows-refl c.args.replica.now.ids

pub returns-in_err-index-clause-log : goal.returns-in_err-index-clause-log
returns-in_err-index-clause-log c = ap (λ (r : ReplicaData). r.log) c.index.ensures.kept

pub returns-in_err-index-clause-spare : goal.returns-in_err-index-clause-spare
returns-in_err-index-clause-spare c = ap (λ (r : ReplicaData). r.spare) c.index.ensures.kept

pub returns-in_err-index-clause-grows : goal.returns-in_err-index-clause-grows
returns-in_err-index-clause-grows c = subst (λ (I : InternerData). Grows I c.index.new.self.ids) (ap (λ (r : ReplicaData). r.ids) c.index.ensures.kept) (Grows-refl c.index.new.self.ids)

pub returns-in_err-add_seeds-clause-log : goal.returns-in_err-add_seeds-clause-log
returns-in_err-add_seeds-clause-log c = c.add_seeds.ensures.kept.log ∙ ap (λ (r : ReplicaData). r.log) c.index.ensures.kept

pub returns-in_err-add_seeds-clause-spare : goal.returns-in_err-add_seeds-clause-spare
returns-in_err-add_seeds-clause-spare c = c.add_seeds.ensures.kept.spare ∙ ap (λ (r : ReplicaData). r.spare) c.index.ensures.kept

pub returns-in_err-add_seeds-clause-grows : goal.returns-in_err-add_seeds-clause-grows
returns-in_err-add_seeds-clause-grows c = subst (λ (I : InternerData). Grows I c.add_seeds.new.replica.ids) (ap (λ (r : ReplicaData). r.ids) c.index.ensures.kept) c.add_seeds.ensures.kept.grows

pub returns-clause-log : goal.returns-clause-log
returns-clause-log c = c.add_seeds.ensures.kept.log ∙ ap (λ (r : ReplicaData). r.log) c.index.ensures.kept

pub returns-clause-spare : goal.returns-clause-spare
returns-clause-spare c = c.add_seeds.ensures.kept.spare ∙ ap (λ (r : ReplicaData). r.spare) c.index.ensures.kept

pub returns-clause-grows : goal.returns-clause-grows
returns-clause-grows c = subst (λ (I : InternerData). Grows I c.add_seeds.new.replica.ids) (ap (λ (r : ReplicaData). r.ids) c.index.ensures.kept) c.add_seeds.ensures.kept.grows

pub returns-then-starts_nothing-clause-listed : goal.returns-then-starts_nothing-clause-listed
returns-then-starts_nothing-clause-listed c = tells_same c.args.replica.now

pub returns-in_err-index-clause-listed : goal.returns-in_err-index-clause-listed
returns-in_err-index-clause-listed c = tells_indexed c.args.replica.now c.index.new.self c.index.ensures.kept c.index.ensures.more

pub returns-in_err-add_seeds-clause-listed : goal.returns-in_err-add_seeds-clause-listed
returns-in_err-add_seeds-clause-listed c = tells_then c.args.replica.now c.index.new.self c.index.ensures.kept c.index.ensures.more c.add_seeds.new.replica c.add_seeds.ensures.kept

pub returns-clause-listed : goal.returns-clause-listed
returns-clause-listed c = tells_then c.args.replica.now c.index.new.self c.index.ensures.kept c.index.ensures.more c.add_seeds.new.replica c.add_seeds.ensures.kept

pub add_seeds-requires-clause-part : goal.add_seeds-requires-clause-part
add_seeds-requires-clause-part c =
    part_none c.args.problem.now c.index.new.self.ids (take 0 c.index.new.self.log) c.args.point AnySupport c.none_found-found.result.rows.keys c.none_found-found.result.list.items c.none_found-found.ensures.rows c.none_found-found.ensures.list

pub add_seeds-requires-clause-none : goal.add_seeds-requires-clause-none
add_seeds-requires-clause-none c = refl

pub add_seeds-requires-clause-can : goal.add_seeds-requires-clause-can
add_seeds-requires-clause-can c =
    let p = c.args.problem.now in
    let points = ap (λ (q : ProblemData). q.points) c.problem.view_is in
    let rule_is = c.rule_of-rule.ensures.rule ∙ ap (λ (x : PointsData). (point_at x c.args.point).rule) points in
    record {
      heads = record {
        search = record { indexed = c.in_ok-index.ensures.ok; limited = omega arith; few = c.arguments-args.ensures.few; fixed_within = tt };
        params_are = c.parameters.ensures;
        shapes = λ k e lt. absurd (omega (arith, lt));
        head = head_within p c.rule_of-rule.result c.parameters.result c.head_of-head.result (subst (λ (q : ProblemData). q.points ≡ points_of q.sorted.scheme.rules) c.problem.view_is c.problem.invariant.points)
            (subst (λ (x : PointsData). NonterminalWithin (length x.bodies) c.head_of-head.result) points c.head_of-head.ensures.within)
            (subst (λ (r : ℕ). ParameterWithin p.points.params r c.head_of-head.result) (sym rule_is) (subst (λ (x : PointsData). ParameterWithin x.params (point_at x c.args.point).rule c.head_of-head.result) points c.head_of-head.ensures.parameter))
            c.parameters.ensures;
      };
      free = refl;
      is_point = point_parts p.points c.args.point c.rule_of-rule.result c.head_of-head.result c.arguments-args.result.now c.requires.point rule_is
          (c.head_of-head.ensures.head ∙ ap (λ (x : PointsData). (point_at x c.args.point).head) points) c.arguments-args.ensures.args;
      envs = λ e m. absurd (none_in e m);
    }
