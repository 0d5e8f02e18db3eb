use Rattle.std.proofs.Common.{◌≡◌, refl, sym, ◌∙◌, ap, subst, ℕ, ◌≤◌, arith, List, length, take, All}
use Rattle.std.proofs.lemmas.List.{take_all}
use Rattle.std.proofs.lemmas.List.Elements.{All-contains, All-take}
use Rattle.hs_scheme.specs.flow.Points.{PointsData, point_at, points_of, NonterminalWithin, ParameterWithin}
use Rattle.hs_scheme.specs.Problem.{ProblemData}
use Rattle.hs_table.specs.Entries.{EntryData, InShape}
use Rattle.hs_types.specs.Interned.{InternerData, IsInterner, Grows}
use Rattle.hs_types.proofs.Numbers.{Grows-refl}
use Rattle.hs_replica.specs.Replica.{ReplicaData}
use Rattle.hs_rules.specs.Conclusions.{AnySupport, AreConclusions}
use Rattle.hs_rules.proofs.PartLemmas.{part_conclusions, part_none, have_envs, point_parts, head_within}
use Rattle.hs_rules.proofs.ListedLemmas.{tells_indexed, tells_then, whole_then}
use Rattle.hs_rules.proofs.following.conclusions.Goals as goal

pub add_all-requires-clause-part : goal.add_all-requires-clause-part
add_all-requires-clause-part c =
    part_none c.args.problem.now c.index.new.self.ids (take c.len-limit.result c.index.new.self.log) c.args.point AnySupport c.none_found-found.result.rows.keys c.none_found-found.result.list.items c.none_found-found.ensures.rows c.none_found-found.ensures.list

pub returns-clause-found : goal.returns-clause-found
returns-clause-found c =
    let p = c.args.problem.now in
    let K = c.add_all.new.replica.ids in
    let found = c.add_all.new.found.list.items in
    let log = c.index.new.self.log in
    let le : length log ≤ c.len-limit.result = omega (arith, c.len-limit.ensures.len) in
    let whole = take_all c.len-limit.result log le ∙ ap (λ (r : ReplicaData). r.log) c.in_ok-index.ensures.kept in
    subst (λ (E : List EntryData). AreConclusions p K E c.args.point AnySupport found) whole
    (part_conclusions p K (take c.len-limit.result log) c.args.point AnySupport c.add_all.new.found.rows.keys found (subst (λ (I : InternerData). IsInterner I) c.interner.ensures c.know_numbers.ensures) c.in_ok-add_all.ensures.part (c.in_ok-add_all.ensures.all (omega (arith, c.add_all.new.found.list.ok.0))))

pub returns-in_err-index-clause-log : goal.returns-in_err-index-clause-log
returns-in_err-index-clause-log c = ap (λ (r : ReplicaData). r.log) c.index.ensures.kept

pub returns-in_err-index-clause-spare : goal.returns-in_err-index-clause-spare
returns-in_err-index-clause-spare c = ap (λ (r : ReplicaData). r.spare) c.index.ensures.kept

pub returns-in_err-index-clause-grows : goal.returns-in_err-index-clause-grows
returns-in_err-index-clause-grows c = subst (λ (I : InternerData). Grows I c.index.new.self.ids) (ap (λ (r : ReplicaData). r.ids) c.index.ensures.kept) (Grows-refl c.index.new.self.ids)

pub returns-in_err-add_all-clause-log : goal.returns-in_err-add_all-clause-log
returns-in_err-add_all-clause-log c = c.add_all.ensures.kept.log ∙ ap (λ (r : ReplicaData). r.log) c.index.ensures.kept

pub returns-in_err-add_all-clause-spare : goal.returns-in_err-add_all-clause-spare
returns-in_err-add_all-clause-spare c = c.add_all.ensures.kept.spare ∙ ap (λ (r : ReplicaData). r.spare) c.index.ensures.kept

pub returns-in_err-add_all-clause-grows : goal.returns-in_err-add_all-clause-grows
returns-in_err-add_all-clause-grows c = subst (λ (I : InternerData). Grows I c.add_all.new.replica.ids) (ap (λ (r : ReplicaData). r.ids) c.index.ensures.kept) c.add_all.ensures.kept.grows

pub returns-clause-log : goal.returns-clause-log
returns-clause-log c = c.add_all.ensures.kept.log ∙ ap (λ (r : ReplicaData). r.log) c.index.ensures.kept

pub returns-clause-spare : goal.returns-clause-spare
returns-clause-spare c = c.add_all.ensures.kept.spare ∙ ap (λ (r : ReplicaData). r.spare) c.index.ensures.kept

pub returns-clause-grows : goal.returns-clause-grows
returns-clause-grows c = subst (λ (I : InternerData). Grows I c.add_all.new.replica.ids) (ap (λ (r : ReplicaData). r.ids) c.index.ensures.kept) c.add_all.ensures.kept.grows

pub returns-in_err-index-clause-listed : goal.returns-in_err-index-clause-listed
returns-in_err-index-clause-listed c = tells_indexed c.args.replica.now c.index.new.self c.index.ensures.kept c.index.ensures.more

pub returns-in_err-add_all-clause-listed : goal.returns-in_err-add_all-clause-listed
returns-in_err-add_all-clause-listed c = tells_then c.args.replica.now c.index.new.self c.index.ensures.kept c.index.ensures.more c.add_all.new.replica c.add_all.ensures.kept

pub returns-clause-listed : goal.returns-clause-listed
returns-clause-listed c = tells_then c.args.replica.now c.index.new.self c.index.ensures.kept c.index.ensures.more c.add_all.new.replica c.add_all.ensures.kept

pub returns-clause-whole : goal.returns-clause-whole
returns-clause-whole c = whole_then c.index.new.self c.add_all.new.replica c.in_ok-index.ensures.ok c.add_all.ensures.kept

pub add_all-requires-clause-can : goal.add_all-requires-clause-can
add_all-requires-clause-can c =
    let p = c.args.problem.now in
    let points = ap (λ (q : ProblemData). q.points) c.problem.view_is in
    let rule_is = c.rule_of-rule.ensures.rule ∙ ap (λ (x : PointsData). (point_at x c.args.point).rule) points in
    record {
      heads = record {
        search = record { indexed = c.in_ok-index.ensures.ok; limited = omega (arith, c.len-limit.ensures.len); few = c.arguments.ensures.few; fixed_within = tt };
        params_are = c.parameters.ensures;
        shapes = subst (λ (l : List EntryData). All (InShape p) (take c.len-limit.result l)) (sym (ap (λ (r : ReplicaData). r.log) c.in_ok-index.ensures.kept)) (All-take (InShape p) c.len-limit.result c.args.replica.now.log c.requires.shape);
        head = head_within p c.rule_of-rule.result c.parameters.result c.head_of-head.result (subst (λ (q : ProblemData). q.points ≡ points_of q.sorted.scheme.rules) c.problem.view_is c.problem.invariant.points)
            (subst (λ (x : PointsData). NonterminalWithin (length x.bodies) c.head_of-head.result) points c.head_of-head.ensures.within)
            (subst (λ (r : ℕ). ParameterWithin p.points.params r c.head_of-head.result) (sym rule_is) (subst (λ (x : PointsData). ParameterWithin x.params (point_at x c.args.point).rule c.head_of-head.result) points c.head_of-head.ensures.parameter))
            c.parameters.ensures;
      };
      free = refl;
      is_point = point_parts p.points c.args.point c.rule_of-rule.result c.head_of-head.result c.arguments.result.now c.requires.point
          (c.rule_of-rule.ensures.rule ∙ ap (λ (x : PointsData). (point_at x c.args.point).rule) points)
          (c.head_of-head.ensures.head ∙ ap (λ (x : PointsData). (point_at x c.args.point).head) points) c.arguments.ensures.args;
      envs = have_envs p (take c.len-limit.result c.index.new.self.log) c.arguments.result.now c.rule_of-rule.result c.parameters.result c.parameters.ensures
          (λ e m. All-contains (InShape p) (take c.len-limit.result c.index.new.self.log) e (subst (λ (l : List EntryData). All (InShape p) (take c.len-limit.result l)) (sym (ap (λ (r : ReplicaData). r.log) c.in_ok-index.ensures.kept)) (All-take (InShape p) c.len-limit.result c.args.replica.now.log c.requires.shape)) m)
          (λ j a at. let r = c.arguments.ensures.in_rule j a at in record { of = r.of; at = r.at; in_rule = r.in_rule ∙ sym rule_is });
    }
