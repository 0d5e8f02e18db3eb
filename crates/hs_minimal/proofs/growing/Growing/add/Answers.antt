use Rattle.std.proofs.Common.{◌≡◌, sym, ◌∙◌, ap, subst, ℕ, List, ◌∷◌, [], ◌++◌, cond, length, arith}
use Rattle.hs_scheme.specs.Key.{key_eq}
use Rattle.hs_table_laws.proofs.Places.{within_from}
use Rattle.hs_table_laws.proofs.Shapes.{LeadsWithin}
use Rattle.hs_weak.specs.Reads.{last_state}
use Rattle.hs_types.specs.Interned.{InternerData, RowData, type_of_id}
use Rattle.hs_reads.specs.Lists.{IsPushed}
use Rattle.hs_minimal.specs.Ends.{rows_ending}
use Rattle.hs_minimal.specs.Growing.{GrowingData, IsGrowing}
use Rattle.hs_minimal.proofs.GrowingLemmas.{growing_added}
use Rattle.hs_minimal.proofs.growing.Growing.add.Goals as goal

pub let_covered_go-requires-clause-point : goal.let_covered_go-requires-clause-point
let_covered_go-requires-clause-point c =
    let f = c.requires.follows.1 in
    let within = within_from c.args.self.now.problem.points.points c.args.row.point f.of f.at in
    omega (arith, within, c.requires.growing.long)

pub push-requires : goal.push-requires
push-requires c =
    let f = c.requires.follows.1 in
    let within = within_from c.args.self.now.problem.points.points c.args.row.point f.of f.at in
    omega (arith, within, c.requires.growing.long, c.in_ok-let_covered_go.ensures.left.long, ap (λ (x : GrowingData). length x.rows) c.self-2.view_is)

pub returns-clause-growing : goal.returns-clause-growing
returns-clause-growing c =
    let I = c.args.types.now in
    let g = c.args.self.now in
    let row = c.args.row in
    let left = c.in_ok-let_covered_go.ensures.left in
    let mid = c.let_covered_go.new.self in
    let was : GrowingData = record { problem = c.self-2.inside.problem.now; budget = c.self-2.inside.budget; history = c.self-2.inside.history.items; rows = c.self-2.inside.rows; ends = c.self-2.inside.ends } in
    let is : was ≡ mid = c.self-2.view_is in
    let end_is : c.last_state-end.result ≡ last_state (type_of_id I row.ty) = c.last_state-end.ensures ∙ ap (λ (J : InternerData). last_state (type_of_id J row.ty)) (c.interner.ensures ∙ c.let_covered_go.ensures.same) in
    let rows = c.push.new.self in
    let ends = c.push-2.new.self in
    let pushed : IsPushed row.point row mid.rows rows = subst (λ (x : GrowingData). IsPushed row.point row x.rows rows) is c.in_ok-push.ensures in
    let each = subst (λ (x : GrowingData). (u q : ℕ) → rows_ending ends u q ≡ cond (key_eq (row.point, c.last_state-end.result) (u, q)) (rows_ending x.ends u q ++ row ∷ []) (rows_ending x.ends u q)) is c.in_ok-push-2.ensures in
    let leads : LeadsWithin g.problem.sorted.automaton = subst (λ (x : GrowingData). LeadsWithin x.problem.sorted.automaton) c.self.view_is c.know_sorted_problem.ensures.automaton.to in
    let more = growing_added I g c.requires.growing leads row c.requires.row c.requires.room c.requires.follows c.requires.uncovered mid left rows pushed c.last_state-end.result end_is ends each in
    let problem : g.problem ≡ was.problem = sym (ap (λ (x : GrowingData). x.problem) is ∙ left.problem) in
    let budget : g.budget ≡ was.budget = sym (ap (λ (x : GrowingData). x.budget) is ∙ left.budget) in
    let history : (g.history ++ row ∷ []) ≡ c.push-3.new.self.items = ap (λ (z : List RowData). z ++ row ∷ []) (sym (ap (λ (x : GrowingData). x.history) is ∙ left.history)) ∙ sym c.in_ok-push-3.ensures.items in
    subst (λ (J : InternerData). IsGrowing J (record { problem = was.problem; budget = was.budget; history = c.push-3.new.self.items; rows = rows; ends = ends })) (sym c.let_covered_go.ensures.same)
    (subst (λ (x : GrowingData). IsGrowing I x) (λ i. record { problem = problem i; budget = budget i; history = history i; rows = rows; ends = ends }) more)
