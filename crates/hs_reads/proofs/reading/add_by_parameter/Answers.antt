use Rattle.std.proofs.Common.{◌≡◌, refl, sym, ◌∙◌, ap, subst, ℕ, List, slice_get, Some, Contains}
use Rattle.std.proofs.lemmas.Result.{on_ok_weaker}
use Rattle.hs_scheme.specs.acceptance.Automaton.{AutomatonData, next}
use Rattle.hs_scheme.specs.flow.Points.{point_at}
use Rattle.hs_scheme.specs.sorting.Parameters.{IsParameter, parameter_of}
use Rattle.hs_scheme.specs.Problem.{ProblemData}
use Rattle.hs_weak.specs.Reads.{FlowsTo}
use Rattle.hs_reads.specs.Lists.{list_of}
use Rattle.hs_reads.specs.Becomings.{AnyBecoming}
use Rattle.hs_reads.specs.ByPoint.{pairs_by_point}
use Rattle.hs_reads.specs.Growing.{AddsOnly}
use Rattle.hs_reads.specs.Own.{IsBecoming}
use Rattle.hs_reads.specs.Pairs.{IsDemandedBy, IsReadBehind}
use Rattle.hs_reads.proofs.FoundLemmas.{gains_then, start_stays}
use Rattle.hs_reads.proofs.GrowLemmas.{both_ok, adds_such, adds_more}
use Rattle.hs_reads.proofs.ReadLemmas.{flow_read, later_read}
use Rattle.hs_reads.proofs.HeadLemmas.{demands_var, none_at}
use Rattle.hs_reads.proofs.HandedLemmas.{handed_stays}
use Rattle.hs_reads.proofs.reading.add_by_parameter.Goals as goal

pub hand_on-requires-clause-parameter : goal.hand_on-requires-clause-parameter
hand_on-requires-clause-parameter c =
    let p = c.args.problem.now in
    let w = c.args.point in
    let q = c.args.state in
    let x = c.args.param in
    let own = (point_at p.points w).rule in
    let rule : c.rule_of-rule.result ≡ own = c.rule_of-rule.ensures.rule ∙ ap (λ (z : ProblemData). (point_at z.points w).rule) c.problem.view_is in
    subst (λ (n : ℕ). IsParameter p.points.params n x) (sym rule) c.requires.parameter

pub returns-clause-gains : goal.returns-clause-gains
returns-clause-gains c =
    on_ok_weaker c.add_all_behind.result (λ g. gains_then c.args.found.now c.hand_on.new.found c.add_all_behind.new.found c.in_ok-hand_on.ensures.gains g) c.add_all_behind.ensures.gains

pub returns-clause-handed : goal.returns-clause-handed
returns-clause-handed c =
    on_ok_weaker c.add_all_behind.result (λ g. handed_stays c.args.problem.now (pairs_by_point c.hand_on.new.handed.items) c.hand_on.new.found.pairs c.add_all_behind.new.found.pairs g.kept c.in_ok-hand_on.ensures.handed)
    c.add_all_behind.ensures.gains

pub returns-clause-there : goal.returns-clause-there
returns-clause-there c =
    let p = c.args.problem.now in
    let w = c.args.point in
    let q = c.args.state in
    let x = c.args.param in
    let own = (point_at p.points w).rule in
    let new = c.add_all_behind.new.found.pairs in
    let rule : c.rule_of-rule.result ≡ own = c.rule_of-rule.ensures.rule ∙ ap (λ (z : ProblemData). (point_at z.points w).rule) c.problem.view_is in
    let args : c.args_of-args.result.now ≡ (point_at p.points w).args = c.args_of-args.ensures.args ∙ ap (λ (z : ProblemData). (point_at z.points w).args) c.problem.view_is in
    let counts : c.params.result.now ≡ p.points.params = c.params.ensures.params ∙ ap (λ (z : ProblemData). z.points.params) c.problem.view_is in
    let list : c.list_at-list.result.now ≡ list_of c.args.terminals.now (parameter_of p.points.params own x) =
    subst (λ (ns : List ℕ). IsParameter ns own x → c.list_at-list.result.now ≡ list_of c.args.terminals.now (parameter_of ns own x)) counts
    (subst (λ (n : ℕ). IsParameter c.params.result.now n x → c.list_at-list.result.now ≡ list_of c.args.terminals.now (parameter_of c.params.result.now n x)) rule c.list_at-list.ensures.list) c.requires.parameter in
    let automaton = ap (λ (z : ProblemData). z.sorted.automaton) c.problem.view_is in
    both_ok c.add_all_behind.result (λ gains there start.
    demands_var p w q new (start_stays p c.args.found.now c.add_all_behind.new.found (gains_then c.args.found.now c.hand_on.new.found c.add_all_behind.new.found c.in_ok-hand_on.ensures.gains gains) start) p.points refl x (sym c.requires.head)
    (λ v flows. gains.kept (v, q) (c.in_ok-hand_on.ensures.there v (subst (λ (n : ℕ). FlowsTo p n x v) (sym rule) flows)))
    (λ v a g j u r qs flows becomes moves at_u at_r.
    there (record { rule = own; param = x; terminal = a; given = g }) j u r qs
    (subst (λ (bs : List AnyBecoming). Contains bs (record { rule = own; param = x; terminal = a; given = g })) (sym list) (c.requires.terminals own x v a g c.requires.parameter flows becomes))
    (subst (λ (z : AutomatonData). next z.transitions q a ≡ Some qs) (sym automaton) moves) (subst (λ (us : List ℕ). slice_get us j ≡ Some u) (sym args) at_u) at_r))
    c.add_all_behind.ensures.gains c.add_all_behind.ensures.there

pub returns-then-is_empty-clause-there : goal.returns-then-is_empty-clause-there
returns-then-is_empty-clause-there c = λ start.
    let p = c.args.problem.now in
    let w = c.args.point in
    let q = c.args.state in
    let x = c.args.param in
    let own = (point_at p.points w).rule in
    let new = c.hand_on.new.found.pairs in
    let rule : c.rule_of-rule.result ≡ own = c.rule_of-rule.ensures.rule ∙ ap (λ (z : ProblemData). (point_at z.points w).rule) c.problem.view_is in
    let args : c.args_of-args.result.now ≡ (point_at p.points w).args = c.args_of-args.ensures.args ∙ ap (λ (z : ProblemData). (point_at z.points w).args) c.problem.view_is in
    demands_var p w q new (start_stays p c.args.found.now c.hand_on.new.found c.in_ok-hand_on.ensures.gains start) p.points refl x (sym c.requires.head)
    (λ v flows. c.in_ok-hand_on.ensures.there v (subst (λ (n : ℕ). FlowsTo p n x v) (sym rule) flows))
    (λ v a g j u r qs flows becomes moves at_u at_r. absurd (none_at c.args_of-args.result.now j u c.is_empty.result c.is_empty.ensures c.if-is_empty.true (subst (λ (us : List ℕ). slice_get us j ≡ Some u) (sym args) at_u)))

pub returns-in_err-hand_on-clause-only : goal.returns-in_err-hand_on-clause-only
returns-in_err-hand_on-clause-only c =
    let p = c.args.problem.now in
    let w = c.args.point in
    let q = c.args.state in
    let x = c.args.param in
    let own = (point_at p.points w).rule in
    let rule : c.rule_of-rule.result ≡ own = c.rule_of-rule.ensures.rule ∙ ap (λ (z : ProblemData). (point_at z.points w).rule) c.problem.view_is in
    adds_such (λ (y : ℕ × ℕ). FlowsTo p c.rule_of-rule.result x y.0 × (y.1 ≡ q)) (IsDemandedBy p (w, q)) c.args.found.now.pairs c.hand_on.new.found.pairs c.hand_on.ensures.only
    (λ y h. flow_read p w q c.requires.point x (sym c.requires.head) y (subst (λ (n : ℕ). FlowsTo p n x y.0) rule h.0, h.1))

pub returns-then-is_empty-clause-only : goal.returns-then-is_empty-clause-only
returns-then-is_empty-clause-only c =
    let p = c.args.problem.now in
    let w = c.args.point in
    let q = c.args.state in
    let x = c.args.param in
    let own = (point_at p.points w).rule in
    let rule : c.rule_of-rule.result ≡ own = c.rule_of-rule.ensures.rule ∙ ap (λ (z : ProblemData). (point_at z.points w).rule) c.problem.view_is in
    adds_such (λ (y : ℕ × ℕ). FlowsTo p c.rule_of-rule.result x y.0 × (y.1 ≡ q)) (IsDemandedBy p (w, q)) c.args.found.now.pairs c.hand_on.new.found.pairs c.hand_on.ensures.only
    (λ y h. flow_read p w q c.requires.point x (sym c.requires.head) y (subst (λ (n : ℕ). FlowsTo p n x y.0) rule h.0, h.1))

pub returns-clause-only : goal.returns-clause-only
returns-clause-only c =
    let p = c.args.problem.now in
    let w = c.args.point in
    let q = c.args.state in
    let x = c.args.param in
    let own = (point_at p.points w).rule in
    let rule : c.rule_of-rule.result ≡ own = c.rule_of-rule.ensures.rule ∙ ap (λ (z : ProblemData). (point_at z.points w).rule) c.problem.view_is in
    let args : c.args_of-args.result.now ≡ (point_at p.points w).args = c.args_of-args.ensures.args ∙ ap (λ (z : ProblemData). (point_at z.points w).args) c.problem.view_is in
    let counts : c.params.result.now ≡ p.points.params = c.params.ensures.params ∙ ap (λ (z : ProblemData). z.points.params) c.problem.view_is in
    let list : c.list_at-list.result.now ≡ list_of c.args.terminals.now (parameter_of p.points.params own x) =
    subst (λ (ns : List ℕ). IsParameter ns own x → c.list_at-list.result.now ≡ list_of c.args.terminals.now (parameter_of ns own x)) counts
    (subst (λ (n : ℕ). IsParameter c.params.result.now n x → c.list_at-list.result.now ≡ list_of c.args.terminals.now (parameter_of c.params.result.now n x)) rule c.list_at-list.ensures.list) c.requires.parameter in
    let automaton = ap (λ (z : ProblemData). z.sorted.automaton) c.problem.view_is in
    let mid = c.hand_on.new.found.pairs in
    let first : AddsOnly (IsDemandedBy p (w, q)) c.args.found.now.pairs mid =
    adds_such (λ (y : ℕ × ℕ). FlowsTo p c.rule_of-rule.result x y.0 × (y.1 ≡ q)) (IsDemandedBy p (w, q)) c.args.found.now.pairs c.hand_on.new.found.pairs c.hand_on.ensures.only
    (λ y h. flow_read p w q c.requires.point x (sym c.requires.head) y (subst (λ (n : ℕ). FlowsTo p n x y.0) rule h.0, h.1)) in
    let known : (b : AnyBecoming) → Contains c.list_at-list.result.now b → IsBecoming p (record { rule = own; param = x; terminal = b.terminal; given = b.given }) =
    λ b m. c.requires.only own x b c.requires.parameter (subst (λ (bs : List AnyBecoming). Contains bs b) list m) in
    let behind : AutomatonData → ℕ × ℕ → Type 0 = λ z y. (b : AnyBecoming) × (Contains c.list_at-list.result.now b × IsReadBehind z.transitions q b c.args_of-args.result.now y) in
    adds_more (behind p.sorted.automaton) (IsDemandedBy p (w, q)) c.args.found.now.pairs mid c.add_all_behind.new.found.pairs first
    (subst (λ (z : AutomatonData). AddsOnly (behind z) mid c.add_all_behind.new.found.pairs) automaton c.add_all_behind.ensures.only)
    (later_read p w q c.requires.point x c.list_at-list.result.now c.args_of-args.result.now (sym c.requires.head) args known)
