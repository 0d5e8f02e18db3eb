use Rattle.std.proofs.Common.{sym, ◌∙◌, subst, ℕ}
use Rattle.std.proofs.lemmas.Result.{on_ok_weaker}
use Rattle.hs_scheme.specs.declared.term.Head.{Head}
use Rattle.hs_scheme.specs.declared.term.Head.TheVariants.{Var, Nt, Tm}
use Rattle.hs_scheme.specs.declared.flow.FlowPair.{FlowPair}
use Rattle.hs_scheme.specs.flow.Points.{point_at}
use Rattle.hs_types.specs.Interned.{InternerData}
use Rattle.hs_heads.specs.Sources.{GainsTypes, FromSome, InState, BodySays, FlowSays, AtRow, HeadSays}
use Rattle.hs_heads.proofs.Gaining.{gains_same}
use Rattle.hs_heads.proofs.RowLemmas.{terminal_says, nonterminal_says, parameter_says, part_within}
use Rattle.hs_heads.proofs.heads.add_types.Goals as goal

pub add_bodies-requires : goal.add_bodies-requires
add_bodies-requires c = part_within c.args.types.now c.args.table.now c.body_of.result c.rows_at-rows.result.now c.rows_at-rows.ensures c.requires.table

pub returns-in-Tm : goal.returns-in-Tm
returns-in-Tm c =
    let p = c.args.problem.now in
    let I = c.args.types.now in
    let K = c.add_terminal.new.types in
    let R = c.args.reads.now in
    let table = c.args.table.now in
    let point = c.args.point in
    let d = point_at p.points point in
    let a = c.in-Tm.terminal in
    let states = c.states_at.result.now in
    let old = c.args.found.now.keys in
    let new = c.add_terminal.new.found.keys in
    on_ok_weaker c.add_terminal.result (λ g. subst (λ (h : Head). GainsTypes I K old new (HeadSays p R I table point d.rule h)) (sym c.in-Tm.is ∙ c.head_at.ensures.head)
    (gains_same I K (FromSome (InState p a) states) (HeadSays p R I table point d.rule (Tm a)) old new (terminal_says p R I table point d.rule a states c.states_at.ensures) g)) c.add_terminal.ensures

pub returns-in-Nt : goal.returns-in-Nt
returns-in-Nt c =
    let p = c.args.problem.now in
    let I = c.args.types.now in
    let K = c.add_bodies.new.types in
    let R = c.args.reads.now in
    let table = c.args.table.now in
    let point = c.args.point in
    let d = point_at p.points point in
    let f = c.in-Nt.rule in
    let rows = c.rows_at-rows.result.now in
    let old = c.args.found.now.keys in
    let new = c.add_bodies.new.found.keys in
    on_ok_weaker c.add_bodies.result (λ g. subst (λ (h : Head). GainsTypes I K old new (HeadSays p R I table point d.rule h)) (sym c.in-Nt.is ∙ c.head_at.ensures.head)
    (gains_same I K (FromSome (BodySays I R point) rows) (HeadSays p R I table point d.rule (Nt f)) old new
    (nonterminal_says p R I table point d.rule f c.body_of.result rows c.in-Nt.ensures.nonterminal c.body_of.ensures c.rows_at-rows.ensures) g)) c.add_bodies.ensures

pub returns-in-Var : goal.returns-in-Var
returns-in-Var c =
    let p = c.args.problem.now in
    let I = c.args.types.now in
    let R = c.args.reads.now in
    let table = c.args.table.now in
    let point = c.args.point in
    let d = point_at p.points point in
    let x = c.in-Var.parameter in
    let pairs = c.flow_of-pairs.result.now in
    let old = c.args.found.now.keys in
    let new = c.add_flow.new.found.keys in
    on_ok_weaker c.add_flow.result (λ g. subst (λ (h : Head). GainsTypes I I old new (HeadSays p R I table point d.rule h)) (sym c.in-Var.is ∙ c.head_at.ensures.head)
    (subst (λ (r : ℕ). GainsTypes I I old new (HeadSays p R I table point r (Var x))) c.rule_at.ensures
    (gains_same I I (FromSome (λ (f : FlowPair). AtRow (FlowSays I R point) table f.point) pairs) (HeadSays p R I table point c.rule_at.result (Var x)) old new
    (parameter_says p R I table point c.rule_at.result x pairs c.flow_of-pairs.ensures)
    (subst (λ (M : InternerData). GainsTypes M M old new (FromSome (λ (f : FlowPair). AtRow (FlowSays M R point) table f.point) pairs)) c.interner.ensures g)))) c.add_flow.ensures
