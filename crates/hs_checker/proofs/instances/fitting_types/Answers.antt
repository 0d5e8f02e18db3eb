use Rattle.std.proofs.Common.{sym, subst, length, Contains, ◌↔◌, IfOk}
use Rattle.std.proofs.lemmas.Result.{IfOk-weaker}
use Rattle.hs_scheme.specs.declared.term.Head.{Head}
use Rattle.hs_scheme.specs.declared.term.Head.TheVariants.{Nt}
use Rattle.hs_scheme.specs.flow.Points.{NonterminalWithin}
use Rattle.hs_table.specs.Types.{TypeTree}
use Rattle.hs_table_plain.specs.Enumeration as plain
use Rattle.hs_checker.specs.Slots.{FitsSets}
use Rattle.hs_checker.specs.Numbers.{entries_of, trees_of}
use Rattle.hs_checker.proofs.instances.fitting_types.Goals as goal

pub nonterminal_instances-requires-clause-within : goal.nonterminal_instances-requires-clause-within
nonterminal_instances-requires-clause-within c = subst (NonterminalWithin (length c.args.problem.now.points.bodies)) c.in-Nt.is c.requires.head

pub returns-in-Tm-clause-each : goal.returns-in-Tm-clause-each
returns-in-Tm-clause-each c =
    let E = entries_of c.args.types.now c.args.index.now in
    subst (λ (h : Head). IfOk c.terminal_instances.result (λ found. (t : TypeTree) → Contains (trees_of c.terminal_instances.new.types found.items) t ↔ (Contains (plain.head_types c.args.problem.now E c.args.rule h) t × FitsSets E c.args.args.now t)))
    (sym c.in-Tm.is) c.terminal_instances.ensures.each

pub returns-in-Nt-clause-each : goal.returns-in-Nt-clause-each
returns-in-Nt-clause-each c =
    let E = entries_of c.args.types.now c.args.index.now in
    subst (λ (h : Head). IfOk c.nonterminal_instances.result (λ found. (t : TypeTree) → Contains (trees_of c.nonterminal_instances.new.types found.items) t ↔ (Contains (plain.head_types c.args.problem.now E c.args.rule h) t × FitsSets E c.args.args.now t)))
    (sym c.in-Nt.is) (IfOk-weaker c.nonterminal_instances.result _ (λ found. (t : TypeTree) → Contains (trees_of c.nonterminal_instances.new.types found.items) t ↔ (Contains (plain.head_types c.args.problem.now E c.args.rule (Nt c.in-Nt.nonterminal)) t × FitsSets E c.args.args.now t))
    (λ found each t. each t c.args.rule) c.nonterminal_instances.ensures.each)

pub returns-in-Var-clause-each : goal.returns-in-Var-clause-each
returns-in-Var-clause-each c =
    let E = entries_of c.args.types.now c.args.index.now in
    subst (λ (h : Head). IfOk c.parameter_instances.result (λ found. (t : TypeTree) → Contains (trees_of c.args.types.now found.items) t ↔ (Contains (plain.head_types c.args.problem.now E c.args.rule h) t × FitsSets E c.args.args.now t)))
    (sym c.in-Var.is) c.parameter_instances.ensures.each
