use Rattle.std.proofs.Common.{◌+◌, [], ◌∷◌, ◌++◌, ◌∙◌, ap}
use Rattle.hs_scheme.specs.declared.term.Head.TheVariants.{Var}
use Rattle.hs_scheme.specs.Tree.{node, forest}
use Rattle.hs_sorts.proofs.Lengthenings.{applied_none, argument_added}
use Rattle.hs_sorts.proofs.lengthening.add_arguments.Goals as goal

pub loop-number-init : goal.loop-number-init
loop-number-init c = c.term.view_is ∙ applied_none c.args.term.now

pub loop-number-preserved : goal.loop-number-preserved
loop-number-preserved c =
    argument_added c.loop-number.term-inside.head c.loop-number.term-inside.args.items c.push.new.self.items c.args.term.now c.args.first c.loop-number.number c.loop-number.invariant
    (c.in_ok-push.ensures.items ∙ ap (λ us. c.loop-number.term-inside.args.items ++ node (Var (c.args.first + c.loop-number.number)) (forest us) ∷ []) c.new.ensures.items)
