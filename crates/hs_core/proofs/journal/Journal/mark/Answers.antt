use Rattle.std.proofs.Common.{◌∙◌, ◌∷◌, ◌++◌, [], arith}
use Rattle.hs_core.specs.declared.journal.Mark.{Mark}
use Rattle.hs_core.specs.Journal.{step_of}
use Rattle.hs_core.proofs.Keeping.{kept_pushed, read_pushed}
use Rattle.hs_core.proofs.journal.Journal.mark.Goals as goal

pub invariant_of-self : goal.invariant_of-self
invariant_of-self c =
    let a = c.self.inside in
    let m : Mark = record { kind = c.args.kind; changed = c.is_other_actor.result; jumped = c.is_other_due.result } in (
      kept_pushed a.actors.items c.push_actor.new.actors.items a.dues.items c.push_due.new.dues.items a.marks.items c.push_reserved.new.self.items m c.args.actor a.actor c.args.due a.due c.self.invariant.0
          c.is_other_actor.ensures c.is_other_due.ensures c.push_actor.ensures.items c.push_due.ensures.items c.push_reserved.ensures.items c.after-self-inside.result c.after-self-inside.ensures,
      omega (arith, c.self.invariant.1, c.push_reserved.ensures.len, c.push_reserved.ensures.capacity),
      omega (arith, c.self.invariant.2, c.push_actor.ensures.len, c.push_actor.ensures.capacity),
      omega (arith, c.self.invariant.3, c.push_due.ensures.len, c.push_due.ensures.capacity),
    )

pub returns-clause-steps : goal.returns-clause-steps
returns-clause-steps c =
    let a = c.self.inside in
    let m : Mark = record { kind = c.args.kind; changed = c.is_other_actor.result; jumped = c.is_other_due.result } in
    read_pushed a.actors.items c.push_actor.new.actors.items a.dues.items c.push_due.new.dues.items a.marks.items c.push_reserved.new.self.items m c.args.actor a.actor c.args.due a.due c.self.invariant.0 c.is_other_actor.ensures
    c.is_other_due.ensures c.push_actor.ensures.items c.push_due.ensures.items c.push_reserved.ensures.items
    ∙ (λ i. (c.self.view_is i).steps ++ step_of c.args.kind c.args.actor c.args.due ∷ [])
