use Rattle.std.proofs.Common.{◌≡◌, refl, sym, ap, ◌∙◌, List, length, arith}
use Rattle.hs_core.specs.declared.pending.Pending.TheInside.{Inside}
use Rattle.hs_core.specs.declared.pending.Stretch.{Stretch}
use Rattle.hs_history.specs.declared.step.Work.{Work}
use Rattle.hs_history.specs.CoreStep.{seeds}
use Rattle.hs_core.specs.Pending.{works_in}
use Rattle.hs_core.proofs.Stretches.{seeds_in, seeds_length}
use Rattle.hs_core.proofs.pending.Pending.put_seeds.Goals as goal
use Rattle.hs_core.proofs.pending.Pending.put_seeds.Goals.{then-n-ne0, else-n-ne0}

-- the stretches are those of the seeds
put : (c : goal.After-self-2-1) → works_in c.if-n-ne0.self-inside.stretches.items ≡ seeds c.args.n
put c =
    elim c.if-n-ne0.branch [
      | then-n-ne0 w ↦
          ap (λ (a : Inside). works_in a.stretches.items) w.self-inside-is ∙ ap (λ (ss : List Stretch). works_in ss) w.push_back_reserved.ensures.items
          ∙ seeds_in c.clear.new.self.items _ c.args.n c.clear.ensures.items refl refl w.if-n-ne0.true
      | else-n-ne0 w ↦
          ap (λ (a : Inside). works_in a.stretches.items) w.self-inside-is ∙ ap (λ (ss : List Stretch). works_in ss) c.clear.ensures.items
          ∙ ap (λ n. seeds n) (sym w.if-n-ne0.false)
    ]

pub invariant_of-self-2 : goal.invariant_of-self-2
invariant_of-self-2 c = (
  sym (ap (λ (ws : List Work). length ws) (put c) ∙ seeds_length c.args.n),
  omega (arith, c.if-n-ne0.self-inside.stretches.small.1),
  omega (arith, c.ranges.n.fits),
)

pub returns-clause-ok : goal.returns-clause-ok
returns-clause-ok c = put c
