use Rattle.std.proofs.Common.{subst, ℕ, inl, inr}
use Rattle.hs_checker.specs.Slots.{IsComplete}
use Rattle.hs_checker.proofs.terminals.mark_complete.Goals as goal

pub returns : goal.returns
returns c = λ a h. elim (c.mark_terminal.ensures a h) [
  | inl before ↦ c.requires a before
  | inr own ↦ subst (λ (x : ℕ). IsComplete c.args.problem.now x) own.0 (c.in_ok-complete.ensures own.1)
]
