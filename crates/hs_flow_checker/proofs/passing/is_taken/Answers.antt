use Rattle.std.proofs.Common.{◌≡◌, ◌∙◌, ap, ℕ, ◌+◌}
use Rattle.hs_flow_checker.proofs.passing.is_taken.Goals as goal

pub returns-in-Some : goal.returns-in-Some
returns-in-Some c = λ h.
    let given : c.in-Some.given ≡ c.args.base.given + c.args.count = c.in-Some.ensures.1 ∙ ap (λ (n : ℕ). c.args.base.given + n) c.in-Ok.ensures.1 in
    let found = c.is_head_at.ensures h in
    (found.0, (found.1.0, (found.1.1.0, found.1.1.1 ∙ given)))
