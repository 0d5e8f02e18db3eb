use Rattle.std.proofs.Common.{◌≡◌, sym, subst as along, ℕ, ◌≤◌, arith}
use Rattle.hs_scheme.specs.Problem.{ProblemData}
use Rattle.hs_table.specs.Tables.{HasSupports}
use Rattle.hs_core.specs.Core.{log_of, state_of}
use Rattle.hs_path.proofs.WalkingLemmas.{no_steps}
use Rattle.hs_path.proofs.walking.walk.Goals as goal

pub returns-then-steps-eq0 : goal.returns-then-steps-eq0
returns-then-steps-eq0 c =
    let core = c.args.core.now in
    let p = c.args.problem.now in
    let supports = (state_of core).supports in
    let log = along (λ (q : ProblemData). HasSupports q (log_of core) supports) (sym c.requires.problem) (c.every_history_supported.ensures.supported core.base core.story c.know_core.ensures.legal) in
    no_steps p (log_of core) supports (c.namings_lead_the_start.ensures p (log_of core) supports c.know_sorted_problem.ensures log c.requires.start) c.args.steps c.new.result.items c.if-steps-eq0.true c.new.ensures.items

some_steps : (n : ℕ) → (n ≡ 0 → ⊥) → 1 ≤ n
some_steps n some = omega (arith, some)

pub walk_from-requires-clause-least : goal.walk_from-requires-clause-least
walk_from-requires-clause-least c = some_steps c.args.steps c.if-steps-eq0.false

pub returns : goal.returns
returns c = c.walk_from.ensures
