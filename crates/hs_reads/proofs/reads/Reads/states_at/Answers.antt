use Rattle.std.proofs.Common.{subst, sym, ◌∙◌, ap, List, ℕ, Contains, ◌↔◌}
use Rattle.hs_reads.specs.Lists.{list_of}
use Rattle.hs_reads.proofs.HoldsLemmas.{listed_states, every_state, no_state}
use Rattle.hs_reads.proofs.reads.Reads.states_at.Goals as goal

pub returns-in-Some : goal.returns-in-Some
returns-in-Some c = λ q.
    subst (λ (xs : List ℕ). Contains xs q ↔ Contains c.args.self.now (c.args.point, q)) (sym (c.states_in.ensures ∙ ap (λ (rows : List (List ℕ)). list_of rows c.args.point) c.as_slice.ensures.value))
    (listed_states (λ s. s.items) c.self.inside.listed c.in-Some.rows c.self.inside.points c.self.inside.states c.args.self.now c.in-Some.is c.self.view_is c.args.point q)

pub returns-then-point-self : goal.returns-then-point-self
returns-then-point-self c = λ q.
    subst (λ (xs : List ℕ). Contains xs q ↔ Contains c.args.self.now (c.args.point, q)) (sym c.as_slice-then-point-self.ensures.value)
    (every_state (λ s. s.items) c.self.inside.listed c.self.inside.points c.self.inside.states c.args.point c.args.self.now c.in-None.is c.self.view_is c.self.inside.every.items c.self.invariant c.if-point-self.true q)

pub returns-else-point-self : goal.returns-else-point-self
returns-else-point-self c = λ q.
    no_state (λ s. s.items) c.self.inside.listed c.self.inside.points c.self.inside.states c.args.point c.args.self.now c.in-None.is c.self.view_is c.if-point-self.false q
