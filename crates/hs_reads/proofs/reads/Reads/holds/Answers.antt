use Rattle.std.proofs.Common.{subst, List, ℕ, Contains, IsTrue, ◌↔◌}
use Rattle.hs_reads.specs.Lists.{list_of}
use Rattle.hs_reads.proofs.HoldsLemmas.{listed_holds, point_holds, past_holds}
use Rattle.hs_reads.proofs.reads.Reads.holds.Goals as goal

pub returns-in-Some : goal.returns-in-Some
returns-in-Some c =
    listed_holds (λ s. s.items) c.self.inside.listed c.in-Some.rows c.self.inside.points c.self.inside.states c.args.self.now c.in-Some.is c.self.view_is c.args.point c.args.state c.is_in.result
    (subst (λ (rows : List (List ℕ)). IsTrue c.is_in.result ↔ Contains (list_of rows c.args.point) c.args.state) c.as_slice.ensures.value c.is_in.ensures)

pub returns-then-point-self : goal.returns-then-point-self
returns-then-point-self c = point_holds (λ s. s.items) c.self.inside.listed c.self.inside.points c.self.inside.states c.args.point c.args.self.now c.in-None.is c.self.view_is c.args.state c.if-point-self.true

pub returns-else-point-self : goal.returns-else-point-self
returns-else-point-self c = past_holds (λ s. s.items) c.self.inside.listed c.self.inside.points c.self.inside.states c.args.point c.args.self.now c.in-None.is c.self.view_is c.args.state c.if-point-self.false
