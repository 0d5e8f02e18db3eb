use Rattle.std.proofs.Common.{ap, arith, ℕ, List, length}
use Rattle.hs_reader.specs.Tokens.{Token}
use Rattle.hs_reader.proofs.Cutting.{front_shortens, front_within}
use Rattle.hs_reader.proofs.cursor.Cursor.next.Goals as goal

pub invariant_of-self : goal.invariant_of-self
invariant_of-self c = record { few_lines = omega (arith, front_within 0 c.skip_gaps-line.result.1.now, ap (λ (x : Token × List ℕ). length x.1) (c.front.ensures 0)) }

pub returns-clause-shorter : goal.returns-clause-shorter
returns-clause-shorter c = front_shortens c.skip_gaps-line.result.0 c.skip_gaps-line.result.1.now _ _ (c.front.ensures c.skip_gaps-line.result.0) c.skip_gaps-line.ensures.shorter
