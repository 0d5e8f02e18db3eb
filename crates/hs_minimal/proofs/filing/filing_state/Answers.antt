use Rattle.std.proofs.Common.{inl, inr}
use Rattle.hs_minimal.proofs.filing.filing_state.Goals as goal

pub returns-in-Some : goal.returns-in-Some
returns-in-Some c = inr c.in-Some.ensures

pub returns-in-None : goal.returns-in-None
returns-in-None c = inl c.last_state.ensures
