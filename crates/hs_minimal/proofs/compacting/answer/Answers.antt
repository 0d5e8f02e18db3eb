use Rattle.std.proofs.Common.{◌≡◌, sym, ◌∙◌, true, false, inl, inr}
use Rattle.hs_minimal.proofs.compacting.answer.Goals as goal

pub table-requires-clause-settled : goal.table-requires-clause-settled
table-requires-clause-settled c = elim c.in_ok-fill.ensures.settled [
  | inl full ↦ absurd (let f : false ≡ true = sym c.if-is_full.false ∙ c.is_full.ensures.1 full in cc)
  | inr all ↦ all
]
