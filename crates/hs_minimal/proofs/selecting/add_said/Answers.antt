use Rattle.std.proofs.Common.{sym, subst, List}
use Rattle.hs_types.specs.Interned.{InternerData, RowData}
use Rattle.hs_minimal.specs.Growing.{IsGrowing, AreAdded}
use Rattle.hs_minimal.proofs.SettlingLemmas.{added_both}
use Rattle.hs_minimal.proofs.selecting.add_said.Goals as goal

pub heads_with-requires-clause-growing : goal.heads_with-requires-clause-growing
heads_with-requires-clause-growing c = subst (λ (K : InternerData). IsGrowing K c.args.growing.now) (sym c.interner.ensures) c.requires.growing

pub add_met-requires-2-clause-said : goal.add_met-requires-2-clause-said
add_met-requires-2-clause-said c = subst (λ (z : List RowData). AreAdded c.args.growing.now z) (sym c.as_slice.ensures.value) c.in_ok-said.ensures

pub returns-clause-added : goal.returns-clause-added
returns-clause-added c = added_both c.args.growing.now c.add_met-2.new.rows.items c.args.new.now c.extend_from_slice.new.self.items c.in_ok-extend_from_slice.ensures.items c.in_ok-add_met.ensures.added c.requires.new
