use Rattle.std.proofs.Common.{◌≡◌, refl, sym, ◌∙◌, subst, true, false, Contains}
use Rattle.std.proofs.lemmas.List.{take_all}
use Rattle.hs_table_laws.proofs.Orders.{entry_same}
use Rattle.hs_table_plain.proofs.Loops.{is_equal, not_equal, at_item, none_equal}
use Rattle.hs_table_plain.proofs.union.contains.Goals as goal

pub returns-then-eq : goal.returns-then-eq
returns-then-eq c =
    let same = entry_same c.other-item.result c.args.entry.now (sym c.compare.ensures ∙ is_equal c.compare.result c.if-eq.ensures) in
    (λ _. at_item c.args.entries.now c.loop-other.other-index c.other-item.result c.args.entry.now c.loop-other-test.true c.other-item.is same, λ _. refl)

pub loop-other-preserved : goal.loop-other-preserved
loop-other-preserved c =
    none_equal c.args.entries.now c.loop-other.other-index c.other-item.result c.args.entry.now c.loop-other-test.true c.other-item.is
    (λ e. not_equal c.compare.result c.if-eq.ensures (c.compare.ensures ∙ e)) c.loop-other.invariant

pub returns : goal.returns
returns c = (
  λ e. let f : false ≡ true = e in absurd (cc),
  λ h. absurd (c.loop-other.invariant (subst (λ xs. Contains xs c.args.entry.now) (sym (take_all c.loop-other.other-index c.args.entries.now c.loop-other-test.false)) h)),
)
