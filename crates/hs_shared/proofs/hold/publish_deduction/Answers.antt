use Rattle.std.proofs.Common.{ap, ◌∙◌, sym, subst}
use Rattle.hs_types.specs.Interned.{InternerData}
use Rattle.hs_types.specs.Translations.{AreFound}
use Rattle.hs_shared.proofs.Publishing.{publishes_ids}
use Rattle.hs_history.specs.Story.{Deduction}
use Rattle.hs_core.specs.Core.{CoreData, deduction_of}
use Rattle.hs_core.specs.Answers.{Publishes}
use Rattle.hs_shared.proofs.hold.publish_deduction.Goals as goal

pub returns-clause-ok : goal.returns-clause-ok
returns-clause-ok c =
    let brought = c.bring_with.new.self in
    let same = c.in_ok-brought.ensures.same ∙ ap (λ (ids : InternerData). deduction_of ids c.args.deduced.now) c.interner.ensures in (
      brought,
      c.know_core.ensures,
      ap (λ (x : CoreData). x.base) c.bring_with.ensures.kept ∙ ap (λ (x : CoreData). x.base) c.in_ok-reserve_some.ensures.same,
      ap (λ (x : CoreData). x.story) c.bring_with.ensures.kept ∙ ap (λ (x : CoreData). x.story) c.in_ok-reserve_some.ensures.same,
      subst (λ (d : Deduction). Publishes brought c.args.worker c.args.ticket d c.publish.result c.publish.new.self) same c.publish.ensures,
    )

pub bring_with-requires-clause-found : goal.bring_with-requires-clause-found
bring_with-requires-clause-found c =
    let found = c.args.found.now in
    subst (λ (ids : InternerData). AreFound ids c.reserve_some.new.self.ids found) (sym c.interner.ensures)
    (subst (λ (ids : InternerData). AreFound c.args.replica.now.ids ids found) (sym (ap (λ (x : CoreData). x.ids) c.in_ok-reserve_some.ensures.same)) c.requires.found)

pub returns-in_err-brought-clause-found : goal.returns-in_err-brought-clause-found
returns-in_err-brought-clause-found c = subst (λ (ids : InternerData). AreFound ids c.bring_with.new.self.ids c.bring_with.new.found) c.interner.ensures c.bring_with.ensures.found

pub returns-clause-found : goal.returns-clause-found
returns-clause-found c =
    subst (λ (ids : InternerData). AreFound c.args.replica.now.ids ids c.bring_with.new.found)
    (sym (publishes_ids c.bring_with.new.self c.args.worker c.args.ticket _ c.publish.result c.publish.new.self c.publish.ensures))
    (subst (λ (ids : InternerData). AreFound ids c.bring_with.new.self.ids c.bring_with.new.found) c.interner.ensures c.bring_with.ensures.found)
