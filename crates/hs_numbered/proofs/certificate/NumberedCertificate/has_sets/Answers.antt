use Rattle.std.proofs.Common.{◌<◌, sym, subst, ℕ, List, All, length, take}
use Rattle.std.proofs.lemmas.List.{take_all}
use Rattle.std.proofs.lemmas.List.Elements.{All-push}
use Rattle.hs_table_laws.proofs.Members.{taken_next}
use Rattle.hs_numbered.proofs.certificate.NumberedCertificate.has_sets.Goals as goal

pub loop-set-preserved : goal.loop-set-preserved
loop-set-preserved c =
    let n = length c.args.self.now.numbers.sets in
    let xs = c.args.sets.now in
    let k = c.loop-set.set-index in
    subst (λ (zs : List ℕ). All (λ z. z < n) zs) (sym (taken_next xs k c.set-item.result c.loop-set-test.true c.set-item.is))
    (All-push (λ z. z < n) (take k xs) c.set-item.result c.loop-set.invariant (c.has_set.ensures.used c.if-not-has_set.false))

pub returns-clause-used : goal.returns-clause-used
returns-clause-used c = λ _. subst (λ (zs : List ℕ). All (λ z. z < length c.args.self.now.numbers.sets) zs) (take_all c.loop-set.set-index c.args.sets.now c.loop-set-test.false) c.loop-set.invariant
