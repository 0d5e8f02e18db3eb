use Rattle.std.proofs.Common.{◌<◌, sym, subst, ℕ, List, All, length, take}
use Rattle.std.proofs.lemmas.List.{take_all}
use Rattle.std.proofs.lemmas.List.Elements.{All-push}
use Rattle.hs_table_laws.proofs.Members.{taken_next}
use Rattle.hs_numbered.proofs.certificate.NumberedCertificate.has_types.Goals as goal

pub loop-ty-preserved : goal.loop-ty-preserved
loop-ty-preserved c =
    let n = length c.args.self.now.numbers.types in
    let xs = c.args.types.now in
    let k = c.loop-ty.ty-index in
    subst (λ (zs : List ℕ). All (λ z. z < n) zs) (sym (taken_next xs k c.ty-item.result c.loop-ty-test.true c.ty-item.is))
    (All-push (λ z. z < n) (take k xs) c.ty-item.result c.loop-ty.invariant (c.has_type.ensures.used c.if-not-has_type.false))

pub returns-clause-used : goal.returns-clause-used
returns-clause-used c = λ _. subst (λ (zs : List ℕ). All (λ z. z < length c.args.self.now.numbers.types) zs) (take_all c.loop-ty.ty-index c.args.types.now c.loop-ty-test.false) c.loop-ty.invariant
