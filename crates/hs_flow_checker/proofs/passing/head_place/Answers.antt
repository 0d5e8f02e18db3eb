use Rattle.std.proofs.Common.{◌≡◌, sym, ◌∙◌, subst, ◌+◌, List, length, Contains}
use Rattle.hs_scheme.specs.declared.flow.HeadPair.{HeadPair}
use Rattle.hs_flow_checker.proofs.passing.head_place.Goals as goal

pub returns-then-is_taken : goal.returns-then-is_taken
returns-then-is_taken c = λ h passes.
    let t = c.is_taken.ensures c.if-is_taken.true in
    let own = c.requires.own t.0 t.1.0 in
    let x : HeadPair = record { point = c.args.point; rule = c.args.base.rule; given = c.args.base.given + length c.args.args.now } in
    let same : t.0 ≡ x = λ i. record { point = own.1 i; rule = t.1.1.0 i; given = t.1.1.1 i } in
    let held = subst (λ (y : HeadPair). Contains c.args.heads.now y) (same ∙ sym passes.0) own.0 in
    subst (λ (hs : List HeadPair). Contains hs h) c.requires.heads held
