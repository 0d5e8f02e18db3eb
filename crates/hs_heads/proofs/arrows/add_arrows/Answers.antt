use Rattle.std.proofs.Common.{◌≡◌, sym, ◌∙◌}
use Rattle.std.proofs.lemmas.Result.{on_ok_weaker}
use Rattle.hs_table.specs.Types.{TypeTree, arrows}
use Rattle.hs_types.specs.Interned.{type_of_id, env_of_id}
use Rattle.hs_heads.proofs.Gaining.{gains_one}
use Rattle.hs_heads.proofs.arrows.add_arrows.Goals as goal

pub returns : goal.returns
returns c =
    let I = c.args.types.now in
    let J = c.arrows_over.new.types in
    let ty = arrows (env_of_id I c.args.env) (type_of_id I c.args.rest) in
    on_ok_weaker c.add.result (λ added.
    gains_one I J c.args.found.now.keys c.add.new.found.keys c.in_ok-ty.ty (λ (u : TypeTree). u ≡ ty) c.in_ok-ty.ensures.grows added c.in_ok-ty.ensures.range c.in_ok-ty.ensures.is (λ u e. e ∙ sym c.in_ok-ty.ensures.is)) c.add.ensures
