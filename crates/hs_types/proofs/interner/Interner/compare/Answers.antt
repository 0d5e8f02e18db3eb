use Rattle.std.proofs.Common.{◌≡◌, subst}
use Rattle.hs_table.specs.Types.{type_cmp}
use Rattle.hs_types.specs.Interned.{InternerData, type_of_id}
use Rattle.hs_types.proofs.interner.Interner.compare.Goals as goal

pub returns : goal.returns
returns c = subst (λ (I : InternerData). c.compare.result ≡ type_cmp (type_of_id I c.args.a) (type_of_id I c.args.b)) c.self.view_is c.compare.ensures
