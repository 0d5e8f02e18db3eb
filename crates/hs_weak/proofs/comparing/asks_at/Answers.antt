use Rattle.std.proofs.Common.{◌≡◌, sym, ◌∙◌, subst, List, length, IsTrue, ◌↔◌}
use Rattle.std.proofs.lemmas.Bool.{ltb-true}
use Rattle.hs_table.specs.Types.{TypeTree}
use Rattle.hs_table.specs.Entries.{set_at}
use Rattle.hs_weak.specs.Strength.{AsStrongAs, AsksEach}
use Rattle.hs_weak.proofs.ComparingLemmas.{set_read, missing_asks}
use Rattle.hs_weak.proofs.comparing.asks_at.Goals as goal

pub returns-in-Some : goal.returns-in-Some
returns-in-Some c =
    let env = c.args.env.now in
    let read = set_read env c.args.parameter c.in-Some.own.now (ltb-true c.args.parameter (length env) (sym c.in-Some.ensures.lookup.0)) c.in-Some.ensures.lookup.1 in
    let same : c.as_slice.result.now ≡ set_at env c.args.parameter = (c.as_slice.ensures.value ∙ c.own.view_is) ∙ sym read in
    subst (λ (s : List TypeTree). IsTrue c.asks_each.result ↔ AsksEach AsStrongAs s c.args.set.now) same c.asks_each.ensures

pub returns-in-None : goal.returns-in-None
returns-in-None c =
    let env = c.args.env.now in
    missing_asks env c.args.parameter c.args.set.now c.is_empty.result c.in-None.ensures.lookup.3 c.is_empty.ensures
