use Rattle.std.proofs.lemmas.Bool.{eq-eqb}
use Rattle.std.specs.Int.RustNames.{bit_and}
use Rattle.hs_types.specs.Interned.{env_of_id}
use Rattle.hs_strength.proofs.KindBits.{asks_kinds}
use Rattle.hs_strength.proofs.memo.Strengths.may_ask_at_least.Goals as goal

pub returns-clause-ok : goal.returns-clause-ok
returns-clause-ok c = λ asks.
    let I = c.args.types.now in
    let own = c.in_ok-own.own in
    let asked = c.in_ok-asked.asked in
    eq-eqb (bit_and asked own) asked (asks_kinds (env_of_id I c.args.env) (env_of_id I c.args.other) own asked c.in_ok-own.ensures.ok c.in_ok-asked.ensures.ok asks)
