use Rattle.std.proofs.Common.{◌≡◌, refl, Bool, true, false, not}
use Rattle.std.specs.Prelude.{IsFalse}
use Rattle.hs_flow.proofs.PassingLemmas.{its_users}
use Rattle.hs_flow.proofs.UserLemmas.{no_user}
use Rattle.hs_flow.proofs.pairs.Pairs.is_used.Goals as goal

not_false : (t : Bool) → IsFalse (not t) → t ≡ true
not_false true h = refl
not_false false h = absurd (cc)

pub returns : goal.returns
returns c = λ unused p user.
    no_user c.list.result.now c.list.result.now c.is_empty.result refl c.is_empty.ensures (not_false c.is_empty.result unused) p
    ((its_users c.self.view_is c.self.invariant c.args.rule c.args.param c.list.result.now c.list.ensures p).1 user)
