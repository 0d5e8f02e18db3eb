use Rattle.std.proofs.Common.{ap, nat_eq}
use Rattle.std.specs.HashMap.{get}
use Rattle.std.proofs.lemmas.Bool.{eqb-true}
use Rattle.hs_scheme.proofs.TransitionLemmas.{row_added}
use Rattle.hs_scheme.proofs.transitions.add_place.Goals as goal

pub returns : goal.returns
returns c = λ a.
    row_added (nat_eq c.args.terminal a) (get nat_eq c.args.rows.now a) (get nat_eq c.remove.new.self a) (get nat_eq c.insert.new.self a) (get nat_eq c.args.rows.now c.args.terminal) c.remove.result
    c.unwrap_or-row.result c.push.new.self c.new.result c.args.place (λ e. ap (get nat_eq c.args.rows.now) (eqb-true c.args.terminal a e)) c.remove.ensures.value c.new.ensures.items c.unwrap_or-row.ensures
    c.in_ok-push.ensures.items (c.remove.ensures.updates.0 a) (c.in_ok-insert.ensures.updates.0 a)
