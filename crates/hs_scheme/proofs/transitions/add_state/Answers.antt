use Rattle.std.specs.HashMap.{get}
use Rattle.hs_scheme.specs.Key.{triple_eq}
use Rattle.hs_scheme.proofs.TransitionLemmas.{row_added, triple_same}
use Rattle.hs_scheme.proofs.transitions.add_state.Goals as goal

pub returns : goal.returns
returns c = λ k.
    row_added (triple_eq c.args.key k) (get triple_eq c.args.rows.now k) (get triple_eq c.remove.new.self k) (get triple_eq c.insert.new.self k) (get triple_eq c.args.rows.now c.args.key) c.remove.result
    c.unwrap_or-row.result c.push.new.self c.new.result c.args.state
    (λ e. let p = triple_same c.args.key.0 c.args.key.1 c.args.key.2 k.0 k.1 k.2 e in λ i. get triple_eq c.args.rows.now (p.0 i, p.1.0 i, p.1.1 i)) c.remove.ensures.value c.new.ensures.items c.unwrap_or-row.ensures
    c.in_ok-push.ensures.items (c.remove.ensures.updates.0 k) (c.in_ok-insert.ensures.updates.0 k)
