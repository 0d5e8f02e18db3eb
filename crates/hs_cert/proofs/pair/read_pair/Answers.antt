use Rattle.std.proofs.Common.{◌≡◌, refl, sym, subst, List, ℕ, true, false}
use Rattle.std.proofs.lemmas.Result.{err_from_is_err_and}
use Rattle.hs_cert.specs.Front.{IsRuleFront}
use Rattle.hs_cert.proofs.Numbers.{faulty_of}
use Rattle.hs_cert.proofs.Entries.{sets_as}
use Rattle.hs_cert.proofs.Pairs.{no_rule, no_env, not_at_end, whole}
use Rattle.hs_cert.proofs.pair.read_pair.Goals as goal

pub returns-in_err-rule-clause-faulty : goal.returns-in_err-rule-clause-faulty
returns-in_err-rule-clause-faulty c = λ h.
    let p = err_from_is_err_and c.from_residual.result c.from_residual.ensures.1 in
    let nothing = c.in_err-rule.ensures.faulty (faulty_of c.from_residual.result p.0 c.in_err-rule.field-0.0 p.1 p.2 h) in
    no_rule c.args.problem.now c.args.states.now c.args.rules.now c.requires.same c.requires.own c.requires.states.are c.requires.rules.are c.args.line.now
    (λ rule rest f. nothing rule rest (subst (λ (x : List ℕ). IsRuleFront c.args.rules.now x rule rest) (sym c.new-ahead.ensures) f))

pub returns-in_err-env-clause-faulty : goal.returns-in_err-env-clause-faulty
returns-in_err-env-clause-faulty c = λ h.
    let p = err_from_is_err_and c.from_residual-in_err-env.result c.from_residual-in_err-env.ensures.1 in
    let names = c.args.states.now in
    let one = c.read_rule.new.ahead.bytes.now in
    let nothing = c.in_err-env.ensures.faulty (faulty_of c.from_residual-in_err-env.result p.0 c.in_err-env.field-0.0 p.1 p.2 h) in
    no_env c.args.problem.now names c.args.rules.now c.requires.same c.requires.own c.requires.states.are c.requires.rules.are c.args.line.now one c.in_ok-rule.rule
    (subst (λ (x : List ℕ). IsRuleFront c.args.rules.now x c.in_ok-rule.rule one) c.new-ahead.ensures c.in_ok-rule.ensures.read)
    (λ env rest f. nothing env rest (sets_as names _ _ _ _ one env rest (sym c.params_of-params.ensures) (sym c.param_count.ensures) f))

pub returns-else-is_empty-clause-faulty : goal.returns-else-is_empty-clause-faulty
returns-else-is_empty-clause-faulty c = λ h.
    let names = c.args.states.now in
    let one = c.read_rule.new.ahead.bytes.now in
    let two = c.read_env.new.ahead.bytes.now in
    not_at_end c.args.problem.now names c.args.rules.now c.requires.same c.requires.own c.requires.states.are c.requires.rules.are c.args.line.now one c.in_ok-rule.rule
    (subst (λ (x : List ℕ). IsRuleFront c.args.rules.now x c.in_ok-rule.rule one) c.new-ahead.ensures c.in_ok-rule.ensures.read)
    two c.in_ok-env.env.items (sets_as names _ _ _ _ one c.in_ok-env.env.items two c.params_of-params.ensures c.param_count.ensures c.in_ok-env.ensures.read)
    (λ e. (let f : false ≡ true = c.if-is_empty.ensures.1 e in cc))

pub returns-then-is_empty-clause-read : goal.returns-then-is_empty-clause-read
returns-then-is_empty-clause-read c =
    let names = c.args.states.now in
    let one = c.read_rule.new.ahead.bytes.now in
    let two = c.read_env.new.ahead.bytes.now in
    whole c.args.problem.now names c.args.rules.now c.requires.same c.requires.own c.args.line.now one two c.in_ok-rule.rule c.in_ok-env.env.items
    (subst (λ (x : List ℕ). IsRuleFront c.args.rules.now x c.in_ok-rule.rule one) c.new-ahead.ensures c.in_ok-rule.ensures.read)
    (sets_as names _ _ _ _ one c.in_ok-env.env.items two c.params_of-params.ensures c.param_count.ensures c.in_ok-env.ensures.read) (c.if-is_empty.ensures.0 refl)
