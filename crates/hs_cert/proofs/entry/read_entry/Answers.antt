use Rattle.std.proofs.Common.{◌≡◌, refl, sym, subst, List, ℕ, true, false}
use Rattle.std.proofs.lemmas.Result.{err_from_is_err_and}
use Rattle.hs_cert.specs.Front.{IsPlaceFront, IsTypeFront}
use Rattle.hs_cert.proofs.Numbers.{faulty_of}
use Rattle.hs_cert.proofs.Entries.{no_place, no_env, no_blank, no_type, not_at_end, whole, sets_as}
use Rattle.hs_cert.proofs.entry.read_entry.Goals as goal

pub returns-in_err-point-clause-faulty : goal.returns-in_err-point-clause-faulty
returns-in_err-point-clause-faulty c = λ h.
    let p = err_from_is_err_and c.from_residual.result c.from_residual.ensures.1 in
    let nothing = c.in_err-point.ensures.faulty (faulty_of c.from_residual.result p.0 c.in_err-point.field-0.0 p.1 p.2 h) in
    no_place c.args.problem.now c.args.states.now c.requires.same c.requires.states.are c.requires.same.few c.args.line.now
    (λ point rest f. nothing point rest (subst (λ (x : List ℕ). IsPlaceFront c.args.problem.now x point rest) (sym c.new-ahead.ensures) f))

pub returns-in_err-env-clause-faulty : goal.returns-in_err-env-clause-faulty
returns-in_err-env-clause-faulty c = λ h.
    let p = err_from_is_err_and c.from_residual-in_err-env.result c.from_residual-in_err-env.ensures.1 in
    let names = c.args.states.now in
    let one = c.read_place.new.ahead.bytes.now in
    let nothing = c.in_err-env.ensures.faulty (faulty_of c.from_residual-in_err-env.result p.0 c.in_err-env.field-0.0 p.1 p.2 h) in
    no_env c.args.problem.now names c.requires.same c.requires.states.are c.requires.same.few c.args.line.now one c.in_ok-point.point
    (subst (λ (x : List ℕ). IsPlaceFront c.args.problem.now x c.in_ok-point.point one) c.new-ahead.ensures c.in_ok-point.ensures.read)
    (λ env rest f. nothing env rest (sets_as names _ _ _ _ one env rest (sym c.params_of-params.ensures) (sym c.param_count.ensures) f))

pub returns-in_err-expect-clause-faulty : goal.returns-in_err-expect-clause-faulty
returns-in_err-expect-clause-faulty c = λ h.
    let p = err_from_is_err_and c.from_residual-in_err-expect.result c.from_residual-in_err-expect.ensures.1 in
    let names = c.args.states.now in
    let one = c.read_place.new.ahead.bytes.now in
    let two = c.read_env.new.ahead.bytes.now in
    no_blank c.args.problem.now names c.requires.same c.requires.states.are c.requires.same.few c.args.line.now one c.in_ok-point.point
    (subst (λ (x : List ℕ). IsPlaceFront c.args.problem.now x c.in_ok-point.point one) c.new-ahead.ensures c.in_ok-point.ensures.read)
    two c.in_ok-env.env.items (sets_as names _ _ _ _ one c.in_ok-env.env.items two c.params_of-params.ensures c.param_count.ensures c.in_ok-env.ensures.read)
    (c.in_err-expect.ensures.faulty (faulty_of c.from_residual-in_err-expect.result p.0 c.in_err-expect.field-0.0 p.1 p.2 h))

pub returns-in_err-ty-clause-faulty : goal.returns-in_err-ty-clause-faulty
returns-in_err-ty-clause-faulty c = λ h.
    let p = err_from_is_err_and c.from_residual-in_err-ty.result c.from_residual-in_err-ty.ensures.1 in
    let names = c.args.states.now in
    let one = c.read_place.new.ahead.bytes.now in
    let two = c.read_env.new.ahead.bytes.now in
    no_type c.args.problem.now names c.requires.same c.requires.states.are c.requires.same.few c.args.line.now one c.in_ok-point.point
    (subst (λ (x : List ℕ). IsPlaceFront c.args.problem.now x c.in_ok-point.point one) c.new-ahead.ensures c.in_ok-point.ensures.read)
    two c.in_ok-env.env.items (sets_as names _ _ _ _ one c.in_ok-env.env.items two c.params_of-params.ensures c.param_count.ensures c.in_ok-env.ensures.read)
    c.expect.new.self.bytes.now c.in_ok-expect.ensures.read (c.in_err-ty.ensures.faulty (faulty_of c.from_residual-in_err-ty.result p.0 c.in_err-ty.field-0.0 p.1 p.2 h))

pub returns-else-is_empty-clause-faulty : goal.returns-else-is_empty-clause-faulty
returns-else-is_empty-clause-faulty c = λ h.
    let names = c.args.states.now in
    let one = c.read_place.new.ahead.bytes.now in
    let two = c.read_env.new.ahead.bytes.now in
    not_at_end c.args.problem.now names c.requires.same c.requires.states.are c.requires.same.few c.args.line.now one c.in_ok-point.point
    (subst (λ (x : List ℕ). IsPlaceFront c.args.problem.now x c.in_ok-point.point one) c.new-ahead.ensures c.in_ok-point.ensures.read)
    two c.in_ok-env.env.items (sets_as names _ _ _ _ one c.in_ok-env.env.items two c.params_of-params.ensures c.param_count.ensures c.in_ok-env.ensures.read)
    c.expect.new.self.bytes.now c.read_type.new.ahead.bytes.now c.in_ok-ty.ty c.in_ok-expect.ensures.read c.in_ok-ty.ensures.read
    (λ e. (let f : false ≡ true = c.if-is_empty.ensures.1 e in cc))

pub returns-then-is_empty-clause-read : goal.returns-then-is_empty-clause-read
returns-then-is_empty-clause-read c =
    let names = c.args.states.now in
    let one = c.read_place.new.ahead.bytes.now in
    let two = c.read_env.new.ahead.bytes.now in
    let three = c.expect.new.self.bytes.now in
    whole c.args.problem.now names c.requires.same c.args.line.now one two three c.in_ok-point.point c.in_ok-env.env.items c.in_ok-ty.ty
    (subst (λ (x : List ℕ). IsPlaceFront c.args.problem.now x c.in_ok-point.point one) c.new-ahead.ensures c.in_ok-point.ensures.read)
    (sets_as names _ _ _ _ one c.in_ok-env.env.items two c.params_of-params.ensures c.param_count.ensures c.in_ok-env.ensures.read) c.in_ok-expect.ensures.read
    (subst (λ (x : List ℕ). IsTypeFront names 1000 three c.in_ok-ty.ty x) (c.if-is_empty.ensures.0 refl) c.in_ok-ty.ensures.read)
