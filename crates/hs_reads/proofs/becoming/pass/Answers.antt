use Rattle.std.proofs.Common.{◌≡◌, refl, sym, ◌∙◌, ap, subst, ℕ, ◌+◌, List, length, arith}
use Rattle.hs_scheme.specs.declared.term.Head.TheVariants.{Var}
use Rattle.hs_reads.specs.Own.{IsBecoming}
use Rattle.hs_reads.proofs.GrowLemmas.{adds_none, adds_such}
use Rattle.hs_reads.proofs.BecomingLemmas.{parts_read, becomes_next}
use Rattle.hs_reads.proofs.becoming.pass.Goals as goal

pub returns-in_default-clause-only : goal.returns-in_default-clause-only
returns-in_default-clause-only c = adds_none (IsBecoming c.args.problem.now) c.args.found.now.keys

pub returns-in_default-clause-limit : goal.returns-in_default-clause-limit
returns-in_default-clause-limit c = λ _. absurd (c.in_default.ensures (omega (arith, c.given_at-more.ensures.few, c.requires.few, c.requires.short)))

pub returns-clause-only : goal.returns-clause-only
returns-clause-only c =
    let p = c.args.problem.now in
    let b = c.args.becoming in
    let f = c.args.pair.now in
    let args = c.requires.headed.1.0 in
    let at = c.requires.headed.1.1 in
    let long : c.given_at-more.result ≡ length args =
    c.given_at-more.ensures.len ∙ ap (λ (us : List ℕ). length us) (parts_read p p.points refl f.point b.rule (Var b.param) args at).args_are in
    let given : c.in-Some.given ≡ b.given + length args = c.in-Some.ensures.1 ∙ ap (λ (n : ℕ). b.given + n) long in
    adds_such (λ d. d ≡ record { rule = f.rule; param = f.param; terminal = b.terminal; given = c.in-Some.given }) (IsBecoming p) c.args.found.now.keys c.add.new.found.keys c.add.ensures.only
    (λ d e. subst (λ d. IsBecoming p d) (sym e)
    (subst (λ n. IsBecoming p (record { rule = f.rule; param = f.param; terminal = b.terminal; given = n })) (sym given) (becomes_next p b f args c.requires.known c.requires.headed.0 at)))

pub returns-clause-short : goal.returns-clause-short
returns-clause-short c = c.add.ensures.short (omega (arith, c.in-Some.ensures.1, c.given_at-more.ensures.few, c.requires.short))
