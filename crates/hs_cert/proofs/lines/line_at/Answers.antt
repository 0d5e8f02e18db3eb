use Rattle.std.proofs.Common.{refl, sym, ◌∙◌, ap, ℕ, ◌+◌, List, [], ◌∷◌, ◌++◌, length-append, Bor, arith}
use Rattle.hs_cert.proofs.LineLemmas.{cut_push}
use Rattle.hs_cert.proofs.PairLines.{no_next, no_later, some_next, if_none, none_weaker}
use Rattle.hs_cert.proofs.lines.line_at.Goals as goal

pub loop-init : goal.loop-init
loop-init c = ([], refl, omega arith, record { are = sym c.new-lines.ensures; clear = λ k d lt. absurd (omega (arith, lt)) })

pub returns-in_err-next-clause-none : goal.returns-in_err-next-clause-none
returns-in_err-next-clause-none c =
    let inv = c.loop.invariant in
    if_none c.from_residual.result (λ text line. no_later c.args.bytes.now inv.0 c.loop.lines.rest.now inv.3 c.loop.counter inv.1 c.in_err-next.ensures.none c.args.number c.loop-test.true text line)

pub loop-preserved : goal.loop-preserved
loop-preserved c =
    let inv = c.loop.invariant in
    let line = c.in_ok-next.field-0.now in (
      inv.0 ++ line ∷ [],
      length-append inv.0 (line ∷ []) ∙ ap (λ n. n + 1) inv.1,
      omega (arith, c.loop-test.true),
      cut_push c.args.bytes.now inv.0 c.loop.lines.rest.now line c.next.new.self.rest.now inv.3 c.in_ok-next.ensures.inside c.in_ok-next.ensures.some,
    )

pub returns-clause-some : goal.returns-clause-some
returns-clause-some c =
    let inv = c.loop.invariant in
    some_next c.args.bytes.now inv.0 c.loop.lines.rest.now inv.3 c.args.number (omega (arith, inv.1, inv.2, c.loop-test.false)) (λ (x : Bor (List ℕ)). x.now) c.next-2.result c.next-2.new.self.rest.now c.next-2.ensures.some c.next-2.ensures.inside

pub returns-clause-none : goal.returns-clause-none
returns-clause-none c =
    let inv = c.loop.invariant in
    none_weaker c.next-2.result (λ nothing. no_next c.args.bytes.now inv.0 c.loop.lines.rest.now inv.3 c.args.number (omega (arith, inv.1, inv.2, c.loop-test.false)) nothing) c.next-2.ensures.none
