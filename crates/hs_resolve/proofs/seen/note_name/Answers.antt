use Rattle.std.proofs.Common.{◌≡◌, ◌∙◌, ap, not, cond, Some, None}
use Rattle.hs_resolve.specs.Names.{is_among, with_name}
use Rattle.hs_resolve.specs.Least.{earliest}
use Rattle.hs_resolve.proofs.TransitionLoops.{new_line, old_line}
use Rattle.hs_resolve.proofs.seen.note_name.Goals as goal
use Rattle.hs_resolve.proofs.seen.note_name.Goals.{then-fresh, else-fresh}

pub returns-clause-names : goal.returns-clause-names
returns-clause-names c = c.in_ok-fresh.ensures.added ∙ ap (with_name c.args.names.now) c.bytes.ensures

pub returns-clause-repeated : goal.returns-clause-repeated
returns-clause-repeated c =
    let among = is_among c.args.names.now c.args.name.now.text in
    let line = c.args.name.now.line in
    let fresh : c.in_ok-fresh.fresh ≡ not among = c.in_ok-fresh.ensures.new ∙ ap (λ x. not (is_among c.args.names.now x)) c.bytes.ensures in
    let is : c.if-fresh.line ≡ cond among (Some line) None =
    elim c.if-fresh.branch [
      | then-fresh w ↦ new_line c.in_ok-fresh.fresh among line c.if-fresh.line fresh w.if-fresh.true w.line-is
      | else-fresh w ↦ old_line c.in_ok-fresh.fresh among line c.if-fresh.line fresh w.if-fresh.false w.line-is
    ] in
    c.earliest.ensures ∙ ap (earliest c.args.repeated.now) is
