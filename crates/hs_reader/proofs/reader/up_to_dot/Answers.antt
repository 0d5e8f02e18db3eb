use Rattle.std.proofs.Common.{◌∙◌, ap, arith}
use Rattle.std.proofs.lemmas.Result.{err_from_is_err_and}
use Rattle.hs_reader.specs.Reading.{view}
use Rattle.hs_reader.specs.ReadingStages.{in_body, run}
use Rattle.hs_reader.proofs.Running.{off, continues, body_other}
use Rattle.hs_reader.proofs.reader.up_to_dot.Goals as goal

pub returns-in_err-add_name-in-Name-clause-value : goal.returns-in_err-add_name-in-Name-clause-value
returns-in_err-add_name-in-Name-clause-value c =
    let p = err_from_is_err_and c.from_residual.result c.from_residual.ensures.1 in
    let b = c.loop-bytes.building in
    rw (p.1, p.2) (λ rs n ps. continues c.in_err-add_name-in-Name.field-0.0 _ _ (c.loop-bytes.invariant.0 rs n ps ∙ ap (run (in_body rs n ps b.outer b.top)) c.in-Name.ensures.value)
    (c.in_err-add_name-in-Name.ensures rs n ps _))

pub loop-bytes-preserved-in-Continue-1 : goal.loop-bytes-preserved-in-Continue-1
loop-bytes-preserved-in-Continue-1 c =
    let b = c.loop-bytes.building in (
      λ rs n ps. c.loop-bytes.invariant.0 rs n ps ∙ (ap (run (in_body rs n ps b.outer b.top)) c.in-Name.ensures.value ∙ c.in_ok-add_name-in-Name.ensures rs n ps _),
      omega (arith, c.in-Name.ensures.shorter),
    )

pub returns-in_err-open_parenthesis-in-Left-clause-value : goal.returns-in_err-open_parenthesis-in-Left-clause-value
returns-in_err-open_parenthesis-in-Left-clause-value c =
    let p = err_from_is_err_and c.from_residual-in_err-open_parenthesis-in-Left.result c.from_residual-in_err-open_parenthesis-in-Left.ensures.1 in
    let b = c.loop-bytes.building in
    rw (p.1, p.2) (λ rs n ps. continues c.in_err-open_parenthesis-in-Left.field-0.0 _ _ (c.loop-bytes.invariant.0 rs n ps ∙ ap (run (in_body rs n ps b.outer b.top)) c.in-Left.ensures.value)
    (c.in_err-open_parenthesis-in-Left.ensures c.next.new.self.line rs n ps _))

pub loop-bytes-preserved-in-Continue-branch-2 : goal.loop-bytes-preserved-in-Continue-branch-2
loop-bytes-preserved-in-Continue-branch-2 c =
    let b = c.loop-bytes.building in (
      λ rs n ps. c.loop-bytes.invariant.0 rs n ps ∙ (ap (run (in_body rs n ps b.outer b.top)) c.in-Left.ensures.value ∙ c.in_ok-open_parenthesis-in-Left.ensures c.next.new.self.line rs n ps _),
      omega (arith, c.in-Left.ensures.shorter),
    )

pub returns-in_err-close_parenthesis-in-Right-clause-value : goal.returns-in_err-close_parenthesis-in-Right-clause-value
returns-in_err-close_parenthesis-in-Right-clause-value c =
    let p = err_from_is_err_and c.from_residual-in_err-close_parenthesis-in-Right.result c.from_residual-in_err-close_parenthesis-in-Right.ensures.1 in
    let b = c.loop-bytes.building in
    rw (p.1, p.2) (λ rs n ps. continues c.in_err-close_parenthesis-in-Right.field-0.0 _ _ (c.loop-bytes.invariant.0 rs n ps ∙ ap (run (in_body rs n ps b.outer b.top)) c.in-Right.ensures.value)
    (c.in_err-close_parenthesis-in-Right.ensures rs n ps _))

pub loop-bytes-preserved : goal.loop-bytes-preserved
loop-bytes-preserved c =
    let b = c.loop-bytes.building in (
      λ rs n ps. c.loop-bytes.invariant.0 rs n ps ∙ (ap (run (in_body rs n ps b.outer b.top)) c.in-Right.ensures.value ∙ c.in_ok-close_parenthesis-in-Right.ensures rs n ps _),
      omega (arith, c.in-Right.ensures.shorter),
    )

pub returns-in-Dot-clause-value : goal.returns-in-Dot-clause-value
returns-in-Dot-clause-value c = λ rs n ps.
    let b = c.loop-bytes.building in
    c.loop-bytes.invariant.0 rs n ps ∙ ap (run (in_body rs n ps b.outer b.top)) c.in-Dot.ensures.value

pub returns-in_default-clause-value : goal.returns-in_default-clause-value
returns-in_default-clause-value c = λ rs n ps.
    let b = c.loop-bytes.building in
    c.loop-bytes.invariant.0 rs n ps
    ∙ off (in_body rs n ps b.outer b.top) c.next.new.self.line (view c.next.new.self.line c.next.result) _ _ c.next.ensures.value
    (body_other rs n ps b.outer b.top c.next.new.self.line c.next.result c.in_default.not-Name c.in_default.not-Left c.in_default.not-Right c.in_default.not-Dot)
