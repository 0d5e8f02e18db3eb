use Rattle.std.proofs.Common.{◌∙◌, sym, ap, arith, ℕ, List, Some, ◌-◌, length, take, drop, get_or}
use Rattle.std.proofs.lemmas.List.{length-take, length-drop}
use Rattle.hs_reader.specs.Reading.{comment_rest}
use Rattle.hs_reader.proofs.Cutting.{comment_on, comment_off, comment_none, line_bound}
use Rattle.hs_reader.proofs.cursor.comment_rest.Goals as goal

pub returns-in-Some-clause-value : goal.returns-in-Some-clause-value
returns-in-Some-clause-value c =
    ap (λ (w : List ℕ). Some (c.loop-rest.at, w)) c.in-Some.ensures.1
    ∙ sym (comment_off c.loop-rest.at c.loop-rest.rest.now c.in-len1-up.len_at_least c.in-Some.ensures.0) ∙ c.loop-rest.invariant.0

pub loop-rest-preserved : goal.loop-rest-preserved
loop-rest-preserved c =
    let rest = c.loop-rest.rest.now in (
      ap (λ (k : ℕ). comment_rest k (take (length rest - 1) (drop 1 rest))) c.line_behind-at.ensures
          ∙ sym (comment_on c.loop-rest.at rest c.in-len1-up.len_at_least c.in_default-comment_end.ensures) ∙ c.loop-rest.invariant.0,
      omega (arith, c.line_behind-at.ensures, line_bound c.loop-rest.at (get_or rest 0 0), length-take (length rest - 1) (drop 1 rest), length-drop 1 rest),
      omega (arith, length-take (length rest - 1) (drop 1 rest), length-drop 1 rest),
    )

pub returns-clause-value : goal.returns-clause-value
returns-clause-value c = sym (comment_none c.loop-rest.at c.loop-rest.rest.now (omega arith)) ∙ c.loop-rest.invariant.0
