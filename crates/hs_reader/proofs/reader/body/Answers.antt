use Rattle.std.proofs.Common.{◌∙◌, ap, sym, subst, Result, ok_or}
use Rattle.std.proofs.lemmas.Result.{err_from_is_err_and}
use Rattle.hs_reader.specs.declared.fault.ReadFault.{ReadFault}
use Rattle.hs_reader.specs.declared.fault.ReadFault.TheVariants.{Syntax}
use Rattle.hs_reader.specs.Raw.{File}
use Rattle.hs_reader.specs.ReadingStages.{in_rules, in_body, with_rule, read, Goes}
use Rattle.hs_reader.specs.Building.{Begun}
use Rattle.hs_reader.proofs.Running.{continues}
use Rattle.hs_reader.proofs.Bodies.{dot_goes}
use Rattle.hs_reader.proofs.reader.body.Goals as goal

pub returns-in_err-up_to_dot-clause-value : goal.returns-in_err-up_to_dot-clause-value
returns-in_err-up_to_dot-clause-value c =
    let p = err_from_is_err_and c.from_residual.result c.from_residual.ensures.1 in
    rw (p.1, p.2) (λ rs n ps. continues c.in_err-up_to_dot.field-0.0 _ _ (ap (λ (b : Begun). read (in_body rs n ps b.outer b.top) c.args.cursor.now.line c.args.cursor.now.rest.now) (sym c.new-building.ensures))
    (c.in_err-up_to_dot.ensures.value rs n ps))

pub returns-clause-value : goal.returns-clause-value
returns-clause-value c = λ rs n ps.
    let b = c.up_to_dot.new.building in
    let behind = c.up_to_dot.new.cursor in
    let here = ap (λ (b : Begun). read (in_body rs n ps b.outer b.top) c.args.cursor.now.line c.args.cursor.now.rest.now) (sym c.new-building.ensures) ∙ c.in_ok-up_to_dot.ensures.value rs n ps in
    rw c.ok_or.ensures.value (subst (λ (r : Result File ReadFault). Goes (λ t. read (in_rules (with_rule rs n ps t)) behind.line behind.rest.now) (ok_or c.term.result (Syntax behind.line)) r) (sym here)
    (dot_goes rs n ps b.outer b.top c.term.result behind.line _ (c.term.ensures rs n ps)))
