use Rattle.std.proofs.Common.{◌∙◌, ap, sym, refl}
use Rattle.std.proofs.lemmas.Result.{err_from_is_err_and}
use Rattle.hs_reader.specs.ReadingStages.{in_body, run, leaf, added}
use Rattle.hs_reader.specs.Building.{Begun}
use Rattle.hs_reader.proofs.Running.{word_fault}
use Rattle.hs_reader.proofs.Bodies.{body_word, body_word_full, unless_memory}
use Rattle.hs_reader.proofs.reader.add_name.Goals as goal

pub returns-in_err-name : goal.returns-in_err-name
returns-in_err-name c =
    let p = err_from_is_err_and c.from_residual.result c.from_residual.ensures.1 in
    let b = c.args.building.now in
    rw (p.1, p.2) (λ rs n ps rest. word_fault (in_body rs n ps b.outer b.top) _ c.args.line c.args.bytes.now c.in_err-name.field-0.0 _ rest refl refl c.in_err-name.ensures)

pub returns-then-is_full : goal.returns-then-is_full
returns-then-is_full c = λ rs n ps rest.
    let b = c.args.building.now in
    body_word_full rs n ps b.outer b.top c.args.line c.args.bytes.now _ rest refl c.in_ok-name.ensures.1 (sym c.is_full.ensures ∙ c.if-is_full.true)

pub returns : goal.returns
returns c = λ rs n ps rest.
    let b = c.args.building.now in
    let name = c.in_ok-name.name in
    unless_memory c.add.result _ _ _ c.add.ensures.added c.add.ensures.fault
    (λ made. body_word rs n ps b.outer b.top c.args.line c.args.bytes.now name (added b.top (leaf name)) _ rest refl c.in_ok-name.ensures.0 c.in_ok-name.ensures.1 (sym c.is_full.ensures ∙ c.if-is_full.false) refl
    ∙ ap (λ (d : Begun). run (in_body rs n ps d.outer d.top) rest) (sym made))
