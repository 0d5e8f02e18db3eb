use Rattle.std.proofs.Common.{◌≡◌, ◌∙◌, sym, length, false, Result, Ok, Err, arith, rules}
use Rattle.std.specs.Prelude.{OnOk, is_err}
use Rattle.hs_front.specs.Outside.{source_run}
use Rattle.hs_front.proofs.ReadLemmas.{read_whole}
use Rattle.hs_front.proofs.reading.read.Goals as goal

at_ok : {T E : Type 0} (r : Result T E) (P : Type 0) → is_err r ≡ false → OnOk r P → P
at_ok (Ok x) P e p = p
at_ok (Err d) P e p = absurd (cc)

pub returns-in-Ok-clause-answer : goal.returns-in-Ok-clause-answer
returns-in-Ok-clause-answer g c =
    let source = source_run g.S.Source.file g.S.Source.left g.S.Source.reading g.S.Source.faults c.args.source.now c.read_all.new.source in
    let began : is_err c.start.result ≡ false = sym c.is_err.ensures.value ∙ c.if-is_err.false in
    let kept : length c.in-Ok.bytes.items ≡ c.in-Ok.bytes.len = search rules in
    read_whole c.args.name.now source _ _ (at_ok c.start.result _ began c.start.ensures.ok_reading) (at_ok c.start.result _ began c.start.ensures.ok_left) c.args.limit c.in-Ok.bytes.items c.in-Ok.ensures.all (omega (arith, kept, c.in-Ok.ensures.within)) c.in-Ok.ensures.emptied
