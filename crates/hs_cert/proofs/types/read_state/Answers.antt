use Rattle.std.proofs.Common.{sym, subst}
use Rattle.hs_table.specs.Types.{TypeTree}
use Rattle.hs_cert.specs.Front.{IsTypeFront}
use Rattle.hs_cert.proofs.Reading.{state_read, unread_state}
use Rattle.hs_cert.proofs.types.read_state.Goals as goal

pub returns-in-Some-clause-read : goal.returns-in-Some-clause-read
returns-in-Some-clause-read c =
    let names = c.args.states.now in
    let bytes = c.args.ahead.now.bytes.now in
    let rest = c.take_run.new.self.bytes.now in
    subst (λ (t : TypeTree). IsTypeFront names 1 bytes t rest) (sym c.state.ensures)
    (state_read names bytes c.take_run.result.now rest c.in-Some.q c.take_run.ensures.whole c.take_run.ensures.ends c.in-Some.ensures.at c.in-Some.ensures.within)

pub returns-in-None-clause-faulty : goal.returns-in-None-clause-faulty
returns-in-None-clause-faulty c = λ e q rest lt ends.
    unread_state c.args.states.now c.requires.are c.args.ahead.now.bytes.now c.take_run.result.now c.take_run.new.self.bytes.now c.take_run.ensures.whole c.take_run.ensures.run c.take_run.ensures.ends
    c.in-None.ensures.none q rest lt ends
