use Rattle.std.proofs.Common.{◌≡◌, ◌∙◌, ap, sym, length, cond, Some, None}
use Rattle.std.specs.Str.{bytes_eq}
use Rattle.hs_reader.specs.Raw.{Transition}
use Rattle.hs_resolve.specs.Lengths.{length_of}
use Rattle.hs_resolve.proofs.TransitionLoops.{noted}
use Rattle.hs_resolve.proofs.transitions.note_length.Goals as goal

pub returns-in_default-clause-lengths : goal.returns-in_default-clause-lengths
returns-in_default-clause-lengths c = λ x.
    let t = c.args.transition.now in
    let old = length_of c.args.lengths.now in
    let terminal : c.bytes-terminal.result.now ≡ t.terminal.text = c.bytes-terminal.ensures ∙ ap (λ (u : Transition). u.terminal.text) c.transition.view_is in
    let len : c.len-length.result ≡ length t.to = c.len-length.ensures ∙ (c.transition.inside.to.ok.0 ∙ ap (λ (u : Transition). length u.to) c.transition.view_is) in
    let absent : old t.terminal.text ≡ None = ap old (sym terminal) ∙ (sym c.get.ensures.value ∙ (sym c.copied.ensures ∙ c.in_default.is)) in
    noted t.terminal.text x (length t.to) (old x) (length_of c.insert.new.self x)
    (c.in_ok-insert.ensures.updates.0 (record c.bytes-terminal.result { now = x }) ∙ (λ i. cond (bytes_eq (terminal i) x) (Some (len i)) (old x)))
    (λ e. ap old (sym e) ∙ absent)
