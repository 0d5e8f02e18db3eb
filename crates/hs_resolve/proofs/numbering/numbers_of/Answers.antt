use Rattle.std.proofs.Common.{◌∙◌, ap, refl, length, map, [], ◌∷◌, ◌++◌}
use Rattle.std.proofs.lemmas.List.{take_all}
use Rattle.std.proofs.lemmas.Option.{slice_get_read}
use Rattle.hs_reader.specs.declared.raw.RawName.{RawName}
use Rattle.hs_resolve.specs.Names.{number}
use Rattle.hs_resolve.proofs.TransitionLoops.{mapped-more}
use Rattle.hs_resolve.proofs.Moves.{numbers-more}
use Rattle.hs_resolve.proofs.numbering.numbers_of.Goals as goal

pub loop-name-preserved : goal.loop-name-preserved
loop-name-preserved c =
    let names = c.args.to.now in
    let i = c.loop-name.name-index in
    let x = c.name-item.result in
    let at = slice_get_read names (length names) i x refl c.loop-name-test.true c.name-item.is in
    record {
      states = mapped-more (λ (m : RawName). m.text) names i x c.args.states.now c.loop-name.states c.number_in.new.index at c.loop-name.invariant.states c.in_ok-number_in.ensures.added;
      numbers = numbers-more names i x (x.text ∷ []) c.loop-name.states c.number_in.new.index c.loop-name.numbers.items c.push.new.self.items c.in_ok-number_in.field-0 at c.in_ok-number_in.ensures.added
          c.loop-name.invariant.numbers c.in_ok-number_in.ensures.number c.in_ok-push.ensures.items;
    }

pub returns-clause-numbers : goal.returns-clause-numbers
returns-clause-numbers c = λ later.
    let names = c.args.to.now in
    c.loop-name.invariant.numbers later ∙ ap (map (λ (q : RawName). number (c.loop-name.states ++ later) q.text)) (take_all c.loop-name.name-index names c.loop-name-test.false)
