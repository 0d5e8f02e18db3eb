use Rattle.std.proofs.Common.{◌≡◌, ◌∙◌, ap, sym, length, map, refl, Some, slice_get, ◌≤◌, arith}
use Rattle.std.proofs.lemmas.Option.{slice_get_read}
use Rattle.std.proofs.lemmas.List.{length-map}
use Rattle.hs_reader.specs.Raw.{Rule}
use Rattle.hs_resolve.specs.LineFaults.{RepeatsAt}
use Rattle.hs_resolve.proofs.Lists.{at_map}
use Rattle.hs_resolve.proofs.Leasts.{least-none, least-all}
use Rattle.hs_resolve.proofs.NameLoops.{index-more, repeated-more}
use Rattle.hs_resolve.proofs.seen.number_left.Goals as goal

pub loop-rule-init : goal.loop-rule-init
loop-rule-init c =
    let names = map (λ (r : Rule). r.name) c.args.rules.now in
    record { names = c.requires; repeated = least-none (RepeatsAt names) names }

pub loop-rule-preserved : goal.loop-rule-preserved
loop-rule-preserved c =
    let rules = c.args.rules.now in
    let name = λ (r : Rule). r.name in
    let names = map name rules in
    let i = c.loop-rule.rule-index in
    let x = c.rule.inside.name in
    let at : slice_get names i ≡ Some x =
    at_map name rules i c.rule-item.result (slice_get_read rules (length rules) i c.rule-item.result refl c.loop-rule-test.true c.rule-item.is) ∙ ap (λ (r : Rule). Some r.name) (sym c.rule.view_is) in
    record {
      names = index-more names i x at c.loop-rule.left c.note_name.new.names c.loop-rule.invariant.names c.in_ok-note_name.ensures.names;
      repeated = repeated-more names i x at c.loop-rule.left c.loop-rule.repeated c.note_name.new.repeated c.loop-rule.invariant.names c.loop-rule.invariant.repeated c.in_ok-note_name.ensures.repeated;
    }

pub returns-clause-repeated : goal.returns-clause-repeated
returns-clause-repeated c =
    let rules = c.args.rules.now in
    let names = map (λ (r : Rule). r.name) rules in
    let len : length names ≡ length rules = length-map rules (λ (r : Rule). r.name) in
    let le : length names ≤ c.loop-rule.rule-index = omega (arith, c.loop-rule-test.false) in
    least-all (RepeatsAt names) names c.loop-rule.rule-index c.loop-rule.repeated le c.loop-rule.invariant.repeated
