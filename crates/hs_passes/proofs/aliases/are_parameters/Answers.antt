use Rattle.std.proofs.Common.{◌≡◌, ◌<◌, sym, ◌∙◌, ap, zero-add, false, true, length, get_or, arith}
use Rattle.std.proofs.lemmas.Bool.{false_from_ne_true}
use Rattle.hs_scheme.specs.Tree.{forest}
use Rattle.hs_passes.specs.Aliases.{is_parameter, are_parameters}
use Rattle.hs_passes.proofs.Parameters.{all_are, as_many, each_is, each_more}
use Rattle.hs_passes.proofs.aliases.are_parameters.Goals as goal

pub loop-i-preserved : goal.loop-i-preserved
loop-i-preserved c =
    let ts = c.args.terms.now in
    let d = c.index-terms-i.result in
    each_more 0 c.loop-i.i d ts c.loop-i.invariant c.loop-i-test.true
    (ap (λ n. is_parameter n (get_or ts c.loop-i.i d)) (zero-add c.loop-i.i)
    ∙ (ap (is_parameter c.loop-i.i) (sym c.index-terms-i.is) ∙ (sym c.is_parameter.ensures ∙ c.if-not-is_parameter.false)))

pub returns-then-terms-count : goal.returns-then-terms-count
returns-then-terms-count c =
    sym (false_from_ne_true (are_parameters 0 c.args.count (forest c.args.terms.now)) (λ e. c.if-terms-count.true (as_many 0 c.args.count c.args.terms.now e)))

pub returns-then-not-is_parameter : goal.returns-then-not-is_parameter
returns-then-not-is_parameter c =
    let ts = c.args.terms.now in
    let i = c.loop-i.i in
    let d = c.index-terms-i.result in
    sym (false_from_ne_true (are_parameters 0 c.args.count (forest ts)) (λ e.
    let lt : i < c.args.count = omega (arith, c.loop-i-test.true, as_many 0 c.args.count ts e) in
    let was = each_is 0 c.args.count ts e i d lt c.loop-i-test.true in
    let is : is_parameter i d ≡ true = ap (is_parameter i) c.index-terms-i.is ∙ (ap (λ n. is_parameter n (get_or ts i d)) (sym (zero-add i)) ∙ was) in
    let t : true ≡ false = sym is ∙ (sym c.is_parameter.ensures ∙ c.if-not-is_parameter.true) in
    absurd (cc)))

pub returns : goal.returns
returns c =
    let ts = c.args.terms.now in
    let long : length ts ≡ c.args.count = c.if-terms-count.false in
    sym (all_are 0 c.args.count ts long (λ k t lt l. c.loop-i.invariant k t (omega (arith, l, c.loop-i-test.false)) l))
