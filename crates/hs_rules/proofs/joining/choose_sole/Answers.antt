use Rattle.std.proofs.Common.{◌≡◌, refl, sym, ◌∙◌, ap, subst, ℕ, ◌<◌, ◌≤◌, ◌++◌, length, map, set, arith}
use Rattle.std.proofs.lemmas.List.{take_all, drop_all, append-nil}
use Rattle.std.proofs.lemmas.List.Edits.{map_over_more}
use Rattle.hs_rules.specs.Joins.{PartialData, with_choice}
use Rattle.hs_rules.proofs.Lists.{edited_item}
use Rattle.hs_rules.proofs.joining.choose_sole.Goals as goal

pub loop-partial-init : goal.loop-partial-init
loop-partial-init c = refl

pub choose-requires : goal.choose-requires
choose-requires c =
    let k = c.loop-partial.partial-index in
    let item = c.partial-item.result in
    let lt : k < length c.args.partials.now = omega (arith, c.loop-partial-test.true, c.loop-partial.auto.partials) in
    let there = edited_item (λ (x : PartialData). with_choice c.args.candidate.arg c.args.candidate.at c.args.candidate.place x) c.args.partials.now c.loop-partial.partials k item lt c.loop-partial.invariant c.partial-item.is in
    subst (λ (n : ℕ). c.args.candidate.at ≤ n) (sym (ap (λ (x : PartialData). length x.args) c.partial.view_is)) (subst (λ (x : PartialData). c.args.candidate.at ≤ length x.args) c.partial-item.is (c.requires item there))

pub loop-partial-preserved : goal.loop-partial-preserved
loop-partial-preserved c =
    let k = c.loop-partial.partial-index in
    let item = c.partial-item.result in
    let lt : k < length c.args.partials.now = omega (arith, c.loop-partial-test.true, c.loop-partial.auto.partials) in
    let pushed : (let x : PartialData = record { env = c.partial.inside.env; args = c.choose.new.args.items } in x ≡ with_choice c.args.candidate.arg c.args.candidate.at c.args.candidate.place item) =
    (λ i. record { env = c.partial.inside.env; args = c.in_ok-choose.ensures i }) ∙ ap (λ (x : PartialData). with_choice c.args.candidate.arg c.args.candidate.at c.args.candidate.place x) (c.partial.view_is ∙ sym c.partial-item.is) in
    ap (λ (x : PartialData). set c.loop-partial.partials k x) pushed
    ∙ map_over_more (λ (x : PartialData). with_choice c.args.candidate.arg c.args.candidate.at c.args.candidate.place x) c.args.partials.now c.loop-partial.partials k item lt c.loop-partial.invariant c.partial-item.is

pub returns : goal.returns
returns c =
    let k = c.loop-partial.partial-index in
    let old = c.args.partials.now in
    let le = c.loop-partial-test.false in
    let whole = λ (x : PartialData). with_choice c.args.candidate.arg c.args.candidate.at c.args.candidate.place x in
    c.loop-partial.invariant ∙ ((λ i. map whole (take_all k old le i) ++ drop_all k old le i) ∙ append-nil (map whole old))
