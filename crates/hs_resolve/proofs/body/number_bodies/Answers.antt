use Rattle.std.proofs.Common.{◌≡◌, ◌∙◌, ap, sym, subst, length, filter, refl, Option, slice_get, ℕ, ◌+◌, ◌<◌, arith}
use Rattle.std.proofs.lemmas.Option.{slice_get_read, same_Some}
use Rattle.std.proofs.lemmas.List.{length-map}
use Rattle.hs_reader.specs.Raw.{Rule}
use Rattle.hs_reader.specs.Limits.{term_names}
use Rattle.hs_resolve.specs.Names.{texts, distinct}
use Rattle.hs_resolve.specs.Numbering.{is_terminal}
use Rattle.hs_resolve.specs.Least.{IsLeast, Before}
use Rattle.hs_resolve.specs.LineFaults.{Somewhere, IsUndefined}
use Rattle.hs_resolve.proofs.Bodies.{bodies-least, rules-more}
use Rattle.hs_resolve.proofs.Lists.{at_map}
use Rattle.hs_resolve.proofs.Leasts.{least-none, least-all}
use Rattle.hs_resolve.proofs.NameLoops.{bodies-more}
use Rattle.hs_resolve.proofs.body.number_bodies.Goals as goal

pub loop-number-init : goal.loop-number-init
loop-number-init c = record {
  terminals = c.requires.terminals;
  undefined = least-none (λ _ (r : Rule) line. Somewhere (λ _ n. IsUndefined c.args.left.now n line) (term_names r.body)) c.args.rules.now;
  rules = λ later. c.in_ok-reserve.ensures.items ∙ c.requires.numbered;
}

pub loop-number-preserved : goal.loop-number-preserved
loop-number-preserved c =
    let rules = c.args.rules.now in
    let params = c.args.params.now in
    let left = c.args.left.now in
    let i = c.loop-number.number in
    let r = c.index-rules-number.result in
    let scope = c.index-params-number.result in
    let scopes = λ (x : Rule). distinct (texts x.params) in
    let at = slice_get_read rules (length rules) i r refl c.loop-number-test.true c.index-rules-number.is in
    let within : i < length params = let e : length params ≡ length rules = ap length c.requires.params ∙ length-map rules scopes in omega (arith, c.loop-number-test.true) in
    let at_scope = slice_get_read params (length params) i scope refl within c.index-params-number.is in
    let same : scope ≡ scopes r = same_Some scope (scopes r) (sym at_scope ∙ (ap (λ ps. slice_get ps i) c.requires.params ∙ at_map scopes rules i r at)) in
    let P = λ (_ : ℕ) (x : Rule) (line : ℕ). Somewhere (λ _ n. IsUndefined left n line) (term_names x.body) in
    let ensured = c.in_ok-rule_of.ensures in
    record {
      terminals = bodies-more rules i r c.loop-number.terminals c.rule_of.new.terminals scope at same c.loop-number.invariant.terminals ensured.terminals;
      undefined = subst (λ (o : Option ℕ). IsLeast (Before P rules (i + 1)) o) (sym ensured.undefined) (bodies-least left rules i r c.loop-number.undefined at c.loop-number.invariant.undefined);
      rules = rules-more left (filter (is_terminal scope) (texts (term_names r.body))) c.loop-number.terminals c.rule_of.new.terminals rules i r c.loop-number.numbered.items c.push.new.self.items
          c.in_ok-rule_of.field-0 at ensured.terminals c.loop-number.invariant.rules ensured.rule c.in_ok-push.ensures.items;
    }

pub returns-clause-undefined : goal.returns-clause-undefined
returns-clause-undefined c =
    least-all (λ _ r line. Somewhere (λ _ n. IsUndefined c.args.left.now n line) (term_names r.body)) c.args.rules.now c.loop-number.number c.loop-number.undefined c.loop-number-test.false c.loop-number.invariant.undefined
