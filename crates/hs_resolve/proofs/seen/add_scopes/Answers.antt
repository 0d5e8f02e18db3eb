use Rattle.std.proofs.Common.{◌≡◌, ◌∙◌, ap, sym, subst, length, map, refl, List, [], ◌∷◌, ◌++◌, Option, take, ℕ, ◌+◌}
use Rattle.std.proofs.lemmas.Option.{slice_get_read}
use Rattle.std.proofs.lemmas.List.{map_push}
use Rattle.hs_reader.specs.declared.raw.RawName.{RawName}
use Rattle.hs_reader.specs.Raw.{Rule}
use Rattle.hs_resolve.specs.Names.{texts, distinct}
use Rattle.hs_resolve.specs.Least.{IsLeast, Before}
use Rattle.hs_resolve.specs.LineFaults.{Repeats}
use Rattle.hs_resolve.proofs.Lists.{take-push}
use Rattle.hs_resolve.proofs.Leasts.{least-none, least-more, least-all}
use Rattle.hs_resolve.proofs.seen.add_scopes.Goals as goal

pub loop-rule-init : goal.loop-rule-init
loop-rule-init c = record { names = c.requires; repeated = least-none (λ _ (r : Rule) line. Repeats r.params line) c.args.rules.now }

pub loop-rule-preserved : goal.loop-rule-preserved
loop-rule-preserved c =
    let rules = c.args.rules.now in
    let i = c.loop-rule.rule-index in
    let r = c.rule-item.result in
    let scope = λ (x : Rule). distinct (texts x.params) in
    let P = λ (_ : ℕ) (x : Rule) (line : ℕ). Repeats x.params line in
    let at = slice_get_read rules (length rules) i r refl c.loop-rule-test.true c.rule-item.is in
    let params : c.as_slice.result.now ≡ r.params = c.as_slice.ensures.value ∙ ap (λ (x : Rule). x.params) c.rule.view_is in
    record {
      names = c.in_ok-line.ensures.names
          ∙ (ap (λ (ss : List (List (List ℕ))). ss ++ distinct (texts c.as_slice.result.now) ∷ []) c.loop-rule.invariant.names
          ∙ (ap (λ s. map scope (take i rules) ++ s ∷ []) (ap (λ ps. distinct (texts ps)) params)
          ∙ sym (ap (map scope) (take-push rules i r at) ∙ map_push scope (take i rules) r)));
      repeated = subst (λ (o : Option ℕ). IsLeast (Before P rules (i + 1)) o) (sym c.earliest-repeated.ensures)
          (least-more P rules i r c.loop-rule.repeated c.in_ok-line.line at c.loop-rule.invariant.repeated
          (subst (λ (ps : List RawName). IsLeast (Repeats ps) c.in_ok-line.line) params c.in_ok-line.ensures.repeated));
    }

pub returns-clause-repeated : goal.returns-clause-repeated
returns-clause-repeated c =
    least-all (λ _ r line. Repeats r.params line) c.args.rules.now c.loop-rule.rule-index c.loop-rule.repeated c.loop-rule-test.false c.loop-rule.invariant.repeated
