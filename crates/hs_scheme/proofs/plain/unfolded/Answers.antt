use Rattle.std.proofs.Common.{◌≡◌, sym, ◌∙◌, ap, ℕ, ◌-◌, ◌≤◌, List, length, take, drop, slice_get, Some, None, cond}
use Rattle.std.proofs.lemmas.Bool.{le-leb}
use Rattle.std.proofs.lemmas.List.{take_rest}
use Rattle.hs_scheme.specs.declared.term.Head.{Head}
use Rattle.hs_scheme.specs.declared.term.Rule.{Rule}
use Rattle.hs_scheme.specs.Tree.{Tree, forest}
use Rattle.hs_scheme.specs.acceptance.Replacement.{subst, applied}
use Rattle.hs_scheme.specs.acceptance.Cut.{body_of, body_with, unfolded}
use Rattle.hs_scheme.proofs.Lists.{got_some}
use Rattle.hs_scheme.proofs.plain.unfolded.Goals as goal

-- a rule's body with the first of the arguments for its parameters, and the rest behind it
body_made : (rules : List Rule) (f : ℕ) (rule : Rule) (ts : List (Tree Head)) (body made : Tree Head) → slice_get rules f ≡ Some rule → rule.params ≤ length ts → body ≡ subst rule.body (take rule.params ts)
    → made ≡ applied body (forest (take (length ts - rule.params) (drop rule.params ts))) → Some made ≡ unfolded rules f ts
body_made rules f rule ts body made at enough first is =
    ap (λ (t : Tree Head). Some t) (is ∙ (λ j. applied (first j) (forest (take_rest ts rule.params j))))
    ∙ sym (ap (λ o. body_with o ts) at ∙ ap (λ b. cond b (Some (body_of rule ts)) None) (le-leb rule.params (length ts) enough))

pub returns : goal.returns
returns c =
    body_made c.args.rules.now c.args.number c.in-Some.rule.now c.args.args.now c.in_ok-body.body c.in_ok-applied.field-0
    (got_some c.args.rules.now c.args.number c.in-Some.rule.now c.in-Some.ensures.lookup.0 c.in-Some.ensures.lookup.1) c.if-args-params.false c.in_ok-body.ensures c.in_ok-applied.ensures
