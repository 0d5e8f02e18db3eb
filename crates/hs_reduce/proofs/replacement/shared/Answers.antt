use Rattle.std.proofs.Common.{◌≡◌, sym, ◌∙◌, length}
use Rattle.std.proofs.lemmas.Bool.{eqb-true}
use Rattle.std.proofs.lemmas.List.{nil_from_length}
use Rattle.hs_scheme.specs.Tree.{node, forest}
use Rattle.hs_scheme.proofs.Lists.{got_some}
use Rattle.hs_reduce.proofs.replacement.shared.Goals as goal

pub returns : goal.returns
returns c =
    let args = c.term.inside.args in
    let no_length : length args.items ≡ 0 = sym args.ok.0 ∙ eqb-true args.len 0 (sym c.is_empty.ensures ∙ c.if-not-is_empty.false) in (
      c.in-Var.parameter,
      sym c.term.view_is ∙ (λ i. node (c.in-Var.is i) (forest (nil_from_length args.items no_length i))),
      got_some c.args.with.now c.in-Var.parameter _ c.in_ok-place.ensures.lookup.0 c.in_ok-place.ensures.lookup.1,
    )
