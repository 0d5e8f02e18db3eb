use Rattle.std.proofs.Common.{◌≡◌, refl, ◌∙◌, ap, true, false, List, length, arith}
use Rattle.hs_scheme.specs.declared.term.Head.{Head}
use Rattle.hs_scheme.specs.Tree.{Tree, node, forest}
use Rattle.hs_scheme.proofs.CheckedLemmas.{row_more, head_of, few_of, arg_of, whole}
use Rattle.hs_scheme.proofs.checked.+is_in_range.Goals as goal

never : false ≡ true → ⊥
never e = (cc)

pub returns-then-not-is_head_in_range : goal.returns-then-not-is_head_in_range
returns-then-not-is_head_in_range t c = (
  λ e. absurd (never e),
  λ r. c.if-not-is_head_in_range.ensures.1 (head_of c.args.params c.args.rules c.args.terminals c.args.term.now c.term.inside.head c.term.inside.args.items c.term.view_is r),
)

pub returns-then-len-gt-MAX_ARGUMENTS : goal.returns-then-len-gt-MAX_ARGUMENTS
returns-then-len-gt-MAX_ARGUMENTS t c = (
  λ e. absurd (never e),
  λ r. absurd (omega (arith, few_of c.args.params c.args.rules c.args.terminals c.args.term.now c.term.inside.head c.term.inside.args.items c.term.view_is r, c.len.ensures, c.term.inside.args.ok.0)),
)

pub returns-then-not-is_in_range : goal.returns-then-not-is_in_range
returns-then-not-is_in_range t c =
    let us = c.deref-arg-items.result.now in
    let is : node c.term.inside.head (forest us) ≡ c.args.term.now = ap (λ (vs : List (Tree Head)). node c.term.inside.head (forest vs)) c.deref-arg-items.ensures.value ∙ c.term.view_is in (
      λ e. absurd (never e),
      λ r. c.if-not-is_in_range.ensures.1 (arg_of c.args.params c.args.rules c.args.terminals c.args.term.now c.term.inside.head us is c.loop-arg.arg-index c.arg-item.result c.loop-arg-test.true c.arg-item.is r),
    )

pub loop-arg-preserved : goal.loop-arg-preserved
loop-arg-preserved t c =
    row_more c.args.params c.args.rules c.args.terminals c.deref-arg-items.result.now c.loop-arg.arg-index c.arg-item.result c.loop-arg-test.true c.arg-item.is c.loop-arg.invariant (c.if-not-is_in_range.ensures.0 refl)

pub returns : goal.returns
returns t c =
    let us = c.deref-arg-items.result.now in
    let is : node c.term.inside.head (forest us) ≡ c.args.term.now = ap (λ (vs : List (Tree Head)). node c.term.inside.head (forest vs)) c.deref-arg-items.ensures.value ∙ c.term.view_is in
    let long : length us ≡ length c.term.inside.args.items = ap (λ (vs : List (Tree Head)). length vs) c.deref-arg-items.ensures.value in (
      λ e. whole c.args.params c.args.rules c.args.terminals c.args.term.now c.term.inside.head us is c.loop-arg.arg-index c.loop-arg-test.false (c.if-not-is_head_in_range.ensures.0 refl)
          (omega (arith, long, c.len.ensures, c.term.inside.args.ok.0)) c.loop-arg.invariant,
      λ r. refl,
    )
