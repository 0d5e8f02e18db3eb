use Rattle.std.proofs.Common.{◌≡◌, sym, ◌∙◌, ap, subst, ℕ, ◌-◌, List, length, slice_get, Some, None, Contains}
use Rattle.std.specs.Option.{option_copied}
use Rattle.std.proofs.lemmas.Result.{on_ok_weaker}
use Rattle.std.proofs.lemmas.Option.{same_Some}
use Rattle.hs_flow.specs.Lists.{list_of}
use Rattle.hs_flow.proofs.ListLemmas.{list-read}
use Rattle.hs_flow.proofs.DependentLemmas.{pushed_adds, adds_nothing}
use Rattle.hs_scheme.proofs.Lists.{read-slice_get}
use Rattle.hs_flow.proofs.dependents.add_once.Goals as goal
use Rattle.hs_flow.proofs.dependents.add_once.Goals.{in-Some+else-last-point, in_default}

none_some : (x : ℕ) → None ≡ Some x → ⊥
none_some x e = (cc)

pub returns : goal.returns
returns c =
    let xs : c.list.result.now ≡ list_of c.args.lists.now c.args.number = sym (list-read c.args.lists.now c.args.number c.list.result.now c.list.ensures) in
    let apart : (x : ℕ) → slice_get c.list.result.now (length c.list.result.now - 1) ≡ Some x → x ≡ c.args.point → ⊥ =
    λ x at same. elim c.match-last.branch [
      | in-Some+else-last-point w ↦ w.if-last-point.false (same_Some _ _ (ap option_copied (sym w.in-Some.is) ∙ (c.last.ensures.value ∙ at)) ∙ same)
      | in_default w ↦ none_some x (ap option_copied (sym w.in_default.is) ∙ (c.last.ensures.value ∙ at))
    ] in
    on_ok_weaker c.push.result (λ p. pushed_adds c.args.lists.now c.push.new.self c.args.number c.args.point p.len p.each
    (subst (λ (ys : List ℕ). (x : ℕ) → slice_get ys (length ys - 1) ≡ Some x → x ≡ c.args.point → ⊥) xs apart)) c.push.ensures.pushed

pub returns-then-last-point : goal.returns-then-last-point
returns-then-last-point c =
    let xs : c.list.result.now ≡ list_of c.args.lists.now c.args.number = sym (list-read c.args.lists.now c.args.number c.list.result.now c.list.ensures) in
    let last = read-slice_get c.list.result.now (length c.list.result.now - 1) c.in-Some.last.now (sym c.in-Some.ensures.value) in
    let there : Contains (list_of c.args.lists.now c.args.number) c.args.point =
    subst (λ (ys : List ℕ). Contains ys c.args.point) xs (subst (λ p. Contains c.list.result.now p) c.if-last-point.true (length c.list.result.now - 1, last.0, last.1)) in
    adds_nothing c.args.lists.now c.args.number c.args.point there
