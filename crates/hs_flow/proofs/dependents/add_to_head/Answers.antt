use Rattle.std.proofs.Common.{◌≡◌, ◌∙◌, ap, Some, slice_get, slice_index, sym, subst, ℕ, ◌<◌, ◌&&◌, ◌↔◌, nat_eq, List, length, All, Contains}
use Rattle.std.proofs.lemmas.List.Elements.{All-filter}
use Rattle.std.proofs.lemmas.Result.{on_ok_weaker}
use Rattle.hs_scheme.specs.declared.term.Head.{Head}
use Rattle.hs_scheme.specs.declared.term.Head.TheVariants.{Var, Nt}
use Rattle.hs_scheme.specs.declared.flow.FlowPair.{FlowPair}
use Rattle.std.proofs.lemmas.Option.{slice_get-get_or}
use Rattle.hs_scheme.specs.flow.Points.{NonterminalWithin}
use Rattle.hs_scheme.specs.flow.Dependents.{HeadReads}
use Rattle.hs_flow.specs.Dependents.{HasPoint}
use Rattle.hs_flow.proofs.DependentLemmas.{adds_same, flow_reads, body_reads}
use Rattle.hs_flow.proofs.dependents.add_to_head.Goals as goal

pub add_to_flow-requires : goal.add_to_flow-requires
add_to_flow-requires c =
    subst (λ n. All (λ (f : FlowPair). f.point < n) c.flow_of.result.now) (sym c.requires.lists)
    (subst (λ (fs : List FlowPair). All (λ (f : FlowPair). f.point < length c.args.points.now.points) fs) (sym c.flow_of.ensures.pairs)
    (All-filter (λ (f : FlowPair). nat_eq f.rule c.args.rule && nat_eq f.param c.in-Var.param) (λ f. f.point < length c.args.points.now.points) c.args.flow.now.pairs c.requires.flow))

pub returns-in-Var : goal.returns-in-Var
returns-in-Var c =
    let reads : (p : ℕ) → HasPoint c.flow_of.result.now p ↔ HeadReads c.args.points.now.bodies c.args.flow.now.pairs c.args.rule (Var c.in-Var.param) p =
    λ p. subst (λ (fs : List FlowPair). HasPoint fs p ↔ Contains c.args.flow.now.pairs (record { rule = c.args.rule; param = c.in-Var.param; point = p })) (sym c.flow_of.ensures.pairs)
    (flow_reads c.args.flow.now.pairs c.args.rule c.in-Var.param p) in
    on_ok_weaker c.add_to_flow.result (adds_same c.args.point (HasPoint c.flow_of.result.now) (HeadReads c.args.points.now.bodies c.args.flow.now.pairs c.args.rule c.args.head) c.args.lists.now c.add_to_flow.new.lists
    (subst (λ (k : Head). (p : ℕ) → HasPoint c.flow_of.result.now p ↔ HeadReads c.args.points.now.bodies c.args.flow.now.pairs c.args.rule k p) (sym c.in-Var.is) reads)) c.add_to_flow.ensures

body_there : (bodies : List ℕ) (head : Head) (base body : ℕ) → NonterminalWithin (length bodies) head → head ≡ Nt base → body ≡ slice_index bodies base → slice_get bodies base ≡ Some body
body_there bodies head base body within is e =
    let lt : base < length bodies = subst (NonterminalWithin (length bodies)) is within in slice_get-get_or bodies base 0 lt ∙ ap (λ n. Some n) (sym e)

pub returns-in-Nt : goal.returns-in-Nt
returns-in-Nt c =
    on_ok_weaker c.add_once.result (adds_same c.args.point (λ p. p ≡ c.body_of.result) (HeadReads c.args.points.now.bodies c.args.flow.now.pairs c.args.rule c.args.head) c.args.lists.now c.add_once.new.lists
    (subst (λ (k : Head). (p : ℕ) → (p ≡ c.body_of.result) ↔ HeadReads c.args.points.now.bodies c.args.flow.now.pairs c.args.rule k p) (sym c.in-Nt.is)
    (λ p. body_reads c.args.points.now.bodies c.in-Nt.base c.body_of.result p (body_there c.args.points.now.bodies c.args.head c.in-Nt.base c.body_of.result c.requires.head c.in-Nt.is c.body_of.ensures.body)))) c.add_once.ensures
