use Rattle.std.proofs.Common.{◌≡◌, sym, ◌∙◌, subst, ap, List, [], ℕ, length, Some, slice_get}
use Rattle.std.proofs.lemmas.Result.{IfOk-weaker}
use Rattle.hs_scheme.specs.declared.term.Head.{Head}
use Rattle.hs_scheme.specs.declared.term.Head.TheVariants.{Tm}
use Rattle.hs_scheme.specs.flow.Points.{PointData, point_at}
use Rattle.hs_table.specs.Entries.{EntryData, params_of}
use Rattle.hs_types.proofs.Numbers.{Grows-trans}
use Rattle.hs_types.specs.Interned.{Grows}
use Rattle.hs_choices.specs.Numbered.{AreTableRows}
use Rattle.hs_heads.specs.HeadTypes.{AreHeadTypes}
use Rattle.hs_heads.specs.Sources.{GainsTypes, HeadSays}
use Rattle.hs_heads.specs.Splits.{AreSplits}
use Rattle.hs_heads.proofs.HeadLemmas.{all_known, on_ok_of, are_head_types, own_point}
use Rattle.hs_heads.proofs.heads.head_types.Goals as goal

pub split_all-requires-clause-types : goal.split_all-requires-clause-types
split_all-requires-clause-types c =
    let p = c.args.problem.now in
    let d = point_at p.points c.args.point in
    all_known c.args.types.now c.add_types.new.types c.new-found.result.keys c.add_types.new.found.keys c.as_slice.result.now (HeadSays p c.args.reads.now c.args.types.now c.args.table.now c.args.point d.rule d.head)
    c.new-found.ensures.empty c.as_slice.ensures.keys c.in_ok-add_types.ensures

pub returns-clause-found : goal.returns-clause-found
returns-clause-found c =
    let p = c.args.problem.now in
    let I = c.args.types.now in
    let J = c.add_types.new.types in
    let K = c.split_all.new.types in
    let R = c.args.reads.now in
    let table = c.args.table.now in
    let point = c.args.point in
    let d = point_at p.points point in
    let slice = c.as_slice.result.now in
    let gains : GainsTypes I J [] slice (HeadSays p R I table point d.rule d.head) =
    subst (λ (old : List ℕ). GainsTypes I J old slice (HeadSays p R I table point d.rule d.head)) c.new-found.ensures.empty
    (subst (λ (keys : List ℕ). GainsTypes I J c.new-found.result.keys keys (HeadSays p R I table point d.rule d.head)) (sym c.as_slice.ensures.keys) c.in_ok-add_types.ensures) in
    let params_is : c.parameters-params.result ≡ params_of p d.rule = c.parameters-params.ensures ∙ ap (params_of p) c.rule_at.ensures in
    IfOk-weaker c.split_all.result (λ found. AreSplits c.head_at-head.result c.parameters-params.result c.arguments_at-count.result J K slice found.items)
    (λ found. (C : List EntryData) → AreTableRows p C I table → (of : PointData) → slice_get p.points.points point ≡ Some of → AreHeadTypes p C R point of K found.items)
    (λ found splits C rows of at.
    let own : d ≡ of = own_point p.points.points point of (record { rule = 0; head = Tm 0; args = [] }) at in
    let head_is : c.head_at-head.result ≡ of.head = c.head_at-head.ensures.head ∙ ap (λ (x : PointData). x.head) own in
    let rule_is : of.rule ≡ d.rule = ap (λ (x : PointData). x.rule) (sym own) in
    let count_is : c.arguments_at-count.result ≡ length of.args = c.arguments_at-count.ensures ∙ ap (λ (x : PointData). length x.args) own in
    let of_params : c.parameters-params.result ≡ params_of p of.rule = params_is ∙ ap (params_of p) (sym rule_is) in
    are_head_types p C R I table rows point d.rule J K slice found.items of rule_is
    (subst (λ (h : Head). GainsTypes I J [] slice (HeadSays p R I table point d.rule h)) (ap (λ (x : PointData). x.head) own) gains)
    (subst (λ (h : Head). AreSplits h (params_of p of.rule) (length of.args) J K slice found.items) head_is
    (subst (λ (n : ℕ). AreSplits c.head_at-head.result n (length of.args) J K slice found.items) of_params
    (subst (λ (n : ℕ). AreSplits c.head_at-head.result c.parameters-params.result n J K slice found.items) count_is splits))))
    c.split_all.ensures

pub returns-clause-grows : goal.returns-clause-grows
returns-clause-grows c =
    let I = c.args.types.now in
    let J = c.add_types.new.types in
    let K = c.split_all.new.types in
    on_ok_of c.split_all.result (λ found. AreSplits c.head_at-head.result c.parameters-params.result c.arguments_at-count.result J K c.as_slice.result.now found.items) (Grows I K)
    (λ found splits. Grows-trans I J K c.in_ok-add_types.ensures.grows splits.grows) c.split_all.ensures
