use Rattle.std.proofs.Common.{◌≡◌, refl, sym, ◌∙◌, ap, subst, ◌<◌, length, true, false, Some, slice_get, List, [], slice_index, Contains, inl, inr, arith}
use Rattle.std.proofs.lemmas.List.{take_all}
use Rattle.std.proofs.lemmas.Option.{get_or_from_slice_get, slice_get-get_or}
use Rattle.hs_scheme.specs.Problem.{ProblemData}
use Rattle.hs_table.specs.Types.{state}
use Rattle.hs_table.specs.Entries.{EntryData}
use Rattle.hs_table_laws.proofs.Members.{from_map, into_map}
use Rattle.hs_table_plain.proofs.Members.{next_member}
use Rattle.hs_types.specs.Interned.{RowData, type_of_id, env_of_id, entry_of}
use Rattle.hs_checker.proofs.checking.has_start_row.Goals as goal

pub loop-row-preserved : goal.loop-row-preserved
loop-row-preserved c = λ r there is. elim ((next_member c.args.rows.now c.loop-row.row-index c.row-item.result r c.loop-row-test.true c.row-item.is).0 there) [
  | inl before ↦ c.loop-row.invariant r before is
  | inr same ↦
      let I = c.args.types.now in
      let start = subst (λ (x : RowData). (x.point ≡ c.body_of-body.result) × ((env_of_id I x.env ≡ []) × (type_of_id I x.ty ≡ state 0))) same is in
      let f : false ≡ true = sym c.if-is_start_row.false ∙ c.is_start_row.ensures.1 start in
      absurd (cc)
]

pub returns-then-is_start_row : goal.returns-then-is_start_row
returns-then-is_start_row c =
    let p = c.args.problem.now in
    let I = c.args.types.now in
    let r = c.row-item.result in
    let parts = c.is_start_row.ensures.0 c.if-is_start_row.true in
    let bodies = p.points.bodies in
    let own = c.body_of-body.ensures.body ∙ ap (λ (q : ProblemData). slice_index q.points.bodies 0) c.problem.view_is in
    let some : 0 < length bodies = omega (arith, c.if-rules-eq0.false, c.rules.ensures, c.params.ensures.rules, ap (λ (q : ProblemData). length q.points.bodies) c.problem.view_is) in
    let body : slice_get bodies 0 ≡ Some r.point = slice_get-get_or bodies 0 0 some ∙ ap (λ n. Some n) (sym own ∙ sym parts.0) in
    (λ _. (entry_of I r, (record { body = body; env = parts.1.0; initial = parts.1.1 }, into_map (entry_of I) c.args.rows.now r (c.loop-row.row-index, c.loop-row-test.true, sym c.row-item.is))), λ _. refl)

pub returns : goal.returns
returns c = (
  λ e. let f : false ≡ true = e in absurd (cc),
  λ start.
      let I = c.args.types.now in
      let e = start.0 in
      let is = start.1.0 in
      let s = from_map (entry_of I) c.args.rows.now e start.1.1 in
      let body = c.body_of-body.ensures.body ∙ ap (λ (q : ProblemData). slice_index q.points.bodies 0) c.problem.view_is in
      let point = sym (ap (λ (z : EntryData). z.point) s.is) ∙ (sym (get_or_from_slice_get c.args.problem.now.points.bodies 0 e.point 0 is.body) ∙ sym body) in
      let there = subst (λ (rs : List RowData). Contains rs s.item) (sym (take_all c.loop-row.row-index c.args.rows.now c.loop-row-test.false)) s.there in
      absurd (c.loop-row.invariant s.item there (point, (sym (ap (λ (z : EntryData). z.env) s.is) ∙ is.env, sym (ap (λ (z : EntryData). z.ty) s.is) ∙ is.initial))),
)
