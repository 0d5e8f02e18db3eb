use Rattle.std.proofs.Common.{◌≡◌, sym, ◌∙◌, ap, subst, true, false, List, [], slice_index, Contains, inl, inr}
use Rattle.std.proofs.lemmas.List.{take_all}
use Rattle.std.proofs.lemmas.Option.{get_or_from_slice_get}
use Rattle.hs_scheme.specs.Problem.{ProblemData}
use Rattle.hs_table.specs.Types.{state}
use Rattle.hs_table.specs.Entries.{EntryData}
use Rattle.hs_table_plain.proofs.Members.{next_member}
use Rattle.hs_checker.proofs.checking.has_start.Goals as goal

pub loop-entry-preserved : goal.loop-entry-preserved
loop-entry-preserved c = λ e there is. elim ((next_member c.args.table.now c.loop-entry.entry-index c.entry-item.result e c.loop-entry-test.true c.entry-item.is).0 there) [
  | inl before ↦ c.loop-entry.invariant e before is
  | inr same ↦
      let start = subst (λ (x : EntryData). (x.point ≡ c.body_of-body.result) × ((x.env ≡ []) × (x.ty ≡ state 0))) same is in
      let f : false ≡ true = sym c.if-is_start.false ∙ c.is_start.ensures.1 start in
      absurd (cc)
]

pub returns : goal.returns
returns c = (
  λ e. let f : false ≡ true = e in absurd (cc),
  λ start.
      let e = start.0 in
      let is = start.1.0 in
      let body = c.body_of-body.ensures.body ∙ ap (λ (q : ProblemData). slice_index q.points.bodies 0) c.problem.view_is in
      let point = sym (get_or_from_slice_get c.args.problem.now.points.bodies 0 e.point 0 is.body) ∙ sym body in
      let there = subst (λ (es : List EntryData). Contains es e) (sym (take_all c.loop-entry.entry-index c.args.table.now c.loop-entry-test.false)) start.1.1 in
      absurd (c.loop-entry.invariant e there (point, (is.env, is.initial))),
)
