use Rattle.std.proofs.Common.{sym, subst, ◌<◌, Bool, List, length}
use Rattle.hs_scheme.specs.Problem.{ProblemData}
use Rattle.hs_types.specs.Interned.{type_of_id}
use Rattle.hs_table_laws.proofs.Places.{within_from}
use Rattle.hs_weak.specs.Sites.{SiteData}
use Rattle.hs_void.specs.declared.memo.Question.{Question}
use Rattle.hs_void.specs.Rows.{LacksAt, AreMarks}
use Rattle.hs_void.specs.Voids.{IsAnswer}
use Rattle.hs_void.proofs.Marked.{joined_by}
use Rattle.hs_void.proofs.Remembering.{remembers_more, answer_of, marks_by, on_ok}
use Rattle.hs_void.proofs.missing.mark_type.Goals as goal

pub returns-in-Some-clause-marks : goal.returns-in-Some-clause-marks
returns-in-Some-clause-marks c =
    let I = c.args.types.now in
    let b = c.args.basis.now in
    let known = c.in-Some.known.now in
    let answer = subst (λ (q : Question). IsAnswer I b q known) c.question_of.ensures (c.requires.memo c.question_of.result known c.in-Some.ensures) in
    joined_by (λ (s : SiteData). LacksAt b.problem I b.table c.args.parameter (type_of_id I c.args.ty) s) c.args.sites.now c.args.marks.now.items known c.add_marks.new.marks.items c.requires.len c.add_marks.ensures.marks (answer.marks c.args.sites.now c.requires.sites)

pub marks_of-requires-clause-sites : goal.marks_of-requires-clause-sites
marks_of-requires-clause-sites c = λ s m.
    let own = ((c.requires.of.exact s).0 m).1 in
    subst (λ (p : ProblemData). s.point < length p.points.points) (sym c.problem-problem.ensures) (within_from c.args.basis.now.problem.points.points s.point own.0 own.1.at)

pub returns-clause-marks : goal.returns-clause-marks
returns-clause-marks c =
    let I = c.args.types.now in
    let b = c.args.basis.now in
    let sites = c.args.sites.now in
    let t = type_of_id I c.args.ty in
    let P = λ (s : SiteData). LacksAt b.problem I b.table c.args.parameter t s in
    let told = marks_by I b c.problem-problem.result.now c.table-table.result.now c.problem-problem.ensures c.table-table.ensures c.args.parameter t sites c.in_ok-own.own.items c.in_ok-own.ensures.marks in
    on_ok c.keep.result _ (joined_by P sites c.args.marks.now.items c.as_slice.result.now c.add_marks-2.new.marks.items c.requires.len c.add_marks-2.ensures.marks
    (subst (λ (ms : List Bool). AreMarks P sites ms) (sym c.as_slice.ensures.value) told))

pub returns-clause-memo : goal.returns-clause-memo
returns-clause-memo c =
    let I = c.args.types.now in
    let b = c.args.basis.now in
    let sites = c.args.sites.now in
    let t = type_of_id I c.args.ty in
    let own = c.in_ok-own.own.items in
    let told = marks_by I b c.problem-problem.result.now c.table-table.result.now c.problem-problem.ensures c.table-table.ensures c.args.parameter t sites own c.in_ok-own.ensures.marks in
    let q : Question = record { rule = c.args.rule; parameter = c.args.parameter; ty = c.args.ty } in
    let answer : IsAnswer I b q own = answer_of I b q sites c.requires.sites c.requires.ty own told in
    remembers_more I b c.args.memo.now c.keep.new.self c.question_of-2.result own c.requires.memo (subst (λ (p : Question). IsAnswer I b p own) (sym c.question_of-2.ensures) answer) c.keep.ensures
