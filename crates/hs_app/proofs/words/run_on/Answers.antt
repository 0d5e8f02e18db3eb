use Rattle.std.proofs.Common.{◌≡◌, refl, sym, ◌∙◌, ap, subst, inr, List, ℕ, Result, Ok}
use Rattle.std.specs.Prelude.{map, IsOkAnd, IfOk, string_bytes}
use Rattle.std.specs.Vec.Iter.{into_iter_items}
use Rattle.hs_words.specs.Words.{texts}
use Rattle.hs_passes.specs.Passing.{Image}
use Rattle.hs_front.specs.Outside.{SourceRun, source_run, SinkRun, sink_run}
use Rattle.hs_app.specs.Order.{ordered}
use Rattle.hs_app.specs.Explaining.{mentions_explain}
use Rattle.hs_front.specs.Files.{IsAccepted, IsRejected}
use Rattle.hs_app.specs.Headline.{OfInput, IsDecided}
use Rattle.hs_app.specs.Outcome.{Rows}
use Rattle.hs_app.specs.OneReport.{HasOneReport}
use Rattle.hs_app.proofs.HeadlineLemmas.{without_memory}
use Rattle.hs_app.proofs.OneReport.{disturbed}
use Rattle.hs_app.proofs.words.run_on.Goals as goal

of_words : (images : List Image) (one other : List (List ℕ)) (source : SourceRun) (out err : SinkRun) (status : ℕ) → one ≡ other → Rows (mentions_explain one) (ordered images one) source out err status → Rows (mentions_explain other) (ordered images other) source out err status
of_words images one other source out err status e rows = subst (λ (l : List (List ℕ)). Rows (mentions_explain l) (ordered images l) source out err status) e rows

input_of : (one other : List (List ℕ)) (source : SourceRun) (P : List ℕ → Type 0) → one ≡ other → OfInput one source P → OfInput other source P
input_of one other source P e h = subst (λ (l : List (List ℕ)). OfInput l source P) e h

decided_of : (images : List Image) (one other : List (List ℕ)) (source : SourceRun) (out : SinkRun) (status : ℕ) → one ≡ other → IsDecided images one source out status → IsDecided images other source out status
decided_of images one other source out status e h = subst (λ (l : List (List ℕ)). IsDecided images l source out status) e h

if_ok : {T E : Type 0} (P : T → Type 0) (given : Result T E) (x : T) → given ≡ Ok x → P x → IfOk given P
if_ok P given x e h = subst (λ (r : Result _ _). IfOk r P) (sym e) h

ok_and : {T E : Type 0} (P : T → Type 0) (given : Result T E) (x : T) → given ≡ Ok x → P x → IsOkAnd given P
ok_and P given x e h = subst (λ (r : Result _ _). IsOkAnd r P) (sym e) h

pub returns-in-Ok-borrowed-clause-rows : goal.returns-in-Ok-borrowed-clause-rows
returns-in-Ok-borrowed-clause-rows g c =
    let e : texts c.as_slice-in-Ok-borrowed.result.now ≡ map string_bytes (into_iter_items c.in-Ok.words) =
    ap texts c.as_slice-in-Ok-borrowed.ensures.value ∙ (c.in-Ok-borrowed.ensures ∙ ap (map string_bytes) (c.as_slice.ensures.value ∙ c.in-Ok-collected.ensures)) in
    if_ok _ _ c.in-Ok.words c.in-Ok.is (inr (of_words _ _ _ _ _ _ _ e c.run.ensures.rows))

pub returns-in-Ok-borrowed-clause-accepted : goal.returns-in-Ok-borrowed-clause-accepted
returns-in-Ok-borrowed-clause-accepted g c = λ zero.
    let e : texts c.as_slice-in-Ok-borrowed.result.now ≡ map string_bytes (into_iter_items c.in-Ok.words) =
    ap texts c.as_slice-in-Ok-borrowed.ensures.value ∙ (c.in-Ok-borrowed.ensures ∙ ap (map string_bytes) (c.as_slice.ensures.value ∙ c.in-Ok-collected.ensures)) in
    ok_and _ _ c.in-Ok.words c.in-Ok.is (input_of _ _
    (source_run g.S.Source.file g.S.Source.left g.S.Source.reading g.S.Source.faults c.args.source.now c.run.new.source) IsAccepted e
    (c.run.ensures.accepted zero))

pub returns-in-Ok-borrowed-clause-rejected : goal.returns-in-Ok-borrowed-clause-rejected
returns-in-Ok-borrowed-clause-rejected g c = λ one_or_two.
    let e : texts c.as_slice-in-Ok-borrowed.result.now ≡ map string_bytes (into_iter_items c.in-Ok.words) =
    ap texts c.as_slice-in-Ok-borrowed.ensures.value ∙ (c.in-Ok-borrowed.ensures ∙ ap (map string_bytes) (c.as_slice.ensures.value ∙ c.in-Ok-collected.ensures)) in
    ok_and _ _ c.in-Ok.words c.in-Ok.is (input_of _ _
    (source_run g.S.Source.file g.S.Source.left g.S.Source.reading g.S.Source.faults c.args.source.now c.run.new.source) IsRejected e
    (c.run.ensures.rejected one_or_two))

pub returns-in-Ok-borrowed-clause-decided : goal.returns-in-Ok-borrowed-clause-decided
returns-in-Ok-borrowed-clause-decided g c =
    let e : texts c.as_slice-in-Ok-borrowed.result.now ≡ map string_bytes (into_iter_items c.in-Ok.words) =
    ap texts c.as_slice-in-Ok-borrowed.ensures.value ∙ (c.in-Ok-borrowed.ensures ∙ ap (map string_bytes) (c.as_slice.ensures.value ∙ c.in-Ok-collected.ensures)) in
    if_ok _ _ c.in-Ok.words c.in-Ok.is (decided_of _ _ _
    (source_run g.S.Source.file g.S.Source.left g.S.Source.reading g.S.Source.faults c.args.source.now c.run.new.source)
    (sink_run g.O.Sink.writing g.O.Sink.faults c.args.out.now c.run.new.out) c.run.result e c.run.ensures.decided)

report_of : (images : List Image) (one other : List (List ℕ)) (source : SourceRun) (out err : SinkRun) (status : ℕ) → one ≡ other → HasOneReport (ordered images one) source out err status
    → HasOneReport (ordered images other) source out err status
report_of images one other source out err status e h = subst (λ (l : List (List ℕ)). HasOneReport (ordered images l) source out err status) e h

pub returns-in-Ok-borrowed-clause-one_report : goal.returns-in-Ok-borrowed-clause-one_report
returns-in-Ok-borrowed-clause-one_report g c =
    let e : texts c.as_slice-in-Ok-borrowed.result.now ≡ map string_bytes (into_iter_items c.in-Ok.words) =
    ap texts c.as_slice-in-Ok-borrowed.ensures.value ∙ (c.in-Ok-borrowed.ensures ∙ ap (map string_bytes) (c.as_slice.ensures.value ∙ c.in-Ok-collected.ensures)) in
    if_ok _ _ c.in-Ok.words c.in-Ok.is (report_of _ _ _ _ _ _ _ e c.run.ensures.one_report)

pub returns-in_default-clause-one_report : goal.returns-in_default-clause-one_report
returns-in_default-clause-one_report g c =
    if_ok _ _ c.in-Ok.words c.in-Ok.is (disturbed _
    (source_run g.S.Source.file g.S.Source.left g.S.Source.reading g.S.Source.faults c.args.source.now c.args.source.now)
    (sink_run g.O.Sink.writing g.O.Sink.faults c.args.out.now c.args.out.now) (sink_run g.E.Sink.writing g.E.Sink.faults c.args.err.now c.args.err.now))

pub returns-in-Err-borrowed-clause-one_report : goal.returns-in-Err-borrowed-clause-one_report
returns-in-Err-borrowed-clause-one_report g c =
    if_ok _ _ c.in-Ok.words c.in-Ok.is (disturbed _
    (source_run g.S.Source.file g.S.Source.left g.S.Source.reading g.S.Source.faults c.args.source.now c.args.source.now)
    (sink_run g.O.Sink.writing g.O.Sink.faults c.args.out.now c.args.out.now) (sink_run g.E.Sink.writing g.E.Sink.faults c.args.err.now c.args.err.now))

pub returns-in_default-clause-decided : goal.returns-in_default-clause-decided
returns-in_default-clause-decided g c =
    if_ok _ _ c.in-Ok.words c.in-Ok.is (without_memory _
    (source_run g.S.Source.file g.S.Source.left g.S.Source.reading g.S.Source.faults c.args.source.now c.args.source.now)
    (sink_run g.O.Sink.writing g.O.Sink.faults c.args.out.now c.args.out.now) 10 refl)

pub returns-in-Err-borrowed-clause-decided : goal.returns-in-Err-borrowed-clause-decided
returns-in-Err-borrowed-clause-decided g c =
    if_ok _ _ c.in-Ok.words c.in-Ok.is (without_memory _
    (source_run g.S.Source.file g.S.Source.left g.S.Source.reading g.S.Source.faults c.args.source.now c.args.source.now)
    (sink_run g.O.Sink.writing g.O.Sink.faults c.args.out.now c.args.out.now) 10 refl)
