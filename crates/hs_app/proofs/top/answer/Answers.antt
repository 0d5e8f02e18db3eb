use Rattle.std.proofs.Common.{◌≡◌, refl, sym, ◌∙◌, ap, subst, List, [], ℕ, Option, Some, None}
use Rattle.std.specs.Prelude.{option_map, unwrap_or, codes}
use Rattle.std.specs.Option.{option_map_or}
use Rattle.std.specs.Borrow.{Bor}
use Rattle.hs_words.specs.Words.{OptionsData, texts, said_by, options_of}
use Rattle.hs_passes.specs.Passing.{Image}
use Rattle.hs_app.specs.Problems.{asked_of}
use Rattle.hs_app.specs.Order.{Order, FileOrigin, generate, read_file, job_of, order_of, ordered, ReadsNothing}
use Rattle.hs_front.specs.Outside.{source_run}
use Rattle.hs_app.specs.Outcome.{IsAnswerOfRun, MayExplain}
use Rattle.hs_app.proofs.OutcomeLemmas.{of_cycle}
use Rattle.hs_app.specs.Explaining.{mentions_explain}
use Rattle.hs_app.proofs.ExplainingLemmas.{may_explain, usage_explained}
use Rattle.hs_app.proofs.top.answer.Goals as goal

-- what the words that were taken order
order_is : (images : List Image) (words : List (List ℕ)) (o : OptionsData) (job : FileOrigin) → options_of words ≡ Some o → job_of o ≡ job
    → ordered images words ≡ Some (record { job = job; asked = asked_of o.settings images })
order_is images words o job e f =
    ap (λ (x : Option OptionsData). option_map (λ (y : OptionsData). order_of images y) x) e ∙ (λ i. Some (record { job = f i; asked = asked_of o.settings images }))

pub verdict_on_cycle-requires-clause-least : goal.verdict_on_cycle-requires-clause-least
verdict_on_cycle-requires-clause-least g c κs within = (c.in-Ok.ensures.within.cycle c.in-Some.k c.in-Some.is).0

pub verdict_on_cycle-requires-clause-most : goal.verdict_on_cycle-requires-clause-most
verdict_on_cycle-requires-clause-most g c κs within = (c.in-Ok.ensures.within.cycle c.in-Some.k c.in-Some.is).1

pub returns-in-Some-clause-answer : goal.returns-in-Some-clause-answer
returns-in-Some-clause-answer g c =
    let source = source_run g.S.Source.file g.S.Source.left g.S.Source.reading g.S.Source.faults c.args.source.now c.args.source.now in
    let o : OptionsData = said_by c.in-Ok.options in
    let job : job_of o ≡ generate c.in-Some.k = ap (λ (x : Option ℕ). option_map_or (λ k. generate k) x (read_file (unwrap_or o.file (codes "-")))) c.in-Some.is in
    subst (λ (x : Option Order). IsAnswerOfRun x source c.verdict_on_cycle.result)
    (sym (order_is _ (texts c.args.words.now) o (generate c.in-Some.k) c.in-Ok.ensures.ok job))
    (of_cycle c.in-Some.k _ source c.verdict_on_cycle.result (record { same_reading = refl; same_left = refl }) c.verdict_on_cycle.ensures.answer)

pub returns-in-Some-clause-explains : goal.returns-in-Some-clause-explains
returns-in-Some-clause-explains g c =
    let source = source_run g.S.Source.file g.S.Source.left g.S.Source.reading g.S.Source.faults c.args.source.now c.args.source.now in
    let o : OptionsData = said_by c.in-Ok.options in
    let job : job_of o ≡ generate c.in-Some.k = ap (λ (x : Option ℕ). option_map_or (λ k. generate k) x (read_file (unwrap_or o.file (codes "-")))) c.in-Some.is in
    subst (λ (x : Option Order). MayExplain (mentions_explain (texts c.args.words.now)) source c.verdict_on_cycle.result c.verdict_on_cycle.new.told.items x)
    (sym (order_is _ (texts c.args.words.now) o (generate c.in-Some.k) c.in-Ok.ensures.ok job))
    (may_explain (mentions_explain (texts c.args.words.now)) (record { job = generate c.in-Some.k; asked = asked_of o.settings [] }) source _ c.verdict_on_cycle.result c.verdict_on_cycle.new.told.items refl c.verdict_on_cycle.ensures.explains)

-- the name that is read where no file is given
name_is : (file : Option (Bor (List ℕ))) (default : Bor (List ℕ)) → default.now ≡ codes "-" → (unwrap_or file default).now ≡ unwrap_or (option_map (λ (f : Bor (List ℕ)). f.now) file) (codes "-")
name_is None default e = e
name_is (Some f) default e = refl

pub returns-in-None-clause-answer : goal.returns-in-None-clause-answer
returns-in-None-clause-answer g c =
    let source = source_run g.S.Source.file g.S.Source.left g.S.Source.reading g.S.Source.faults c.args.source.now c.verdict_on.new.source in
    let o : OptionsData = said_by c.in-Ok.options in
    let name : c.unwrap_or.result.now ≡ unwrap_or o.file (codes "-") = ap (λ (b : Bor (List ℕ)). b.now) c.unwrap_or.ensures ∙ name_is c.in-Ok.options.file _ refl in
    let job : job_of o ≡ read_file c.unwrap_or.result.now =
    ap (λ (x : Option ℕ). option_map_or (λ k. generate k) x (read_file (unwrap_or o.file (codes "-")))) c.in-None.is ∙ ap (λ (n : List ℕ). read_file n) (sym name) in
    subst (λ (x : Option Order). IsAnswerOfRun x source c.verdict_on.result)
    (sym (order_is _ (texts c.args.words.now) o (read_file c.unwrap_or.result.now) c.in-Ok.ensures.ok job))
    c.verdict_on.ensures.answer

pub returns-in-None-clause-explains : goal.returns-in-None-clause-explains
returns-in-None-clause-explains g c =
    let source = source_run g.S.Source.file g.S.Source.left g.S.Source.reading g.S.Source.faults c.args.source.now c.verdict_on.new.source in
    let o : OptionsData = said_by c.in-Ok.options in
    let name : c.unwrap_or.result.now ≡ unwrap_or o.file (codes "-") = ap (λ (b : Bor (List ℕ)). b.now) c.unwrap_or.ensures ∙ name_is c.in-Ok.options.file _ refl in
    let job : job_of o ≡ read_file c.unwrap_or.result.now =
    ap (λ (x : Option ℕ). option_map_or (λ k. generate k) x (read_file (unwrap_or o.file (codes "-")))) c.in-None.is ∙ ap (λ (n : List ℕ). read_file n) (sym name) in
    subst (λ (x : Option Order). MayExplain (mentions_explain (texts c.args.words.now)) source c.verdict_on.result c.verdict_on.new.told.items x)
    (sym (order_is _ (texts c.args.words.now) o (read_file c.unwrap_or.result.now) c.in-Ok.ensures.ok job))
    (may_explain (mentions_explain (texts c.args.words.now)) (record { job = read_file c.unwrap_or.result.now; asked = asked_of o.settings [] }) source _ c.verdict_on.result c.verdict_on.new.told.items refl c.verdict_on.ensures.explains)

pub returns-in-None-clause-untouched : goal.returns-in-None-clause-untouched
returns-in-None-clause-untouched g c = λ nothing.
    let o : OptionsData = said_by c.in-Ok.options in
    let name : c.unwrap_or.result.now ≡ unwrap_or o.file (codes "-") = ap (λ (b : Bor (List ℕ)). b.now) c.unwrap_or.ensures ∙ name_is c.in-Ok.options.file _ refl in
    let job : job_of o ≡ read_file c.unwrap_or.result.now =
    ap (λ (x : Option ℕ). option_map_or (λ k. generate k) x (read_file (unwrap_or o.file (codes "-")))) c.in-None.is ∙ ap (λ (n : List ℕ). read_file n) (sym name) in
    absurd (subst (λ (x : Option Order). ReadsNothing x) (order_is _ (texts c.args.words.now) o (read_file c.unwrap_or.result.now) c.in-Ok.ensures.ok job) nothing)

pub returns-in-Err-Usage-clause-explains : goal.returns-in-Err-Usage-clause-explains
returns-in-Err-Usage-clause-explains g c =
    let source = source_run g.S.Source.file g.S.Source.left g.S.Source.reading g.S.Source.faults c.args.source.now c.args.source.now in
    usage_explained _ (texts c.args.words.now) (mentions_explain (texts c.args.words.now)) source c.words_explanation.result.items (c.in-Err-Usage.ensures.usage (cc)) c.words_explanation.ensures
