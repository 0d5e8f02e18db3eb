use Rattle.std.proofs.Common.{◌∙◌, sym, ◌≡◌, ap, subst, Option}
use Rattle.std.proofs.lemmas.Result.{err_from_is_err_and}
use Rattle.clap.specs.Words.{app_of, found_of, rows_of}
use Rattle.hs_words.specs.declared.fault.WordsFault.TheVariants as words
use Rattle.std.specs.Prelude.{Err, IfSome, option_map}
use Rattle.hs_words.specs.declared.options.Options.{Options}
use Rattle.hs_words.specs.Words.{AreWithin, options_of, said, said_by, texts}
use Rattle.hs_words.proofs.Taken.{refused, is_simple_and_free_app, taken}
use Rattle.hs_words.proofs.command.read_words.Goals as goal

pub returns-in-Some-clause-ok : goal.returns-in-Some-clause-ok
returns-in-Some-clause-ok c =
    let app = app_of c.in_ok-command.command in
    let whole : options_of (texts c.args.words.now) ≡ said (rows_of (found_of c.in_ok-matches.matches)) =
    taken app c.in_ok-command.ensures (texts c.args.words.now) c.in_ok-matches.matches c.in_ok-matches.ensures.matches
    (c.in_ok-matches.ensures.kinds (is_simple_and_free_app app c.in_ok-command.ensures (texts c.args.words.now))) in
    whole ∙ (sym c.options.ensures.said ∙ ap (option_map said_by) c.in-Some.is)

pub returns-in-Some-clause-within : goal.returns-in-Some-clause-within
returns-in-Some-clause-within c = subst (λ (o : Option Options). IfSome o AreWithin) c.in-Some.is c.options.ensures.within

pub returns-clause-usage : goal.returns-clause-usage
returns-clause-usage c usage =
    let app = app_of c.in_ok-command.command in
    let whole : options_of (texts c.args.words.now) ≡ said (rows_of (found_of c.in_ok-matches.matches)) =
    taken app c.in_ok-command.ensures (texts c.args.words.now) c.in_ok-matches.matches c.in_ok-matches.ensures.matches
    (c.in_ok-matches.ensures.kinds (is_simple_and_free_app app c.in_ok-command.ensures (texts c.args.words.now))) in
    whole ∙ (sym c.options.ensures.said ∙ ap (option_map said_by) c.in-None.is)

pub returns-in_err-command-clause-ok : goal.returns-in_err-command-clause-ok
returns-in_err-command-clause-ok c =
    let p = err_from_is_err_and c.from_residual.result c.from_residual.ensures.1 in rw p.1 tt

pub returns-in_err-command-clause-within : goal.returns-in_err-command-clause-within
returns-in_err-command-clause-within c =
    let p = err_from_is_err_and c.from_residual.result c.from_residual.ensures.1 in rw p.1 tt

pub returns-in_err-command-clause-usage : goal.returns-in_err-command-clause-usage
returns-in_err-command-clause-usage c =
    let p = err_from_is_err_and c.from_residual.result c.from_residual.ensures.1 in
    rw (p.1, p.2) (λ same. absurd (cc))

pub returns-in_err-matches-clause-ok : goal.returns-in_err-matches-clause-ok
returns-in_err-matches-clause-ok c =
    let p = err_from_is_err_and c.from_residual-in_err-matches.result c.from_residual-in_err-matches.ensures.1 in rw p.1 tt

pub returns-in_err-matches-clause-within : goal.returns-in_err-matches-clause-within
returns-in_err-matches-clause-within c =
    let p = err_from_is_err_and c.from_residual-in_err-matches.result c.from_residual-in_err-matches.ensures.1 in rw p.1 tt

pub returns-in_err-matches-clause-usage : goal.returns-in_err-matches-clause-usage
returns-in_err-matches-clause-usage c usage =
    let app = app_of c.in_ok-command.command in
    let p = err_from_is_err_and c.from_residual-in_err-matches.result c.from_residual-in_err-matches.ensures.1 in
    let is : p.0 ≡ words.Usage = (let both : Err p.0 ≡ Err words.Usage = sym p.1 ∙ usage in cc) in
    refused app c.in_ok-command.ensures (texts c.args.words.now) c.in_err-matches.field-0.0
    (c.in_err-matches.ensures.kinds (is_simple_and_free_app app c.in_ok-command.ensures (texts c.args.words.now)))
    (sym p.2 ∙ is)
