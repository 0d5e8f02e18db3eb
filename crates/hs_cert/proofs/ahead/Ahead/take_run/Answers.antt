use Rattle.std.proofs.Common.{◌≡◌, sym, ◌∙◌, ap, subst, ℕ, true, List, take, drop}
use Rattle.std.specs.List.{list_all}
use Rattle.hs_reader.specs.Tokens.{is_name_byte, EndsRun}
use Rattle.hs_reader.proofs.Runs.{run_passes, run_ends}
use Rattle.hs_cert.proofs.ahead.Ahead.take_run.Goals as goal

pub returns-clause-run : goal.returns-clause-run
returns-clause-run c =
    let bytes = c.args.self.now.bytes.now in
    subst (λ (x : List ℕ). list_all is_name_byte x ≡ true) (sym (c.split_at.ensures.front ∙ ap (λ n. take n bytes) c.run_length.ensures.run)) (run_passes is_name_byte bytes)

pub returns-clause-ends : goal.returns-clause-ends
returns-clause-ends c =
    let bytes = c.args.self.now.bytes.now in
    subst EndsRun (sym (c.split_at.ensures.back ∙ ap (λ n. drop n bytes) c.run_length.ensures.run)) (run_ends is_name_byte bytes)
