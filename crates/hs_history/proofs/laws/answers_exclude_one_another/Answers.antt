use Rattle.hs_history.proofs.Histories.{holds_after, fits_at_rest, start_in_least}
use Rattle.hs_history.specs.Story.{Base}
use Rattle.hs_history.proofs.laws.answers_exclude_one_another.Goals as goal

pub returns : goal.returns
returns c = record {
  rest_or_past = λ p budget one other story more d legal rest legal_more is.
      let base : Base = record { problem = p; budget = budget; first = one } in
      let second : Base = record { problem = p; budget = budget; first = other } in
      fits_at_rest base story legal rest ((holds_after second more legal_more).sound.kept d is).exceeds;
  fits = fits_at_rest;
  start = start_in_least;
}
