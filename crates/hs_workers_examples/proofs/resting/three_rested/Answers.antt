use Rattle.std.proofs.Common.{◌∙◌, [], ◌∷◌, List, ℕ}
use Rattle.std.proofs.lemmas.List.Elements.{All-nil, All-cons}
use Rattle.hs_workers_examples.specs.declared.recording.Event.{Event}
use Rattle.hs_workers_examples.specs.declared.recording.Problem.{Problem}
use Rattle.hs_turn.specs.Seats.{RestsIn, SeatView}
use Rattle.hs_workers_examples.proofs.resting.three_rested.Goals as goal

pub returns-clause-all : goal.returns-clause-all
returns-clause-all c = let R : Type 0 = List (SeatView (Problem × ℕ) Event) in let P : R → Type 0 = RestsIn c.args.turn.now in
    let second = c.split.ensures.turn ∙ c.requires.turn in let third = c.split-2.ensures.turn ∙ second in
    All-cons P c.into_rested-a.result (c.into_rested-b.result ∷ c.into_rested-c.result ∷ []) (c.split.result, c.into_rested-a.ensures, c.split.ensures.new_turn ∙ c.requires.turn)
    (All-cons P c.into_rested-b.result (c.into_rested-c.result ∷ []) (c.split-2.result, c.into_rested-b.ensures, c.split-2.ensures.new_turn ∙ second)
    (All-cons P c.into_rested-c.result [] (c.split-3.result, c.into_rested-c.ensures, c.split-3.ensures.new_turn ∙ third) (All-nil P)))
