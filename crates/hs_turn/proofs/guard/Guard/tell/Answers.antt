use Rattle.std.proofs.Common.{◌≡◌, sym, ap, subst, List, [], ◌∷◌, length, All}
use Rattle.std.proofs.lemmas.List.Elements.{All-nil, All-cons}
use Rattle.hs_turn.specs.Views.{having_told}
use Rattle.hs_turn.proofs.PrefixLemmas.{behind}
use Rattle.hs_turn.proofs.guard.Guard.tell.Goals as goal

pub count-requires-clause-many : goal.count-requires-clause-many
count-requires-clause-many g c = let grown = c.requires.grown in ap length (behind c.args.seat.now.known.seen _ (grown.0 ∷ []) grown.1)

pub count-requires-clause-bear : goal.count-requires-clause-bear
count-requires-clause-bear g c = let grown = c.requires.grown in let number = g.T.Storied.number in let n = c.args.seat.now.known.number in
    subst (All (λ e. number e ≡ n)) (sym (behind c.args.seat.now.known.seen _ (grown.0 ∷ []) grown.1)) (All-cons (λ e. number e ≡ n) grown.0 [] grown.2 (All-nil (λ e. number e ≡ n)))

pub returns-clause-seat : goal.returns-clause-seat
returns-clause-seat g c = let grown = c.requires.grown in let known = c.args.seat.now.known in
    (grown.0, grown.1, subst (λ (es : List g.row.T-Event.Denot). c.count.new.seat.known ≡ having_told known es) (behind known.seen _ (grown.0 ∷ []) grown.1) c.count.ensures.seat)
