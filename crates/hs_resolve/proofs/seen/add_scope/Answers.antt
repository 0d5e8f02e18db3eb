use Rattle.std.proofs.Common.{◌∙◌, ap, List, ℕ, [], ◌∷◌, ◌++◌}
use Rattle.std.proofs.lemmas.Result.{on_ok_weaker}
use Rattle.hs_resolve.proofs.seen.add_scope.Goals as goal

pub returns-clause-names : goal.returns-clause-names
returns-clause-names c =
    on_ok_weaker c.number_params-repeated.result (λ e. c.in_ok-push.ensures.items ∙ ap (λ (names : List (List ℕ)). c.args.scopes.now.items ++ names ∷ []) e) c.number_params-repeated.ensures.names
