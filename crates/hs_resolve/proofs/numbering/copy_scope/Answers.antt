use Rattle.std.proofs.Common.{◌∙◌, ap, map, List, ℕ, [], ◌∷◌, ◌++◌}
use Rattle.std.proofs.lemmas.List.{map_push}
use Rattle.std.proofs.lemmas.Result.{on_ok_weaker}
use Rattle.hs_resolve.proofs.numbering.copy_scope.Goals as goal

pub returns : goal.returns
returns c =
    on_ok_weaker c.copy-copied.result (λ e. ap (map (λ n. n.items)) c.in_ok-push.ensures.items
    ∙ (map_push (λ n. n.items) c.args.names.now.items c.copy-copied.new.names
    ∙ ap (λ (row : List (List ℕ)). map (λ n. n.items) c.args.names.now.items ++ row ∷ []) e)) c.copy-copied.ensures
