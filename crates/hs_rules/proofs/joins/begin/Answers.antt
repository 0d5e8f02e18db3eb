use Rattle.std.proofs.Common.{refl, ◌∙◌, ap, List, ◌∷◌, [], ◌++◌, length}
use Rattle.hs_types.specs.Interned.{env_of_id}
use Rattle.hs_rules.specs.Joins.{PartialData}
use Rattle.hs_rules.proofs.JoinLemmas.{joined_none}
use Rattle.hs_rules.proofs.joins.begin.Goals as goal

pub returns-clause-lead : goal.returns-clause-lead
returns-clause-lead c =
    let J = c.own_with_sole.new.replica.ids in
    let n = length (env_of_id c.args.replica.now.ids c.args.own) in
    let env = c.in_ok-env.env in
    let x : PartialData = record { env = env; args = c.new.result.items } in
    record {
      base = env_of_id J env;
      asks = c.in_ok-env.ensures.asks;
      joined = joined_none J c.args.replica.now.log n env c.push_reserved.new.self.items x c.in_ok-env.ensures.known c.in_ok-env.ensures.asks.is_env
          (c.push_reserved.ensures.items ∙ ap (λ (xs : List PartialData). xs ++ x ∷ []) (c.reserve.ensures.items ∙ c.requires.none)) refl c.new.ensures.items;
    }
