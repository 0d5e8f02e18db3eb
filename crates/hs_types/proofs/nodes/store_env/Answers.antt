use Rattle.std.proofs.Common.{nat_eq}
use Rattle.std.proofs.lemmas.Bool.Decides.{Decides-eqb}
use Rattle.hs_types.proofs.AddLemmas.{found, stored, adds}
use Rattle.hs_types.proofs.nodes.store_env.Goals as goal

pub returns-in-Some-clause-at : goal.returns-in-Some-clause-at
returns-in-Some-clause-at c = found nat_eq Decides-eqb c.args.envs.now.keys c.args.sets.now c.in-Some.place c.in-Some.ensures.index

pub returns-clause-at : goal.returns-clause-at
returns-clause-at c =
    let h = c.in_ok-place.ensures.stored in
    stored nat_eq Decides-eqb c.insert_full.new.self.keys c.args.sets.now c.in_ok-place.place c.in_ok-to_vec.field-0 h.0 (c.in_ok-to_vec.ensures.items_if_clones_equal (λ x y e. e)) h.1 h.2

pub returns-clause-adds : goal.returns-clause-adds
returns-clause-adds c =
    adds nat_eq Decides-eqb c.args.envs.now.keys c.args.sets.now c.in_ok-to_vec.field-0 c.insert_full.new.self.keys (c.in_ok-to_vec.ensures.items_if_clones_equal (λ x y e. e)) c.in_ok-place.ensures.keys
