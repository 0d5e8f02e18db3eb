use Rattle.std.proofs.Common.{sym, subst, ap, ◌∙◌, map, ℕ, ◌<◌, List, All, length}
use Rattle.hs_types.specs.Interned.{type_of_id}
use Rattle.hs_types.specs.Nodes.{lists_of}
use Rattle.hs_types.proofs.AddLemmas.{items_read}
use Rattle.hs_types.proofs.NodeLemmas.{set_stored, set_members, members_range}
use Rattle.hs_types.proofs.nodes.Nodes.members.Goals as goal

pub returns-clause-members : goal.returns-clause-members
returns-clause-members c =
    ap (λ (ids : List ℕ). map (type_of_id c.args.self.now) ids) (items_read c.self.inside.sets.keys c.as_slice.result.now c.args.id c.number.result c.index-as_slice-number.result c.as_slice-2.result.now
    (set_stored c.self.inside.types.keys (lists_of c.self.inside.sets.keys) (lists_of c.self.inside.envs.keys) c.self.invariant c.args.self.now c.self.view_is c.args.id c.requires) c.as_slice.ensures.keys c.number.ensures c.index-as_slice-number.is c.as_slice-2.ensures.value)
    ∙ set_members c.self.inside.types.keys (lists_of c.self.inside.sets.keys) (lists_of c.self.inside.envs.keys) c.self.invariant c.args.self.now c.self.view_is c.args.id c.requires

pub returns-clause-range : goal.returns-clause-range
returns-clause-range c =
    subst (λ (ids : List ℕ). All (λ i. i < length c.args.self.now.types) ids) (sym (items_read c.self.inside.sets.keys c.as_slice.result.now c.args.id c.number.result c.index-as_slice-number.result c.as_slice-2.result.now
    (set_stored c.self.inside.types.keys (lists_of c.self.inside.sets.keys) (lists_of c.self.inside.envs.keys) c.self.invariant c.args.self.now c.self.view_is c.args.id c.requires) c.as_slice.ensures.keys c.number.ensures c.index-as_slice-number.is c.as_slice-2.ensures.value))
    (members_range c.self.inside.types.keys (lists_of c.self.inside.sets.keys) (lists_of c.self.inside.envs.keys) c.self.invariant c.args.self.now c.self.view_is c.args.id c.requires)
