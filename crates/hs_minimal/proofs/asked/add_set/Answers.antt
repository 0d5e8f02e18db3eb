use Rattle.std.proofs.Common.{sym, ◌∙◌, ◌<◌, length, Contains}
use Rattle.hs_scheme.proofs.Lists.{none_in}
use Rattle.hs_types.specs.Interned.{type_of_id, set_of_id}
use Rattle.hs_strength.proofs.Rows.{each_more, each_all}
use Rattle.hs_minimal.specs.Strongest.{IsNoState}
use Rattle.hs_minimal.proofs.CoverLemmas.{at_index}
use Rattle.hs_minimal.proofs.AskedLemmas.{adds_none, adds_then, sets_stay, was_seen, one_seen, members_there}
use Rattle.hs_minimal.proofs.asked.add_set.Goals as goal

pub loop-member-init : goal.loop-member-init
loop-member-init c = record { adds = adds_none c.args.types.now c.args.found.now.keys; own = λ t m. absurd (none_in t m) }

pub add_arrow-requires : goal.add_arrow-requires
add_arrow-requires c = at_index (λ t. t < length c.args.types.now.types) c.members-members.result.now c.loop-member.member-index c.member-item.result c.members-members.ensures.range c.loop-member-test.true c.member-item.is

pub loop-member-preserved : goal.loop-member-preserved
loop-member-preserved c =
    let I = c.args.types.now in
    let adds = c.in_ok-add_arrow.ensures.adds in
    record {
      adds = adds_then I c.args.found.now.keys c.loop-member.found.keys c.add_arrow.new.found.keys c.loop-member.invariant.adds adds;
      own = each_more (λ t. IsNoState (type_of_id I t) → Contains c.add_arrow.new.found.keys t) c.members-members.result.now c.loop-member.member-index c.member-item.result c.loop-member-test.true c.member-item.is
          (λ t m arrow. adds.keeps t (c.loop-member.invariant.own t m arrow)) c.in_ok-add_arrow.ensures.own;
    }

pub returns-then-contains-clause-own : goal.returns-then-contains-clause-own
returns-then-contains-clause-own c =
    was_seen c.args.types.now c.args.found.now.keys c.args.seen.now.keys c.args.set (sym c.contains.ensures ∙ c.if-contains.true) c.requires.seen

pub returns-clause-own : goal.returns-clause-own
returns-clause-own c =
    let I = c.args.types.now in
    let found = c.loop-member.found.keys in
    let members = c.members-members.result.now in
    members_there I found members (set_of_id I c.args.set) c.members-members.ensures.members
    (each_all (λ t. IsNoState (type_of_id I t) → Contains found t) members c.loop-member.member-index c.loop-member-test.false c.loop-member.invariant.own)

pub returns-clause-seen : goal.returns-clause-seen
returns-clause-seen c =
    let I = c.args.types.now in
    let found = c.loop-member.found.keys in
    let members = c.members-members.result.now in
    one_seen I found c.args.seen.now.keys c.insert.new.self.keys c.args.set c.in_ok-insert.ensures.keys
    (sets_stay I c.args.found.now.keys found c.loop-member.invariant.adds c.args.seen.now.keys c.requires.seen)
    (members_there I found members (set_of_id I c.args.set) c.members-members.ensures.members
    (each_all (λ t. IsNoState (type_of_id I t) → Contains found t) members c.loop-member.member-index c.loop-member-test.false c.loop-member.invariant.own))
