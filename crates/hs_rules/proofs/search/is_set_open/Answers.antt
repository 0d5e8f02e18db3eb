use Rattle.std.proofs.Common.{subst, List, Contains}
use Rattle.hs_table.specs.Types.{TypeTree}
use Rattle.hs_types.specs.Interned.{InternerData, type_of_id, set_of_id}
use Rattle.hs_rules.proofs.FillLemmas.{type_of_place}
use Rattle.hs_rules.proofs.search.is_set_open.Goals as goal

pub returns-then-not-has_candidate : goal.returns-then-not-has_candidate
returns-then-not-has_candidate c =
    let ids = c.args.replica.now.ids in
    let I = c.interner.result.now in
    let t = c.ty-item.result in
    record {
      ty = type_of_id ids t;
      among = subst (λ (J : InternerData). Contains (set_of_id J c.args.set) (type_of_id J t)) c.interner.ensures
          (subst (λ (xs : List TypeTree). Contains xs (type_of_id I t)) c.members-ty-items.ensures.members
          (type_of_place I c.members-ty-items.result.now c.loop-ty.ty-index t c.loop-ty-test.true c.ty-item.is));
      none = c.if-not-has_candidate.ensures;
    }
