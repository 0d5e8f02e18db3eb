use Rattle.std.proofs.Common.{◌≡◌, refl, sym, ◌∙◌, ap, subst, ℕ, ◌<◌, List, length, map, take, arith, All}
use Rattle.std.proofs.lemmas.List.{length-map, length-take-le}
use Rattle.std.proofs.lemmas.List.Elements.{All-take}
use Rattle.hs_table.specs.Types.{arrows}
use Rattle.hs_types.specs.Interned.{type_of_id, set_of_id, env_of_id}
use Rattle.hs_types.proofs.Numbers.{env_within, env_stays}
use Rattle.hs_rules.specs.Found.{HeadData}
use Rattle.hs_rules.specs.Heads.{Just}
use Rattle.hs_rules.proofs.Lists.{push_later}
use Rattle.hs_rules.proofs.ArrowLemmas.{arrows_long}
use Rattle.hs_rules.proofs.FoundLemmas.{sets_within}
use Rattle.hs_rules.proofs.HeadLemmas.{heads_none, heads_one, parts_type}
use Rattle.hs_rules.proofs.heads.push_given.Goals as goal

pub returns-then-full-count-clause-gains : goal.returns-then-full-count-clause-gains
returns-then-full-count-clause-gains c =
    let I = c.args.replica.now.ids in
    let full = map (set_of_id I) c.args.full.now in
    heads_none I (length c.args.at.now.search.args.now) (Just c.args.by (env_of_id I c.args.own) (arrows full (type_of_id I c.args.ty))) c.args.out.now.items (λ by own ty j sets rest long is.
    let same = ap (arrows full) (sym c.requires.state.1) ∙ (sym j.2 ∙ is) in
    let few = arrows_long full sets c.requires.state.0 rest same in
    omega (arith, few, long, c.if-full-count.true, length-map c.args.full.now (set_of_id I)))

pub returns-clause-gains : goal.returns-clause-gains
returns-clause-gains c =
    let I = c.args.replica.now.ids in
    let K = c.rest_of.new.replica.ids in
    let g = c.in_ok-rest.ensures.kept.grows in
    let full = c.args.full.now in
    let own = env_of_id I c.args.own in
    let ty = arrows (map (set_of_id I) full) (type_of_id I c.args.ty) in
    let sets_are : c.in_ok-sets.sets.items ≡ take (length c.args.at.now.search.args.now) full = c.in_ok-sets.ensures.ok in
    let h : HeadData = record { by = c.args.by; own = c.args.own; sets = c.in_ok-sets.sets.items; rest = c.in_ok-rest.rest } in
    let is = ap (λ (xs : List ℕ). arrows (map (set_of_id K) xs) (type_of_id K c.in_ok-rest.rest)) sets_are ∙ parts_type I K (length c.args.at.now.search.args.now) full c.args.ty c.in_ok-rest.rest g c.requires.full c.in_ok-rest.ensures.is in
    heads_one K (length c.args.at.now.search.args.now) (Just c.args.by own ty) c.args.out.now.items c.push_reserved.new.self.items h (push_later c.args.out.now.items c.reserve.new.self.items c.push_reserved.new.self.items h c.reserve.ensures.items c.push_reserved.ensures.items)
    (record {
      own = env_within I K g c.args.own c.requires.own;
      sets = subst (λ (xs : List ℕ). All (λ s. s < length K.sets) xs) (sym sets_are) (sets_within I K (take (length c.args.at.now.search.args.now) full) g (All-take (λ s. s < length I.sets) (length c.args.at.now.search.args.now) full c.requires.full));
      rest = c.in_ok-rest.ensures.range;
      long = ap (λ (xs : List ℕ). length xs) sets_are ∙ length-take-le (length c.args.at.now.search.args.now) full (omega (arith, c.if-full-count.false));
    })
    (refl, env_stays I K g c.args.own c.requires.own, is)
    (λ by o t j. (j.0, j.2 ∙ sym is))

pub push_reserved-requires : goal.push_reserved-requires
push_reserved-requires c = (omega arith, c.in_ok-reserve.ensures.ok)

pub returns-in_err-reserve-clause-kept : goal.returns-in_err-reserve-clause-kept
returns-in_err-reserve-clause-kept c = c.rest_of.ensures.kept

pub returns-in_err-sets-clause-kept : goal.returns-in_err-sets-clause-kept
returns-in_err-sets-clause-kept c = c.rest_of.ensures.kept

pub returns-clause-kept : goal.returns-clause-kept
returns-clause-kept c = c.rest_of.ensures.kept
