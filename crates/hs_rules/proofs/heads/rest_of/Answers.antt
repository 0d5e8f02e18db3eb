use Rattle.std.proofs.Common.{◌≡◌, sym, ◌∙◌, ◌∷◌, ap, subst, ℕ, suc, ◌-◌, ◌<◌, length, map, drop, arith}
use Rattle.std.proofs.lemmas.Option.{slice_get_within, get_or_from_slice_get}
use Rattle.hs_table.specs.Types.{state, arrow, arrows}
use Rattle.hs_types.specs.Interned.{type_of_id, set_of_id}
use Rattle.hs_types.proofs.Numbers.{set_within, set_stays}
use Rattle.hs_rules.proofs.KeepLemmas.{keeps_then}
use Rattle.hs_rules.proofs.HeadLemmas.{set_before}
use Rattle.hs_rules.proofs.heads.rest_of.Goals as goal

pub arrow-requires-clause-set : goal.arrow-requires-clause-set
arrow-requires-clause-set c =
    let lt : c.loop-left.left - 1 < length c.args.full.now = omega (arith, c.loop-left-test.true, c.loop-left.invariant.most) in
    set_within c.args.replica.now.ids c.loop-left.replica.ids c.loop-left.invariant.kept.grows c.index-full-left.result
    (subst (λ (s : ℕ). s < length c.args.replica.now.ids.sets) (sym c.index-full-left.is) (c.requires.full (c.loop-left.left - 1) c.index-full-left.result lt))

pub loop-left-preserved : goal.loop-left-preserved
loop-left-preserved c =
    let I = c.args.replica.now.ids in
    let J = c.loop-left.replica.ids in
    let K = c.arrow.new.self.ids in
    let full = c.args.full.now in
    let s = c.index-full-left.result in
    let id = c.in_ok-rest.rest in
    let lt : c.loop-left.left - 1 < length full = omega (arith, c.loop-left-test.true, c.loop-left.invariant.most) in
    let known = subst (λ (n : ℕ). n < length I.sets) (sym c.index-full-left.is) (c.requires.full (c.loop-left.left - 1) s lt) in
    let z : suc (c.loop-left.left - 1) ≡ c.loop-left.left = omega (arith, c.loop-left-test.true) in
    let made = get_or_from_slice_get K.types id (arrow (set_of_id J s) (type_of_id J c.loop-left.rest)) (state 0) c.in_ok-rest.ensures.ok in
    let parts = set_before (set_of_id I) full (c.loop-left.left - 1) s lt c.index-full-left.is ∙ ap (λ n. set_of_id I s ∷ drop n (map (set_of_id I) full)) z in
    record {
      kept = keeps_then c.args.replica.now c.loop-left.replica c.arrow.new.self c.loop-left.invariant.kept c.in_ok-rest.ensures.kept;
      least = omega (arith, c.loop-left-test.true);
      most = omega (arith, c.loop-left.invariant.most);
      within = slice_get_within K.types id (arrow (set_of_id J s) (type_of_id J c.loop-left.rest)) c.in_ok-rest.ensures.ok;
      is = made ∙ ((λ i. arrow (set_stays I J c.loop-left.invariant.kept.grows s known i) (c.loop-left.invariant.is i)) ∙ ap (λ ss. arrows ss (type_of_id I c.args.ty)) (sym parts));
    }
