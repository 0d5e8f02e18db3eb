use Rattle.std.proofs.Common.{◌≡◌, sym, ◌∙◌, ◌∷◌, ap, suc, ◌-◌, ◌<◌, length, drop, arith}
use Rattle.std.proofs.lemmas.Option.{slice_get_within, get_or_from_slice_get}
use Rattle.hs_table.specs.Types.{state, arrow, arrows}
use Rattle.hs_table.specs.Entries.{Env, set_at}
use Rattle.hs_types.specs.Interned.{type_of_id, set_of_id, env_of_id}
use Rattle.hs_types.proofs.Numbers.{Grows-trans, env_stays}
use Rattle.hs_checker.proofs.NumberLemmas.{one_before}
use Rattle.hs_checker.proofs.arrows.arrows_over.Goals as goal

pub loop-left-preserved : goal.loop-left-preserved
loop-left-preserved c =
    let I = c.args.types.now in
    let J = c.loop-left.types in
    let K = c.arrow.new.self in
    let E = env_of_id I c.args.env in
    let n = c.loop-left.left - 1 in
    let h = c.loop-left.invariant in
    let s = c.set_of-set.result in
    let id = c.in_ok-ty.ty in
    let lt : n < length E = omega (arith, c.loop-left-test.true, h.most) in
    let z : suc n ≡ c.loop-left.left = omega (arith, c.loop-left-test.true) in
    let made = get_or_from_slice_get K.types id (arrow (set_of_id J s) (type_of_id J c.loop-left.ty)) (state 0) c.in_ok-ty.ensures.ok in
    let there : set_of_id J s ≡ set_at (env_of_id J c.args.env) n = c.set_of-set.ensures.is in
    let set_is : set_of_id J s ≡ set_at E n = there ∙ ap (λ (F : Env). set_at F n) (env_stays I J h.grows c.args.env c.requires.env) in
    let parts : drop n E ≡ set_at E n ∷ drop c.loop-left.left E = one_before E n lt ∙ ap (λ k. set_at E n ∷ drop k E) z in
    record {
      grows = Grows-trans I J K h.grows c.in_ok-ty.ensures.grows;
      most = omega (arith, h.most);
      within = slice_get_within K.types id (arrow (set_of_id J s) (type_of_id J c.loop-left.ty)) c.in_ok-ty.ensures.ok;
      is = made ∙ ((λ i. arrow (set_is i) (h.is i)) ∙ ap (λ (F : Env). arrows F (type_of_id I c.args.rest)) (sym parts));
    }
