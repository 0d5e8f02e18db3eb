use Rattle.std.proofs.Common.{◌≡◌, sym, ◌∙◌, ap, subst, ◌<◌, ◌≤◌, ◌⊎◌, ◌↔◌, List, length, map, arith}
use Rattle.std.proofs.lemmas.List.{length-map}
use Rattle.hs_table.specs.Types.{TypeTree}
use Rattle.hs_table.specs.Entries.{Env, set_at}
use Rattle.hs_types.specs.Interned.{InternerData, set_of_id, env_of_id}
use Rattle.hs_sites.specs.Listed.{data_of}
use Rattle.hs_sites.specs.Reaching.{IsOn}
use Rattle.hs_void.specs.Rows.{LacksOne}
use Rattle.hs_void.specs.Voids.{Remembers}
use Rattle.hs_void.proofs.Marked.{parameter_more, misses_all, set_read}
use Rattle.hs_void.proofs.missing.marks_for.Goals as goal

pub mark_set-requires-clause-memo : goal.mark_set-requires-clause-memo
mark_set-requires-clause-memo c = subst (λ (I : InternerData). Remembers I c.args.basis.now c.loop-parameter.memo) (sym c.loop-parameter.invariant.same) c.loop-parameter.invariant.memo

pub returns-in_err-mark_set-clause-memo : goal.returns-in_err-mark_set-clause-memo
returns-in_err-mark_set-clause-memo c = subst (λ (J : InternerData). Remembers J c.args.basis.now c.mark_set.new.memo) c.loop-parameter.invariant.same c.mark_set.ensures.memo

pub loop-parameter-preserved : goal.loop-parameter-preserved
loop-parameter-preserved c =
    let I = c.args.types.now in
    let b = c.args.basis.now in
    let h = c.loop-parameter.invariant in
    let n = c.loop-parameter.parameter in
    let E : Env = env_of_id I c.args.env in
    let set = c.index-sets-parameter.result in
    let known = c.interner-in-loop-parameter.ensures ∙ h.same in
    let sets_are : map (set_of_id I) c.sets.result.now ≡ E = subst (λ (K : InternerData). map (set_of_id K) c.sets.result.now ≡ env_of_id K c.args.env) known c.sets.ensures.sets in
    let counted : map (set_of_id I) c.sets-count.result.now ≡ E = subst (λ (K : InternerData). map (set_of_id K) c.sets-count.result.now ≡ env_of_id K c.args.env) c.interner.ensures c.sets-count.ensures.sets in
    let lt : n < length c.sets.result.now = omega (arith, c.loop-parameter-test.true, length-map c.sets-count.result.now (set_of_id I), length-map c.sets.result.now (set_of_id I), ap length (counted ∙ sym sets_are)) in
    let set_is : set_of_id I set ≡ set_at E n = set_read (set_of_id I) c.sets.result.now E sets_are n set lt c.index-sets-parameter.is in
    record {
      same = c.mark_set.ensures.same ∙ h.same;
      memo = subst (λ (J : InternerData). Remembers J b c.mark_set.new.memo) h.same c.mark_set.ensures.memo;
      len = c.mark_set.ensures.len ∙ h.len;
      marks = λ k x at.
          let at_types = subst (λ (J : InternerData). IsOn c.mark_set.new.marks.items k ↔ (IsOn c.loop-parameter.marks.items k ⊎ LacksOne b.problem J b.table n (set_of_id J set) (data_of x))) h.same (c.in_ok-mark_set.ensures.marks k x at) in
          let one = subst (λ (ts : List TypeTree). IsOn c.mark_set.new.marks.items k ↔ (IsOn c.loop-parameter.marks.items k ⊎ LacksOne b.problem I b.table n ts (data_of x))) set_is at_types in
          parameter_more b.problem I b.table n E (data_of x) (IsOn c.loop-parameter.marks.items k) (IsOn c.mark_set.new.marks.items k) (h.marks k x at) one;
    }

pub returns-clause-marks : goal.returns-clause-marks
returns-clause-marks c = λ k x at.
    let I = c.args.types.now in
    let b = c.args.basis.now in
    let n = c.loop-parameter.parameter in
    let E : Env = env_of_id I c.args.env in
    let counted : map (set_of_id I) c.sets-count.result.now ≡ E = subst (λ (K : InternerData). map (set_of_id K) c.sets-count.result.now ≡ env_of_id K c.args.env) c.interner.ensures c.sets-count.ensures.sets in
    let past : length E ≤ n = omega (arith, c.loop-parameter-test.false, length-map c.sets-count.result.now (set_of_id I), ap length counted) in
    let so_far = c.loop-parameter.invariant.marks k x at in
    let all = misses_all b.problem I b.table E n (data_of x) past in
    (λ on. all.0 (so_far.0 on), λ h. so_far.1 (all.1 h))
