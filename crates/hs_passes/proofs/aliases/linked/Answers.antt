use Rattle.std.proofs.Common.{◌≡◌, ◌<◌, ◌≤◌, ◌+◌, ◌-◌, sym, ◌∙◌, ap, subst, ℕ, List, length, slice_get, Some, None, vec_len, arith}
use Rattle.std.specs.Prelude.{slice_index}
use Rattle.std.proofs.lemmas.Option.{slice_get-get_or, slice_get_within}
use Rattle.hs_scheme.specs.declared.term.Rule.{Rule}
use Rattle.hs_scheme.specs.Scheme.{SchemeData, AreRules}
use Rattle.hs_passes.specs.Links.{AreLinks, Follow}
use Rattle.hs_passes.specs.Scan.{target_of, scanned}
use Rattle.hs_passes.proofs.AliasLemmas.{target_below}
use Rattle.hs_passes.proofs.Chaining.{written_back}
use Rattle.hs_passes.proofs.Linking.{scanned_next, scanned_end, own_follow, own_are_links}
use Rattle.hs_passes.proofs.aliases.linked.Goals as goal
use Rattle.hs_passes.proofs.aliases.linked.Goals.{in-Some, in_default}

pub loop-i-init : goal.loop-i-init
loop-i-init c =
    let links = c.in_ok-links.links.items in
    let long : length links ≡ length c.as_slice-rules.result.now = omega (arith, c.in_ok-links.links.ok, c.in_ok-links.ensures.each) in
    let own : (h : ℕ) → h < length links → slice_index links h ≡ h = λ h lt. c.in_ok-links.ensures.own h (omega (arith, lt, long)) in
    record {
      long = c.in_ok-links.ensures.each;
      links = own_are_links links own;
      follow = own_follow c.as_slice-rules.result.now links own;
      ahead = λ h le lt. c.in_ok-links.ensures.own h lt;
    }

pub fold_one-requires-clause-links : goal.fold_one-requires-clause-links
fold_one-requires-clause-links c = subst AreLinks (sym c.as_mut_slice.ensures.value) c.loop-i.invariant.links

pub fold_one-requires-clause-target : goal.fold_one-requires-clause-target
fold_one-requires-clause-target c =
    let rules = c.as_slice-rules.result.now in
    let are = subst (λ (rs : List Rule). AreRules rs (length c.scheme.inside.ranks.items)) (sym c.as_slice-rules.ensures.value) c.scheme.invariant in
    let r : Rule = c.index-rules-i.result in
    let at : slice_get rules c.loop-i.i ≡ Some r = slice_get-get_or rules c.loop-i.i r c.loop-i-test.true ∙ ap (λ (q : Rule). Some q) (sym c.index-rules-i.is) in
    let lt = target_below rules (length c.scheme.inside.ranks.items) are c.loop-i.i c.in-Some.target r c.loop-i.auto.i at (sym c.alias_target.ensures ∙ c.in-Some.is) in
    omega (arith, lt, c.loop-i.invariant.long, c.as_mut_slice.ensures.len)

pub fold_one-requires-clause-ahead : goal.fold_one-requires-clause-ahead
fold_one-requires-clause-ahead c =
    λ h le lt. ap (λ xs. slice_index xs h) c.as_mut_slice.ensures.value ∙ c.loop-i.invariant.ahead h le (omega (arith, lt, c.loop-i.invariant.long, c.as_mut_slice.ensures.len))

pub loop-i-preserved : goal.loop-i-preserved
loop-i-preserved c =
    let rules = c.as_slice-rules.result.now in
    let i = c.loop-i.i in
    let inv = c.loop-i.invariant in
    let r : Rule = c.index-rules-i.result in
    let at : slice_get rules i ≡ Some r = slice_get-get_or rules i r c.loop-i-test.true ∙ ap (λ (q : Rule). Some q) (sym c.index-rules-i.is) in
    elim c.match-alias_target.branch [
      | in-Some w ↦
          let target : target_of i (slice_get rules i) ≡ Some w.in-Some.target = ap (target_of i) at ∙ (sym c.alias_target.ensures ∙ w.in-Some.is) in
          let same_length : length w.fold_one.new.links ≡ length c.loop-i.links.items = w.fold_one.auto.links ∙ ap length w.as_mut_slice.ensures.value in
          let items : c.match-alias_target.links.items ≡ w.fold_one.new.links =
          ap (λ v. v.items) w.links-is ∙ written_back c.loop-i.links.len w.fold_one.new.links c.loop-i.links.items c.loop-i.links.ok.0 same_length in
          record {
            long = ap (λ v. vec_len v) w.links-is ∙ inv.long;
            links = subst AreLinks (sym items) w.fold_one.ensures.links;
            follow = subst (Follow (scanned rules (i + 1 - 1))) (sym items)
                (subst (λ (rep : ℕ → ℕ). Follow rep w.fold_one.new.links) (scanned_next rules i (Some w.in-Some.target) c.loop-i.auto.i target)
                (w.fold_one.ensures.follow (scanned rules (i - 1)) (subst (Follow (scanned rules (i - 1))) (sym w.as_mut_slice.ensures.value) inv.follow)));
            ahead = λ h le lt. ap (λ xs. slice_index xs h) items
                ∙ w.fold_one.ensures.ahead h (omega (arith, le)) (omega (arith, lt, same_length, c.loop-i.links.ok, inv.long));
          }
      | in_default w ↦
          let target : target_of i (slice_get rules i) ≡ None = ap (target_of i) at ∙ (sym c.alias_target.ensures ∙ w.in_default.is) in
          record {
            long = ap (λ v. vec_len v) w.links-is ∙ inv.long;
            links = subst AreLinks (sym (ap (λ v. v.items) w.links-is)) inv.links;
            follow = subst (Follow (scanned rules (i + 1 - 1))) (sym (ap (λ v. v.items) w.links-is))
                (subst (λ (rep : ℕ → ℕ). Follow rep c.loop-i.links.items) (scanned_next rules i None c.loop-i.auto.i target) inv.follow);
            ahead = λ h le lt. ap (λ v. slice_index v.items h) w.links-is ∙ inv.ahead h (omega (arith, le)) lt;
          }
    ]

pub returns-clause-follow : goal.returns-clause-follow
returns-clause-follow c =
    let rules = c.as_slice-rules.result.now in
    let are = subst (λ (rs : List Rule). AreRules rs (length c.scheme.inside.ranks.items)) (sym c.as_slice-rules.ensures.value) c.scheme.invariant in
    let some : 1 ≤ length rules = omega (arith, slice_get_within rules 0 are.start.0 are.start.1.0) in
    let i = c.loop-i.i in
    let last : i ≡ length rules = omega (arith, c.loop-i-test.false, c.loop-i.auto.i-end some) in
    let to : scanned rules (i - 1) ≡ scanned rules (length rules) = scanned_end rules i c.loop-i-test.false c.loop-i.auto.i ∙ ap (scanned rules) last in
    subst (λ (rs : List Rule). Follow (scanned rs (length rs)) c.loop-i.links.items) (c.as_slice-rules.ensures.value ∙ ap (λ (s : SchemeData). s.rules) c.scheme.view_is)
    (subst (λ (rep : ℕ → ℕ). Follow rep c.loop-i.links.items) to c.loop-i.invariant.follow)
