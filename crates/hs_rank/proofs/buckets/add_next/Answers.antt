use Rattle.std.proofs.Common.{◌≡◌, ◌∙◌, ap, ℕ, ◌+◌, List, [], ◌∷◌, ◌++◌, length, set, get_or, arith}
use Rattle.std.proofs.lemmas.List.{get_or_default, length-append}
use Rattle.hs_rank.specs.Buckets.{lists_in}
use Rattle.hs_rank.proofs.Chains.{lists_added}
use Rattle.hs_rank.proofs.buckets.add_next.Goals as goal

pub returns-clause-added : goal.returns-clause-added
returns-clause-added c =
    let b = c.args.buckets.now.before.items in
    let l = c.args.buckets.now.lasts.items in
    let n = c.args.number in
    let last = c.index-last.result.now in
    let last_is : last ≡ get_or l n 0 = c.index-last.ensures ∙ get_or_default l n last 0 c.requires.number in
    let items : c.push_reserved.new.self.items ≡ b ++ get_or l n 0 ∷ [] = c.push_reserved.ensures.items ∙ ap (λ (x : ℕ). b ++ x ∷ []) last_is in
    let len : c.len.result ≡ length b + 1 = omega (arith, c.len.ensures, ap (λ (xs : List ℕ). length xs) items, length-append b (get_or l n 0 ∷ [])) in
    (λ i. lists_in (items i) (set l n (len i))) ∙ lists_added b l n c.requires.number c.requires.linked
