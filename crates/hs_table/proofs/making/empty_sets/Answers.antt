use Rattle.std.proofs.Common.{◌≡◌, ◌∙◌, ap, List, [], ◌∷◌, ◌++◌, replicate, arith}
use Rattle.std.proofs.lemmas.List.{replicate_more}
use Rattle.hs_table.specs.Types.{TypeTree}
use Rattle.hs_table.proofs.making.empty_sets.Goals as goal

pub loop-preserved : goal.loop-preserved
loop-preserved c =
    let more : (c.loop.sets.items ++ (c.new.result.items ∷ [])) ≡ (replicate {A = List TypeTree} c.loop.counter [] ++ ([] ∷ [])) = λ i. c.loop.invariant i ++ (c.new.ensures.items i ∷ []) in
    c.in_ok-push.ensures.items ∙ (more ∙ replicate_more {X = List TypeTree} c.loop.counter [])

pub returns : goal.returns
returns c =
    let all : c.loop.counter ≡ c.args.count = omega (arith, c.loop-test.false, c.loop.auto.counter-end) in
    c.loop.invariant ∙ ap (λ n. replicate {A = List TypeTree} n []) all
