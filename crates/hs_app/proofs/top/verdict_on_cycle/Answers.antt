use Rattle.std.proofs.Common.{sym, ◌∙◌, subst, inl, List, ℕ, ◌≤◌, length, arith}
use Rattle.hs_gen.specs.Cycle.{cycle_file_text}
use Rattle.hs_gen.proofs.Short.{cycle_short}
use Rattle.hs_front.specs.Files.{max_bytes}
use Rattle.hs_app.specs.Explaining.{IsExplanation}
use Rattle.hs_app.proofs.OutcomeLemmas.{has_of}
use Rattle.hs_app.proofs.top.verdict_on_cycle.Goals as goal

short : (k : ℕ) → 1 ≤ k → k ≤ 300 → length (cycle_file_text k) ≤ max_bytes
short k least most = let few : length (cycle_file_text k) ≤ 65536 = cycle_short k least most in omega (arith, few)

pub returns-in-Err-clause-answer : goal.returns-in-Err-clause-answer
returns-in-Err-clause-answer g c = (short c.args.k c.requires.least c.requires.most, tt)

pub decide-decided-requires-clause-length : goal.decide-decided-requires-clause-length
decide-decided-requires-clause-length g c κs within =
    subst (λ (bytes : List ℕ). length bytes ≤ max_bytes) (sym (c.as_slice.ensures.value ∙ c.in-Ok.ensures)) (short c.args.k c.requires.least c.requires.most)

pub returns-in-Err-clause-explains : goal.returns-in-Err-clause-explains
returns-in-Err-clause-explains g c = inl c.requires.untold

pub returns-in-Ok-clause-explains : goal.returns-in-Ok-clause-explains
returns-in-Ok-clause-explains g c =
    subst (λ (bytes : List ℕ). IsExplanation c.args.settings.explain bytes c.decide-decided.result c.explanation.result.items)
    (c.as_slice-in-Ok.ensures.value ∙ c.in-Ok.ensures) c.explanation.ensures

pub returns-in-Ok-clause-answer : goal.returns-in-Ok-clause-answer
returns-in-Ok-clause-answer g c =
    has_of _ c.decide-decided.result c.as_slice.result.now c.in-Ok.bytes.items (cycle_file_text c.args.k) c.as_slice.ensures.value c.in-Ok.ensures
    (subst (λ (bytes : List ℕ). length bytes ≤ max_bytes) (sym c.in-Ok.ensures) (short c.args.k c.requires.least c.requires.most)) c.decide-decided.ensures

pub explanation-requires : goal.explanation-requires
explanation-requires g c =
    subst (λ (bytes : List ℕ). length bytes ≤ max_bytes) (sym (c.as_slice-in-Ok.ensures.value ∙ c.in-Ok.ensures)) (short c.args.k c.requires.least c.requires.most)
