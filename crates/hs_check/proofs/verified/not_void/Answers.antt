use Rattle.std.proofs.Common.{◌∙◌, ap, subst, ℕ, List, ◌++◌, codes, Option, IfNone, Bor, inr}
use Rattle.hs_cert.specs.Certificate.{IsLine, pair_text}
use Rattle.hs_cert.proofs.LineLemmas.{same_text}
use Rattle.hs_check.proofs.verified.not_void.Goals as goal

pub unreachable-requires : goal.unreachable-requires
unreachable-requires c =
    subst (λ (o : Option (Bor (List ℕ))). IfNone o ((text : List ℕ) → IsLine c.args.bytes.now c.args.number text → ⊥)) c.in-None.is c.line_at.ensures.none c.requires.0 c.requires.1

pub returns-in-Ok : goal.returns-in-Ok
returns-in-Ok c = inr (λ p v there.
    c.in-Ok.ensures ∙ ap (λ (x : List ℕ). x ++ codes "\n") (same_text c.args.bytes.now c.args.number c.in-Some.line.now (pair_text p v) c.in-Some.ensures.some there))
