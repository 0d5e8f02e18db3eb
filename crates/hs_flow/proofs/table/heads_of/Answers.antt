use Rattle.std.proofs.Common.{◌≡◌, refl, sym, ◌∙◌, ap, List, [], ◌∷◌, ◌++◌, get_or, take, Vec}
use Rattle.std.specs.declared.alloc.Global.{Global}
use Rattle.std.proofs.lemmas.List.{take_all, append-nil}
use Rattle.hs_scheme.specs.declared.flow.HeadPair.{HeadPair}
use Rattle.hs_scheme.specs.declared.flow.Pair.{Pair}
use Rattle.hs_scheme.specs.declared.flow.Pair.TheVariants.{OfFlow, OfHead}
use Rattle.hs_flow.specs.Tables.{heads_in}
use Rattle.hs_flow.proofs.TableLemmas.{heads_more}
use Rattle.hs_flow.proofs.table.heads_of.Goals as goal
use Rattle.hs_flow.proofs.table.heads_of.Goals.{in-OfHead+in_ok-push, in_default}

no_head : (q : Pair) → ((h : HeadPair) → q ≡ OfHead h → ⊥) → [] ≡ heads_in (q ∷ [])
no_head (OfFlow f) never = refl
no_head (OfHead h) never = absurd (never h refl)

pub loop-pair-preserved : goal.loop-pair-preserved
loop-pair-preserved c =
    let ps = c.args.found.now in
    let i = c.loop-pair.pair-index in
    let none : Pair = OfFlow (record { rule = 0; param = 0; point = 0 }) in
    elim c.match-pair.branch [
      | in-OfHead+in_ok-push w ↦
          ap (λ (v : Vec HeadPair Global). v.items) w.heads-is ∙ (w.in_ok-push.ensures.items ∙ (ap (λ hs. hs ++ w.in-OfHead.head ∷ []) c.loop-pair.invariant
          ∙ (ap (λ (q : Pair). heads_in (take i ps) ++ heads_in (q ∷ [])) (sym w.in-OfHead.is) ∙ sym (heads_more ps i none c.loop-pair-test.true))))
      | in_default w ↦
          ap (λ (v : Vec HeadPair Global). v.items) w.heads-is ∙ (c.loop-pair.invariant ∙ (sym (append-nil (heads_in (take i ps)))
          ∙ (ap (λ (hs : List HeadPair). heads_in (take i ps) ++ hs) (no_head (get_or ps i none) w.in_default.not-OfHead) ∙ sym (heads_more ps i none c.loop-pair-test.true))))
    ]

pub returns : goal.returns
returns c = c.loop-pair.invariant ∙ ap heads_in (take_all c.loop-pair.pair-index c.args.found.now c.loop-pair-test.false)
