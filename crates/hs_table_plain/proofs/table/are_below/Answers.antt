use Rattle.std.proofs.Common.{sym, subst, refl, ℕ, ◌<◌, List, take, get_or, All}
use Rattle.std.proofs.lemmas.List.{take_all, get_or_default}
use Rattle.std.proofs.lemmas.List.Elements.{All-push}
use Rattle.hs_table_laws.proofs.Members.{taken_next}
use Rattle.hs_table_plain.proofs.table.are_below.Goals as goal

pub loop-q-preserved : goal.loop-q-preserved
loop-q-preserved c =
    let xs = c.args.states.now in
    let k = c.loop-q.q-index in
    let q = get_or xs k 0 in
    subst (λ (ys : List ℕ). All (λ q. q < c.args.number) ys) (sym (taken_next xs k q c.loop-q-test.true (get_or_default xs k 0 q c.loop-q-test.true)))
    (All-push (λ q. q < c.args.number) (take k xs) q c.loop-q.invariant c.if-q-number.false)

pub returns : goal.returns
returns c = (
  λ _. subst (λ (ys : List ℕ). All (λ q. q < c.args.number) ys) (take_all c.loop-q.q-index c.args.states.now c.loop-q-test.false) c.loop-q.invariant,
  λ _. refl,
)
