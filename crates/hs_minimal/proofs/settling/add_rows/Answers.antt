use Rattle.std.proofs.Common.{◌≡◌, refl, sym, ◌∙◌, subst}
use Rattle.hs_types.specs.Interned.{InternerData, IsRow, entry_of}
use Rattle.hs_types.proofs.Numbers.{Grows-refl}
use Rattle.hs_weak.specs.Strength.{AsStrongAs}
use Rattle.hs_weak.specs.Weak.{WeaklyFollows}
use Rattle.hs_minimal.specs.Growing.{entries, IsCoveredAt, IsGrowing, IsGrownFrom}
use Rattle.hs_minimal.proofs.SettlingLemmas.{grown_same, grown_then, grown_add, none_before, none_next, none_added, none_all, follows_now}
use Rattle.hs_minimal.proofs.settling.add_rows.Goals as goal

pub loop-row-init : goal.loop-row-init
loop-row-init c = record {
  same = refl;
  growing = c.requires.growing;
  grown = grown_same c.args.types.now c.args.types.now c.args.growing.now (Grows-refl c.args.types.now);
  none = none_before c.args.types.now c.args.growing.now c.args.growing.now c.args.rows.now;
}

pub covers-requires-clause-row : goal.covers-requires-clause-row
covers-requires-clause-row c =
    let row = c.row-item.result in
    subst (λ (J : InternerData). IsRow J row) (sym c.loop-row.invariant.same) (c.requires.rows row (c.loop-row.row-index, c.loop-row-test.true, sym c.row-item.is)).in_use

pub loop-row-preserved-then-branch : goal.loop-row-preserved-then-branch
loop-row-preserved-then-branch c =
    let I = c.args.types.now in
    let f = c.args.growing.now in
    let g = c.loop-row.growing in
    let h = c.loop-row.invariant in
    let row = c.row-item.result in
    let covered : IsCoveredAt I g (entry_of I row) = subst (λ (J : InternerData). IsCoveredAt J g (entry_of J row)) h.same (c.in_ok-covers.ensures.ok.0 c.if-branch.true) in
    record {
      same = c.covers.ensures.same ∙ h.same;
      growing = subst (λ (J : InternerData). IsGrowing J g) (sym c.covers.ensures.same) h.growing;
      grown = subst (λ (J : InternerData). IsGrownFrom I J f g) (sym c.covers.ensures.same) h.grown;
      none = none_next I f g c.args.rows.now c.loop-row.row-index row c.loop-row-test.true c.row-item.is h.grown.longer h.none covered;
    }

pub add-requires-clause-row : goal.add-requires-clause-row
add-requires-clause-row c =
    let row = c.row-item.result in
    subst (λ (J : InternerData). IsRow J row) (sym (c.covers.ensures.same ∙ c.loop-row.invariant.same)) (c.requires.rows row (c.loop-row.row-index, c.loop-row-test.true, sym c.row-item.is)).in_use

pub add-requires-clause-follows : goal.add-requires-clause-follows
add-requires-clause-follows c =
    let I = c.args.types.now in
    let f = c.args.growing.now in
    let g = c.loop-row.growing in
    let h = c.loop-row.invariant in
    let row = c.row-item.result in
    let own : IsGrownFrom I I f g = subst (λ (J : InternerData). IsGrownFrom I J f g) h.same h.grown in
    subst (λ (J : InternerData). WeaklyFollows AsStrongAs g.problem (entries J g.history) (entry_of J row)) (sym (c.covers.ensures.same ∙ h.same))
    (follows_now I f g own row (c.requires.rows row (c.loop-row.row-index, c.loop-row-test.true, sym c.row-item.is)))

pub loop-row-preserved : goal.loop-row-preserved
loop-row-preserved c =
    let I = c.args.types.now in
    let f = c.args.growing.now in
    let g = c.loop-row.growing in
    let h = c.loop-row.invariant in
    let row = c.row-item.result in
    let new = c.add.new.self in
    let same : c.add.new.types ≡ I = c.add.ensures.same ∙ (c.covers.ensures.same ∙ h.same) in
    let own : IsGrownFrom I I f g = subst (λ (J : InternerData). IsGrownFrom I J f g) h.same h.grown in
    record {
      same = same;
      growing = c.in_ok-add.ensures.growing;
      grown = subst (λ (J : InternerData). IsGrownFrom I J f new) (sym same) (grown_then I I I f g new own (grown_add I g new row c.add.ensures.problem c.add.ensures.budget c.in_ok-add.ensures.history));
      none = none_added I f g c.args.rows.now c.loop-row.row-index row c.loop-row-test.true c.row-item.is h.grown.longer h.none new c.in_ok-add.ensures.history;
    }

pub returns-clause-none : goal.returns-clause-none
returns-clause-none c = none_all c.args.types.now c.args.growing.now c.loop-row.growing c.args.rows.now c.loop-row.row-index c.loop-row-test.false c.loop-row.invariant.none
