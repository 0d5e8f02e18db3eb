use Rattle.std.proofs.Common.{◌≡◌, subst, arith}
use Rattle.hs_heads.specs.Sources.{GainsTypes, FromPlace, ByChild}
use Rattle.hs_heads.proofs.Gaining.{place_none, place_next}
use Rattle.hs_heads.proofs.terminals.add_children.Goals as goal

pub loop-place-init : goal.loop-place-init
loop-place-init c = record { few = omega arith; gains = place_none (ByChild c.args.q c.args.to.now) c.args.types.now c.args.found.now.keys }

pub loop-place-preserved : goal.loop-place-preserved
loop-place-preserved c = record {
  few = omega (arith, c.loop-place-test.true);
  gains = place_next (ByChild c.args.q c.args.to.now) c.args.types.now c.loop-place.types c.add_child.new.types c.loop-place.place c.args.found.now.keys c.loop-place.found.keys c.add_child.new.found.keys
      c.loop-place.invariant.gains c.in_ok-add_child.ensures;
}

pub returns : goal.returns
returns c =
    let all : c.loop-place.place ≡ c.args.rank = omega (arith, c.loop-place.invariant.few, c.loop-place-test.false) in
    subst (λ n. GainsTypes c.args.types.now c.loop-place.types c.args.found.now.keys c.loop-place.found.keys (FromPlace (ByChild c.args.q c.args.to.now) n)) all c.loop-place.invariant.gains
