use Rattle.std.proofs.Common.{◌≡◌, ◌∙◌, ap, subst, ◌+◌, ◌<◌, [], ◌∷◌, length, length-append, map, arith, Bor}
use Rattle.hs_types.specs.Interned.{RowData}
use Rattle.hs_checker.specs.Order.{IsStartOfPoint}
use Rattle.hs_checker.proofs.IndexLemmas.{get_or-map, length-map}
use Rattle.hs_flow_checker.proofs.StartLemmas.{starts_more, start_past}
use Rattle.hs_checker.proofs.index.starts_of.Goals as goal

pub loop-point-preserved : goal.loop-point-preserved
loop-point-preserved c =
    let rows = c.args.rows.now in
    let f : Bor RowData → RowData = λ r. r.now in
    let t = c.loop-point.point in
    let n = c.start_at-known.result in
    record {
      within = omega (arith, c.start_at-known.ensures.within, length-map f rows);
      before = λ k d lt. omega (arith, subst (λ (e : RowData). e.point < t) (get_or-map f rows k d) (c.start_at-known.ensures.before k d.now lt));
      long = omega (arith, c.loop-point.invariant.long, ap length c.push_reserved.ensures.items, length-append c.loop-point.starts.items (n ∷ []));
      each = starts_more (λ (e : RowData). e.point) (map f rows) c.loop-point.starts.items c.push_reserved.new.self.items t n c.push_reserved.ensures.items c.loop-point.invariant.long
          c.start_at-known.ensures c.loop-point.invariant.each;
      room = omega (arith, c.push_reserved.ensures.capacity, c.loop-point.invariant.room);
    }

pub returns : goal.returns
returns c =
    let rows = c.args.rows.now in
    let f : Bor RowData → RowData = λ r. r.now in
    let es = map f rows in
    let news = c.push_reserved-2.new.self.items in
    let e : c.loop-point.point ≡ c.args.points = omega arith in
    let long : length news ≡ c.args.points + 1 = omega (arith, e, c.loop-point.invariant.long, ap length c.push_reserved-2.ensures.items, length-append c.loop-point.starts.items (length rows ∷ [])) in
    let own = subst (λ n. IsStartOfPoint es c.args.points n) (length-map f rows) (start_past (λ (e : RowData). e.point) es c.args.points c.requires.within) in
    record {
      each = starts_more (λ (e : RowData). e.point) es c.loop-point.starts.items news c.args.points (length rows) c.push_reserved-2.ensures.items (c.loop-point.invariant.long ∙ e) own c.loop-point.invariant.each;
      within = λ x k. omega (arith, long, c.requires.within x k);
    }

pub push_reserved-requires : goal.push_reserved-requires
push_reserved-requires c = omega (arith, c.loop-point.starts.ok, c.loop-point.invariant.long, c.loop-point.invariant.room, c.loop-point-test.true)

pub push_reserved-requires-2 : goal.push_reserved-requires-2
push_reserved-requires-2 c = omega (arith, c.loop-point.starts.ok, c.loop-point.invariant.long, c.loop-point.invariant.room)
