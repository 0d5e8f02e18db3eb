use Rattle.std.proofs.Common.{sym, ap, subst, List, length, set, vec_len, ℕ, arith}
use Rattle.hs_sorts.specs.declared.measures.Mark.{Mark}
use Rattle.hs_sorts.specs.declared.measures.Step.TheVariants.{Done, Child}
use Rattle.std.proofs.lemmas.Result.{IfOk-weaker}
use Rattle.hs_sorts.specs.Measures.{measured, IsMeasuringStep}
use Rattle.hs_sorts.specs.Search.{AdvancesSearch, IsAdvance, IsEntry}
use Rattle.hs_sorts.proofs.Searching.{last_below, child_below, popped, measured_advances, child_advances}
use Rattle.hs_sorts.proofs.search.Search.advance.Goals as goal

pub node_at-requires : goal.node_at-requires
node_at-requires c = omega (arith, last_below c.args.store.now c.args.self.now.marks.items c.args.self.now.path.items c.args.at c.requires.search c.requires.last, c.requires.search.as_long)

pub index_mut-requires : goal.index_mut-requires
index_mut-requires c = omega (arith, last_below c.args.store.now c.args.self.now.marks.items c.args.self.now.path.items c.args.at c.requires.search c.requires.last, c.args.self.now.marks.ok.0)

pub step_at-requires : goal.step_at-requires
step_at-requires c = λ d child. omega (arith, child_below c.args.store.now c.args.at c.node_at.result c.requires.store c.node_at.ensures.node d child, c.requires.search.as_long, ap length c.as_slice.ensures.value)

pub enter-requires : goal.enter-requires
enter-requires c =
    let step : IsMeasuringStep c.args.self.now.marks.items c.node_at.result (Child c.in-Child.child) =
    subst (λ (ms : List Mark). IsMeasuringStep ms c.node_at.result (Child c.in-Child.child)) c.as_slice.ensures.value (subst (IsMeasuringStep c.as_slice.result.now c.node_at.result) c.in-Child.is c.in_ok-measure.ensures) in
    omega (arith, child_below c.args.store.now c.args.at c.node_at.result c.requires.store c.node_at.ensures.node c.in-Child.child step.0, c.requires.search.as_long)

pub returns-in-Done : goal.returns-in-Done
returns-in-Done c =
    let step : IsMeasuringStep c.args.self.now.marks.items c.node_at.result (Done c.in-Done.measure) =
    subst (λ (ms : List Mark). IsMeasuringStep ms c.node_at.result (Done c.in-Done.measure)) c.as_slice.ensures.value (subst (IsMeasuringStep c.as_slice.result.now c.node_at.result) c.in-Done.is c.in_ok-measure.ensures) in
    subst (λ (m : Mark). AdvancesSearch c.args.store.now c.args.self.now.marks.items c.args.self.now.path.items (set c.args.self.now.marks.items c.args.at m) c.pop.new.self.items) (sym c.measured.ensures)
    (subst (λ (xs : List ℕ). AdvancesSearch c.args.store.now c.args.self.now.marks.items c.args.self.now.path.items (set c.args.self.now.marks.items c.args.at (measured c.in-Done.measure)) xs)
    (sym (popped c.args.self.now.path.items c.pop.new.self.items c.requires.last.0 c.args.at (vec_len c.args.self.now.path) c.requires.last.1 c.pop.ensures.rest (omega (arith, c.args.self.now.path.ok.0))))
    (measured_advances c.args.store.now c.args.self.now.marks.items c.args.self.now.path.items c.requires.last.0 c.args.at c.node_at.result c.requires.search c.requires.last.1
    c.node_at.ensures.node c.in-Done.measure step))

pub returns-in-Child : goal.returns-in-Child
returns-in-Child c =
    let step : IsMeasuringStep c.args.self.now.marks.items c.node_at.result (Child c.in-Child.child) =
    subst (λ (ms : List Mark). IsMeasuringStep ms c.node_at.result (Child c.in-Child.child)) c.as_slice.ensures.value (subst (IsMeasuringStep c.as_slice.result.now c.node_at.result) c.in-Child.is c.in_ok-measure.ensures) in
    IfOk-weaker c.enter.result (IsEntry c.args.self.now.marks.items c.args.self.now.path.items c.in-Child.child c.enter.new.self.marks.items c.enter.new.self.path.items)
    (IsAdvance c.args.store.now c.args.self.now.marks.items c.args.self.now.path.items c.enter.new.self.marks.items c.enter.new.self.path.items)
    (λ answer e. child_advances c.args.store.now c.args.self.now.marks.items c.args.self.now.path.items c.args.at c.node_at.result c.in-Child.child c.enter.new.self.marks.items c.enter.new.self.path.items answer
    c.requires.search c.requires.last c.node_at.ensures.node c.requires.store step e)
    c.enter.ensures
