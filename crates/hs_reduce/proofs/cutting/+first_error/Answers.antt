use Rattle.std.proofs.Common.{◌≡◌, ◌∙◌, ◌-◌, ◌<◌, ◌≤◌, ap, sym, subst, ℕ, List, arith, rules, get_or, refl, Option}
use Rattle.std.specs.Prelude.{slice_index}
use Rattle.hs_scheme.specs.declared.term.Head.{Head}
use Rattle.hs_scheme.specs.Tree.{Tree}
use Rattle.hs_scheme.specs.acceptance.Automaton.{next}
use Rattle.hs_scheme.specs.acceptance.Cut.{unfolded}
use Rattle.hs_scheme.specs.sorting.Sorted.{SortedData, sorts_of}
use Rattle.hs_scheme.specs.TreeTerms.{IsTreeTerm}
use Rattle.hs_scheme.specs.acceptance.FailingPath.{FailingPathData}
use Rattle.hs_reduce.specs.Path.{IsErrorFrom}
use Rattle.hs_reduce.specs.Graph.{term_at, arguments_of, NamesTerms, Unfolds}
use Rattle.hs_reduce.specs.Bounds.{ReadsCut, IsErrorWithin, IsFoundWithin}
use Rattle.hs_reduce.proofs.ReplacementLemmas.{Grows-refl, Grows-then, unfolds_nothing}
use Rattle.hs_reduce.proofs.CutLemmas.{read_cut_off, read_parameter, read_stays, error_here, read_replaced, error_replaced, replaced_sorted, as_many_states, as_many_places, child_there, child_sorted, error_below, one_more_read, all_read}
use Rattle.hs_reduce.proofs.cutting.+first_error.Goals as goal

positive : (n : ℕ) → (n ≡ 0 → ⊥) → 0 < n
positive n h = omega arith

pub first_error-requires : goal.first_error-requires
first_error-requires t c =
    let s = c.args.sorted.now in let old = c.args.graph.now in let term = term_at old c.args.place in let new = c.replace.new.graph in
    let found = subst (λ (o : Option ℕ). Unfolds old new o (unfolded s.scheme.rules c.in-Nt.number (arguments_of term))) c.in-Some.is c.in_ok-body-in-Nt.ensures in
    let typed = replaced_sorted s c.requires.sorted c.args.state c.in-Nt.number term found.0 c.requires.tree (sym c.in-Nt.ensures) found.1 in
    (omega arith, (c.requires.sorted, (omega arith, (found.2.within, subst (λ (u : Tree Head). IsTreeTerm (sorts_of s.sorts s.scheme.ranks) u) (sym found.2.term) typed))))

pub returns-in-None-clause-found : goal.returns-in-None-clause-found
returns-in-None-clause-found t c =
    let s = c.args.sorted.now in let old = c.args.graph.now in let term = term_at old c.args.place in let new = c.replace.new.graph in
    let a = c.if-n-eq0.false in
    let found = subst (λ (o : Option ℕ). Unfolds old new o (unfolded s.scheme.rules c.in-Nt.number (arguments_of term))) c.in-Some.is c.in_ok-body-in-Nt.ensures in
    let read : ReadsCut s (c.args.n - 1) c.args.state (term_at new c.in-Some.body) =
    subst (λ (o : Option FailingPathData). IsFoundWithin s (c.args.n - 1) c.args.state (term_at new c.in-Some.body) o) c.in-None.is c.in_ok-first_error-in-Nt.ensures.found in
    read_replaced s c.args.n c.args.state c.in-Nt.number term found.0 (omega arith) (sym c.in-Nt.ensures) found.1
    (subst (λ (u : Tree Head). ReadsCut s (c.args.n - 1) c.args.state u) found.2.term read)

pub returns-in-Some-2-clause-found : goal.returns-in-Some-2-clause-found
returns-in-Some-2-clause-found t c =
    let s = c.args.sorted.now in let old = c.args.graph.now in let term = term_at old c.args.place in let new = c.replace.new.graph in
    let path = c.in-Some-2.path in
    let found = subst (λ (o : Option ℕ). Unfolds old new o (unfolded s.scheme.rules c.in-Nt.number (arguments_of term))) c.in-Some.is c.in_ok-body-in-Nt.ensures in
    let error : IsErrorWithin s (c.args.n - 1) c.args.state (term_at new c.in-Some.body) path =
    subst (λ (o : Option FailingPathData). IsFoundWithin s (c.args.n - 1) c.args.state (term_at new c.in-Some.body) o) c.in-Some-2.is c.in_ok-first_error-in-Nt.ensures.found in
    let below = subst (λ (u : Tree Head). IsErrorFrom s.scheme.rules s.automaton.transitions c.args.state u path) found.2.term error.error in
    subst (λ (p : FailingPathData). IsErrorWithin s c.args.n c.args.state term p) (sym c.after_replacement.ensures)
    (record { within = omega (arith, error.within); error = error_replaced s c.args.state c.in-Nt.number term found.0 path (sym c.in-Nt.ensures) found.1 below })

pub index-child-requires : goal.index-child-requires
index-child-requires t c =
    let s = c.args.sorted.now in let old = c.args.graph.now in let term = term_at old c.args.place in
    let places = c.in_ok-args-in-Tm.args.items in let to = c.in-Some-next.to.now in
    let copied : places ≡ c.arguments.result.now = search rules in
    let named : NamesTerms old places (arguments_of term) = subst (λ (ps : List ℕ). NamesTerms old ps (arguments_of term)) (sym copied) c.arguments.ensures in
    let e = sym (c.in-Some-next.ensures ∙ ap (λ (x : SortedData). next x.automaton.transitions c.args.state c.in-Tm.terminal) c.sorted.view_is) in
    let front = sym c.in-Tm.ensures in
    let lt : c.loop-index.index < slice_index s.scheme.ranks c.in-Tm.terminal = subst (λ n. c.loop-index.index < n) c.rank_of-index-end.ensures c.loop-index-test.true in
    omega (arith, lt, as_many_places s c.requires.sorted c.args.n c.args.state c.in-Tm.terminal term c.requires.tree front to e old places named, c.in_ok-args-in-Tm.args.ok.0)

pub bounds-to-index : goal.bounds-to-index
bounds-to-index t c =
    let s = c.args.sorted.now in let old = c.args.graph.now in let term = term_at old c.args.place in
    let places = c.in_ok-args-in-Tm.args.items in let to = c.in-Some-next.to.now in
    let copied : places ≡ c.arguments.result.now = search rules in
    let named : NamesTerms old places (arguments_of term) = subst (λ (ps : List ℕ). NamesTerms old ps (arguments_of term)) (sym copied) c.arguments.ensures in
    let e = sym (c.in-Some-next.ensures ∙ ap (λ (x : SortedData). next x.automaton.transitions c.args.state c.in-Tm.terminal) c.sorted.view_is) in
    let front = sym c.in-Tm.ensures in
    let lt : c.loop-index.index < slice_index s.scheme.ranks c.in-Tm.terminal = subst (λ n. c.loop-index.index < n) c.rank_of-index-end.ensures c.loop-index-test.true in
    omega (arith, lt, as_many_states s c.requires.sorted c.args.n c.args.state c.in-Tm.terminal term c.requires.tree front to e old places named)

pub first_error-requires-in-loop-index : goal.first_error-requires-in-loop-index
first_error-requires-in-loop-index t c =
    let s = c.args.sorted.now in let old = c.args.graph.now in let term = term_at old c.args.place in
    let places = c.in_ok-args-in-Tm.args.items in let to = c.in-Some-next.to.now in
    let copied : places ≡ c.arguments.result.now = search rules in
    let named : NamesTerms old places (arguments_of term) = subst (λ (ps : List ℕ). NamesTerms old ps (arguments_of term)) (sym copied) c.arguments.ensures in
    let e = sym (c.in-Some-next.ensures ∙ ap (λ (x : SortedData). next x.automaton.transitions c.args.state c.in-Tm.terminal) c.sorted.view_is) in
    let front = sym c.in-Tm.ensures in
    let lt : c.loop-index.index < slice_index s.scheme.ranks c.in-Tm.terminal = subst (λ n. c.loop-index.index < n) c.rank_of-index-end.ensures c.loop-index-test.true in
    let child = c.index-child.result.now in
    let there = child_there s c.requires.sorted c.args.n c.args.state c.in-Tm.terminal term c.requires.tree front to e old places named c.loop-index.index child lt c.index-child.ensures in
    let typed = child_sorted s c.requires.sorted c.args.n c.args.state c.in-Tm.terminal term c.requires.tree front to e old places named c.loop-index.index child lt c.index-child.ensures in
    let same = c.loop-index.invariant.grows.same child there in
    (omega arith, (c.requires.sorted, (omega arith, (omega (arith, there, c.loop-index.invariant.grows.longer), subst (λ (u : Tree Head). IsTreeTerm (sorts_of s.sorts s.scheme.ranks) u) (sym same) typed))))

pub returns-in-Some-3-clause-found : goal.returns-in-Some-3-clause-found
returns-in-Some-3-clause-found t c =
    let s = c.args.sorted.now in let old = c.args.graph.now in let term = term_at old c.args.place in
    let places = c.in_ok-args-in-Tm.args.items in let to = c.in-Some-next.to.now in
    let copied : places ≡ c.arguments.result.now = search rules in
    let named : NamesTerms old places (arguments_of term) = subst (λ (ps : List ℕ). NamesTerms old ps (arguments_of term)) (sym copied) c.arguments.ensures in
    let e = sym (c.in-Some-next.ensures ∙ ap (λ (x : SortedData). next x.automaton.transitions c.args.state c.in-Tm.terminal) c.sorted.view_is) in
    let front = sym c.in-Tm.ensures in
    let lt : c.loop-index.index < slice_index s.scheme.ranks c.in-Tm.terminal = subst (λ n. c.loop-index.index < n) c.rank_of-index-end.ensures c.loop-index-test.true in
    let child = c.index-child.result.now in let i = c.loop-index.index in let mid = c.loop-index.graph in
    let path = c.in-Some-3.path in
    let there = child_there s c.requires.sorted c.args.n c.args.state c.in-Tm.terminal term c.requires.tree front to e old places named i child lt c.index-child.ensures in
    let same = c.loop-index.invariant.grows.same child there in
    let error : IsErrorWithin s (c.args.n - 1) (get_or to i 0) (term_at mid child) path =
    subst (λ (o : Option FailingPathData). IsFoundWithin s (c.args.n - 1) (get_or to i 0) (term_at mid child) o) c.in-Some-3.is c.in_ok-path-in-Tm.ensures.found in
    let below = subst (λ (u : Tree Head). IsErrorFrom s.scheme.rules s.automaton.transitions (get_or to i 0) u path) same error.error in
    subst (λ (p : FailingPathData). IsErrorWithin s c.args.n c.args.state term p) (sym c.in_ok-after_descent-in-Tm.ensures)
    (record { within = omega (arith, error.within); error = error_below s c.requires.sorted c.args.n c.args.state c.in-Tm.terminal term c.requires.tree front to e old places named i child lt c.index-child.ensures path below })

pub loop-index-preserved : goal.loop-index-preserved
loop-index-preserved t c =
    let s = c.args.sorted.now in let old = c.args.graph.now in let term = term_at old c.args.place in
    let places = c.in_ok-args-in-Tm.args.items in let to = c.in-Some-next.to.now in
    let copied : places ≡ c.arguments.result.now = search rules in
    let named : NamesTerms old places (arguments_of term) = subst (λ (ps : List ℕ). NamesTerms old ps (arguments_of term)) (sym copied) c.arguments.ensures in
    let e = sym (c.in-Some-next.ensures ∙ ap (λ (x : SortedData). next x.automaton.transitions c.args.state c.in-Tm.terminal) c.sorted.view_is) in
    let front = sym c.in-Tm.ensures in
    let lt : c.loop-index.index < slice_index s.scheme.ranks c.in-Tm.terminal = subst (λ n. c.loop-index.index < n) c.rank_of-index-end.ensures c.loop-index-test.true in
    let child = c.index-child.result.now in let i = c.loop-index.index in let mid = c.loop-index.graph in
    let there = child_there s c.requires.sorted c.args.n c.args.state c.in-Tm.terminal term c.requires.tree front to e old places named i child lt c.index-child.ensures in
    let same = c.loop-index.invariant.grows.same child there in
    let read : ReadsCut s (c.args.n - 1) (get_or to i 0) (term_at mid child) =
    subst (λ (o : Option FailingPathData). IsFoundWithin s (c.args.n - 1) (get_or to i 0) (term_at mid child) o) c.in_default-2.is c.in_ok-path-in-Tm.ensures.found in
    record {
      grows = Grows-then old mid c.first_error-in-loop-index.new.graph c.loop-index.invariant.grows c.in_ok-path-in-Tm.ensures.grows;
      rest = one_more_read s c.requires.sorted c.args.n c.args.state c.in-Tm.terminal term c.requires.tree front to e old places named i child lt c.index-child.ensures
          (subst (λ (u : Tree Head). ReadsCut s (c.args.n - 1) (get_or to i 0) u) same read) c.loop-index.invariant.rest;
    }

pub returns-after-loop-index-clause-found : goal.returns-after-loop-index-clause-found
returns-after-loop-index-clause-found t c =
    let s = c.args.sorted.now in let old = c.args.graph.now in let term = term_at old c.args.place in
    let places = c.in_ok-args-in-Tm.args.items in let to = c.in-Some-next.to.now in
    let copied : places ≡ c.arguments.result.now = search rules in
    let named : NamesTerms old places (arguments_of term) = subst (λ (ps : List ℕ). NamesTerms old ps (arguments_of term)) (sym copied) c.arguments.ensures in
    let e = sym (c.in-Some-next.ensures ∙ ap (λ (x : SortedData). next x.automaton.transitions c.args.state c.in-Tm.terminal) c.sorted.view_is) in
    let front = sym c.in-Tm.ensures in
    let end : slice_index s.scheme.ranks c.in-Tm.terminal ≤ c.loop-index.index = subst (λ n. n ≤ c.loop-index.index) c.rank_of-index-end.ensures c.loop-index-test.false in
    all_read s c.requires.sorted c.args.n c.args.state c.in-Tm.terminal term c.requires.tree front to e old places named c.loop-index.index (positive c.args.n c.if-n-eq0.false) end c.loop-index.invariant.rest

pub returns-then-n-eq0-clause-grows : goal.returns-then-n-eq0-clause-grows
returns-then-n-eq0-clause-grows t c = Grows-refl c.args.graph.now

pub returns-then-n-eq0-clause-found : goal.returns-then-n-eq0-clause-found
returns-then-n-eq0-clause-found t c = read_cut_off c.args.sorted.now c.args.n c.args.state (term_at c.args.graph.now c.args.place) c.if-n-eq0.true

pub returns-in-Var-clause-grows : goal.returns-in-Var-clause-grows
returns-in-Var-clause-grows t c = Grows-refl c.args.graph.now

pub returns-in-Var-clause-found : goal.returns-in-Var-clause-found
returns-in-Var-clause-found t c = read_parameter c.args.sorted.now c.args.n c.args.state c.in-Var.field-0 (term_at c.args.graph.now c.args.place) (sym c.in-Var.ensures)

pub returns-in_default-clause-grows : goal.returns-in_default-clause-grows
returns-in_default-clause-grows t c =
    (unfolds_nothing c.args.graph.now c.replace.new.graph c.in_ok-body-in-Nt.field-0 (unfolded c.args.sorted.now.scheme.rules c.in-Nt.number (arguments_of (term_at c.args.graph.now c.args.place)))
    c.in_default.not-Some c.in_ok-body-in-Nt.ensures).1

pub returns-in_default-clause-found : goal.returns-in_default-clause-found
returns-in_default-clause-found t c =
    read_stays c.args.sorted.now c.args.n c.args.state c.in-Nt.number (term_at c.args.graph.now c.args.place) (sym c.in-Nt.ensures)
    (unfolds_nothing c.args.graph.now c.replace.new.graph c.in_ok-body-in-Nt.field-0 (unfolded c.args.sorted.now.scheme.rules c.in-Nt.number (arguments_of (term_at c.args.graph.now c.args.place)))
    c.in_default.not-Some c.in_ok-body-in-Nt.ensures).0

pub overflow_sub-n : goal.overflow_sub-n
overflow_sub-n t c = omega (arith, c.if-n-eq0.false)

pub overflow_sub-n-in-loop-index : goal.overflow_sub-n-in-loop-index
overflow_sub-n-in-loop-index t c = omega (arith, c.if-n-eq0.false)

pub after_replacement-requires : goal.after_replacement-requires
after_replacement-requires t c =
    let error : IsErrorWithin c.args.sorted.now (c.args.n - 1) c.args.state (term_at c.replace.new.graph c.in-Some.body) c.in-Some-2.path =
    subst (λ (o : Option FailingPathData). IsFoundWithin c.args.sorted.now (c.args.n - 1) c.args.state (term_at c.replace.new.graph c.in-Some.body) o) c.in-Some-2.is c.in_ok-first_error-in-Nt.ensures.found in
    omega (arith, error.within, c.requires.few)

pub returns-in-None-clause-grows : goal.returns-in-None-clause-grows
returns-in-None-clause-grows t c =
    let s = c.args.sorted.now in let old = c.args.graph.now in let term = term_at old c.args.place in let new = c.replace.new.graph in
    let found = subst (λ (o : Option ℕ). Unfolds old new o (unfolded s.scheme.rules c.in-Nt.number (arguments_of term))) c.in-Some.is c.in_ok-body-in-Nt.ensures in
    Grows-then old new c.first_error.new.graph found.2.grows c.in_ok-first_error-in-Nt.ensures.grows

pub returns-in-Some-2-clause-grows : goal.returns-in-Some-2-clause-grows
returns-in-Some-2-clause-grows t c =
    let s = c.args.sorted.now in let old = c.args.graph.now in let term = term_at old c.args.place in let new = c.replace.new.graph in
    let found = subst (λ (o : Option ℕ). Unfolds old new o (unfolded s.scheme.rules c.in-Nt.number (arguments_of term))) c.in-Some.is c.in_ok-body-in-Nt.ensures in
    Grows-then old new c.first_error.new.graph found.2.grows c.in_ok-first_error-in-Nt.ensures.grows

pub returns-in_default-next-clause-grows : goal.returns-in_default-next-clause-grows
returns-in_default-next-clause-grows t c = Grows-refl c.args.graph.now

pub loop-index-init : goal.loop-index-init
loop-index-init t c = record { grows = Grows-refl c.args.graph.now; rest = refl }

pub after_descent-requires : goal.after_descent-requires
after_descent-requires t c =
    let s = c.args.sorted.now in let to = c.in-Some-next.to.now in let i = c.loop-index.index in let u = term_at c.loop-index.graph c.index-child.result.now in
    let error : IsErrorWithin s (c.args.n - 1) (get_or to i 0) u c.in-Some-3.path =
    subst (λ (o : Option FailingPathData). IsFoundWithin s (c.args.n - 1) (get_or to i 0) u o) c.in-Some-3.is c.in_ok-path-in-Tm.ensures.found in
    omega (arith, error.within, c.requires.few)

pub returns-in-Some-3-clause-grows : goal.returns-in-Some-3-clause-grows
returns-in-Some-3-clause-grows t c =
    Grows-then c.args.graph.now c.loop-index.graph c.first_error-in-loop-index.new.graph c.loop-index.invariant.grows c.in_ok-path-in-Tm.ensures.grows

pub returns-in_default-next-clause-found : goal.returns-in_default-next-clause-found
returns-in_default-next-clause-found t c =
    let s = c.args.sorted.now in let term = term_at c.args.graph.now c.args.place in
    let none = sym (c.in_default-next.ensures ∙ ap (λ (x : SortedData). next x.automaton.transitions c.args.state c.in-Tm.terminal) c.sorted.view_is) in
    record { within = omega (arith, c.if-n-eq0.false); error = error_here s c.args.state c.in-Tm.terminal term c.new.result.items c.new.ensures.items (sym c.in-Tm.ensures) none }

pub returns-after-loop-index-clause-grows : goal.returns-after-loop-index-clause-grows
returns-after-loop-index-clause-grows t c = c.loop-index.invariant.grows
