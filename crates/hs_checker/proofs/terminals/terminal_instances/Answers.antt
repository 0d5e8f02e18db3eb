use Rattle.std.proofs.Common.{◌≡◌, sym, subst, ℕ, [], List, Bool, true, Some, slice_get, Contains, ◌+◌, ◌<◌, length, arith, inl, inr, Vec, Global}
use Rattle.std.proofs.lemmas.List.Elements.{All-nil}
use Rattle.hs_scheme.specs.acceptance.Automaton.{next}
use Rattle.hs_scheme.proofs.Lists.{none_in}
use Rattle.hs_table.specs.Types.{TypeTree}
use Rattle.hs_table_plain.specs.Enumeration.{terminal_types, types_in}
use Rattle.hs_table.specs.Entries.{EntryData}
use Rattle.hs_types.specs.Interned.{InternerData}
use Rattle.hs_types.proofs.Numbers.{Grows-refl}
use Rattle.hs_checker.specs.Slots.{FitsSets}
use Rattle.hs_checker.specs.Numbers.{entries_of, trees_of, GainsTypes}
use Rattle.hs_checker.proofs.InstanceLemmas.{barren_below, barren_unfit}
use Rattle.hs_checker.proofs.NumberLemmas.{rows_grow, entries_stay, gains_nothing, gains_more}
use Rattle.hs_checker.proofs.TypeLemmas.{both_parts, terminal_types_more}
use Rattle.hs_checker.proofs.terminals.terminal_instances.Goals as goal
use Rattle.hs_checker.proofs.terminals.terminal_instances.Goals.{then-not-is_marked+in_ok-add_types_in, else-not-is_marked}

pub add_types_in-requires-clause-rows : goal.add_types_in-requires-clause-rows
add_types_in-requires-clause-rows c = rows_grow c.args.types.now c.loop-q.types c.loop-q.invariant.grows c.args.index.now c.requires.rows

pub add_types_in-requires-clause-found : goal.add_types_in-requires-clause-found
add_types_in-requires-clause-found c = c.loop-q.invariant.range

pub loop-q-init : goal.loop-q-init
loop-q-init c =
    let I = c.args.types.now in
    subst (λ (ts : List ℕ). GainsTypes I I [] ts (λ (t : TypeTree). Contains (terminal_types c.args.problem.now c.args.terminal 0) t × FitsSets (entries_of I c.args.index.now) c.args.args.now t)) (sym c.new-found.ensures.items)
    (gains_nothing I I (Grows-refl I) [] (All-nil (λ t. t < length I.types)) (λ (t : TypeTree). Contains (terminal_types c.args.problem.now c.args.terminal 0) t × FitsSets (entries_of I c.args.index.now) c.args.args.now t) (λ t both. none_in t both.0))

pub loop-q-preserved : goal.loop-q-preserved
loop-q-preserved c =
    let p = c.args.problem.now in
    let I = c.args.types.now in
    let J = c.loop-q.types in
    let R = c.args.index.now in
    let E = entries_of I R in
    let us = c.args.args.now in
    let a = c.args.terminal in
    let q = c.loop-q.q in
    let olds = c.loop-q.found.items in
    let stay = entries_stay I J c.loop-q.invariant.grows R c.requires.rows in
    let Own : TypeTree → Type 0 = λ t. Contains (types_in p a q (next p.sorted.automaton.transitions q a)) t × FitsSets E us t in
    let more = λ (t : TypeTree). both_parts _ _ _ (FitsSets E us t) (terminal_types_more p a q t) in
    let with = λ (K : InternerData) (news : List ℕ) (own : GainsTypes J K olds news Own). gains_more I J K [] olds news (λ t. Contains (terminal_types p a q) t × FitsSets E us t) Own (λ t. Contains (terminal_types p a (q + 1)) t × FitsSets E us t) more c.loop-q.invariant own in
    let h : GainsTypes I c.if-not-is_marked.types [] c.if-not-is_marked.found.items (λ t. Contains (terminal_types p a (q + 1)) t × FitsSets E us t) = elim c.if-not-is_marked.branch [
      | then-not-is_marked+in_ok-add_types_in w ↦
          let own = subst (λ (F : List EntryData). GainsTypes J w.add_types_in.new.types olds w.add_types_in.new.found.items (λ t. Contains (types_in p a q (next p.sorted.automaton.transitions q a)) t × FitsSets F us t)) stay w.in_ok-add_types_in.ensures in
          subst (λ (K : InternerData). GainsTypes I K [] c.if-not-is_marked.found.items (λ t. Contains (terminal_types p a (q + 1)) t × FitsSets E us t)) (sym w.types-is)
          (subst (λ (v : Vec ℕ Global). GainsTypes I w.add_types_in.new.types [] v.items (λ t. Contains (terminal_types p a (q + 1)) t × FitsSets E us t)) (sym w.found-is) (with w.add_types_in.new.types w.add_types_in.new.found.items own))
      | else-not-is_marked w ↦
          let both = c.in_ok-barren.ensures q (subst (λ (ms : List Bool). slice_get ms q ≡ Some true) c.as_slice.ensures.value (c.is_marked.ensures.0 w.if-not-is_marked.false)) in
          let own = gains_nothing J J (Grows-refl J) olds c.loop-q.invariant.range Own (λ t said. barren_unfit p E us a q t (c.are_bare-bare.ensures I both.0) both.1 said) in
          subst (λ (K : InternerData). GainsTypes I K [] c.if-not-is_marked.found.items (λ t. Contains (terminal_types p a (q + 1)) t × FitsSets E us t)) (sym w.types-is)
          (subst (λ (v : Vec ℕ Global). GainsTypes I J [] v.items (λ t. Contains (terminal_types p a (q + 1)) t × FitsSets E us t)) (sym w.found-is) (with J olds own))
    ] in
    h

pub returns-then-is_barren-clause-each : goal.returns-then-is_barren-clause-each
returns-then-is_barren-clause-each c = λ t.
    let p = c.args.problem.now in
    let I = c.args.types.now in
    let E = entries_of I c.args.index.now in
    let x = c.is_barren.ensures c.if-is_barren.true in
    (λ k. absurd (none_in t (subst (λ (ts : List ℕ). Contains (trees_of I ts) t) c.new.ensures.items k)), λ both. absurd (barren_below p E c.args.args.now c.args.terminal p.sorted.automaton.states t (c.are_bare-bare.ensures I x.0) x.1 both))

pub returns-clause-each : goal.returns-clause-each
returns-clause-each c = λ t.
    let p = c.args.problem.now in
    let I = c.args.types.now in
    let E = entries_of I c.args.index.now in
    let From = λ (n : ℕ). Contains (terminal_types p c.args.terminal n) t × FitsSets E c.args.args.now t in
    let e : c.loop-q.q ≡ p.sorted.automaton.states = omega (arith, c.states-q-end.ensures, c.loop-q-test.false) in
    let exact = c.loop-q.invariant.exact t in (
      λ k. subst From e (elim (exact.0 k) [ inl n ↦ absurd (none_in t n) | inr f ↦ f ]),
      λ f. exact.1 (inr (subst From (sym e) f)),
    )
