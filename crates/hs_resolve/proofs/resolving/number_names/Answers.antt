use Rattle.std.proofs.Common.{◌≡◌, ◌∙◌, ap, sym, subst, map, List, ◌++◌, ℕ, All, length, ◌≤◌, arith}
use Rattle.std.specs.List.{flat_map}
use Rattle.hs_reader.specs.Raw.{File, Rule, Transition}
use Rattle.hs_reader.specs.Limits.{term_names, IsRaw}
use Rattle.hs_resolve.specs.Names.{texts, distinct, with_names}
use Rattle.hs_resolve.specs.Numbering.{terminals_in, states_in, rank_of, left_names, state_names, terminal_names, transition_of}
use Rattle.hs_resolve.specs.Least.{IsLeast}
use Rattle.hs_resolve.specs.LineFaults.{Somewhere, IsUndefined, Repeats, RepeatsLeft, Clashes}
use Rattle.hs_resolve.specs.Tables.{scoped_rule}
use Rattle.hs_resolve.proofs.Distinct.{distinct-append}
use Rattle.hs_resolve.proofs.Members.{all-from}
use Rattle.hs_resolve.proofs.Bodies.{rules-all}
use Rattle.hs_resolve.proofs.NameLoops.{undefined-distinct}
use Rattle.hs_resolve.proofs.Sound.{left-few}
use Rattle.hs_resolve.proofs.resolving.number_names.Goals as goal

pub note_lengths-requires-clause-few : goal.note_lengths-requires-clause-few
note_lengths-requires-clause-few c =
    let inside : IsRaw c.args.raw.now = subst IsRaw c.raw.view_is c.raw.invariant in
    let transitions : c.as_slice-transitions.result.now ≡ c.args.raw.now.transitions = c.as_slice-transitions.ensures.value ∙ ap (λ (f : File). f.transitions) c.raw.view_is in
    let few = λ (t : Transition). length t.to ≤ 64 in
    subst (λ (ts : List Transition). All few ts) (sym transitions) (all-from few c.args.raw.now.transitions inside.within.children)

pub number_bodies-requires-clause-left : goal.number_bodies-requires-clause-left
number_bodies-requires-clause-left c =
    let inside : IsRaw c.args.raw.now = subst IsRaw c.raw.view_is c.raw.invariant in
    let rules : c.as_slice-rules.result.now ≡ c.args.raw.now.rules = c.as_slice-rules.ensures.value ∙ ap (λ (f : File). f.rules) c.raw.view_is in
    let left : c.number_left.new.left ≡ distinct (left_names c.args.raw.now) = c.in_ok-duplicate_rule.ensures.names ∙ ap (λ (rs : List Rule). distinct (texts (map (λ r. r.name) rs))) rules in
    let e : length c.number_left.new.left ≡ length (distinct (left_names c.args.raw.now)) = ap (λ (ns : List (List ℕ)). length ns) left in
    omega (arith, left-few c.args.raw.now inside)

pub number_bodies-requires-clause-few : goal.number_bodies-requires-clause-few
number_bodies-requires-clause-few c =
    let inside : IsRaw c.args.raw.now = subst IsRaw c.raw.view_is c.raw.invariant in
    let rules : c.as_slice-rules.result.now ≡ c.args.raw.now.rules = c.as_slice-rules.ensures.value ∙ ap (λ (f : File). f.rules) c.raw.view_is in
    let few = λ (r : Rule). length r.params ≤ 64 in
    subst (λ (rs : List Rule). All few rs) (sym rules) (all-from few c.args.raw.now.rules inside.within.parameters)

pub returns-clause-tables : goal.returns-clause-tables
returns-clause-tables c =
    let rules : c.as_slice-rules.result.now ≡ c.args.raw.now.rules = c.as_slice-rules.ensures.value ∙ ap (λ (f : File). f.rules) c.raw.view_is in
    let transitions : c.as_slice-transitions.result.now ≡ c.args.raw.now.transitions = c.as_slice-transitions.ensures.value ∙ ap (λ (f : File). f.transitions) c.raw.view_is in
    let ends = map (λ (t : Transition). t.terminal.text) c.as_slice-transitions.result.now in
    record {
      left = c.in_ok-duplicate_rule.ensures.names ∙ ap (λ (rs : List Rule). distinct (texts (map (λ r. r.name) rs))) rules;
      params = c.in_ok-duplicate_param.ensures.names ∙ ap (map (λ (r : Rule). distinct (texts r.params))) rules;
      terminals = c.in_ok-number_transitions.ensures.terminals
          ∙ ((λ i. with_names (c.in_ok-undefined.ensures.terminals i) ends)
          ∙ (sym (distinct-append (flat_map terminals_in c.as_slice-rules.result.now) ends)
          ∙ (λ i. distinct (flat_map terminals_in (rules i) ++ map (λ (t : Transition). t.terminal.text) (transitions i)))));
      states = c.in_ok-number_transitions.ensures.states ∙ ap (λ (ts : List Transition). distinct (flat_map states_in ts)) transitions;
      lengths = λ x. c.in_ok-rank_clash.ensures.lengths x ∙ ap (λ (ts : List Transition). rank_of ts x) transitions;
    }

pub returns-clause-numbered : goal.returns-clause-numbered
returns-clause-numbered c =
    let raw = c.args.raw.now in
    let rules : c.as_slice-rules.result.now ≡ raw.rules = c.as_slice-rules.ensures.value ∙ ap (λ (f : File). f.rules) c.raw.view_is in
    let transitions : c.as_slice-transitions.result.now ≡ raw.transitions = c.as_slice-transitions.ensures.value ∙ ap (λ (f : File). f.transitions) c.raw.view_is in
    let ends = map (λ (t : Transition). t.terminal.text) c.as_slice-transitions.result.now in
    let left : c.number_left.new.left ≡ distinct (left_names raw) = c.in_ok-duplicate_rule.ensures.names ∙ ap (λ (rs : List Rule). distinct (texts (map (λ r. r.name) rs))) rules in
    let terminals : c.number_transitions.new.terminals ≡ terminal_names raw =
    c.in_ok-number_transitions.ensures.terminals
    ∙ ((λ i. with_names (c.in_ok-undefined.ensures.terminals i) ends)
    ∙ (sym (distinct-append (flat_map terminals_in c.as_slice-rules.result.now) ends)
    ∙ (λ i. distinct (flat_map terminals_in (rules i) ++ map (λ (t : Transition). t.terminal.text) (transitions i))))) in
    let states : c.number_transitions.new.states ≡ state_names raw = c.in_ok-number_transitions.ensures.states ∙ ap (λ (ts : List Transition). distinct (flat_map states_in ts)) transitions in
    record {
      inside = subst IsRaw c.raw.view_is c.raw.invariant;
      rules = rules-all c.number_left.new.left c.number_bodies.new.terminals ends c.number_transitions.new.terminals c.as_slice-rules.result.now c.number_bodies.new.numbered.items c.in_ok-undefined.ensures.rules c.in_ok-number_transitions.ensures.terminals
          ∙ (λ i. map (scoped_rule (left i) (terminals i)) (rules i));
      transitions = c.in_ok-number_transitions.ensures.transitions ∙ (λ i. map (transition_of (states i) (terminals i)) (transitions i));
    }

pub returns-clause-lines : goal.returns-clause-lines
returns-clause-lines c =
    let rules : c.as_slice-rules.result.now ≡ c.args.raw.now.rules = c.as_slice-rules.ensures.value ∙ ap (λ (f : File). f.rules) c.raw.view_is in
    let transitions : c.as_slice-transitions.result.now ≡ c.args.raw.now.transitions = c.as_slice-transitions.ensures.value ∙ ap (λ (f : File). f.transitions) c.raw.view_is in
    let left : c.number_left.new.left ≡ distinct (left_names c.args.raw.now) = c.in_ok-duplicate_rule.ensures.names ∙ ap (λ (rs : List Rule). distinct (texts (map (λ r. r.name) rs))) rules in
    record {
      duplicate_rule = subst (λ (rs : List Rule). IsLeast (Repeats (map (λ r. r.name) rs)) c.in_ok-duplicate_rule.duplicate_rule) rules c.in_ok-duplicate_rule.ensures.repeated;
      duplicate_param = subst (λ (rs : List Rule). IsLeast (λ line. Somewhere (λ _ r. Repeats r.params line) rs) c.in_ok-duplicate_param.duplicate_param) rules c.in_ok-duplicate_param.ensures.repeated;
      undefined = undefined-distinct c.args.raw.now.rules (left_names c.args.raw.now) c.in_ok-undefined.undefined
          (subst (λ (ns : List (List ℕ)). IsLeast (λ line. Somewhere (λ _ r. Somewhere (λ _ n. IsUndefined ns n line) (term_names r.body)) c.args.raw.now.rules) c.in_ok-undefined.undefined) left
          (subst (λ (rs : List Rule). IsLeast (λ line. Somewhere (λ _ r. Somewhere (λ _ n. IsUndefined c.number_left.new.left n line) (term_names r.body)) rs) c.in_ok-undefined.undefined) rules
          c.in_ok-undefined.ensures.undefined));
      start_has_params = c.start_line-start_has_params.ensures;
      duplicate_transition = subst (λ (ts : List Transition). IsLeast (λ line. Somewhere (λ i t. RepeatsLeft ts i t line) ts) c.in_ok-duplicate_transition.duplicate_transition) transitions c.in_ok-duplicate_transition.ensures;
      rank_clash = subst (λ (ts : List Transition). IsLeast (λ line. Somewhere (λ _ t. Clashes ts t line) ts) c.in_ok-rank_clash.rank_clash) transitions c.in_ok-rank_clash.ensures.clash;
    }
