use Rattle.std.proofs.Common.{◌≡◌, ◌∙◌, ap, sym, map, refl, length, filter, take, ◌++◌, arith}
use Rattle.hs_scheme.specs.Tree.{node, forest}
use Rattle.hs_reader.specs.declared.raw.RawName.{RawName}
use Rattle.hs_reader.specs.Limits.{term_names, terms_names}
use Rattle.hs_reader.specs.Preorder.{first_term, behind}
use Rattle.hs_resolve.specs.Names.{texts, with_names}
use Rattle.hs_resolve.specs.Numbering.{is_terminal, head_of, numbered}
use Rattle.hs_resolve.specs.Bodies.{undefined_in}
use Rattle.hs_resolve.proofs.Bodies.{terminals-in-more, undefined-in-more, terms-more, head-later}
use Rattle.hs_resolve.proofs.NameLoops.{numbered-forest}
use Rattle.hs_resolve.proofs.Walking.{arguments_of, opened, next_argument, next_shorter, front_of, terminals-all, take_end}
use Rattle.hs_resolve.proofs.body.+term_of.Goals as goal

pub loop-init : goal.loop-init
loop-init t c =
    let all = c.args.ahead.now.nodes.now in
    let is = front_of all c.node-item.result c.in-len1-up.len_at_least c.node-item.is in
    let o = opened all c.node-item.result _ is c.requires.begins in
    record {
      count = o.count;
      ahead = o.behind;
      shorter = omega (arith, ap length is);
      terminals = refl;
      undefined = refl;
      args = λ later. c.in_ok-args.ensures.items;
    }

pub term_of-requires : goal.term_of-requires
term_of-requires t c =
    let all = c.args.ahead.now.nodes.now in
    let next = next_argument (arguments_of (first_term all)) c.loop.counter (behind all) c.loop.ahead.nodes.now c.loop.invariant.ahead (omega (arith, c.loop-test.true, c.loop.invariant.count)) in
    (omega (arith, c.decreases, c.loop.invariant.shorter), (c.requires.left, (c.requires.params, next.begins)))

pub loop-preserved : goal.loop-preserved
loop-preserved t c =
    let left = c.args.left.now in
    let params = c.args.params.now in
    let all = c.args.ahead.now.nodes.now in
    let args = arguments_of (first_term all) in
    let i = c.loop.counter in
    let arg = first_term c.loop.ahead.nodes.now in
    let next = next_argument args i (behind all) c.loop.ahead.nodes.now c.loop.invariant.ahead (omega (arith, c.loop-test.true, c.loop.invariant.count)) in
    let ensured = c.in_ok-term_of.ensures in
    record {
      count = c.loop.invariant.count;
      ahead = ensured.ahead ∙ next.behind;
      shorter = next_shorter c.loop.ahead.nodes.now all c.term_of.new.ahead.nodes.now c.loop.invariant.shorter ensured.ahead;
      terminals = terminals-in-more args i arg next.at (is_terminal params) c.head_of.new.terminals c.loop.terminals c.term_of.new.terminals c.loop.invariant.terminals ensured.terminals;
      undefined = undefined-in-more args i arg next.at left c.head_of.new.undefined c.loop.undefined c.term_of.new.undefined c.loop.invariant.undefined ensured.undefined;
      args = terms-more args i arg next.at left params (filter (is_terminal params) (texts (term_names arg))) c.loop.terminals c.term_of.new.terminals c.loop.args.items c.push.new.self.items
          c.in_ok-term_of.field-0 ensured.terminals c.loop.invariant.args ensured.term c.in_ok-push.ensures.items;
    }

pub returns-clause-terminals : goal.returns-clause-terminals
returns-clause-terminals t c =
    let params = c.args.params.now in
    let all = c.args.ahead.now.nodes.now in
    let args = arguments_of (first_term all) in
    let n = c.node-item.result in
    let o = opened all n _ (front_of all n c.in-len1-up.len_at_least c.node-item.is) c.requires.begins in
    let m = c.name-name.result in
    let term : first_term all ≡ node m (forest args) = o.term ∙ ap (λ (k : RawName). node k (forest args)) (sym c.name-name.ensures) in
    let behind_head = c.loop.invariant.terminals ∙ ap (λ ts. with_names c.head_of.new.terminals (filter (is_terminal params) (texts (terms_names (forest ts))))) (take_end args c.loop.counter _ c.loop-test.false c.loop.invariant.count) in
    terminals-all (is_terminal params) c.args.terminals.now c.head_of.new.terminals c.loop.terminals m.text (texts (terms_names (forest args))) c.in_ok-head.ensures.terminals behind_head
    ∙ ap (λ u. with_names c.args.terminals.now (filter (is_terminal params) (texts (term_names u)))) (sym term)

pub returns-clause-undefined : goal.returns-clause-undefined
returns-clause-undefined t c =
    let left = c.args.left.now in
    let all = c.args.ahead.now.nodes.now in
    let args = arguments_of (first_term all) in
    let n = c.node-item.result in
    let o = opened all n _ (front_of all n c.in-len1-up.len_at_least c.node-item.is) c.requires.begins in
    let m = c.name-name.result in
    let term : first_term all ≡ node m (forest args) = o.term ∙ ap (λ (k : RawName). node k (forest args)) (sym c.name-name.ensures) in
    c.loop.invariant.undefined
    ∙ (ap (λ ts. undefined_in left c.head_of.new.undefined (terms_names (forest ts))) (take_end args c.loop.counter _ c.loop-test.false c.loop.invariant.count)
    ∙ (ap (λ u. undefined_in left u (terms_names (forest args))) c.in_ok-head.ensures.undefined
    ∙ ap (λ u. undefined_in left c.args.undefined.now (term_names u)) (sym term)))

pub returns-clause-term : goal.returns-clause-term
returns-clause-term t c = λ later.
    let left = c.args.left.now in
    let params = c.args.params.now in
    let all = c.args.ahead.now.nodes.now in
    let args = arguments_of (first_term all) in
    let n = c.node-item.result in
    let o = opened all n _ (front_of all n c.in-len1-up.len_at_least c.node-item.is) c.requires.begins in
    let m = c.name-name.result in
    let term : first_term all ≡ node m (forest args) = o.term ∙ ap (λ (k : RawName). node k (forest args)) (sym c.name-name.ensures) in
    let head = head_of left params (c.loop.terminals ++ later) in
    let first : c.in_ok-head.head ≡ head m =
    head-later left params c.head_of.new.terminals (filter (is_terminal params) (texts (terms_names (forest (take c.loop.counter args))))) m c.in_ok-head.head c.in_ok-head.ensures.head later
    ∙ ap (λ ts. head_of left params (ts ++ later) m) (sym c.loop.invariant.terminals) in
    let each : c.loop.args.items ≡ map (numbered head) args =
    c.loop.invariant.args later ∙ ap (map (numbered head)) (take_end args c.loop.counter _ c.loop-test.false c.loop.invariant.count) in
    (λ i. node (first i) (forest (each i)))
    ∙ (ap (node (head m)) (sym (numbered-forest head args)) ∙ ap (numbered head) (sym term))
