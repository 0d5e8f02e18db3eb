use Rattle.std.proofs.Common.{◌≡◌, ◌∙◌, ap, sym, subst, length, filter, arith, ◌≤◌, ◌++◌}
use Rattle.std.proofs.lemmas.List.{length-map}
use Rattle.hs_scheme.specs.Tree.{Tree}
use Rattle.hs_reader.specs.declared.raw.RawName.{RawName}
use Rattle.hs_reader.specs.Raw.{Rule}
use Rattle.hs_reader.specs.Limits.{term_names}
use Rattle.hs_reader.specs.Preorder.{first_term, BeginsTerm}
use Rattle.hs_reader.proofs.Nodes.{first-whole, begins-whole}
use Rattle.hs_resolve.specs.Names.{texts, distinct, with_names}
use Rattle.hs_resolve.specs.Numbering.{is_terminal, head_of, numbered}
use Rattle.hs_resolve.specs.Bodies.{undefined_in}
use Rattle.hs_resolve.proofs.Distinct.{distinct-le}
use Rattle.hs_resolve.proofs.body.rule_of.Goals as goal

pub term_of-requires-clause-params : goal.term_of-requires-clause-params
term_of-requires-clause-params c =
    let names = texts c.args.raw.now.params in
    let le : length (distinct names) ≤ length names = distinct-le names in
    let same : length names ≡ length c.args.raw.now.params = length-map c.args.raw.now.params (λ n. n.text) in
    let is : length c.args.params.now ≡ length (distinct names) = ap length c.requires.params in
    omega (arith, c.requires.few)

pub term_of-requires-clause-begins : goal.term_of-requires-clause-begins
term_of-requires-clause-begins c = subst BeginsTerm (sym c.nodes.ensures) (begins-whole c.raw.inside.body)

pub returns-clause-terminals : goal.returns-clause-terminals
returns-clause-terminals c =
    let is : first_term c.nodes.result.now ≡ c.args.raw.now.body = ap first_term c.nodes.ensures ∙ (first-whole c.raw.inside.body ∙ ap (λ (r : Rule). r.body) c.raw.view_is) in
    c.in_ok-body.ensures.terminals ∙ ap (λ (t : Tree RawName). with_names c.args.terminals.now (filter (is_terminal c.args.params.now) (texts (term_names t)))) is

pub returns-clause-undefined : goal.returns-clause-undefined
returns-clause-undefined c =
    let is : first_term c.nodes.result.now ≡ c.args.raw.now.body = ap first_term c.nodes.ensures ∙ (first-whole c.raw.inside.body ∙ ap (λ (r : Rule). r.body) c.raw.view_is) in
    c.in_ok-body.ensures.undefined ∙ ap (λ (t : Tree RawName). undefined_in c.args.left.now c.args.undefined.now (term_names t)) is

pub returns-clause-rule : goal.returns-clause-rule
returns-clause-rule c = λ later.
    let is : first_term c.nodes.result.now ≡ c.args.raw.now.body = ap first_term c.nodes.ensures ∙ (first-whole c.raw.inside.body ∙ ap (λ (r : Rule). r.body) c.raw.view_is) in
    let all = c.term_of.new.terminals ++ later in
    let body = c.in_ok-body.ensures.term later ∙ ((λ i. numbered (head_of c.args.left.now (c.requires.params i) all) (is i))) in
    let same = ap (λ (r : Rule). length r.params) c.raw.view_is in
    let count : c.len.result ≡ length c.args.raw.now.params = omega (arith, c.len.ensures, same) in
    λ i. record { params = count i; body = body i }
