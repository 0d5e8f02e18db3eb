use Rattle.std.proofs.Common.{◌≡◌, ◌∙◌, ap, sym, subst, cond, Bool, false, Some, None, OnOk, ◌++◌, List, ℕ}
use Rattle.std.proofs.lemmas.Result.{IfOk-weaker, on_ok_weaker}
use Rattle.hs_scheme.specs.declared.term.Head.TheVariants.{Tm}
use Rattle.hs_reader.specs.Grammar.{begins_upper}
use Rattle.hs_resolve.specs.Names.{number_of, number, with_name}
use Rattle.hs_resolve.specs.Bodies.{IsHead}
use Rattle.hs_resolve.proofs.Bodies.{parameter-is, terminal-is, lower-at, head-parameter, head-terminal}
use Rattle.hs_resolve.proofs.body.head_of.Goals as goal

pub returns-in-Some-clause-terminals : goal.returns-in-Some-clause-terminals
returns-in-Some-clause-terminals c =
    let params = c.args.params.now in
    let x = c.args.name.now.text in
    let old = c.args.terminals.now in
    let is : number_of params x ≡ Some c.in-Some.parameter = ap (number_of params) (sym c.bytes-text.ensures) ∙ (sym c.number.ensures.number ∙ c.in-Some.is) in
    ap (λ (b : Bool). cond b (with_name old x) old) (sym (parameter-is params x c.in-Some.parameter is))

pub returns-in-Some-clause-undefined : goal.returns-in-Some-clause-undefined
returns-in-Some-clause-undefined c =
    let lower : begins_upper c.args.name.now.text ≡ false = ap begins_upper (sym c.bytes-text.ensures) ∙ (sym c.is_upper.ensures ∙ c.if-is_upper.false) in
    lower-at c.args.left.now c.args.name.now c.args.undefined.now lower

pub returns-in-Some-clause-head : goal.returns-in-Some-clause-head
returns-in-Some-clause-head c = λ later.
    let params = c.args.params.now in
    let x = c.args.name.now.text in
    let is : number_of params x ≡ Some c.in-Some.parameter = ap (number_of params) (sym c.bytes-text.ensures) ∙ (sym c.number.ensures.number ∙ c.in-Some.is) in
    let lower : begins_upper x ≡ false = ap begins_upper (sym c.bytes-text.ensures) ∙ (sym c.is_upper.ensures ∙ c.if-is_upper.false) in
    head-parameter c.args.left.now params (c.args.terminals.now ++ later) c.args.name.now c.in-Some.parameter lower is

pub returns-in-None-clause-terminals : goal.returns-in-None-clause-terminals
returns-in-None-clause-terminals c =
    let params = c.args.params.now in
    let x = c.args.name.now.text in
    let old = c.args.terminals.now in
    let is : number_of params x ≡ None = ap (number_of params) (sym c.bytes-text.ensures) ∙ (sym c.number.ensures.number ∙ c.in-None.is) in
    let lower : begins_upper x ≡ false = ap begins_upper (sym c.bytes-text.ensures) ∙ (sym c.is_upper.ensures ∙ c.if-is_upper.false) in
    subst (λ (b : Bool). OnOk c.terminal.result (c.terminal.new.terminals ≡ cond b (with_name old x) old)) (sym (terminal-is params x lower is)) c.terminal.ensures.added

pub returns-in-None-clause-undefined : goal.returns-in-None-clause-undefined
returns-in-None-clause-undefined c =
    let lower : begins_upper c.args.name.now.text ≡ false = ap begins_upper (sym c.bytes-text.ensures) ∙ (sym c.is_upper.ensures ∙ c.if-is_upper.false) in
    on_ok_weaker c.terminal.result (λ _. lower-at c.args.left.now c.args.name.now c.args.undefined.now lower) c.terminal.ensures.added

pub returns-in-None-clause-head : goal.returns-in-None-clause-head
returns-in-None-clause-head c =
    let left = c.args.left.now in
    let params = c.args.params.now in
    let name = c.args.name.now in
    let terminals = c.terminal.new.terminals in
    let is : number_of params name.text ≡ None = ap (number_of params) (sym c.bytes-text.ensures) ∙ (sym c.number.ensures.number ∙ c.in-None.is) in
    let lower : begins_upper name.text ≡ false = ap begins_upper (sym c.bytes-text.ensures) ∙ (sym c.is_upper.ensures ∙ c.if-is_upper.false) in
    IfOk-weaker c.terminal.result (λ head. (later : List (List ℕ)) → head ≡ Tm (number (terminals ++ later) name.text)) (IsHead left params terminals name)
    (λ head h later. h later ∙ head-terminal left params (terminals ++ later) name lower is) c.terminal.ensures.head
