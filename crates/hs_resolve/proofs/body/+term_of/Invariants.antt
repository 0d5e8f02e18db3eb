-- what the arguments so far name, their terms, and the nodes of those behind them
use Rattle.std.proofs.Common.{◌≡◌, ◌++◌, ◌<◌, length, filter, take, drop}
use Rattle.hs_scheme.specs.Tree.{forest}
use Rattle.hs_reader.specs.Limits.{terms_names}
use Rattle.hs_reader.specs.Preorder.{preorders, first_term, behind}
use Rattle.hs_resolve.specs.Names.{texts, with_names}
use Rattle.hs_resolve.specs.Numbering.{is_terminal}
use Rattle.hs_resolve.specs.Bodies.{undefined_in, AreNumbered}
use Rattle.hs_resolve.proofs.Walking.{arguments_of}
use Rattle.hs_resolve.proofs.body.+term_of.Given as goal

abbrev pub invariant-loop : goal.invariant-loop
invariant-loop l =
    let all = l.fn.ahead.nodes.now in
    let args = arguments_of (first_term all) in
    record {
      count : l.end ≡ length args;
      ahead : l.ahead.nodes.now ≡ preorders (forest (drop l.counter args)) ++ behind all;
      shorter : length l.ahead.nodes.now < length all;
      terminals : l.terminals ≡ with_names l.initial.terminals (filter (is_terminal l.params) (texts (terms_names (forest (take l.counter args)))));
      undefined : l.undefined ≡ undefined_in l.left l.initial.undefined (terms_names (forest (take l.counter args)));
      args : AreNumbered l.left l.params l.terminals (take l.counter args) l.args.items;
    }

abbrev pub decreases-term_of : goal.decreases-term_of
decreases-term_of l = length l.ahead.now.nodes.now
