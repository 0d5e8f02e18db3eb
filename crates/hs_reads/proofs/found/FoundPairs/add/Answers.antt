use Rattle.std.proofs.Common.{◌≡◌, ◌∙◌, ap, ℕ, ◌+◌, ◌≤◌, true, List, [], ◌∷◌, ◌++◌, length, arith}
use Rattle.hs_reads.specs.Found.{AreFound}
use Rattle.hs_reads.specs.ByPoint.{pairs_by_point, IsOneMore}
use Rattle.hs_reads.proofs.FoundLemmas.{too_many, more_there, more_found, gains_more, adds_one}
use Rattle.hs_reads.proofs.found.FoundPairs.add.Goals as goal

pub invariant_of-self-then-self-gt-MOST-2 : goal.invariant_of-self-then-self-gt-MOST-2
invariant_of-self-then-self-gt-MOST-2 c =
    let x : ℕ × ℕ = (c.args.point, c.args.state) in
    let old = pairs_by_point c.self.inside.rows.items in
    let new = pairs_by_point c.add_state.new.rows.items in
    let is_new : c.in_ok-add_state.field-0 ≡ true = c.if-not-branch.false in
    let more : IsOneMore x old new = c.in_ok-add_state.ensures.more is_new in
    let pushed = c.push_reserved.ensures.items ∙ ap (λ (xs : List (ℕ × ℕ)). xs ++ x ∷ []) c.reserve.ensures.items in
    let are : AreFound new c.push_reserved.new.self.items (c.self.inside.count + 1) =
    more_found x old new more c.self.inside.waiting.items c.push_reserved.new.self.items c.self.inside.count c.self.invariant (c.in_ok-add_state.ensures.absent is_new) pushed in
    are

pub returns-then-self-gt-MOST-2-clause-only : goal.returns-then-self-gt-MOST-2-clause-only
returns-then-self-gt-MOST-2-clause-only c =
    let x : ℕ × ℕ = (c.args.point, c.args.state) in
    let old = pairs_by_point c.self.inside.rows.items in
    let new = pairs_by_point c.add_state.new.rows.items in
    let is_new : c.in_ok-add_state.field-0 ≡ true = c.if-not-branch.false in
    let more : IsOneMore x old new = c.in_ok-add_state.ensures.more is_new in
    adds_one old c.self.inside.waiting.items c.args.self.now c.self.view_is x new more

pub returns-then-self-gt-MOST-2-clause-limit : goal.returns-then-self-gt-MOST-2-clause-limit
returns-then-self-gt-MOST-2-clause-limit c =
    let x : ℕ × ℕ = (c.args.point, c.args.state) in
    let old = pairs_by_point c.self.inside.rows.items in
    let new = pairs_by_point c.add_state.new.rows.items in
    let is_new : c.in_ok-add_state.field-0 ≡ true = c.if-not-branch.false in
    let more : IsOneMore x old new = c.in_ok-add_state.ensures.more is_new in
    let pushed = c.push_reserved.ensures.items ∙ ap (λ (xs : List (ℕ × ℕ)). xs ++ x ∷ []) c.reserve.ensures.items in
    let are : AreFound new c.push_reserved.new.self.items (c.self.inside.count + 1) =
    more_found x old new more c.self.inside.waiting.items c.push_reserved.new.self.items c.self.inside.count c.self.invariant (c.in_ok-add_state.ensures.absent is_new) pushed in
    λ _. too_many new c.push_reserved.new.self.items (c.self.inside.count + 1) are c.if-self-gt-MOST-2.true

pub invariant_of-self-2 : goal.invariant_of-self-2
invariant_of-self-2 c =
    let x : ℕ × ℕ = (c.args.point, c.args.state) in
    let old = pairs_by_point c.self.inside.rows.items in
    let new = pairs_by_point c.add_state.new.rows.items in
    let is_new : c.in_ok-add_state.field-0 ≡ true = c.if-not-branch.false in
    let more : IsOneMore x old new = c.in_ok-add_state.ensures.more is_new in
    let pushed = c.push_reserved.ensures.items ∙ ap (λ (xs : List (ℕ × ℕ)). xs ++ x ∷ []) c.reserve.ensures.items in
    let are : AreFound new c.push_reserved.new.self.items (c.self.inside.count + 1) =
    more_found x old new more c.self.inside.waiting.items c.push_reserved.new.self.items c.self.inside.count c.self.invariant (c.in_ok-add_state.ensures.absent is_new) pushed in
    are

pub returns-clause-gains : goal.returns-clause-gains
returns-clause-gains c =
    let x : ℕ × ℕ = (c.args.point, c.args.state) in
    let old = pairs_by_point c.self.inside.rows.items in
    let new = pairs_by_point c.add_state.new.rows.items in
    let is_new : c.in_ok-add_state.field-0 ≡ true = c.if-not-branch.false in
    let more : IsOneMore x old new = c.in_ok-add_state.ensures.more is_new in
    let pushed = c.push_reserved.ensures.items ∙ ap (λ (xs : List (ℕ × ℕ)). xs ++ x ∷ []) c.reserve.ensures.items in
    let are : AreFound new c.push_reserved.new.self.items (c.self.inside.count + 1) =
    more_found x old new more c.self.inside.waiting.items c.push_reserved.new.self.items c.self.inside.count c.self.invariant (c.in_ok-add_state.ensures.absent is_new) pushed in
    let few : length new ≤ 4000000 = omega (arith, are.long, c.if-self-gt-MOST-2.false) in
    gains_more old c.self.inside.waiting.items c.args.self.now c.self.view_is x new c.reserve.new.self.items c.push_reserved.new.self.items more c.reserve.ensures.items c.push_reserved.ensures.items few

pub returns-clause-there : goal.returns-clause-there
returns-clause-there c =
    let x : ℕ × ℕ = (c.args.point, c.args.state) in
    let old = pairs_by_point c.self.inside.rows.items in
    let new = pairs_by_point c.add_state.new.rows.items in
    let is_new : c.in_ok-add_state.field-0 ≡ true = c.if-not-branch.false in
    let more : IsOneMore x old new = c.in_ok-add_state.ensures.more is_new in
    more_there x old new more

pub returns-clause-only : goal.returns-clause-only
returns-clause-only c =
    let x : ℕ × ℕ = (c.args.point, c.args.state) in
    let old = pairs_by_point c.self.inside.rows.items in
    let new = pairs_by_point c.add_state.new.rows.items in
    let is_new : c.in_ok-add_state.field-0 ≡ true = c.if-not-branch.false in
    let more : IsOneMore x old new = c.in_ok-add_state.ensures.more is_new in
    adds_one old c.self.inside.waiting.items c.args.self.now c.self.view_is x new more
