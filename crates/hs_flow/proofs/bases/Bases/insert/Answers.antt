use Rattle.std.proofs.Common.{◌≡◌, ◌↔◌, ◌⊎◌, ℕ, List, Bool, refl, subst, Contains, Option, Some, None, Result, Ok, Err, arith}
use Rattle.std.specs.Prelude.{SomeIff, IfOk}
use Rattle.std.proofs.lemmas.Result.{on_ok_weaker}
use Rattle.hs_scheme.specs.declared.memory.OutOfMemory.{OutOfMemory}
use Rattle.hs_flow.specs.declared.bases.Base.{Base}
use Rattle.hs_flow.specs.Bases.{BasesData, HasFlag, HasBase, TellsNew, IsOutside}
use Rattle.hs_flow.proofs.BaseLemmas.{outside_more, outside_new, flag_more, flag_new}
use Rattle.hs_flow.proofs.bases.Bases.insert.Goals as goal

nowhere : (o : Option ℕ) (P : Type 0) (v : ℕ) → SomeIff o P v → ((x : ℕ) → o ≡ Some x → ⊥) → P → ⊥
nowhere None P v none_is never p = none_is p
nowhere (Some x) P v there never p = never x refl

if_ok : (r : Result Bool OutOfMemory) (P Q : Bool → Type 0) → ((b : Bool) → P b → Q b) → IfOk r P → IfOk r Q
if_ok (Ok b) P Q weaker p = weaker b p
if_ok (Err e) P Q weaker p = tt

grows_from : (ns : List ℕ) (new was old : BasesData) (base : Base) → was ≡ old → ((b : Base) → HasBase ns new b ↔ (HasBase ns was b ⊎ (b ≡ base))) → (b : Base) → HasBase ns new b ↔ (HasBase ns old b ⊎ (b ≡ base))
grows_from ns new was old base same = subst (λ (o : BasesData). (b : Base) → HasBase ns new b ↔ (HasBase ns o b ⊎ (b ≡ base))) same

new_from : (ns : List ℕ) (was old : BasesData) (base : Base) → was ≡ old → (added : Bool) → TellsNew (HasBase ns was base) added → TellsNew (HasBase ns old base) added
new_from ns was old base same added = subst (λ (o : BasesData). TellsNew (HasBase ns o base) added) same

pub returns-in_default-clause-bases : goal.returns-in_default-clause-bases
returns-in_default-clause-bases c =
    let out : IsOutside c.args.params.now c.self.inside.rows c.args.base = λ p q lt. nowhere c.number.result _ _ c.number.ensures.number c.in_default.not-Some p in
    on_ok_weaker c.add_other.result
    (λ (more : (b : Base) → Contains c.add_other.new.others.keys b ↔ (Contains c.self.inside.others.keys b ⊎ (b ≡ c.args.base))).
    grows_from c.args.params.now (record { rows = c.self.inside.rows; others = c.add_other.new.others.keys }) (record { rows = c.self.inside.rows; others = c.self.inside.others.keys }) c.args.self.now c.args.base c.self.view_is
    (outside_more c.args.params.now c.self.inside.rows c.self.inside.others.keys c.add_other.new.others.keys c.args.base out more))
    c.add_other.ensures.bases

pub returns-in_default-number-clause-bases : goal.returns-in_default-number-clause-bases
returns-in_default-number-clause-bases c =
    let out : IsOutside c.args.params.now c.self.inside.rows c.args.base = λ p q lt. nowhere c.number-2.result _ _ c.number-2.ensures.number c.in_default-number.not-Some q in
    on_ok_weaker c.add_other-in_default-number.result
    (λ (more : (b : Base) → Contains c.add_other-in_default-number.new.others.keys b ↔ (Contains c.self.inside.others.keys b ⊎ (b ≡ c.args.base))).
    grows_from c.args.params.now (record { rows = c.self.inside.rows; others = c.add_other-in_default-number.new.others.keys }) (record { rows = c.self.inside.rows; others = c.self.inside.others.keys }) c.args.self.now c.args.base c.self.view_is
    (outside_more c.args.params.now c.self.inside.rows c.self.inside.others.keys c.add_other-in_default-number.new.others.keys c.args.base out more))
    c.add_other-in_default-number.ensures.bases

pub returns-then-number-len-clause-bases : goal.returns-then-number-len-clause-bases
returns-then-number-len-clause-bases c =
    let is = c.in-Some.ensures.number.1 in
    let out : IsOutside c.args.params.now c.self.inside.rows c.args.base = λ p q lt. omega (arith, is, lt) in
    on_ok_weaker c.add_other-then-number-len.result
    (λ (more : (b : Base) → Contains c.add_other-then-number-len.new.others.keys b ↔ (Contains c.self.inside.others.keys b ⊎ (b ≡ c.args.base))).
    grows_from c.args.params.now (record { rows = c.self.inside.rows; others = c.add_other-then-number-len.new.others.keys }) (record { rows = c.self.inside.rows; others = c.self.inside.others.keys }) c.args.self.now c.args.base c.self.view_is
    (outside_more c.args.params.now c.self.inside.rows c.self.inside.others.keys c.add_other-then-number-len.new.others.keys c.args.base out more))
    c.add_other-then-number-len.ensures.bases

pub returns-then-number-len-clause-new : goal.returns-then-number-len-clause-new
returns-then-number-len-clause-new c =
    let is = c.in-Some.ensures.number.1 in
    let out : IsOutside c.args.params.now c.self.inside.rows c.args.base = λ p q lt. omega (arith, is, lt) in
    if_ok c.add_other-then-number-len.result (TellsNew (Contains c.self.inside.others.keys c.args.base)) (TellsNew (HasBase c.args.params.now c.args.self.now c.args.base))
    (λ added t. new_from c.args.params.now (record { rows = c.self.inside.rows; others = c.self.inside.others.keys }) c.args.self.now c.args.base c.self.view_is added
    (outside_new c.args.params.now c.self.inside.rows c.self.inside.others.keys c.add_other-then-number-len.new.others.keys c.args.base out added t)) c.add_other-then-number-len.ensures.new

pub returns-clause-bases : goal.returns-clause-bases
returns-clause-bases c =
    on_ok_weaker c.set_flag.result
    (λ (flags : (k j : ℕ) → HasFlag c.set_flag.new.self k j ↔ (HasFlag c.self.inside.rows k j ⊎ ((k ≡ c.in-Some.number) × (j ≡ c.in-Some-number.flag)))).
    grows_from c.args.params.now (record { rows = c.set_flag.new.self; others = c.self.inside.others.keys }) (record { rows = c.self.inside.rows; others = c.self.inside.others.keys }) c.args.self.now c.args.base c.self.view_is
    (flag_more c.args.params.now c.self.inside.rows c.set_flag.new.self c.self.inside.others.keys c.args.base c.in-Some.number c.in-Some-number.flag
    c.in-Some.ensures.number.0 c.in-Some-number.ensures.number.0 c.in-Some.ensures.number.1 c.in-Some-number.ensures.number.1 (omega arith) c.set_flag.ensures.len flags))
    c.set_flag.ensures.flags

pub returns-clause-new : goal.returns-clause-new
returns-clause-new c =
    if_ok c.set_flag.result (TellsNew (HasFlag c.self.inside.rows c.in-Some.number c.in-Some-number.flag)) (TellsNew (HasBase c.args.params.now c.args.self.now c.args.base))
    (λ added t. new_from c.args.params.now (record { rows = c.self.inside.rows; others = c.self.inside.others.keys }) c.args.self.now c.args.base c.self.view_is added
    (flag_new c.args.params.now c.self.inside.rows c.set_flag.new.self c.self.inside.others.keys c.args.base c.in-Some.number c.in-Some-number.flag
    c.in-Some.ensures.number.0 c.in-Some-number.ensures.number.0 c.in-Some.ensures.number.1 c.in-Some-number.ensures.number.1 (omega arith) added t))
    c.set_flag.ensures.new
