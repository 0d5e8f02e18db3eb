use Rattle.std.proofs.Common.{◌≡◌, refl, sym, ◌∙◌, ℕ, Option, Some, None}
use Rattle.std.specs.Prelude.{SomeIff}
use Rattle.hs_flow.proofs.ListLemmas.{list-read}
use Rattle.hs_flow.proofs.UserLemmas.{list_is, no_list}
use Rattle.hs_flow.proofs.users.Users.list.Goals as goal

nowhere : (o : Option ℕ) (P : Type 0) (v : ℕ) → SomeIff o P v → ((x : ℕ) → o ≡ Some x → ⊥) → P → ⊥
nowhere None P v none_is never p = none_is p
nowhere (Some x) P v there never p = never x refl

pub returns-in_default : goal.returns-in_default
returns-in_default c = no_list c.args.self.now.params c.args.self.now.lists c.args.rule c.args.param (nowhere c.number.result _ _ c.number.ensures.number c.in_default.not-Some)

pub returns : goal.returns
returns c =
    sym (list-read c.args.self.now.lists c.in-Some.number c.list.result.now c.list.ensures)
    ∙ list_is c.args.self.now.params c.args.self.now.lists c.args.rule c.args.param c.in-Some.number c.in-Some.ensures.number.0 c.in-Some.ensures.number.1
