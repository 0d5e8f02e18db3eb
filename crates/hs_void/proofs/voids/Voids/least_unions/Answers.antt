use Rattle.std.proofs.Common.{length}
use Rattle.std.proofs.lemmas.Result.{IfOk-weaker}
use Rattle.hs_weak.specs.Void.{IsVoid}
use Rattle.hs_types.specs.Interned.{env_of_id}
use Rattle.hs_choices.specs.Numbered.{envs_of, slot_envs}
use Rattle.hs_choices.proofs.Adding.{left_out_more}
use Rattle.hs_void.specs.Voids.{IsVoidBy}
use Rattle.hs_void.proofs.voids.Voids.least_unions.Goals as goal

pub returns-clause-least : goal.returns-clause-least
returns-clause-least c =
    let I = c.args.types.now in
    let b = c.args.self.now.basis in
    let first = env_of_id I c.args.first in
    IfOk-weaker c.least_unions.result _ _
    (λ kept least C V are. left_out_more (IsVoidBy b I c.args.rule) (IsVoid b.problem C V c.args.rule) (λ U void. void C V are) (length first) first (slot_envs I c.args.slots.now) (envs_of c.least_unions.new.types kept.items) least)
    c.least_unions.ensures.least
