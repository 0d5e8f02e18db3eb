use Rattle.hs_flow.proofs.UserLemmas.{user_added}
use Rattle.hs_flow.proofs.users.Users.add.Goals as goal

pub returns-in_ok-push-clause-added : goal.returns-in_ok-push-clause-added
returns-in_ok-push-clause-added c =
    user_added c.args.self.now.params c.args.self.now.lists c.push.new.self c.in-Some.number c.args.rule c.args.param c.args.point c.requires.param c.in-Some.ensures.number.1 c.in_ok-push.ensures.pushed.each
