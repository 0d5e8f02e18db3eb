use Rattle.std.proofs.Common.{arith, ◌≡◌}
use Rattle.hs_flow.specs.Pairs.{PairsData}
use Rattle.hs_flow.proofs.SupportLemmas.{pushed_are, kept_finds, pushed_finds, pushed_there}
use Rattle.hs_flow.proofs.pairs.Pairs.add.Goals as goal

pub invariant_of-self-then-len-self : goal.invariant_of-self-then-len-self
invariant_of-self-then-len-self c =
    let a : PairsData = record { rules = c.self.inside.rules.now; max = c.self.inside.max; found = c.self.inside.found.items; bases = c.self.inside.bases } in
    pushed_are c.self.inside.points.now c.self.inside.users.now a c.args.self.now c.args.pair c.push.new.self.items c.self.view_is c.self.invariant c.requires c.in_ok-push.ensures.items

pub returns-then-len-self-clause-limit : goal.returns-then-len-self-clause-limit
returns-then-len-self-clause-limit c =
    let a : PairsData = record { rules = c.self.inside.rules.now; max = c.self.inside.max; found = c.self.inside.found.items; bases = c.self.inside.bases } in
    record {
      within = tt;
      over = λ e. ((pushed_are c.self.inside.points.now c.self.inside.users.now a c.args.self.now c.args.pair c.push.new.self.items c.self.view_is c.self.invariant c.requires c.in_ok-push.ensures.items).supported, omega arith);
    }

pub invariant_of-self-2 : goal.invariant_of-self-2
invariant_of-self-2 c =
    let a : PairsData = record { rules = c.self.inside.rules.now; max = c.self.inside.max; found = c.self.inside.found.items; bases = c.self.inside.bases } in
    pushed_are c.self.inside.points.now c.self.inside.users.now a c.args.self.now c.args.pair c.push.new.self.items c.self.view_is c.self.invariant c.requires c.in_ok-push.ensures.items

pub returns-in_err-push-clause-finds : goal.returns-in_err-push-clause-finds
returns-in_err-push-clause-finds c =
    let a : PairsData = record { rules = c.self.inside.rules.now; max = c.self.inside.max; found = c.self.inside.found.items; bases = c.self.inside.bases } in
    kept_finds (λ q. q ≡ c.args.pair) a c.args.self.now c.push.new.self.items c.self.view_is c.in_err-push.ensures.items

pub returns-then-len-self-clause-finds : goal.returns-then-len-self-clause-finds
returns-then-len-self-clause-finds c =
    let a : PairsData = record { rules = c.self.inside.rules.now; max = c.self.inside.max; found = c.self.inside.found.items; bases = c.self.inside.bases } in
    pushed_finds c.self.inside.points.now c.self.inside.users.now a c.args.self.now c.args.pair c.push.new.self.items c.self.view_is c.self.invariant c.requires c.in_ok-push.ensures.items

pub returns-clause-finds : goal.returns-clause-finds
returns-clause-finds c =
    let a : PairsData = record { rules = c.self.inside.rules.now; max = c.self.inside.max; found = c.self.inside.found.items; bases = c.self.inside.bases } in
    pushed_finds c.self.inside.points.now c.self.inside.users.now a c.args.self.now c.args.pair c.push.new.self.items c.self.view_is c.self.invariant c.requires c.in_ok-push.ensures.items

pub returns-clause-there : goal.returns-clause-there
returns-clause-there c =
    let a : PairsData = record { rules = c.self.inside.rules.now; max = c.self.inside.max; found = c.self.inside.found.items; bases = c.self.inside.bases } in
    pushed_there c.self.inside.points.now c.self.inside.users.now a c.args.self.now c.args.pair c.push.new.self.items c.self.view_is c.self.invariant c.requires c.in_ok-push.ensures.items

pub returns-clause-limit : goal.returns-clause-limit
returns-clause-limit c = record { within = omega arith; over = λ e. absurd (cc) }
