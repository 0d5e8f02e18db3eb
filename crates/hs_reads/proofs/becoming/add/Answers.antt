use Rattle.std.proofs.Common.{sym, subst, List, Contains, inl, arith}
use Rattle.hs_reads.specs.contracts.becoming.BecomingPartialEq.TheImpl.{eq-value}
use Rattle.hs_reads.specs.Becomings.{AnyBecoming, AreShort}
use Rattle.hs_reads.proofs.Equalities.{becoming_there, inserted_only, becomings_short, too_many_becomings}
use Rattle.hs_reads.proofs.becoming.add.Goals as goal

pub returns-in_err-insert-clause-only : goal.returns-in_err-insert-clause-only
returns-in_err-insert-clause-only c = λ b m. inl (subst (λ (bs : List AnyBecoming). Contains bs b) c.in_err-insert.ensures.err m)

pub returns-in_err-insert-clause-short : goal.returns-in_err-insert-clause-short
returns-in_err-insert-clause-short c = λ _ so_far. subst (λ (bs : List AnyBecoming). AreShort bs) (sym c.in_err-insert.ensures.err) so_far

pub returns-then-len-gt-MOST-clause-only : goal.returns-then-len-gt-MOST-clause-only
returns-then-len-gt-MOST-clause-only c = inserted_only eq-value.it c.args.found.now.keys c.insert.new.self.keys c.args.becoming c.in_ok-insert.ensures.keys

pub returns-then-len-gt-MOST-clause-short : goal.returns-then-len-gt-MOST-clause-short
returns-then-len-gt-MOST-clause-short c = becomings_short c.args.found.now.keys c.insert.new.self.keys c.args.becoming c.in_ok-insert.ensures.keys

pub returns-then-len-gt-MOST-clause-limit : goal.returns-then-len-gt-MOST-clause-limit
returns-then-len-gt-MOST-clause-limit c = λ _. too_many_becomings c.insert.new.self.keys c.insert.ensures.unique (omega arith)

pub returns-clause-there : goal.returns-clause-there
returns-clause-there c = becoming_there c.args.found.now.keys c.insert.new.self.keys c.args.becoming c.in_ok-insert.ensures.keys

pub returns-clause-only : goal.returns-clause-only
returns-clause-only c = inserted_only eq-value.it c.args.found.now.keys c.insert.new.self.keys c.args.becoming c.in_ok-insert.ensures.keys

pub returns-clause-short : goal.returns-clause-short
returns-clause-short c = becomings_short c.args.found.now.keys c.insert.new.self.keys c.args.becoming c.in_ok-insert.ensures.keys
