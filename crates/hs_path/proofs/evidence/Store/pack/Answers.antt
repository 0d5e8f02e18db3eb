use Rattle.std.proofs.Common.{sym, ◌∙◌, ap, slice_get}
use Rattle.hs_scheme.proofs.Lists.{got_some, got_none}
use Rattle.hs_path.proofs.StoredLemmas.{pack_got, pack_missed}
use Rattle.hs_path.proofs.evidence.Store.pack.Goals as goal

pub returns-in-Some : goal.returns-in-Some
returns-in-Some c = λ bound below p h.
    pack_got bound c.args.self.now below c.args.number p c.in-Some.pack.now h (ap (λ xs. slice_get xs c.args.number) (sym c.deref.ensures.value)
    ∙ got_some c.deref.result.now c.args.number c.in-Some.pack.now c.in-Some.ensures.lookup.0 c.in-Some.ensures.lookup.1)

pub returns-in-None : goal.returns-in-None
returns-in-None c = λ bound below p h.
    absurd (pack_missed bound c.args.self.now below c.args.number p h (ap (λ xs. slice_get xs c.args.number) (sym c.deref.ensures.value)
    ∙ got_none c.deref.result.now c.args.number c.in-None.ensures.lookup.0))
