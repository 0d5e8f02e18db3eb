use Rattle.std.proofs.Common.{◌≡◌, refl, sym, ◌∙◌, ap, subst, false, true, IsTrue, ◌↔◌}
use Rattle.std.proofs.lemmas.Result.{IfOk-weaker}
use Rattle.hs_types.specs.Interned.{InternerData, env_of_id}
use Rattle.hs_sites.specs.Walks.{EachChainHas}
use Rattle.hs_void.specs.Rows.{MissesByRows}
use Rattle.hs_void.specs.Voids.{BasisData, VoidsData, Remembers}
use Rattle.hs_void.proofs.Remembering.{fits_later}
use Rattle.hs_void.proofs.ByRows.{AsksVoid, void_asked, void_told}
use Rattle.hs_void.proofs.voids.Voids.is_void_by_rows.Goals as goal

pub is_missed-requires-clause-memo : goal.is_missed-requires-clause-memo
is_missed-requires-clause-memo c =
    subst (λ (I : InternerData). Remembers I c.self.inside.basis c.self.inside.memo) (sym c.asks_void.ensures.same)
    (subst (λ (v : VoidsData). Remembers c.args.types.now v.basis v.memo) (sym c.self.view_is) c.requires.fits.memo)

pub returns-then-branch-clause-ok : goal.returns-then-branch-clause-ok
returns-then-branch-clause-ok c = λ C V are.
    let I = c.args.types.now in
    let b = c.args.self.now.basis in
    let E = env_of_id I c.args.env in
    let asked = subst (λ (k : BasisData). AsksVoid k I c.args.rule E) (ap (λ (v : VoidsData). v.basis) c.self.view_is) (c.in_ok-asks_void.ensures.ok.0 c.if-branch.true) in
    (λ yes. void_asked b C V I are c.args.rule E asked, λ void. refl)

pub returns-clause-ok : goal.returns-clause-ok
returns-clause-ok c =
    let I = c.args.types.now in
    let J = c.asks_void.new.types in
    let a = c.self.inside.basis in
    let b = c.args.self.now.basis in
    let E = env_of_id I c.args.env in
    let same = ap (λ (v : VoidsData). v.basis) c.self.view_is in
    let none : AsksVoid b I c.args.rule E → ⊥ = λ asked.
    let f : false ≡ true = sym c.if-branch.false ∙ c.in_ok-asks_void.ensures.ok.1 (subst (λ (k : BasisData). AsksVoid k I c.args.rule E) (sym same) asked) in cc in
    IfOk-weaker c.is_missed.result (λ missed. IsTrue missed ↔ EachChainHas a.problem c.args.rule (MissesByRows a.problem J a.table (env_of_id J c.args.env))) _
    (λ missed tells C V are.
    let at_types = subst (λ (K : InternerData). IsTrue missed ↔ EachChainHas a.problem c.args.rule (MissesByRows a.problem K a.table (env_of_id K c.args.env))) c.asks_void.ensures.same tells in
    let at_basis = subst (λ (k : BasisData). IsTrue missed ↔ EachChainHas k.problem c.args.rule (MissesByRows k.problem I k.table E)) same at_types in
    void_told b C V I are c.args.rule E none missed at_basis)
    c.is_missed.ensures.ok

pub returns-clause-fits : goal.returns-clause-fits
returns-clause-fits c =
    fits_later c.args.types.now c.asks_void.new.types c.is_missed.new.types c.asks_void.ensures.same c.is_missed.ensures.same c.args.self.now c.self.inside.basis c.self.inside.memo c.is_missed.new.memo c.self.inside.answers c.self.view_is c.requires.fits c.is_missed.ensures.memo
