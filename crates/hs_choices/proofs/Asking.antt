-- What asks more than a void environment is void.
use Rattle.std.proofs.Common.{ℕ, List, inl, inr}
use Rattle.hs_scheme.specs.Problem.{ProblemData}
use Rattle.hs_table.specs.Types.{TypeTree}
use Rattle.hs_table.specs.Entries.{Env, EntryData}
use Rattle.hs_weak.specs.Strength.{AsStrongAs, AsksAtLeast}
use Rattle.hs_weak.specs.Sites.{SiteData}
use Rattle.hs_weak.specs.Void.{VoidData, HasEntry, Misses, IsVoid}
use Rattle.hs_weak.proofs.Strength.{strong_trans, env_trans}

weaker_has : (p : ProblemData) (C : List EntryData) (u : ℕ) (b t : TypeTree) → AsStrongAs b t → HasEntry p C u b → HasEntry p C u t
weaker_has p C u b t strong h = (h.0, h.1, (h.2.0, h.2.1, strong_trans h.1.ty b t h.2.2 strong))

misses_more : (p : ProblemData) (C : List EntryData) (s : SiteData) (E B : Env) → AsksAtLeast AsStrongAs E B → Misses p C s B → Misses p C s E
misses_more p C s E B asks m =
    let b = asks m.j m.t m.asked in
    record { j = m.j; u = m.u; t = b.0; gives = m.gives; asked = b.1.0; lacks = λ h. m.lacks (weaker_has p C m.u b.0 m.t b.1.1 h) }

pub void_more : (p : ProblemData) (C : List EntryData) (V : List VoidData) (G : ℕ) (E B : Env) → AsksAtLeast AsStrongAs E B → IsVoid p C V G B → IsVoid p C V G E
void_more p C V G E B asks (inl v) = inl (v.0, (v.1.0, v.1.1, env_trans E B v.0.env asks v.1.2))
void_more p C V G E B asks (inr missed) = inr (λ sites chain. let s = missed sites chain in (s.0, (s.1.0, misses_more p C s.0 E B asks s.1.1)))
