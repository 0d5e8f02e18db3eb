-- What a certificate of acceptance says holds of all lists with the same entries, environments and pairs.
use Rattle.std.proofs.Common.{ℕ, List, [], ◌∷◌, Contains, inl, inr, ◌↔◌}
use Rattle.hs_scheme.specs.declared.term.Head.{Head}
use Rattle.hs_scheme.specs.declared.term.Head.TheVariants.{Var, Nt, Tm}
use Rattle.hs_scheme.specs.Problem.{ProblemData}
use Rattle.hs_scheme.proofs.Lists.{Contains-at}
use Rattle.hs_table.specs.declared.support.HeadBy.{HeadBy}
use Rattle.hs_table.specs.declared.support.HeadBy.TheVariants.{Terminal, Rule, Param}
use Rattle.hs_table.specs.Types.{TypeTree, arrows}
use Rattle.hs_table.specs.Entries.{Env, EntryData}
use Rattle.hs_table.specs.Follows.{IsAt, IsHeadType}
use Rattle.hs_table_laws.proofs.Places.{place_of}
use Rattle.hs_weak.specs.Strength.{AsStrongAs}
use Rattle.hs_weak.specs.Weak.{WeaklyChosen, done, next_argument, choose, WeaklyFollows, IsCoveredIn}
use Rattle.hs_weak.specs.Sites.{SiteData}
use Rattle.hs_weak.specs.Reads.{last_state}
use Rattle.hs_weak.specs.Void.{VoidData, HasEntry, IsMissed, IsVoid, IsBlocked, IsVoidPair, IsVoidList}
use Rattle.hs_weak.specs.Certificate.{IsVoidEntry, IsAcceptanceCertificate}
use Rattle.hs_reads.proofs.ReadLemmas.{read_more}

-- each entry of the one list is in the other
module _ (p : ProblemData) (C D : List EntryData) (all : (e : EntryData) → Contains C e → Contains D e) where
  record Moved (e : EntryData) : Type 0 where
    place : ℕ
    at : IsAt p D place e

  moved : (place : ℕ) (e : EntryData) → IsAt p C place e → Moved e
  moved place e h = let r = place_of D e (all e (Contains-at C place e h.at)) in record { place = r.0; at = record { at = r.1; shape = h.shape } }

  head_moved : (rule : ℕ) (h : Head) (by : HeadBy) (ty : TypeTree) → IsHeadType p C rule h by ty → (b : HeadBy) × IsHeadType p D rule h b ty
  head_moved rule (Tm a) (Terminal q child) ty x = (Terminal q child, x)
  head_moved rule (Tm a) (Rule place) ty x = absurd x
  head_moved rule (Tm a) (Param y place) ty x = absurd x
  head_moved rule (Nt f) (Terminal q child) ty x = absurd x
  head_moved rule (Nt f) (Rule place) ty x = let r = moved place x.entry x.holds in (Rule r.place, record { entry = x.entry; q = x.q; holds = r.at; body = x.body; is_state = x.is_state; is = x.is })
  head_moved rule (Nt f) (Param y place) ty x = absurd x
  head_moved rule (Var j) (Terminal q child) ty x = absurd x
  head_moved rule (Var j) (Rule place) ty x = absurd x
  head_moved rule (Var j) (Param y place) ty x = let r = moved place x.1.entry x.1.holds in (Param y r.place, (x.0, record { entry = x.1.entry; holds = r.at; flows = x.1.flows; is = x.1.is }))

  chosen_moved : {i : ℕ} {us : List ℕ} {ss : Env} {args : List (ℕ × ℕ)} {es : List EntryData} → WeaklyChosen AsStrongAs p C i us ss args es → (bs : List (ℕ × ℕ)) × WeaklyChosen AsStrongAs p D i us ss bs es
  chosen_moved done = ([], done)
  chosen_moved (next_argument h) = let r = chosen_moved h in (r.0, next_argument r.1)
  chosen_moved (choose {i = i} {place = place} {e = e} at point ty h) = let r = chosen_moved h in let x = moved place e at in ((i, x.place) ∷ r.0, choose x.at point ty r.1)

  follows_moved : (e : EntryData) → WeaklyFollows AsStrongAs p C e → WeaklyFollows AsStrongAs p D e
  follows_moved e (s, h) =
      let head = head_moved h.of.rule h.of.head s.head (arrows h.sets e.ty) h.head in
      let are = chosen_moved h.are in
      (record { head = head.0; args = are.0 }, record { of = h.of; at = h.at; sets = h.sets; head = head.1; chosen = h.chosen; are = are.1; env = h.env; union = h.union })

  covered_moved : (e : EntryData) → IsCoveredIn AsStrongAs p C e → IsCoveredIn AsStrongAs p D e
  covered_moved e h = let r = moved h.0 h.1 h.2.0 in (r.place, h.1, (r.at, h.2.1))

  entry_moved : (u : ℕ) (t : TypeTree) → HasEntry p C u t → HasEntry p D u t
  entry_moved u t h = let r = moved h.0 h.1 h.2.0 in (r.place, h.1, (r.at, h.2.1, h.2.2))

-- and the other way round
module _ (p : ProblemData) (C D : List EntryData) (V W : List VoidData) (all : (e : EntryData) → Contains C e → Contains D e) (back : (e : EntryData) → Contains D e → Contains C e)
    (pairs : (v : VoidData) → Contains V v → Contains W v) where
  missed_moved : (G : ℕ) (E : Env) → IsMissed p C G E → IsMissed p D G E
  missed_moved G E h sites chain =
      let r = h sites chain in
      (r.0, (r.1.0, record { j = r.1.1.j; u = r.1.1.u; t = r.1.1.t; gives = r.1.1.gives; asked = r.1.1.asked; lacks = λ has. r.1.1.lacks (entry_moved p D C back r.1.1.u r.1.1.t has) }))

  void_moved : (G : ℕ) (E : Env) → IsVoid p C V G E → IsVoid p D W G E
  void_moved G E (inl h) = inl (h.0, (pairs h.0 h.1.0, h.1.1, h.1.2))
  void_moved G E (inr h) = inr (missed_moved G E h)

  blocked_moved : (s : SiteData) (B : Env) → IsBlocked p C V s B → IsBlocked p D W s B
  blocked_moved s B h of at places chosen are env union =
      let r = chosen_moved p D C back are in void_moved of.rule env (h of at r.0 chosen r.1 env union)

  pair_moved : (v : VoidData) → IsVoidPair p C V v → IsVoidPair p D W v
  pair_moved v h = (h.0, λ sites chain. let r = h.1 sites chain in (r.0, (r.1.0, blocked_moved r.0 v.env r.1.1)))

  list_moved : ((v : VoidData) → Contains W v → Contains V v) → IsVoidList p C V → IsVoidList p D W
  list_moved other h v m = pair_moved v (h v (other v m))

  void_entry_moved : (e : EntryData) → IsVoidEntry p C V e → IsVoidEntry p D W e
  void_entry_moved e h = (h.0, (h.1.0, void_moved h.0.rule e.env h.1.1))

pub certificate_same : (p : ProblemData) (C D : List EntryData) (V W : List VoidData) (R S : List (ℕ × ℕ)) → ((e : EntryData) → Contains D e ↔ Contains C e) → ((v : VoidData) → Contains W v ↔ Contains V v)
    → ((x : ℕ × ℕ) → Contains S x ↔ Contains R x) → IsAcceptanceCertificate p C V R → IsAcceptanceCertificate p D W S
certificate_same p C D V W R S entries pairs reads h = record {
  reads = λ point q r. (reads (point, q)).1 (h.reads point q (read_more p S R (λ x m. (reads x).0 m) point q r));
  void = list_moved p C D V W all back there (λ v m. (pairs v).0 m) h.void;
  no_start = λ start. h.no_start (start.0, (start.1.0, back start.0 start.1.1));
  covered = λ e follows matters. elim (h.covered e (follows_moved p D C back e follows) ((reads (e.point, last_state e.ty)).0 matters)) [
    | inl covered ↦ inl (covered_moved p C D all e covered)
    | inr void ↦ inr (void_entry_moved p C D V W all back there e void)
  ];
}
  where
    all : (e : EntryData) → Contains C e → Contains D e
    all e m = (entries e).1 m

    back : (e : EntryData) → Contains D e → Contains C e
    back e m = (entries e).0 m

    there : (v : VoidData) → Contains V v → Contains W v
    there v m = (pairs v).1 m
