-- What weakly follows from entries weakly follows from others that have those which matter at its point.
use Rattle.std.proofs.Common.{subst, sym, ℕ, List, [], ◌∷◌, Contains, inl, inr}
use Rattle.hs_scheme.specs.declared.term.Head.{Head}
use Rattle.hs_scheme.specs.declared.term.Head.TheVariants.{Var, Nt, Tm}
use Rattle.hs_scheme.specs.Problem.{ProblemData}
use Rattle.hs_scheme.proofs.Lists.{Contains-at, here, later}
use Rattle.hs_table.specs.declared.support.HeadBy.{HeadBy}
use Rattle.hs_table.specs.declared.support.HeadBy.TheVariants.{Terminal, Rule, Param}
use Rattle.hs_table.specs.Types.{TypeTree, arrows}
use Rattle.hs_table.specs.Entries.{Env, EntryData}
use Rattle.hs_table.specs.Follows.{IsAt, IsHeadType, Support}
use Rattle.hs_table_laws.proofs.Places.{place_of}
use Rattle.hs_weak.specs.Strength.{AsStrongAs}
use Rattle.hs_weak.specs.Weak.{WeaklyChosen, done, next_argument, choose, WeaklyFollowsBy, WeaklyFollows}
use Rattle.hs_minimal.specs.Following.{IsHeadSource, IsSource}

module _ (p : ProblemData) (E F : List EntryData) where
  record Found (e : EntryData) : Type 0 where
    place : ℕ
    at : IsAt p F place e

  found : (place : ℕ) (e : EntryData) → IsAt p E place e → (Contains E e → Contains F e) → Found e
  found place e h there = let r = place_of F e (there (Contains-at E place e h.at)) in record { place = r.0; at = record { at = r.1; shape = h.shape } }

  head_found : (rule : ℕ) (h : Head) → ((d : EntryData) → IsHeadSource p rule h d.point → Contains E d → Contains F d) → (by : HeadBy) (ty : TypeTree) → IsHeadType p E rule h by ty → (b : HeadBy) × IsHeadType p F rule h b ty
  head_found rule (Tm a) all (Terminal q child) ty x = (Terminal q child, x)
  head_found rule (Tm a) all (Rule place) ty x = absurd x
  head_found rule (Tm a) all (Param y place) ty x = absurd x
  head_found rule (Nt f) all (Terminal q child) ty x = absurd x
  head_found rule (Nt f) all (Rule place) ty x =
      let r = found place x.entry x.holds (all x.entry x.body) in
      (Rule r.place, record { entry = x.entry; q = x.q; holds = r.at; body = x.body; is_state = x.is_state; is = x.is })
  head_found rule (Nt f) all (Param y place) ty x = absurd x
  head_found rule (Var j) all (Terminal q child) ty x = absurd x
  head_found rule (Var j) all (Rule place) ty x = absurd x
  head_found rule (Var j) all (Param y place) ty x =
      let r = found place x.1.entry x.1.holds (all x.1.entry x.1.flows) in
      (Param y r.place, (x.0, record { entry = x.1.entry; holds = r.at; flows = x.1.flows; is = x.1.is }))

  chosen_found : {i : ℕ} {us : List ℕ} {ss : Env} {args : List (ℕ × ℕ)} {es : List EntryData} → ((d : EntryData) → Contains us d.point → Contains E d → Contains F d) → WeaklyChosen AsStrongAs p E i us ss args es
      → (bs : List (ℕ × ℕ)) × WeaklyChosen AsStrongAs p F i us ss bs es
  chosen_found all done = ([], done)
  chosen_found all (next_argument {u = u} {us = us} h) = let r = chosen_found (λ d m. all d (later u d.point us m)) h in (r.0, next_argument r.1)
  chosen_found all (choose {i = i} {u = u} {place = place} {us = us} {e = e} at point ty h) =
      let r = chosen_found all h in
      let x = found place e at (all e (subst (λ k. Contains (u ∷ us) k) (sym point) (here u us))) in
      ((i, x.place) ∷ r.0, choose x.at point ty r.1)

  pub weakly_elsewhere : (s : Support) (e : EntryData) (h : WeaklyFollowsBy AsStrongAs p E s e) → ((d : EntryData) → IsSource p h.of d.point → Contains E d → Contains F d) → WeaklyFollows AsStrongAs p F e
  weakly_elsewhere s e h all =
      let head = head_found h.of.rule h.of.head (λ d m. all d (inl m)) s.head (arrows h.sets e.ty) h.head in
      let are = chosen_found (λ d m. all d (inr m)) h.are in
      (record { head = head.0; args = are.0 }, record { of = h.of; at = h.at; sets = h.sets; head = head.1; chosen = h.chosen; are = are.1; env = h.env; union = h.union })

  pub weakly_more : ((d : EntryData) → Contains E d → Contains F d) → (e : EntryData) → WeaklyFollows AsStrongAs p E e → WeaklyFollows AsStrongAs p F e
  weakly_more all e (s, h) = weakly_elsewhere s e h (λ d m there. all d there)
