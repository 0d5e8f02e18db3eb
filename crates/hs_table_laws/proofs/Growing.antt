-- What follows from a list follows from one with more entries.
use Rattle.std.proofs.Common.{◌≡◌, ℕ, ◌≤◌, List, [], ◌∷◌, ◌++◌, take, slice_get, Some, arith, Contains}
use Rattle.hs_scheme.specs.declared.term.Head.{Head}
use Rattle.hs_scheme.specs.declared.term.Head.TheVariants.{Var, Nt, Tm}
use Rattle.hs_scheme.specs.Problem.{ProblemData}
use Rattle.hs_scheme.proofs.Lists.{at_append, Contains-at}
use Rattle.hs_table.specs.declared.support.HeadBy.{HeadBy}
use Rattle.hs_table.specs.declared.support.HeadBy.TheVariants.{Terminal, Rule, Param}
use Rattle.hs_table.specs.Types.{TypeTree, arrows}
use Rattle.hs_table.specs.Entries.{Env, EntryData}
use Rattle.hs_table.specs.Follows.{IsAt, IsHeadType, Chosen, done, next_argument, choose, Support, FollowsBy, Follows}
use Rattle.hs_table_laws.proofs.Places.{place_of, at_take, to_take}

-- places keep their meaning
module _ (p : ProblemData) (E F : List EntryData) (keeps : (i : ℕ) (e : EntryData) → slice_get E i ≡ Some e → slice_get F i ≡ Some e) where
  at_kept : (place : ℕ) (e : EntryData) → IsAt p E place e → IsAt p F place e
  at_kept place e h = record { at = keeps place e h.at; shape = h.shape }

  head_kept : (rule : ℕ) (h : Head) (by : HeadBy) (ty : TypeTree) → IsHeadType p E rule h by ty → IsHeadType p F rule h by ty
  head_kept rule (Tm a) (Terminal q child) ty x = x
  head_kept rule (Tm a) (Rule place) ty x = absurd x
  head_kept rule (Tm a) (Param y place) ty x = absurd x
  head_kept rule (Nt f) (Terminal q child) ty x = absurd x
  head_kept rule (Nt f) (Rule place) ty x = record { entry = x.entry; q = x.q; holds = at_kept place x.entry x.holds; body = x.body; is_state = x.is_state; is = x.is }
  head_kept rule (Nt f) (Param y place) ty x = absurd x
  head_kept rule (Var j) (Terminal q child) ty x = absurd x
  head_kept rule (Var j) (Rule place) ty x = absurd x
  head_kept rule (Var j) (Param y place) ty x = (x.0, record { entry = x.1.entry; holds = at_kept place x.1.entry x.1.holds; flows = x.1.flows; is = x.1.is })

  chosen_kept : {i : ℕ} {us : List ℕ} {ss : Env} {args : List (ℕ × ℕ)} {es : List EntryData} → Chosen p E i us ss args es → Chosen p F i us ss args es
  chosen_kept done = done
  chosen_kept (next_argument h) = next_argument (chosen_kept h)
  chosen_kept (choose {place = place} {e = e} at point ty h) = choose (at_kept place e at) point ty (chosen_kept h)

  pub by_kept : (s : Support) (e : EntryData) → FollowsBy p E s e → FollowsBy p F s e
  by_kept s e h = record {
    of = h.of;
    at = h.at;
    sets = h.sets;
    head = head_kept h.of.rule h.of.head s.head (arrows h.sets e.ty) h.head;
    chosen = h.chosen;
    are = chosen_kept h.are;
    env = h.env;
    union = h.union;
  }

pub by_append : (p : ProblemData) (E F : List EntryData) (s : Support) (e : EntryData) → FollowsBy p E s e → FollowsBy p (E ++ F) s e
by_append p E F = by_kept p E (E ++ F) (λ i x h. at_append E F i x h)

pub by_take : (p : ProblemData) (E : List EntryData) (m n : ℕ) (s : Support) (e : EntryData) → m ≤ n → FollowsBy p (take m E) s e → FollowsBy p (take n E) s e
by_take p E m n s e le = by_kept p (take m E) (take n E) (λ i x h. let r = at_take m E i x h in to_take n E i x (omega (arith, r.0)) r.1) s e

-- entries are elsewhere
module _ (p : ProblemData) (E F : List EntryData) (all : (e : EntryData) → Contains E e → Contains F e) where
  pub record Elsewhere (e : EntryData) : Type 0 where
    pub place : ℕ
    pub at : IsAt p F place e

  found : (place : ℕ) (e : EntryData) → IsAt p E place e → Elsewhere e
  found place e h = let r = place_of F e (all e (Contains-at E place e h.at)) in record { place = r.0; at = record { at = r.1; shape = h.shape } }

  head_found : (rule : ℕ) (h : Head) (by : HeadBy) (ty : TypeTree) → IsHeadType p E rule h by ty → (b : HeadBy) × IsHeadType p F rule h b ty
  head_found rule (Tm a) (Terminal q child) ty x = (Terminal q child, x)
  head_found rule (Tm a) (Rule place) ty x = absurd x
  head_found rule (Tm a) (Param y place) ty x = absurd x
  head_found rule (Nt f) (Terminal q child) ty x = absurd x
  head_found rule (Nt f) (Rule place) ty x = let r = found place x.entry x.holds in (Rule r.place, record { entry = x.entry; q = x.q; holds = r.at; body = x.body; is_state = x.is_state; is = x.is })
  head_found rule (Nt f) (Param y place) ty x = absurd x
  head_found rule (Var j) (Terminal q child) ty x = absurd x
  head_found rule (Var j) (Rule place) ty x = absurd x
  head_found rule (Var j) (Param y place) ty x = let r = found place x.1.entry x.1.holds in (Param y r.place, (x.0, record { entry = x.1.entry; holds = r.at; flows = x.1.flows; is = x.1.is }))

  chosen_found : {i : ℕ} {us : List ℕ} {ss : Env} {args : List (ℕ × ℕ)} {es : List EntryData} → Chosen p E i us ss args es → (bs : List (ℕ × ℕ)) × Chosen p F i us ss bs es
  chosen_found done = ([], done)
  chosen_found (next_argument h) = let r = chosen_found h in (r.0, next_argument r.1)
  chosen_found (choose {i = i} {place = place} {e = e} at point ty h) = let r = chosen_found h in let x = found place e at in ((i, x.place) ∷ r.0, choose x.at point ty r.1)

  pub follows_found : (e : EntryData) → Follows p E e → Follows p F e
  follows_found e (s, h) =
      let head = head_found h.of.rule h.of.head s.head (arrows h.sets e.ty) h.head in
      let are = chosen_found h.are in
      (record { head = head.0; args = are.0 }, record { of = h.of; at = h.at; sets = h.sets; head = head.1; chosen = h.chosen; are = are.1; env = h.env; union = h.union })
