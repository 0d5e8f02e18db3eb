-- Items in lists by number, one more of them.
use Rattle.std.proofs.Common.{◌≡◌, subst, ℕ, ◌+◌, ◌<◌, ◌≤◌, List, [], length, sum, get_or, take, Contains}
use Rattle.hs_scheme.specs.declared.term.Head.TheVariants.{Var}
use Rattle.hs_scheme.specs.declared.flow.FlowPair.{FlowPair}
use Rattle.hs_scheme.specs.sorting.Parameters.{IsParameter, parameter_of}
use Rattle.hs_scheme.specs.Problem.{ProblemData}
use Rattle.hs_scheme.proofs.Lists.{none_in}
use Rattle.hs_weak.specs.Reads.{PointIs}
use Rattle.hs_reads.specs.declared.becoming.Becoming.{Becoming}
use Rattle.hs_reads.specs.Lists.{list_of}
use Rattle.hs_reads.specs.Becomings.{IsTold, IsByHead, IsByParameter, AreHeaded, AreApart}
use Rattle.hs_reads.proofs.GrowLemmas.{one_more, taken_all}

none_headed : (p : ProblemData) (lists : List (List FlowPair)) → ((k : ℕ) → list_of lists k ≡ []) → AreHeaded p lists
none_headed p lists none k f m = absurd (none_in f (subst (λ (fs : List FlowPair). Contains fs f) (none k) m))

module _ (p : ProblemData) (flows : List FlowPair) where
  pub by_head_none : (lists : List (List FlowPair)) → length lists ≡ sum p.points.params → ((k : ℕ) → list_of lists k ≡ []) → IsByHead p (take 0 flows) lists
  by_head_none lists len none = record {
    len = len;
    has = λ f rule x args m at. absurd (none_in f m);
    only = none_headed p lists none;
  }

  pub by_head_more : (k : ℕ) (f : FlowPair) (old new : List (List FlowPair)) → k < length flows → f ≡ get_or flows k f → IsByHead p (take k flows) old → length new ≡ sum p.points.params
      → ((i : ℕ) (g : FlowPair) → Contains (list_of old i) g → Contains (list_of new i) g)
      → ((rule x : ℕ) (args : List ℕ) → PointIs p f.point rule (Var x) args → IsParameter p.points.params rule x × IsTold p (list_of new (parameter_of p.points.params rule x)) f)
      → AreHeaded p new
      → IsByHead p (take (k + 1) flows) new
  by_head_more k f old new lt is so_far len kept there only = record {
    len = len;
    has = λ g rule x args m at.
        one_more (λ (g : FlowPair). (rule x : ℕ) (args : List ℕ) → PointIs p g.point rule (Var x) args → IsParameter p.points.params rule x × IsTold p (list_of new (parameter_of p.points.params rule x)) g) flows k f lt is
        (λ h n r y us e. let was = so_far.has h r y us n e in (was.0, (was.1.0, (kept (parameter_of p.points.params r y) was.1.0 was.1.1.0, was.1.1.1)))) there g m rule x args at;
    only = only;
  }

  pub by_head_all : (k : ℕ) (lists : List (List FlowPair)) → length flows ≤ k → IsByHead p (take k flows) lists → IsByHead p flows lists
  by_head_all k lists le is = record { len = is.len; has = λ f rule x args m at. is.has f rule x args (taken_all flows k f le m) at; only = is.only }

module _ (params : List ℕ) (found : List Becoming) where
  pub by_parameter_none : (lists : List (List Becoming)) → length lists ≡ sum params → IsByParameter params (take 0 found) lists
  by_parameter_none lists len = record { len = len; has = λ b m is. absurd (none_in b m) }

  pub by_parameter_more : (k : ℕ) (b : Becoming) (old new : List (List Becoming)) → k < length found → b ≡ get_or found k b → IsByParameter params (take k found) old → length new ≡ sum params
      → ((i : ℕ) (c : Becoming) → Contains (list_of old i) c → Contains (list_of new i) c) → (IsParameter params b.rule b.param → Contains (list_of new (parameter_of params b.rule b.param)) b)
      → IsByParameter params (take (k + 1) found) new
  by_parameter_more k b old new lt is so_far len kept there = record {
    len = len;
    has = one_more (λ (c : Becoming). IsParameter params c.rule c.param → Contains (list_of new (parameter_of params c.rule c.param)) c) found k b lt is
        (λ c m own. kept (parameter_of params c.rule c.param) c (so_far.has c m own)) there;
  }

  pub by_parameter_all : (k : ℕ) (lists : List (List Becoming)) → length found ≤ k → IsByParameter params (take k found) lists → IsByParameter params found lists
  by_parameter_all k lists le is = record { len = is.len; has = λ b m own. is.has b (taken_all found k b le m) own }

  pub none_apart : (lists : List (List Becoming)) → ((k : ℕ) → list_of lists k ≡ []) → AreApart params found lists
  none_apart lists none k b m = absurd (none_in b (subst (λ (bs : List Becoming). Contains bs b) (none k) m))
