-- The points of terms and of rules, one more at the end.
use Rattle.std.proofs.Common.{◌≡◌, refl, sym, ◌∙◌, ap, subst, ℕ, zero, suc, ◌+◌, ◌<◌, ◌≤◌, List, [], ◌∷◌, ◌++◌, length, get_or, set, take, slice_index, append_assoc, add_assoc, length-append, All, arith}
use Rattle.std.proofs.lemmas.List.{take_more, set_at, get_or_at, append-nil, length-take-le, length-map}
use Rattle.std.proofs.lemmas.List.Elements.{All-cons, All-append, All-tail}
use Rattle.hs_scheme.specs.declared.term.Head.{Head}
use Rattle.hs_scheme.specs.declared.term.Head.TheVariants.{Var, Nt, Tm}
use Rattle.hs_scheme.specs.declared.term.Rule.{Rule}
use Rattle.hs_scheme.specs.Tree.{Tree, Trees, node, none, more, forest}
use Rattle.hs_scheme.specs.flow.Points.{PointData, size, sizes, numbers, term_points, terms_points, rules_points, bodies, points_of, NonterminalWithin, ParameterWithin, IsArgument, IsPoints}
use Rattle.hs_scheme.specs.sorting.Parameters.{counts_of}
use Rattle.hs_scheme.specs.Scheme.{HeadInRange, TermInRange, TermsInRange, AreRules}

mutual
  pub length-term_points : (rule n : ℕ) (t : Tree Head) → length (term_points rule n t) ≡ size t
  length-term_points rule n (node h ts) = omega (arith, length-terms_points rule (n + 1) ts)

  pub length-terms_points : (rule n : ℕ) (ts : Trees Head) → length (terms_points rule n ts) ≡ sizes ts
  length-terms_points rule n none = refl
  length-terms_points rule n (more t ts) =
      length-append (term_points rule n t) (terms_points rule (n + size t) ts) ∙ omega (arith, length-term_points rule n t, length-terms_points rule (n + size t) ts)

zero_more : (n : ℕ) → n + 0 ≡ n
zero_more n = omega arith

terms_points-push : (rule n : ℕ) (us : List (Tree Head)) (u : Tree Head)
    → terms_points rule n (forest (us ++ u ∷ [])) ≡ terms_points rule n (forest us) ++ term_points rule (n + sizes (forest us)) u
terms_points-push rule n [] u = append-nil (term_points rule n u) ∙ ap (λ m. term_points rule m u) (sym (zero_more n))
terms_points-push rule n (v ∷ us) u =
    ap (λ ps. term_points rule n v ++ ps) (terms_points-push rule (n + size v) us u ∙ ap (λ m. terms_points rule (n + size v) (forest us) ++ term_points rule m u) (add_assoc n (size v) (sizes (forest us))))
    ∙ sym (append_assoc (term_points rule n v) (terms_points rule (n + size v) (forest us)) (term_points rule (n + sizes (forest (v ∷ us))) u))

numbers-push : (n : ℕ) (us : List (Tree Head)) (u : Tree Head) → numbers n (forest (us ++ u ∷ [])) ≡ numbers n (forest us) ++ (n + sizes (forest us)) ∷ []
numbers-push n [] u = ap (λ m. m ∷ []) (sym (zero_more n))
numbers-push n (v ∷ us) u = ap (λ ns. n ∷ ns) (numbers-push (n + size v) us u ∙ ap (λ m. numbers (n + size v) (forest us) ++ m ∷ []) (add_assoc n (size v) (sizes (forest us))))

sizes-take : (us : List (Tree Head)) (i : ℕ) (u : Tree Head) → i < length us → u ≡ get_or us i u → sizes (forest (take i us)) + size u ≤ sizes (forest us)
sizes-take [] i u lt is = absurd (omega arith)
sizes-take (v ∷ us) zero u lt is = let e : size u ≡ size v = ap size is in omega arith
sizes-take (v ∷ us) (suc i) u lt is = omega (arith, sizes-take us i u (omega arith) is)

-- a row of terms from n on, whose points stand behind q; those of the first i stand there
module _ (rule n i : ℕ) (q p : List PointData) (us : List (Tree Head)) (u : Tree Head) (lt : i < length us) (is : u ≡ get_or us i u) (long : length q ≡ n) (row : p ≡ q ++ terms_points rule n (forest (take i us))) where
  one_more : take (i + 1) us ≡ take i us ++ u ∷ []
  one_more = take_more us i u lt ∙ ap (λ v. take i us ++ v ∷ []) (sym is)

  pub row_length : length p ≡ n + sizes (forest (take i us))
  row_length = ap length row ∙ (length-append q (terms_points rule n (forest (take i us))) ∙ omega (arith, long, length-terms_points rule n (forest (take i us))))

  pub row_more : (new : List PointData) → new ≡ p ++ term_points rule (length p) u → new ≡ q ++ terms_points rule n (forest (take (i + 1) us))
  row_more new e =
      e ∙ ((λ j. row j ++ term_points rule (row_length j) u) ∙ (append_assoc q (terms_points rule n (forest (take i us))) (term_points rule (n + sizes (forest (take i us))) u)
      ∙ ap (λ ps. q ++ ps) (sym (terms_points-push rule n (take i us) u) ∙ ap (λ vs. terms_points rule n (forest vs)) (sym one_more))))

  pub numbers_more : (args new : List ℕ) → args ≡ numbers n (forest (take i us)) → new ≡ args ++ length p ∷ [] → new ≡ numbers n (forest (take (i + 1) us))
  numbers_more args new was e =
      e ∙ ((λ j. was j ++ row_length j ∷ []) ∙ (sym (numbers-push n (take i us) u) ∙ ap (λ vs. numbers n (forest vs)) (sym one_more)))

  -- what is too much for a term in the row is too much for the whole term
  pub row_many : (max : ℕ) (old : List PointData) (h : Head) (term : Tree Head) → n ≡ length old + 1 → node h (forest us) ≡ term → max < length p + size u → max < length old + size term
  row_many max old h term behind whole too_many =
      subst (λ (t : Tree Head). max < length old + size t) whole (omega (arith, row_length, sizes-take us i u lt is, behind, too_many))

pub point_at : (n : ℕ) (old q p ps : List PointData) (first d : PointData) → length old ≡ n → q ≡ old ++ first ∷ [] → p ≡ q ++ ps → get_or p n d ≡ first
point_at n old q p ps first d long pushed row =
    ap (λ xs. get_or xs n d) (row ∙ (ap (λ xs. xs ++ ps) pushed ∙ append_assoc old (first ∷ []) ps)) ∙ get_or_at old first ps d n long

pub term_done : (rule n : ℕ) (old q p : List PointData) (first point : PointData) (h : Head) (us : List (Tree Head)) (term : Tree Head) → length old ≡ n → node h (forest us) ≡ term
    → q ≡ old ++ first ∷ [] → p ≡ q ++ terms_points rule (n + 1) (forest us) → point ≡ record { rule = rule; head = h; args = numbers (n + 1) (forest us) }
    → set p n point ≡ old ++ term_points rule (length old) term
term_done rule n old q p first point h us term long whole pushed row is =
    ap (λ ps. set ps n point) (row ∙ (ap (λ ps. ps ++ terms_points rule (n + 1) (forest us)) pushed ∙ append_assoc old (first ∷ []) (terms_points rule (n + 1) (forest us))))
    ∙ (set_at old first (terms_points rule (n + 1) (forest us)) point n long
    ∙ ap (λ ps. old ++ ps) (ap (λ pt. pt ∷ terms_points rule (n + 1) (forest us)) is ∙ (ap (λ m. term_points rule m (node h (forest us))) (sym long) ∙ ap (term_points rule (length old)) whole)))

-- rules one after another
abbrev pub total : List Rule → ℕ
total [] = 0
total (r ∷ rules) = size r.body + total rules

length-rules_points : (rule n : ℕ) (rules : List Rule) → length (rules_points rule n rules) ≡ total rules
length-rules_points rule n [] = refl
length-rules_points rule n (r ∷ rules) =
    length-append (term_points rule n r.body) (rules_points (rule + 1) (n + size r.body) rules) ∙ omega (arith, length-term_points rule n r.body, length-rules_points (rule + 1) (n + size r.body) rules)

total-take : (rules : List Rule) (i : ℕ) (r : Rule) → i < length rules → r ≡ get_or rules i r → total (take i rules) + size r.body ≤ total rules
total-take [] i r lt is = absurd (omega arith)
total-take (s ∷ rules) zero r lt is = let e : size r.body ≡ size s.body = ap (λ (q : Rule). size q.body) is in omega arith
total-take (s ∷ rules) (suc i) r lt is = omega (arith, total-take rules i r (omega arith) is)

rules_points-push : (rule n : ℕ) (rules : List Rule) (r : Rule) → rules_points rule n (rules ++ r ∷ []) ≡ rules_points rule n rules ++ term_points (rule + length rules) (n + total rules) r.body
rules_points-push rule n [] r = append-nil (term_points rule n r.body) ∙ (λ j. term_points (sym (zero_more rule) j) (sym (zero_more n) j) r.body)
rules_points-push rule n (s ∷ rules) r =
    let e : rule + 1 + length rules ≡ rule + length (s ∷ rules) = omega arith in
    ap (λ ps. term_points rule n s.body ++ ps) (rules_points-push (rule + 1) (n + size s.body) rules r
    ∙ (λ j. rules_points (rule + 1) (n + size s.body) rules ++ term_points (e j) (add_assoc n (size s.body) (total rules) j) r.body))
    ∙ sym (append_assoc (term_points rule n s.body) (rules_points (rule + 1) (n + size s.body) rules) (term_points (rule + length (s ∷ rules)) (n + total (s ∷ rules)) r.body))

bodies-push : (n : ℕ) (rules : List Rule) (r : Rule) → bodies n (rules ++ r ∷ []) ≡ bodies n rules ++ (n + total rules) ∷ []
bodies-push n [] r = ap (λ m. m ∷ []) (sym (zero_more n))
bodies-push n (s ∷ rules) r = ap (λ ns. n ∷ ns) (bodies-push (n + size s.body) rules r ∙ ap (λ m. bodies (n + size s.body) rules ++ m ∷ []) (add_assoc n (size s.body) (total rules)))

-- the points of the first i rules
module _ (i : ℕ) (rules : List Rule) (r : Rule) (p : List PointData) (lt : i < length rules) (is : r ≡ get_or rules i r) (so_far : p ≡ rules_points 0 0 (take i rules)) where
  next_rule : take (i + 1) rules ≡ take i rules ++ r ∷ []
  next_rule = take_more rules i r lt ∙ ap (λ s. take i rules ++ s ∷ []) (sym is)

  pub rule_length : length p ≡ 0 + total (take i rules)
  rule_length = ap length so_far ∙ (length-rules_points 0 0 (take i rules) ∙ omega arith)

  this_rule : i ≡ 0 + length (take i rules)
  this_rule = omega (arith, length-take-le i rules (omega arith))

  pub rule_more : (new : List PointData) → new ≡ p ++ term_points i (length p) r.body → new ≡ rules_points 0 0 (take (i + 1) rules)
  rule_more new e = e ∙ ((λ j. so_far j ++ term_points (this_rule j) (rule_length j) r.body) ∙ (sym (rules_points-push 0 0 (take i rules) r) ∙ ap (rules_points 0 0) (sym next_rule)))

  pub body_more : (old new : List ℕ) → old ≡ bodies 0 (take i rules) → new ≡ old ++ length p ∷ [] → new ≡ bodies 0 (take (i + 1) rules)
  body_more old new was e = e ∙ ((λ j. was j ++ rule_length j ∷ []) ∙ (sym (bodies-push 0 (take i rules) r) ∙ ap (bodies 0) (sym next_rule)))

  pub rule_many : (max : ℕ) → max < length p + size r.body → max < length (rules_points 0 0 rules)
  rule_many max too_many = omega (arith, rule_length, total-take rules i r lt is, length-rules_points 0 0 rules)

-- the numbers of terms side by side, and what stands in the points of terms and rules, are in range
pub at_least_one : (t : Tree Head) → 1 ≤ size t
at_least_one (node h ts) = omega arith

numbers_within : (n m : ℕ) (ts : Trees Head) → n + sizes ts ≤ m → All (λ a. a < m) (numbers n ts)
numbers_within n m none h = λ k d l. absurd (omega arith)
numbers_within n m (more t ts) h = All-cons (λ a. a < m) n (numbers (n + size t) ts) (omega (arith, at_least_one t)) (numbers_within (n + size t) m ts (omega arith))

pub record InRange (count m : ℕ) (d : PointData) : Type 0 where
  pub rule : d.rule < count
  pub args : All (λ a. a < m) d.args

module _ (count m : ℕ) where
  mutual
    term_within : (rule n : ℕ) (t : Tree Head) → rule < count → n + size t ≤ m → All (InRange count m) (term_points rule n t)
    term_within rule n (node h ts) r le =
        All-cons (InRange count m) (record { rule = rule; head = h; args = numbers (n + 1) ts }) (terms_points rule (n + 1) ts)
        (record { rule = r; args = numbers_within (n + 1) m ts (omega arith) }) (terms_within rule (n + 1) ts r (omega arith))

    terms_within : (rule n : ℕ) (ts : Trees Head) → rule < count → n + sizes ts ≤ m → All (InRange count m) (terms_points rule n ts)
    terms_within rule n none r le = λ k d l. absurd (omega arith)
    terms_within rule n (more t ts) r le =
        All-append (InRange count m) (term_points rule n t) (terms_points rule (n + size t) ts) (term_within rule n t r (omega arith)) (terms_within rule (n + size t) ts r (omega arith))

  rules_within : (rule n : ℕ) (rules : List Rule) → rule + length rules ≤ count → n + total rules ≤ m → All (InRange count m) (rules_points rule n rules)
  rules_within rule n [] c le = λ k d l. absurd (omega arith)
  rules_within rule n (r ∷ rules) c le =
      All-append (InRange count m) (term_points rule n r.body) (rules_points (rule + 1) (n + size r.body) rules) (term_within rule n r.body (omega arith) (omega arith))
      (rules_within (rule + 1) (n + size r.body) rules (omega arith) (omega arith))

  bodies_within : (n : ℕ) (rules : List Rule) → n + total rules ≤ m → All (λ b. b < m) (bodies n rules)
  bodies_within n [] le = λ k d l. absurd (omega arith)
  bodies_within n (r ∷ rules) le = All-cons (λ b. b < m) n (bodies (n + size r.body) rules) (omega (arith, at_least_one r.body)) (bodies_within (n + size r.body) rules (omega arith))

length-bodies : (n : ℕ) (rules : List Rule) → length (bodies n rules) ≡ length rules
length-bodies n [] = refl
length-bodies n (r ∷ rules) = omega (arith, length-bodies (n + size r.body) rules)

-- the nonterminals of terms in range
module _ (params count terminals : ℕ) where
  head_within : (h : Head) → HeadInRange params count terminals h → NonterminalWithin count h
  head_within (Var x) r = tt
  head_within (Nt f) r = r
  head_within (Tm a) r = tt

  mutual
    heads_within : (rule n : ℕ) (t : Tree Head) → TermInRange params count terminals t → All (λ d. NonterminalWithin count d.head) (term_points rule n t)
    heads_within rule n (node h ts) r =
        All-cons (λ d. NonterminalWithin count d.head) (record { rule = rule; head = h; args = numbers (n + 1) ts }) (terms_points rule (n + 1) ts) (head_within h r.0) (heads_within_row rule (n + 1) ts r.2)

    heads_within_row : (rule n : ℕ) (ts : Trees Head) → TermsInRange params count terminals ts → All (λ d. NonterminalWithin count d.head) (terms_points rule n ts)
    heads_within_row rule n none r = λ k d l. absurd (omega arith)
    heads_within_row rule n (more t ts) r =
        All-append (λ d. NonterminalWithin count d.head) (term_points rule n t) (terms_points rule (n + size t) ts) (heads_within rule n t r.0) (heads_within_row rule (n + size t) ts r.1)

all_heads_within : (count terminals rule n : ℕ) (rules : List Rule) → All (λ r. TermInRange r.params count terminals r.body) rules → All (λ d. NonterminalWithin count d.head) (rules_points rule n rules)
all_heads_within count terminals rule n [] rs = λ k d l. absurd (omega arith)
all_heads_within count terminals rule n (r ∷ rules) rs =
    All-append (λ d. NonterminalWithin count d.head) (term_points rule n r.body) (rules_points (rule + 1) (n + size r.body) rules) (heads_within r.params count terminals rule n r.body (rs 0 r (omega arith)))
    (all_heads_within count terminals (rule + 1) (n + size r.body) rules (All-tail (λ (q : Rule). TermInRange q.params count terminals q.body) r rules rs))

each_within : (rules : List Rule) → All (InRange (length (bodies 0 rules)) (length (rules_points 0 0 rules))) (rules_points 0 0 rules)
each_within rules = rules_within (length (bodies 0 rules)) (length (rules_points 0 0 rules)) 0 0 rules (omega (arith, length-bodies 0 rules)) (omega (arith, length-rules_points 0 0 rules))

-- the arguments of points are points
pub args_within : (rules : List Rule) → All (λ d. All (λ a. a < length (points_of rules).points) d.args) (points_of rules).points
args_within rules = λ k d l. (each_within rules k d l).args

-- the parameters at the heads of terms in range
module _ (params : List ℕ) (count terminals : ℕ) where
  parameter_within : (rule n : ℕ) (h : Head) → slice_index params rule ≡ n → HeadInRange n count terminals h → ParameterWithin params rule h
  parameter_within rule n (Var x) e r = omega arith
  parameter_within rule n (Nt f) e r = tt
  parameter_within rule n (Tm a) e r = tt

  mutual
    parameters_within : (rule n k : ℕ) (t : Tree Head) → slice_index params rule ≡ k → TermInRange k count terminals t → All (λ d. ParameterWithin params d.rule d.head) (term_points rule n t)
    parameters_within rule n k (node h ts) e r =
        All-cons (λ d. ParameterWithin params d.rule d.head) (record { rule = rule; head = h; args = numbers (n + 1) ts }) (terms_points rule (n + 1) ts) (parameter_within rule k h e r.0)
        (parameters_within_row rule (n + 1) k ts e r.2)

    parameters_within_row : (rule n k : ℕ) (ts : Trees Head) → slice_index params rule ≡ k → TermsInRange k count terminals ts → All (λ d. ParameterWithin params d.rule d.head) (terms_points rule n ts)
    parameters_within_row rule n k none e r = λ k d l. absurd (omega arith)
    parameters_within_row rule n k (more t ts) e r =
        All-append (λ d. ParameterWithin params d.rule d.head) (term_points rule n t) (terms_points rule (n + size t) ts) (parameters_within rule n k t e r.0) (parameters_within_row rule (n + size t) k ts e r.1)

  all_parameters_within : (rule n : ℕ) (rules : List Rule) → ((i : ℕ) → i < length rules → slice_index params (rule + i) ≡ slice_index (counts_of rules) i)
      → All (λ r. TermInRange r.params count terminals r.body) rules → All (λ d. ParameterWithin params d.rule d.head) (rules_points rule n rules)
  all_parameters_within rule n [] e rs = λ k d l. absurd (omega arith)
  all_parameters_within rule n (r ∷ rules) e rs =
      All-append (λ d. ParameterWithin params d.rule d.head) (term_points rule n r.body) (rules_points (rule + 1) (n + size r.body) rules)
      (parameters_within rule n r.params r.body (ap (slice_index params) (sym (zero_more rule)) ∙ e 0 (omega arith)) (rs 0 r (omega arith)))
      (all_parameters_within (rule + 1) (n + size r.body) rules
      (λ i lt. ap (slice_index params) (shifted rule i) ∙ e (suc i) (omega arith))
      (All-tail (λ (q : Rule). TermInRange q.params count terminals q.body) r rules rs))
    where
      shifted : (rule i : ℕ) → rule + 1 + i ≡ rule + suc i
      shifted rule i = omega arith

pub are_points : (rules : List Rule) (terminals : ℕ) → AreRules rules terminals → length (rules_points 0 0 rules) ≤ 500000
    → ((a q i r j : ℕ) → IsArgument (points_of rules) q i a → IsArgument (points_of rules) r j a → (q ≡ r) × (i ≡ j)) → IsPoints (points_of rules)
are_points rules terminals are few once = record {
  few = few;
  params = length-map rules (λ (r : Rule). r.params) ∙ sym (length-bodies 0 rules);
  parameters = all_parameters_within (counts_of rules) (length rules) terminals 0 0 rules (λ i lt. ap (slice_index (counts_of rules)) (from_zero i)) are.bodies;
  once = once;
  rules = λ k d l. (each_within rules k d l).rule;
  heads = subst (λ n. All (λ d. NonterminalWithin n d.head) (rules_points 0 0 rules)) (sym (length-bodies 0 rules)) (all_heads_within (length rules) terminals 0 0 rules are.bodies);
  args = args_within rules;
  bodies = bodies_within (length (bodies 0 rules)) (length (rules_points 0 0 rules)) 0 rules (omega (arith, length-rules_points 0 0 rules));
}
  where
    from_zero : (i : ℕ) → 0 + i ≡ i
    from_zero i = omega arith
