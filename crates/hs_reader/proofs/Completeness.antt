-- Every file leads to its end, stage by stage, and every stage leads to the end of some file.
use Rattle.std.proofs.Common.{◌≡◌, ◌≢◌, ℕ, suc, ◌+◌, ◌<◌, ◌≤◌, Bool, true, false, not, List, [], ◌∷◌, ◌++◌, length, map, Option, Some, None, refl, sym, ap, subst, ◌∙◌, inl, inr, append_assoc, arith}
use Rattle.std.specs.List.{AllByRecursion}
use Rattle.std.proofs.lemmas.List.{append-nil}
use Rattle.hs_scheme.specs.Tree.{Tree}
use Rattle.hs_reader.specs.declared.raw.RawName.{RawName}
use Rattle.hs_reader.specs.Raw.{Rule, Transition, File}
use Rattle.hs_reader.specs.Tokens.{Token, word, rules_begin, rules_end, automaton_begin, automaton_end, arrow, dot, left, right, end_of_file}
use Rattle.hs_reader.specs.Grammar.{begins_upper, IsUpper, IsLower, applied_to, IsAtom, IsTerm, name, enclosed, first, then, IsRule, IsTransition, Sequence, IsFile}
use Rattle.hs_reader.specs.Faults.{BeginsFile, BeforeRule, BeforeParameter, BehindArrow, BehindLeft, BeforeArgument, BeforeTransition, BeforeChild}
use Rattle.hs_reader.specs.ReadingStages.{steps, Stage, start, in_rules, in_head, in_body, between, in_transitions, in_transition, before_arrow, in_children, closed, finished, leaf, when, any, added, step}
use Rattle.hs_reader.proofs.Stages.{steps_on, steps_rest, steps_through, steps_split, reaches}

-- ---- terms

one : (s next : Stage) (t : Token) → step s t ≡ Some next → steps s (t ∷ []) ≡ Some next
unfolding steps
one s next t h = steps_on s next t [] h

more_steps : (s next last : Stage) (t : Token) (ts : List Token) → step s t ≡ Some next → steps next ts ≡ Some last → steps s (t ∷ ts) ≡ Some last
more_steps s next last t ts h e = steps_on s next t ts h ∙ e

module _ (rs : List Rule) (n : RawName) (ps : List RawName) where
  mutual
    pub atom_steps : {us : List Token} {u : Tree RawName} → IsAtom us u → (outer : List (Option (Tree RawName))) (top : Option (Tree RawName)) → steps (in_body rs n ps outer top) us ≡ Some (in_body rs n ps outer (Some (added top u)))
    atom_steps (name m) outer top = one (in_body rs n ps outer top) (in_body rs n ps outer (Some (added top (leaf m)))) (word m) refl
    atom_steps (enclosed ts t inner) outer top =
        more_steps (in_body rs n ps outer top) (in_body rs n ps (top ∷ outer) None) (in_body rs n ps outer (Some (added top t))) left (ts ++ right ∷ []) refl
        (steps_through ts (right ∷ []) (in_body rs n ps (top ∷ outer) None) (in_body rs n ps (top ∷ outer) (Some t)) (in_body rs n ps outer (Some (added top t)))
        (term_steps inner (top ∷ outer)) (one (in_body rs n ps (top ∷ outer) (Some t)) (in_body rs n ps outer (Some (added top t))) right refl))

    pub term_steps : {ts : List Token} {t : Tree RawName} → IsTerm ts t → (outer : List (Option (Tree RawName))) → steps (in_body rs n ps outer None) ts ≡ Some (in_body rs n ps outer (Some t))
    term_steps (first ts t atom) outer = atom_steps atom outer None
    term_steps (then ts us t u function argument) outer =
        steps_through ts us (in_body rs n ps outer None) (in_body rs n ps outer (Some t)) (in_body rs n ps outer (Some (applied_to t u))) (term_steps function outer) (atom_steps argument outer (Some t))

-- ---- rules

when_true : (b : Bool) (s : Stage) → b ≡ true → when b s ≡ Some s
when_true b s h = rw h refl

when_not : (b : Bool) (s : Stage) → b ≡ false → when (not b) s ≡ Some s
when_not b s h = rw h refl

any_when : {A : Type 0} (xs : List A) (s : Stage) → xs ≢ [] → when (any xs) s ≡ Some s
any_when [] s h = absurd (h refl)
any_when (x ∷ xs) s h = refl

params_steps : (ps : List RawName) (rs : List Rule) (n : RawName) (before : List RawName) → AllByRecursion IsLower ps → steps (in_head rs n before) (map word ps) ≡ Some (in_head rs n (before ++ ps))
unfolding steps
params_steps [] rs n before h = ap (λ (w : List RawName). Some (in_head rs n w)) (sym (append-nil before))
params_steps (p ∷ ps) rs n before h =
    more_steps (in_head rs n before) (in_head rs n (before ++ p ∷ [])) (in_head rs n ((before ++ p ∷ []) ++ ps)) (word p) (map word ps) (when_not (begins_upper p.text) (in_head rs n (before ++ p ∷ [])) h.0) (params_steps ps rs n (before ++ p ∷ []) h.1)
    ∙ ap (λ (w : List RawName). Some (in_head rs n w)) (append_assoc before (p ∷ []) ps)

head_steps : (rs : List Rule) (n : RawName) (ps : List RawName) → IsUpper n → AllByRecursion IsLower ps → steps (in_rules rs) (word n ∷ map word ps) ≡ Some (in_head rs n ps)
head_steps rs n ps upper lower = more_steps (in_rules rs) (in_head rs n []) (in_head rs n ps) (word n) (map word ps) (when_true (begins_upper n.text) (in_head rs n []) upper) (params_steps ps rs n [] lower)

rule_steps : (rs : List Rule) (r : Rule) (ts : List Token) → IsRule ts r → steps (in_rules rs) ts ≡ Some (in_rules (rs ++ r ∷ []))
rule_steps rs r ts is =
    ap (steps (in_rules rs)) is.are
    ∙ steps_through (word r.name ∷ map word r.params) (arrow ∷ (is.body_tokens ++ dot ∷ [])) (in_rules rs) (in_head rs r.name r.params) (in_rules (rs ++ r ∷ []))
    (head_steps rs r.name r.params is.name is.params)
    (more_steps (in_head rs r.name r.params) (in_body rs r.name r.params [] None) (in_rules (rs ++ r ∷ [])) arrow (is.body_tokens ++ dot ∷ []) refl
    (steps_through is.body_tokens (dot ∷ []) (in_body rs r.name r.params [] None) (in_body rs r.name r.params [] (Some r.body)) (in_rules (rs ++ r ∷ []))
    (term_steps rs r.name r.params is.body []) (one (in_body rs r.name r.params [] (Some r.body)) (in_rules (rs ++ r ∷ [])) dot refl)))

pub rules_steps : (rules : List Rule) (rs : List Rule) (ts : List Token) → Sequence IsRule ts rules → steps (in_rules rs) ts ≡ Some (in_rules (rs ++ rules))
unfolding steps
rules_steps [] rs ts is = ap (steps (in_rules rs)) is ∙ ap (λ (w : List Rule). Some (in_rules w)) (sym (append-nil rs))
rules_steps (r ∷ rules) rs ts is =
    ap (steps (in_rules rs)) is.2
    ∙ steps_through is.0 is.1 (in_rules rs) (in_rules (rs ++ r ∷ [])) (in_rules ((rs ++ r ∷ []) ++ rules)) (rule_steps rs r is.0 is.3) (rules_steps rules (rs ++ r ∷ []) is.1 is.4)
    ∙ ap (λ (w : List Rule). Some (in_rules w)) (append_assoc rs (r ∷ []) rules)

-- ---- transitions

children_steps : (to : List RawName) (rs : List Rule) (us : List Transition) (q a : RawName) (before : List RawName) → steps (in_children rs us q a before) (map word to) ≡ Some (in_children rs us q a (before ++ to))
unfolding steps
children_steps [] rs us q a before = ap (λ (w : List RawName). Some (in_children rs us q a w)) (sym (append-nil before))
children_steps (m ∷ to) rs us q a before =
    more_steps (in_children rs us q a before) (in_children rs us q a (before ++ m ∷ [])) (in_children rs us q a ((before ++ m ∷ []) ++ to)) (word m) (map word to) refl (children_steps to rs us q a (before ++ m ∷ []))
    ∙ ap (λ (w : List RawName). Some (in_children rs us q a w)) (append_assoc before (m ∷ []) to)

right_steps : (rs : List Rule) (us : List Transition) (q a : RawName) (to : List RawName) → IsLower a → steps (in_transitions rs us) (word q ∷ (word a ∷ (arrow ∷ map word to))) ≡ Some (in_children rs us q a to)
right_steps rs us q a to lower =
    more_steps (in_transitions rs us) (in_transition rs us q) (in_children rs us q a to) (word q) (word a ∷ (arrow ∷ map word to)) refl
    (more_steps (in_transition rs us q) (before_arrow rs us q a) (in_children rs us q a to) (word a) (arrow ∷ map word to) (when_not (begins_upper a.text) (before_arrow rs us q a) lower)
    (more_steps (before_arrow rs us q a) (in_children rs us q a []) (in_children rs us q a to) arrow (map word to) refl (children_steps to rs us q a [])))

transition_steps : (rs : List Rule) (us : List Transition) (t : Transition) (ts : List Token) → IsTransition ts t → steps (in_transitions rs us) ts ≡ Some (in_transitions rs (us ++ t ∷ []))
transition_steps rs us t ts is =
    ap (steps (in_transitions rs us)) is.are
    ∙ steps_through (word t.from ∷ (word t.terminal ∷ (arrow ∷ map word t.to))) (dot ∷ []) (in_transitions rs us) (in_children rs us t.from t.terminal t.to) (in_transitions rs (us ++ t ∷ []))
    (right_steps rs us t.from t.terminal t.to is.terminal) (one (in_children rs us t.from t.terminal t.to) (in_transitions rs (us ++ t ∷ [])) dot refl)

transitions_steps : (transitions : List Transition) (rs : List Rule) (us : List Transition) (ts : List Token) → Sequence IsTransition ts transitions → steps (in_transitions rs us) ts ≡ Some (in_transitions rs (us ++ transitions))
unfolding steps
transitions_steps [] rs us ts is = ap (steps (in_transitions rs us)) is ∙ ap (λ (w : List Transition). Some (in_transitions rs w)) (sym (append-nil us))
transitions_steps (t ∷ transitions) rs us ts is =
    ap (steps (in_transitions rs us)) is.2
    ∙ steps_through is.0 is.1 (in_transitions rs us) (in_transitions rs (us ++ t ∷ [])) (in_transitions rs ((us ++ t ∷ []) ++ transitions)) (transition_steps rs us t is.0 is.3) (transitions_steps transitions rs (us ++ t ∷ []) is.1 is.4)
    ∙ ap (λ (w : List Transition). Some (in_transitions rs w)) (append_assoc us (t ∷ []) transitions)

-- ---- the places where limits are counted

pub before_rule_steps : (pre : List Token) (rs : List Rule) → BeforeRule pre rs → steps start pre ≡ Some (in_rules rs)
before_rule_steps pre rs b = ap (steps start) b.are ∙ more_steps start (in_rules []) (in_rules rs) rules_begin b.rule_tokens refl (rules_steps rs [] b.rule_tokens b.each)

pub before_parameter_steps : (pre : List Token) (rs : List Rule) (n : RawName) (ps : List RawName) → BeforeParameter pre rs n ps → steps start pre ≡ Some (in_head rs n ps)
before_parameter_steps pre rs n ps b =
    ap (steps start) b.are ∙ steps_through b.before (word n ∷ map word ps) start (in_rules rs) (in_head rs n ps) (before_rule_steps b.before rs b.earlier) (head_steps rs n ps b.upper b.lower)

pub before_transition_steps : (pre : List Token) (rs : List Rule) (us : List Transition) → BeforeTransition pre rs us → steps start pre ≡ Some (in_transitions rs us)
before_transition_steps pre rs us b =
    ap (steps start) b.are
    ∙ steps_through b.before (rules_end ∷ (automaton_begin ∷ b.transition_tokens)) start (in_rules rs) (in_transitions rs us) (before_rule_steps b.before rs b.earlier)
    (more_steps (in_rules rs) (between rs) (in_transitions rs us) rules_end (automaton_begin ∷ b.transition_tokens) (any_when rs (between rs) b.some_rule)
    (more_steps (between rs) (in_transitions rs []) (in_transitions rs us) automaton_begin b.transition_tokens refl (transitions_steps us rs [] b.transition_tokens b.each)))

pub before_child_steps : (pre : List Token) (rs : List Rule) (us : List Transition) (to : List RawName) (b : BeforeChild pre rs us to) → steps start pre ≡ Some (in_children rs us b.from b.terminal to)
before_child_steps pre rs us to b =
    ap (steps start) b.are
    ∙ steps_through b.before (word b.from ∷ (word b.terminal ∷ (arrow ∷ map word to))) start (in_transitions rs us) (in_children rs us b.from b.terminal to) (before_transition_steps b.before rs us b.earlier) (right_steps rs us b.from b.terminal to b.lower)

pub file_steps : (ts : List Token) (f : File) → IsFile ts f → steps start ts ≡ Some (finished f)
file_steps ts f is =
    let tail : List Token = automaton_end ∷ (end_of_file ∷ []) in
    let front : List Token = rules_begin ∷ (is.rule_tokens ++ (rules_end ∷ (automaton_begin ∷ is.transition_tokens))) in
    let same : ts ≡ front ++ tail = is.are ∙ ap (λ (w : List Token). rules_begin ∷ w) (sym (append_assoc is.rule_tokens (rules_end ∷ (automaton_begin ∷ is.transition_tokens)) tail)) in
    ap (steps start) same
    ∙ steps_through front tail start (in_transitions f.rules f.transitions) (finished f)
    (before_transition_steps front f.rules f.transitions (record {
      before = rules_begin ∷ is.rule_tokens;
      earlier = record { rule_tokens = is.rule_tokens; are = refl; each = is.rules };
      some_rule = is.has_rule;
      transition_tokens = is.transition_tokens;
      are = refl;
      each = is.transitions;
    }))
    (more_steps (in_transitions f.rules f.transitions) (closed f.rules f.transitions) (finished f) automaton_end (end_of_file ∷ []) (any_when f.transitions (closed f.rules f.transitions) is.has_transition)
    (one (closed f.rules f.transitions) (finished f) end_of_file refl))

-- a stage in a body, behind a `(`
pub record IsInside (s : Stage) : Type 0 where
  pub rules : List Rule
  pub label : RawName
  pub params : List RawName
  pub outer : List (Option (Tree RawName))
  pub is : s ≡ in_body rules label params outer None

left_inside : (s next : Stage) → step s left ≡ Some next → IsInside next
left_inside (in_body rs n ps outer top) next e = record { rules = rs; label = n; params = ps; outer = top ∷ outer; is = cc }
left_inside start next e = absurd cc
left_inside (in_rules rs) next e = absurd cc
left_inside (in_head rs n ps) next e = absurd cc
left_inside (between rs) next e = absurd cc
left_inside (in_transitions rs us) next e = absurd cc
left_inside (in_transition rs us q) next e = absurd cc
left_inside (before_arrow rs us q a) next e = absurd cc
left_inside (in_children rs us q a to) next e = absurd cc
left_inside (closed rs us) next e = absurd cc
left_inside (finished f) next e = absurd cc

some_same : (a b : Stage) (o : Option Stage) → o ≡ Some a → o ≡ Some b → a ≡ b
some_same a b o p q = let e : Some a ≡ Some b = sym p ∙ q in cc

pub same_stage : (pre : List Token) (a b : Stage) → steps start pre ≡ Some a → steps start pre ≡ Some b → a ≡ b
same_stage pre a b p q = some_same a b (steps start pre) p q

behind_left : (pre : List Token) (s : Stage) → BehindLeft pre → steps start pre ≡ Some s → IsInside s
unfolding steps
behind_left pre s b e =
    let r = steps_split b.before (left ∷ []) start s (ap (steps start) (sym b.are) ∙ e) in
    let l = steps_rest r.0 s left [] r.2 in
    let same : l.0 ≡ s = cc in
    subst IsInside same (left_inside r.0 l.0 l.1)

behind_arrow : (pre : List Token) (s : Stage) → BehindArrow pre → steps start pre ≡ Some s → IsInside s
behind_arrow pre s b e = record {
  rules = b.rules;
  label = b.name;
  params = b.params;
  outer = [];
  is = same_stage pre s (in_body b.rules b.name b.params [] None) e
      (ap (steps start) b.are ∙ steps_through b.before (arrow ∷ []) start (in_head b.rules b.name b.params) (in_body b.rules b.name b.params [] None)
      (before_parameter_steps b.before b.rules b.name b.params b.head) (one (in_head b.rules b.name b.params) (in_body b.rules b.name b.params [] None) arrow refl));
}

-- a stage in a body, with a term begun
pub record IsBehindTerm (s : Stage) (t : Tree RawName) : Type 0 where
  pub rules : List Rule
  pub label : RawName
  pub params : List RawName
  pub outer : List (Option (Tree RawName))
  pub is : s ≡ in_body rules label params outer (Some t)

pub before_argument_stage : (pre : List Token) (s : Stage) (t : Tree RawName) → BeforeArgument pre t → steps start pre ≡ Some s → IsBehindTerm s t
before_argument_stage pre s t b e =
    let r = steps_split b.before b.term_tokens start s (ap (steps start) (sym b.are) ∙ e) in
    let i = inside r.0 b.begins r.1 in
    let runs : steps r.0 b.term_tokens ≡ Some (in_body i.rules i.label i.params i.outer (Some t)) = ap (λ (w : Stage). steps w b.term_tokens) i.is ∙ term_steps i.rules i.label i.params b.begun i.outer in
    record { rules = i.rules; label = i.label; params = i.params; outer = i.outer; is = some_same s (in_body i.rules i.label i.params i.outer (Some t)) (steps r.0 b.term_tokens) r.2 runs }
  where
    inside : (at : Stage) → Rattle.std.proofs.Common.◌⊎◌ (BehindArrow b.before) (BehindLeft b.before) → steps start b.before ≡ Some at → IsInside at
    inside at (inl arrows) h = behind_arrow b.before at arrows h
    inside at (inr lefts) h = behind_left b.before at lefts h

-- ---- every stage leads to the end of some file

pub record Ends (s : Stage) : Type 0 where
  pub rest : List Token
  pub file : File
  pub ends : steps s rest ≡ Some (finished file)

back : (s next : Stage) (t : Token) → step s t ≡ Some next → Ends next → Ends s
back s next t h e = record { rest = t ∷ e.rest; file = e.file; ends = more_steps s next (finished e.file) t e.rest h e.ends }

a_name : RawName
a_name = record { text = 97 ∷ []; line = 1 }

closed_ends : (rs : List Rule) (us : List Transition) → Ends (closed rs us)
closed_ends rs us = record { rest = end_of_file ∷ []; file = record { rules = rs; transitions = us }; ends = one (closed rs us) (finished (record { rules = rs; transitions = us })) end_of_file refl }

after_transition : (rs : List Rule) (us : List Transition) (t : Transition) → Ends (in_transitions rs (us ++ t ∷ []))
after_transition rs us t = back (in_transitions rs (us ++ t ∷ [])) (closed rs (us ++ t ∷ [])) automaton_end (any_when (us ++ t ∷ []) (closed rs (us ++ t ∷ [])) (some us)) (closed_ends rs (us ++ t ∷ []))
  where
    some : (us : List Transition) → (us ++ t ∷ []) ≢ []
    some [] e = cc
    some (u ∷ us) e = cc

children_ends : (rs : List Rule) (us : List Transition) (q a : RawName) (to : List RawName) → Ends (in_children rs us q a to)
children_ends rs us q a to = back (in_children rs us q a to) (in_transitions rs (us ++ record { from = q; terminal = a; to = to } ∷ [])) dot refl (after_transition rs us (record { from = q; terminal = a; to = to }))

arrow_ends : (rs : List Rule) (us : List Transition) (q a : RawName) → Ends (before_arrow rs us q a)
arrow_ends rs us q a = back (before_arrow rs us q a) (in_children rs us q a []) arrow refl (children_ends rs us q a [])

transition_ends : (rs : List Rule) (us : List Transition) (q : RawName) → Ends (in_transition rs us q)
unfolding a_name
transition_ends rs us q = back (in_transition rs us q) (before_arrow rs us q a_name) (word a_name) refl (arrow_ends rs us q a_name)

transitions_ends : (rs : List Rule) (us : List Transition) → Ends (in_transitions rs us)
transitions_ends rs us = back (in_transitions rs us) (in_transition rs us a_name) (word a_name) refl (transition_ends rs us a_name)

between_ends : (rs : List Rule) → Ends (between rs)
between_ends rs = back (between rs) (in_transitions rs []) automaton_begin refl (transitions_ends rs [])

after_rule : (rs : List Rule) (r : Rule) → Ends (in_rules (rs ++ r ∷ []))
after_rule rs r = back (in_rules (rs ++ r ∷ [])) (between (rs ++ r ∷ [])) rules_end (any_when (rs ++ r ∷ []) (between (rs ++ r ∷ [])) (some rs)) (between_ends (rs ++ r ∷ []))
  where
    some : (rs : List Rule) → (rs ++ r ∷ []) ≢ []
    some [] e = cc
    some (u ∷ rs) e = cc

term_ends : (rs : List Rule) (n : RawName) (ps : List RawName) (outer : List (Option (Tree RawName))) (t : Tree RawName) → Ends (in_body rs n ps outer (Some t))
term_ends rs n ps [] t = back (in_body rs n ps [] (Some t)) (in_rules (rs ++ record { name = n; params = ps; body = t } ∷ [])) dot refl (after_rule rs (record { name = n; params = ps; body = t }))
term_ends rs n ps (below ∷ outer) t = back (in_body rs n ps (below ∷ outer) (Some t)) (in_body rs n ps outer (Some (added below t))) right refl (term_ends rs n ps outer (added below t))

body_ends : (rs : List Rule) (n : RawName) (ps : List RawName) (outer : List (Option (Tree RawName))) (top : Option (Tree RawName)) → Ends (in_body rs n ps outer top)
body_ends rs n ps outer top = back (in_body rs n ps outer top) (in_body rs n ps outer (Some (added top (leaf a_name)))) (word a_name) refl (term_ends rs n ps outer (added top (leaf a_name)))

head_ends : (rs : List Rule) (n : RawName) (ps : List RawName) → Ends (in_head rs n ps)
head_ends rs n ps = back (in_head rs n ps) (in_body rs n ps [] None) arrow refl (body_ends rs n ps [] None)

rules_ends : (rs : List Rule) → Ends (in_rules rs)
rules_ends rs = back (in_rules rs) (in_head rs (record { text = 83 ∷ []; line = 1 }) []) (word (record { text = 83 ∷ []; line = 1 })) refl (head_ends rs (record { text = 83 ∷ []; line = 1 }) [])

finished_ends : (f : File) → Ends (finished f)
unfolding steps
finished_ends f = record { rest = []; file = f; ends = refl }

pub stage_ends : (s : Stage) → Ends s
stage_ends start = back start (in_rules []) rules_begin refl (rules_ends [])
stage_ends (in_rules rs) = rules_ends rs
stage_ends (in_head rs n ps) = head_ends rs n ps
stage_ends (in_body rs n ps outer top) = body_ends rs n ps outer top
stage_ends (between rs) = between_ends rs
stage_ends (in_transitions rs us) = transitions_ends rs us
stage_ends (in_transition rs us q) = transition_ends rs us q
stage_ends (before_arrow rs us q a) = arrow_ends rs us q a
stage_ends (in_children rs us q a to) = children_ends rs us q a to
stage_ends (closed rs us) = closed_ends rs us
stage_ends (finished f) = finished_ends f

-- ---- some file begins with tokens exactly where they lead to a stage

pub begins_from : (ts : List Token) (s : Stage) → steps start ts ≡ Some s → BeginsFile ts
begins_from ts s e =
    let end = stage_ends s in
    record { rest = end.rest; file = end.file; is_file = reaches (ts ++ end.rest) (finished end.file) (steps_through ts end.rest start s (finished end.file) e end.ends) }

pub begins_leads : (ts : List Token) → BeginsFile ts → (s : Stage) × (steps start ts ≡ Some s)
begins_leads ts b = let r = steps_split ts b.rest start (finished b.file) (file_steps (ts ++ b.rest) b.file b.is_file) in (r.0, r.1)
