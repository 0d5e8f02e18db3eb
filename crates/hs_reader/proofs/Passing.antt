-- A token passes a limit exactly where reading says so.
use Rattle.std.proofs.Common.{◌≡◌, ℕ, ◌+◌, ◌≤◌, Bool, true, false, not, eqb, List, [], ◌∷◌, ◌++◌, length, Option, Some, None, refl, sym, ap, subst, ◌∙◌, inl, inr, append_assoc, eq-eqb, arith}
use Rattle.std.proofs.lemmas.Bool.{eqb-true, ltb-true, lt-ltb}
use Rattle.hs_scheme.specs.Tree.{Tree}
use Rattle.hs_reader.specs.declared.raw.RawName.{RawName}
use Rattle.hs_reader.specs.declared.fault.Which.{Which}
use Rattle.hs_reader.specs.declared.fault.Which.TheVariants as which
use Rattle.hs_reader.specs.Raw.{Rule}
use Rattle.hs_reader.specs.Tokens.{Token, word, rules_begin, rules_end, automaton_begin, automaton_end, arrow, dot, left, right, end_of_file, bad}
use Rattle.hs_reader.specs.Grammar.{begins_upper}
use Rattle.hs_reader.specs.Faults.{BeforeArgument, lefts, rights, arguments, IsWord, BeginsAtom, IsLong, PassesLimit, order}
use Rattle.hs_reader.specs.ReadingStages.{steps, Stage, start, in_rules, in_head, in_body, between, in_transitions, in_transition, before_arrow, in_children, closed, finished, leaf, when, any, added, from_body, step, which_if, first_of, is_full, is_long, at_word, at_left, passed}
use Rattle.hs_reader.proofs.Running.{full_at}
use Rattle.hs_reader.proofs.Stages.{steps_rest, passes_when, BodyRead, Reached, reaches}
use Rattle.hs_reader.proofs.Completeness.{before_rule_steps, before_parameter_steps, before_transition_steps, before_child_steps, same_stage, before_argument_stage}

-- ---- parentheses

abbrev depth : Stage → ℕ
depth (in_body rs n ps outer top) = length outer
depth s = 0

lefts_cons : (t : Token) (ts : List Token) → lefts (t ∷ ts) ≡ lefts (t ∷ []) + lefts ts
lefts_cons left ts = omega arith
lefts_cons t ts = omega arith

rights_cons : (t : Token) (ts : List Token) → rights (t ∷ ts) ≡ rights (t ∷ []) + rights ts
rights_cons right ts = omega arith
rights_cons t ts = omega arith

depth_some : (s next : Stage) → Some s ≡ Some next → depth next ≡ depth s
depth_some s next e = let same : s ≡ next = cc in ap depth (sym same)

depth_when : (b : Bool) (s next : Stage) → when b s ≡ Some next → depth next ≡ depth s
depth_when b s next e = ap depth (sym (passes_when b s next e).1)

body_depth : (rs : List Rule) (n : RawName) (ps : List RawName) (outer : List (Option (Tree RawName))) (top : Option (Tree RawName)) (t : Token) (next : Stage) → from_body rs n ps outer top t ≡ Some next → depth next + rights (t ∷ []) ≡ length outer + lefts (t ∷ [])
body_depth rs n ps outer top (word m) next e = omega (arith, depth_some (in_body rs n ps outer (Some (added top (leaf m)))) next e)
body_depth rs n ps outer top left next e = omega (arith, depth_some (in_body rs n ps (top ∷ outer) None) next e)
body_depth rs n ps outer None right next e = absurd cc
body_depth rs n ps [] (Some u) right next e = absurd cc
body_depth rs n ps (below ∷ outer) (Some u) right next e = omega (arith, depth_some (in_body rs n ps outer (Some (added below u))) next e)
body_depth rs n ps outer None dot next e = absurd cc
body_depth rs n ps [] (Some u) dot next e = omega (arith, depth_some (in_rules (rs ++ record { name = n; params = ps; body = u } ∷ [])) next e)
body_depth rs n ps (below ∷ outer) (Some u) dot next e = absurd cc
body_depth rs n ps outer top rules_begin next e = absurd cc
body_depth rs n ps outer top rules_end next e = absurd cc
body_depth rs n ps outer top automaton_begin next e = absurd cc
body_depth rs n ps outer top automaton_end next e = absurd cc
body_depth rs n ps outer top arrow next e = absurd cc
body_depth rs n ps outer top end_of_file next e = absurd cc
body_depth rs n ps outer top bad next e = absurd cc

step_depth : (s next : Stage) (t : Token) → step s t ≡ Some next → depth next + rights (t ∷ []) ≡ depth s + lefts (t ∷ [])
step_depth (in_body rs n ps outer top) next t e = body_depth rs n ps outer top t next e
step_depth start next rules_begin e = omega (arith, depth_some (in_rules []) next e)
step_depth start next t e = absurd cc
step_depth (in_rules rs) next (word n) e = omega (arith, depth_when (begins_upper n.text) (in_head rs n []) next e)
step_depth (in_rules rs) next rules_end e = omega (arith, depth_when (any rs) (between rs) next e)
step_depth (in_rules rs) next t e = absurd cc
step_depth (in_head rs n ps) next (word p) e = omega (arith, depth_when (not (begins_upper p.text)) (in_head rs n (ps ++ p ∷ [])) next e)
step_depth (in_head rs n ps) next arrow e = omega (arith, depth_some (in_body rs n ps [] None) next e)
step_depth (in_head rs n ps) next t e = absurd cc
step_depth (between rs) next automaton_begin e = omega (arith, depth_some (in_transitions rs []) next e)
step_depth (between rs) next t e = absurd cc
step_depth (in_transitions rs us) next (word q) e = omega (arith, depth_some (in_transition rs us q) next e)
step_depth (in_transitions rs us) next automaton_end e = omega (arith, depth_when (any us) (closed rs us) next e)
step_depth (in_transitions rs us) next t e = absurd cc
step_depth (in_transition rs us q) next (word a) e = omega (arith, depth_when (not (begins_upper a.text)) (before_arrow rs us q a) next e)
step_depth (in_transition rs us q) next t e = absurd cc
step_depth (before_arrow rs us q a) next arrow e = omega (arith, depth_some (in_children rs us q a []) next e)
step_depth (before_arrow rs us q a) next t e = absurd cc
step_depth (in_children rs us q a to) next (word m) e = omega (arith, depth_some (in_children rs us q a (to ++ m ∷ [])) next e)
step_depth (in_children rs us q a to) next dot e = omega (arith, depth_some (in_transitions rs (us ++ record { from = q; terminal = a; to = to } ∷ [])) next e)
step_depth (in_children rs us q a to) next t e = absurd cc
step_depth (closed rs us) next end_of_file e = omega (arith, depth_some (finished (record { rules = rs; transitions = us })) next e)
step_depth (closed rs us) next t e = absurd cc
step_depth (finished f) next t e = absurd cc

steps_depth : (ts : List Token) (s last : Stage) → steps s ts ≡ Some last → depth last + rights ts ≡ depth s + lefts ts
unfolding steps
steps_depth [] s last e = omega (arith, depth_some s last e)
steps_depth (t ∷ ts) s last e =
    let r = steps_rest s last t ts e in
    omega (arith, step_depth s r.0 t r.1, steps_depth ts r.0 last r.2, lefts_cons t ts, rights_cons t ts)

-- ---- what passes is said to pass, or an earlier limit is

pub record IsPassed (s : Stage) (t : Token) (w : Which) : Type 0 where
  pub other : Which
  pub is : passed s t ≡ Some other
  pub no_later : order other ≤ order w

word_passed : (s : Stage) (n : RawName) (w : Which) → at_word s ≡ Some w → IsPassed s (word n) w
word_passed s n w e = go (is_long n.text) refl
  where
    go : (b : Bool) → is_long n.text ≡ b → IsPassed s (word n) w
    go true h = record { other = which.Name; is = ap (λ (t : Bool). first_of (which_if t which.Name) (at_word s)) h; no_later = omega arith }
    go false h = record { other = w; is = ap (λ (t : Bool). first_of (which_if t which.Name) (at_word s)) h ∙ e; no_later = omega arith }

any_word : (s : Stage) (t : Token) (w : Which) → IsWord t → at_word s ≡ Some w → IsPassed s t w
any_word s (word n) w h e = word_passed s n w e
any_word s t w h e = absurd h

long_passed : (s : Stage) (t : Token) → IsLong t → IsPassed s t which.Name
long_passed s (word n) h = record { other = which.Name; is = ap (λ (t : Bool). first_of (which_if t which.Name) (at_word s)) (lt-ltb _ _ h); no_later = omega arith }
long_passed s t h = absurd h

left_full : (rs : List Rule) (n : RawName) (ps : List RawName) (outer : List (Option (Tree RawName))) (top : Option (Tree RawName)) → is_full top ≡ true → IsPassed (in_body rs n ps outer top) left which.Arguments
left_full rs n ps outer top full = go (eqb (length outer) 200) refl
  where
    go : (b : Bool) → eqb (length outer) 200 ≡ b → IsPassed (in_body rs n ps outer top) left which.Arguments
    go true h = record { other = which.Depth; is = ap (λ (t : Bool). first_of (which_if t which.Depth) (which_if (is_full top) which.Arguments)) h; no_later = omega arith }
    go false h = record { other = which.Arguments; is = ap (λ (t : Bool). first_of (which_if t which.Depth) (which_if (is_full top) which.Arguments)) h ∙ ap (λ (t : Bool). which_if t which.Arguments) full; no_later = omega arith }

atom_full : (rs : List Rule) (n : RawName) (ps : List RawName) (outer : List (Option (Tree RawName))) (top : Option (Tree RawName)) (t : Token) → BeginsAtom t → is_full top ≡ true → IsPassed (in_body rs n ps outer top) t which.Arguments
atom_full rs n ps outer top (word m) h full = word_passed (in_body rs n ps outer top) m which.Arguments (ap (λ (b : Bool). which_if b which.Arguments) full)
atom_full rs n ps outer top left h full = left_full rs n ps outer top full
atom_full rs n ps outer top t h full = absurd h

deep_passed : (s next : Stage) → step s left ≡ Some next → depth s ≡ 200 → IsPassed s left which.Depth
deep_passed (in_body rs n ps outer top) next e h = record { other = which.Depth; is = ap (λ (w : Option Which). first_of w (which_if (is_full top) which.Arguments)) (full_at (length outer) 200 which.Depth h); no_later = omega arith }
deep_passed start next e h = absurd cc
deep_passed (in_rules rs) next e h = absurd cc
deep_passed (in_head rs n ps) next e h = absurd cc
deep_passed (between rs) next e h = absurd cc
deep_passed (in_transitions rs us) next e h = absurd cc
deep_passed (in_transition rs us q) next e h = absurd cc
deep_passed (before_arrow rs us q a) next e h = absurd cc
deep_passed (in_children rs us q a to) next e h = absurd cc
deep_passed (closed rs us) next e h = absurd cc
deep_passed (finished f) next e h = absurd cc

at_stage : (a b : Stage) (w : Which) → a ≡ b → at_word a ≡ Some w → at_word b ≡ Some w
at_stage a b w same e = ap at_word (sym same) ∙ e

pub passes_passed : (w : Which) (pre : List Token) (t : Token) (s next : Stage) → steps start pre ≡ Some s → step s t ≡ Some next → PassesLimit w pre t → IsPassed s t w
passes_passed which.Name pre t s next e h p = long_passed s t p
passes_passed which.Rules pre t s next e h p =
    any_word s t which.Rules p.0 (at_stage (in_rules p.1.0) s which.Rules (same_stage pre (in_rules p.1.0) s (before_rule_steps pre p.1.0 p.1.1) e) (full_at (length p.1.0) 20000 which.Rules p.1.2))
passes_passed which.Parameters pre t s next e h p =
    let q = p.1 in
    any_word s t which.Parameters p.0 (at_stage (in_head q.0 q.1 q.2) s which.Parameters (same_stage pre (in_head q.0 q.1 q.2) s (before_parameter_steps pre q.0 q.1 q.2 q.3) e) (full_at (length q.2) 64 which.Parameters q.4))
passes_passed which.Depth pre t s next e h p =
    let d = steps_depth pre start s e in
    subst (λ (k : Token). IsPassed s k which.Depth) (sym p.0) (deep_passed s next (ap (step s) (sym p.0) ∙ h) (omega (arith, d, p.1)))
passes_passed which.Arguments pre t s next e h p =
    let b = before_argument_stage pre s p.1.0 p.1.1 e in
    subst (λ (k : Stage). IsPassed k t which.Arguments) (sym b.is) (atom_full b.rules b.label b.params b.outer (Some p.1.0) t p.0 (eq-eqb (arguments p.1.0) 64 p.1.2))
passes_passed which.Transitions pre t s next e h p =
    let q = p.1 in
    any_word s t which.Transitions p.0 (at_stage (in_transitions q.0 q.1) s which.Transitions (same_stage pre (in_transitions q.0 q.1) s (before_transition_steps pre q.0 q.1 q.2) e) (full_at (length q.1) 200000 which.Transitions q.3))
passes_passed which.Children pre t s next e h p =
    let q = p.1 in
    let b = q.3 in
    any_word s t which.Children p.0 (at_stage (in_children q.0 q.1 b.from b.terminal q.2) s which.Children (same_stage pre (in_children q.0 q.1 b.from b.terminal q.2) s (before_child_steps pre q.0 q.1 q.2 b) e) (full_at (length q.2) 64 which.Children q.4))

-- ---- what is said to pass passes

if_is : (b : Bool) (v w : Which) → which_if b v ≡ Some w → (b ≡ true) × (v ≡ w)
if_is true v w e = (refl, cc)
if_is false v w e = absurd cc

-- a term that is begun is an argument's place
before_argument : (rs : List Rule) (n : RawName) (ps : List RawName) (outer : List (Option (Tree RawName))) (u : Tree RawName) (pre : List Token) → BodyRead pre rs n ps outer (Some u) → BeforeArgument pre u
before_argument rs n ps [] u pre h = record {
  before = h.before ++ arrow ∷ [];
  begins = inl (record { before = h.before; rules = rs; name = n; params = ps; head = h.head; are = refl });
  term_tokens = h.tokens;
  begun = h.begun;
  are = h.are ∙ sym (append_assoc h.before (arrow ∷ []) h.tokens);
}
before_argument rs n ps (below ∷ outer) u pre h = record {
  before = (h.before ++ arrow ∷ h.begun.0) ++ left ∷ [];
  begins = inr (record { before = h.before ++ arrow ∷ h.begun.0; are = refl });
  term_tokens = h.begun.1;
  begun = h.begun.3;
  are = h.are ∙ ap (λ (w : List Token). h.before ++ (arrow ∷ w)) h.begun.2 ∙ sym (append_assoc h.before (arrow ∷ h.begun.0) (left ∷ h.begun.1))
      ∙ sym (append_assoc (h.before ++ arrow ∷ h.begun.0) (left ∷ []) h.begun.1);
}

full_passes : (rs : List Rule) (n : RawName) (ps : List RawName) (outer : List (Option (Tree RawName))) (top : Option (Tree RawName)) (t : Token) (pre : List Token) → BeginsAtom t → BodyRead pre rs n ps outer top → is_full top ≡ true → PassesLimit which.Arguments pre t
full_passes rs n ps outer None t pre atom h full = absurd cc
full_passes rs n ps outer (Some u) t pre atom h full = (atom, (u, before_argument rs n ps outer u pre h, eqb-true (arguments u) 64 full))

word_passes : (s : Stage) (n : RawName) (w : Which) (pre : List Token) → Reached pre s → at_word s ≡ Some w → PassesLimit w pre (word n)
word_passes (in_rules rs) n w pre h e =
    let p = if_is (eqb (length rs) 20000) which.Rules w e in
    subst (λ (v : Which). PassesLimit v pre (word n)) p.1 (tt, (rs, h, eqb-true _ _ p.0))
word_passes (in_head rs m ps) n w pre h e =
    let p = if_is (eqb (length ps) 64) which.Parameters w e in
    subst (λ (v : Which). PassesLimit v pre (word n)) p.1 (tt, (rs, m, ps, h, eqb-true _ _ p.0))
word_passes (in_body rs m ps outer top) n w pre h e =
    let p = if_is (is_full top) which.Arguments w e in
    subst (λ (v : Which). PassesLimit v pre (word n)) p.1 (full_passes rs m ps outer top (word n) pre tt h p.0)
word_passes (in_transitions rs us) n w pre h e =
    let p = if_is (eqb (length us) 200000) which.Transitions w e in
    subst (λ (v : Which). PassesLimit v pre (word n)) p.1 (tt, (rs, us, h, eqb-true _ _ p.0))
word_passes (in_children rs us q a to) n w pre h e =
    let p = if_is (eqb (length to) 64) which.Children w e in
    subst (λ (v : Which). PassesLimit v pre (word n)) p.1
    (tt, (rs, us, to, record { before = h.0.before; earlier = h.0.transitions; from = q; terminal = a; lower = h.1; are = h.0.are }, eqb-true _ _ p.0))
word_passes start n w pre h e = absurd cc
word_passes (between rs) n w pre h e = absurd cc
word_passes (in_transition rs us q) n w pre h e = absurd cc
word_passes (before_arrow rs us q a) n w pre h e = absurd cc
word_passes (closed rs us) n w pre h e = absurd cc
word_passes (finished f) n w pre h e = absurd cc

left_passes : (s : Stage) (w : Which) (pre : List Token) → steps start pre ≡ Some s → at_left s ≡ Some w → PassesLimit w pre left
left_passes (in_body rs n ps outer top) w pre e h = go (eqb (length outer) 200) refl h
  where
    go : (b : Bool) → eqb (length outer) 200 ≡ b → first_of (which_if b which.Depth) (which_if (is_full top) which.Arguments) ≡ Some w → PassesLimit w pre left
    go true deep h = let same : which.Depth ≡ w = cc in subst (λ (v : Which). PassesLimit v pre left) same (refl, omega (arith, steps_depth pre start (in_body rs n ps outer top) e, eqb-true (length outer) 200 deep))
    go false deep h =
        let p = if_is (is_full top) which.Arguments w h in
        subst (λ (v : Which). PassesLimit v pre left) p.1 (full_passes rs n ps outer top left pre tt (reaches pre (in_body rs n ps outer top) e) p.0)
left_passes start w pre e h = absurd cc
left_passes (in_rules rs) w pre e h = absurd cc
left_passes (in_head rs n ps) w pre e h = absurd cc
left_passes (between rs) w pre e h = absurd cc
left_passes (in_transitions rs us) w pre e h = absurd cc
left_passes (in_transition rs us q) w pre e h = absurd cc
left_passes (before_arrow rs us q a) w pre e h = absurd cc
left_passes (in_children rs us q a to) w pre e h = absurd cc
left_passes (closed rs us) w pre e h = absurd cc
left_passes (finished f) w pre e h = absurd cc

pub passed_passes : (t : Token) (s : Stage) (w : Which) (pre : List Token) → steps start pre ≡ Some s → passed s t ≡ Some w → PassesLimit w pre t
passed_passes (word n) s w pre e h = go (is_long n.text) refl h
  where
    go : (b : Bool) → is_long n.text ≡ b → first_of (which_if b which.Name) (at_word s) ≡ Some w → PassesLimit w pre (word n)
    go true long h = let same : which.Name ≡ w = cc in subst (λ (v : Which). PassesLimit v pre (word n)) same (ltb-true _ _ long)
    go false long h = word_passes s n w pre (reaches pre s e) h
passed_passes left s w pre e h = left_passes s w pre e h
passed_passes t s w pre e h = absurd cc

pub order_is : (v w : Which) → order v ≡ order w → v ≡ w
order_is which.Name which.Name e = refl
order_is which.Rules which.Rules e = refl
order_is which.Parameters which.Parameters e = refl
order_is which.Depth which.Depth e = refl
order_is which.Arguments which.Arguments e = refl
order_is which.Transitions which.Transitions e = refl
order_is which.Children which.Children e = refl
order_is v w e = absurd (omega arith)
