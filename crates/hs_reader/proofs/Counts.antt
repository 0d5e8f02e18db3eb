-- What is read is within the limits that are counted.
use Rattle.std.proofs.Common.{◌≡◌, ℕ, ◌<◌, ◌≤◌, Bool, true, false, not, eqb, List, [], ◌∷◌, ◌++◌, length, Option, Some, None, Ok, refl, subst, length-append, arith}
use Rattle.std.specs.List.{AllByRecursion}
use Rattle.std.proofs.lemmas.Bool.{eqb-false, ltb-false}
use Rattle.hs_scheme.specs.Tree.{Tree, Trees, node, none, more, children}
use Rattle.hs_reader.specs.declared.raw.RawName.{RawName}
use Rattle.hs_reader.specs.declared.fault.Which.{Which}
use Rattle.hs_reader.specs.declared.fault.Which.TheVariants as which
use Rattle.hs_reader.specs.Raw.{Rule, Transition, File}
use Rattle.hs_reader.specs.Tokens.{Token, Placed, word, rules_begin, rules_end, automaton_begin, automaton_end, arrow, dot, left, right, end_of_file, bad}
use Rattle.hs_reader.specs.Grammar.{begins_upper, with_last, applied_to}
use Rattle.hs_reader.specs.Limits.{HasFewArguments, HaveFewArguments, IsShort}
use Rattle.hs_reader.specs.Faults.{kinds}
use Rattle.hs_reader.specs.ReadingStages.{Stage, start, in_rules, in_head, in_body, between, in_transitions, in_transition, before_arrow, in_children, closed, finished, leaf, when, any, added, step, which_if, first_of, is_full, is_long, at_word, passed, judged, file_at, ◌>>=◌, run}
use Rattle.hs_reader.proofs.Stages.{all_push, passes_when}
use Rattle.hs_reader.proofs.Names.{words}
use Rattle.hs_reader.proofs.Nodes.{last_count}

-- ---- reading goes on

pub record IsTaken (s : Stage) (p : Placed) (ps : List Placed) (f : File) : Type 0 where
  pub next : Stage
  pub step_is : step s p.token ≡ Some next
  pub free : passed s p.token ≡ None
  pub rest : run next ps ≡ Ok f

pub run_takes : (s : Stage) (p : Placed) (ps : List Placed) (f : File) → run s (p ∷ ps) ≡ Ok f → IsTaken s p ps f
unfolding run
run_takes s p ps f e = go (step s p.token) (passed s p.token) refl refl e
  where
    go : (o : Option Stage) (w : Option Which) → step s p.token ≡ o → passed s p.token ≡ w → (judged p.line o w >>= λ next. run next ps) ≡ Ok f → IsTaken s p ps f
    go None w h k e = absurd cc
    go (Some next) (Some v) h k e = absurd cc
    go (Some next) None h k e = record { next = next; step_is = h; free = k; rest = e }

-- ---- terms

last_few : (ts : Trees RawName) (u : Tree RawName) → HaveFewArguments ts → HasFewArguments u → HaveFewArguments (with_last ts u)
last_few none u h k = (k, tt)
last_few (more t ts) u h k = (h.0, last_few ts u h.1 k)

applied_few : (t u : Tree RawName) → HasFewArguments t → is_full (Some t) ≡ false → HasFewArguments u → HasFewArguments (applied_to t u)
applied_few (node head args) u h room k = let n = eqb-false (length (children args)) 64 room in (omega (arith, last_count args u, h.0), last_few args u h.1 k)

abbrev FitsBegun : Option (Tree RawName) → Type 0
FitsBegun None = Unit {0}
FitsBegun (Some t) = HasFewArguments t

added_few : (top : Option (Tree RawName)) (u : Tree RawName) → FitsBegun top → is_full top ≡ false → HasFewArguments u → HasFewArguments (added top u)
added_few None u h room k = k
added_few (Some t) u h room k = applied_few t u h room k

-- ---- stages

pub record FitsRules (rs : List Rule) : Type 0 where
  pub count : length rs ≤ 20000
  pub params : AllByRecursion (λ r. length r.params ≤ 64) rs
  pub few : AllByRecursion (λ r. HasFewArguments r.body) rs

pub record FitsHead (rs : List Rule) (ps : List RawName) : Type 0 where
  pub rules : FitsRules rs
  pub room : length rs < 20000
  pub count : length ps ≤ 64

pub record FitsTransitions (us : List Transition) : Type 0 where
  pub count : length us ≤ 200000
  pub few : AllByRecursion (λ t. length t.to ≤ 64) us

abbrev FitsOuter : Option (Tree RawName) → Type 0
FitsOuter o = FitsBegun o × (is_full o ≡ false)

abbrev Fits : Stage → Type 0
Fits start = Unit {0}
Fits (in_rules rs) = FitsRules rs
Fits (in_head rs n ps) = FitsHead rs ps
Fits (in_body rs n ps outer top) = FitsHead rs ps × AllByRecursion FitsOuter outer × FitsBegun top
Fits (between rs) = FitsRules rs
Fits (in_transitions rs us) = FitsRules rs × FitsTransitions us
Fits (in_transition rs us q) = FitsRules rs × FitsTransitions us × (length us < 200000)
Fits (before_arrow rs us q a) = FitsRules rs × FitsTransitions us × (length us < 200000)
Fits (in_children rs us q a to) = FitsRules rs × FitsTransitions us × (length us < 200000) × (length to ≤ 64)
Fits (closed rs us) = FitsRules rs × FitsTransitions us
Fits (finished f) = FitsRules f.rules × FitsTransitions f.transitions

fits_some : (s next : Stage) → Fits s → Some s ≡ Some next → Fits next
fits_some s next h e = let same : s ≡ next = cc in subst Fits same h

fits_when : (b : Bool) (s next : Stage) → Fits s → when b s ≡ Some next → Fits next
fits_when b s next h e = subst Fits (passes_when b s next e).1 h

-- nothing is passed
second_none : (v w : Option Which) → first_of v w ≡ None → (v ≡ None) × (w ≡ None)
second_none None w e = (refl, e)
second_none (Some v) w e = absurd cc

not_if : (b : Bool) (w : Which) → which_if b w ≡ None → b ≡ false
not_if true w e = absurd cc
not_if false w e = refl

free_word : (s : Stage) (n : RawName) → passed s (word n) ≡ None → at_word s ≡ None
free_word s n e = (second_none (which_if (is_long n.text) which.Name) (at_word s) e).1

below_by : (n m : ℕ) (w : Which) → which_if (eqb n m) w ≡ None → n ≤ m → n < m
below_by n m w e le = let ne = eqb-false n m (not_if (eqb n m) w e) in omega arith

body_fits : (rs : List Rule) (n : RawName) (ps : List RawName) (outer : List (Option (Tree RawName))) (top : Option (Tree RawName)) (t : Token) (next : Stage) → FitsHead rs ps → AllByRecursion FitsOuter outer → FitsBegun top → step (in_body rs n ps outer top) t ≡ Some next → passed (in_body rs n ps outer top) t ≡ None → Fits next
body_fits rs n ps outer top (word m) next h o b e free =
    let room = not_if (is_full top) which.Arguments (free_word (in_body rs n ps outer top) m free) in
    fits_some (in_body rs n ps outer (Some (added top (leaf m)))) next (h, o, added_few top (leaf m) b room (omega arith, tt)) e
body_fits rs n ps outer top left next h o b e free =
    let room = not_if (is_full top) which.Arguments (second_none (which_if (eqb (length outer) 200) which.Depth) (which_if (is_full top) which.Arguments) free).1 in
    fits_some (in_body rs n ps (top ∷ outer) None) next (h, ((b, room), o), tt) e
body_fits rs n ps outer None right next h o b e free = absurd cc
body_fits rs n ps [] (Some u) right next h o b e free = absurd cc
body_fits rs n ps (below ∷ outer) (Some u) right next h o b e free = fits_some (in_body rs n ps outer (Some (added below u))) next (h, o.1, added_few below u o.0.0 o.0.1 b) e
body_fits rs n ps outer None dot next h o b e free = absurd cc
body_fits rs n ps (below ∷ outer) (Some u) dot next h o b e free = absurd cc
body_fits rs n ps [] (Some u) dot next h o b e free =
    let made : Rule = record { name = n; params = ps; body = u } in
    fits_some (in_rules (rs ++ made ∷ [])) next (record {
      count = omega (arith, length-append rs (made ∷ []), h.room);
      params = all_push (λ r. length r.params ≤ 64) rs made h.rules.params h.count;
      few = all_push (λ r. HasFewArguments r.body) rs made h.rules.few b;
    }) e
body_fits rs n ps outer top rules_begin next h o b e free = absurd cc
body_fits rs n ps outer top rules_end next h o b e free = absurd cc
body_fits rs n ps outer top automaton_begin next h o b e free = absurd cc
body_fits rs n ps outer top automaton_end next h o b e free = absurd cc
body_fits rs n ps outer top arrow next h o b e free = absurd cc
body_fits rs n ps outer top end_of_file next h o b e free = absurd cc
body_fits rs n ps outer top bad next h o b e free = absurd cc

step_fits : (s next : Stage) (t : Token) → Fits s → step s t ≡ Some next → passed s t ≡ None → Fits next
step_fits start next rules_begin h e free = fits_some (in_rules []) next (record { count = omega arith; params = tt; few = tt }) e
step_fits start next t h e free = absurd cc
step_fits (in_rules rs) next (word n) h e free =
    fits_when (begins_upper n.text) (in_head rs n []) next (record { rules = h; room = below_by (length rs) 20000 which.Rules (free_word (in_rules rs) n free) h.count; count = omega arith }) e
step_fits (in_rules rs) next rules_end h e free = fits_when (any rs) (between rs) next h e
step_fits (in_rules rs) next t h e free = absurd cc
step_fits (in_head rs n ps) next (word p) h e free =
    let lt : length ps < 64 = below_by (length ps) 64 which.Parameters (free_word (in_head rs n ps) p free) h.count in
    fits_when (not (begins_upper p.text)) (in_head rs n (ps ++ p ∷ [])) next (record { rules = h.rules; room = h.room; count = omega (arith, length-append ps (p ∷ [])) }) e
step_fits (in_head rs n ps) next arrow h e free = fits_some (in_body rs n ps [] None) next (h, tt, tt) e
step_fits (in_head rs n ps) next t h e free = absurd cc
step_fits (in_body rs n ps outer top) next t h e free = body_fits rs n ps outer top t next h.0 h.1 h.2 e free
step_fits (between rs) next automaton_begin h e free = fits_some (in_transitions rs []) next (h, record { count = omega arith; few = tt }) e
step_fits (between rs) next t h e free = absurd cc
step_fits (in_transitions rs us) next (word q) h e free =
    fits_some (in_transition rs us q) next (h.0, h.1, below_by (length us) 200000 which.Transitions (free_word (in_transitions rs us) q free) h.1.count) e
step_fits (in_transitions rs us) next automaton_end h e free = fits_when (any us) (closed rs us) next h e
step_fits (in_transitions rs us) next t h e free = absurd cc
step_fits (in_transition rs us q) next (word a) h e free = fits_when (not (begins_upper a.text)) (before_arrow rs us q a) next h e
step_fits (in_transition rs us q) next t h e free = absurd cc
step_fits (before_arrow rs us q a) next arrow h e free = fits_some (in_children rs us q a []) next (h.0, h.1, h.2, omega arith) e
step_fits (before_arrow rs us q a) next t h e free = absurd cc
step_fits (in_children rs us q a to) next (word m) h e free =
    let lt : length to < 64 = below_by (length to) 64 which.Children (free_word (in_children rs us q a to) m free) h.3 in
    fits_some (in_children rs us q a (to ++ m ∷ [])) next (h.0, h.1, h.2, omega (arith, length-append to (m ∷ []))) e
step_fits (in_children rs us q a to) next dot h e free =
    let made : Transition = record { from = q; terminal = a; to = to } in
    fits_some (in_transitions rs (us ++ made ∷ [])) next
    (h.0, record { count = omega (arith, length-append us (made ∷ []), h.2); few = all_push (λ t. length t.to ≤ 64) us made h.1.few h.3 }) e
step_fits (in_children rs us q a to) next t h e free = absurd cc
step_fits (closed rs us) next end_of_file h e free = fits_some (finished (record { rules = rs; transitions = us })) next h e
step_fits (closed rs us) next t h e free = absurd cc
step_fits (finished f) next t h e free = absurd cc

finished_fits : (s : Stage) (f : File) → Fits s → file_at s ≡ Ok f → FitsRules f.rules × FitsTransitions f.transitions
finished_fits (finished g) f h e = let same : g ≡ f = cc in subst (λ (w : File). FitsRules w.rules × FitsTransitions w.transitions) same h
finished_fits s f h e = absurd cc

run_fits : (ts : List Placed) (s : Stage) (f : File) → Fits s → run s ts ≡ Ok f → FitsRules f.rules × FitsTransitions f.transitions
unfolding run
run_fits [] s f h e = finished_fits s f h e
run_fits (p ∷ ps) s f h e = let r = run_takes s p ps f e in run_fits ps r.next f (step_fits s r.next p.token h r.step_is r.free) r.rest

pub file_fits : (ts : List Placed) (f : File) → run start ts ≡ Ok f → FitsRules f.rules × FitsTransitions f.transitions
file_fits ts f e = run_fits ts start f tt e

-- ---- names

short_word : (s : Stage) (n : RawName) → passed s (word n) ≡ None → IsShort n
short_word s n free = ltb-false _ _ (not_if (is_long n.text) which.Name (second_none (which_if (is_long n.text) which.Name) (at_word s) free).0)

pub run_short : (ts : List Placed) (s : Stage) (f : File) → run s ts ≡ Ok f → AllByRecursion IsShort (words (kinds ts))
run_short [] s f e = tt
run_short (p ∷ ps) s f e = let r = run_takes s p ps f e in go p.token r.free (run_short ps r.next f r.rest)
  where
    go : (t : Token) → passed s t ≡ None → AllByRecursion IsShort (words (kinds ps)) → AllByRecursion IsShort (words (t ∷ kinds ps))
    go (word n) free h = (short_word s n free, h)
    go t free h = h
