-- The tokens that lead to a stage, by the grammar.
use Rattle.std.proofs.Common.{◌≡◌, ◌≢◌, Bool, true, false, not, List, [], ◌∷◌, ◌++◌, map, Option, Some, None, refl, sym, ap, subst, ◌∙◌, append_assoc}
use Rattle.std.specs.Prelude.{option_and_then}
use Rattle.std.specs.List.{AllByRecursion}
use Rattle.std.proofs.lemmas.List.{map-append, append-nil}
use Rattle.std.proofs.lemmas.Option.{option_and_then_some}
use Rattle.std.proofs.lemmas.Bool.{not-true}
use Rattle.hs_scheme.specs.Tree.{Tree}
use Rattle.hs_reader.specs.declared.raw.RawName.{RawName}
use Rattle.hs_reader.specs.Raw.{Rule, Transition}
use Rattle.hs_reader.specs.Tokens.{Token, word, rules_begin, rules_end, automaton_begin, automaton_end, arrow, dot, left, right, end_of_file}
use Rattle.hs_reader.specs.Grammar.{begins_upper, IsLower, IsAtom, IsTerm, name, enclosed, first, then, IsRule, IsTransition, Sequence, IsFile}
use Rattle.hs_reader.specs.Faults.{BeforeRule, BeforeParameter, BeforeTransition}
use Rattle.hs_reader.specs.ReadingStages.{Stage, start, in_rules, in_head, in_body, between, in_transitions, in_transition, before_arrow, in_children, closed, finished, leaf, when, any, added, from_start, from_rules, from_head, closes, ends, from_body, from_between, from_transitions, from_transition, from_arrow, from_children, from_closed, step, steps}

pub steps_on : (s next : Stage) (t : Token) (ts : List Token) → step s t ≡ Some next → steps s (t ∷ ts) ≡ steps next ts
unfolding steps
steps_on s next t ts h = ap (λ (o : Option Stage). option_and_then (λ n. steps n ts) o) h

pub steps_rest : (s last : Stage) (t : Token) (ts : List Token) → steps s (t ∷ ts) ≡ Some last → (next : Stage) × (step s t ≡ Some next) × (steps next ts ≡ Some last)
unfolding steps
steps_rest s last t ts e = option_and_then_some (λ next. steps next ts) (step s t) last e (λ next p q. (next, p, q))

pub steps_append : (ts us : List Token) (s : Stage) → steps s (ts ++ us) ≡ option_and_then (λ next. steps next us) (steps s ts)
unfolding steps
steps_append [] us s = refl
steps_append (t ∷ ts) us s = go (step s t) (λ next. steps_append ts us next)
  where
    go : (o : Option Stage) → ((next : Stage) → steps next (ts ++ us) ≡ option_and_then (λ n. steps n us) (steps next ts)) → option_and_then (λ n. steps n (ts ++ us)) o ≡ option_and_then (λ n. steps n us) (option_and_then (λ n. steps n ts) o)
    go None later = refl
    go (Some next) later = later next

pub steps_through : (ts us : List Token) (s next last : Stage) → steps s ts ≡ Some next → steps next us ≡ Some last → steps s (ts ++ us) ≡ Some last
steps_through ts us s next last p q = steps_append ts us s ∙ ap (λ (o : Option Stage). option_and_then (λ n. steps n us) o) p ∙ q

pub steps_split : (ts us : List Token) (s last : Stage) → steps s (ts ++ us) ≡ Some last → (next : Stage) × (steps s ts ≡ Some next) × (steps next us ≡ Some last)
steps_split ts us s last e = option_and_then_some (λ next. steps next us) (steps s ts) last (sym (steps_append ts us s) ∙ e) (λ next p q. (next, p, q))

-- ---- what was read up to a stage

pub all_push : {A : Type 0} (P : A → Type 0) (xs : List A) (y : A) → AllByRecursion P xs → P y → AllByRecursion P (xs ++ y ∷ [])
all_push P [] y h p = (p, tt)
all_push P (x ∷ xs) y h p = (h.0, all_push P xs y h.1 p)

sequence_push : {A : Type 0} (Is : List Token → A → Type 0) (xs : List A) (y : A) (ts us : List Token) → Sequence Is ts xs → Is us y → Sequence Is (ts ++ us) (xs ++ y ∷ [])
sequence_push Is [] y ts us h p = (us, [], ap (λ (w : List Token). w ++ us) h ∙ sym (append-nil us), p, refl)
sequence_push Is (x ∷ xs) y ts us h p =
    (h.0, h.1 ++ us, ap (λ (w : List Token). w ++ us) h.2 ∙ append_assoc h.0 h.1 us, h.3, sequence_push Is xs y h.1 us h.4 p)

-- the tokens of a term that is begun
abbrev pub IsBegun : List Token → Option (Tree RawName) → Type 0
IsBegun ts None = ts ≡ []
IsBegun ts (Some t) = IsTerm ts t

-- the tokens behind an arrow
abbrev pub AreBegun : List Token → List (Option (Tree RawName)) → Option (Tree RawName) → Type 0
AreBegun ts [] top = IsBegun ts top
AreBegun ts (below ∷ outer) top = (front : List Token) × (inner : List Token) × (ts ≡ front ++ left ∷ inner) × IsBegun inner top × AreBegun front outer below

pub record BodyRead (pre : List Token) (rs : List Rule) (n : RawName) (ps : List RawName) (outer : List (Option (Tree RawName))) (top : Option (Tree RawName)) : Type 0 where
  pub before : List Token
  pub head : BeforeParameter before rs n ps
  pub tokens : List Token
  pub are : pre ≡ before ++ arrow ∷ tokens
  pub begun : AreBegun tokens outer top

pub record BetweenRead (pre : List Token) (rs : List Rule) : Type 0 where
  pub before : List Token
  pub rules : BeforeRule before rs
  pub some : rs ≢ []
  pub are : pre ≡ before ++ rules_end ∷ []

pub record TransitionRead (pre : List Token) (rs : List Rule) (us : List Transition) (behind : List Token) : Type 0 where
  pub before : List Token
  pub transitions : BeforeTransition before rs us
  pub are : pre ≡ before ++ behind

pub record ClosedRead (pre : List Token) (rs : List Rule) (us : List Transition) : Type 0 where
  pub before : List Token
  pub transitions : BeforeTransition before rs us
  pub some : us ≢ []
  pub are : pre ≡ before ++ automaton_end ∷ []

abbrev pub Reached : List Token → Stage → Type 0
Reached pre start = pre ≡ []
Reached pre (in_rules rs) = BeforeRule pre rs
Reached pre (in_head rs n ps) = BeforeParameter pre rs n ps
Reached pre (in_body rs n ps outer top) = BodyRead pre rs n ps outer top
Reached pre (between rs) = BetweenRead pre rs
Reached pre (in_transitions rs us) = BeforeTransition pre rs us
Reached pre (in_transition rs us q) = TransitionRead pre rs us (word q ∷ [])
Reached pre (before_arrow rs us q a) = TransitionRead pre rs us (word q ∷ (word a ∷ [])) × IsLower a
Reached pre (in_children rs us q a to) = TransitionRead pre rs us (word q ∷ (word a ∷ (arrow ∷ map word to))) × IsLower a
Reached pre (closed rs us) = ClosedRead pre rs us
Reached pre (finished f) = IsFile pre f

-- ---- one step

pub passes_when : (b : Bool) (s next : Stage) → when b s ≡ Some next → (b ≡ true) × (s ≡ next)
passes_when true s next e = (refl, cc)
passes_when false s next e = absurd cc

some_is : (s next : Stage) (pre : List Token) → Reached pre s → Some s ≡ Some next → Reached pre next
some_is s next pre h e = let same : s ≡ next = cc in subst (Reached pre) same h

any_is : {A : Type 0} (xs : List A) → any xs ≡ true → xs ≢ []
any_is [] h e = absurd cc
any_is (x ∷ xs) h e = cc

grown : (pre before behind : List Token) (t : Token) → pre ≡ before ++ behind → pre ++ t ∷ [] ≡ before ++ (behind ++ t ∷ [])
grown pre before behind t e = ap (λ (w : List Token). w ++ t ∷ []) e ∙ append_assoc before behind (t ∷ [])

start_reaches : (t : Token) (next : Stage) (pre : List Token) → pre ≡ [] → from_start t ≡ Some next → Reached (pre ++ t ∷ []) next
start_reaches rules_begin next pre h e = some_is (in_rules []) next (pre ++ rules_begin ∷ []) (record { rule_tokens = []; are = ap (λ (w : List Token). w ++ rules_begin ∷ []) h; each = refl }) e
start_reaches t next pre h e = absurd cc

rules_reaches : (rs : List Rule) (t : Token) (next : Stage) (pre : List Token) → BeforeRule pre rs → from_rules rs t ≡ Some next → Reached (pre ++ t ∷ []) next
rules_reaches rs (word n) next pre h e =
    let p = passes_when (begins_upper n.text) (in_head rs n []) next e in
    subst (Reached (pre ++ word n ∷ [])) p.1 (record { before = pre; earlier = h; upper = p.0; lower = tt; are = refl })
rules_reaches rs rules_end next pre h e =
    let p = passes_when (any rs) (between rs) next e in
    subst (Reached (pre ++ rules_end ∷ [])) p.1 (record { before = pre; rules = h; some = any_is rs p.0; are = refl })
rules_reaches rs t next pre h e = absurd cc

head_reaches : (rs : List Rule) (n : RawName) (ps : List RawName) (t : Token) (next : Stage) (pre : List Token) → BeforeParameter pre rs n ps → from_head rs n ps t ≡ Some next → Reached (pre ++ t ∷ []) next
head_reaches rs n ps (word p) next pre h e =
    let w = passes_when (not (begins_upper p.text)) (in_head rs n (ps ++ p ∷ [])) next e in
    subst (Reached (pre ++ word p ∷ [])) w.1 (record {
      before = h.before;
      earlier = h.earlier;
      upper = h.upper;
      lower = all_push IsLower ps p h.lower (not-true (begins_upper p.text) w.0);
      are = grown pre h.before (word n ∷ map word ps) (word p) h.are ∙ ap (λ (w : List Token). h.before ++ (word n ∷ w)) (sym (map-append word ps (p ∷ [])));
    })
head_reaches rs n ps arrow next pre h e = some_is (in_body rs n ps [] None) next (pre ++ arrow ∷ []) (record { before = pre; head = h; tokens = []; are = refl; begun = refl }) e
head_reaches rs n ps t next pre h e = absurd cc

-- a term that is begun, with an atom more
add_atom : (ts us : List Token) (top : Option (Tree RawName)) (u : Tree RawName) → IsBegun ts top → IsAtom us u → IsTerm (ts ++ us) (added top u)
add_atom ts us None u h atom = subst (λ (w : List Token). IsTerm (w ++ us) u) (sym h) (first us u atom)
add_atom ts us (Some t) u h atom = then ts us t u h atom

add_begun : (outer : List (Option (Tree RawName))) (ts us : List Token) (top : Option (Tree RawName)) (u : Tree RawName) → AreBegun ts outer top → IsAtom us u → AreBegun (ts ++ us) outer (Some (added top u))
add_begun [] ts us top u h atom = add_atom ts us top u h atom
add_begun (below ∷ outer) ts us top u h atom =
    (h.0, h.1 ++ us, ap (λ (w : List Token). w ++ us) h.2 ∙ append_assoc h.0 (left ∷ h.1) us, add_atom h.1 us top u h.3 atom, h.4)

body_atom : (rs : List Rule) (n : RawName) (ps : List RawName) (outer : List (Option (Tree RawName))) (top : Option (Tree RawName)) (u : Tree RawName) (pre us : List Token) → BodyRead pre rs n ps outer top → IsAtom us u → BodyRead (pre ++ us) rs n ps outer (Some (added top u))
body_atom rs n ps outer top u pre us h atom = record {
  before = h.before;
  head = h.head;
  tokens = h.tokens ++ us;
  are = ap (λ (w : List Token). w ++ us) h.are ∙ append_assoc h.before (arrow ∷ h.tokens) us;
  begun = add_begun outer h.tokens us top u h.begun atom;
}

body_closes : (rs : List Rule) (n : RawName) (ps : List RawName) (outer : List (Option (Tree RawName))) (top : Option (Tree RawName)) (next : Stage) (pre : List Token) → BodyRead pre rs n ps outer top → closes rs n ps outer top ≡ Some next → Reached (pre ++ right ∷ []) next
body_closes rs n ps outer None next pre h e = absurd cc
body_closes rs n ps [] (Some t) next pre h e = absurd cc
body_closes rs n ps (below ∷ outer) (Some t) next pre h e =
    let front : List Token = h.begun.0 in
    let inner : List Token = h.begun.1 in
    let whole : BodyRead (h.before ++ arrow ∷ front) rs n ps outer below = record { before = h.before; head = h.head; tokens = front; are = refl; begun = h.begun.4 } in
    let made = body_atom rs n ps outer below t (h.before ++ arrow ∷ front) (left ∷ (inner ++ right ∷ [])) whole (enclosed inner t h.begun.3) in
    let same : (h.before ++ arrow ∷ front) ++ (left ∷ (inner ++ right ∷ [])) ≡ pre ++ right ∷ [] =
    append_assoc h.before (arrow ∷ front) (left ∷ (inner ++ right ∷ []))
    ∙ ap (λ (w : List Token). h.before ++ (arrow ∷ w)) (sym (append_assoc front (left ∷ inner) (right ∷ [])) ∙ ap (λ (w : List Token). w ++ right ∷ []) (sym h.begun.2))
    ∙ sym (append_assoc h.before (arrow ∷ h.tokens) (right ∷ [])) ∙ ap (λ (w : List Token). w ++ right ∷ []) (sym h.are) in
    some_is (in_body rs n ps outer (Some (added below t))) next (pre ++ right ∷ []) (subst (λ (w : List Token). BodyRead w rs n ps outer (Some (added below t))) same made) e

body_ends : (rs : List Rule) (n : RawName) (ps : List RawName) (outer : List (Option (Tree RawName))) (top : Option (Tree RawName)) (next : Stage) (pre : List Token) → BodyRead pre rs n ps outer top → ends rs n ps outer top ≡ Some next → Reached (pre ++ dot ∷ []) next
body_ends rs n ps outer None next pre h e = absurd cc
body_ends rs n ps (below ∷ outer) (Some t) next pre h e = absurd cc
body_ends rs n ps [] (Some t) next pre h e =
    let made : Rule = record { name = n; params = ps; body = t } in
    let rules = h.head.earlier in
    let tokens : List Token = (word n ∷ map word ps) ++ arrow ∷ (h.tokens ++ dot ∷ []) in
    some_is (in_rules (rs ++ made ∷ [])) next (pre ++ dot ∷ []) (record {
      rule_tokens = rules.rule_tokens ++ tokens;
      are = grown pre h.before (arrow ∷ h.tokens) dot h.are
          ∙ ap (λ (w : List Token). w ++ (arrow ∷ (h.tokens ++ dot ∷ []))) h.head.are
          ∙ append_assoc h.head.before (word n ∷ map word ps) (arrow ∷ (h.tokens ++ dot ∷ []))
          ∙ ap (λ (w : List Token). w ++ tokens) rules.are;
      each = sequence_push IsRule rs made rules.rule_tokens tokens rules.each (record { name = h.head.upper; params = h.head.lower; body_tokens = h.tokens; body = h.begun; are = refl });
    }) e

body_reaches : (rs : List Rule) (n : RawName) (ps : List RawName) (outer : List (Option (Tree RawName))) (top : Option (Tree RawName)) (t : Token) (next : Stage) (pre : List Token) → BodyRead pre rs n ps outer top → from_body rs n ps outer top t ≡ Some next → Reached (pre ++ t ∷ []) next
body_reaches rs n ps outer top (word m) next pre h e =
    some_is (in_body rs n ps outer (Some (added top (leaf m)))) next (pre ++ word m ∷ []) (body_atom rs n ps outer top (leaf m) pre (word m ∷ []) h (name m)) e
body_reaches rs n ps outer top left next pre h e =
    some_is (in_body rs n ps (top ∷ outer) None) next (pre ++ left ∷ []) (record {
      before = h.before;
      head = h.head;
      tokens = h.tokens ++ left ∷ [];
      are = grown pre h.before (arrow ∷ h.tokens) left h.are;
      begun = (h.tokens, [], refl, refl, h.begun);
    }) e
body_reaches rs n ps outer top right next pre h e = body_closes rs n ps outer top next pre h e
body_reaches rs n ps outer top dot next pre h e = body_ends rs n ps outer top next pre h e
body_reaches rs n ps outer top t next pre h e = absurd cc

between_reaches : (rs : List Rule) (t : Token) (next : Stage) (pre : List Token) → BetweenRead pre rs → from_between rs t ≡ Some next → Reached (pre ++ t ∷ []) next
between_reaches rs automaton_begin next pre h e =
    some_is (in_transitions rs []) next (pre ++ automaton_begin ∷ [])
    (record { before = h.before; earlier = h.rules; some_rule = h.some; transition_tokens = []; are = grown pre h.before (rules_end ∷ []) automaton_begin h.are; each = refl }) e
between_reaches rs t next pre h e = absurd cc

transitions_reaches : (rs : List Rule) (us : List Transition) (t : Token) (next : Stage) (pre : List Token) → BeforeTransition pre rs us → from_transitions rs us t ≡ Some next → Reached (pre ++ t ∷ []) next
transitions_reaches rs us (word q) next pre h e = some_is (in_transition rs us q) next (pre ++ word q ∷ []) (record { before = pre; transitions = h; are = refl }) e
transitions_reaches rs us automaton_end next pre h e =
    let p = passes_when (any us) (closed rs us) next e in
    subst (Reached (pre ++ automaton_end ∷ [])) p.1 (record { before = pre; transitions = h; some = any_is us p.0; are = refl })
transitions_reaches rs us t next pre h e = absurd cc

transition_reaches : (rs : List Rule) (us : List Transition) (q : RawName) (t : Token) (next : Stage) (pre : List Token) → TransitionRead pre rs us (word q ∷ []) → from_transition rs us q t ≡ Some next → Reached (pre ++ t ∷ []) next
transition_reaches rs us q (word a) next pre h e =
    let p = passes_when (not (begins_upper a.text)) (before_arrow rs us q a) next e in
    subst (Reached (pre ++ word a ∷ [])) p.1 (record { before = h.before; transitions = h.transitions; are = grown pre h.before (word q ∷ []) (word a) h.are }, not-true (begins_upper a.text) p.0)
transition_reaches rs us q t next pre h e = absurd cc

arrow_reaches : (rs : List Rule) (us : List Transition) (q a : RawName) (t : Token) (next : Stage) (pre : List Token) → TransitionRead pre rs us (word q ∷ (word a ∷ [])) → IsLower a → from_arrow rs us q a t ≡ Some next → Reached (pre ++ t ∷ []) next
arrow_reaches rs us q a arrow next pre h lower e =
    some_is (in_children rs us q a []) next (pre ++ arrow ∷ []) (record { before = h.before; transitions = h.transitions; are = grown pre h.before (word q ∷ (word a ∷ [])) arrow h.are }, lower) e
arrow_reaches rs us q a t next pre h lower e = absurd cc

children_reaches : (rs : List Rule) (us : List Transition) (q a : RawName) (to : List RawName) (t : Token) (next : Stage) (pre : List Token) → TransitionRead pre rs us (word q ∷ (word a ∷ (arrow ∷ map word to))) → IsLower a → from_children rs us q a to t ≡ Some next → Reached (pre ++ t ∷ []) next
children_reaches rs us q a to (word m) next pre h lower e =
    some_is (in_children rs us q a (to ++ m ∷ [])) next (pre ++ word m ∷ []) (
      record {
        before = h.before;
        transitions = h.transitions;
        are = grown pre h.before (word q ∷ (word a ∷ (arrow ∷ map word to))) (word m) h.are ∙ ap (λ (w : List Token). h.before ++ (word q ∷ (word a ∷ (arrow ∷ w)))) (sym (map-append word to (m ∷ [])));
      },
      lower,
    ) e
children_reaches rs us q a to dot next pre h lower e =
    let these : List Token = word q ∷ (word a ∷ (arrow ∷ (map word to ++ dot ∷ []))) in
    let made : Transition = record { from = q; terminal = a; to = to } in
    let read = h.transitions in
    some_is (in_transitions rs (us ++ made ∷ [])) next (pre ++ dot ∷ []) (record {
      before = read.before;
      earlier = read.earlier;
      some_rule = read.some_rule;
      transition_tokens = read.transition_tokens ++ these;
      are = grown pre h.before (word q ∷ (word a ∷ (arrow ∷ map word to))) dot h.are ∙ ap (λ (w : List Token). w ++ these) read.are ∙ append_assoc read.before (rules_end ∷ (automaton_begin ∷ read.transition_tokens)) these;
      each = sequence_push IsTransition us made read.transition_tokens these read.each (record { terminal = lower; are = refl });
    }) e
children_reaches rs us q a to t next pre h lower e = absurd cc

closed_reaches : (rs : List Rule) (us : List Transition) (t : Token) (next : Stage) (pre : List Token) → ClosedRead pre rs us → from_closed rs us t ≡ Some next → Reached (pre ++ t ∷ []) next
closed_reaches rs us end_of_file next pre h e =
    let read = h.transitions in
    let behind : List Token = rules_end ∷ (automaton_begin ∷ (read.transition_tokens ++ (automaton_end ∷ (end_of_file ∷ [])))) in
    some_is (finished (record { rules = rs; transitions = us })) next (pre ++ end_of_file ∷ []) (record {
      has_rule = read.some_rule;
      has_transition = h.some;
      rule_tokens = read.earlier.rule_tokens;
      rules = read.earlier.each;
      transition_tokens = read.transition_tokens;
      transitions = read.each;
      are = grown pre h.before (automaton_end ∷ []) end_of_file h.are
          ∙ ap (λ (w : List Token). w ++ (automaton_end ∷ (end_of_file ∷ []))) read.are
          ∙ append_assoc read.before (rules_end ∷ (automaton_begin ∷ read.transition_tokens)) (automaton_end ∷ (end_of_file ∷ []))
          ∙ ap (λ (w : List Token). w ++ behind) read.earlier.are;
    }) e
closed_reaches rs us t next pre h e = absurd cc

pub step_reaches : (s : Stage) (t : Token) (next : Stage) (pre : List Token) → Reached pre s → step s t ≡ Some next → Reached (pre ++ t ∷ []) next
step_reaches start t next pre h e = start_reaches t next pre h e
step_reaches (in_rules rs) t next pre h e = rules_reaches rs t next pre h e
step_reaches (in_head rs n ps) t next pre h e = head_reaches rs n ps t next pre h e
step_reaches (in_body rs n ps outer top) t next pre h e = body_reaches rs n ps outer top t next pre h e
step_reaches (between rs) t next pre h e = between_reaches rs t next pre h e
step_reaches (in_transitions rs us) t next pre h e = transitions_reaches rs us t next pre h e
step_reaches (in_transition rs us q) t next pre h e = transition_reaches rs us q t next pre h e
step_reaches (before_arrow rs us q a) t next pre h e = arrow_reaches rs us q a t next pre h.0 h.1 e
step_reaches (in_children rs us q a to) t next pre h e = children_reaches rs us q a to t next pre h.0 h.1 e
step_reaches (closed rs us) t next pre h e = closed_reaches rs us t next pre h e
step_reaches (finished f) t next pre h e = absurd cc

steps_reach : (ts : List Token) (s last : Stage) (pre : List Token) → Reached pre s → steps s ts ≡ Some last → Reached (pre ++ ts) last
unfolding steps
steps_reach [] s last pre h e = let same : s ≡ last = cc in subst (λ (w : List Token). Reached w last) (sym (append-nil pre)) (subst (Reached pre) same h)
steps_reach (t ∷ ts) s last pre h e =
    let r = steps_rest s last t ts e in
    subst (λ (w : List Token). Reached w last) (append_assoc pre (t ∷ []) ts) (steps_reach ts r.0 last (pre ++ t ∷ []) (step_reaches s t r.0 pre h r.1) r.2)

pub reaches : (ts : List Token) (s : Stage) → steps start ts ≡ Some s → Reached ts s
reaches ts s e = steps_reach ts start s [] refl e
