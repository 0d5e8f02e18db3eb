-- Where the parts of a file are within their limits, no token passes a limit but the depth.
use Rattle.std.proofs.Common.{◌≡◌, refl, sym, ◌∙◌, ap, subst, ◌<◌, ◌≤◌, Bool, true, false, nat_eq, List, [], ◌∷◌, ◌++◌, length, Option, Some, None, length-append, arith}
use Rattle.std.specs.List.{AllByRecursion}
use Rattle.std.proofs.lemmas.Bool.{le-ltb, eqb-true}
use Rattle.std.proofs.lemmas.Option.{same_Some}
use Rattle.hs_scheme.specs.Tree.{Tree, Trees, node, none, more}
use Rattle.hs_reader.specs.declared.raw.RawName.{RawName}
use Rattle.hs_reader.specs.declared.fault.Which.{Which}
use Rattle.hs_reader.specs.declared.fault.Which.TheVariants as which
use Rattle.hs_reader.specs.Raw.{Rule, Transition, File}
use Rattle.hs_reader.specs.Tokens.{Token, word, rules_end, automaton_begin, automaton_end, arrow, dot, left, right, end_of_file}
use Rattle.hs_reader.specs.Grammar.{begins_upper, with_last, IsFile}
use Rattle.hs_reader.specs.Limits.{HasFewArguments, HaveFewArguments, IsShort, IsRaw}
use Rattle.hs_reader.specs.Faults.{arguments, PassesLimit, NoLimit}
use Rattle.hs_reader.specs.ReadingStages.{Stage, start, in_rules, in_head, in_body, between, in_transitions, in_transition, before_arrow, in_children, closed, finished, leaf, when, any, added, closes, ends, step, which_if, first_of, is_full, is_long, at_word, at_left, passed, steps}
use Rattle.hs_reader.proofs.Stages.{steps_split, steps_rest}
use Rattle.hs_reader.proofs.Completeness.{file_steps}
use Rattle.hs_reader.proofs.Passing.{passes_passed, passed_passes}
use Rattle.hs_reader.proofs.Names.{words, words_append, file_words}
use Rattle.hs_reader.proofs.Nodes.{last_count}
use Rattle.hs_resolve.proofs.Members.{all-append}

-- a term begun is within the limit, and one argument more is too
abbrev Few : Option (Tree RawName) → Type 0
Few None = Unit {0}
Few (Some t) = HasFewArguments t

abbrev Room : Option (Tree RawName) → Type 0
Room None = Unit {0}
Room (Some t) = HasFewArguments t × (arguments t < 64)

abbrev RuleFits : Rule → Type 0
RuleFits r = (length r.params ≤ 64) × HasFewArguments r.body

abbrev Fit : List Rule → Type 0
Fit rs = (length rs ≤ 20000) × AllByRecursion RuleFits rs

abbrev Children : List Transition → Type 0
Children us = AllByRecursion (λ t. length t.to ≤ 64) us

-- what was read so far is within the limits, with what is begun
abbrev StageFits : Stage → Type 0
StageFits start = Unit {0}
StageFits (in_rules rs) = Fit rs
StageFits (in_head rs n ps) = (length rs < 20000) × AllByRecursion RuleFits rs × (length ps ≤ 64)
StageFits (in_body rs n ps outer top) = (length rs < 20000) × AllByRecursion RuleFits rs × (length ps ≤ 64) × AllByRecursion Room outer × Few top
StageFits (between rs) = Fit rs
StageFits (in_transitions rs us) = Fit rs × (length us ≤ 200000) × Children us
StageFits (in_transition rs us q) = Fit rs × (length us < 200000) × Children us
StageFits (before_arrow rs us q a) = Fit rs × (length us < 200000) × Children us
StageFits (in_children rs us q a to) = Fit rs × (length us < 200000) × Children us × (length to ≤ 64)
StageFits (closed rs us) = Fit rs × (length us ≤ 200000) × Children us
StageFits (finished f) = Fit f.rules × (length f.transitions ≤ 200000) × Children f.transitions

came : (s next : Stage) → Some s ≡ Some next → StageFits next → StageFits s
came s next e h = subst StageFits (sym (same_Some s next e)) h

came_when : (b : Bool) (s next : Stage) → when b s ≡ Some next → StageFits next → StageFits s
came_when true s next e h = came s next e h
came_when false s next e h = absurd (cc)

few-last : (ts : Trees RawName) (u : Tree RawName) → HaveFewArguments (with_last ts u) → HaveFewArguments ts × HasFewArguments u
few-last none u h = (tt, h.0)
few-last (more t ts) u h = let r = few-last ts u h.1 in ((h.0, r.0), r.1)

few-before : (top : Option (Tree RawName)) (u : Tree RawName) → HasFewArguments (added top u) → Room top × HasFewArguments u
few-before None u h = (tt, h)
few-before (Some (node head args)) u h =
    let r = few-last args u h.1 in
    let e = last_count args u in (((omega (arith, e, h.0), r.0), omega (arith, e, h.0)), r.1)

room-few : (top : Option (Tree RawName)) → Room top → Few top
room-few None h = tt
room-few (Some t) h = h.0

closes-back : (rs : List Rule) (n : RawName) (ps : List RawName) (outer : List (Option (Tree RawName))) (top : Option (Tree RawName)) (next : Stage)
    → closes rs n ps outer top ≡ Some next → StageFits next → StageFits (in_body rs n ps outer top)
closes-back rs n ps outer None next e h = absurd (cc)
closes-back rs n ps [] (Some t) next e h = absurd (cc)
closes-back rs n ps (below ∷ outer) (Some t) next e h =
    let g = came (in_body rs n ps outer (Some (added below t))) next e h in
    let r = few-before below t g.4 in (g.0, g.1, g.2, (r.0, g.3), r.1)

ends-back : (rs : List Rule) (n : RawName) (ps : List RawName) (outer : List (Option (Tree RawName))) (top : Option (Tree RawName)) (next : Stage)
    → ends rs n ps outer top ≡ Some next → StageFits next → StageFits (in_body rs n ps outer top)
ends-back rs n ps outer None next e h = absurd (cc)
ends-back rs n ps (below ∷ outer) (Some t) next e h = absurd (cc)
ends-back rs n ps [] (Some t) next e h =
    let rule : Rule = record { name = n; params = ps; body = t } in
    let g = came (in_rules (rs ++ rule ∷ [])) next e h in
    let r = all-append RuleFits rs (rule ∷ []) g.1 in
    (omega (arith, g.0, length-append rs (rule ∷ [])), r.0, r.1.0.0, tt, r.1.0.1)

fits-back : (s : Stage) (t : Token) (next : Stage) → step s t ≡ Some next → StageFits next → StageFits s
fits-back start t next e h = tt
fits-back (in_rules rs) (word n) next e h = let g = came_when (begins_upper n.text) (in_head rs n []) next e h in (omega (arith, g.0), g.1)
fits-back (in_rules rs) rules_end next e h = came_when (any rs) (between rs) next e h
fits-back (in_rules rs) t next e h = absurd (cc)
fits-back (in_head rs n ps) (word p) next e h =
    let g = came_when _ (in_head rs n (ps ++ p ∷ [])) next e h in (g.0, g.1, omega (arith, g.2, length-append ps (p ∷ [])))
fits-back (in_head rs n ps) arrow next e h = let g = came (in_body rs n ps [] None) next e h in (g.0, g.1, g.2)
fits-back (in_head rs n ps) t next e h = absurd (cc)
fits-back (in_body rs n ps outer top) (word m) next e h =
    let g = came (in_body rs n ps outer (Some (added top (leaf m)))) next e h in (g.0, g.1, g.2, g.3, room-few top (few-before top (leaf m) g.4).0)
fits-back (in_body rs n ps outer top) left next e h =
    let g = came (in_body rs n ps (top ∷ outer) None) next e h in (g.0, g.1, g.2, g.3.1, room-few top g.3.0)
fits-back (in_body rs n ps outer top) right next e h = closes-back rs n ps outer top next e h
fits-back (in_body rs n ps outer top) dot next e h = ends-back rs n ps outer top next e h
fits-back (in_body rs n ps outer top) t next e h = absurd (cc)
fits-back (between rs) automaton_begin next e h = (came (in_transitions rs []) next e h).0
fits-back (between rs) t next e h = absurd (cc)
fits-back (in_transitions rs us) (word q) next e h = let g = came (in_transition rs us q) next e h in (g.0, omega (arith, g.1), g.2)
fits-back (in_transitions rs us) automaton_end next e h = came_when (any us) (closed rs us) next e h
fits-back (in_transitions rs us) t next e h = absurd (cc)
fits-back (in_transition rs us q) (word a) next e h = came_when _ (before_arrow rs us q a) next e h
fits-back (in_transition rs us q) t next e h = absurd (cc)
fits-back (before_arrow rs us q a) arrow next e h = let g = came (in_children rs us q a []) next e h in (g.0, g.1, g.2)
fits-back (before_arrow rs us q a) t next e h = absurd (cc)
fits-back (in_children rs us q a to) (word m) next e h =
    let g = came (in_children rs us q a (to ++ m ∷ [])) next e h in (g.0, g.1, g.2, omega (arith, g.3, length-append to (m ∷ [])))
fits-back (in_children rs us q a to) dot next e h =
    let last : Transition = record { from = q; terminal = a; to = to } in
    let g = came (in_transitions rs (us ++ last ∷ [])) next e h in
    let r = all-append (λ t. length t.to ≤ 64) us (last ∷ []) g.2 in (g.0, omega (arith, g.1, length-append us (last ∷ [])), r.0, r.1.0)
fits-back (in_children rs us q a to) t next e h = absurd (cc)
fits-back (closed rs us) end_of_file next e h = came (finished (record { rules = rs; transitions = us })) next e h
fits-back (closed rs us) t next e h = absurd (cc)
fits-back (finished f) t next e h = absurd (cc)

fits-all : (ts : List Token) (s : Stage) (f : File) → steps s ts ≡ Some (finished f) → StageFits (finished f) → StageFits s
unfolding steps
fits-all [] s f e h = came s (finished f) e h
fits-all (t ∷ ts) s f e h =
    let r = steps_rest s (finished f) t ts e in fits-back s t r.0 r.1 (fits-all ts r.0 f r.2 h)

if-off : (b : Bool) (v w : Which) → (b ≡ true → ⊥) → which_if b v ≡ Some w → ⊥
if-off true v w off e = off refl
if-off false v w off e = (cc)

not-full : (top : Option (Tree RawName)) → Room top → is_full top ≡ true → ⊥
not-full None h e = (cc)
not-full (Some t) h e = let same = eqb-true (arguments t) 64 e in omega (arith, same, h.1)

-- a name passes no limit at a stage from which all is within the limits
no-pass_word : (s : Stage) (n : RawName) (next : Stage) → step s (word n) ≡ Some next → StageFits next → (w : Which) → at_word s ≡ Some w → ⊥
no-pass_word start n next e h w p = (cc)
no-pass_word (in_rules rs) n next e h w p =
    let g = came_when (begins_upper n.text) (in_head rs n []) next e h in
    if-off (nat_eq (length rs) 20000) which.Rules w (λ q. let same = eqb-true (length rs) 20000 q in omega (arith, same, g.0)) p
no-pass_word (in_head rs m ps) n next e h w p =
    let g = came_when _ (in_head rs m (ps ++ n ∷ [])) next e h in
    if-off (nat_eq (length ps) 64) which.Parameters w (λ q. let same = eqb-true (length ps) 64 q in omega (arith, same, g.2, length-append ps (n ∷ []))) p
no-pass_word (in_body rs m ps outer top) n next e h w p =
    let g = came (in_body rs m ps outer (Some (added top (leaf n)))) next e h in
    if-off (is_full top) which.Arguments w (not-full top (few-before top (leaf n) g.4).0) p
no-pass_word (between rs) n next e h w p = (cc)
no-pass_word (in_transitions rs us) n next e h w p =
    let g = came (in_transition rs us n) next e h in
    if-off (nat_eq (length us) 200000) which.Transitions w (λ q. let same = eqb-true (length us) 200000 q in omega (arith, same, g.1)) p
no-pass_word (in_transition rs us q) n next e h w p = (cc)
no-pass_word (before_arrow rs us q a) n next e h w p = (cc)
no-pass_word (in_children rs us q a to) n next e h w p =
    let g = came (in_children rs us q a (to ++ n ∷ [])) next e h in
    if-off (nat_eq (length to) 64) which.Children w (λ r. let same = eqb-true (length to) 64 r in omega (arith, same, g.3, length-append to (n ∷ []))) p
no-pass_word (closed rs us) n next e h w p = (cc)
no-pass_word (finished f) n next e h w p = (cc)

-- a parenthesis passes at most the limit on the depth
left-pass : (b c : Bool) (w : Which) → (c ≡ true → ⊥) → first_of (which_if b which.Depth) (which_if c which.Arguments) ≡ Some w → w ≡ which.Depth
left-pass true c w off e = sym (same_Some which.Depth w e)
left-pass false c w off e = absurd (if-off c which.Arguments w off e)

no-pass_left : (s next : Stage) → step s left ≡ Some next → StageFits next → (w : Which) → at_left s ≡ Some w → w ≡ which.Depth
no-pass_left (in_body rs m ps outer top) next e h w p =
    let g = came (in_body rs m ps (top ∷ outer) None) next e h in left-pass (nat_eq (length outer) 200) (is_full top) w (not-full top g.3.0) p
no-pass_left s next e h w p = absurd (cc)

abbrev ShortWord : Token → Type 0
ShortWord (word n) = IsShort n
ShortWord t = Unit {0}

no-pass : (s : Stage) (t : Token) (next : Stage) → step s t ≡ Some next → StageFits next → ShortWord t → (w : Which) → passed s t ≡ Some w → w ≡ which.Depth
no-pass s (word n) next e h short w p =
    let short_name : is_long n.text ≡ false = le-ltb 200 (length n.text) short in
    absurd (no-pass_word s n next e h w (sym (ap (λ b. first_of (which_if b which.Name) (at_word s)) short_name) ∙ p))
no-pass s left next e h short w p = no-pass_left s next e h w p
no-pass s t next e h short w p = absurd (cc)

short-word : (before : List Token) (t : Token) (after : List Token) → AllByRecursion IsShort (words (before ++ t ∷ after)) → ShortWord t
short-word before (word n) after h = (all-append IsShort (words before) (n ∷ words after) (subst (AllByRecursion IsShort) (words_append before (word n ∷ after)) h)).1.0
short-word before t after h = tt

finished-fits : (f : File) → IsRaw f → StageFits (finished f)
finished-fits f inside = ((inside.within.rules, each f.rules inside.within.parameters inside.within.arguments), inside.within.transitions, inside.within.children)
  where
    each : (rs : List Rule) → AllByRecursion (λ r. length r.params ≤ 64) rs → AllByRecursion (λ r. HasFewArguments r.body) rs → AllByRecursion RuleFits rs
    each [] p a = tt
    each (r ∷ rs) p a = ((p.0, a.0), each rs p.1 a.1)

pub no-limit : (tokens : List Token) (f : File) → IsFile tokens f → IsRaw f
    → ((before : List Token) (t : Token) (after : List Token) → tokens ≡ before ++ t ∷ after → PassesLimit which.Depth before t → ⊥) → NoLimit tokens
no-limit tokens f is inside shallow before t after e w p =
    let all : steps start (before ++ t ∷ after) ≡ Some (finished f) = ap (steps start) (sym e) ∙ file_steps tokens f is in
    let parts = steps_split before (t ∷ after) start (finished f) all in
    let rest = steps_rest parts.0 (finished f) t after parts.2 in
    let fits = fits-all after rest.0 f rest.2 (finished-fits f inside) in
    let short = short-word before t after (subst (λ ts. AllByRecursion IsShort (words ts)) e (subst (AllByRecursion IsShort) (sym (file_words tokens f is)) inside.within.names)) in
    let over = passes_passed w before t parts.0 rest.0 parts.1 rest.1 p in
    let deep = no-pass parts.0 t rest.0 rest.1 fits short over.other over.is in
    shallow before t after e (subst (λ v. PassesLimit v before t) deep (passed_passes t parts.0 over.other before parts.1 over.is))
