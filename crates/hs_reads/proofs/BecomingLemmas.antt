-- What parameters may become.
use Rattle.std.proofs.Common.{◌≡◌, refl, sym, ◌∙◌, ap, subst, ℕ, ◌+◌, length, List, get_or, slice_get, Some, Contains, []}
use Rattle.std.proofs.lemmas.Option.{slice_get-get_or, same_Some}
use Rattle.hs_scheme.specs.declared.term.Head.{Head}
use Rattle.hs_scheme.specs.declared.term.Head.TheVariants.{Var, Nt, Tm}
use Rattle.hs_scheme.specs.flow.Points.{PointData, PointsData, point_at}
use Rattle.hs_scheme.specs.Problem.{ProblemData}
use Rattle.hs_table_laws.proofs.Places.{within_from}
use Rattle.hs_weak.specs.Reads.{PointIs, FlowsTo, Becomes, by_terminal, by_parameter}
use Rattle.hs_reads.specs.declared.becoming.Becoming.{Becoming}
use Rattle.hs_scheme.specs.declared.flow.FlowPair.{FlowPair}
use Rattle.hs_scheme.specs.sorting.Parameters.{IsParameter, parameter_of}
use Rattle.hs_scheme.proofs.ParameterLemmas.{number_once}
use Rattle.hs_reads.specs.Growing.{AddsOnly, AreTooMany}
use Rattle.hs_reads.specs.Lists.{list_of}
use Rattle.hs_reads.specs.Own.{IsBecoming, AreMany}
use Rattle.hs_reads.specs.Becomings.{AreBecomings, IsByParameter, IsHeadedAt, IsByHead, AreApart, AreShort, HasTerminals, HasTerminalsOnly}
use Rattle.hs_scheme.proofs.Lists.{none_in}
use Rattle.hs_reads.proofs.GrowLemmas.{adds_all}

-- the point that is read at a number
pub point_read : (points : PointsData) (w : ℕ) (d : PointData) → slice_get points.points w ≡ Some d → point_at points w ≡ d
point_read points w d e =
    let none : PointData = record { rule = 0; head = Tm 0; args = [] } in
    same_Some (get_or points.points w none) d (sym (slice_get-get_or points.points w none (within_from points.points w d e)) ∙ e)

pub all_becomings : (p : ProblemData) (found : List Becoming) → AreBecomings p found → (v a g : ℕ) → Becomes p v a g → (rule x : ℕ) → FlowsTo p rule x v
    → Contains found (record { rule = rule; param = x; terminal = a; given = g })
all_becomings p found are v a g (by_terminal {rule = own} {args = args} at e) rule x flows =
    subst (λ n. Contains found (record { rule = rule; param = x; terminal = a; given = n })) (sym e) (are.first (record { rule = rule; param = x; point = v }) own a args flows at)
all_becomings p found are v a g (by_parameter {rule = own} {x = y} {v = w} {g = before} {args = args} at to becomes e) rule x flows =
    subst (λ n. Contains found (record { rule = rule; param = x; terminal = a; given = n })) (sym e)
    (are.next (record { rule = own; param = y; terminal = a; given = before }) (record { rule = rule; param = x; point = v }) args (all_becomings p found are w a before becomes own y to) flows at)

pub has_terminals : (p : ProblemData) (found : List Becoming) (lists : List (List Becoming)) → AreBecomings p found → IsByParameter p.points.params found lists → HasTerminals p lists
has_terminals p found lists are by rule x v a g is flows becomes = by.has (record { rule = rule; param = x; terminal = a; given = g }) (all_becomings p found are v a g becomes rule x flows) is

-- what a point is made of, as its parts are read
pub record Parts (inside : PointsData) (w rule : ℕ) (h : Head) (args : List ℕ) : Type 0 where
  pub rule_is : (point_at inside w).rule ≡ rule
  pub head_is : (point_at inside w).head ≡ h
  pub args_are : (point_at inside w).args ≡ args

pub parts_read : (p : ProblemData) (inside : PointsData) → inside ≡ p.points → (w rule : ℕ) (h : Head) (args : List ℕ) → PointIs p w rule h args → Parts inside w rule h args
parts_read p inside same w rule h args at =
    let e : point_at inside w ≡ record { rule = rule; head = h; args = args } =
    point_read inside w (record { rule = rule; head = h; args = args }) (subst (λ (x : PointsData). slice_get x.points w ≡ Some (record { rule = rule; head = h; args = args })) (sym same) at) in
    record { rule_is = ap (λ (d : PointData). d.rule) e; head_is = ap (λ (d : PointData). d.head) e; args_are = ap (λ (d : PointData). d.args) e }

pub var_same : (x y : ℕ) → Var x ≡ Var y → x ≡ y
var_same x y e = cc

pub tm_same : (a b : ℕ) → Tm a ≡ Tm b → a ≡ b
tm_same a b e = cc

pub nt_same : (f g : ℕ) → Nt f ≡ Nt g → f ≡ g
nt_same f g e = cc

-- ---- and nothing else

-- by a pair whose point has a terminal at its head
pub becomes_first : (p : ProblemData) (f : FlowPair) (rule a : ℕ) (args : List ℕ) → Contains p.flow.pairs f → PointIs p f.point rule (Tm a) args
    → IsBecoming p (record { rule = f.rule; param = f.param; terminal = a; given = length args })
becomes_first p f rule a args m at = (f.point, (m, by_terminal at refl))

-- by a pair whose point has the parameter at its head
pub becomes_next : (p : ProblemData) (b : Becoming) (f : FlowPair) (args : List ℕ) → IsBecoming p b → Contains p.flow.pairs f → PointIs p f.point b.rule (Var b.param) args
    → IsBecoming p (record { rule = f.rule; param = f.param; terminal = b.terminal; given = b.given + length args })
becomes_next p b f args known m at = (f.point, (m, by_parameter at known.1.0 known.1.1 refl))

-- the pairs in the list of a parameter
pub its_pairs : (p : ProblemData) (lists : List (List FlowPair)) (rule x : ℕ) (row : List FlowPair) → IsByHead p p.flow.pairs lists
    → (IsParameter p.points.params rule x → row ≡ list_of lists (parameter_of p.points.params rule x)) → ((f : FlowPair) → Contains row f → IsParameter p.points.params rule x)
    → (f : FlowPair) → Contains row f → IsHeadedAt p rule x f
its_pairs p lists rule x row by is parameter f m =
    let own = parameter f m in
    let h = by.only (parameter_of p.points.params rule x) f (subst (λ (fs : List FlowPair). Contains fs f) (is own) m) in
    let same = number_once p.points.params h.rule h.param rule x h.is own (sym h.number) in
    subst (λ n. IsHeadedAt p rule n f) same.1 (subst (λ n. IsHeadedAt p n h.param f) same.0 h.headed)

pub only_terminals : (p : ProblemData) (found : List Becoming) (lists : List (List Becoming)) → ((b : Becoming) → Contains found b → IsBecoming p b) → AreApart p.points.params found lists → HasTerminalsOnly p lists
only_terminals p found lists known apart rule x b own m =
    let at = apart (parameter_of p.points.params rule x) b m in
    let same = number_once p.points.params rule x b.rule b.param own at.is at.number in
    let is : IsBecoming p b = known b at.there in
    (is.0, (subst (λ n. FlowsTo p n x is.0) (sym same.0) (subst (λ n. FlowsTo p b.rule n is.0) (sym same.1) is.1.0), is.1.1))

pub many_becomings : (p : ProblemData) (found : List Becoming) → ((b : Becoming) → Contains found b → IsBecoming p b) → AreTooMany found → AreMany (IsBecoming p)
many_becomings p found known many = record { these = found; distinct = many.distinct; each = known; many = many.many }

-- what is found first
pub first_known : (p : ProblemData) (old new : List Becoming) → old ≡ [] → AddsOnly (IsBecoming p) old new → (b : Becoming) → Contains new b → IsBecoming p b
first_known p old new none only = adds_all (IsBecoming p) (IsBecoming p) old new only (λ b m. absurd (none_in b (subst (λ (bs : List Becoming). Contains bs b) none m))) (λ b k. k)

pub none_short : (old : List Becoming) → old ≡ [] → AreShort old
none_short old none b m = absurd (none_in b (subst (λ (bs : List Becoming). Contains bs b) none m))
