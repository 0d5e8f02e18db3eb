use Rattle.std.proofs.Common.{◌≡◌, ◌≢◌, ℕ, ◌≤◌, ◌++◌, sym, ◌∙◌, ap, List, subst}
use Rattle.hs_cert.specs.declared.heading.Form.{Form}
use Rattle.hs_cert.specs.Certificate.{ended, IsInLine, count_line}
use Rattle.hs_cert.proofs.LineLemmas.{same_line}
use Rattle.hs_cert.proofs.Numbers.{some_map, none_map}
use Rattle.hs_cert.proofs.heading.read_count.Goals as goal

pub returns-in-Some-clause-read : goal.returns-in-Some-clause-read
returns-in-Some-clause-read c =
    let rest = c.next.new.self.rest.now in
    some_map c.count_in.result (λ n. c.in-Some.line.now ≡ count_line n.0 n.1) (λ n. c.args.lines.now.rest.now ≡ ended (count_line n.0 n.1) ++ rest)
    (λ n e. c.in-Some.ensures.some ∙ ap (λ (x : List ℕ). ended x ++ rest) e) c.count_in.ensures.some

pub returns-in-Some-clause-inside : goal.returns-in-Some-clause-inside
returns-in-Some-clause-inside c =
    some_map c.count_in.result (λ n. c.in-Some.line.now ≡ count_line n.0 n.1) (λ n. IsInLine (count_line n.0 n.1)) (λ n e. subst IsInLine e c.in-Some.ensures.inside) c.count_in.ensures.some

pub returns-in-Some-clause-none : goal.returns-in-Some-clause-none
returns-in-Some-clause-none c =
    let line = c.in-Some.line.now in
    none_map c.count_in.result ((form : Form) (n : ℕ) → n ≤ 1000000 → line ≢ count_line form n)
    ((form : Form) (n : ℕ) (behind : List ℕ) → n ≤ 1000000 → IsInLine (count_line form n) → c.args.lines.now.rest.now ≢ ended (count_line form n) ++ behind)
    (λ f form n behind few inside e. f form n few (same_line line (count_line form n) c.next.new.self.rest.now behind c.in-Some.ensures.inside inside (sym c.in-Some.ensures.some ∙ e)).0)
    c.count_in.ensures.none
