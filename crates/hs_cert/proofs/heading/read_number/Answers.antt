use Rattle.std.proofs.Common.{◌≡◌, ◌≢◌, ℕ, ◌++◌, sym, ◌∙◌, ap, List, subst}
use Rattle.hs_cert.specs.Certificate.{ended, IsInLine, number_line, IsWithin}
use Rattle.hs_cert.proofs.LineLemmas.{same_line}
use Rattle.hs_cert.proofs.Numbers.{some_map, none_map}
use Rattle.hs_cert.proofs.heading.read_number.Goals as goal

pub returns-in-Some-clause-read : goal.returns-in-Some-clause-read
returns-in-Some-clause-read c =
    let rest = c.next.new.self.rest.now in
    let form = c.args.form in
    some_map c.number_in.result (λ m. c.in-Some.line.now ≡ number_line form m) (λ m. c.args.lines.now.rest.now ≡ ended (number_line form m) ++ rest)
    (λ m e. c.in-Some.ensures.some ∙ ap (λ (x : List ℕ). ended x ++ rest) e) c.number_in.ensures.some

pub returns-in-Some-clause-inside : goal.returns-in-Some-clause-inside
returns-in-Some-clause-inside c =
    let form = c.args.form in
    some_map c.number_in.result (λ m. c.in-Some.line.now ≡ number_line form m) (λ m. IsInLine (number_line form m)) (λ m e. subst IsInLine e c.in-Some.ensures.inside) c.number_in.ensures.some

pub returns-in-Some-clause-none : goal.returns-in-Some-clause-none
returns-in-Some-clause-none c =
    let line = c.in-Some.line.now in
    let form = c.args.form in
    none_map c.number_in.result ((m : ℕ) → IsWithin form m → line ≢ number_line form m)
    ((m : ℕ) (behind : List ℕ) → IsWithin form m → IsInLine (number_line form m) → c.args.lines.now.rest.now ≢ ended (number_line form m) ++ behind)
    (λ f m behind within inside e. f m within (same_line line (number_line form m) c.next.new.self.rest.now behind c.in-Some.ensures.inside inside (sym c.in-Some.ensures.some ∙ e)).0)
    c.number_in.ensures.none
