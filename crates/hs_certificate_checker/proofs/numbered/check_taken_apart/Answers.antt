use Rattle.std.proofs.Common.{◌≡◌, refl, sym, subst, List, map, All}
use Rattle.std.specs.List.Sorted.{IsNonDecreasingBy}
use Rattle.hs_scheme.specs.Problem.{ProblemData}
use Rattle.hs_types.specs.Interned.{InternerData, RowData, IsRow, entry_of}
use Rattle.hs_numbered.specs.Certificates.{VoidRowData, IsVoidRow, void_of}
use Rattle.hs_choices.specs.Numbered.{AreTableRows, AreNumbered}
use Rattle.hs_certificate_checker.proofs.numbered.check_taken_apart.Goals as goal

are_numbered : (p : ProblemData) (I : InternerData) (table slice items rows : List RowData) (void pairs : List VoidRowData) → slice ≡ table → rows ≡ items → pairs ≡ void → AreTableRows p (map (entry_of I) slice) I items → All (IsRow I) items
    → IsNonDecreasingBy (λ (r : RowData). r.point) items → All (IsVoidRow I) void → AreNumbered p (map (entry_of I) table) (map (void_of I) void) I rows pairs
are_numbered p I table slice items rows void pairs is rows_are pairs_are of_table used order void_used =
    let C = map (entry_of I) table in
    let V = map (void_of I) void in
    subst (λ (z : List RowData). AreNumbered p C V I z pairs) (sym rows_are) (subst (λ (z : List VoidRowData). AreNumbered p C V I items z) (sym pairs_are) (record {
      rows = subst (λ (z : List RowData). AreTableRows p (map (entry_of I) z) I items) is of_table;
      in_use = used;
      order = order;
      pairs = refl;
      envs = void_used;
    }))

pub check_numbers-requires : goal.check_numbers-requires
check_numbers-requires c =
    let I = c.args.parts.interner in
    record {
      entries = map (entry_of I) c.args.parts.table.items;
      pairs = map (void_of I) c.args.parts.void.items;
      are = are_numbered c.args.problem.now I c.args.parts.table.items c.as_slice.result.now c.in-Ok.rows.items c.as_slice-in-Ok.result.now c.args.parts.void.items c.as_slice-in-Ok-2.result.now
          c.as_slice.ensures.value c.as_slice-in-Ok.ensures.value c.as_slice-in-Ok-2.ensures.value c.in-Ok.ensures.rows c.in-Ok.ensures.range c.in-Ok.ensures.order c.requires.void_rows;
    }

pub returns-in-Ok-clause-whole : goal.returns-in-Ok-clause-whole
returns-in-Ok-clause-whole c =
    let I = c.args.parts.interner in
    let are = are_numbered c.args.problem.now I c.args.parts.table.items c.as_slice.result.now c.in-Ok.rows.items c.as_slice-in-Ok.result.now c.args.parts.void.items c.as_slice-in-Ok-2.result.now
    c.as_slice.ensures.value c.as_slice-in-Ok.ensures.value c.as_slice-in-Ok-2.ensures.value c.in-Ok.ensures.rows c.in-Ok.ensures.range c.in-Ok.ensures.order c.requires.void_rows in
    c.check_numbers.ensures.whole (map (entry_of I) c.args.parts.table.items) (map (void_of I) c.args.parts.void.items) are c.requires.shapes

pub returns-in-Ok-clause-flaw : goal.returns-in-Ok-clause-flaw
returns-in-Ok-clause-flaw c =
    let I = c.args.parts.interner in
    let are = are_numbered c.args.problem.now I c.args.parts.table.items c.as_slice.result.now c.in-Ok.rows.items c.as_slice-in-Ok.result.now c.args.parts.void.items c.as_slice-in-Ok-2.result.now
    c.as_slice.ensures.value c.as_slice-in-Ok.ensures.value c.as_slice-in-Ok-2.ensures.value c.in-Ok.ensures.rows c.in-Ok.ensures.range c.in-Ok.ensures.order c.requires.void_rows in
    c.check_numbers.ensures.flaw (map (entry_of I) c.args.parts.table.items) (map (void_of I) c.args.parts.void.items) are c.requires.shapes
