use Rattle.std.proofs.Common.{◌≡◌, refl, ◌∙◌, ap, map, length, slice_get, Some, Bor, List, ℕ}
use Rattle.std.proofs.lemmas.List.{take_all}
use Rattle.std.proofs.lemmas.Option.{slice_get_read}
use Rattle.hs_cert.proofs.NameLemmas.{index_more}
use Rattle.hs_cert.proofs.names.NameTable.of.Goals as goal

pub loop-name-preserved : goal.loop-name-preserved
loop-name-preserved c =
    let names = c.args.names.now in
    let i = c.loop-name.name-index in
    let x = c.name-item.result in
    let at : slice_get names i ≡ Some x = slice_get_read names (length names) i x refl c.loop-name-test.true c.name-item.is in
    ap (λ (ks : List (Bor (List ℕ))). (let ns : List (List ℕ) = map (λ k. k.now) ks in ns)) c.in_ok-insert.ensures.keys
    ∙ index_more names i x c.loop-name.index.keys c.bytes.result c.requires.differ at c.bytes.ensures c.loop-name.invariant

pub returns : goal.returns
returns c = c.loop-name.invariant ∙ take_all _ c.args.names.now c.loop-name-test.false
