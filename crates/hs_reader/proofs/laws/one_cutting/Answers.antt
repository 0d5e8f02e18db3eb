use Rattle.std.proofs.Common.{◌∙◌, sym}
use Rattle.hs_reader.specs.Reading.{tokens}
use Rattle.hs_reader.proofs.Lexing.{tokens_lex, lexes_tokens}
use Rattle.hs_reader.proofs.Names.{cut_last}
use Rattle.hs_reader.proofs.laws.one_cutting.Goals as goal

pub returns-clause-some : goal.returns-clause-some
returns-clause-some c = λ bytes. (tokens 1 bytes, tokens_lex bytes)

pub returns-clause-one : goal.returns-clause-one
returns-clause-one c = λ bytes a b p q. lexes_tokens bytes a p ∙ sym (lexes_tokens bytes b q)

pub returns-clause-last : goal.returns-clause-last
returns-clause-last c = λ bytes ts l. let e = cut_last l.pieces 1 bytes l.last l.cut in (e.front, e.last, l.are ∙ e.are, e.ends)
