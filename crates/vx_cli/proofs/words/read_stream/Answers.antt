use Rattle.std.proofs.Common.{codes, sym, ◌∙◌, inl, inr, refl}
use Rattle.std.proofs.lemmas.Slice.Eq.{bytes_eq-Decides}
use Rattle.vx_cli.proofs.Spellings.{only_word}
use Rattle.vx_cli.proofs.words.read_stream.Goals as goal

pub returns-then-eq : goal.returns-then-eq
returns-then-eq c =
    let name = sym c.as_str.ensures.value ∙ (bytes_eq-Decides c.as_str.result.now (codes "out")).0 (sym c.if-eq.ensures) in
    let words = only_word c.args.words.now c.word-item.result c.in-len1.len_at_least c.in-len1.len_below c.word-item.is in
    inr (inl (rw (words, name) refl, refl))

pub returns-then-eq-2 : goal.returns-then-eq-2
returns-then-eq-2 c =
    let name = sym c.as_str-else-eq.ensures.value ∙ (bytes_eq-Decides c.as_str-else-eq.result.now (codes "err")).0 (sym c.if-eq-2.ensures) in
    let words = only_word c.args.words.now c.word-item.result c.in-len1.len_at_least c.in-len1.len_below c.word-item.is in
    inr (inr (rw (words, name) refl, refl))
