use Rattle.std.proofs.Common.{◌≡◌, List, ℕ, [], ◌∷◌, refl, sym, ap, ◌∙◌, take, drop, drop-drop, ◌+◌}
use Rattle.std.specs.Prelude.{◌≢◌}
use Rattle.std.specs.List.{after_first, before_first, position_or_len}
use Rattle.vx_words.specs.Lines.{is_line_feed, parts}
use Rattle.vx_words.proofs.Parts.{first_part}
use Rattle.vx_cut.proofs.lines.split_line.Goals as goal

split : (text front rest after : List ℕ) (n : ℕ) → text ≢ [] → n ≡ position_or_len is_line_feed text → front ≡ take n text → rest ≡ drop n text → after ≡ drop 1 rest
    → parts is_line_feed text ≡ front ∷ parts is_line_feed after
split [] front rest after n filled place at behind is = absurd (filled refl)
split (b ∷ bs) front rest after n filled place at behind is =
    let text = b ∷ bs in
    let one : before_first is_line_feed text ≡ front = ap (λ m. take m text) (sym place) ∙ sym at in
    let two : after_first is_line_feed text ≡ after = ap (λ m. drop (m + 1) text) (sym place) ∙ sym (drop-drop 1 n text) ∙ ap (drop 1) (sym behind) ∙ sym is in
    first_part is_line_feed b bs ∙ (λ i. one i ∷ parts is_line_feed (two i))

pub returns-clause-parts : goal.returns-clause-parts
returns-clause-parts c = split c.args.text.now _ _ _ _ c.requires c.line_length.ensures.value c.split_at.ensures.front c.split_at.ensures.back c.behind_first.ensures
