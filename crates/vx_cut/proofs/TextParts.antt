-- A part of a model in the form of text is read as the model with a rule more.
use Rattle.std.proofs.Common.{◌≡◌, ◌<◌, ◌^◌, ℕ, ◌+◌, Bool, true, false, List, [], ◌∷◌, ◌++◌, length, map, refl, sym, ap, subst, ◌∙◌, arith, append_assoc, Result, Ok, Err}
use Rattle.std.specs.Prelude.{None, codes}
use Rattle.std.specs.List.{AllByRecursion, flat_map, list_all, position_or_len}
use Rattle.std.specs.Str.{bytes_eq}
use Rattle.std.proofs.lemmas.List.{length-map, map-append}
use Rattle.vx_words.specs.Lines.{is_line_feed, lines, parts, without_return}
use Rattle.vx_words.specs.Names.{is_name}
use Rattle.vx_model.specs.Models.{HasOptionNames, names_of}
use Rattle.vx_model.specs.Parser.{parsed}
use Rattle.vx_model.specs.Text.{at_line, demanded, empty, lines_of, model_of, rule_line, statement_of, with_statement}
use Rattle.vx_model.specs.Tokens.{number_of, pieces, token_of, tokens}
use Rattle.vx_model.specs.declared.model.Model.{Model}
use Rattle.vx_model.specs.declared.model.OptionField.{OptionField}
use Rattle.vx_model.specs.declared.statement.Statement.{Statement}
use Rattle.vx_model.specs.declared.statement.Statement.TheVariants as statement
use Rattle.vx_model.specs.declared.token.Token.{Token}
use Rattle.vx_explain.specs.Read.{RulesAreReadBack, options_of}
use Rattle.vx_explain.specs.Rules.{AreOf, term_rule}
use Rattle.vx_explain.specs.Text.{rule_text, term_text}
use Rattle.vx_explain.specs.declared.literal.Literal.{Literal}
use Rattle.vx_explain.specs.declared.rule.Rule.TheVariants.{AnyOf}
use Rattle.vx_cut.specs.Parts.{with_term}
use Rattle.vx_cut.specs.Texts.{demand, heading, line_with, lines_with, part_text}
use Rattle.vx_cut.proofs.LineTexts.{IsUnbroken, ended_then, line_then, parts_unbroken, plain_both, plain_kept, plain_unbroken}
use Rattle.vx_cut.proofs.Plainly.{IsPlain, heading_is, heading_line, heading_plain, one_rule, term_plain}

-- ---- the rule in the model's own options

number_same : (os : List OptionField) (name : List ℕ) → number_of (options_of (map (λ o. o.name) os)) name ≡ number_of os name
number_same [] name = refl
number_same (o ∷ os) name = rw (number_same os name) refl

token_same : (os : List OptionField) (piece : List ℕ) → token_of (options_of (map (λ o. o.name) os)) piece ≡ token_of os piece
unfolding token_of
token_same os piece = rw (number_same os piece) refl

tokens_same : (os : List OptionField) (ps : List (List ℕ)) → map (token_of (options_of (map (λ o. o.name) os))) ps ≡ map (token_of os) ps
tokens_same os [] = refl
tokens_same os (p ∷ ps) = λ i. token_same os p i ∷ tokens_same os ps i

rule_same : (os : List OptionField) (text : List ℕ) → rule_line (options_of (map (λ o. o.name) os)) text ≡ rule_line os text
unfolding rule_line
rule_same os text =
    let count : length (options_of (map (λ o. o.name) os)) ≡ length os = length-map (map (λ (o : OptionField). o.name) os) (λ (x : List ℕ). record { name = x; place = None }) ∙ length-map os (λ (o : OptionField). o.name) in
    λ i. demanded (count i) (tokens_same os (pieces text) i) (parsed (tokens_same os (pieces text) i))

-- the line of a rule
abbrev pub rule_text_line : Model → List Literal → List ℕ
rule_text_line model term = codes "rule " ++ term_text (names_of model) term

rule_line_plain : (model : Model) (term : List Literal) → list_all is_name (names_of model) ≡ true → IsPlain (rule_text_line model term)
rule_line_plain model term named =
    plain_both (codes "rule ") (term_text (names_of model) term) refl (term_plain (names_of model) term named)

behind_rule : (os : List OptionField) (text : List ℕ) → IsPlain (codes "rule " ++ text) → statement_of os (codes "rule " ++ text) ≡ rule_line os (32 ∷ text)
unfolding statement_of
behind_rule os text plain = rw plain refl

rule_said : RulesAreReadBack → (model : Model) (term : List Literal) → HasOptionNames model → AreOf (length model.options) (term ∷ []) → statement_of model.options (rule_text_line model term) ≡ Ok (statement.Demands (term_rule term))
rule_said law model term names of =
    let count : length (names_of model) ≡ length model.options = length-map model.options (λ (o : OptionField). o.name) in
    behind_rule model.options (term_text (names_of model) term) (rule_line_plain model term names.named)
    ∙ ap (λ t. rule_line model.options (32 ∷ t)) (sym (one_rule (names_of model) term))
    ∙ sym (rule_same model.options (32 ∷ rule_text (names_of model) (term ∷ [])))
    ∙ law (names_of model) (AnyOf (term ∷ [])) names (subst (λ n. AreOf n (term ∷ [])) (sym count) of)

comment_said : (os : List OptionField) (model : Model) (number : ℕ) (term : List Literal) → statement_of os (heading_line false model number term) ≡ Ok statement.Nothing
unfolding statement_of
comment_said os model number term = refl

-- ---- the lines of a part

own_lines : (model : Model) (more : ℕ) (ls : List (List ℕ)) → map without_return (map (line_with false model more) ls) ≡ map without_return ls
own_lines model more [] = refl
own_lines model more (l ∷ ls) = ap (λ r. without_return l ∷ r) (own_lines model more ls)

own_unbroken : (model : Model) (more : ℕ) (ls : List (List ℕ)) → AllByRecursion IsUnbroken ls → AllByRecursion (λ l. IsUnbroken (line_with false model more l)) ls
own_unbroken model more [] h = tt
own_unbroken model more (l ∷ ls) h = (h.0, own_unbroken model more ls h.1)

-- the lines of a heading, of lines that are ended, and of a last text
pub lines_between : (head last : List ℕ) (f : List ℕ → List ℕ) (ls : List (List ℕ)) → IsPlain head → AllByRecursion (λ l. IsUnbroken (f l)) ls
    → lines ((head ++ codes "\n") ++ flat_map (λ l. f l ++ codes "\n") ls ++ last) ≡ head ∷ (map without_return (map f ls) ++ lines last)
lines_between head last f ls plain unbroken =
    let own = flat_map (λ l. f l ++ codes "\n") ls in
    let moved : (head ++ codes "\n") ++ own ++ last ≡ head ++ 10 ∷ (own ++ last) = append_assoc (head ++ codes "\n") own last ∙ append_assoc head (codes "\n") (own ++ last) in
    ap (λ t. map without_return (parts is_line_feed t)) moved
    ∙ ap (map without_return) (line_then head (own ++ last) (plain_unbroken head plain))
    ∙ (λ i. plain_kept head plain i ∷ map without_return (ended_then f ls last unbroken i))
    ∙ ap (λ r. head ∷ r) (map-append without_return (map f ls) (parts is_line_feed last))

-- the lines of one plain line
pub one_line : (line : List ℕ) → IsPlain line → lines (line ++ codes "\n") ≡ line ∷ []
one_line line plain = ap (map without_return) (line_then line [] (plain_unbroken line plain)) ∙ ap (λ l. l ∷ []) (plain_kept line plain)

part_lines : (text : List ℕ) (model : Model) (number : ℕ) (term : List Literal) → number < 2 ^ 64 → HasOptionNames model
    → lines (part_text false text model number term) ≡ heading_line false model number term ∷ (lines text ++ rule_text_line model term ∷ [])
unfolding demand lines_with
part_lines text model number term small names =
    let raw = parts is_line_feed text in
    let more = length term in
    let plain = heading_plain false model number term small names.named in
    ap (λ h. lines (h ++ lines_with false model more text ++ demand false model term)) (heading_is false model number term)
    ∙ lines_between (heading_line false model number term) (rule_text_line model term ++ codes "\n") (line_with false model more) raw plain (own_unbroken model more raw (parts_unbroken text))
    ∙ (λ i. heading_line false model number term ∷ (own_lines model more raw i ++ one_line (rule_text_line model term) (rule_line_plain model term names.named) i))

-- ---- reading

next_case : (n k : ℕ) (m new : Model) (l r : List ℕ) (ls : List (List ℕ)) (s : Statement)
    → ((before : Model) → lines_of (n + 1) before ls ≡ Ok new → lines_of (k + 1) before (ls ++ r ∷ []) ≡ Ok (with_statement new s))
    → (says : Result Statement ℕ) → at_line n says (λ t. lines_of (n + 1) (with_statement m t) ls) ≡ Ok new
    → at_line k says (λ t. lines_of (k + 1) (with_statement m t) (ls ++ r ∷ [])) ≡ Ok (with_statement new s)
next_case n k m new l r ls s next (Ok t) e = next (with_statement m t) e
next_case n k m new l r ls s next (Err reason) e = cc

-- one line more
line_more : (ls : List (List ℕ)) (n k : ℕ) (m new : Model) (r : List ℕ) (s : Statement) → lines_of n m ls ≡ Ok new → statement_of new.options r ≡ Ok s → lines_of k m (ls ++ r ∷ []) ≡ Ok (with_statement new s)
unfolding lines_of
line_more [] n k m new r s e says =
    let same : m ≡ new = cc e in
    subst (λ b. at_line k (statement_of b.options r) (λ t. lines_of (k + 1) (with_statement b t) []) ≡ Ok (with_statement new s)) (sym same) (rw says refl)
line_more (l ∷ ls) n k m new r s e says = next_case n k m new l r ls s (λ before h. line_more ls (n + 1) (k + 1) before new r s h says) (statement_of m.options l) e

behind_comment : (h : List ℕ) (ls : List (List ℕ)) → statement_of [] h ≡ Ok statement.Nothing → lines_of 1 empty (h ∷ ls) ≡ lines_of 2 empty ls
unfolding lines_of
behind_comment h ls says = ap (λ s. at_line 1 s (λ t. lines_of 2 (with_statement empty t) ls)) says

-- a part is read as the model with the rule of its term
pub text_part_read : RulesAreReadBack → (text : List ℕ) (model : Model) (number : ℕ) (term : List Literal) → number < 2 ^ 64 → HasOptionNames model → AreOf (length model.options) (term ∷ [])
    → model_of text ≡ Ok model → model_of (part_text false text model number term) ≡ Ok (with_term false model term)
text_part_read law text model number term small names of read =
    ap (lines_of 1 empty) (part_lines text model number term small names)
    ∙ behind_comment (heading_line false model number term) (lines text ++ rule_text_line model term ∷ []) (comment_said [] model number term)
    ∙ line_more (lines text) 1 2 empty model (rule_text_line model term) (statement.Demands (term_rule term)) read (rule_said law model term names of)
