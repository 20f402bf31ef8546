-- The lines that a part has more than the model's text are plain.
use Rattle.std.proofs.Common.{◌≡◌, ◌<◌, ◌^◌, ℕ, zero, suc, Bool, true, false, List, [], ◌∷◌, ◌++◌, length, refl, sym, ap, ◌∙◌, arith, append-nil}
use Rattle.std.specs.Prelude.{◌&&◌, ◌||◌, not, nat_eq, nat_le, codes, decimal}
use Rattle.std.specs.List.{list_all}
use Rattle.std.specs.Str.{bytes_eq}
use Rattle.std.specs.Char.{is_ascii_digit}
use Rattle.std.proofs.lemmas.Bool.Decides.{nat_tests}
use Rattle.vx_list.specs.Places.{item_or}
use Rattle.vx_words.specs.Lines.{is_plain}
use Rattle.vx_words.specs.Names.{AreOptionNames, is_name, is_word_byte}
use Rattle.vx_model.specs.Models.{names_of}
use Rattle.vx_model.specs.declared.model.Model.{Model}
use Rattle.vx_explain.specs.Text.{literal_text, mark, more_literals, rule_text, term_text}
use Rattle.vx_explain.specs.declared.literal.Literal.{Literal}
use Rattle.vx_cut.specs.Texts.{comment_mark, heading}
use Rattle.vx_cut.proofs.LineTexts.{both, plain_both}
use Rattle.vx_cut.proofs.Numbers.{number_plain}

-- a text of plain bytes
abbrev pub IsPlain : List ℕ → Type 0
IsPlain text = list_all is_plain text ≡ true

word_plain : (b : ℕ) → is_word_byte b ≡ true → is_plain b ≡ true
word_plain b e = grind (arith, nat_tests)

all_words_plain : (bs : List ℕ) → list_all is_word_byte bs ≡ true → IsPlain bs
all_words_plain [] h = refl
all_words_plain (b ∷ bs) h = let two = both (is_word_byte b) (list_all is_word_byte bs) h in rw (word_plain b two.0, all_words_plain bs two.1) refl

name_plain : (name : List ℕ) → is_name name ≡ true → IsPlain name
unfolding is_name
name_plain [] e = refl
name_plain (b ∷ bs) e =
    let a = both ((nat_le 1 (length (b ∷ bs)) && nat_le (length (b ∷ bs)) 64) && (list_all is_word_byte (b ∷ bs) && not (is_ascii_digit b))) (not (bytes_eq (b ∷ bs) (codes "true") || bytes_eq (b ∷ bs) (codes "false"))) e in
    let w = both (nat_le 1 (length (b ∷ bs)) && nat_le (length (b ∷ bs)) 64) (list_all is_word_byte (b ∷ bs) && not (is_ascii_digit b)) a.0 in
    all_words_plain (b ∷ bs) (both (list_all is_word_byte (b ∷ bs)) (not (is_ascii_digit b)) w.1).0

item_plain : (names : List (List ℕ)) (i : ℕ) → list_all is_name names ≡ true → IsPlain (item_or names i [])
item_plain [] i h = refl
item_plain (n ∷ ns) zero h = name_plain n (both (is_name n) (list_all is_name ns) h).0
item_plain (n ∷ ns) (suc i) h = item_plain ns i (both (is_name n) (list_all is_name ns) h).1

mark_plain : (on : Bool) → IsPlain (mark on)
mark_plain true = refl
mark_plain false = refl

literal_plain : (names : List (List ℕ)) (l : Literal) → list_all is_name names ≡ true → IsPlain (literal_text names l)
literal_plain names l h = plain_both (mark l.on) (item_or names l.option []) (mark_plain l.on) (item_plain names l.option h)

more_plain : (names : List (List ℕ)) (ls : List Literal) → list_all is_name names ≡ true → IsPlain (more_literals names ls)
more_plain names [] h = refl
more_plain names (l ∷ ls) h = plain_both (codes " & " ++ literal_text names l) (more_literals names ls) (literal_plain names l h) (more_plain names ls h)

pub term_plain : (names : List (List ℕ)) (term : List Literal) → list_all is_name names ≡ true → IsPlain (term_text names term)
unfolding term_text
term_plain names [] h = refl
term_plain names (l ∷ ls) h = plain_both (literal_text names l) (more_literals names ls) (literal_plain names l h) (more_plain names ls h)

-- the rule of one term
pub one_rule : (names : List (List ℕ)) (term : List Literal) → rule_text names (term ∷ []) ≡ term_text names term
unfolding rule_text
one_rule names term = append-nil (term_text names term)

-- the line of a heading
abbrev pub heading_line : Bool → Model → ℕ → List Literal → List ℕ
heading_line dimacs model number term = comment_mark dimacs ++ codes " part " ++ decimal number ++ codes " " ++ term_text (names_of model) term

pub heading_is : (dimacs : Bool) (model : Model) (number : ℕ) (term : List Literal) → heading dimacs model number term ≡ heading_line dimacs model number term ++ codes "\n"
unfolding heading
heading_is dimacs model number term = refl

comment_plain : (dimacs : Bool) → IsPlain (comment_mark dimacs)
comment_plain true = refl
comment_plain false = refl

pub heading_plain : (dimacs : Bool) (model : Model) (number : ℕ) (term : List Literal) → number < 2 ^ 64 → list_all is_name (names_of model) ≡ true → IsPlain (heading_line dimacs model number term)
heading_plain dimacs model number term small named =
    let mark_part = plain_both (comment_mark dimacs) (codes " part ") (comment_plain dimacs) refl in
    let with_number = plain_both (comment_mark dimacs ++ codes " part ") (decimal number) mark_part (number_plain number small) in
    let with_space = plain_both (comment_mark dimacs ++ codes " part " ++ decimal number) (codes " ") with_number refl in
    plain_both (comment_mark dimacs ++ codes " part " ++ decimal number ++ codes " ") (term_text (names_of model) term) with_space (term_plain (names_of model) term named)
