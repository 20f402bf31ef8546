-- How the text of a rule is cut into tokens.
use Rattle.std.specs.Prelude.{ℕ, List, [], ◌∷◌, map, Bool, false, ◌&&◌, ◌||◌, ◌==◌, if◌then◌else◌, codes}
use Rattle.std.specs.List.{prefix_len, position_or_len}
use Rattle.std.specs.Str.{bytes_eq}
use Rattle.vx_words.specs.Lines.{with_first, is_blank}
use Rattle.vx_words.specs.Names.{is_word_byte, is_name}
use Rattle.vx_model.specs.declared.model.OptionField.{OptionField}
use Rattle.vx_model.specs.declared.token.Token.{Token}
use Rattle.vx_model.specs.declared.token.Token.TheVariants as token

-- Two bytes that stand side by side belong together in a word, and in an arrow.
abbrev pub joins : ℕ → ℕ → Bool
joins b c = (is_word_byte b && is_word_byte c) || (b == 45 && c == 62)

abbrev pub joins_next : ℕ → List ℕ → Bool
joins_next b [] = false
joins_next b (c ∷ cs) = joins b c

abbrev pub joins_arrow : ℕ → List ℕ → Bool
joins_arrow b [] = false
joins_arrow b (c ∷ cs) = b == 45 && c == 62

-- The pieces of a text: words, arrows, and each other byte that is no blank by itself.
abbrev pub pieces : List ℕ → List (List ℕ)
pieces [] = []
pieces (b ∷ bs) = if is_blank b then pieces bs else (if joins_next b bs then with_first b (pieces bs) else (b ∷ []) ∷ pieces bs)

-- how many bytes the piece in front has, where no blank is there
abbrev pub piece_length : List ℕ → ℕ
piece_length [] = 0
piece_length (b ∷ bs) = if joins_arrow b bs then 2 else (if is_word_byte b then prefix_len is_word_byte (b ∷ bs) else 1)

-- The number of the option of this name. Where there is none, it is the number of options, which no option has.
abbrev pub number_of : List OptionField → List ℕ → ℕ
number_of options name = position_or_len (λ o. bytes_eq o.name name) options

abbrev pub word_token : List OptionField → List ℕ → Token
word_token options piece =
    if bytes_eq piece (codes "true") then token.True
    else (if bytes_eq piece (codes "false") then token.False
    else (if is_name piece then token.Name (number_of options piece) else token.Other))

-- what a piece stands for after these options
unfoldable pub token_of : List OptionField → List ℕ → Token
token_of options piece =
    if bytes_eq piece (codes "!") then token.Not
    else (if bytes_eq piece (codes "(") then token.Open
    else (if bytes_eq piece (codes ")") then token.Close
    else (if bytes_eq piece (codes "&") then token.And
    else (if bytes_eq piece (codes "|") then token.Or
    else (if bytes_eq piece (codes "->") then token.Arrow
    else word_token options piece)))))

-- the tokens of a rule's text
abbrev pub tokens : List OptionField → List ℕ → List Token
tokens options text = map (token_of options) (pieces text)
