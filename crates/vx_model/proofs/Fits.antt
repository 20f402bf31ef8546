-- What a good line says fits what the lines before it said.
use Rattle.std.proofs.Common.{◌≡◌, ℕ, ◌<◌, List, [], ◌∷◌, length, Bool, true, false, not, nat_le, refl, subst, arith, Option, Some, None, Result, Ok, Err}
use Rattle.std.specs.Prelude.{if◌then◌else◌, codes}
use Rattle.std.specs.Str.{bytes_eq}
use Rattle.std.specs.List.{list_any, list_all}
use Rattle.std.proofs.lemmas.Bool.Decides.{nat_tests}
use Rattle.vx_words.specs.Lines.{words, is_plain, behind_word}
use Rattle.vx_model.specs.Formula.{Formula}
use Rattle.vx_model.specs.Tokens.{tokens}
use Rattle.vx_words.specs.Names.{is_name}
use Rattle.vx_model.specs.Parser.{parsed}
use Rattle.vx_model.specs.Text.{statement_of, line_by, option_line, declared, rule_line, demanded, begins_comment, clashes, is_unknown}
use Rattle.vx_model.specs.declared.token.Token.{Token}
use Rattle.vx_model.specs.declared.model.OptionField.{OptionField}
use Rattle.vx_model.specs.declared.model.FieldPlace.{FieldPlace}
use Rattle.vx_model.specs.declared.statement.Statement.{Statement}
use Rattle.vx_model.specs.declared.statement.Statement.TheVariants as statement

-- an option that may stand behind these
pub record Fresh (options : List OptionField) (option : OptionField) : Type 0 where
  pub free : list_any (clashes option.name option.place) options ≡ false
  pub room : length options < 64
  pub named : is_name option.name ≡ true

pub record Given (options : List OptionField) (rule : Formula) : Type 0 where
  pub ts : List Token
  pub read : parsed ts ≡ Some rule
  pub known : list_any (is_unknown (length options)) ts ≡ false

abbrev pub Fits : List OptionField → Statement → Type 0
Fits options statement.Nothing = Unit {0}
Fits options (statement.Declares option) = Fresh options option
Fits options (statement.Demands rule) = Given options rule

-- a check that is passed
pub passed : {A : Type 0} (b : Bool) (reason : ℕ) (next : Result A ℕ) (x : A) → (if b then Err reason else next) ≡ Ok x → (b ≡ false) × (next ≡ Ok x)
passed true reason next x e = cc
passed false reason next x e = (refl, e)

is_kept : (b : Bool) → not b ≡ false → b ≡ true
is_kept true e = refl
is_kept false e = cc

below_64 : (n : ℕ) → nat_le 64 n ≡ false → n < 64
below_64 n e = grind (arith, nat_tests)

declared_fits : (options : List OptionField) (name : List ℕ) (place : Option FieldPlace) (s : Statement) → declared options name place ≡ Ok s → Fits options s
unfolding declared
declared_fits options name place s e =
    let one = passed (not (is_name name)) 2 _ s e in
    let two = passed (list_any (clashes name place) options) 3 _ s one.1 in
    let three = passed (nat_le 64 (length options)) 6 _ s two.1 in
    let same : statement.Declares (record { name = name; place = place }) ≡ s = cc three.1 in
    let fresh : Fits options (statement.Declares (record { name = name; place = place })) = record { free = two.0; room = below_64 (length options) three.0; named = is_kept (is_name name) one.0 } in
    subst (Fits options) same fresh

option_fits : (options : List OptionField) (ws : List (List ℕ)) (s : Statement) → option_line options ws ≡ Ok s → Fits options s
option_fits options [] s e = cc
option_fits options (name ∷ []) s e = declared_fits options name None s e
option_fits options (name ∷ class ∷ []) s e = cc
option_fits options (name ∷ class ∷ field ∷ []) s e = declared_fits options name _ s e
option_fits options (name ∷ class ∷ field ∷ w ∷ ws) s e = cc

demanded_fits : (options : List OptionField) (ts : List Token) (read : Option Formula) (s : Statement) → parsed ts ≡ read → demanded (length options) ts read ≡ Ok s → Fits options s
demanded_fits options ts None s is e = cc
demanded_fits options ts (Some rule) s is e =
    let one = passed (list_any (is_unknown (length options)) ts) 5 _ s e in
    let same : statement.Demands rule ≡ s = cc one.1 in
    let given : Fits options (statement.Demands rule) = record { ts = ts; read = is; known = one.0 } in
    subst (Fits options) same given

rule_fits : (options : List OptionField) (text : List ℕ) (s : Statement) → rule_line options text ≡ Ok s → Fits options s
unfolding rule_line
rule_fits options text s e = demanded_fits options (tokens options text) (parsed (tokens options text)) s refl e

words_fit : (options : List OptionField) (line first : List ℕ) (rest : List (List ℕ)) (s : Statement) (is_comment is_bad is_option is_rule : Bool)
    → (if is_comment then Ok statement.Nothing
    else (if is_bad then Err 1
    else (if is_option then option_line options rest
    else (if is_rule then rule_line options (behind_word line)
    else Err 1)))) ≡ Ok s → Fits options s
words_fit options line first rest s true is_bad is_option is_rule e = let same : statement.Nothing ≡ s = cc e in subst (Fits options) same tt
words_fit options line first rest s false true is_option is_rule e = cc
words_fit options line first rest s false false true is_rule e = option_fits options rest s e
words_fit options line first rest s false false false true e = rule_fits options (behind_word line) s e
words_fit options line first rest s false false false false e = cc

line_fits : (options : List OptionField) (line : List ℕ) (ws : List (List ℕ)) (s : Statement) → line_by options line ws ≡ Ok s → Fits options s
line_fits options line [] s e = let same : statement.Nothing ≡ s = cc e in subst (Fits options) same tt
line_fits options line (first ∷ rest) s e =
    words_fit options line first rest s (begins_comment first) (not (list_all is_plain line)) (bytes_eq first (codes "option")) (bytes_eq first (codes "rule")) e

pub statement_fits : (options : List OptionField) (line : List ℕ) (s : Statement) → statement_of options line ≡ Ok s → Fits options s
unfolding statement_of
statement_fits options line s e = line_fits options line (words line) s e
