-- A rule over the options of a report, read as the last line of a model that declares them.
use Rattle.std.proofs.Common.{◌≡◌, ◌≢◌, ℕ, ◌+◌, ◌<◌, ◌≤◌, Bool, true, false, List, [], ◌∷◌, ◌++◌, length, map, take, refl, sym, ap, subst, ◌∙◌, arith, append_assoc, append-nil, Result, Ok, Err}
use Rattle.std.specs.Prelude.{◌&&◌, ◌||◌, not, filter, nat_le, Option, Some, None, slice_get, Contains, codes, if◌then◌else◌}
use Rattle.std.specs.List.{AllByRecursion, flat_map, list_all, list_any}
use Rattle.std.specs.Str.{bytes_eq}
use Rattle.std.specs.Char.{is_ascii_digit}
use Rattle.std.proofs.lemmas.Bool.Decides.{nat_tests}
use Rattle.std.proofs.lemmas.List.{length-append, length-map, map-append}
use Rattle.std.proofs.lemmas.List.Elements.{Contains-append_right}
use Rattle.std.proofs.Math.Seq.{take-append_seam}
use Rattle.vx_words.specs.Lines.{is_blank, is_filled, is_line_feed, is_plain, lines, parts, without_return, words}
use Rattle.vx_words.specs.Names.{AreOptionNames, is_name, is_word_byte}
use Rattle.vx_list.specs.Answers as answers
use Rattle.vx_model.specs.Answers.{Fails, reason_seen}
use Rattle.vx_model.specs.declared.fault.ModelFault.{ModelFault}
use Rattle.vx_model.specs.declared.fault.ModelFault.TheVariants as fault
use Rattle.vx_model.specs.Formula.{Formula}
use Rattle.vx_model.specs.Parser.{parsed}
use Rattle.vx_model.specs.Tokens.{tokens}
use Rattle.vx_model.specs.declared.token.Token.{Token}
use Rattle.vx_model.specs.Text.{BadLine, at_line, clashes, declared, demanded, empty, is_unknown, line_by, lines_of, model_of, rule_line, statement_of, with_statement}
use Rattle.vx_model.specs.declared.model.Model.{Model}
use Rattle.vx_model.specs.declared.model.OptionField.{OptionField}
use Rattle.vx_model.specs.declared.statement.Statement.{Statement}
use Rattle.vx_model.specs.declared.statement.Statement.TheVariants as statement
use Rattle.vx_explain.specs.Read.{options_of}
use Rattle.vx_explain.proofs.Printed.{not_same}
use Rattle.vx_check.specs.Ends.{behind_blanks}
use Rattle.vx_check.specs.Expected.{demanding, free_model, reason_of, with_rule}
use Rattle.vx_cut.proofs.LineTexts.{IsUnbroken, both, ended_then, line_then, part_alone, plain_both, plain_kept, plain_unbroken}

-- the line of an option, and that of a rule
abbrev pub option_text : List ℕ → List ℕ
option_text name = codes "option " ++ name

abbrev pub rule_text : List (List ℕ) → List ℕ
rule_text rule = codes "rule" ++ behind_blanks rule

abbrev pub demand_text : List (List ℕ) → List (List ℕ) → List ℕ
demand_text names rule = flat_map (λ name. option_text name ++ codes "\n") names ++ (rule_text rule ++ codes "\n")

-- ---- names

word_plain : (b : ℕ) → is_word_byte b ≡ true → is_plain b ≡ true
word_plain b e = grind (arith, nat_tests)

word_no_blank : (b : ℕ) → is_word_byte b ≡ true → is_blank b ≡ false
word_no_blank b e = grind (arith, nat_tests)

all_plain : (bs : List ℕ) → list_all is_word_byte bs ≡ true → list_all is_plain bs ≡ true
all_plain [] h = refl
all_plain (b ∷ bs) h = let two = both (is_word_byte b) (list_all is_word_byte bs) h in rw (word_plain b two.0) (all_plain bs two.1)

no_blanks : (bs : List ℕ) → list_all is_word_byte bs ≡ true → list_any is_blank bs ≡ false
no_blanks [] h = refl
no_blanks (b ∷ bs) h = let two = both (is_word_byte b) (list_all is_word_byte bs) h in rw (word_no_blank b two.0) (no_blanks bs two.1)

record IsLetters (name : List ℕ) : Type 0 where
  first : ℕ
  rest : List ℕ
  is : name ≡ first ∷ rest
  letters : list_all is_word_byte name ≡ true

letters_of : (name : List ℕ) → is_name name ≡ true → IsLetters name
unfolding is_name
letters_of [] e = cc (e)
letters_of (b ∷ bs) e =
    let a = both ((nat_le 1 (length (b ∷ bs)) && nat_le (length (b ∷ bs)) 64) && (list_all is_word_byte (b ∷ bs) && not (is_ascii_digit b))) (not (bytes_eq (b ∷ bs) (codes "true") || bytes_eq (b ∷ bs) (codes "false"))) e in
    let w = both (nat_le 1 (length (b ∷ bs)) && nat_le (length (b ∷ bs)) 64) (list_all is_word_byte (b ∷ bs) && not (is_ascii_digit b)) a.0 in
    record { first = b; rest = bs; is = refl; letters = (both (list_all is_word_byte (b ∷ bs)) (not (is_ascii_digit b)) w.1).0 }

option_plain : (name : List ℕ) → is_name name ≡ true → list_all is_plain (option_text name) ≡ true
option_plain name e = plain_both (codes "option ") name refl (all_plain name (letters_of name e).letters)

option_words : (name : List ℕ) → is_name name ≡ true → words (option_text name) ≡ codes "option" ∷ name ∷ []
option_words name e =
    let l = letters_of name e in
    subst (λ n. list_all is_word_byte n ≡ true → words (option_text n) ≡ codes "option" ∷ n ∷ []) (sym l.is) (λ w. ap (λ ps. filter is_filled (codes "option" ∷ ps)) (part_alone is_blank l.first l.rest (no_blanks (l.first ∷ l.rest) w))) l.letters

-- a name that is none of those before it clashes with none
not_before : (front : List (List ℕ)) (name : List ℕ) → (Contains front name → ⊥) → list_any (clashes name None) (options_of front) ≡ false
not_before [] name n = refl
not_before (x ∷ xs) name n =
    let differ : bytes_eq x name ≡ false = not_same x name (λ q. n (0, omega arith, q)) in
    rw differ (not_before xs name (λ h. n (Contains-append_right (x ∷ []) xs name h)))

declares : (front : List (List ℕ)) (name : List ℕ) → is_name name ≡ true → list_any (clashes name None) (options_of front) ≡ false → nat_le 64 (length (options_of front)) ≡ false → declared (options_of front) name None ≡ Ok (statement.Declares (record { name = name; place = None }))
unfolding declared
declares front name e clash few = rw (e, clash, few) refl

option_line_says : (os : List OptionField) (name : List ℕ) → list_all is_plain name ≡ true → line_by os (option_text name) (codes "option" ∷ name ∷ []) ≡ declared os name None
option_line_says os name plain = rw plain refl

-- an option's line declares it
option_said : (front : List (List ℕ)) (name : List ℕ) → is_name name ≡ true → (Contains front name → ⊥) → length front < 64 → statement_of (options_of front) (option_text name) ≡ Ok (statement.Declares (record { name = name; place = None }))
unfolding statement_of
option_said front name e n l =
    let count : length (options_of front) ≡ length front = length-map front (λ (x : List ℕ). record { name = x; place = None }) in
    let few : nat_le 64 (length (options_of front)) ≡ false = grind (arith, nat_tests, count) in
    ap (line_by (options_of front) (option_text name)) (option_words name e) ∙ option_line_says (options_of front) name (all_plain name (letters_of name e).letters) ∙ declares front name e (not_before front name n) few

-- ---- reading

with_one : (front : List (List ℕ)) (name : List ℕ) → with_statement (free_model front) (statement.Declares (record { name = name; place = None })) ≡ free_model (front ++ name ∷ [])
with_one front name = λ i. record { options = sym (map-append (λ (x : List ℕ). record { name = x; place = None }) front (name ∷ [])) i; rules = [] }

get_seam : (front : List (List ℕ)) (name : List ℕ) (rest : List (List ℕ)) → slice_get (front ++ name ∷ rest) (length front) ≡ Some name
get_seam [] name rest = refl
get_seam (x ∷ xs) name rest = get_seam xs name rest

named_at : (front : List (List ℕ)) (name : List ℕ) (rest : List (List ℕ)) → list_all is_name (front ++ name ∷ rest) ≡ true → is_name name ≡ true
named_at [] name rest h = (both (is_name name) (list_all is_name rest) h).0
named_at (x ∷ xs) name rest h = named_at xs name rest (both (is_name x) (list_all is_name (xs ++ name ∷ rest)) h).1

options_read : (front names : List (List ℕ)) (ls : List (List ℕ)) (n : ℕ) → AreOptionNames (front ++ names) → lines_of n (free_model front) (map option_text names ++ ls) ≡ lines_of (n + length names) (free_model (front ++ names)) ls
unfolding lines_of
options_read front [] ls n h = λ i. lines_of (none i) (free_model (sym (append-nil front) i)) ls
  where
    none : n ≡ n + length {A = List ℕ} []
    none = omega arith
options_read front (name ∷ names) ls n h =
    let named = named_at front name names h.named in
    let fresh : Contains front name → ⊥ = λ k. h.distinct (length front) name (get_seam front name names) (subst (λ xs. Contains xs name) (sym (take-append_seam front (name ∷ names))) k) in
    let few : length front < 64 = omega (arith, h.few, length-append front (name ∷ names)) in
    let moved : (front ++ name ∷ []) ++ names ≡ front ++ name ∷ names = append_assoc front (name ∷ []) names in
    ap (λ s. at_line n s (λ t. lines_of (n + 1) (with_statement (free_model front) t) (map option_text names ++ ls))) (option_said front name named fresh few)
    ∙ ap (λ m. lines_of (n + 1) m (map option_text names ++ ls)) (with_one front name)
    ∙ options_read (front ++ name ∷ []) names ls (n + 1) (subst AreOptionNames (sym moved) h)
    ∙ (λ i. lines_of (number i) (free_model (moved i)) ls)
  where
    number : n + 1 + length names ≡ n + length (name ∷ names)
    number = omega arith

rule_said : (os : List OptionField) (rule : List (List ℕ)) → list_all is_plain (rule_text rule) ≡ true → statement_of os (rule_text rule) ≡ rule_line os (behind_blanks rule)
unfolding statement_of
rule_said os [] plain = refl
rule_said os (w ∷ ws) plain = rw plain refl

lines_are : (names rule : List (List ℕ)) → list_all is_name names ≡ true → list_all is_plain (rule_text rule) ≡ true → lines (demand_text names rule) ≡ map option_text names ++ rule_text rule ∷ []
lines_are names rule named plain =
    ap (map without_return) (ended_then option_text names (rule_text rule ++ codes "\n") (unbroken names named) ∙ ap (λ ps. map option_text names ++ ps) (line_then (rule_text rule) [] (plain_unbroken (rule_text rule) plain)))
    ∙ map-append without_return (map option_text names) (rule_text rule ∷ [])
    ∙ (λ i. kept names named i ++ plain_kept (rule_text rule) plain i ∷ [])
  where
    unbroken : (xs : List (List ℕ)) → list_all is_name xs ≡ true → AllByRecursion (λ l. IsUnbroken (option_text l)) xs
    unbroken [] h = tt
    unbroken (x ∷ xs) h = let two = both (is_name x) (list_all is_name xs) h in (plain_unbroken (option_text x) (option_plain x two.0), unbroken xs two.1)

    kept : (xs : List (List ℕ)) → list_all is_name xs ≡ true → map without_return (map option_text xs) ≡ map option_text xs
    kept [] h = refl
    kept (x ∷ xs) h = let two = both (is_name x) (list_all is_name xs) h in λ i. plain_kept (option_text x) (option_plain x two.0) i ∷ kept xs two.1 i

-- the model of the text is that of the options with the rule, and its bad line is that of the rule
last_line : (n : ℕ) (names : List (List ℕ)) (line : List ℕ) (said : Result Statement ℕ) → statement_of (options_of names) line ≡ said → lines_of n (free_model names) (line ∷ []) ≡ at_line n (with_rule names said) Ok
unfolding lines_of
last_line n names line (Ok s) e = rw e refl
last_line n names line (Err reason) e = rw e refl

demand_read : (names rule : List (List ℕ)) → AreOptionNames names → list_all is_plain (behind_blanks rule) ≡ true → model_of (demand_text names rule) ≡ at_line (1 + length names) (demanding names rule) Ok
unfolding demanding
demand_read names rule h plain =
    let p : list_all is_plain (rule_text rule) ≡ true = plain_both (codes "rule") (behind_blanks rule) refl plain in
    ap (lines_of 1 empty) (lines_are names rule h.named p)
    ∙ options_read [] names (rule_text rule ∷ []) 1 h
    ∙ last_line (1 + length names) names (rule_text rule) (rule_line (options_of names) (behind_blanks rule)) (rule_said (options_of names) rule p)

-- ---- what was read

demand_ok : (n : ℕ) (demanded : Result Model ℕ) (model : Model) → at_line n demanded Ok ≡ Ok model → demanded ≡ Ok model
demand_ok n (Ok m) model e = let same : m ≡ model = cc (e) in ap Ok same
demand_ok n (Err reason) model e = cc (e)

demand_err : (n line reason : ℕ) (demanded : Result Model ℕ) → at_line n demanded Ok ≡ Err (record { line = line; reason = reason }) → demanded ≡ Err reason
demand_err n line reason (Ok m) e = cc (e)
demand_err n line reason (Err r) e = let bad : record { line = n; reason = r } ≡ record { line = line; reason = reason } = cc (e) in ap (λ (b : BadLine). Err b.reason) bad

-- the options stay
pub demanded_options : (names rule : List (List ℕ)) (model : Model) → demanding names rule ≡ Ok model → length model.options ≡ length names
unfolding demanding rule_line
demanded_options names rule model e =
    let os = options_of names in
    let ts = tokens os (behind_blanks rule) in
    by (length os) ts (parsed ts) e
  where
    count : length (options_of names) ≡ length names
    count = length-map names (λ (x : List ℕ). record { name = x; place = None })

    by_test : (f : Formula) (t : Bool) → with_rule names (if t then Err 5 else Ok (statement.Demands f)) ≡ Ok model → length model.options ≡ length names
    by_test f true e = cc (e)
    by_test f false e = let is : with_statement (free_model names) (statement.Demands f) ≡ model = cc (e) in ap (λ (m : Model). length m.options) (sym is) ∙ count

    by : (n : ℕ) (ts : List Token) (rule : Option Formula) → with_rule names (demanded n ts rule) ≡ Ok model → length model.options ≡ length names
    by n ts None e = cc (e)
    by n ts (Some f) e = by_test f (list_any (is_unknown n) ts) e

pub demand_refused : (names rule : List (List ℕ)) (fault : ModelFault) (text : List ℕ) → AreOptionNames names → list_all is_plain (behind_blanks rule) ≡ true → text ≡ demand_text names rule → Fails fault (model_of text) → answers.Fails (reason_seen (reason_of fault)) (demanding names rule)
demand_refused names rule fault.NoMemory text h plain same e = tt
demand_refused names rule (fault.Line line reason) text h plain same e = demand_err (1 + length names) line reason (demanding names rule) (sym (demand_read names rule h plain) ∙ ap model_of (sym same) ∙ e)

pub demand_accepted : (names rule : List (List ℕ)) (model : Model) (text : List ℕ) → AreOptionNames names → list_all is_plain (behind_blanks rule) ≡ true → text ≡ demand_text names rule → model_of text ≡ Ok model → demanding names rule ≡ Ok model
demand_accepted names rule model text h plain same e = demand_ok (1 + length names) (demanding names rule) model (sym (demand_read names rule h plain) ∙ ap model_of (sym same) ∙ e)
