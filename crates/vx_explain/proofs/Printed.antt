-- The text of a rule is read as the rule: how it is cut into pieces, which tokens these are, and what the grammar makes of them.
use Rattle.std.proofs.Common.{◌≡◌, ℕ, ◌<◌, zero, suc, Bool, true, false, List, [], ◌∷◌, ◌++◌, length, map, take, refl, sym, ◌∙◌, ap, subst, arith, append_assoc}
use Rattle.std.specs.Prelude.{Some, None, Ok, ◌&&◌, ◌||◌, not, nat_eq, nat_le, slice_get, Contains, codes, if◌then◌else◌}
use Rattle.std.specs.List.{AllByRecursion, list_all, list_any}
use Rattle.std.specs.Str.{bytes_eq}
use Rattle.std.specs.Char.{is_ascii_digit}
use Rattle.std.proofs.lemmas.Bool.Decides.{nat_tests}
use Rattle.std.proofs.lemmas.List.{length-map}
use Rattle.std.proofs.lemmas.Slice.Eq.{bytes_eq-Decides}
use Rattle.vx_list.specs.Places.{item_or}
use Rattle.vx_words.specs.Lines.{with_first, is_blank}
use Rattle.vx_words.specs.Names.{AreOptionNames, is_name, is_word_byte}
use Rattle.vx_model.specs.Formula as tree
use Rattle.vx_model.specs.Grammar.{Ands, And, Imp, IsRule, Nots, Not, ands, conjunction, mark, more_ands, more_nots, name, no, nots, one_and, one_not, or, parentheses, yes}
use Rattle.vx_model.specs.Law.{ReadsTheGrammar}
use Rattle.vx_model.specs.Parser.{parsed}
use Rattle.vx_model.specs.Text.{is_unknown, rule_line}
use Rattle.vx_model.specs.Tokens.{number_of, pieces, token_of, tokens}
use Rattle.vx_model.specs.declared.statement.Statement.TheVariants as statement
use Rattle.vx_model.specs.declared.token.Token.{Token}
use Rattle.vx_model.specs.declared.token.Token.TheVariants as token
use Rattle.vx_explain.specs.declared.literal.Literal.{Literal}
use Rattle.vx_explain.specs.Read.{options_of}
use Rattle.vx_explain.specs.Rules.{AreOf, denial, formula_of, literal_rule, rule_of, term_rule, terms_in}
use Rattle.vx_explain.specs.Text.{denial_text, denials_text, literal_text, mark as mark_text, more_denials, more_literals, more_terms, rule_text, spelled_rule, term_text}
use Rattle.vx_explain.specs.declared.rule.Rule.{Rule}
use Rattle.vx_explain.specs.declared.rule.Rule.TheVariants.{AnyOf, NoneOf}

-- ---- words and marks as pieces

word_no_blank : (b : ℕ) → is_word_byte b ≡ true → is_blank b ≡ false
word_no_blank b e = grind (arith, nat_tests)

word_no_dash : (b : ℕ) → is_word_byte b ≡ true → nat_eq b 45 ≡ false
word_no_dash b e = grind (arith, nat_tests)

-- a text that is empty or begins with no byte of a word
abbrev StandsApart : List ℕ → Type 0
StandsApart [] = Unit {0}
StandsApart (b ∷ bs) = is_word_byte b ≡ false

more_bytes : (b c : ℕ) (cs : List ℕ) → is_word_byte b ≡ true → is_word_byte c ≡ true → pieces (b ∷ c ∷ cs) ≡ with_first b (pieces (c ∷ cs))
more_bytes b c cs e f = rw (word_no_blank b e, e, f) refl

last_byte : (b c : ℕ) (cs : List ℕ) → is_word_byte b ≡ true → is_word_byte c ≡ false → pieces (b ∷ c ∷ cs) ≡ (b ∷ []) ∷ pieces (c ∷ cs)
last_byte b c cs e f = rw (word_no_blank b e, e, f, word_no_dash b e) refl

end_byte : (b : ℕ) → is_word_byte b ≡ true → pieces (b ∷ []) ≡ (b ∷ []) ∷ []
end_byte b e = rw (word_no_blank b e) refl

-- a word of at least one byte, with what stands behind it
word_then : (b : ℕ) (bs rest : List ℕ) → is_word_byte b ≡ true → list_all is_word_byte bs ≡ true → StandsApart rest → pieces ((b ∷ bs) ++ rest) ≡ (b ∷ bs) ∷ pieces rest
word_then b [] [] e w s = end_byte b e
word_then b [] (r ∷ rs) e w s = last_byte b r rs e s
word_then b (c ∷ cs) rest e w s =
    let both = and_both (is_word_byte c) (list_all is_word_byte cs) w in
    more_bytes b c (cs ++ rest) e both.0 ∙ ap (with_first b) (word_then c cs rest both.0 both.1 s)
  where
    and_both : (x y : Bool) → (x && y) ≡ true → (x ≡ true) × (y ≡ true)
    and_both true y t = (refl, t)
    and_both false y t = cc (t)

-- a mark before a word
not_then : (b : ℕ) (bs : List ℕ) → pieces (33 ∷ b ∷ bs) ≡ (33 ∷ []) ∷ pieces (b ∷ bs)
not_then b bs = refl

and_then : (rest : List ℕ) → pieces (codes " & " ++ rest) ≡ codes "&" ∷ pieces rest
and_then rest = refl

or_then : (rest : List ℕ) → pieces (codes " | " ++ rest) ≡ codes "|" ∷ pieces rest
or_then rest = refl

-- ---- the token of a name

pub not_same : (a b : List ℕ) → (a ≡ b → ⊥) → bytes_eq a b ≡ false
not_same a b n = by (bytes_eq a b) refl
  where
    by : (t : Bool) → bytes_eq a b ≡ t → t ≡ false
    by true e = absurd (n ((bytes_eq-Decides a b).0 e))
    by false e = refl

-- a word that begins with a byte of words is no mark
no_mark : (b k : ℕ) (bs ks : List ℕ) → is_word_byte b ≡ true → is_word_byte k ≡ false → bytes_eq (b ∷ bs) (k ∷ ks) ≡ false
no_mark b k bs ks e f = not_same (b ∷ bs) (k ∷ ks) (λ q.
    let first : b ≡ k = cc in
    let wrong : true ≡ false = sym e ∙ ap is_word_byte first ∙ f in
    cc (wrong))

pub record IsWord (name : List ℕ) : Type 0 where
  pub first : ℕ
  pub rest : List ℕ
  pub is : name ≡ first ∷ rest
  pub first_word : is_word_byte first ≡ true
  pub rest_word : list_all is_word_byte rest ≡ true
  pub not_true : bytes_eq name (codes "true") ≡ false
  pub not_false : bytes_eq name (codes "false") ≡ false

both : (a b : Bool) → (a && b) ≡ true → (a ≡ true) × (b ≡ true)
both true b e = (refl, e)
both false b e = cc (e)

neither : (a b : Bool) → not (a || b) ≡ true → (a ≡ false) × (b ≡ false)
neither true b e = cc (e)
neither false true e = cc (e)
neither false false e = (refl, refl)

word_of_name : (name : List ℕ) → is_name name ≡ true → IsWord name
unfolding is_name
word_of_name [] e = cc (e)
word_of_name (b ∷ bs) e =
    let a = both ((nat_le 1 (length (b ∷ bs)) && nat_le (length (b ∷ bs)) 64) && (list_all is_word_byte (b ∷ bs) && not (is_ascii_digit b))) (not (bytes_eq (b ∷ bs) (codes "true") || bytes_eq (b ∷ bs) (codes "false"))) e in
    let w = both (nat_le 1 (length (b ∷ bs)) && nat_le (length (b ∷ bs)) 64) (list_all is_word_byte (b ∷ bs) && not (is_ascii_digit b)) a.0 in
    let l = both (list_all is_word_byte (b ∷ bs)) (not (is_ascii_digit b)) w.1 in
    let f = both (is_word_byte b) (list_all is_word_byte bs) l.0 in
    let n = neither (bytes_eq (b ∷ bs) (codes "true")) (bytes_eq (b ∷ bs) (codes "false")) a.1 in
    record { first = b; rest = bs; is = refl; first_word = f.0; rest_word = f.1; not_true = n.0; not_false = n.1 }

-- no name before this one is the same
position_here : (names : List (List ℕ)) (i : ℕ) (name : List ℕ) → slice_get names i ≡ Some name → (Contains (take i names) name → ⊥) → number_of (options_of names) name ≡ i
position_here [] i word e n = cc
position_here (x ∷ xs) zero word e n =
    let same : x ≡ word = cc in
    let t : bytes_eq x word ≡ true = (bytes_eq-Decides x word).1 same in
    rw t refl
position_here (x ∷ xs) (suc i) word e n =
    let differ : bytes_eq x word ≡ false = not_same x word (λ q. n (0, omega arith, q)) in
    rw (differ, position_here xs i word e (λ c. let l = c.1 in n (suc c.0, omega (arith, l), c.2))) (omega arith)

-- what is asked of the names
pub record AreWords (names : List (List ℕ)) : Type 0 where
  pub each : (i : ℕ) (name : List ℕ) → slice_get names i ≡ Some name → IsWord name × (is_name name ≡ true) × (number_of (options_of names) name ≡ i)

all_named : (names : List (List ℕ)) (i : ℕ) (name : List ℕ) → list_all is_name names ≡ true → slice_get names i ≡ Some name → is_name name ≡ true
all_named [] i word h e = cc
all_named (x ∷ xs) zero word h e = let same : x ≡ word = cc in ap is_name (sym same) ∙ (both (is_name x) (list_all is_name xs) h).0
all_named (x ∷ xs) (suc i) word h e = all_named xs i word (both (is_name x) (list_all is_name xs) h).1 e

pub AreWords-of : (names : List (List ℕ)) → AreOptionNames names → AreWords names
AreWords-of names h = record {
  each = λ i word e. let n = all_named names i word h.named e in (word_of_name word n, n, position_here names i word e (h.distinct i word e));
}

name_token : (names : List (List ℕ)) (i : ℕ) (name : List ℕ) → IsWord name → is_name name ≡ true → number_of (options_of names) name ≡ i → token_of (options_of names) name ≡ token.Name i
unfolding token_of
name_token names i word w n p =
    let marks : (k : ℕ) (ks : List ℕ) → is_word_byte k ≡ false → bytes_eq word (k ∷ ks) ≡ false = λ k ks f. ap (λ x. bytes_eq x (k ∷ ks)) w.is ∙ no_mark w.first k w.rest ks w.first_word f in
    rw (marks 33 [] refl, marks 40 [] refl, marks 41 [] refl, marks 38 [] refl, marks 124 [] refl, marks 45 (62 ∷ []) refl, w.not_true, w.not_false, n, p) refl

-- ---- tokens

-- the tokens of a text
abbrev tok : List (List ℕ) → List ℕ → List Token
tok names text = tokens (options_of names) text

pub option_there : (names : List (List ℕ)) (i : ℕ) → i < length names → slice_get names i ≡ Some (item_or names i [])
option_there [] i l = absurd (omega (arith, l))
option_there (x ∷ xs) zero l = refl
option_there (x ∷ xs) (suc i) l = option_there xs i (omega (arith, l))

name_then : (names : List (List ℕ)) → AreWords names → (i : ℕ) (rest : List ℕ) → i < length names → StandsApart rest → tok names (item_or names i [] ++ rest) ≡ token.Name i ∷ tok names rest
name_then names h i rest l s =
    let e = h.each i (item_or names i []) (option_there names i l) in
    let w = e.0 in
    let cut : pieces (item_or names i [] ++ rest) ≡ item_or names i [] ∷ pieces rest = ap (λ x. pieces (x ++ rest)) w.is ∙ word_then w.first w.rest rest w.first_word w.rest_word s ∙ ap (λ x. x ∷ pieces rest) (sym w.is) in
    ap (map (token_of (options_of names))) cut ∙ ap (λ t. t ∷ tok names rest) (name_token names i (item_or names i []) w e.1 e.2)

-- the tokens of a literal
abbrev literal_tokens : Bool → ℕ → List Token
literal_tokens true i = token.Name i ∷ []
literal_tokens false i = token.Not ∷ token.Name i ∷ []

marked : (names : List (List ℕ)) → AreWords names → (i : ℕ) (rest : List ℕ) → i < length names → tok names (33 ∷ item_or names i [] ++ rest) ≡ token.Not ∷ tok names (item_or names i [] ++ rest)
unfolding token_of
marked names h i rest l =
    let w = (h.each i (item_or names i []) (option_there names i l)).0 in
    let cut : pieces (33 ∷ item_or names i [] ++ rest) ≡ (33 ∷ []) ∷ pieces (item_or names i [] ++ rest) = ap (λ x. pieces (33 ∷ x ++ rest)) w.is ∙ not_then w.first (w.rest ++ rest) ∙ ap (λ x. (33 ∷ []) ∷ pieces (x ++ rest)) (sym w.is) in
    ap (map (token_of (options_of names))) cut

literal_then : (names : List (List ℕ)) → AreWords names → (on : Bool) (i : ℕ) (rest : List ℕ) → i < length names → StandsApart rest → tok names ((mark_text on ++ item_or names i []) ++ rest) ≡ literal_tokens on i ++ tok names rest
literal_then names h true i rest l s = name_then names h i rest l s
literal_then names h false i rest l s = marked names h i rest l ∙ ap (λ ts. token.Not ∷ ts) (name_then names h i rest l s)

literal_read : (d : ℕ) (on : Bool) (i : ℕ) (to : List Token) → Not (suc d) (literal_tokens on i ++ to) to (if on then tree.Named i else tree.Not (tree.Named i))
literal_read d true i to = name
literal_read d false i to = mark name

and_token : (names : List (List ℕ)) (rest : List ℕ) → tok names (codes " & " ++ rest) ≡ token.And ∷ tok names rest
unfolding token_of
and_token names rest = ap (map (token_of (options_of names))) (and_then rest)

or_token : (names : List (List ℕ)) (rest : List ℕ) → tok names (codes " | " ++ rest) ≡ token.Or ∷ tok names rest
unfolding token_of
or_token names rest = ap (map (token_of (options_of names))) (or_then rest)

-- the literals of a term
literals_read : (d : ℕ) (names : List (List ℕ)) → AreWords names → (l : Literal) (ls : List Literal) (rest : List ℕ) → AllByRecursion (λ (x : Literal). x.option < length names) (l ∷ ls) → StandsApart rest → Nots (suc d) (tok names (literal_text names l ++ (more_literals names ls ++ rest))) (tok names rest) (map literal_rule (l ∷ ls))
literals_read d names h l [] rest p s =
    let P : List Token → Type 0 = λ ts. Nots (suc d) ts (tok names rest) (literal_rule l ∷ []) in
    subst P (sym (literal_then names h l.on l.option rest p.0 s)) (one_not (literal_read d l.on l.option (tok names rest)))
literals_read d names h l (m ∷ ms) rest p s =
    let P : List Token → Type 0 = λ ts. Nots (suc d) ts (tok names rest) (map literal_rule (l ∷ m ∷ ms)) in
    let behind = literal_text names m ++ (more_literals names ms ++ rest) in
    let same : more_literals names (m ∷ ms) ++ rest ≡ codes " & " ++ behind = ap (λ x. codes " & " ++ x) (append_assoc (literal_text names m) (more_literals names ms) rest) in
    let cut : tok names (literal_text names l ++ (more_literals names (m ∷ ms) ++ rest)) ≡ literal_tokens l.on l.option ++ (token.And ∷ tok names behind) = literal_then names h l.on l.option (more_literals names (m ∷ ms) ++ rest) p.0 refl ∙ ap (λ x. literal_tokens l.on l.option ++ tok names x) same ∙ ap (λ ts. literal_tokens l.on l.option ++ ts) (and_token names behind) in
    subst P (sym cut) (more_nots (literal_read d l.on l.option (token.And ∷ tok names behind)) (literals_read d names h m ms rest p.1 s))

true_token : (names : List (List ℕ)) (rest : List ℕ) → StandsApart rest → tok names (codes "true" ++ rest) ≡ token.True ∷ tok names rest
unfolding token_of
true_token names rest s = ap (map (token_of (options_of names))) (word_then 116 (114 ∷ 117 ∷ 101 ∷ []) rest refl refl s)

false_token : (names : List (List ℕ)) (rest : List ℕ) → StandsApart rest → tok names (codes "false" ++ rest) ≡ token.False ∷ tok names rest
unfolding token_of
false_token names rest s = ap (map (token_of (options_of names))) (word_then 102 (97 ∷ 108 ∷ 115 ∷ 101 ∷ []) rest refl refl s)

term_read : (d : ℕ) (names : List (List ℕ)) → AreWords names → (term : List Literal) (rest : List ℕ) → AllByRecursion (λ (x : Literal). x.option < length names) term → StandsApart rest → And (suc d) (tok names (term_text names term ++ rest)) (tok names rest) (term_rule term)
unfolding term_text
term_read d names h [] rest p s =
    let P : List Token → Type 0 = λ ts. And (suc d) ts (tok names rest) tree.Always in
    subst P (sym (true_token names rest s)) (nots (one_not yes))
term_read d names h (l ∷ ls) rest p s =
    let P : List ℕ → Type 0 = λ t. And (suc d) (tok names t) (tok names rest) (term_rule (l ∷ ls)) in
    subst P (sym (append_assoc (literal_text names l) (more_literals names ls) rest)) (nots (literals_read d names h l ls rest p s))

terms_read : (names : List (List ℕ)) → AreWords names → (t : List Literal) (ts : List (List Literal)) → AreOf (length names) (t ∷ ts) → Ands 256 (tok names (term_text names t ++ more_terms names ts)) [] (map term_rule (t ∷ ts))
terms_read names h t [] p = one_and (term_read 255 names h t [] p.0 tt)
terms_read names h t (u ∷ us) p =
    let P : List Token → Type 0 = λ x. And 256 (tok names (term_text names t ++ more_terms names (u ∷ us))) x (term_rule t) in
    let behind = term_text names u ++ more_terms names us in
    let cut : tok names (more_terms names (u ∷ us)) ≡ token.Or ∷ tok names behind = or_token names behind in
    more_ands (subst P cut (term_read 255 names h t (more_terms names (u ∷ us)) p.0 refl)) (terms_read names h u us p.1)

rule_read : (names : List (List ℕ)) → AreWords names → (terms : List (List Literal)) → AreOf (length names) terms → IsRule (tok names (rule_text names terms)) (rule_of terms)
unfolding rule_text
rule_read names h [] p =
    let P : List Token → Type 0 = λ ts. Imp 256 ts [] tree.Never in
    subst P (sym (false_token names [] tt)) (or (ands (one_and (nots (one_not no)))))
rule_read names h (t ∷ ts) p = or (ands (terms_read names h t ts p))

-- ---- terms that don't hold

close_token : (names : List (List ℕ)) (rest : List ℕ) → tok names (41 ∷ rest) ≡ token.Close ∷ tok names rest
unfolding token_of
close_token names [] = refl
close_token names (b ∷ bs) = refl

open_token : (names : List (List ℕ)) (b : ℕ) (bs : List ℕ) → tok names (33 ∷ 40 ∷ b ∷ bs) ≡ token.Not ∷ token.Open ∷ tok names (b ∷ bs)
unfolding token_of
open_token names b bs = refl

-- a term's text has a first byte
record HasFirst (text : List ℕ) : Type 0 where
  first : ℕ
  rest : List ℕ
  is : text ≡ first ∷ rest

literal_first : (names : List (List ℕ)) → AreWords names → (on : Bool) (i : ℕ) → i < length names → HasFirst (mark_text on ++ item_or names i [])
literal_first names h true i l = let w = (h.each i (item_or names i []) (option_there names i l)).0 in record { first = w.first; rest = w.rest; is = w.is }
literal_first names h false i l = record { first = 33; rest = item_or names i []; is = refl }

term_first : (names : List (List ℕ)) → AreWords names → (l : Literal) (ls : List Literal) → l.option < length names → HasFirst (term_text names (l ∷ ls))
unfolding term_text
term_first names h l ls k = let f = literal_first names h l.on l.option k in record { first = f.first; rest = f.rest ++ more_literals names ls; is = ap (λ t. t ++ more_literals names ls) f.is }

-- the tokens of a term in brackets
bracket_tokens : (names : List (List ℕ)) → AreWords names → (l m : Literal) (ls : List Literal) (rest : List ℕ) → l.option < length names → tok names ((codes "!(" ++ term_text names (l ∷ m ∷ ls) ++ codes ")") ++ rest) ≡ token.Not ∷ token.Open ∷ tok names (term_text names (l ∷ m ∷ ls) ++ (41 ∷ rest))
bracket_tokens names h l m ls rest k =
    let text = term_text names (l ∷ m ∷ ls) in
    let f = term_first names h l (m ∷ ls) k in
    ap (tok names) (append_assoc (codes "!(" ++ text) (codes ")") rest)
    ∙ ap (λ t. tok names (33 ∷ 40 ∷ (t ++ (41 ∷ rest)))) f.is
    ∙ open_token names f.first (f.rest ++ (41 ∷ rest))
    ∙ ap (λ t. token.Not ∷ token.Open ∷ tok names (t ++ (41 ∷ rest))) (sym f.is)

true_bracket : (names : List (List ℕ)) (rest : List ℕ) → tok names (codes "!(true)" ++ rest) ≡ token.Not ∷ token.Open ∷ token.True ∷ token.Close ∷ tok names rest
true_bracket names rest =
    open_token names 116 (codes "rue)" ++ rest)
    ∙ ap (λ ts. token.Not ∷ token.Open ∷ ts) (true_token names (41 ∷ rest) refl ∙ ap (λ ts. token.True ∷ ts) (close_token names rest))

denial_read : (names : List (List ℕ)) → AreWords names → (t : List Literal) (rest : List ℕ) → AllByRecursion (λ (x : Literal). x.option < length names) t → StandsApart rest → Not 256 (tok names (denial_text names t ++ rest)) (tok names rest) (denial t)
unfolding term_text
denial_read names h [] rest p s =
    let P : List Token → Type 0 = λ ts. Not 256 ts (tok names rest) (denial []) in
    subst P (sym (true_bracket names rest)) (mark (parentheses (or (ands (one_and (nots (one_not yes)))))))
denial_read names h (l ∷ []) rest p s =
    let P : List Token → Type 0 = λ ts. Not 256 ts (tok names rest) (denial (l ∷ [])) in
    subst P (sym (literal_then names h (not l.on) l.option rest p.0 s)) (literal_read 255 (not l.on) l.option (tok names rest))
denial_read names h (l ∷ m ∷ ls) rest p s =
    let P : List Token → Type 0 = λ ts. Not 256 ts (tok names rest) (denial (l ∷ m ∷ ls)) in
    let Q : List Token → Type 0 = λ ts. And 254 (tok names (term_text names (l ∷ m ∷ ls) ++ (41 ∷ rest))) ts (term_rule (l ∷ m ∷ ls)) in
    subst P (sym (bracket_tokens names h l m ls rest p.0)) (mark (parentheses (or (ands (one_and (subst Q (close_token names rest) (term_read 253 names h (l ∷ m ∷ ls) (41 ∷ rest) p refl)))))))

denials_read : (names : List (List ℕ)) → AreWords names → (t : List Literal) (ts : List (List Literal)) → AreOf (length names) (t ∷ ts) → Nots 256 (tok names (denial_text names t ++ more_denials names ts)) [] (map denial (t ∷ ts))
denials_read names h t [] p = one_not (denial_read names h t [] p.0 tt)
denials_read names h t (u ∷ us) p =
    let P : List Token → Type 0 = λ x. Not 256 (tok names (denial_text names t ++ more_denials names (u ∷ us))) x (denial t) in
    let behind = denial_text names u ++ more_denials names us in
    let cut : tok names (more_denials names (u ∷ us)) ≡ token.And ∷ tok names behind = and_token names behind in
    more_nots (subst P cut (denial_read names h t (more_denials names (u ∷ us)) p.0 refl)) (denials_read names h u us p.1)

none_read : (names : List (List ℕ)) → AreWords names → (terms : List (List Literal)) → AreOf (length names) terms → IsRule (tok names (denials_text names terms)) (conjunction (map denial terms))
unfolding denials_text
none_read names h [] p =
    let P : List Token → Type 0 = λ ts. Imp 256 ts [] tree.Always in
    subst P (sym (true_token names [] tt)) (or (ands (one_and (nots (one_not yes)))))
none_read names h (t ∷ ts) p = or (ands (one_and (nots (denials_read names h t ts p))))

-- ---- no name is unknown

known_name : (n i : ℕ) → i < n → nat_le n i ≡ false
known_name n i l = grind (arith, nat_tests)

literal_known : (n : ℕ) (on : Bool) (i : ℕ) (ts : List Token) → i < n → list_any (is_unknown n) (literal_tokens on i ++ ts) ≡ list_any (is_unknown n) ts
literal_known n true i ts l = rw (known_name n i l) refl
literal_known n false i ts l = rw (known_name n i l) refl

literals_known : (names : List (List ℕ)) → AreWords names → (l : Literal) (ls : List Literal) (rest : List ℕ) → AllByRecursion (λ (x : Literal). x.option < length names) (l ∷ ls) → StandsApart rest → list_any (is_unknown (length names)) (tok names (literal_text names l ++ (more_literals names ls ++ rest))) ≡ list_any (is_unknown (length names)) (tok names rest)
literals_known names h l [] rest p s = ap (list_any (is_unknown (length names))) (literal_then names h l.on l.option rest p.0 s) ∙ literal_known (length names) l.on l.option (tok names rest) p.0
literals_known names h l (m ∷ ms) rest p s =
    let behind = literal_text names m ++ (more_literals names ms ++ rest) in
    let same : more_literals names (m ∷ ms) ++ rest ≡ codes " & " ++ behind = ap (λ x. codes " & " ++ x) (append_assoc (literal_text names m) (more_literals names ms) rest) in
    let cut : tok names (literal_text names l ++ (more_literals names (m ∷ ms) ++ rest)) ≡ literal_tokens l.on l.option ++ (token.And ∷ tok names behind) = literal_then names h l.on l.option (more_literals names (m ∷ ms) ++ rest) p.0 refl ∙ ap (λ x. literal_tokens l.on l.option ++ tok names x) same ∙ ap (λ ts. literal_tokens l.on l.option ++ ts) (and_token names behind) in
    ap (list_any (is_unknown (length names))) cut ∙ literal_known (length names) l.on l.option (token.And ∷ tok names behind) p.0 ∙ literals_known names h m ms rest p.1 s

term_known : (names : List (List ℕ)) → AreWords names → (term : List Literal) (rest : List ℕ) → AllByRecursion (λ (x : Literal). x.option < length names) term → StandsApart rest → list_any (is_unknown (length names)) (tok names (term_text names term ++ rest)) ≡ list_any (is_unknown (length names)) (tok names rest)
unfolding term_text
term_known names h [] rest p s = ap (list_any (is_unknown (length names))) (true_token names rest s)
term_known names h (l ∷ ls) rest p s = ap (λ t. list_any (is_unknown (length names)) (tok names t)) (append_assoc (literal_text names l) (more_literals names ls) rest) ∙ literals_known names h l ls rest p s

terms_known : (names : List (List ℕ)) → AreWords names → (t : List Literal) (ts : List (List Literal)) → AreOf (length names) (t ∷ ts) → list_any (is_unknown (length names)) (tok names (term_text names t ++ more_terms names ts)) ≡ false
terms_known names h t [] p = term_known names h t [] p.0 tt
terms_known names h t (u ∷ us) p =
    let behind = term_text names u ++ more_terms names us in
    term_known names h t (more_terms names (u ∷ us)) p.0 refl ∙ ap (list_any (is_unknown (length names))) (or_token names behind) ∙ terms_known names h u us p.1

rule_known : (names : List (List ℕ)) → AreWords names → (terms : List (List Literal)) → AreOf (length names) terms → list_any (is_unknown (length names)) (tok names (rule_text names terms)) ≡ false
unfolding rule_text
rule_known names h [] p = ap (list_any (is_unknown (length names))) (false_token names [] tt)
rule_known names h (t ∷ ts) p = terms_known names h t ts p

denial_known : (names : List (List ℕ)) → AreWords names → (t : List Literal) (rest : List ℕ) → AllByRecursion (λ (x : Literal). x.option < length names) t → StandsApart rest → list_any (is_unknown (length names)) (tok names (denial_text names t ++ rest)) ≡ list_any (is_unknown (length names)) (tok names rest)
unfolding term_text
denial_known names h [] rest p s = ap (list_any (is_unknown (length names))) (true_bracket names rest)
denial_known names h (l ∷ []) rest p s = ap (list_any (is_unknown (length names))) (literal_then names h (not l.on) l.option rest p.0 s) ∙ literal_known (length names) (not l.on) l.option (tok names rest) p.0
denial_known names h (l ∷ m ∷ ls) rest p s =
    ap (list_any (is_unknown (length names))) (bracket_tokens names h l m ls rest p.0)
    ∙ term_known names h (l ∷ m ∷ ls) (41 ∷ rest) p refl
    ∙ ap (list_any (is_unknown (length names))) (close_token names rest)

denials_known : (names : List (List ℕ)) → AreWords names → (t : List Literal) (ts : List (List Literal)) → AreOf (length names) (t ∷ ts) → list_any (is_unknown (length names)) (tok names (denial_text names t ++ more_denials names ts)) ≡ false
denials_known names h t [] p = denial_known names h t [] p.0 tt
denials_known names h t (u ∷ us) p =
    let behind = denial_text names u ++ more_denials names us in
    denial_known names h t (more_denials names (u ∷ us)) p.0 refl ∙ ap (list_any (is_unknown (length names))) (and_token names behind) ∙ denials_known names h u us p.1

none_known : (names : List (List ℕ)) → AreWords names → (terms : List (List Literal)) → AreOf (length names) terms → list_any (is_unknown (length names)) (tok names (denials_text names terms)) ≡ false
unfolding denials_text
none_known names h [] p = ap (list_any (is_unknown (length names))) (true_token names [] tt)
none_known names h (t ∷ ts) p = denials_known names h t ts p

spelled_read : (names : List (List ℕ)) → AreWords names → (rule : Rule) → AreOf (length names) (terms_in rule) → IsRule (tok names (spelled_rule names rule)) (formula_of rule)
spelled_read names h (AnyOf terms) p = rule_read names h terms p
spelled_read names h (NoneOf terms) p = none_read names h terms p

spelled_known : (names : List (List ℕ)) → AreWords names → (rule : Rule) → AreOf (length names) (terms_in rule) → list_any (is_unknown (length names)) (tok names (spelled_rule names rule)) ≡ false
spelled_known names h (AnyOf terms) p = rule_known names h terms p
spelled_known names h (NoneOf terms) p = none_known names h terms p

pub rule_read_back : ReadsTheGrammar → (names : List (List ℕ)) (rule : Rule) → AreOptionNames names → AreOf (length names) (terms_in rule) → rule_line (options_of names) (32 ∷ spelled_rule names rule) ≡ Ok (statement.Demands (formula_of rule))
unfolding rule_line
rule_read_back law names rule n p =
    let h = AreWords-of names n in
    let read : parsed (tok names (spelled_rule names rule)) ≡ Some (formula_of rule) = (law (tok names (spelled_rule names rule)) (formula_of rule)).0 (spelled_read names h rule p) in
    let count : length (options_of names) ≡ length names = length-map names (λ (x : List ℕ). record { name = x; place = None }) in
    rw (read, count, spelled_known names h rule p) refl
