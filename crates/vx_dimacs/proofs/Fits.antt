-- What a good line says fits what the lines before it said.
use Rattle.std.proofs.Common.{◌≡◌, ℕ, zero, suc, ◌-◌, ◌<◌, ◌≤◌, List, [], ◌∷◌, refl, sym, ap, subst, arith, add-one, below_more, Bool, true, false, not, ◌&&◌, ◌||◌, min, nat_le, nat_lt, Option, Some, None, Result, Ok, Err}
use Rattle.std.specs.Prelude.{if◌then◌else◌, ◌==◌, codes, is_some}
use Rattle.std.specs.List.{list_all, list_any}
use Rattle.std.specs.Option.{option_map}
use Rattle.std.specs.Str.{bytes_eq}
use Rattle.std.proofs.lemmas.Bool.{eqb-true}
use Rattle.std.proofs.lemmas.Bool.Decides.{nat_tests}
use Rattle.std.proofs.lemmas.Slice.Eq.{bytes_eq-Decides}
use Rattle.vx_words.specs.Decimal.{decimal}
use Rattle.vx_words.specs.Lines.{words}
use Rattle.vx_words.specs.Names.{is_name}
use Rattle.vx_model.specs.Text.{clashes}
use Rattle.vx_model.specs.declared.model.FieldPlace.{FieldPlace}
use Rattle.vx_model.specs.declared.model.OptionField.{OptionField}
use Rattle.vx_model.proofs.Names.{neither}
use Rattle.vx_dimacs.specs.Dimacs.{State, behind_two, clauses_of, comment_line, front_mark, header_clauses, header_line, header_variables, is_negative, is_number, is_numbered, is_variable_name, is_visible, line_by, line_of, mark_of, marked, marks_of, named, named_as, numbered, numbers_line, numeral, told, unsigned, up_to}
use Rattle.vx_dimacs.specs.declared.line.Header.{Header}
use Rattle.vx_dimacs.specs.declared.line.Line.{Line}
use Rattle.vx_dimacs.specs.declared.line.Line.TheVariants as line
use Rattle.vx_dimacs.specs.declared.line.Naming.{Naming}
use Rattle.vx_dimacs.specs.declared.number.Mark.{Mark}
use Rattle.vx_dimacs.specs.declared.number.Mark.TheVariants as mark
use Rattle.vx_model.proofs.Fits.{passed}

-- ---- what the parts of a line are

-- a variable has the name v and digits only where the digits are its own
abbrev pub IsOwn : ℕ → OptionField → Type 0
IsOwn variable option = (k : ℕ) → k < 100 → option.name ≡ 118 ∷ numeral k → k ≡ variable

-- a name line for a variable
pub record Fresh (st : State) (naming : Naming) : Type 0 where
  pub own : IsOwn naming.variable naming.option
  pub free : list_any (clashes naming.option.name naming.option.place) st.names ≡ false
  pub named : is_name naming.option.name ≡ true

abbrev pub MarkBelow : ℕ → Mark → Type 0
MarkBelow n mark.End = Unit {0}
MarkBelow n (mark.On k) = k < n
MarkBelow n (mark.Off k) = k < n

abbrev pub MarksBelow : ℕ → List Mark → Type 0
MarksBelow n [] = Unit {0}
MarksBelow n (m ∷ ms) = MarkBelow n m × MarksBelow n ms

-- numbers behind a header
pub record Counted (st : State) (ms : List Mark) : Type 0 where
  pub header : Header
  pub is : st.header ≡ Some header
  pub below : MarksBelow header.variables ms

abbrev pub Fits : State → Line → Type 0
Fits st line.Nothing = Unit {0}
Fits st (line.Names naming) = Fresh st naming
Fits st (line.Heads header) = (st.header ≡ None) × (header.variables ≤ 64)
Fits st (line.Numbers ms) = Counted st ms

both : (a b : Bool) → (a && b) ≡ true → (a ≡ true) × (b ≡ true)
both true b e = (refl, e)
both false b e = cc

abbrev good_line : Line → Result Line ℕ
good_line k = Ok k

same_line : (st : State) (k l : Line) → good_line k ≡ Ok l → Fits st k → Fits st l
same_line st k l e h = let same : k ≡ l = cc e in subst (Fits st) same h

-- ---- v and digits

-- the number that a word spells is this
abbrev is_number_of : Option ℕ → ℕ → Bool
is_number_of None k = false
is_number_of (Some n) k = n == k

-- a numeral spells its number, and v and a numeral are v and digits, and a name
abbrev is_spelled : ℕ → Bool
is_spelled k = is_number_of (decimal (numeral k)) k && (is_numbered (118 ∷ numeral k) && is_name (118 ∷ numeral k))

abbrev are_spelled : ℕ → Bool
are_spelled zero = true
are_spelled (suc n) = are_spelled n && is_spelled n

all_spelled : (n : ℕ) → are_spelled n ≡ true → (k : ℕ) → k < n → is_spelled k ≡ true
all_spelled zero e k lt = absurd (omega (arith, lt))
all_spelled (suc n) e k lt =
    let split = both (are_spelled n) (is_spelled n) e in
    below_more (λ j. is_spelled j ≡ true) n (all_spelled n split.0) split.1 k (subst (λ m. k < m) (sym (add-one n)) lt)

spelled : (k : ℕ) → k < 100 → is_spelled k ≡ true
unfolding is_name
spelled = all_spelled 100 refl

number_of : (o : Option ℕ) (k : ℕ) → is_number_of o k ≡ true → o ≡ Some k
number_of None k e = cc
number_of (Some n) k e = ap Some (eqb-true n k e)

spelled_name : (k : ℕ) → k < 100 → (is_numbered (118 ∷ numeral k) ≡ true) × (is_name (118 ∷ numeral k) ≡ true)
spelled_name k lt =
    both (is_numbered (118 ∷ numeral k)) (is_name (118 ∷ numeral k))
    (both (is_number_of (decimal (numeral k)) k) (is_numbered (118 ∷ numeral k) && is_name (118 ∷ numeral k)) (spelled k lt)).1

pub numeral_named : (k : ℕ) → k < 100 → is_name (118 ∷ numeral k) ≡ true
numeral_named k lt = (spelled_name k lt).1

pub numeral_spells : (k : ℕ) → k < 100 → decimal (numeral k) ≡ Some k
numeral_spells k lt = number_of (decimal (numeral k)) k (both (is_number_of (decimal (numeral k)) k) (is_numbered (118 ∷ numeral k) && is_name (118 ∷ numeral k)) (spelled k lt)).0

least : (k variable : ℕ) → variable ≤ 64 → option_map (min 65) (Some k) ≡ Some variable → k ≡ variable
least k variable few e =
    let same : min 65 k ≡ variable = cc e in
    grind (arith, same, few)

pub same_tail : (a b : List ℕ) → 118 ∷ a ≡ 118 ∷ b → a ≡ b
same_tail a b e = cc e

own_bytes : (number name : List ℕ) (k : ℕ) → k < 100 → is_variable_name number name ≡ true → name ≡ 118 ∷ numeral k → numeral k ≡ number
unfolding is_variable_name
own_bytes number name k lt e is =
    let rule = (both (is_name name) (not (is_numbered name) || bytes_eq name (118 ∷ number)) e).1 in
    let digits = (spelled_name k lt).0 in
    let here : (not (is_numbered (118 ∷ numeral k)) || bytes_eq (118 ∷ numeral k) (118 ∷ number)) ≡ true =
    subst (λ n. (not (is_numbered n) || bytes_eq n (118 ∷ number)) ≡ true) is rule in
    let equal : bytes_eq (118 ∷ numeral k) (118 ∷ number) ≡ true = subst (λ b. (not b || bytes_eq (118 ∷ numeral k) (118 ∷ number)) ≡ true) digits here in
    same_tail (numeral k) number ((bytes_eq-Decides (118 ∷ numeral k) (118 ∷ number)).0 equal)

own_name : (variable : ℕ) (number name : List ℕ) (place : Option FieldPlace) → up_to 65 number ≡ Some variable → variable ≤ 64 → is_variable_name number name ≡ true
    → IsOwn variable (record { name = name; place = place })
own_name variable number name place reads few fits k lt is =
    let bytes = own_bytes number name k lt fits is in
    let read : up_to 65 (numeral k) ≡ Some variable = subst (λ w. up_to 65 w ≡ Some variable) (sym bytes) reads in
    least k variable few (subst (λ o. option_map (min 65) o ≡ Some variable) (numeral_spells k lt) read)

lawful_name : (number name : List ℕ) → is_variable_name number name ≡ true → is_name name ≡ true
unfolding is_variable_name
lawful_name number name e = (both (is_name name) (not (is_numbered name) || bytes_eq name (118 ∷ number)) e).0

le_64 : (n : ℕ) → nat_le n 64 ≡ true → n ≤ 64
le_64 n e = grind (arith, nat_tests)

-- ---- headers

at_most_64 : (n : ℕ) → nat_lt 64 n ≡ false → n ≤ 64
at_most_64 n e = grind (arith, nat_tests)

is_none : {A : Type 0} (o : Option A) → is_some o ≡ false → o ≡ None
is_none None e = refl
is_none (Some x) e = cc

clauses_fit : (st : State) (variables : ℕ) (clauses : Option ℕ) (l : Line) → st.header ≡ None → variables ≤ 64 → clauses_of variables clauses ≡ Ok l → Fits st l
clauses_fit st variables None l first few e = cc
clauses_fit st variables (Some n) l first few e =
    let one = passed (nat_lt 1000000 n) 7 _ l e in
    same_line st (line.Heads (record { variables = variables; clauses = n })) l one.1 (first, few)

words_fit : (st : State) (variables : ℕ) (rest : List (List ℕ)) (l : Line) → st.header ≡ None → variables ≤ 64 → header_clauses variables rest ≡ Ok l → Fits st l
words_fit st variables [] l first few e = cc
words_fit st variables (word ∷ []) l first few e = clauses_fit st variables (up_to 1000001 word) l first few e
words_fit st variables (word ∷ other ∷ rest) l first few e = cc

header_fits : (st : State) (variables : Option ℕ) (rest : List (List ℕ)) (l : Line) → header_variables st.header variables rest ≡ Ok l → Fits st l
header_fits st None rest l e = cc
header_fits st (Some n) rest l e =
    let one = passed (nat_lt 64 n) 6 _ l e in
    let two = passed (is_some st.header) 7 _ l one.1 in
    words_fit st n rest l (is_none st.header two.0) (at_most_64 n one.0) two.1

header_line_fits : (st : State) (rest : List (List ℕ)) (l : Line) → header_line st.header rest ≡ Ok l → Fits st l
unfolding header_line
header_line_fits st rest l e = header_fits st (told rest) (behind_two rest) l e

-- ---- name lines

named_case : (st : State) (test : Bool) (read : Result Line ℕ) (l : Line) → (test ≡ true → read ≡ Ok l → Fits st l) → (if test then read else Ok line.Nothing) ≡ Ok l → Fits st l
named_case st true read l h e = h refl e
named_case st false read l h e = same_line st line.Nothing l e tt

naming_fits : (st : State) (variable : ℕ) (name : List ℕ) (place : Option FieldPlace) (l : Line) → IsOwn variable (record { name = name; place = place })
    → is_name name ≡ true → named_as st variable name place ≡ Ok l → Fits st l
naming_fits st variable name place l own is e =
    let one = passed (list_any (λ k. k == variable) st.variables || list_any (clashes name place) st.names) 3 _ l e in
    same_line st (line.Names (record { variable = variable; option = record { name = name; place = place } })) l one.1
    (record { own = own; free = (neither (list_any (λ k. k == variable) st.variables) (list_any (clashes name place) st.names) one.0).1; named = is })

named_fits : (most : ℕ) (st : State) (variable : Option ℕ) (number name : List ℕ) (place : Option FieldPlace) (l : Line) → up_to 65 number ≡ variable
    → named most st variable number name place ≡ Ok l → Fits st l
named_fits most st None number name place l is e = same_line st line.Nothing l e tt
named_fits most st (Some variable) number name place l is e =
    named_case st ((nat_le 1 variable && nat_le variable 64) && (nat_le variable most && is_variable_name number name)) (named_as st variable name place) l
    (λ test. let two = both (nat_le 1 variable && nat_le variable 64) (nat_le variable most && is_variable_name number name) test in
    naming_fits st variable name place l
    (own_name variable number name place is (le_64 variable (both (nat_le 1 variable) (nat_le variable 64) two.0).1) (both (nat_le variable most) (is_variable_name number name) two.1).1)
    (lawful_name number name (both (nat_le variable most) (is_variable_name number name) two.1).1))
    e

comment_fits : (most : ℕ) (st : State) (rest : List (List ℕ)) (l : Line) → comment_line most st rest ≡ Ok l → Fits st l
unfolding comment_line
comment_fits most st [] l e = same_line st line.Nothing l e tt
comment_fits most st (a ∷ []) l e = same_line st line.Nothing l e tt
comment_fits most st (number ∷ name ∷ []) l e = named_fits most st (up_to 65 number) number name None l refl e
comment_fits most st (a ∷ b ∷ c ∷ []) l e = same_line st line.Nothing l e tt
comment_fits most st (number ∷ name ∷ class ∷ field ∷ []) l e =
    named_case st (list_all is_visible class && list_all is_visible field) (named most st (up_to 65 number) number name _) l
    (λ _. named_fits most st (up_to 65 number) number name _ l refl) e
comment_fits most st (a ∷ b ∷ c ∷ d ∷ f ∷ rest) l e = same_line st line.Nothing l e tt

-- ---- numbers

abbrev no_marks : List Mark
no_marks = []

abbrev bad_line : ℕ → Result Line ℕ
bad_line reason = Err reason

none_case : (st : State) (test : Bool) (l : Line) → (if test then bad_line 7 else bad_line 8) ≡ Ok l → Fits st l
none_case st true l e = cc
none_case st false l e = cc

below : (n variables : ℕ) → (n == 0) ≡ false → nat_lt variables n ≡ false → n - 1 < variables
below n variables some few = grind (arith, nat_tests, some, few)

marked_cases : (variables n : ℕ) (negative is_end is_great : Bool) (m : Mark) → (n == 0) ≡ is_end → nat_lt variables n ≡ is_great
    → (if is_end then Some mark.End else (if is_great then None else (if negative then Some (mark.Off (n - 1)) else Some (mark.On (n - 1))))) ≡ Some m → MarkBelow variables m
marked_cases variables n negative true is_great m z g e = let same : mark.End ≡ m = cc e in subst (MarkBelow variables) same tt
marked_cases variables n negative false true m z g e = cc
marked_cases variables n true false false m z g e = let same : mark.Off (n - 1) ≡ m = cc e in subst (MarkBelow variables) same (below n variables z g)
marked_cases variables n false false false m z g e = let same : mark.On (n - 1) ≡ m = cc e in subst (MarkBelow variables) same (below n variables z g)

marked_below : (variables : ℕ) (negative : Bool) (o : Option ℕ) (m : Mark) → marked variables negative o ≡ Some m → MarkBelow variables m
marked_below variables negative None m e = cc
marked_below variables negative (Some n) m e = marked_cases variables n negative (n == 0) (nat_lt variables n) m refl refl e

front_below : (variables : ℕ) (first : Option Mark) (rest : Option (List Mark)) (ms : List Mark) → ((m : Mark) → first ≡ Some m → MarkBelow variables m)
    → ((more : List Mark) → rest ≡ Some more → MarksBelow variables more) → front_mark first rest ≡ Some ms → MarksBelow variables ms
front_below variables None rest ms f g e = cc
front_below variables (Some m) None ms f g e = cc
front_below variables (Some m) (Some more) ms f g e =
    let same : m ∷ more ≡ ms = cc e in subst (MarksBelow variables) same (f m refl, g more refl)

marks_below : (variables : ℕ) (all : List (List ℕ)) (ms : List Mark) → marks_of variables all ≡ Some ms → MarksBelow variables ms
marks_below variables [] ms e = let same : no_marks ≡ ms = cc e in subst (MarksBelow variables) same tt
marks_below variables (word ∷ rest) ms e =
    front_below variables (mark_of variables word) (marks_of variables rest) ms
    (λ m is. marked_below variables (is_negative word) (up_to 65 (unsigned word)) m is) (marks_below variables rest) e

marks_case : (st : State) (header : Header) (marks : Option (List Mark)) (l : Line) → st.header ≡ Some header
    → ((ms : List Mark) → marks ≡ Some ms → MarksBelow header.variables ms) → numbered marks ≡ Ok l → Fits st l
marks_case st header None l is below_all e = cc
marks_case st header (Some ms) l is below_all e =
    same_line st (line.Numbers ms) l e (record { header = header; is = is; below = below_all ms refl })

numbers_case : (st : State) (header : Option Header) (all : List (List ℕ)) (l : Line) → st.header ≡ header → numbers_line header all ≡ Ok l → Fits st l
unfolding numbers_line
numbers_case st None all l is e = none_case st (list_any is_number all) l e
numbers_case st (Some header) all l is e = marks_case st header (marks_of header.variables all) l is (marks_below header.variables all) e

-- ---- a line

kinds_fit : (st : State) (is_comment is_header : Bool) (a b c : Result Line ℕ) (l : Line) → (a ≡ Ok l → Fits st l) → (b ≡ Ok l → Fits st l) → (c ≡ Ok l → Fits st l)
    → (if is_comment then a else (if is_header then b else c)) ≡ Ok l → Fits st l
kinds_fit st true is_header a b c l f g h e = f e
kinds_fit st false true a b c l f g h e = g e
kinds_fit st false false a b c l f g h e = h e

by_fits : (most : ℕ) (st : State) (all : List (List ℕ)) (l : Line) → line_by most st all ≡ Ok l → Fits st l
by_fits most st [] l e = same_line st line.Nothing l e tt
by_fits most st (first ∷ rest) l e =
    kinds_fit st (bytes_eq first (codes "c")) (bytes_eq first (codes "p")) (comment_line most st rest) (header_line st.header rest)
    (numbers_line st.header (first ∷ rest)) l (comment_fits most st rest l) (header_line_fits st rest l)
    (numbers_case st st.header (first ∷ rest) l refl) e

pub line_fits : (most : ℕ) (st : State) (text : List ℕ) (l : Line) → line_of most st text ≡ Ok l → Fits st l
unfolding line_of
line_fits most st text l e = by_fits most st (words text) l e
