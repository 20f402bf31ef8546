-- What the lines of a DIMACS text say where the header counts more clauses.
use Rattle.std.proofs.Common.{◌≡◌, ◌⊎◌, inl, inr, ◌<◌, ◌≤◌, ◌^◌, ℕ, zero, suc, ◌+◌, ◌-◌, Bool, true, false, List, [], ◌∷◌, ◌++◌, length, map, refl, sym, ap, subst, ◌∙◌, arith, append_assoc, length-append, Result, Ok, Err, ltb, le-ltb}
use Rattle.std.specs.Prelude.{Option, Some, None, ◌||◌, ◌&&◌, ◌==◌, not, nat_eq, nat_lt, nat_le, min, codes, decimal, is_some, filter, if◌then◌else◌, option_map, slice_get, unwrap_or}
use Rattle.std.specs.List.{list_all, list_any}
use Rattle.std.specs.Str.{bytes_eq}
use Rattle.std.proofs.lemmas.Bool.Decides.{nat_tests}
use Rattle.std.proofs.lemmas.Fmt.{decimal_nonempty}
use Rattle.std.proofs.lemmas.Slice.Eq.{bytes_eq-Decides}
use Rattle.vx_words.specs.Decimal.{is_digit}
use Rattle.vx_words.specs.Lines.{is_blank, is_filled, parts, with_first, words}
use Rattle.vx_model.specs.Formula.{Formula}
use Rattle.vx_model.specs.declared.model.FieldPlace.{FieldPlace}
use Rattle.vx_model.specs.declared.model.Model.{Model}
use Rattle.vx_model.specs.Text.{clashes, slash}
use Rattle.vx_dimacs.specs.Dimacs.{State, begun, behind_two, clauses_of, comment_line, has_too_many, header_clauses, header_line, header_variables, is_nothing, is_variable_name, is_visible, line_by, line_of, mark_of, marked, marks_of, named, named_as, numbered, numbers_line, told, up_to, with_line, with_mark, with_marks, within_header}
use Rattle.vx_dimacs.specs.declared.line.Header.{Header}
use Rattle.vx_dimacs.specs.declared.line.Line.{Line}
use Rattle.vx_dimacs.specs.declared.line.Line.TheVariants as line
use Rattle.vx_dimacs.specs.declared.number.Mark.{Mark}
use Rattle.vx_dimacs.specs.declared.number.Mark.TheVariants as mark
use Rattle.vx_cut.specs.Texts.{begins_with_p, header_with}
use Rattle.vx_cut.proofs.LineTexts.{both, either, part_alone, part_then, plain_both}
use Rattle.vx_cut.proofs.Numbers.{digits_all, number_plain, printed_read}
use Rattle.vx_cut.proofs.Plainly.{IsPlain}

-- ---- more clauses

-- a header that counts so many clauses more
abbrev pub header_more : ℕ → Header → Header
header_more k h = record { variables = h.variables; clauses = h.clauses + k }

-- what the lines so far say, where the header counts so many clauses more
abbrev pub more : ℕ → State → State
more k st = record { header = option_map (header_more k) st.header; variables = st.variables; names = st.names; rules = st.rules; literals = st.literals }

-- ---- what a line says that is no header

-- a line that says nothing, or names a variable
abbrev pub IsSilent : Line → Type 0
IsSilent line.Nothing = Unit {0}
IsSilent (line.Names naming) = Unit {0}
IsSilent (line.Heads header) = ⊥
IsSilent (line.Numbers marks) = ⊥

-- a line of numbers, behind a header
pub record IsNumbers (st : State) (text : List ℕ) (x : Line) : Type 0 where
  pub header : Header
  pub marks : List Mark
  pub headed : st.header ≡ Some header
  pub is : x ≡ line.Numbers marks
  pub marks_are : marks_of header.variables (words text) ≡ Some marks

abbrev good_line : Line → Result Line ℕ
good_line x = Ok x

same_line : (x y : Line) → good_line x ≡ Ok y → x ≡ y
same_line x y e = cc

named_as_silent : (test : Bool) (n : Line) (x : Line) → IsSilent n → (if test then Err 3 else good_line n) ≡ Ok x → IsSilent x
named_as_silent true n x h e = cc (e)
named_as_silent false n x h e = subst IsSilent (same_line n x e) h

named_silent : (most : ℕ) (st : State) (v : Option ℕ) (number name : List ℕ) (place : Option FieldPlace) (x : Line) → named most st v number name place ≡ Ok x → IsSilent x
named_silent most st None number name place x e = subst IsSilent (same_line line.Nothing x e) tt
named_silent most st (Some variable) number name place x e = by ((nat_le 1 variable && nat_le variable 64) && (nat_le variable most && is_variable_name number name)) e
  where
    by : (b : Bool) → (if b then named_as st variable name place else good_line line.Nothing) ≡ Ok x → IsSilent x
    by true e = named_as_silent (list_any (λ k. k == variable) st.variables || list_any (clashes name place) st.names) (line.Names (record { variable = variable; option = record { name = name; place = place } })) x tt e
    by false e = subst IsSilent (same_line line.Nothing x e) tt

comment_silent : (most : ℕ) (st : State) (ws : List (List ℕ)) (x : Line) → comment_line most st ws ≡ Ok x → IsSilent x
unfolding comment_line
comment_silent most st [] x e = subst IsSilent (same_line line.Nothing x e) tt
comment_silent most st (a ∷ []) x e = subst IsSilent (same_line line.Nothing x e) tt
comment_silent most st (a ∷ b ∷ []) x e = named_silent most st (up_to 65 a) a b None x e
comment_silent most st (a ∷ b ∷ c ∷ []) x e = subst IsSilent (same_line line.Nothing x e) tt
comment_silent most st (a ∷ b ∷ c ∷ d ∷ []) x e = by (list_all is_visible c && list_all is_visible d) e
  where
    by : (t : Bool) → (if t then named most st (up_to 65 a) a b (Some (record { class = map slash c; field = d })) else good_line line.Nothing) ≡ Ok x → IsSilent x
    by true e = named_silent most st (up_to 65 a) a b (Some (record { class = map slash c; field = d })) x e
    by false e = subst IsSilent (same_line line.Nothing x e) tt
comment_silent most st (a ∷ b ∷ c ∷ d ∷ f ∷ rest) x e = subst IsSilent (same_line line.Nothing x e) tt

numbered_is : (o : Option (List Mark)) (x : Line) → numbered o ≡ Ok x → (ms : List Mark) × (o ≡ Some ms) × (x ≡ line.Numbers ms)
numbered_is None x e = cc (e)
numbered_is (Some ms) x e = (ms, refl, sym (same_line (line.Numbers ms) x e))

no_numbers : (test : Bool) (x : Line) → (if test then Err 7 else Err 8) ≡ good_line x → ⊥
no_numbers true x e = cc (e)
no_numbers false x e = cc (e)

numbers_are : (header : Option Header) (ws : List (List ℕ)) (x : Line) → numbers_line header ws ≡ Ok x → (h : Header) × (header ≡ Some h) × (ms : List Mark) × (marks_of h.variables ws ≡ Some ms) × (x ≡ line.Numbers ms)
unfolding numbers_line
numbers_are None ws x e = absurd (no_numbers _ x e)
numbers_are (Some h) ws x e = let n = numbered_is (marks_of h.variables ws) x e in (h, refl, n.0, n.1, n.2)

abbrev by_words : ℕ → State → List (List ℕ) → Bool → Bool → List (List ℕ) → Result Line ℕ
by_words most st all c p rest = if c then comment_line most st rest else (if p then header_line st.header rest else numbers_line st.header all)

says_by : (most : ℕ) (st : State) (text : List ℕ) (ws : List (List ℕ)) (x : Line) → words text ≡ ws → begins_with_p ws ≡ false → line_by most st ws ≡ Ok x → IsSilent x ⊎ IsNumbers st text x
says_by most st text [] x is p e = inl (subst IsSilent (same_line line.Nothing x e) tt)
says_by most st text (first ∷ rest) x is p e = by (bytes_eq first (codes "c")) (ap (λ q. by_words most st (first ∷ rest) (bytes_eq first (codes "c")) q rest) (sym p) ∙ e)
  where
    by : (c : Bool) → by_words most st (first ∷ rest) c false rest ≡ Ok x → IsSilent x ⊎ IsNumbers st text x
    by true e = inl (comment_silent most st rest x e)
    by false e =
        let n = numbers_are st.header (first ∷ rest) x e in
        inr (record { header = n.0; marks = n.2; headed = n.1; is = n.4; marks_are = ap (marks_of n.0.variables) is ∙ n.3 })

pub says : (most : ℕ) (st : State) (text : List ℕ) (x : Line) → begins_with_p (words text) ≡ false → line_of most st text ≡ Ok x → IsSilent x ⊎ IsNumbers st text x
unfolding line_of
says most st text x p e = says_by most st text (words text) x refl p e

-- such a line says the same where the header counts more
numbers_same : (k : ℕ) (header : Option Header) (ws : List (List ℕ)) → numbers_line (option_map (header_more k) header) ws ≡ numbers_line header ws
unfolding numbers_line
numbers_same k None ws = refl
numbers_same k (Some h) ws = refl

named_same : (most k : ℕ) (st : State) (v : Option ℕ) (number name : List ℕ) (place : Option FieldPlace) → named most (more k st) v number name place ≡ named most st v number name place
named_same most k st None number name place = refl
named_same most k st (Some v) number name place = refl

comment_same : (most k : ℕ) (st : State) (ws : List (List ℕ)) → comment_line most (more k st) ws ≡ comment_line most st ws
unfolding comment_line
comment_same most k st [] = refl
comment_same most k st (a ∷ []) = refl
comment_same most k st (a ∷ b ∷ []) = named_same most k st (up_to 65 a) a b None
comment_same most k st (a ∷ b ∷ c ∷ []) = refl
comment_same most k st (a ∷ b ∷ c ∷ d ∷ []) = ap (λ r. if list_all is_visible c && list_all is_visible d then r else Ok line.Nothing) (named_same most k st (up_to 65 a) a b (Some (record { class = map slash c; field = d })))
comment_same most k st (a ∷ b ∷ c ∷ d ∷ f ∷ rest) = refl

said_by : (most k : ℕ) (st : State) (ws : List (List ℕ)) → begins_with_p ws ≡ false → line_by most (more k st) ws ≡ line_by most st ws
said_by most k st [] p = refl
said_by most k st (first ∷ rest) p = rw (p, comment_same most k st rest, numbers_same k st.header (first ∷ rest)) refl

pub said_same : (most k : ℕ) (st : State) (text : List ℕ) → begins_with_p (words text) ≡ false → line_of most (more k st) text ≡ line_of most st text
unfolding line_of
said_same most k st text p = said_by most k st (words text) p

-- ---- what it adds

abbrev good_state : State → Result State ℕ
good_state s = Ok s

pub same_state : (s t : State) → good_state s ≡ Ok t → s ≡ t
same_state s t e = cc

mark_more : (k : ℕ) (st : State) (m : Mark) → with_mark (more k st) m ≡ more k (with_mark st m)
mark_more k st mark.End = refl
mark_more k st (mark.On o) = refl
mark_more k st (mark.Off o) = refl

marks_more : (k : ℕ) (ms : List Mark) (st : State) → with_marks (more k st) ms ≡ more k (with_marks st ms)
unfolding with_marks
marks_more k [] st = refl
marks_more k (m ∷ ms) st = ap (λ s. with_marks s ms) (mark_more k st m) ∙ marks_more k ms (with_mark st m)

mark_header : (st : State) (m : Mark) → (with_mark st m).header ≡ st.header
mark_header st mark.End = refl
mark_header st (mark.On o) = refl
mark_header st (mark.Off o) = refl

pub marks_header : (ms : List Mark) (st : State) → (with_marks st ms).header ≡ st.header
unfolding with_marks
marks_header [] st = refl
marks_header (m ∷ ms) st = marks_header ms (with_mark st m) ∙ mark_header st m

-- where there is room, there is room in a header that counts more
roomier : (k : ℕ) (header : Option Header) (n : ℕ) → has_too_many header n ≡ false → has_too_many (option_map (header_more k) header) n ≡ false
roomier k None n e = refl
roomier k (Some h) n e = grind (arith, nat_tests)

pub within_is : (st new : State) → within_header st ≡ Ok new → (has_too_many st.header (begun st) ≡ false) × (st ≡ new)
within_is st new e = by (has_too_many st.header (begun st)) refl e
  where
    by : (b : Bool) → has_too_many st.header (begun st) ≡ b → (if b then Err 9 else good_state st) ≡ Ok new → (has_too_many st.header (begun st) ≡ false) × (st ≡ new)
    by true t e = cc (e)
    by false t e = (t, same_state st new e)

within_more : (k : ℕ) (st : State) → has_too_many st.header (begun st) ≡ false → within_header (more k st) ≡ Ok (more k st)
within_more k st e = rw (roomier k st.header (begun st) e) refl

silent_moves : (k : ℕ) (st new : State) (x : Line) → IsSilent x → with_line st x ≡ Ok new → with_line (more k st) x ≡ Ok (more k new)
silent_moves k st new line.Nothing h e = ap (λ s. good_state (more k s)) (same_state st new e)
silent_moves k st new (line.Names naming) h e = ap (λ s. good_state (more k s)) (same_state (record st { variables = st.variables ++ naming.variable ∷ []; names = st.names ++ naming.option ∷ [] }) new e)
silent_moves k st new (line.Heads header) h e = absurd h
silent_moves k st new (line.Numbers ms) h e = absurd h

numbers_move : (k : ℕ) (st new : State) (ms : List Mark) → with_line st (line.Numbers ms) ≡ Ok new → with_line (more k st) (line.Numbers ms) ≡ Ok (more k new)
numbers_move k st new ms e =
    let w = within_is (with_marks st ms) new e in
    ap within_header (marks_more k ms st) ∙ within_more k (with_marks st ms) w.0 ∙ ap (λ s. good_state (more k s)) w.1

-- a line that is no header adds the same
pub moves_same : (k : ℕ) (st new : State) (text : List ℕ) (x : Line) → IsSilent x ⊎ IsNumbers st text x → with_line st x ≡ Ok new → with_line (more k st) x ≡ Ok (more k new)
moves_same k st new text x (inl h) e = silent_moves k st new x h e
moves_same k st new text x (inr n) e = ap (with_line (more k st)) n.is ∙ numbers_move k st new n.marks (ap (with_line st) (sym n.is) ∙ e)

-- and leaves the header as it is
silent_header : (st new : State) (x : Line) → IsSilent x → with_line st x ≡ Ok new → new.header ≡ st.header
silent_header st new line.Nothing h e = ap (λ (s : State). s.header) (sym (same_state st new e))
silent_header st new (line.Names naming) h e = ap (λ (s : State). s.header) (sym (same_state (record st { variables = st.variables ++ naming.variable ∷ []; names = st.names ++ naming.option ∷ [] }) new e))
silent_header st new (line.Heads header) h e = absurd h
silent_header st new (line.Numbers ms) h e = absurd h

pub header_stays : (st new : State) (text : List ℕ) (x : Line) → IsSilent x ⊎ IsNumbers st text x → with_line st x ≡ Ok new → new.header ≡ st.header
header_stays st new text x (inl h) e = silent_header st new x h e
header_stays st new text x (inr n) e =
    let w = within_is (with_marks st n.marks) new (ap (with_line st) (sym n.is) ∙ e) in
    ap (λ (s : State). s.header) (sym w.1) ∙ marks_header n.marks st

-- ---- a header

-- what a header says that is taken: there was none before
pub record IsHead (st : State) (rest : List (List ℕ)) (x : Line) : Type 0 where
  pub header : Header
  pub is : x ≡ line.Heads header
  pub first : st.header ≡ None
  pub variables : told rest ≡ Some header.variables

clauses_are : (v : ℕ) (n : Option ℕ) (x : Line) → clauses_of v n ≡ Ok x → (c : ℕ) × (x ≡ line.Heads (record { variables = v; clauses = c }))
clauses_are v None x e = cc (e)
clauses_are v (Some n) x e = by (nat_lt 1000000 n) e
  where
    by : (b : Bool) → (if b then Err 7 else good_line (line.Heads (record { variables = v; clauses = n }))) ≡ Ok x → (c : ℕ) × (x ≡ line.Heads (record { variables = v; clauses = c }))
    by true e = cc (e)
    by false e = (n, sym (same_line _ x e))

head_clauses : (v : ℕ) (ws : List (List ℕ)) (x : Line) → header_clauses v ws ≡ Ok x → (c : ℕ) × (x ≡ line.Heads (record { variables = v; clauses = c }))
head_clauses v [] x e = cc (e)
head_clauses v (w ∷ []) x e = clauses_are v (up_to 1000001 w) x e
head_clauses v (w ∷ u ∷ ws) x e = cc (e)

head_by : (before : Option Header) (v : Option ℕ) (ws : List (List ℕ)) (x : Line) → header_variables before v ws ≡ Ok x → (n : ℕ) × (v ≡ Some n) × (before ≡ None) × ((c : ℕ) × (x ≡ line.Heads (record { variables = n; clauses = c })))
head_by before None ws x e = cc (e)
head_by before (Some n) ws x e = by (nat_lt 64 n) e
  where
    seen : (o : Option Header) → (if is_some o then Err 7 else header_clauses n ws) ≡ Ok x → (k : ℕ) × (Some n ≡ Some k) × (o ≡ None) × ((c : ℕ) × (x ≡ line.Heads (record { variables = k; clauses = c })))
    seen None e = (n, refl, refl, head_clauses n ws x e)
    seen (Some h) e = cc (e)

    by : (b : Bool) → (if b then Err 6 else (if is_some before then Err 7 else header_clauses n ws)) ≡ Ok x → (k : ℕ) × (Some n ≡ Some k) × (before ≡ None) × ((c : ℕ) × (x ≡ line.Heads (record { variables = k; clauses = c })))
    by true e = cc (e)
    by false e = seen before e

same_words : (a b : List ℕ) → bytes_eq a b ≡ true → a ≡ b
same_words a b e = (bytes_eq-Decides a b).0 e

head_words : (most : ℕ) (st : State) (ws : List (List ℕ)) (x : Line) → begins_with_p ws ≡ true → line_by most st ws ≡ Ok x → (rest : List (List ℕ)) × (ws ≡ codes "p" ∷ rest) × IsHead st rest x
unfolding header_line
head_words most st [] x p e = cc (p)
head_words most st (first ∷ rest) x p e =
    let is : first ≡ codes "p" = same_words first (codes "p") p in
    let h = head_by st.header (told rest) (behind_two rest) x (ap (λ w. line_by most st (w ∷ rest)) (sym is) ∙ e) in
    (rest, ap (λ w. w ∷ rest) is, record { header = record { variables = h.0; clauses = h.3.0 }; is = h.3.1; first = h.2; variables = h.1 })

pub head_said : (most : ℕ) (st : State) (text : List ℕ) (x : Line) → begins_with_p (words text) ≡ true → line_of most st text ≡ Ok x → (rest : List (List ℕ)) × (words text ≡ codes "p" ∷ rest) × IsHead st rest x
unfolding line_of
head_said most st text x p e = head_words most st (words text) x p e

-- ---- the header of a part

digit_no_blank : (b : ℕ) → is_digit b ≡ true → is_blank b ≡ false
digit_no_blank b e = grind (arith, nat_tests)

no_blank : (ds : List ℕ) → list_all is_digit ds ≡ true → list_any is_blank ds ≡ false
no_blank [] h = refl
no_blank (d ∷ ds) h = let two = both (is_digit d) (list_all is_digit ds) h in rw (digit_no_blank d two.0) (no_blank ds two.1)

-- a number's digits, one by one
pub record IsDigits (n : ℕ) : Type 0 where
  pub first : ℕ
  pub rest : List ℕ
  pub is : decimal n ≡ first ∷ rest
  pub first_digit : is_digit first ≡ true
  pub none_blank : list_any is_blank (first ∷ rest) ≡ false

digits_split : (ds : List ℕ) → 0 < length ds → list_all is_digit ds ≡ true → (d : ℕ) × ((r : List ℕ) × (ds ≡ d ∷ r) × (is_digit d ≡ true) × (list_any is_blank (d ∷ r) ≡ false))
digits_split [] l h = absurd (omega (arith, l))
digits_split (d ∷ ds) l h = (d, (ds, refl, (both (is_digit d) (list_all is_digit ds) h).0, no_blank (d ∷ ds) h))

pub digits_of : (n : ℕ) → n < 2 ^ 64 → IsDigits n
digits_of n h =
    let d = digits_split (decimal n) (decimal_nonempty n h) (digits_all n h) in
    record { first = d.0; rest = d.1.0; is = d.1.1; first_digit = d.1.2; none_blank = d.1.3 }

-- a number before a blank, and at the end, as words
pub number_then : (n : ℕ) (rest : List ℕ) → n < 2 ^ 64 → words (decimal n ++ 32 ∷ rest) ≡ decimal n ∷ words rest
number_then n rest h =
    let d = digits_of n h in
    let cut : parts is_blank ((d.first ∷ d.rest) ++ 32 ∷ rest) ≡ (d.first ∷ d.rest) ∷ parts is_blank rest = part_then is_blank (d.first ∷ d.rest) rest 32 d.none_blank refl in
    ap (λ w. words (w ++ 32 ∷ rest)) d.is ∙ ap (filter is_filled) cut ∙ ap (λ w. w ∷ words rest) (sym d.is)

pub number_alone : (n : ℕ) → n < 2 ^ 64 → words (decimal n) ≡ decimal n ∷ []
number_alone n h =
    let d = digits_of n h in
    ap words d.is ∙ ap (filter is_filled) (part_alone is_blank d.first d.rest d.none_blank) ∙ ap (λ w. w ∷ []) (sym d.is)

header_words : (v c : ℕ) → v < 2 ^ 64 → c < 2 ^ 64 → words (codes "p cnf " ++ decimal v ++ codes " " ++ decimal c) ≡ codes "p" ∷ codes "cnf" ∷ decimal v ∷ decimal c ∷ []
header_words v c h k =
    ap words (append_assoc (codes "p cnf " ++ decimal v) (codes " ") (decimal c) ∙ append_assoc (codes "p cnf ") (decimal v) (32 ∷ decimal c))
    ∙ ap (λ ws. codes "p" ∷ codes "cnf" ∷ ws) (number_then v (decimal c) h ∙ ap (λ ws. decimal v ∷ ws) (number_alone c k))

-- the capped number
pub read_up : (cap n : ℕ) → n < 2 ^ 64 → n ≤ cap → up_to cap (decimal n) ≡ Some n
read_up cap n h l = ap (option_map (min cap)) (printed_read n h) ∙ ap Some (capped cap n l)
  where
    capped : (a b : ℕ) → b ≤ a → min a b ≡ b
    capped a b l = omega (arith, l)

-- the header of a model with more clauses, as words
pub header_with_words : (model : Model) (k : ℕ) → length model.options ≤ 64 → length model.rules + k ≤ 1000000
    → words (header_with model k) ≡ codes "p" ∷ codes "cnf" ∷ decimal (length model.options) ∷ decimal (length model.rules + k) ∷ []
unfolding header_with
header_with_words model k few fit = header_words (length model.options) (length model.rules + k) (omega (arith, few)) (omega (arith, fit))

pub header_with_plain : (model : Model) (k : ℕ) → length model.options ≤ 64 → length model.rules + k ≤ 1000000 → IsPlain (header_with model k)
unfolding header_with
header_with_plain model k few fit =
    let one = plain_both (codes "p cnf ") (decimal (length model.options)) refl (number_plain (length model.options) (omega (arith, few))) in
    let two = plain_both (codes "p cnf " ++ decimal (length model.options)) (codes " ") one refl in
    plain_both (codes "p cnf " ++ decimal (length model.options) ++ codes " ") (decimal (length model.rules + k)) two (number_plain (length model.rules + k) (omega (arith, fit)))

pub told_of : (v : ℕ) (rest : List (List ℕ)) → v ≤ 64 → told (codes "cnf" ∷ decimal v ∷ rest) ≡ Some v
told_of v rest few = read_up 65 v (omega (arith, few)) (omega (arith, few))

head_of : (before : Option Header) (v c : ℕ) → v ≤ 64 → c ≤ 1000000 → before ≡ None → header_line before (codes "cnf" ∷ decimal v ∷ decimal c ∷ []) ≡ Ok (line.Heads (record { variables = v; clauses = c }))
unfolding header_line
head_of before v c few fit none =
    (λ i. header_variables (none i) (told_of v (decimal c ∷ []) few i) (decimal c ∷ []))
    ∙ ap (λ b. if b then Err 6 else clauses_of v (up_to 1000001 (decimal c))) (le-ltb 64 v few)
    ∙ ap (clauses_of v) (read_up 1000001 c (omega (arith, fit)) (omega (arith, fit)))
    ∙ ap (λ b. if b then Err 7 else good_line (line.Heads (record { variables = v; clauses = c }))) (le-ltb 1000000 c fit)

pub header_with_said : (most : ℕ) (st : State) (model : Model) (k : ℕ) → length model.options ≤ 64 → length model.rules + k ≤ 1000000 → st.header ≡ None
    → line_of most st (header_with model k) ≡ Ok (line.Heads (record { variables = length model.options; clauses = length model.rules + k }))
unfolding line_of
header_with_said most st model k few fit none =
    ap (line_by most st) (header_with_words model k few fit) ∙ head_of st.header (length model.options) (length model.rules + k) few fit none
