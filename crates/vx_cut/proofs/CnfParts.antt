-- A part of a model in DIMACS is read as the model with a clause more for each literal.
use Rattle.std.proofs.Common.{◌≡◌, ◌⊎◌, inl, inr, ◌<◌, ◌≤◌, ◌^◌, ℕ, zero, suc, ◌+◌, ◌-◌, Bool, true, false, List, [], ◌∷◌, ◌++◌, length, map, refl, sym, ap, subst, ◌∙◌, arith, append_assoc, append-nil, length-append, Result, Ok, Err, le-ltb}
use Rattle.std.specs.Prelude.{Option, Some, None, ◌||◌, ◌&&◌, ◌==◌, not, nat_eq, nat_lt, nat_le, codes, decimal, filter, if◌then◌else◌, option_map, unwrap_or}
use Rattle.std.specs.List.{AllByRecursion, flat_map, list_all, list_any}
use Rattle.std.specs.Str.{bytes_eq}
use Rattle.std.proofs.lemmas.Bool.Decides.{nat_tests}
use Rattle.std.proofs.lemmas.List.{length-map}
use Rattle.vx_words.specs.Decimal.{is_digit}
use Rattle.vx_words.specs.Lines.{is_blank, is_filled, is_line_feed, lines, parts, without_return, words}
use Rattle.vx_model.specs.Formula.{Formula}
use Rattle.vx_model.specs.Formula as tree
use Rattle.vx_model.specs.Models.{HasOptionNames, names_of}
use Rattle.vx_model.specs.declared.model.Model.{Model}
use Rattle.vx_model.specs.declared.model.OptionField.{OptionField}
use Rattle.vx_dimacs.specs.Dimacs.{State, begun, comment_line, dimacs_of, end_of, ended, first_told, has_too_many, is_nothing, is_visible, line_by, line_of, lines_of, mark_of, nothing_yet, numbers_line, option_for, options_upto, told_by, up_to, with_line, with_marks}
use Rattle.vx_dimacs.specs.declared.line.Header.{Header}
use Rattle.vx_dimacs.specs.declared.line.Line.{Line}
use Rattle.vx_dimacs.specs.declared.line.Line.TheVariants as line
use Rattle.vx_dimacs.specs.declared.number.Mark.{Mark}
use Rattle.vx_dimacs.specs.declared.number.Mark.TheVariants as mark
use Rattle.vx_explain.specs.Rules.{literal_rule}
use Rattle.vx_explain.specs.Text.{term_text}
use Rattle.vx_explain.specs.declared.literal.Literal.{Literal}
use Rattle.vx_explain.proofs.Printed.{not_same}
use Rattle.vx_cut.specs.Parts.{with_term}
use Rattle.vx_cut.specs.Texts.{begins_with_p, clause_text, demand, header_with, heading, is_header, line_with, lines_with, part_text, sign}
use Rattle.vx_cut.proofs.LineTexts.{IsUnbroken, ended_then, part_then, parts_unbroken, plain_both, plain_kept, plain_unbroken}
use Rattle.vx_cut.proofs.Numbers.{number_plain}
use Rattle.vx_cut.proofs.Plainly.{IsPlain, heading_is, heading_line, heading_plain}
use Rattle.vx_cut.proofs.TextParts.{lines_between}
use Rattle.vx_cut.proofs.CnfLines.{IsNumbers, IsSilent, digits_of, head_said, header_more, header_with_plain, marks_header, more, number_then, read_up, same_state, says, within_is}
use Rattle.vx_cut.proofs.CnfReach.{IsHeadOf, follow, Moves, TellsSame, changed, first_move, from_reached, next_reach, good_model, good_state, heads_move, part_reach, reach, reach_then, reached, tells}

-- ---- clauses of one literal

abbrev pub clause_line : Literal → List ℕ
clause_line l = sign l.on ++ decimal (l.option + 1) ++ codes " 0"

sign_plain : (on : Bool) → IsPlain (sign on)
sign_plain true = refl
sign_plain false = refl

clause_plain : (l : Literal) → l.option < 64 → IsPlain (clause_line l)
clause_plain l h =
    plain_both (sign l.on ++ decimal (l.option + 1)) (codes " 0") (plain_both (sign l.on) (decimal (l.option + 1)) (sign_plain l.on) (number_plain (l.option + 1) (omega (arith, h)))) refl

digit_no_sign : (d : ℕ) → is_digit d ≡ true → nat_eq d 45 ≡ false
digit_no_sign d e = grind (arith, nat_tests)

abbrev pub literal_mark : Bool → ℕ → Mark
literal_mark true o = mark.On o
literal_mark false o = mark.Off o

within_variables : (v o : ℕ) → o < v → nat_lt v (o + 1) ≡ false
within_variables v o h = le-ltb v (o + 1) (omega (arith, h))

not_zero : (o : ℕ) → nat_eq (o + 1) 0 ≡ false
not_zero o = grind (arith, nat_tests)

back_one : (o : ℕ) → o + 1 - 1 ≡ o
back_one o = omega arith

-- a word that begins with a digit is its own number
unsigned_up : (d : ℕ) (ds : List ℕ) (v n : ℕ) → nat_eq d 45 ≡ false → up_to 65 (d ∷ ds) ≡ Some (n + 1) → n < v → mark_of v (d ∷ ds) ≡ Some (mark.On n)
unsigned_up d ds v n none value h = rw (none, value, not_zero n, within_variables v n h, back_one n) refl

on_mark : (v o : ℕ) → v ≤ 64 → o < v → mark_of v (decimal (o + 1)) ≡ Some (mark.On o)
on_mark v o few h =
    let d = digits_of (o + 1) (omega (arith, few, h)) in
    let value = read_up 65 (o + 1) (omega (arith, few, h)) (omega (arith, few, h)) in
    ap (mark_of v) d.is ∙ unsigned_up d.first d.rest v o (digit_no_sign d.first d.first_digit) (ap (up_to 65) (sym d.is) ∙ value) h

off_mark : (v o : ℕ) → v ≤ 64 → o < v → mark_of v (45 ∷ decimal (o + 1)) ≡ Some (mark.Off o)
off_mark v o few h =
    let value = read_up 65 (o + 1) (omega (arith, few, h)) (omega (arith, few, h)) in
    rw (value, not_zero o, within_variables v o h, back_one o) refl

literal_marked : (v : ℕ) (on : Bool) (o : ℕ) → v ≤ 64 → o < v → mark_of v (sign on ++ decimal (o + 1)) ≡ Some (literal_mark on o)
literal_marked v true o few h = on_mark v o few h
literal_marked v false o few h = off_mark v o few h

clause_words : (on : Bool) (n : ℕ) → n < 2 ^ 64 → words (sign on ++ decimal n ++ codes " 0") ≡ (sign on ++ decimal n) ∷ codes "0" ∷ []
clause_words true n h = number_then n (48 ∷ []) h
clause_words false n h =
    let d = digits_of n h in
    ap (λ w. words (45 ∷ w ++ 32 ∷ 48 ∷ [])) d.is
    ∙ ap (filter is_filled) (part_then is_blank (45 ∷ d.first ∷ d.rest) (48 ∷ []) 32 d.none_blank refl)
    ∙ ap (λ w. (45 ∷ w) ∷ codes "0" ∷ []) (sym d.is)

-- a number is no word of another kind of line
digit_other : (d k : ℕ) (ds : List ℕ) → is_digit d ≡ true → is_digit k ≡ false → bytes_eq (d ∷ ds) (k ∷ []) ≡ false
digit_other d k ds e f = not_same (d ∷ ds) (k ∷ []) (λ q.
    let first : d ≡ k = cc in
    let wrong : true ≡ false = sym e ∙ ap is_digit first ∙ f in
    cc (wrong))

dash_other : (k : ℕ) (ds : List ℕ) → nat_eq 45 k ≡ false → bytes_eq (45 ∷ ds) (k ∷ []) ≡ false
dash_other k ds n = not_same (45 ∷ ds) (k ∷ []) (λ q.
    let first : 45 ≡ k = cc in
    let wrong : true ≡ false = ap (nat_eq 45) first ∙ n in
    cc (wrong))

literal_other : (on : Bool) (n k : ℕ) → n < 2 ^ 64 → is_digit k ≡ false → nat_eq 45 k ≡ false → bytes_eq (sign on ++ decimal n) (k ∷ []) ≡ false
literal_other true n k h f g = let d = digits_of n h in ap (λ w. bytes_eq w (k ∷ [])) d.is ∙ digit_other d.first k d.rest d.first_digit f
literal_other false n k h f g = dash_other k (decimal n) g

numbers_of : (h : Header) (w : List ℕ) (m : Mark) → mark_of h.variables w ≡ Some m → numbers_line (Some h) (w ∷ codes "0" ∷ []) ≡ Ok (line.Numbers (m ∷ mark.End ∷ []))
unfolding numbers_line
numbers_of h w m e = rw e refl

clause_by : (most : ℕ) (st : State) (h : Header) (w : List ℕ) (m : Mark) → st.header ≡ Some h → bytes_eq w (codes "c") ≡ false → bytes_eq w (codes "p") ≡ false → mark_of h.variables w ≡ Some m
    → line_by most st (w ∷ codes "0" ∷ []) ≡ Ok (line.Numbers (m ∷ mark.End ∷ []))
clause_by most st h w m is c p e = rw (c, p, is, numbers_of h w m e) refl

clause_said : (most : ℕ) (st : State) (h : Header) (l : Literal) → st.header ≡ Some h → h.variables ≤ 64 → l.option < h.variables → line_of most st (clause_line l) ≡ Ok (line.Numbers (literal_mark l.on l.option ∷ mark.End ∷ []))
unfolding line_of
clause_said most st h l is few below =
    let small : l.option + 1 < 2 ^ 64 = omega (arith, few, below) in
    ap (line_by most st) (clause_words l.on (l.option + 1) small)
    ∙ clause_by most st h (sign l.on ++ decimal (l.option + 1)) (literal_mark l.on l.option) is (literal_other l.on (l.option + 1) 99 small refl refl) (literal_other l.on (l.option + 1) 112 small refl refl) (literal_marked h.variables l.on l.option few below)

-- a state in which no clause is begun
abbrev resting : Header → List ℕ → List OptionField → List Formula → State
resting h vs ns rs = record { header = Some h; variables = vs; names = ns; rules = rs; literals = [] }

abbrev mark_rule : Bool → ℕ → Formula
mark_rule on o = if on then tree.Named o else tree.Not (tree.Named o)

not_less : (a b : ℕ) → nat_lt a b ≡ false → b ≤ a
not_less a b e = grind (arith, nat_tests)

has_room : (h : Header) (rs : List Formula) (f : Formula) → length rs + 1 ≤ h.clauses → has_too_many (Some h) (length (rs ++ f ∷ []) + 0) ≡ false
has_room h rs f l = le-ltb h.clauses (length (rs ++ f ∷ []) + 0) (omega (arith, l, length-append rs (f ∷ [])))

clause_moves : (h : Header) (vs : List ℕ) (ns : List OptionField) (rs : List Formula) (on : Bool) (o : ℕ) → length rs + 1 ≤ h.clauses
    → with_line (resting h vs ns rs) (line.Numbers (literal_mark on o ∷ mark.End ∷ [])) ≡ Ok (resting h vs ns (rs ++ mark_rule on o ∷ []))
unfolding with_marks
clause_moves h vs ns rs true o l = rw (has_room h rs (tree.Named o) l) refl
clause_moves h vs ns rs false o l = rw (has_room h rs (tree.Not (tree.Named o)) l) refl

abbrev IsOf : ℕ → List Literal → Type 0
IsOf n term = AllByRecursion (λ (l : Literal). l.option < n) term

clauses_reach : (most : ℕ) (h : Header) (vs : List ℕ) (ns : List OptionField) (term : List Literal) (rs : List Formula) → h.variables ≤ 64 → IsOf h.variables term → length rs + length term ≤ h.clauses
    → reach most (resting h vs ns rs) (map clause_line term) ≡ Ok (resting h vs ns (rs ++ map literal_rule term))
clauses_reach most h vs ns [] rs few of fit = ap (λ r. good_state (resting h vs ns r)) (sym (append-nil rs))
clauses_reach most h vs ns (l ∷ ls) rs few of fit =
    let next = clauses_reach most h vs ns ls (rs ++ literal_rule l ∷ []) few of.1 (omega (arith, fit, length-append rs (literal_rule l ∷ []))) in
    let first = clause_said most (resting h vs ns rs) h l refl few of.0 in
    let step = clause_moves h vs ns rs l.on l.option (omega (arith, fit)) in
    ap (λ r. follow (follow r (with_line (resting h vs ns rs))) (λ new. reach most new (map clause_line ls))) first
    ∙ ap (λ r. follow r (λ new. reach most new (map clause_line ls))) step
    ∙ next ∙ ap (λ r. good_state (resting h vs ns r)) (append_assoc rs (literal_rule l ∷ []) (map literal_rule ls))

-- ---- the end

-- the last state of a text that is a model
pub record IsEnd (e : State) (m : Model) : Type 0 where
  pub header : Header
  pub headed : e.header ≡ Some header
  pub none_begun : e.literals ≡ []
  pub all : header.clauses ≤ length e.rules
  pub is : m ≡ record { options = options_upto e header.variables; rules = e.rules }

nothing_left : (fs : List Formula) → is_nothing fs ≡ true → fs ≡ []
nothing_left [] e = refl
nothing_left (f ∷ fs) e = cc (e)

neither : (a b : Bool) → (not a || b) ≡ false → (a ≡ true) × (b ≡ false)
neither true b e = (refl, e)
neither false b e = cc (e)

same_model : (m n : Model) → good_model m ≡ Ok n → m ≡ n
same_model m n e = cc

end_by : (e : State) (m : Model) (o : Option Header) → e.header ≡ o → ended e o ≡ Ok m → IsEnd e m
end_by e m None is h = cc (h)
end_by e m (Some g) is h = by (not (is_nothing e.literals) || nat_lt (length e.rules) g.clauses) refl h
  where
    by : (b : Bool) → (not (is_nothing e.literals) || nat_lt (length e.rules) g.clauses) ≡ b → (if b then Err 9 else good_model (record { options = options_upto e g.variables; rules = e.rules })) ≡ Ok m → IsEnd e m
    by true t k = cc (k)
    by false t k =
        let two = neither (is_nothing e.literals) (nat_lt (length e.rules) g.clauses) t in
        record { header = g; headed = is; none_begun = nothing_left e.literals two.0; all = not_less (length e.rules) g.clauses two.1; is = sym (same_model _ m k) }

pub ends_so : (e : State) (m : Model) → end_of e ≡ Ok m → IsEnd e m
unfolding end_of
ends_so e m h = end_by e m e.header refl h

upto_length : (st : State) (n : ℕ) → length (options_upto st n) ≡ n
unfolding options_upto
upto_length st zero = refl
upto_length st (suc n) = omega (arith, length-append (options_upto st n) (option_for st (suc n) ∷ []), upto_length st n)

-- the options are told by the names alone
upto_same : (h : Header) (e : State) (rs : List Formula) (n : ℕ) → options_upto (resting h e.variables e.names rs) n ≡ options_upto e n
unfolding options_upto
upto_same h e rs zero = refl
upto_same h e rs (suc n) = ap (λ os. os ++ option_for e (suc n) ∷ []) (upto_same h e rs n)

-- ---- no more clauses than the header says

abbrev WithinOf : Option Header → List Formula → Type 0
WithinOf None rules = rules ≡ []
WithinOf (Some h) rules = length rules ≤ h.clauses

abbrev IsWithin : State → Type 0
IsWithin st = WithinOf st.header st.rules

silent_within : (st new : State) (x : Line) → IsSilent x → with_line st x ≡ Ok new → IsWithin st → IsWithin new
silent_within st new line.Nothing h e w = subst IsWithin (same_state st new e) w
silent_within st new (line.Names naming) h e w = subst IsWithin (same_state (record st { variables = st.variables ++ naming.variable ∷ []; names = st.names ++ naming.option ∷ [] }) new e) w
silent_within st new (line.Heads header) h e w = absurd h
silent_within st new (line.Numbers ms) h e w = absurd h

room_of : (st : State) (h : Header) → st.header ≡ Some h → has_too_many st.header (begun st) ≡ false → IsWithin st
room_of st h is e =
    let le : begun st ≤ h.clauses = not_less h.clauses (begun st) (ap (λ o. has_too_many o (begun st)) (sym is) ∙ e) in
    let few : length st.rules ≤ h.clauses = omega (arith, le) in
    subst (λ o. WithinOf o st.rules) (sym is) few

numbers_within : (st new : State) (text : List ℕ) (x : Line) → IsNumbers st text x → with_line st x ≡ Ok new → IsWithin new
numbers_within st new text x n e =
    let w = within_is (with_marks st n.marks) new (ap (with_line st) (sym n.is) ∙ e) in
    subst IsWithin w.1 (room_of (with_marks st n.marks) n.header (marks_header n.marks st ∙ n.headed) w.0)

step_within : (st new : State) (text : List ℕ) (x : Line) → IsSilent x ⊎ IsNumbers st text x → with_line st x ≡ Ok new → IsWithin st → IsWithin new
step_within st new text x (inl s) e w = silent_within st new x s e w
step_within st new text x (inr n) e w = numbers_within st new text x n e

none_yet : (o : Option Header) (rules : List Formula) → o ≡ None → WithinOf o rules → rules ≡ []
none_yet o rules is w = subst (λ p. WithinOf p rules) is w

reach_within : (most : ℕ) (ls : List (List ℕ)) (st e : State) → reach most st ls ≡ Ok e → IsWithin st → IsWithin e
reach_within most [] st e r w = subst IsWithin (same_state st e r) w
reach_within most (l ∷ ls) st e r w =
    let f = first_move most st e l ls r in
    reach_within most ls f.0 e f.2 (by (begins_with_p (words l)) refl f.0 f.1)
  where
    by : (b : Bool) → begins_with_p (words l) ≡ b → (new : State) → Moves most st l new → IsWithin new
    by false p new m = step_within st new l m.x (says most st l m.x p m.says) m.moves w
    by true p new m =
        let q = (head_said most st l m.x p m.says).2 in
        let none : st.rules ≡ [] = none_yet st.header st.rules q.first w in
        let few : length st.rules ≤ q.header.clauses = omega (arith, ap length none) in
        subst IsWithin (sym (heads_move st new q.header m.x q.is m.moves)) few

-- ---- a part

either_way : (b : Bool) (x : Result Line ℕ) → (if b then x else x) ≡ x
either_way true x = refl
either_way false x = refl

comment_nothing : (most : ℕ) (st : State) (ws : List (List ℕ)) → comment_line most st (codes "part" ∷ ws) ≡ Ok line.Nothing
unfolding comment_line
comment_nothing most st [] = refl
comment_nothing most st (a ∷ []) = refl
comment_nothing most st (a ∷ b ∷ []) = refl
comment_nothing most st (a ∷ b ∷ c ∷ []) = either_way (list_all is_visible b && list_all is_visible c) (Ok line.Nothing)
comment_nothing most st (a ∷ b ∷ c ∷ d ∷ rest) = refl

comment_said : (most : ℕ) (st : State) (model : Model) (number : ℕ) (term : List Literal) → line_of most st (heading_line true model number term) ≡ Ok line.Nothing
unfolding line_of
comment_said most st model number term = comment_nothing most st (words (decimal number ++ codes " " ++ term_text (names_of model) term))

comment_tells : (model : Model) (number : ℕ) (term : List Literal) (other : Option ℕ) → told_by (words (heading_line true model number term)) other ≡ other
comment_tells model number term other = refl

changed_lines : (model : Model) (k : ℕ) (ls : List (List ℕ)) → map without_return (map (line_with true model k) ls) ≡ map (changed model k) ls
changed_lines model k [] = refl
changed_lines model k (l ∷ ls) = ap (λ r. changed model k l ∷ r) (changed_lines model k ls)

changed_unbroken : (model : Model) (k : ℕ) (ls : List (List ℕ)) → length model.options ≤ 64 → length model.rules + k ≤ 1000000 → AllByRecursion IsUnbroken ls → AllByRecursion (λ l. IsUnbroken (line_with true model k l)) ls
changed_unbroken model k [] few fit h = tt
changed_unbroken model k (l ∷ ls) few fit h = (by (is_header l), changed_unbroken model k ls few fit h.1)
  where
    by : (b : Bool) → IsUnbroken (if b then header_with model k else l)
    by true = plain_unbroken (header_with model k) (header_with_plain model k few fit)
    by false = h.0

clauses_unbroken : (n : ℕ) (term : List Literal) → n ≤ 64 → IsOf n term → AllByRecursion (λ l. IsUnbroken (clause_line l)) term
clauses_unbroken n [] few of = tt
clauses_unbroken n (l ∷ ls) few of = (plain_unbroken (clause_line l) (clause_plain l (omega (arith, few, of.0))), clauses_unbroken n ls few of.1)

clauses_kept : (n : ℕ) (term : List Literal) → n ≤ 64 → IsOf n term → map without_return (map clause_line term) ≡ map clause_line term
clauses_kept n [] few of = refl
clauses_kept n (l ∷ ls) few of = λ i. plain_kept (clause_line l) (clause_plain l (omega (arith, few, of.0))) i ∷ clauses_kept n ls few of.1 i

demand_lines : (model : Model) (term : List Literal) → length model.options ≤ 64 → IsOf (length model.options) term → lines (demand true model term) ≡ map clause_line term
unfolding demand
demand_lines model term few of =
    ap lines (sym (append-nil (flat_map (λ l. clause_line l ++ codes "\n") term)))
    ∙ ap (map without_return) (ended_then clause_line term [] (clauses_unbroken (length model.options) term few of) ∙ append-nil (map clause_line term))
    ∙ clauses_kept (length model.options) term few of

part_lines : (text : List ℕ) (model : Model) (number : ℕ) (term : List Literal) → number < 2 ^ 64 → HasOptionNames model → length model.options ≤ 64 → length model.rules + length term ≤ 1000000 → IsOf (length model.options) term
    → lines (part_text true text model number term) ≡ heading_line true model number term ∷ (map (changed model (length term)) (parts is_line_feed text) ++ map clause_line term)
unfolding lines_with
part_lines text model number term small names few fit of =
    let raw = parts is_line_feed text in
    let k = length term in
    ap (λ h. lines (h ++ lines_with true model k text ++ demand true model term)) (heading_is true model number term)
    ∙ lines_between (heading_line true model number term) (demand true model term) (line_with true model k) raw (heading_plain true model number term small names.named) (changed_unbroken model k raw few fit (parts_unbroken text))
    ∙ (λ i. heading_line true model number term ∷ (changed_lines model k raw i ++ demand_lines model term few of i))

-- the model that a last state gives, and the header in it
record IsWhole (e : State) (m : Model) : Type 0 where
  ending : IsEnd e m
  head : IsHeadOf e m
  rules : e.rules ≡ m.rules

whole : (e : State) (m : Model) → length m.options ≤ 64 → end_of e ≡ Ok m → IsWithin e → IsWhole e m
whole e m few ends within =
    let d = ends_so e m ends in
    let rules : m.rules ≡ e.rules = ap (λ (x : Model). x.rules) d.is in
    let options : length m.options ≡ d.header.variables = ap (λ (x : Model). length x.options) d.is ∙ upto_length e d.header.variables in
    let most : length e.rules ≤ d.header.clauses = subst (λ o. WithinOf o e.rules) d.headed within in
    let clauses : d.header.clauses ≡ length m.rules = omega (arith, most, d.all, ap length rules) in
    record {
      ending = d;
      head = record { header = d.headed ∙ (λ i. Some (record { variables = sym options i; clauses = clauses i })); few = few };
      rules = sym rules;
    }

-- the state with more clauses, in which none is begun
at_rest : (e : State) (m : Model) (k : ℕ) → IsWhole e m → more k e ≡ resting (header_more k (record { variables = length m.options; clauses = length m.rules })) e.variables e.names m.rules
at_rest e m k w = λ i. record {
  header = option_map (header_more k) (w.head.header i);
  variables = e.variables;
  names = e.names;
  rules = w.rules i;
  literals = w.ending.none_begun i;
}

own_options : (e : State) (m : Model) → IsWhole e m → options_upto e (length m.options) ≡ m.options
own_options e m w =
    let d = w.ending in
    let options : m.options ≡ options_upto e d.header.variables = ap (λ (x : Model). x.options) d.is in
    let count : length m.options ≡ d.header.variables = ap length options ∙ upto_length e d.header.variables in
    ap (options_upto e) count ∙ sym options

all_there : (h : Header) (rs : List Formula) → length rs ≡ h.clauses → nat_lt (length rs) h.clauses ≡ false
all_there h rs e = le-ltb (length rs) h.clauses (omega (arith, e))

ends_with_term : (e : State) (m : Model) (term : List Literal) → IsWhole e m
    → end_of (resting (header_more (length term) (record { variables = length m.options; clauses = length m.rules })) e.variables e.names (m.rules ++ map literal_rule term)) ≡ Ok (with_term true m term)
unfolding end_of
ends_with_term e m term w =
    let h : Header = header_more (length term) (record { variables = length m.options; clauses = length m.rules }) in
    let rs = m.rules ++ map literal_rule term in
    let count : length rs ≡ h.clauses = length-append m.rules (map literal_rule term) ∙ ap (λ n. length m.rules + n) (length-map term literal_rule) in
    rw (all_there h rs count) (ap (λ os. good_model (record { options = os; rules = rs })) (upto_same h e rs (length m.options) ∙ own_options e m w))

same_term : (m : Model) (n : ℕ) (term : List Literal) → length m.options ≡ n → IsOf (length m.options) term → IsOf n term
same_term m n term e of = subst (λ k. IsOf k term) e of

-- the last state of a part
last_reach : (most : ℕ) (e : State) (m : Model) (term : List Literal) → IsWhole e m → IsOf (length m.options) term
    → reach most (more (length term) e) (map clause_line term) ≡ Ok (resting (header_more (length term) (record { variables = length m.options; clauses = length m.rules })) e.variables e.names (m.rules ++ map literal_rule term))
last_reach most e m term w of =
    ap (λ s. reach most s (map clause_line term)) (at_rest e m (length term) w)
    ∙ clauses_reach most (header_more (length term) (record { variables = length m.options; clauses = length m.rules })) e.variables e.names term m.rules w.head.few of (omega arith)

-- a part is read as the model with a clause for each literal of its term
pub cnf_part_read : (text : List ℕ) (model : Model) (number : ℕ) (term : List Literal) → number < 2 ^ 64 → HasOptionNames model → length model.options ≤ 64 → IsOf (length model.options) term → length model.rules + length term ≤ 1000000
    → dimacs_of text ≡ Ok model → dimacs_of (part_text true text model number term) ≡ Ok (with_term true model term)
cnf_part_read text model number term small names few of fit read =
    let k = length term in
    let raw = parts is_line_feed text in
    let most = unwrap_or (first_told (lines text)) 65 in
    let r = reached most 1 (lines text) nothing_yet model read in
    let w = whole r.last model few r.ends (reach_within most (lines text) nothing_yet r.last r.there refl) in
    let tail = map clause_line term in
    let own = map (changed model k) raw in
    let t = tells most model k tail raw nothing_yet r.last w.head fit refl r.there in
    let head = heading_line true model number term in
    let cut = part_lines text model number term small names few fit of in
    let same : unwrap_or (first_told (head ∷ (own ++ tail))) 65 ≡ most = ap (λ o. unwrap_or o 65) (comment_tells model number term (first_told (own ++ tail)) ∙ t.changed ∙ sym t.own) in
    let last = resting (header_more k (record { variables = length model.options; clauses = length model.rules })) r.last.variables r.last.names (model.rules ++ map literal_rule term) in
    let there : reach most nothing_yet (own ++ tail) ≡ Ok last = reach_then most own tail nothing_yet (more k r.last) (part_reach most model k raw nothing_yet r.last w.head fit r.there) ∙ last_reach most r.last model term w of in
    let from : Moves most nothing_yet head nothing_yet = record { x = line.Nothing; says = comment_said most nothing_yet model number term; moves = refl } in
    let whole_there = next_reach most nothing_yet nothing_yet last head (own ++ tail) from there in
    ap (λ ls. lines_of (unwrap_or (first_told ls) 65) 1 nothing_yet ls) cut
    ∙ ap (λ n. lines_of n 1 nothing_yet (head ∷ (own ++ tail))) same
    ∙ from_reached most 1 (head ∷ (own ++ tail)) nothing_yet last (with_term true model term) whole_there (ends_with_term r.last model term w)
