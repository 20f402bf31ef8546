-- Remarks line by line, and that they are exact.
use Rattle.std.proofs.Common.{Bool, List, None, Ok, Option, Some, [], ap, append_assoc, cond, false, if◌then◌else◌, is_some, not, refl, subst, sym, true, ℕ, ◌&&◌, ◌++◌, ◌+◌, ◌∙◌, ◌∷◌, ◌≡◌}
use Rattle.std.proofs.lemmas.List.{append-nil}
use Rattle.std.specs.List.{list_all, list_any}
use Rattle.std.specs.Prelude.{Err, map, nat_le, ◌==◌, ◌||◌}
use Rattle.std.specs.declared.result.Result.{Result}
use Rattle.vx_dimacs.specs.Dimacs.{State, comment_line, is_variable_name, is_visible, named, named_as, up_to}
use Rattle.vx_dimacs.specs.declared.line.Line.{Line}
use Rattle.vx_dimacs.specs.declared.line.Line.TheVariants.{Names, Nothing}
use Rattle.vx_model.specs.Text.{clashes, slash}
use Rattle.vx_model.specs.declared.model.FieldPlace.{FieldPlace}
use Rattle.vx_words.specs.Lines.{lines, words}
use Rattle.vx_words.specs.Names.{is_name}
use Rattle.vx_overview.specs.declared.remarks.Remark.{Remark}
use Rattle.vx_overview.specs.declared.remarks.Remark.TheVariants.{NoName, NoVariable, NotPlain, OtherVariable, WordCount}
use Rattle.vx_overview.specs.Remarks.{remark_behind, remark_in, remark_lines, remark_of, remarks_from, says_nothing}

-- ---- lines

pub remarks_step : (most number : ℕ) (out total : List ℕ) (line : List ℕ) (all rest : List (List ℕ)) → all ≡ line ∷ rest → out ++ remarks_from most number all ≡ total
    → (out ++ remark_lines number line (remark_in most (words line))) ++ remarks_from most (number + 1) rest ≡ total
unfolding remarks_from
remarks_step most number out total line all rest is e =
    append_assoc out (remark_lines number line (remark_in most (words line))) (remarks_from most (number + 1) rest)
    ∙ ap (λ ls. out ++ remarks_from most number ls) (sym is)
    ∙ e

pub remarks_end : (most number : ℕ) (out total rest : List ℕ) → rest ≡ [] → out ++ remarks_from most number (lines rest) ≡ total → out ≡ total
unfolding remarks_from
remarks_end most number out total rest is e = sym (append-nil out) ∙ ap (λ text. out ++ remarks_from most number (lines text)) (sym is) ∙ e

-- ---- exactness

-- a name that is lawful names a variable, or is taken
names_or_taken : (before : State) (variable : ℕ) (name : List ℕ) (place : Option FieldPlace) → says_nothing (named_as before variable name place) ≡ false
names_or_taken before variable name place = by (list_any (λ k. k == variable) before.variables || list_any (clashes name place) before.names)
  where
    by : (b : Bool) → says_nothing (if b then Err 3 else Ok (Names (record { variable = variable; option = record { name = name; place = place } }))) ≡ false
    by true = refl
    by false = refl

both_first : (a b : Bool) → (a && b) ≡ true → a ≡ true
both_first true b e = refl
both_first false b e = e

-- the first test that fails is told where one fails
chain : (a m n w : Bool) (o : Option Remark) → (w ≡ true → n ≡ true)
    → is_some (if not (a && m) then Some NoVariable else if not n then Some NoName else if not w then Some OtherVariable else o) ≡ (if a && (m && w) then is_some o else true)
chain false m n w o named = refl
chain true false n w o named = refl
chain true true false true o named = let wrong = named refl in absurd cc
chain true true false false o named = refl
chain true true true false o named = refl
chain true true true true o named = refl

is_named : (number name : List ℕ) → is_variable_name number name ≡ true → is_name name ≡ true
unfolding is_variable_name
is_named number name e = both_first (is_name name) _ e

-- what is remarked of a class and a field
abbrev of_fields : Bool → Option Remark
of_fields visible = if visible then None else Some NotPlain

-- a line that names a variable where the tests pass
says : (b : Bool) (l : Result Line ℕ) → says_nothing l ≡ false → says_nothing (if b then l else Ok Nothing) ≡ not b
says true l e = e
says false l e = refl

pub exact : (most variable : ℕ) (before : State) (number name : List ℕ) (rest : List (List ℕ)) → up_to 65 number ≡ Some variable
    → is_some (remark_of most variable number name rest) ≡ says_nothing (comment_line most before (number ∷ name ∷ rest))
unfolding comment_line
exact most variable before number name rest is = by rest
  where
    told : (o : Option Remark) → is_some (if not ((nat_le 1 variable && nat_le variable 64) && nat_le variable most) then Some NoVariable else if not (is_name name) then Some NoName else if not (is_variable_name number name) then Some OtherVariable else o)
        ≡ (if (nat_le 1 variable && nat_le variable 64) && (nat_le variable most && is_variable_name number name) then is_some o else true)
    told o = chain (nat_le 1 variable && nat_le variable 64) (nat_le variable most) (is_name name) (is_variable_name number name) o (is_named number name)

    nothing : (place : Option FieldPlace) → says_nothing (named most before (up_to 65 number) number name place) ≡ not ((nat_le 1 variable && nat_le variable 64) && (nat_le variable most && is_variable_name number name))
    nothing place = rw is (says ((nat_le 1 variable && nat_le variable 64) && (nat_le variable most && is_variable_name number name)) (named_as before variable name place) (names_or_taken before variable name place))

    always : (b : Bool) → (if b then true else true) ≡ true
    always true = refl
    always false = refl

    none : (b : Bool) → (if b then false else true) ≡ not b
    none true = refl
    none false = refl

    fields : (b v : Bool) (place : Option FieldPlace) → says_nothing (named most before (up_to 65 number) number name place) ≡ not b
        → (if b then is_some (of_fields v) else true) ≡ says_nothing (if v then named most before (up_to 65 number) number name place else Ok Nothing)
    fields true true place e = sym e
    fields true false place e = refl
    fields false true place e = sym e
    fields false false place e = refl

    by : (rest : List (List ℕ)) → is_some (remark_of most variable number name rest) ≡ says_nothing (comment_line most before (number ∷ name ∷ rest))
    by [] = told None ∙ none _ ∙ sym (nothing None)
    by (x ∷ []) = told (Some WordCount) ∙ always _
    by (class ∷ field ∷ []) =
        let visible = list_all is_visible class && list_all is_visible field in
        let place = Some (record { class = map slash class; field = field }) in
        told (of_fields visible) ∙ fields _ visible place (nothing place)
    by (x ∷ y ∷ z ∷ more) = told (Some WordCount) ∙ always _
