-- What is read is a model that each call takes.
use Rattle.std.proofs.Common.{◌≡◌, ◌≢◌, ◌⊎◌, inl, inr, ℕ, zero, suc, ◌+◌, ◌<◌, ◌≤◌, List, [], ◌∷◌, ◌++◌, length, length-append, get_or, slice_get, unwrap_or, refl, sym, ap, ◌∙◌, subst, arith, true, not, ◌||◌, nat_lt, Option, Some, None, Result, Ok, Err}
use Rattle.std.specs.Prelude.{◌==◌, position}
use Rattle.std.proofs.lemmas.Bool.{eqb-true}
use Rattle.std.proofs.lemmas.List.Quantifiers.{position-Some}
use Rattle.vx_words.specs.Decimal.{decimal}
use Rattle.vx_words.specs.Lines.{lines}
use Rattle.vx_words.specs.Names.{is_name}
use Rattle.vx_model.specs.Formula.{Formula, formulas}
use Rattle.vx_model.specs.Formula as tree
use Rattle.vx_model.specs.Grammar.{disjunction}
use Rattle.vx_model.specs.Models.{AllApart, ApartFromAll, AreApart, DifferentPlaces, IsModel, HasOptionNames}
use Rattle.vx_model.specs.Text.{at_line}
use Rattle.vx_model.specs.Truth.{AllNamesBelow}
use Rattle.vx_model.specs.declared.model.FieldPlace.{FieldPlace}
use Rattle.vx_model.specs.declared.model.Model.{Model}
use Rattle.vx_model.specs.declared.model.OptionField.{OptionField}
use Rattle.vx_model.proofs.Lawful.{AreNamed, IsRead, all_apart, all_below-append, named_at, named_more, one_more, option_names}
use Rattle.vx_model.proofs.Names.{disjunction_names}
use Rattle.vx_dimacs.specs.Dimacs.{State, begun, dimacs_of, end_of, ended, has_too_many, is_nothing, line_of, lines_of, nothing_yet, numeral, option_at, option_for, options_upto, plain_option, with_line, with_mark, with_marks}
use Rattle.vx_dimacs.specs.declared.line.Header.{Header}
use Rattle.vx_dimacs.specs.declared.line.Line.{Line}
use Rattle.vx_dimacs.specs.declared.line.Line.TheVariants as line
use Rattle.vx_dimacs.specs.declared.number.Mark.{Mark}
use Rattle.vx_dimacs.specs.declared.number.Mark.TheVariants as mark
use Rattle.vx_dimacs.proofs.Fits.{Fits, IsOwn, MarkBelow, MarksBelow, line_fits, numeral_named, numeral_spells, same_tail}
use Rattle.vx_dimacs.proofs.Following.{mark_header}
use Rattle.vx_model.proofs.Fits.{passed}

-- ---- options that are apart

abbrev AllApartFrom : List OptionField → OptionField → Type 0
AllApartFrom [] a = Unit {0}
AllApartFrom (o ∷ os) a = AreApart o a × AllApartFrom os a

apart_more : (os : List OptionField) (option : OptionField) → AllApart os → AllApartFrom os option → AllApart (os ++ option ∷ [])
apart_more [] option h from = (tt, tt)
apart_more (o ∷ os) option h from = (one_more o option os h.0 from.0, apart_more os option h.1 from.1)

-- ---- what the lines so far keep

-- each variable that is named has a name of its own
abbrev AllOwn : List ℕ → List OptionField → Type 0
AllOwn [] [] = Unit {0}
AllOwn [] (o ∷ os) = ⊥
AllOwn (v ∷ vs) [] = ⊥
AllOwn (v ∷ vs) (o ∷ os) = IsOwn v o × AllOwn vs os

-- the rules and literals name variables of the header
abbrev Within : Option Header → List Formula → List Formula → Type 0
Within None rules literals = (rules ≡ []) × (literals ≡ [])
Within (Some header) rules literals =
    (header.variables ≤ 64) × AllNamesBelow header.variables (formulas rules) × AllNamesBelow header.variables (formulas literals)

record IsSound (st : State) : Type 0 where
  own : AllOwn st.variables st.names
  apart : AllApart st.names
  named : AreNamed st.names
  within : Within st.header st.rules st.literals

own_more : (vs : List ℕ) (os : List OptionField) (v : ℕ) (o : OptionField) → AllOwn vs os → IsOwn v o → AllOwn (vs ++ v ∷ []) (os ++ o ∷ [])
own_more [] [] v o h own = (own, tt)
own_more [] (a ∷ os) v o h own = absurd h
own_more (k ∷ vs) [] v o h own = absurd h
own_more (k ∷ vs) (a ∷ os) v o h own = (h.0, own_more vs os v o h.1 own)

empty_before : (header : Option Header) (rules literals : List Formula) → header ≡ None → Within header rules literals → (rules ≡ []) × (literals ≡ [])
empty_before header rules literals is h = subst (λ o. Within o rules literals) is h

behind_header : (header : Option Header) (is : Header) (rules literals : List Formula) → header ≡ Some is → Within header rules literals → Within (Some is) rules literals
behind_header header is rules literals same h = subst (λ o. Within o rules literals) same h

mark_within : (header : Header) (st : State) (m : Mark) → MarkBelow header.variables m → Within (Some header) st.rules st.literals
    → Within (Some header) (with_mark st m).rules (with_mark st m).literals
mark_within header st mark.End below h =
    (h.0, all_below-append header.variables st.rules (disjunction st.literals) h.1 (disjunction_names header.variables st.literals h.2), tt)
mark_within header st (mark.On k) below h = (h.0, h.1, all_below-append header.variables st.literals (tree.Named k) h.2 below)
mark_within header st (mark.Off k) below h = (h.0, h.1, all_below-append header.variables st.literals (tree.Not (tree.Named k)) h.2 below)

mark_sound : (header : Header) (st : State) (m : Mark) → st.header ≡ Some header → MarkBelow header.variables m → IsSound st → IsSound (with_mark st m)
mark_sound header st mark.End is below h = record {
  own = h.own;
  apart = h.apart;
  named = h.named;
  within = subst (λ o. Within o (with_mark st mark.End).rules []) (sym is) (mark_within header st mark.End below (behind_header st.header header st.rules st.literals is h.within));
}
mark_sound header st (mark.On k) is below h = record {
  own = h.own;
  apart = h.apart;
  named = h.named;
  within = subst (λ o. Within o st.rules (with_mark st (mark.On k)).literals) (sym is)
      (mark_within header st (mark.On k) below (behind_header st.header header st.rules st.literals is h.within));
}
mark_sound header st (mark.Off k) is below h = record {
  own = h.own;
  apart = h.apart;
  named = h.named;
  within = subst (λ o. Within o st.rules (with_mark st (mark.Off k)).literals) (sym is)
      (mark_within header st (mark.Off k) below (behind_header st.header header st.rules st.literals is h.within));
}

marks_sound : (header : Header) (ms : List Mark) (st : State) → st.header ≡ Some header → MarksBelow header.variables ms → IsSound st → IsSound (with_marks st ms)
unfolding with_marks
marks_sound header [] st is below h = h
marks_sound header (m ∷ ms) st is below h =
    marks_sound header ms (with_mark st m) (mark_header st m ∙ is) below.1 (mark_sound header st m is below.0 h)

abbrev good_state : State → Result State ℕ
good_state s = Ok s

same_sound : (s t : State) → good_state s ≡ Ok t → IsSound s → IsSound t
same_sound s t e h = let same : s ≡ t = cc e in subst IsSound same h

with_sound : (st new : State) (l : Line) → with_line st l ≡ Ok new → IsSound st → Fits st l → IsSound new
with_sound st new line.Nothing e h fits = same_sound st new e h
with_sound st new (line.Names naming) e h fits =
    same_sound _ new e
    (record {
      own = own_more st.variables st.names naming.variable naming.option h.own fits.own;
      apart = all_apart st.names naming.option h.apart fits.free;
      named = named_more st.names naming.option h.named fits.named;
      within = h.within;
    })
with_sound st new (line.Heads header) e h fits =
    let before = empty_before st.header st.rules st.literals fits.0 h.within in
    same_sound _ new e
    (record {
      own = h.own;
      apart = h.apart;
      named = h.named;
      within = (
        fits.1,
        subst (λ fs. AllNamesBelow header.variables (formulas fs)) (sym before.0) tt,
        subst (λ fs. AllNamesBelow header.variables (formulas fs)) (sym before.1) tt,
      );
    })
with_sound st new (line.Numbers ms) e h fits =
    let one = passed (has_too_many (with_marks st ms).header (begun (with_marks st ms))) 9 _ new e in
    same_sound (with_marks st ms) new one.1 (marks_sound fits.header ms st fits.is fits.below h)

-- ---- the option of a variable: one that a line names, or the variable's own name

record IsNamed (st : State) (variable : ℕ) (option : OptionField) : Type 0 where
  place : ℕ
  variable_is : get_or st.variables place 0 ≡ variable
  option_is : slice_get st.names place ≡ Some option

abbrev Chosen : State → ℕ → OptionField → Type 0
Chosen st variable option = (option ≡ plain_option variable) ⊎ IsNamed st variable option

chosen_at : (st : State) (variable place : ℕ) (found : Option OptionField) → get_or st.variables place 0 ≡ variable → slice_get st.names place ≡ found
    → Chosen st variable (unwrap_or found (plain_option variable))
chosen_at st variable place None is found = inl refl
chosen_at st variable place (Some option) is found = inr (record { place = place; variable_is = is; option_is = found })

chosen_by : (st : State) (variable : ℕ) (at : Option ℕ) → position (λ k. k == variable) st.variables ≡ at → Chosen st variable (option_at st.names variable at)
chosen_by st variable None e = inl refl
chosen_by st variable (Some place) e =
    let found = position-Some (λ k. k == variable) st.variables place 0 e in
    chosen_at st variable place (slice_get st.names place) (eqb-true (get_or st.variables place 0) variable found.1) refl

chosen : (st : State) (variable : ℕ) → Chosen st variable (option_for st variable)
chosen st variable = chosen_by st variable (position (λ k. k == variable) st.variables) refl

own_at : (vs : List ℕ) (os : List OptionField) (place : ℕ) (option : OptionField) → AllOwn vs os → slice_get os place ≡ Some option → IsOwn (get_or vs place 0) option
own_at [] [] place option h e = cc e
own_at [] (o ∷ os) place option h e = absurd h
own_at (v ∷ vs) [] place option h e = absurd h
own_at (v ∷ vs) (o ∷ os) zero option h e = let same : o ≡ option = cc e in subst (IsOwn v) same h.0
own_at (v ∷ vs) (o ∷ os) (suc place) option h e = own_at vs os place option h.1 e

apart_places : (a b : Option FieldPlace) → DifferentPlaces a b → DifferentPlaces b a
apart_places None None h = tt
apart_places None (Some b) h = tt
apart_places (Some a) None h = tt
apart_places (Some a) (Some b) h = λ e. h (sym e)

no_place : (a : Option FieldPlace) → DifferentPlaces a None
no_place None = tt
no_place (Some a) = tt

swapped : (a b : OptionField) → AreApart a b → AreApart b a
swapped a b h = (λ e. h.0 (sym e), apart_places a.place b.place h.1)

from_all : (a : OptionField) (os : List OptionField) (place : ℕ) (b : OptionField) → ApartFromAll a os → slice_get os place ≡ Some b → AreApart a b
from_all a [] place b h e = cc e
from_all a (o ∷ os) zero b h e = let same : o ≡ b = cc e in subst (AreApart a) same h.0
from_all a (o ∷ os) (suc place) b h e = from_all a os place b h.1 e

apart_at : (os : List OptionField) (p q : ℕ) (a b : OptionField) → AllApart os → p ≢ q → slice_get os p ≡ Some a → slice_get os q ≡ Some b → AreApart a b
apart_at [] p q a b h unlike e f = cc e
apart_at (o ∷ os) zero zero a b h unlike e f = absurd (unlike refl)
apart_at (o ∷ os) zero (suc q) a b h unlike e f = let same : o ≡ a = cc e in subst (λ k. AreApart k b) same (from_all o os q b h.0 f)
apart_at (o ∷ os) (suc p) zero a b h unlike e f =
    let same : o ≡ b = cc f in subst (AreApart a) same (swapped o a (from_all o os p a h.0 e))
apart_at (o ∷ os) (suc p) (suc q) a b h unlike e f = apart_at os p q a b h.1 (λ same. unlike (ap suc same)) e f

same_number : (i j : ℕ) → i < 100 → j < 100 → 118 ∷ numeral i ≡ 118 ∷ numeral j → i ≡ j
same_number i j low high e =
    let both : Some i ≡ Some j = sym (numeral_spells i low) ∙ ap decimal (same_tail (numeral i) (numeral j) e) ∙ numeral_spells j high in cc both

chosen_apart : (st : State) (i j : ℕ) (a b : OptionField) → IsSound st → i ≢ j → i < 100 → j < 100 → Chosen st i a → Chosen st j b → AreApart a b
chosen_apart st i j a b h unlike low high (inl is) (inl also) =
    subst (λ k. AreApart k b) (sym is) (subst (AreApart (plain_option i)) (sym also) (λ e. unlike (same_number i j low high e), tt))
chosen_apart st i j a b h unlike low high (inl is) (inr named) =
    let own : IsOwn j b = subst (λ v. IsOwn v b) named.variable_is (own_at st.variables st.names named.place b h.own named.option_is) in
    subst (λ k. AreApart k b) (sym is) (λ e. unlike (own i low (sym e)), tt)
chosen_apart st i j a b h unlike low high (inr named) (inl also) =
    let own : IsOwn i a = subst (λ v. IsOwn v a) named.variable_is (own_at st.variables st.names named.place a h.own named.option_is) in
    subst (AreApart a) (sym also) (λ e. unlike (sym (own j high e)), no_place a.place)
chosen_apart st i j a b h unlike low high (inr named) (inr other) =
    apart_at st.names named.place other.place a b h.apart
    (λ same. unlike (sym named.variable_is ∙ ap (λ p. get_or st.variables p 0) same ∙ other.variable_is)) named.option_is other.option_is

-- ---- the options of all variables

from_more : (os : List OptionField) (option a : OptionField) → AllApartFrom os a → AreApart option a → AllApartFrom (os ++ option ∷ []) a
from_more [] option a h apart = (apart, tt)
from_more (o ∷ os) option a h apart = (h.0, from_more os option a h.1 apart)

upto_from : (st : State) (n m : ℕ) → IsSound st → n < m → m < 100 → AllApartFrom (options_upto st n) (option_for st m)
unfolding options_upto
upto_from st zero m h less few = tt
upto_from st (suc n) m h less few =
    from_more (options_upto st n) (option_for st (suc n)) (option_for st m) (upto_from st n m h (omega (arith, less)) few)
    (chosen_apart st (suc n) m _ _ h (λ same. absurd (omega (arith, less, same))) (omega (arith, less, few)) few (chosen st (suc n)) (chosen st m))

upto_apart : (st : State) (n : ℕ) → IsSound st → n < 100 → AllApart (options_upto st n)
unfolding options_upto
upto_apart st zero h few = tt
upto_apart st (suc n) h few =
    apart_more (options_upto st n) (option_for st (suc n)) (upto_apart st n h (omega (arith, few))) (upto_from st n (suc n) h (omega arith) few)

upto_length : (st : State) (n : ℕ) → length (options_upto st n) ≡ n
unfolding options_upto
upto_length st zero = refl
upto_length st (suc n) = omega (arith, length-append (options_upto st n) (option_for st (suc n) ∷ []), upto_length st n)

-- ---- their names

chosen_named : (st : State) (i : ℕ) (a : OptionField) → IsSound st → i < 100 → Chosen st i a → is_name a.name ≡ true
chosen_named st i a h low (inl is) = subst (λ k. is_name k.name ≡ true) (sym is) (numeral_named i low)
chosen_named st i a h low (inr named) = named_at st.names named.place a h.named named.option_is

upto_named : (st : State) (n : ℕ) → IsSound st → n < 100 → AreNamed (options_upto st n)
unfolding options_upto
upto_named st zero h few = refl
upto_named st (suc n) h few =
    named_more (options_upto st n) (option_for st (suc n)) (upto_named st n h (omega (arith, few))) (chosen_named st (suc n) _ h few (chosen st (suc n)))

-- ---- the whole text

abbrev good_model : Model → Result Model ℕ
good_model m = Ok m

ended_read : (st : State) (header : Option Header) (m : Model) → st.header ≡ header → IsSound st → ended st header ≡ Ok m → IsRead m
ended_read st None m is h e = cc e
ended_read st (Some header) m is h e =
    let one = passed (not (is_nothing st.literals) || nat_lt (length st.rules) header.clauses) 9 _ m e in
    let within = behind_header st.header header st.rules st.literals is h.within in
    let count = upto_length st header.variables in
    let model : Model = record { options = options_upto st header.variables; rules = st.rules } in
    let same : model ≡ m = cc one.1 in
    subst IsRead same
    (record {
      lawful = record {
        at_most_64 = omega (arith, count, within.0);
        apart = upto_apart st header.variables h (omega (arith, within.0));
        named = subst (λ n. AllNamesBelow n (formulas st.rules)) (sym count) within.1;
      };
      named = upto_named st header.variables h (omega (arith, within.0));
    })

end_read : (st : State) (m : Model) → IsSound st → end_of st ≡ Ok m → IsRead m
unfolding end_of
end_read st m h e = ended_read st st.header m refl h e

end_case : (n : ℕ) (read : Result Model ℕ) (m : Model) → (read ≡ Ok m → IsRead m) → at_line n read (λ k. Ok k) ≡ Ok m → IsRead m
end_case n (Ok k) m h e = let same : k ≡ m = cc e in h (ap (λ x. Ok x) same)
end_case n (Err reason) m h e = cc e

state_case : (most n : ℕ) (st : State) (rest : List (List ℕ)) (m : Model) (l : Line) (moved : Result State ℕ) → IsSound st → Fits st l → with_line st l ≡ moved
    → ((new : State) → IsSound new → lines_of most (n + 1) new rest ≡ Ok m → IsRead m) → at_line n moved (λ new. lines_of most (n + 1) new rest) ≡ Ok m → IsRead m
state_case most n st rest m l (Ok new) h fits is next e = next new (with_sound st new l is h fits) e
state_case most n st rest m l (Err reason) h fits is next e = cc e

line_case : (most n : ℕ) (st : State) (text : List ℕ) (rest : List (List ℕ)) (m : Model) (says : Result Line ℕ) → IsSound st → line_of most st text ≡ says
    → ((new : State) → IsSound new → lines_of most (n + 1) new rest ≡ Ok m → IsRead m)
    → at_line n says (λ l. at_line n (with_line st l) (λ new. lines_of most (n + 1) new rest)) ≡ Ok m → IsRead m
line_case most n st text rest m (Ok l) h is next e = state_case most n st rest m l (with_line st l) h (line_fits most st text l is) refl next e
line_case most n st text rest m (Err reason) h is next e = cc e

lines_read : (most : ℕ) (texts : List (List ℕ)) (n : ℕ) (st : State) (m : Model) → IsSound st → lines_of most n st texts ≡ Ok m → IsRead m
unfolding lines_of
lines_read most [] n st m h e = end_case n (end_of st) m (end_read st m h) e
lines_read most (text ∷ rest) n st m h e =
    line_case most n st text rest m (line_of most st text) h refl (λ new sound. lines_read most rest (n + 1) new m sound) e

dimacs_read : (bytes : List ℕ) (m : Model) → dimacs_of bytes ≡ Ok m → IsRead m
dimacs_read bytes m e = lines_read _ (lines bytes) 1 nothing_yet m (record { own = tt; apart = tt; named = refl; within = (refl, refl) }) e

-- the model of a text is one that each call takes
pub dimacs_lawful : (bytes : List ℕ) (m : Model) → dimacs_of bytes ≡ Ok m → IsModel m
dimacs_lawful bytes m e = (dimacs_read bytes m e).lawful

-- and its options have the names that a report takes
pub dimacs_names : (bytes : List ℕ) (m : Model) → dimacs_of bytes ≡ Ok m → HasOptionNames m
dimacs_names bytes m e = let h = dimacs_read bytes m e in option_names m h.lawful h.named
