-- What is read is a model that each call takes.
use Rattle.std.proofs.Common.{◌≡◌, ◌≢◌, ℕ, zero, suc, ◌+◌, ◌<◌, ◌≤◌, List, [], ◌∷◌, ◌++◌, length, length-append, map, take, slice_get, slice_index_or, Contains, Bool, true, false, ◌&&◌, refl, subst, arith, Option, Some, None, Result, Ok, Err}
use Rattle.std.proofs.lemmas.List.{length-map}
use Rattle.std.specs.List.{list_all, list_any}
use Rattle.std.specs.Str.{bytes_eq}
use Rattle.std.proofs.lemmas.Slice.Eq.{bytes_eq-Decides}
use Rattle.vx_words.specs.Lines.{lines}
use Rattle.vx_words.specs.Names.{is_name}
use Rattle.vx_model.specs.Formula.{Formula, Formulas, formulas}
use Rattle.vx_model.specs.Formula as tree
use Rattle.vx_model.specs.Truth.{NamesBelow, AllNamesBelow}
use Rattle.vx_model.specs.Models.{IsModel, HasOptionNames, AreApart, DifferentPlaces, ApartFromAll, AllApart}
use Rattle.vx_model.specs.Text.{statement_of, with_statement, lines_of, at_line, model_of, empty, clashes, is_same_place}
use Rattle.vx_model.specs.declared.model.Model.{Model}
use Rattle.vx_model.specs.declared.model.OptionField.{OptionField}
use Rattle.vx_model.specs.declared.model.FieldPlace.{FieldPlace}
use Rattle.vx_model.specs.declared.statement.Statement.{Statement}
use Rattle.vx_model.specs.declared.statement.Statement.TheVariants as statement
use Rattle.vx_model.proofs.Fits.{Fits, statement_fits}
use Rattle.vx_model.proofs.Names.{neither, rule_names, are_known}
use Rattle.vx_model.proofs.Sound.{rule_sound}

same_bytes : (a : List ℕ) → bytes_eq a a ≡ true
same_bytes a = (bytes_eq-Decides a a).1 refl

different : (a b : List ℕ) → bytes_eq a b ≡ false → a ≢ b
different a b e same = let t : bytes_eq a b ≡ true = subst (λ c. bytes_eq a c ≡ true) same (same_bytes a) in cc

different_places : (a b : Option FieldPlace) → is_same_place a b ≡ false → DifferentPlaces a b
different_places None b e = tt
different_places (Some a) None e = tt
different_places (Some a) (Some b) e = λ same.
    let t : (bytes_eq a.class b.class && bytes_eq a.field b.field) ≡ true =
    subst (λ c. (bytes_eq a.class c.class && bytes_eq a.field c.field) ≡ true) same (rw (same_bytes a.class, same_bytes a.field) refl) in
    cc

apart_from : (a option : OptionField) → clashes option.name option.place a ≡ false → AreApart a option
apart_from a option e = let both = neither (bytes_eq a.name option.name) (is_same_place a.place option.place) e in
    (different a.name option.name both.0, different_places a.place option.place both.1)

pub one_more : (a option : OptionField) (os : List OptionField) → ApartFromAll a os → AreApart a option → ApartFromAll a (os ++ option ∷ [])
one_more a option [] h apart = (apart, tt)
one_more a option (o ∷ os) h apart = (h.0, one_more a option os h.1 apart)

pub all_apart : (os : List OptionField) (option : OptionField) → AllApart os → list_any (clashes option.name option.place) os ≡ false → AllApart (os ++ option ∷ [])
all_apart [] option h e = (tt, tt)
all_apart (o ∷ os) option h e =
    let both = neither (clashes option.name option.place o) (list_any (clashes option.name option.place) os) e in
    (one_more o option os h.0 (apart_from o option both.0), all_apart os option h.1 both.1)

mutual
  names_below_more : (m n : ℕ) → m ≤ n → (f : Formula) → NamesBelow m f → NamesBelow n f
  names_below_more m n le tree.Always h = tt
  names_below_more m n le tree.Never h = tt
  names_below_more m n le (tree.Named k) h = omega arith
  names_below_more m n le (tree.Not f) h = names_below_more m n le f h
  names_below_more m n le (tree.And fs) h = all_below_more m n le fs h
  names_below_more m n le (tree.Or fs) h = all_below_more m n le fs h
  names_below_more m n le (tree.Implies f g) h = (names_below_more m n le f h.0, names_below_more m n le g h.1)

  all_below_more : (m n : ℕ) → m ≤ n → (fs : Formulas) → AllNamesBelow m fs → AllNamesBelow n fs
  all_below_more m n le tree.none h = tt
  all_below_more m n le (tree.more f fs) h = (names_below_more m n le f h.0, all_below_more m n le fs h.1)

pub all_below-append : (n : ℕ) (fs : List Formula) (f : Formula) → AllNamesBelow n (formulas fs) → NamesBelow n f → AllNamesBelow n (formulas (fs ++ f ∷ []))
all_below-append n [] f h k = (k, tt)
all_below-append n (g ∷ gs) f h k = (h.0, all_below-append n gs f h.1 k)

-- ---- names

abbrev pub texts_of : List OptionField → List (List ℕ)
texts_of os = map (λ option. option.name) os

-- each option's name is one
abbrev pub AreNamed : List OptionField → Type 0
AreNamed os = list_all is_name (texts_of os) ≡ true

both_true : (a b : Bool) → (a && b) ≡ true → (a ≡ true) × (b ≡ true)
both_true true b e = (refl, e)
both_true false b e = cc

pub named_more : (os : List OptionField) (option : OptionField) → AreNamed os → is_name option.name ≡ true → AreNamed (os ++ option ∷ [])
named_more [] option h is = rw is refl
named_more (o ∷ os) option h is =
    let two = both_true (is_name o.name) (list_all is_name (texts_of os)) h in
    rw (two.0, named_more os option two.1 is) refl

pub named_at : (os : List OptionField) (place : ℕ) (option : OptionField) → AreNamed os → slice_get os place ≡ Some option → is_name option.name ≡ true
named_at [] place option h e = cc e
named_at (o ∷ os) zero option h e = let same : o ≡ option = cc e in subst (λ k. is_name k.name ≡ true) same (both_true (is_name o.name) (list_all is_name (texts_of os)) h).0
named_at (o ∷ os) (suc place) option h e = named_at os place option (both_true (is_name o.name) (list_all is_name (texts_of os)) h).1 e

other_name : (a : OptionField) (os : List OptionField) (place : ℕ) (name : List ℕ) → ApartFromAll a os → slice_get (texts_of os) place ≡ Some name → a.name ≢ name
other_name a [] place name h e = cc e
other_name a (o ∷ os) zero name h e = let same : o.name ≡ name = cc e in subst (λ k. a.name ≢ k) same h.0.0
other_name a (o ∷ os) (suc place) name h e = other_name a os place name h.1 e

nowhere : (o : OptionField) (os : List OptionField) (place : ℕ) (name : List ℕ) → AllApart (o ∷ os) → slice_get (texts_of os) place ≡ Some name
    → ¬ Contains (take place (texts_of os)) name → (k : ℕ) → k < length (take (suc place) (texts_of (o ∷ os)))
    → slice_index_or (take (suc place) (texts_of (o ∷ os))) k name ≡ name → ⊥
nowhere o os place name h e none zero less same = other_name o os place name h.0 e same
nowhere o os place name h e none (suc k) less same = none (k, omega (arith, less), same)

not_before : (os : List OptionField) (place : ℕ) (name : List ℕ) → AllApart os → slice_get (texts_of os) place ≡ Some name → ¬ Contains (take place (texts_of os)) name
not_before [] place name h e = cc e
not_before (o ∷ os) zero name h e = λ found. absurd (omega (arith, found.1))
not_before (o ∷ os) (suc place) name h e = λ found. nowhere o os place name h e (not_before os place name h.1 e) found.0 found.1 found.2

-- options that are apart and named have the names that a report takes
pub option_names : (m : Model) → IsModel m → AreNamed m.options → HasOptionNames m
option_names m h named = record {
  named = named;
  distinct = λ place name e. not_before m.options place name h.apart e;
  few = omega (arith, length-map m.options (λ option. option.name), h.at_most_64);
}

-- ---- a text

-- a model that each call takes, whose options are named
pub record IsRead (model : Model) : Type 0 where
  pub lawful : IsModel model
  pub named : AreNamed model.options

with_lawful : (model : Model) (s : Statement) → IsModel model → Fits model.options s → IsModel (with_statement model s)
with_lawful model statement.Nothing h fits = h
with_lawful model (statement.Declares option) h fits = record {
  at_most_64 = omega (arith, length-append model.options (option ∷ []), fits.room);
  apart = all_apart model.options option h.apart fits.free;
  named = all_below_more (length model.options) (length (model.options ++ option ∷ [])) (omega (arith, length-append model.options (option ∷ []))) (formulas model.rules) h.named;
}
with_lawful model (statement.Demands rule) h fits = record {
  at_most_64 = h.at_most_64;
  apart = h.apart;
  named = all_below-append (length model.options) model.rules rule h.named
      (rule_names (length model.options) fits.ts rule (rule_sound fits.ts rule fits.read) (are_known (length model.options) fits.ts fits.known));
}

with_named : (model : Model) (s : Statement) → AreNamed model.options → Fits model.options s → AreNamed (with_statement model s).options
with_named model statement.Nothing h fits = h
with_named model (statement.Declares option) h fits = named_more model.options option h fits.named
with_named model (statement.Demands rule) h fits = h

with_read : (model : Model) (s : Statement) → IsRead model → Fits model.options s → IsRead (with_statement model s)
with_read model s h fits = record { lawful = with_lawful model s h.lawful fits; named = with_named model s h.named fits }

line_case : (n : ℕ) (model m : Model) (line : List ℕ) (rest : List (List ℕ)) → IsRead model
    → ((k : ℕ) (new : Model) → IsRead new → lines_of k new rest ≡ Ok m → IsRead m)
    → (says : Result Statement ℕ) → statement_of model.options line ≡ says → at_line n says (λ s. lines_of (n + 1) (with_statement model s) rest) ≡ Ok m → IsRead m
line_case n model m line rest h next (Ok s) is e = next (n + 1) (with_statement model s) (with_read model s h (statement_fits model.options line s is)) e
line_case n model m line rest h next (Err reason) is e = cc

lines_read : (m : Model) (ls : List (List ℕ)) (n : ℕ) (model : Model) → IsRead model → lines_of n model ls ≡ Ok m → IsRead m
unfolding lines_of
lines_read m [] n model h e = let same : model ≡ m = cc e in subst IsRead same h
lines_read m (line ∷ rest) n model h e = line_case n model m line rest h (lines_read m rest) (statement_of model.options line) refl e

model_read : (bytes : List ℕ) (m : Model) → model_of bytes ≡ Ok m → IsRead m
model_read bytes m e = lines_read m (lines bytes) 1 empty (record { lawful = record { at_most_64 = omega arith; apart = tt; named = tt }; named = refl }) e

-- the model of a text is one that each call takes
pub model_lawful : (bytes : List ℕ) (m : Model) → model_of bytes ≡ Ok m → IsModel m
model_lawful bytes m e = (model_read bytes m e).lawful

-- and its options have the names that a report takes
pub model_names : (bytes : List ℕ) (m : Model) → model_of bytes ≡ Ok m → HasOptionNames m
model_names bytes m e = let h = model_read bytes m e in option_names m h.lawful h.named
