-- The options that are chosen.
use Rattle.std.proofs.Common.{◌≡◌, ◌⊎◌, inl, inr, ℕ, suc, ◌<◌, ◌≤◌, Bool, true, false, List, [], ◌∷◌, length, map, refl, sym, ap, subst, ◌∙◌, arith, ltb, le-ltb, lt-ltb, Option, None, Some, Ok, Err}
use Rattle.std.specs.Prelude.{◌&&◌, ◌==◌, filter, nat_eq, nat_le, nat_lt, if◌then◌else◌}
use Rattle.std.specs.List.{list_all}
use Rattle.std.proofs.lemmas.List.{length-map}
use Rattle.std.proofs.lemmas.Bool.Decides.{nat_tests}
use Rattle.vx_configuration.specs.Configuration.{are_distinct, configuration_of, is_among, names_in, with_these_on}
use Rattle.vx_cut.specs.Choices.{chosen_count, is_choice}
use Rattle.vx_model.specs.declared.model.Model.{Model}
use Rattle.vx_model.specs.declared.model.OptionField.{OptionField}
use Rattle.vx_plans.specs.Job.{names_of}
use Rattle.vx_plans.specs.declared.status.Status.{Status}
use Rattle.vx_plans.specs.declared.status.Status.TheVariants.{NotAllowed}
use Rattle.vx_cut_command.specs.Cut.{Choice, IsChosen, Many, Named, if_few, most_chosen, named_options, too_few}

few_chosen : (chosen : List Bool) → chosen_count chosen ≤ length chosen
few_chosen [] = omega arith
few_chosen (true ∷ rest) = omega (arith, few_chosen rest)
few_chosen (false ∷ rest) = omega (arith, few_chosen rest)

-- as many as are asked for
pub is_many : (model : Model) (count : ℕ) (chosen : List Bool) → length chosen ≡ length model.options → chosen_count chosen ≡ count → IsChosen (Many count) model chosen
is_many model count chosen options many =
    let enough : nat_lt (length model.options) count ≡ false = le-ltb (length model.options) count (omega (arith, few_chosen chosen, options, many)) in
    let first : nat_eq (length chosen) (length model.options) ≡ true = grind (arith, nat_tests) in
    let second : nat_eq (chosen_count chosen) count ≡ true = grind (arith, nat_tests) in
    (rw enough refl, rw (first, second) refl)

pub not_many : (model : Model) (count : ℕ) → length model.options < count → too_few model count ≡ Some NotAllowed
not_many model count less = let e : nat_lt (length model.options) count ≡ true = lt-ltb (length model.options) count less in rw e refl

-- ---- a value for each option

both : (a b : Bool) → (a && b) ≡ true → (a ≡ true) × (b ≡ true)
both true b e = (refl, e)
both false b e = cc (e)

many_length : (model : Model) (count : ℕ) (chosen : List Bool) → is_choice model count chosen ≡ true → length chosen ≡ length model.options
many_length model count chosen e =
    let first = (both (length chosen == length model.options) (chosen_count chosen == count) e).0 in
    grind (arith, nat_tests, first)

these_length : (options names : List (List ℕ)) (b : Bool) (chosen : List Bool) → if_few (if b then Some (map (is_among names) options) else None) ≡ Ok chosen → length chosen ≡ length options
these_length options names false chosen e = cc (e)
these_length options names true chosen e = by (nat_le (chosen_count (map (is_among names) options)) most_chosen) e
  where
    by : (t : Bool) → (if t then Ok (map (is_among names) options) else Err NotAllowed) ≡ Ok chosen → length chosen ≡ length options
    by true f = let same : map (is_among names) options ≡ chosen = cc (f) in ap length (sym same) ∙ length-map options (is_among names)
    by false f = cc (f)

named_length : (model : Model) (word : List ℕ) (chosen : List Bool) → named_options model word ≡ Ok chosen → length chosen ≡ length model.options
named_length model word chosen e =
    these_length (names_of model) (names_in word) (list_all (is_among (names_of model)) (names_in word) && are_distinct (names_in word)) chosen e ∙ length-map model.options (λ (o : OptionField). o.name)

pub chosen_length : (choice : Choice) (model : Model) (chosen : List Bool) → IsChosen choice model chosen → length chosen ≡ length model.options
chosen_length (Named word) model chosen e = named_length model word chosen e
chosen_length (Many count) model chosen e = many_length model count chosen e.1
