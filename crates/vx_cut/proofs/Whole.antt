-- The parts are a cut of the model.
use Rattle.std.proofs.Common.{◌≡◌, ◌⊎◌, ◌<◌, ◌≤◌, ◌^◌, ℕ, zero, suc, ◌+◌, ◌*◌, Bool, true, false, List, [], ◌∷◌, ◌++◌, length, map, refl, sym, ap, subst, ◌∙◌, arith, length-append, Result, Ok, Err, Vec, Global, IfOk}
use Rattle.std.specs.Prelude.{◌||◌, ◌&&◌, nat_lt, filter}
use Rattle.std.specs.List.{AllByRecursion, list_all, list_any}
use Rattle.std.proofs.lemmas.List.{length-map}
use Rattle.vx_space.specs.Sets.{Sets, IsLawful, IsSet}
use Rattle.vx_space.proofs.Differences.{firsts, value_of-firsts}
use Rattle.vx_model.specs.Models.{HasOptionNames, is_allowed, names_of}
use Rattle.vx_model.specs.declared.model.Model.{Model}
use Rattle.vx_model.specs.declared.model.OptionField.{OptionField}
use Rattle.vx_explain.specs.Read.{RulesAreReadBack}
use Rattle.vx_explain.specs.Rules.{AreOf}
use Rattle.vx_explain.specs.declared.literal.Literal.{Literal}
use Rattle.vx_cut.specs.Cuts.{ArePut, IsCut, IsCutText, is_large, is_oversized, spelled}
use Rattle.vx_cut.specs.Parts.{is_met, sides, terms_of, with_term}
use Rattle.vx_cut.specs.Texts.{part_text, parts_from, parts_of}
use Rattle.vx_cut.specs.declared.cutting.CutFault.{CutFault}
use Rattle.vx_cut.proofs.CnfParts.{cnf_part_read}
use Rattle.vx_cut.proofs.Divided.{IsOfOptions, all_allow, all_sides_of, divides}
use Rattle.vx_cut.proofs.Few.{few_clauses}
use Rattle.vx_cut.proofs.LineTexts.{either}
use Rattle.vx_cut.proofs.TextParts.{text_part_read}

-- the values of the options alone tell what a set of a space has
pub of_options : {I : Type 0} {s : Sets I} → IsLawful s → (model : Model) (allowed : I) → IsSet s allowed (is_allowed model) → s.options ≡ length model.options → IsOfOptions model
of_options {I} {s} lawful model allowed is options = record {
  same = λ c.
      sym (is.test (firsts (length model.options) c))
      ∙ lawful.options_alone allowed (firsts (length model.options) c) c is.known (λ i l. value_of-firsts (length model.options) c i (omega (arith, l, options)))
      ∙ is.test c;
}

part_read : RulesAreReadBack → (dimacs : Bool) (text : List ℕ) (model : Model) (number : ℕ) (term : List Literal) → number < 2 ^ 64 → HasOptionNames model → AllByRecursion (λ (l : Literal). l.option < length model.options) term
    → spelled dimacs text ≡ Ok model → is_large (part_text dimacs text model number term) ≡ false → spelled dimacs (part_text dimacs text model number term) ≡ Ok (with_term dimacs model term)
part_read law false text model number term small names of read fits = text_part_read law text model number term small names (of, tt) read
part_read law true text model number term small names of read fits =
    let few : length model.options ≤ 64 = omega (arith, names.few, length-map model.options (λ (o : OptionField). o.name)) in
    cnf_part_read text model number term small names few of (few_clauses text model number term read fits) read

-- ---- all parts

parts_read : RulesAreReadBack → (dimacs : Bool) (text : List ℕ) (model : Model) (number : ℕ) (terms : List (List Literal)) → number + length terms < 2 ^ 64 → HasOptionNames model → AreOf (length model.options) terms
    → spelled dimacs text ≡ Ok model → is_oversized (parts_from dimacs text model number terms) ≡ false → map (spelled dimacs) (parts_from dimacs text model number terms) ≡ map Ok (map (with_term dimacs model) terms)
unfolding parts_from
parts_read law dimacs text model number [] small names of read fits = refl
parts_read law dimacs text model number (t ∷ ts) small names of read fits =
    let two = either (is_large (part_text dimacs text model number t)) (is_oversized (parts_from dimacs text model (number + 1) ts)) fits in
    let first = part_read law dimacs text model number t (omega (arith, small)) names of.0 read two.0 in
    let rest = parts_read law dimacs text model (number + 1) ts (omega (arith, small)) names of.1 read two.1 in
    λ i. first i ∷ rest i

filter_of : (n : ℕ) (test : List Literal → Bool) (ts : List (List Literal)) → AreOf n ts → AreOf n (filter test ts)
filter_of n test [] of = tt
filter_of n test (t ∷ ts) of = by (test t) refl (filter_of n test ts of.1)
  where
    by : (b : Bool) → test t ≡ b → AreOf n (filter test ts) → AreOf n (filter test (t ∷ ts))
    by true e next = rw e (of.0, next)
    by false e next = rw e next

pub is_cut : RulesAreReadBack → {I : Type 0} {s : Sets I} → IsLawful s → (dimacs : Bool) (text : List ℕ) (model : Model) (allowed : I) (chosen : List Bool) → spelled dimacs text ≡ Ok model → HasOptionNames model → IsSet s allowed (is_allowed model)
    → s.options ≡ length model.options → length chosen ≡ length model.options → 1 + length (terms_of model chosen) < 2 ^ 64 → is_oversized (parts_of dimacs text model chosen) ≡ false → IsCut dimacs text model chosen
is_cut law {I} {s} lawful dimacs text model allowed chosen read names is options few small fits = record {
  read = parts_read law dimacs text model 1 (terms_of model chosen) small names (filter_of (length model.options) (is_met model) (sides 0 chosen) (all_sides_of (length model.options) chosen few)) read fits;
  some = all_allow dimacs model (sides 0 chosen);
  divided = λ c. divides dimacs model chosen c (of_options lawful model allowed is options) few;
}

-- the text of the parts is that of a cut
pub put_cut : (dimacs : Bool) (text : List ℕ) (model : Model) (chosen : List Bool) (r : Result (Vec ℕ Global) CutFault) → ArePut (parts_of dimacs text model chosen) r → (is_oversized (parts_of dimacs text model chosen) ≡ false → IsCut dimacs text model chosen)
    → IfOk r (λ bytes. IsCutText dimacs text model chosen bytes.items)
put_cut dimacs text model chosen (Err e) put cut = tt
put_cut dimacs text model chosen (Ok bytes) put cut = record { spelled = put.0; cut = cut put.1 }
