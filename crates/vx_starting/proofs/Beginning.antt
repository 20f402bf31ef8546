-- What the start of a run comes to.
use Rattle.std.proofs.Common.{◌≡◌, ℕ, List, [], ◌∷◌, refl, sym, ◌∙◌, ap, subst, map}
use Rattle.std.specs.Prelude.{Option, Some, None, option_map, unwrap_or}
use Rattle.vx_init.proofs.BeginLaws.{blocking_within, class_text-within}
use Rattle.vx_java.specs.Ids.{as_class}
use Rattle.vx_java.specs.Initialisation.{chain_blocked, init_chain}
use Rattle.vx_java.specs.Machine.{place_at}
use Rattle.vx_java.specs.Operation.{class_word}
use Rattle.vx_java.specs.Step.{Over, before_main, begun, first_inits, fresh_progress}
use Rattle.vx_link.specs.Parts.{class_at, method_at}
use Rattle.vx_link.specs.declared.program.Program.{Program}
use Rattle.vx_ready.specs.Initialising.{numbers_of}
use Rattle.vx_starting.specs.Starting.{EndAtStart, main_chain, main_class}
use Rattle.vx_value.specs.declared.end.End.TheVariants.{Unsupported}
use Rattle.vx_value.specs.declared.end.End.{End}
use Rattle.vx_value.specs.declared.ids.ClassId.{ClassId}
use Rattle.vx_value.specs.declared.slot.InitState.{InitState}

-- ---- numbers of classes

pub numbers_as_class : (xs : List ℕ) → numbers_of (map as_class xs) ≡ xs
numbers_as_class [] = refl
numbers_as_class (x ∷ xs) = ap (λ r. x ∷ r) (numbers_as_class xs)

-- ---- starts

number_of : (class : ClassId) (i : ℕ) → Some class ≡ Some (as_class i) → class.0 ≡ i
number_of class i h = ap (λ o. (unwrap_or o class).0) h

pub end_blocked : (p : Program) (i : ℕ) → chain_blocked p (main_chain p) ≡ Some i → EndAtStart p (Unsupported class_word (class_at p i).name (place_at p p.main.0 0))
end_blocked p i e = record {
  over = λ c.
      ap (begun p (before_main p c) (main_class p) (main_chain p)) e
      ∙ ap (λ text. Over (Unsupported class_word text (place_at p p.main.0 0)) (fresh_progress (before_main p c))) (class_text-within p i (blocking_within p (main_chain p) i e));
}

-- of an interface with its number as the code has it
pub ended_by : (p : Program) (chain : List ClassId) (interface : ClassId) (end : End) → numbers_of chain ≡ main_chain p → Some interface ≡ option_map as_class (chain_blocked p (numbers_of chain)) → end ≡ Unsupported class_word (class_at p interface.0).name (place_at p p.main.0 0) → EndAtStart p end
ended_by p chain interface end same found e = cases (chain_blocked p (main_chain p)) refl (found ∙ ap (λ cs. option_map as_class (chain_blocked p cs)) same)
  where
    cases : (o : Option ℕ) → chain_blocked p (main_chain p) ≡ o → Some interface ≡ option_map as_class o → EndAtStart p end
    cases None h f = cc f
    cases (Some i) h f =
        let number : interface.0 ≡ i = number_of interface i f in
        let text : end ≡ Unsupported class_word (class_at p i).name (place_at p p.main.0 0) = e ∙ ap (λ n. Unsupported class_word (class_at p n).name (place_at p p.main.0 0)) number in
        subst (EndAtStart p) (sym text) (end_blocked p i h)

-- ---- the chain of main

-- the chain as the code has it
pub chain_is : (p : Program) (slice chain : List ClassId) (states inits : List InitState) (class : ClassId) → slice ≡ chain → chain ≡ map as_class (init_chain p states class.0) → states ≡ inits → inits ≡ first_inits p → class ≡ (method_at p p.main.0).class → numbers_of slice ≡ main_chain p
chain_is p slice chain states inits class s e t f q =
    let first : states ≡ first_inits p = t ∙ f in
    ap numbers_of (s ∙ e) ∙ numbers_as_class (init_chain p states class.0) ∙ (λ i. init_chain p (first i) (q i).0)
