-- What the loop over locals that can't be read keeps.
use Rattle.std.proofs.Common.{◌≡◌, ℕ, ◌+◌, Bool, true, false, List, [], ◌∷◌, ◌++◌, refl, sym, subst, ◌∙◌, ap, length, replicate}
use Rattle.std.proofs.lemmas.List.{length-append, replicate_more}
use Rattle.std.specs.Prelude.{Some, if◌then◌else◌, None}
use Rattle.vx_value.specs.declared.slot.Slot.{Slot}
use Rattle.vx_value.specs.declared.slot.Slot.TheVariants.{Top}
use Rattle.vx_value.specs.Slot.{slot_cmp}
use Rattle.vx_space.specs.Sets.{Sets}
use Rattle.vx_cond.specs.Leaves.{value_within}
use Rattle.vx_cond.specs.Cond.{Conditional, IsCondOf}
use Rattle.vx_cond.specs.Row.{Conditionals, IsRow}
use Rattle.vx_cond.specs.Slots.{or_top, slots_at}
use Rattle.vx_cond.proofs.CondLaws.{IsCond-of, cond_at-of}
use Rattle.vx_cond.proofs.RowSteps.{IsRow-empty, IsRow-push, slots_at-push}
use Rattle.vx_value.specs.declared.ids.MethodId.{MethodId}
use Rattle.vx_value.specs.declared.key.Kind.{Kind}
use Rattle.vx_frame.specs.declared.frame.Frame.{Frame}
use Rattle.vx_frame.specs.Frame.{IsFrameOf, first_frame}
use Rattle.vx_frame.proofs.FrameLaws.{IsFrame-rows}

pub record AreUnset {S I : Type 0} (sets : Sets I) (scope : I) (n : ℕ) (row : Conditionals Slot S I) : Type 0 where
  pub scope_is : row.scope ≡ scope
  pub number : length row.conds ≡ n
  pub is_row : IsRow slot_cmp sets row
  pub slots : (c : List Bool) → slots_at sets row c ≡ replicate n Top

top_within : (b : Bool) → or_top (if b then Some Top else None) ≡ Top
top_within true = refl
top_within false = refl

pub AreUnset-step : {S I : Type 0} (sets : Sets I) (scope : I) (n : ℕ) (row : Conditionals Slot S I) (cond : Conditional Slot S I) → AreUnset sets scope n row → cond.scope ≡ scope → IsCondOf slot_cmp sets (value_within sets scope (λ _. Some Top)) cond → AreUnset sets scope (n + 1) (record row { conds = row.conds ++ cond ∷ [] })
AreUnset-step sets scope n row cond u e v = record {
  scope_is = u.scope_is;
  number = length-append row.conds (cond ∷ []) ∙ ap (λ k. k + 1) u.number;
  is_row = IsRow-push slot_cmp sets row cond u.is_row (IsCond-of slot_cmp sets _ cond v) (e ∙ sym u.scope_is);
  slots = λ c.
      slots_at-push sets row cond c
      ∙ ap (λ q. slots_at sets row c ++ q ∷ []) (ap or_top (cond_at-of slot_cmp sets _ cond c v) ∙ top_within (sets.test scope c))
      ∙ ap (λ qs. qs ++ Top ∷ []) (u.slots c)
      ∙ replicate_more n Top;
}

pub AreUnset-start : {S I : Type 0} (sets : Sets I) (scope : I) (row : Conditionals Slot S I) → sets.is_known scope ≡ true → row ≡ record { scope = scope; conds = [] } → AreUnset sets scope 0 row
AreUnset-start {S = S} sets scope row k e = let P : Conditionals Slot S _ → Type 0 = λ r. AreUnset sets scope 0 r in subst P (sym e) (record {
  scope_is = refl;
  number = refl;
  is_row = IsRow-empty slot_cmp sets _ k refl;
  slots = λ c. refl;
})

-- what `new` makes
pub IsFrameOf-new : {S I : Type 0} (sets : Sets I) (scope : I) (kind : Kind) (method : MethodId) (n : ℕ) (locals stack : Conditionals Slot S I) → sets.is_known scope ≡ true → locals.scope ≡ scope → IsRow slot_cmp sets locals → ((c : List Bool) → slots_at sets locals c ≡ replicate n Top) → stack ≡ record { scope = scope; conds = [] } → (let frame : Frame S I = record { kind = kind; method = method; position = 0; locals = locals; stack = stack } in IsFrameOf sets (λ _. first_frame kind method n) frame)
unfolding IsFrameOf
IsFrameOf-new {S = S} sets scope kind method n locals stack k s r v e =
    let P : Conditionals Slot S _ → Type 0 = λ q. IsFrameOf sets (λ _. first_frame kind method n) (record { kind = kind; method = method; position = 0; locals = locals; stack = q }) in
    subst P (sym e) (record {
      is_frame = IsFrame-rows sets _ r (IsRow-empty slot_cmp sets _ k refl) (sym s);
      at = λ c t. λ i. record { kind = kind; method = method.0; position = 0; locals = v c i; operands = [] };
    })
