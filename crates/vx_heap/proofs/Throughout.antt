-- Values that are lifted to the configurations that run.
use Rattle.std.proofs.Common.{◌≡◌, ℕ, ◌+◌, ◌<◌, Bool, true, false, List, [], ◌∷◌, ◌++◌, ◌&&◌, length, take, get_or, refl, sym, ◌∙◌, ap, if◌then◌else◌}
use Rattle.std.specs.Prelude.{Some, None, is_some, pos}
use Rattle.std.specs.Option.{option_or}
use Rattle.std.specs.declared.cmp.Ordering.{Ordering}
use Rattle.vx_value.specs.declared.slot.Slot.{Slot}
use Rattle.vx_value.specs.declared.slot.Slot.TheVariants.{Int}
use Rattle.vx_value.specs.Slot.{slot_cmp}
use Rattle.vx_space.specs.Config.{value_of}
use Rattle.vx_space.specs.Sets.{Sets, Extends, IsLawful, IsSet}
use Rattle.vx_space.proofs.Spaces.{Extends-trans}
use Rattle.vx_cond.specs.Cond.{Conditional, IsCondOf, cond_at}
use Rattle.vx_cond.specs.Leaves.{first_of, value_within}
use Rattle.vx_cond.proofs.CondLaws.{IsCond-extends, IsCond-of, cond_at-extends, cond_at-of}
use Rattle.vx_cond.proofs.RowLaws.{scope_is}
use Rattle.vx_initial_heap.proofs.Zips.{zip_each, zip_read}
use Rattle.vx_initial_heap.specs.declared.statics.FirstStatic.{FirstStatic}
use Rattle.vx_heap.specs.Lifted.{AreStatics, IsSame, IsStatic, IsThroughout, option_slot, static_slot}

-- ---- one value

pub throughout_one : {T S I : Type 0} (cmp : T → T → Ordering) (sets : Sets I) (scope : I) (value : T) (cond : Conditional T S I) → cond.scope ≡ scope → IsCondOf cmp sets (value_within sets scope (λ _. Some value)) cond → IsSame cmp sets scope value cond
throughout_one cmp sets scope value cond e h = record {
  is_cond = IsCond-of cmp sets (value_within sets scope (λ _. Some value)) cond h;
  scope_is = e;
  at = λ c. cond_at-of cmp sets (value_within sets scope (λ _. Some value)) cond c h;
}

pub throughout_extends : {T S I : Type 0} (cmp : T → T → Ordering) {old new : Sets I} → Extends old new → (scope : I) → old.is_known scope ≡ true → (value : List Bool → T) (cond : Conditional T S I) → IsThroughout cmp old scope value cond → IsThroughout cmp new scope value cond
throughout_extends cmp {old = old} {new = new} e scope k value cond h = record {
  is_cond = IsCond-extends cmp e cond h.is_cond;
  scope_is = h.scope_is;
  at = λ c. cond_at-extends cmp e cond h.is_cond c ∙ h.at c ∙ ap (λ b. if b then Some (value c) else None) (sym (e.test scope c k));
}

-- ---- an option

both : (t b : Bool) → option_or (if (t && b) then Some (Int (pos 1)) else None) (if t then Some (Int (pos 0)) else None) ≡ (if t then Some (Int (if b then pos 1 else pos 0)) else None)
both true true = refl
both true false = refl
both false true = refl
both false false = refl

some_if : {A : Type 0} (t : Bool) (x : A) → is_some (if t then Some x else None) ≡ t
some_if true x = refl
some_if false x = refl

-- 1 where the option is on, written over 0
pub option_throughout : {S I : Type 0} {s0 s1 s2 s3 : Sets I} → IsLawful s3 → Extends s0 s1 → Extends s1 s2 → Extends s2 s3 → (scope on inside : I) (option : ℕ) (zero one value : Conditional Slot S I)
    → s0.is_known scope ≡ true → IsSet s1 on (λ c. value_of c option) → IsSet s2 inside (λ c. s1.test scope c && s1.test on c)
    → IsSame slot_cmp s2 scope (Int (pos 0)) zero → IsSame slot_cmp s2 inside (Int (pos 1)) one
    → IsCondOf slot_cmp s3 (first_of (cond_at s2 one) (cond_at s2 zero)) value
    → IsThroughout slot_cmp s3 scope (option_slot option) value
option_throughout {s0 = s0} {s1 = s1} {s2 = s2} {s3 = s3} lawful e1 e2 e3 scope on inside option zero one value k o i z n v =
    let known1 = e1.known scope k in
    let known2 = e2.known scope known1 in
    let there : (c : List Bool) → s2.test scope c ≡ s3.test scope c = λ c. sym (e3.test scope c known2) in
    let part : (c : List Bool) → s2.test inside c ≡ (s3.test scope c && value_of c option) = λ c.
    i.test c ∙ ap (λ b. s1.test scope c && b) (o.test c) ∙ ap (λ b. b && value_of c option) (sym (e2.test scope c known1) ∙ there c) in
    let at : (c : List Bool) → first_of (cond_at s2 one) (cond_at s2 zero) c ≡ (if s3.test scope c then Some (option_slot option c) else None) = λ c.
    (λ j. option_or (n.at c j) (z.at c j))
    ∙ (λ j. option_or (if part c j then Some (Int (pos 1)) else None) (if there c j then Some (Int (pos 0)) else None))
    ∙ both (s3.test scope c) (value_of c option) in
    record {
      is_cond = IsCond-of slot_cmp s3 (first_of (cond_at s2 one) (cond_at s2 zero)) value v;
      scope_is =
          scope_is slot_cmp lawful (first_of (cond_at s2 one) (cond_at s2 zero)) value scope (s3.test scope) v (record { known = e3.known scope known2; test = λ c. refl })
          (λ c. ap is_some (at c) ∙ some_if (s3.test scope c) (option_slot option c));
      at = λ c. cond_at-of slot_cmp s3 (first_of (cond_at s2 one) (cond_at s2 zero)) value c v ∙ at c;
    }

-- ---- the loop over statics

pub record IsLiftingStatics {S I : Type 0} (start sets : Sets I) (scope : I) (statics : List FirstStatic) (i : ℕ) (conds : List (Conditional Slot S I)) : Type 0 where
  pub extends : Extends start sets
  pub are : AreStatics sets scope (take i statics) conds

pub IsLiftingStatics-step : {S I : Type 0} {s0 s1 s2 : Sets I} (scope : I) (statics : List FirstStatic) (i : ℕ) (conds : List (Conditional Slot S I)) (default : FirstStatic) (cond : Conditional Slot S I) → s0.is_known scope ≡ true → i < length statics → IsLiftingStatics s0 s1 scope statics i conds → Extends s1 s2 → IsStatic s2 scope (get_or statics i default) cond → IsLiftingStatics s0 s2 scope statics (i + 1) (conds ++ cond ∷ [])
IsLiftingStatics-step {s1 = s1} {s2 = s2} scope statics i conds default cond k l h x m =
    let known = h.extends.known scope k in
    record {
      extends = Extends-trans h.extends x;
      are =
          zip_read (IsStatic s2 scope) statics conds i default cond
          (zip_each (λ f y r. throughout_extends slot_cmp x scope known (static_slot f) y r) (take i statics) conds h.are) l m;
    }
