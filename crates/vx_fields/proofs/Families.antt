-- From a reference to the attempt of an operation.
use Rattle.std.proofs.Common.{◌≡◌, ℕ, Bool, true, false, List, [], ◌&&◌, refl, sym, ◌∙◌, ap, subst}
use Rattle.std.specs.Prelude.{Option, is_some}
use Rattle.vx_desc.specs.declared.java_type.JavaType.{JavaType}
use Rattle.vx_frame.specs.declared.frame.Frame.{Frame}
use Rattle.vx_group.specs.Group.{GroupView}
use Rattle.vx_group.specs.declared.callers.Caller.{Caller}
use Rattle.vx_heap.specs.Heap.{HeapView}
use Rattle.vx_java.specs.Checks.{same_bool, sort_of}
use Rattle.vx_java.specs.Fields.{Found as FoundField, put_value, with_field}
use Rattle.vx_java.specs.Machine.{Here, Outcome}
use Rattle.vx_java.specs.declared.operation.Operation.TheVariants.{GetStatic, PutStatic}
use Rattle.vx_link.specs.Names.{Member, member}
use Rattle.vx_link.specs.Parts.{class_at, is_static_field, method_at}
use Rattle.vx_outcome.specs.declared.outcome.Outcome.{Outcome as SharedOutcome}
use Rattle.vx_space.specs.Sets.{Sets}
use Rattle.vx_space.proofs.Spaces.{Extends-refl}
use Rattle.vx_group_states.specs.Sites.{Gives, here}
use Rattle.vx_group_states.specs.Stands.{state_at}
use Rattle.vx_group_states.specs.declared.site.Site.{Site}
use Rattle.vx_value.specs.declared.ids.ClassId.{ClassId}
use Rattle.vx_value.specs.declared.ids.FieldId.{FieldId}
use Rattle.vx_families.proofs.AttemptLaws.{AttemptsBy-same}
use Rattle.vx_families.specs.Pools.{pool_class}
use Rattle.vx_families.specs.Attempts.{AttemptsBy, IsAttemptBy}
use Rattle.vx_references.specs.Fields.{IsFieldReference, by_reference, is_found, is_sound}
use Rattle.vx_ready.specs.Running.{IsRunning}
use Rattle.vx_fields.specs.Statics.{got}
use Rattle.vx_references.specs.declared.fields.FieldReference.{FieldReference}
use Rattle.vx_references.specs.declared.fields.FieldReference.TheVariants.{Found, NoType, Floating, NoClass, NoField, Disagrees}
use Rattle.vx_ready.proofs.Given.{AttemptsBy-stays}

-- ---- a field that is found

-- what is said of the pool that was looked at
pub reference_at : {S I : Type 0} {static : Bool} (site : Site) (group : GroupView S I) (top : Frame S I) (class : ClassId) (index : ℕ) (reference : FieldReference) → top ≡ group.top → class ≡ (method_at site.program.now top.method.0).class → IsFieldReference site.program.now (class_at site.program.now class.0).pool index static reference → IsFieldReference site.program.now (class_at site.program.now (pool_class site group)).pool index static reference
reference_at {static = static} site group top class index reference e k f =
    let P : ClassId → Type 0 = λ x. IsFieldReference site.program.now (class_at site.program.now x.0).pool index static reference in
    subst P (k ∙ ap (λ (t : Frame _ _). (method_at site.program.now t.method.0).class) e) f

pub names_at : {S I : Type 0} (site : Site) (group : GroupView S I) (top : Frame S I) (class : ClassId) (index : ℕ) (m : Member) → top ≡ group.top → class ≡ (method_at site.program.now top.method.0).class → m ≡ member (class_at site.program.now class.0).pool index → m ≡ member (class_at site.program.now (pool_class site group)).pool index
names_at site group top class index m e k h = h ∙ ap (λ (x : ClassId). member (class_at site.program.now x.0).pool index) (k ∙ ap (λ (t : Frame _ _). (method_at site.program.now t.method.0).class) e)

module _ {S I : Type 0} (site : Site) (group : GroupView S I) (index : ℕ) (reference : FieldReference) (named : ClassId) (field : FieldId) (type : JavaType) (f : IsFieldReference site.program.now (class_at site.program.now (pool_class site group)).pool index true reference) (found : reference ≡ Found named field type) where
  sound : (same_bool true (is_static_field site.program.now field.0) && is_some (sort_of type)) ≡ true
  sound = ap (is_sound site.program.now true) (sym found) ∙ f.sound

  pub found_static : is_static_field site.program.now field.0 ≡ true
  found_static = first (is_static_field site.program.now field.0) (is_some (sort_of type)) sound
    where
      first : (a b : Bool) → (a && b) ≡ true → a ≡ true
      first true b h = refl
      first false b h = cc

  pub found_sort : is_some (sort_of type) ≡ true
  found_sort = second (is_static_field site.program.now field.0) (is_some (sort_of type)) sound
    where
      second : (a b : Bool) → (a && b) ≡ true → b ≡ true
      second true b h = h
      second false b h = cc

-- what an instruction says of the field
pub found-by : {S I : Type 0} {static : Bool} (site : Site) (group : GroupView S I) (index : ℕ) (reference : FieldReference) (named : ClassId) (field : FieldId) (type : JavaType) → IsFieldReference site.program.now (class_at site.program.now (pool_class site group)).pool index static reference → reference ≡ Found named field type → (says : Here → FoundField → Outcome) (s0 s1 : Sets I) (before after : HeapView S I) (outcomes : List (SharedOutcome S I)) → AttemptsBy site (λ s. says (here site s) (record { named = named.0; field = field.0; type = type })) s0 s1 before after group outcomes → AttemptsBy site (λ s. with_field (here site s) index static (says (here site s))) s0 s1 before after group outcomes
found-by site group index reference named field type f found says s0 s1 before after outcomes a = AttemptsBy-same site _ _ s0 s1 before after group outcomes (λ tree c.
    let h = here site (state_at s0 before tree group c) in
    sym (f.decides h (says h) ∙ ap (λ r. by_reference h (member h.pool index) r (says h)) found)) a

pub got-by : {S I : Type 0} (site : Site) (group : GroupView S I) (index : ℕ) (reference : FieldReference) (named : ClassId) (field : FieldId) (type : JavaType) → IsFieldReference site.program.now (class_at site.program.now (pool_class site group)).pool index true reference → reference ≡ Found named field type → (s0 s1 : Sets I) (before after : HeapView S I) (outcomes : List (SharedOutcome S I)) → AttemptsBy site (λ s. got (record { named = named.0; field = field.0; type = type }) (here site s)) s0 s1 before after group outcomes → IsAttemptBy site (GetStatic index) s0 s1 before after group outcomes
got-by site group index reference named field type f found = found-by site group index reference named field type f found (λ h x. got x h)

pub put-by : {S I : Type 0} (site : Site) (group : GroupView S I) (index : ℕ) (reference : FieldReference) (named : ClassId) (field : FieldId) (type : JavaType) → IsFieldReference site.program.now (class_at site.program.now (pool_class site group)).pool index true reference → reference ≡ Found named field type → (s0 s1 : Sets I) (before after : HeapView S I) (outcomes : List (SharedOutcome S I)) → AttemptsBy site (λ s. put_value (here site s) (record { named = named.0; field = field.0; type = type }) s.top.operands) s0 s1 before after group outcomes → IsAttemptBy site (PutStatic index) s0 s1 before after group outcomes
put-by site group index reference named field type f found = found-by site group index reference named field type f found (λ h x. put_value h x h.state.top.operands)

-- ---- a field that isn't

pub not_found : (reference : FieldReference) → ((named : ClassId) (field : FieldId) (type : JavaType) → reference ≡ Found named field type → ⊥) → is_found reference ≡ false
not_found (Found named field type) h = absurd (h named field type refl)
not_found NoType h = refl
not_found Floating h = refl
not_found NoClass h = refl
not_found NoField h = refl
not_found Disagrees h = refl

without : (h : Here) (m : Member) (reference : FieldReference) (a b : FoundField → Outcome) → is_found reference ≡ false → by_reference h m reference a ≡ by_reference h m reference b
without h m (Found named field type) a b e = cc
without h m NoType a b e = refl
without h m Floating a b e = refl
without h m NoClass a b e = refl
without h m NoField a b e = refl
without h m Disagrees a b e = refl

module _ {S I : Type 0} {static : Bool} (site : Site) (sets : Sets I) (heap : HeapView S I) (group : GroupView S I) (index : ℕ) (reference : FieldReference) (m : Member) (outcomes : List (SharedOutcome S I)) (r : IsRunning site sets heap group) (f : IsFieldReference site.program.now (class_at site.program.now (pool_class site group)).pool index static reference) (missing : is_found reference ≡ false) (names : m ≡ member (class_at site.program.now (pool_class site group)).pool index) (gives : (rest : FoundField → Outcome) → Gives site.program.now (λ s. by_reference (here site s) m reference rest) sets sets group outcomes) where
  nothing : FoundField → Outcome
  nothing x = Rattle.vx_java.specs.Machine.Begin 0 (record { heap = []; statics = []; inits = []; top = record { kind = Rattle.vx_value.specs.declared.key.Kind.TheVariants.Call; method = 0; position = 0; locals = []; operands = [] }; callers = [] })

  by_row : (says : Here → FoundField → Outcome) (tree : List (Option (Caller S I))) (c : List Bool) → by_reference (here site (state_at sets heap tree group c)) m reference nothing ≡ with_field (here site (state_at sets heap tree group c)) index static (says (here site (state_at sets heap tree group c)))
  by_row says tree c =
      let h = here site (state_at sets heap tree group c) in
      without h m reference nothing (says h) missing ∙ ap (λ k. by_reference h k reference (says h)) names ∙ sym (f.decides h (says h))

  pub missing-by : (says : Here → FoundField → Outcome) → AttemptsBy site (λ s. with_field (here site s) index static (says (here site s))) sets sets heap heap group outcomes
  missing-by says = AttemptsBy-stays site _ heap group (λ s. by_reference (here site s) m reference nothing) outcomes r.is_heap r.is_for r.is_group (Extends-refl sets) (λ tree s c t. by_row says tree c) (gives nothing)
