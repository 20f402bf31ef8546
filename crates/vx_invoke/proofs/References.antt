-- From what a reference comes to to the attempt of a call.
use Rattle.std.proofs.Common.{◌≡◌, ◌<◌, ◌^◌, ℕ, Bool, true, false, List, refl, sym, ◌∙◌, ap, subst, arith, length}
use Rattle.std.specs.Prelude.{◌||◌, Option, not}
use Rattle.vx_class.specs.Members.{STATIC}
use Rattle.vx_desc.specs.declared.java_type.JavaType.{JavaType}
use Rattle.vx_families.specs.Attempts.{AttemptsBy, AttemptsIn, IsAttemptIn, IsGiven, row_by}
use Rattle.vx_families.specs.Bounds.{IsBounded, is_short}
use Rattle.vx_families.specs.Pools.{pool_of}
use Rattle.vx_families.proofs.AttemptLaws.{AttemptsBy-gives, AttemptsIn-by}
use Rattle.vx_families.proofs.ShortPools.{below}
use Rattle.vx_frame.specs.declared.frame.Frame.{Frame}
use Rattle.vx_frames.specs.Giving.{GivesIn}
use Rattle.vx_frames.proofs.GivingLaws.{Attempts-gives}
use Rattle.vx_group.specs.declared.callers.Caller.{Caller}
use Rattle.vx_group.specs.Callers.{Keeps}
use Rattle.vx_group.specs.Group.{GroupView, path_of}
use Rattle.vx_group_states.specs.Sites.{Gives, here}
use Rattle.vx_group_states.specs.Stands.{StandsIn, state_at}
use Rattle.vx_group_states.specs.declared.site.Site.{Site}
use Rattle.vx_group_states.proofs.OutcomeStates.{CameTo-same}
use Rattle.vx_heap.specs.Heap.{HeapView}
use Rattle.vx_java.specs.Calls.{call_instance, call_static, clone_array}
use Rattle.vx_java.specs.Machine.{Here, State}
use Rattle.vx_java.specs.Machine.{Outcome as PlainOutcome}
use Rattle.vx_java.specs.declared.operation.Mode.{Mode}
use Rattle.vx_java.specs.declared.operation.Mode.TheVariants.{Interface, Special, Static, Virtual}
use Rattle.vx_java.specs.declared.operation.Operation.{Operation}
use Rattle.vx_java.specs.declared.operation.Operation.TheVariants.{Invoke}
use Rattle.vx_link.specs.Names.{Member, member}
use Rattle.vx_link.specs.Parts.{PRIVATE, class_at, has, method_at}
use Rattle.vx_link.specs.Signature.{signature}
use Rattle.vx_link.specs.declared.program.LinkedMethod.{LinkedMethod}
use Rattle.vx_link.specs.declared.program.Program.{Program}
use Rattle.vx_outcome.specs.declared.outcome.Outcome.{Outcome}
use Rattle.vx_references.specs.Calls.{IsMethodReference, IsSound, by_reference, call_found, may_call}
use Rattle.vx_references.specs.declared.calls.MethodReference.{MethodReference}
use Rattle.vx_references.specs.declared.calls.MethodReference.TheVariants.{Clone, Found, NoClass, NoMethod, WrongKind}
use Rattle.vx_space.specs.Sets.{Extends, Sets}
use Rattle.vx_space.proofs.Spaces.{Extends-refl}
use Rattle.vx_value.specs.declared.ids.ClassId.{ClassId}
use Rattle.vx_value.specs.declared.ids.MethodId.{MethodId}
use Rattle.vx_invoke.proofs.Rooms.{each_method}
use Rattle.vx_invoke.specs.Called.{IsTarget}
use Rattle.vx_invoke.proofs.Selections.{not_static}
use Rattle.vx_invoke.specs.Calling.{IsCallable, IsMemberOf, is_unresolved}
use Rattle.vx_invoke.specs.declared.target.Target.{Target}

-- an attempt by another row that comes to the same
pub AttemptsIn-same : {S I : Type 0} (site : Site) (says other : State → PlainOutcome) (s0 s1 : Sets I) (before after : HeapView S I) (tree later : List (Option (Caller S I))) (group : GroupView S I) (outcomes : List (Outcome S I)) → ((c : List Bool) → says (state_at s0 before tree group c) ≡ other (state_at s0 before tree group c)) → AttemptsIn site says s0 s1 before after tree later group outcomes → AttemptsIn site other s0 s1 before after tree later group outcomes
AttemptsIn-same site says other s0 s1 before after tree later group outcomes law a =
    let made = a.attempts in
    record {
      is_for = a.is_for;
      attempts = record {
        is_heap = made.is_heap;
        grows = made.grows;
        keeps = made.keeps;
        came = CameTo-same site.program.now s0 s1 after later group (λ c. says (state_at s0 before tree group c)) (λ c. other (state_at s0 before tree group c)) (s0.test (path_of group)) (s0.test (path_of group)) outcomes (λ c. refl) (λ c t. law c) made.came;
        outside = made.outside;
      };
    }

-- an operation that is known to be a call
pub IsAttemptIn-call : {S I : Type 0} (site : Site) (operation : Operation) (mode : Mode) (index : ℕ) (s0 s1 : Sets I) (before after : HeapView S I) (tree later : List (Option (Caller S I))) (group : GroupView S I) (outcomes : List (Outcome S I)) → operation ≡ Invoke mode index → IsAttemptIn site (Invoke mode index) s0 s1 before after tree later group outcomes → IsAttemptIn site operation s0 s1 before after tree later group outcomes
IsAttemptIn-call site operation mode index s0 s1 before after tree later group outcomes e a =
    let P : Operation → Type 0 = λ o. IsAttemptIn site o s0 s1 before after tree later group outcomes in
    subst P (sym e) a

-- the descriptor of a method is short
pub descriptor_short : (p : Program) (m : ℕ) → IsBounded p → length (method_at p m).descriptor < 2 ^ 32
descriptor_short p m b =
    let short = below (length (method_at p m).descriptor) (each_method (λ l. is_short (length l.descriptor)) p.methods m refl b.signatures) in
    omega (arith, short)

-- ---- the pool of the group

module _ {S I : Type 0} (site : Site) (group : GroupView S I) (top : Frame S I) (class : ClassId) (is_top : top ≡ group.top) (is_class : class ≡ (method_at site.program.now top.method.0).class) where
  class_is : class ≡ (method_at site.program.now group.top.method.0).class
  class_is = is_class ∙ ap (λ (t : Frame S I). (method_at site.program.now t.method.0).class) is_top

  pub reference_at : (mode : Mode) (index : ℕ) (reference : MethodReference) → IsMethodReference site.program.now (class_at site.program.now class.0).pool index mode reference → IsMethodReference site.program.now (pool_of site group) index mode reference
  reference_at mode index reference f =
      let P : ClassId → Type 0 = λ x. IsMethodReference site.program.now (class_at site.program.now x.0).pool index mode reference in
      subst P class_is f

  pub member_at : (index : ℕ) (m : Member) → m ≡ member (class_at site.program.now class.0).pool index → m ≡ member (pool_of site group) index
  member_at index m e = e ∙ ap (λ (x : ClassId). member (class_at site.program.now x.0).pool index) class_is

  -- ---- a method that is found

  module _ (mode : Mode) (index : ℕ) (reference : MethodReference) (named : ClassId) (resolved : MethodId) (m : Member) (target : Target) (f : IsMethodReference site.program.now (pool_of site group) index mode reference) (found : reference ≡ Found named resolved) (names : m ≡ member (pool_of site group) index) (t : IsTarget mode m class.0 target) (is_named : target.named ≡ named) (is_resolved : target.resolved ≡ resolved) where
    sound : IsSound site.program.now mode (member (pool_of site group) index) (Found named resolved)
    sound =
        let P : MethodReference → Type 0 = λ r. IsSound site.program.now mode (member (pool_of site group) index) r in
        subst P found f.sound

    pub found_may_call : may_call target.mode (method_at site.program.now target.resolved.0) ≡ true
    found_may_call = (λ i. may_call (t.mode i) (method_at site.program.now (is_resolved i).0)) ∙ sound.0

    pub found_member : IsMemberOf site.program.now group target m
    found_member = record {
      target = record { mode = refl; by_interface = t.by_interface; is_init = t.is_init; current = t.current ∙ ap (λ (k : ClassId). k.0) class_is };
      descriptor = ap (λ (r : MethodId). (method_at site.program.now r.0).descriptor) is_resolved ∙ sound.1 ∙ ap (λ (x : Member). x.descriptor) (sym names);
    }

    pub found-attempts : (s0 s1 : Sets I) (before after : HeapView S I) (tree later : List (Option (Caller S I))) (outcomes : List (Outcome S I)) → AttemptsIn site (λ s. call_found (here site s) target.mode m target.named.0 target.resolved.0) s0 s1 before after tree later group outcomes → IsAttemptIn site (Invoke mode index) s0 s1 before after tree later group outcomes
    found-attempts s0 s1 before after tree later outcomes a = AttemptsIn-same site (λ s. call_found (here site s) target.mode m target.named.0 target.resolved.0) (row_by site (Invoke mode index)) s0 s1 before after tree later group outcomes same_row a
      where
        same_row : (c : List Bool) → call_found (here site (state_at s0 before tree group c)) target.mode m target.named.0 target.resolved.0 ≡ row_by site (Invoke mode index) (state_at s0 before tree group c)
        same_row c =
            let h = here site (state_at s0 before tree group c) in
            (λ i. call_found h (t.mode i) (names i) (is_named i).0 (is_resolved i).0)
            ∙ ap (by_reference h mode (member (pool_of site group) index)) (sym found)
            ∙ sym (f.decides h)

-- ---- by the mode

-- invokestatic
pub static-attempts : {S I : Type 0} (site : Site) (target : Target) (types : List JavaType) (s0 s1 : Sets I) (before after : HeapView S I) (tree later : List (Option (Caller S I))) (group : GroupView S I) (outcomes : List (Outcome S I)) → target.mode ≡ Static → (signature (method_at site.program.now target.resolved.0).descriptor).arguments ≡ types → (m : Member) → IsMemberOf site.program.now group target m → ((m : Member) → (signature m.descriptor).arguments ≡ types → AttemptsIn site (λ s. call_static (here site s) m target.resolved.0) s0 s1 before after tree later group outcomes) → AttemptsIn site (λ s. call_found (here site s) target.mode m target.named.0 target.resolved.0) s0 s1 before after tree later group outcomes
static-attempts site target types s0 s1 before after tree later group outcomes static are m member made = AttemptsIn-same site (λ s. call_static (here site s) m target.resolved.0) (λ s. call_found (here site s) target.mode m target.named.0 target.resolved.0) s0 s1 before after tree later group outcomes (λ c. ap (λ mode. call_found (here site (state_at s0 before tree group c)) mode m target.named.0 target.resolved.0) (sym static)) (made m (ap (λ (text : List ℕ). (signature text).arguments) (sym member.descriptor) ∙ are))

-- call a method on an object
instance_mode : (h : Here) (m : Member) (mode : Mode) (named resolved : ℕ) → (mode ≡ Static → ⊥) → call_instance h mode m named resolved ≡ call_found h mode m named resolved
instance_mode h m Virtual named resolved f = refl
instance_mode h m Special named resolved f = refl
instance_mode h m Interface named resolved f = refl
instance_mode h m Static named resolved f = absurd (f refl)

pub object-attempts : {S I : Type 0} (site : Site) (target : Target) {s0 s1 : Sets I} (heap : HeapView S I) (tree later : List (Option (Caller S I))) (group : GroupView S I) (outcomes : List (Outcome S I)) → (target.mode ≡ Static → ⊥) → IsCallable site s0 heap tree group target → Extends s0 s1 → Keeps tree later → (m : Member) → GivesIn site.program.now (λ _ _ s. call_instance (here site s) target.mode m target.named.0 target.resolved.0) s0 s1 tree later group outcomes heap → AttemptsIn site (λ s. call_found (here site s) target.mode m target.named.0 target.resolved.0) s0 s1 heap heap tree later group outcomes
object-attempts site target {s0 = s0} {s1 = s1} heap tree later group outcomes other callable e keeps m gives = AttemptsIn-same site (λ s. call_instance (here site s) target.mode m target.named.0 target.resolved.0) (λ s. call_found (here site s) target.mode m target.named.0 target.resolved.0) s0 s1 heap heap tree later group outcomes (λ c. instance_mode (here site (state_at s0 heap tree group c)) m target.mode target.named.0 target.resolved.0 other) (record {
  is_for = callable.is_for;
  attempts = Attempts-gives site.program.now (λ s. call_instance (here site s) target.mode m target.named.0 target.resolved.0) tree later group outcomes heap e callable.is_heap callable.stands keeps gives;
})

-- and no static one
pub of_object : (mode : Mode) (l : LinkedMethod) → (mode ≡ Static → ⊥) → may_call mode l ≡ true → has STATIC l.flags ≡ false
of_object Virtual l f h = not_static (has STATIC l.flags) h
of_object Special l f h = not_static (has STATIC l.flags) h
of_object Interface l f h = neither (has STATIC l.flags) (has PRIVATE l.flags) h
  where
    neither : (a b : Bool) → not (a || b) ≡ true → a ≡ false
    neither true b h = cc
    neither false b h = refl
of_object Static l f h = absurd (f refl)

-- ---- the clone of an array

pub clone-attempts : {S I : Type 0} (site : Site) (s0 s1 : Sets I) (before after : HeapView S I) (tree : List (Option (Caller S I))) (group : GroupView S I) (mode : Mode) (index : ℕ) (reference : MethodReference) (named : ClassId) (outcomes : List (Outcome S I)) → StandsIn site.program.now s0 before tree group → IsMethodReference site.program.now (pool_of site group) index mode reference → reference ≡ Clone named → ((m : Member) → IsSound site.program.now mode m (Clone named) → AttemptsBy site (λ s. clone_array (here site s) mode m named.0) s0 s1 before after group outcomes) → IsAttemptIn site (Invoke mode index) s0 s1 before after tree tree group outcomes
clone-attempts {S = S} {I = I} site s0 s1 before after tree group mode index reference named outcomes stands f is made =
    let says : State → PlainOutcome = λ s. clone_array (here site s) mode m named.0 in
    AttemptsIn-same site says (row_by site (Invoke mode index)) s0 s1 before after tree tree group outcomes same_row (AttemptsIn-by site says s0 s1 before after tree group outcomes stands (made m sound))
  where
    m : Member
    m = member (pool_of site group) index

    sound : IsSound site.program.now mode m (Clone named)
    sound =
        let P : MethodReference → Type 0 = λ r. IsSound site.program.now mode m r in
        subst P is f.sound

    same_row : (c : List Bool) → clone_array (here site (state_at s0 before tree group c)) mode m named.0 ≡ row_by site (Invoke mode index) (state_at s0 before tree group c)
    same_row c =
        let h = here site (state_at s0 before tree group c) in
        ap (by_reference h mode m) (sym is) ∙ sym (f.decides h)

-- ---- none that may be called

pub is_missing : (reference : MethodReference) → ((named : ClassId) (resolved : MethodId) → reference ≡ Found named resolved → ⊥) → ((named : ClassId) → reference ≡ Clone named → ⊥) → is_unresolved reference ≡ true
is_missing (Found named resolved) found clones = absurd (found named resolved refl)
is_missing (Clone named) found clones = absurd (clones named refl)
is_missing NoClass found clones = refl
is_missing NoMethod found clones = refl
is_missing WrongKind found clones = refl

pub missing-attempts : {S I : Type 0} (site : Site) (operation : Operation) (sets : Sets I) (heap : HeapView S I) (tree : List (Option (Caller S I))) (group : GroupView S I) (mode : Mode) (index : ℕ) (reference : MethodReference) (m : Member) (outcomes : List (Outcome S I)) → IsGiven site operation sets heap group → StandsIn site.program.now sets heap tree group → IsMethodReference site.program.now (pool_of site group) index mode reference → m ≡ member (pool_of site group) index → Gives site.program.now (λ s. by_reference (here site s) mode m reference) sets sets group outcomes → IsAttemptIn site (Invoke mode index) sets sets heap heap tree tree group outcomes
missing-attempts {S = S} {I = I} site operation sets heap tree group mode index reference m outcomes given stands f names gives =
    let says : State → PlainOutcome = λ s. by_reference (here site s) mode m reference in
    AttemptsIn-same site says (row_by site (Invoke mode index)) sets sets heap heap tree tree group outcomes same_row (AttemptsIn-by site says sets sets heap heap tree group outcomes stands (AttemptsBy-gives site operation says heap group outcomes (Extends-refl sets) given (gives heap)))
  where
    same_row : (c : List Bool) → by_reference (here site (state_at sets heap tree group c)) mode m reference ≡ row_by site (Invoke mode index) (state_at sets heap tree group c)
    same_row c =
        let h = here site (state_at sets heap tree group c) in
        ap (λ x. by_reference h mode x reference) names ∙ sym (f.decides h)
