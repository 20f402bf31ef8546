-- A member that is put behind others.
use Rattle.std.proofs.Common.{◌≡◌, ℕ, List, [], ◌∷◌, ◌++◌, map, Bool, true, false, not, Some, Ok, refl, sym, ap, ◌∙◌}
use Rattle.std.proofs.lemmas.List.{map-append}
use Rattle.std.specs.List.{list_any}
use Rattle.vx_pool.specs.declared.fault.ClassFault.{ClassFault}
use Rattle.vx_pool.specs.declared.fault.ClassFault.TheVariants as fault
use Rattle.vx_pool.specs.Place.{Place}
use Rattle.vx_pool.specs.Reading.{Read, Fails, check, number, behind}
use Rattle.vx_pool.specs.declared.pool.Pool.{Pool}
use Rattle.vx_desc.specs.Names.{is_field_name, is_method_name}
use Rattle.vx_desc.specs.Descriptors.{is_field_descriptor, is_method_descriptor}
use Rattle.vx_pool.specs.Lookups.{text}
use Rattle.vx_class.specs.declared.class_file.Field.{Field}
use Rattle.vx_class.specs.declared.class_file.Method.{Method}
use Rattle.vx_class.specs.Members.{lawful_at, field_at, method_at}
use Rattle.vx_class.specs.Numbers.{numbers_of, key_of, same_key, field_key, method_key}
use Rattle.vx_class.specs.Rest.{field_behind, method_behind}
use Rattle.vx_class.proofs.SameTexts.{is_taken}

-- what is known once the flags, the name and the descriptor of a member are read, and whether they are new
pub record IsRead (pool : Pool) (is_name is_descriptor : List ℕ → Bool) (numbers : List ℕ) (keys : List (ℕ × ℕ)) (s s1 s2 s3 : Place) (flags n d : ℕ) (name descriptor : List ℕ) (is_new : Bool) : Type 0 where
  pub flags_read : number 2 s ≡ Ok (flags, s1)
  pub name_read : lawful_at is_name 7 pool s1 ≡ Ok ((n, name), s2)
  pub descriptor_read : lawful_at is_descriptor 8 pool s2 ≡ Ok ((d, descriptor), s3)
  pub named : text pool n ≡ Some name
  pub described : text pool d ≡ Some descriptor
  pub judged : is_new ≡ not (list_any (same_key (key_of numbers n d)) keys)

pub field_follows : (pool : Pool) (interface : Bool) (numbers : List ℕ) (keys : List (ℕ × ℕ)) (fields : List Field) (s s1 s2 s3 : Place) (flags n d : ℕ) (name descriptor : List ℕ) (is_new : Bool)
    → numbers ≡ numbers_of pool → keys ≡ map (field_key numbers) fields → IsRead pool is_field_name is_field_descriptor numbers keys s s1 s2 s3 flags n d name descriptor is_new
    → field_at pool interface fields s ≡ check is_new s.at 12 (field_behind pool interface flags n d descriptor s3)
unfolding field_at
field_follows pool interface numbers keys fields s s1 s2 s3 flags n d name descriptor is_new same taken is =
    let new = is.judged ∙ ap not (is_taken (λ f. f.name) (λ f. f.descriptor) pool numbers keys fields n d name descriptor same taken is.named is.described) in
    rw (is.flags_read, is.name_read, is.descriptor_read) (ap (λ b. check b s.at 12 (field_behind pool interface flags n d descriptor s3)) (sym new))

pub method_follows : (pool : Pool) (major : ℕ) (numbers : List ℕ) (keys : List (ℕ × ℕ)) (methods : List Method) (s s1 s2 s3 : Place) (flags n d : ℕ) (name descriptor : List ℕ) (is_new : Bool)
    → numbers ≡ numbers_of pool → keys ≡ map (method_key numbers) methods → IsRead pool is_method_name is_method_descriptor numbers keys s s1 s2 s3 flags n d name descriptor is_new
    → method_at pool major methods s ≡ check is_new s.at 12 (method_behind pool major s.at s2.at flags n name d descriptor s3)
unfolding method_at
method_follows pool major numbers keys methods s s1 s2 s3 flags n d name descriptor is_new same taken is =
    let new = is.judged ∙ ap not (is_taken (λ m. m.name) (λ m. m.descriptor) pool numbers keys methods n d name descriptor same taken is.named is.described) in
    rw (is.flags_read, is.name_read, is.descriptor_read) (ap (λ b. check b s.at 12 (method_behind pool major s.at s2.at flags n name d descriptor s3)) (sym new))

-- ---- what follows from it

module _ {A : Type 0} (item : List A → Place → Read A) (front : List A) (s : Place) (rest : Read A) where
  pub refused : (is_new : Bool) → item front s ≡ check is_new s.at 12 rest → is_new ≡ false → Fails (fault.Bad s.at 12) (behind item front s)
  refused is_new is none = rw (is, none) refl

  pub fails : (e : ClassFault) (is_new : Bool) → item front s ≡ check is_new s.at 12 rest → is_new ≡ true → Fails e rest → Fails e (behind item front s)
  fails fault.NoMemory is_new is new f = tt
  fails (fault.Bad at reason) is_new is new f = rw (is, new, f) refl

  pub adds : (x : A) (t : Place) (is_new : Bool) → item front s ≡ check is_new s.at 12 rest → is_new ≡ true → rest ≡ Ok (x, t) → behind item front s ≡ Ok (front ++ x ∷ [], t)
  adds x t is_new is new r = rw (is, new, r) refl

-- and the keys are those of the members again
pub keys_on : {A : Type 0} (key : A → ℕ × ℕ) (keys next : List (ℕ × ℕ)) (members : List A) (x : A) (k : ℕ × ℕ) → keys ≡ map key members → next ≡ keys ++ k ∷ [] → k ≡ key x
    → next ≡ map key (members ++ x ∷ [])
keys_on key keys next members x k taken put same = put ∙ (λ i. taken i ++ same i ∷ []) ∙ sym (map-append key members (x ∷ []))

-- ---- a field whose flags, name or descriptor is refused

pub field_without_flags : (e : ClassFault) (pool : Pool) (interface : Bool) (fields : List Field) (s : Place) → Fails e (number 2 s) → Fails e (behind (field_at pool interface) fields s)
unfolding field_at
field_without_flags fault.NoMemory pool interface fields s f = tt
field_without_flags (fault.Bad at reason) pool interface fields s f = rw f refl

pub field_without_name : (e : ClassFault) (pool : Pool) (interface : Bool) (fields : List Field) (s s1 : Place) (flags : ℕ) → number 2 s ≡ Ok (flags, s1) → Fails e (lawful_at is_field_name 7 pool s1) → Fails e (behind (field_at pool interface) fields s)
unfolding field_at
field_without_name fault.NoMemory pool interface fields s s1 flags a f = tt
field_without_name (fault.Bad at reason) pool interface fields s s1 flags a f = rw (a, f) refl

pub field_without_descriptor : (e : ClassFault) (pool : Pool) (interface : Bool) (fields : List Field) (s s1 s2 : Place) (flags n : ℕ) (name : List ℕ) → number 2 s ≡ Ok (flags, s1) → lawful_at is_field_name 7 pool s1 ≡ Ok ((n, name), s2)
    → Fails e (lawful_at is_field_descriptor 8 pool s2) → Fails e (behind (field_at pool interface) fields s)
unfolding field_at
field_without_descriptor fault.NoMemory pool interface fields s s1 s2 flags n name a b f = tt
field_without_descriptor (fault.Bad at reason) pool interface fields s s1 s2 flags n name a b f = rw (a, b, f) refl

-- ---- a method whose flags, name or descriptor is refused

pub method_without_flags : (e : ClassFault) (pool : Pool) (major : ℕ) (methods : List Method) (s : Place) → Fails e (number 2 s) → Fails e (behind (method_at pool major) methods s)
unfolding method_at
method_without_flags fault.NoMemory pool major methods s f = tt
method_without_flags (fault.Bad at reason) pool major methods s f = rw f refl

pub method_without_name : (e : ClassFault) (pool : Pool) (major : ℕ) (methods : List Method) (s s1 : Place) (flags : ℕ) → number 2 s ≡ Ok (flags, s1) → Fails e (lawful_at is_method_name 7 pool s1) → Fails e (behind (method_at pool major) methods s)
unfolding method_at
method_without_name fault.NoMemory pool major methods s s1 flags a f = tt
method_without_name (fault.Bad at reason) pool major methods s s1 flags a f = rw (a, f) refl

pub method_without_descriptor : (e : ClassFault) (pool : Pool) (major : ℕ) (methods : List Method) (s s1 s2 : Place) (flags n : ℕ) (name : List ℕ) → number 2 s ≡ Ok (flags, s1) → lawful_at is_method_name 7 pool s1 ≡ Ok ((n, name), s2)
    → Fails e (lawful_at is_method_descriptor 8 pool s2) → Fails e (behind (method_at pool major) methods s)
unfolding method_at
method_without_descriptor fault.NoMemory pool major methods s s1 s2 flags n name a b f = tt
method_without_descriptor (fault.Bad at reason) pool major methods s s1 s2 flags n name a b f = rw (a, b, f) refl
