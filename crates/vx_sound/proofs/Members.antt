-- Fields that names are resolved to: whose they are, and which objects have them.
use Rattle.std.proofs.Common.{Bool, List, None, Option, Some, [], ap, false, inl, inr, length, refl, subst, sym, true, ℕ, ◌++◌, ◌<◌, ◌∙◌, ◌∷◌, ◌≡◌, ◌⊎◌}
use Rattle.std.proofs.lemmas.Bool.Decides.{Decides-eqb}
use Rattle.std.proofs.lemmas.Slice.Eq.{bytes_eq-Decides}
use Rattle.std.specs.Prelude.{bytes_eq, flat_map, if◌then◌else◌, nat_eq, not, option_and_then, unwrap_or, ◌&&◌}
use Rattle.vx_desc.specs.Descriptors.{field_type}
use Rattle.vx_desc.specs.declared.java_type.JavaType.{JavaType}
use Rattle.vx_java.specs.Ids.{as_class}
use Rattle.vx_link.specs.Assignability.{assignable}
use Rattle.vx_link.specs.ClassNames.{is_array, object_class}
use Rattle.vx_link.specs.Hierarchy.{interfaces_below, is_among, superclasses}
use Rattle.vx_link.specs.Parts.{field_at, fields_of, is_interface, is_static_field}
use Rattle.vx_link.specs.Resolution.{field_order, first_given, own_field, resolve_field}
use Rattle.vx_link.specs.declared.program.Program.{Program}
use Rattle.vx_sound.proofs.ClassTypes.{plain_type}
use Rattle.vx_sound.proofs.Classes.{among_above, array_root_fits, class_there}
use Rattle.vx_sound.proofs.Values.{none_some}
use Rattle.vx_sound.specs.Sound.{HasHierarchy, HasMembers}
use Rattle.vx_sound.specs.Typed.{has_field}
use Rattle.vx_sound.specs.Values.{type_of_class, type_of_field}
use Rattle.vx_types.proofs.Chains.{found_passes}
use Rattle.vx_types.proofs.Tests.{both, both_second, either, not_both, or_first, or_second}
use Rattle.vx_types.specs.Fits.{fits}
use Rattle.vx_types.specs.Types.{type_of}
use Rattle.vx_types.specs.declared.types.ElementType.TheVariants as element
use Rattle.vx_types.specs.declared.types.VerType.{VerType}
use Rattle.vx_types.specs.declared.types.VerType.TheVariants as is
use Rattle.vx_verify.proofs.Putting.{is_or_not}

-- ---- lists

-- what is among lists is among one of them
pub record IsIn (f : ℕ → List ℕ) (xs : List ℕ) (n : ℕ) : Type 0 where
  pub list : ℕ
  pub listed : is_among list xs ≡ true
  pub within : is_among n (f list) ≡ true

among_either : (n : ℕ) (xs ys : List ℕ) → is_among n (xs ++ ys) ≡ true → (is_among n xs ≡ true) ⊎ (is_among n ys ≡ true)
among_either n [] ys h = inr h
among_either n (x ∷ xs) ys h = by (among_either n xs ys) (either (nat_eq n x) (is_among n (xs ++ ys)) h)
  where
    by : (is_among n (xs ++ ys) ≡ true → (is_among n xs ≡ true) ⊎ (is_among n ys ≡ true)) → (nat_eq n x ≡ true) ⊎ (is_among n (xs ++ ys) ≡ true)
        → (is_among n (x ∷ xs) ≡ true) ⊎ (is_among n ys ≡ true)
    by later (inl same) = inl (or_first (nat_eq n x) (is_among n xs) same)
    by later (inr others) = elim (later others) [ inl front ↦ inl (or_second (nat_eq n x) (is_among n xs) front) | inr back ↦ inr back ]

among_back : (n : ℕ) (xs ys : List ℕ) → is_among n ys ≡ true → is_among n (xs ++ ys) ≡ true
among_back n [] ys h = h
among_back n (x ∷ xs) ys h = or_second (nat_eq n x) (is_among n (xs ++ ys)) (among_back n xs ys h)

among_front : (n : ℕ) (xs ys : List ℕ) → is_among n xs ≡ true → is_among n (xs ++ ys) ≡ true
among_front n [] ys h = absurd cc
among_front n (x ∷ xs) ys h = elim (either (nat_eq n x) (is_among n xs) h) [
  | inl same ↦ or_first (nat_eq n x) (is_among n (xs ++ ys)) same
  | inr later ↦ or_second (nat_eq n x) (is_among n (xs ++ ys)) (among_front n xs ys later)
]

pub among_lists : (f : ℕ → List ℕ) (xs : List ℕ) (n : ℕ) → is_among n (flat_map f xs) ≡ true → IsIn f xs n
among_lists f [] n h = absurd cc
among_lists f (x ∷ xs) n h = by (λ k. among_lists f xs n k) (among_either n (f x) (flat_map f xs) h)
  where
    by : (is_among n (flat_map f xs) ≡ true → IsIn f xs n) → (is_among n (f x) ≡ true) ⊎ (is_among n (flat_map f xs) ≡ true) → IsIn f (x ∷ xs) n
    by later (inl here) = record { list = x; listed = or_first (nat_eq x x) (is_among x xs) ((Decides-eqb x x).1 refl); within = here }
    by later (inr others) = let q = later others in record { list = q.list; listed = or_second (nat_eq q.list x) (is_among q.list xs) q.listed; within = q.within }

pub in_lists : (f : ℕ → List ℕ) (xs : List ℕ) (x n : ℕ) → is_among x xs ≡ true → is_among n (f x) ≡ true → is_among n (flat_map f xs) ≡ true
in_lists f [] x n h k = absurd cc
in_lists f (y ∷ xs) x n h k = by (λ l. in_lists f xs x n l k) (either (nat_eq x y) (is_among x xs) h)
  where
    by : (is_among x xs ≡ true → is_among n (flat_map f xs) ≡ true) → (nat_eq x y ≡ true) ⊎ (is_among x xs ≡ true) → is_among n (f y ++ flat_map f xs) ≡ true
    by later (inl same) = among_front n (f y) (flat_map f xs) (subst (λ z. is_among n (f z) ≡ true) ((Decides-eqb x y).0 same) k)
    by later (inr others) = among_back n (f y) (flat_map f xs) (later others)

-- what the first of some gives is given by one of them
pub record IsGiven (f : ℕ → Option ℕ) (cs : List ℕ) (m : ℕ) : Type 0 where
  pub class : ℕ
  pub listed : is_among class cs ≡ true
  pub gives : f class ≡ Some m

pub given_among : (f : ℕ → Option ℕ) (cs : List ℕ) (m : ℕ) → first_given f cs ≡ Some m → IsGiven f cs m
given_among f [] m h = none_some h
given_among f (c ∷ cs) m h = by (f c) refl (λ k. given_among f cs m k) h
  where
    by : (o : Option ℕ) → f c ≡ o → (first_given f cs ≡ Some m → IsGiven f cs m) → (elim o [ Some n ↦ Some n | None ↦ first_given f cs ]) ≡ Some m → IsGiven f (c ∷ cs) m
    by (Some n) e later k = record { class = c; listed = or_first (nat_eq c c) (is_among c cs) ((Decides-eqb c c).1 refl); gives = e ∙ k }
    by None e later k = let q = later k in record { class = q.class; listed = or_second (nat_eq q.class c) (is_among q.class cs) q.listed; gives = q.gives }

-- ---- fields

-- a field of a class has a name's descriptor
pub record IsOwnField (p : Program) (wanted : List ℕ) (f class : ℕ) : Type 0 where
  pub declared : is_among f (fields_of p class) ≡ true
  pub descriptor : (field_at p f).descriptor ≡ wanted

own_field_is : (p : Program) (name descriptor : List ℕ) (c f : ℕ) → own_field p name descriptor c ≡ Some f → IsOwnField p descriptor f c
own_field_is p name descriptor c f e =
    let found = found_passes (λ f. bytes_eq (field_at p f).name name && bytes_eq (field_at p f).descriptor descriptor) (fields_of p c) f e in
    record {
      declared = found.0;
      descriptor = (bytes_eq-Decides (field_at p f).descriptor descriptor).0 (both_second (bytes_eq (field_at p f).name name) (bytes_eq (field_at p f).descriptor descriptor) found.1);
    }

-- the field that a name is resolved to is one of a class or an interface above a class that is no array
pub record IsResolved (p : Program) (named : ℕ) (descriptor : List ℕ) (f : ℕ) : Type 0 where
  pub plain : is_array p named ≡ false
  pub class : ℕ
  pub ordered : is_among class (field_order p named) ≡ true
  pub own : IsOwnField p descriptor f class

pub resolved : (p : Program) (named : ℕ) (name descriptor : List ℕ) (f : ℕ) → resolve_field p named name descriptor ≡ Some f → IsResolved p named descriptor f
resolved p named name descriptor f e = by (is_array p named) refl e
  where
    by : (b : Bool) → is_array p named ≡ b → (if b then None else first_given (own_field p name descriptor) (field_order p named)) ≡ Some f → IsResolved p named descriptor f
    by true array k = none_some k
    by false plain k =
        let given = given_among (own_field p name descriptor) (field_order p named) f k in
        record { plain = plain; class = given.class; ordered = given.listed; own = own_field_is p name descriptor given.class f given.gives }

-- the type of such a field is that of the descriptor
pub field_typed : (p : Program) (descriptor : List ℕ) (f : ℕ) (t : JavaType) (v : VerType) → (field_at p f).descriptor ≡ descriptor → field_type descriptor ≡ Some t → type_of p descriptor t ≡ Some v
    → type_of_field p f ≡ v
field_typed p descriptor f t v same reads types =
    ap (λ (d : List ℕ). unwrap_or (option_and_then (type_of p d) (field_type d)) is.Top) same
    ∙ ap (λ (o : Option JavaType). unwrap_or (option_and_then (type_of p descriptor) o) is.Top) reads
    ∙ ap (λ (o : Option VerType). unwrap_or o is.Top) types

-- ---- fields of objects

-- a field that objects of a class have
pub record IsInstanceField (p : Program) (named f : ℕ) : Type 0 where
  pub instance : is_static_field p f ≡ false
  pub within : f < length p.fields
  pub plain : is_array p named ≡ false
  pub above : is_among (field_at p f).class.0 (superclasses p named) ≡ true
  pub class : is_interface p named ≡ false
  pub proper : ¬ (named ≡ object_class p)

-- a class whose objects have a field, and may stand where a class is wanted
pub record HasIt (p : Program) (named f c : ℕ) : Type 0 where
  pub plain : is_array p c ≡ false
  pub there : has_field p c f ≡ true
  pub instance : assignable p c named ≡ true

module _ (p : Program) (has : HasHierarchy p) (members : HasMembers p) where
  -- a field that is not static is of a class, and not of Object
  of_class : (class f : ℕ) → is_among f (fields_of p class) ≡ true → is_static_field p f ≡ false → is_interface p class ≡ false
  of_class class f declared instance = by (is_interface p class) refl
    where
      by : (b : Bool) → is_interface p class ≡ b → b ≡ false
      by true interface = not_both (is_static_field p f) (members.constants class f declared interface) instance
      by false plain = refl

  not_root : (class f : ℕ) → is_among f (fields_of p class) ≡ true → ¬ (class ≡ object_class p)
  not_root class f declared same =
      not_both (is_among f (fields_of p class)) declared (ap (λ c. is_among f (fields_of p c)) same ∙ ap (is_among f) members.root)

  among_classes : (named class f : ℕ) → is_among class (field_order p named) ≡ true → is_interface p class ≡ false → is_among class (superclasses p named) ≡ true
  among_classes named class f ordered plain = by (among_lists (λ d. d ∷ interfaces_below p d) (superclasses p named) class ordered)
    where
      by : IsIn (λ d. d ∷ interfaces_below p d) (superclasses p named) class → is_among class (superclasses p named) ≡ true
      by q = elim (either (nat_eq class q.list) (is_among class (interfaces_below p q.list)) q.within) [
        | inl same ↦ subst (λ c. is_among c (superclasses p named) ≡ true) (sym ((Decides-eqb class q.list).0 same)) q.listed
        | inr below ↦ not_both (is_interface p class) (has.interfaces named class (in_lists (interfaces_below p) (superclasses p named) q.list class q.listed below)) plain
      ]

  pub instance_field : (named : ℕ) (descriptor : List ℕ) (f : ℕ) → IsResolved p named descriptor f → is_static_field p f ≡ false → IsInstanceField p named f
  instance_field named descriptor f r instance = record {
    instance = instance;
    within = members.within r.class f r.own.declared;
    plain = r.plain;
    above = subst (λ c. is_among c (superclasses p named) ≡ true) (sym (members.fields r.class f r.own.declared)) above;
    class = of_named (is_interface p named) refl;
    proper = λ same. root (has.ranked.object r.class (subst (λ c. is_among r.class (superclasses p c) ≡ true) same above));
  }
    where
      class : is_interface p r.class ≡ false
      class = of_class r.class f r.own.declared instance

      above : is_among r.class (superclasses p named) ≡ true
      above = among_classes named r.class f r.ordered class

      root : ¬ (r.class ≡ object_class p)
      root = not_root r.class f r.own.declared

      of_named : (b : Bool) → is_interface p named ≡ b → b ≡ false
      of_named false plain = refl
      of_named true interface = by (is_or_not r.class named)
        where
          by : (r.class ≡ named) ⊎ (¬ (r.class ≡ named)) → true ≡ false
          by (inl same) = not_both (is_interface p r.class) (subst (λ c. is_interface p c ≡ true) (sym same) interface) class
          by (inr other) = absurd (root (has.roots named r.class interface above other))

  pub has_it : (named f c : ℕ) → IsInstanceField p named f → fits p (type_of_class p c) (type_of_class p named) ≡ true → HasIt p named f c
  has_it named f c q fit = record {
    plain = plain;
    there = both (not (is_static_field p f)) (is_among (field_at p f).class.0 (superclasses p c)) (ap not q.instance)
        (has.ranked.through c named (field_at p f).class.0 (among_above p has c named plain (subst (λ (t : VerType). fits p t (is.Ref 0 (element.Class (as_class named))) ≡ true) (plain_type p c plain) target)) q.above);
    instance = class_there p has c named target;
  }
    where
      target : fits p (type_of_class p c) (is.Ref 0 (element.Class (as_class named))) ≡ true
      target =
          subst (λ (u : VerType). fits p (type_of_class p c) u ≡ true)
          (plain_type p named q.plain ∙ ap (λ b. is.Ref 0 (element.Class (as_class (if b then object_class p else named)))) q.class) fit

      plain : is_array p c ≡ false
      plain = by (is_array p c) refl
        where
          by : (b : Bool) → is_array p c ≡ b → b ≡ false
          by true array = absurd (q.proper (array_root_fits p c named array target))
          by false a = refl
