-- Methods that names are resolved to and that calls select: their descriptors are the name's, and their classes stand above the receiver's, or are interfaces.
use Rattle.std.proofs.Common.{Bool, List, None, Option, Some, [], ap, false, refl, subst, sym, true, ℕ, ◌<◌, ◌∷◌, ◌≡◌}
use Rattle.std.proofs.lemmas.Bool.Decides.{Decides-eqb}
use Rattle.std.proofs.lemmas.Slice.Eq.{bytes_eq-Decides}
use Rattle.std.specs.List.{cons_option, filter_map, list_any}
use Rattle.std.specs.Option.{option_or}
use Rattle.std.specs.Prelude.{bytes_eq, filter, if◌then◌else◌, is_some, nat_eq, not, ◌&&◌, ◌==◌, ◌||◌}
use Rattle.vx_class.specs.Members.{STATIC}
use Rattle.vx_desc.specs.Names.{is_init}
use Rattle.vx_java.specs.Selection.{class_of_receiver, found_or, of_specific, select, select_from, select_special, selected_if_concrete}
use Rattle.vx_java.specs.declared.selected.Selected.{Selected}
use Rattle.vx_java.specs.declared.selected.Selected.TheVariants.{Abstract, Conflict, Method}
use Rattle.vx_link.specs.ClassNames.{is_array, object_class}
use Rattle.vx_link.specs.Hierarchy.{interfaces_below, is_among, superclasses, superinterfaces}
use Rattle.vx_link.specs.Parts.{PRIVATE, class_count, has, is_abstract, is_inherited, is_instance, is_interface, method_at, methods_of}
use Rattle.vx_link.specs.Resolution.{any_method, declaring_interfaces, distinct, first_given, maximally_specific, only, own_method, resolve_in_class, resolve_method, specific_methods}
use Rattle.vx_link.specs.declared.program.LinkedMethod.{LinkedMethod}
use Rattle.vx_link.specs.declared.program.Program.{Program}
use Rattle.vx_sound.proofs.Assigned.{class_assigned, interface_plain, interface_takes, root_takes}
use Rattle.vx_sound.proofs.ClassNumbers.{class_below, plain_class}
use Rattle.vx_sound.proofs.ClassTypes.{plain_type}
use Rattle.vx_sound.proofs.Members.{given_among}
use Rattle.vx_sound.proofs.Values.{class_reference, none_some, some_same}
use Rattle.vx_sound.specs.Sound.{HasHierarchy, HasMembers}
use Rattle.vx_sound.specs.Values.{type_of_class}
use Rattle.vx_types.proofs.Chains.{found_passes}
use Rattle.vx_types.proofs.FitLaws.{fits_itself, fits_through}
use Rattle.vx_types.proofs.Tests.{both_first, both_second, or_first}
use Rattle.vx_types.specs.Fits.{fits}
use Rattle.vx_types.specs.Types.{class_type}
use Rattle.vx_types.specs.declared.types.VerType.{VerType}

-- a method of a descriptor that passes a test, whose class takes the objects of a class
pub record IsMethodFor (p : Program) (c : ℕ) (test : LinkedMethod → Bool) (wanted : List ℕ) (m : ℕ) : Type 0 where
  pub descriptor : (method_at p m).descriptor ≡ wanted
  pub passes : test (method_at p m) ≡ true
  pub takes : fits p (type_of_class p c) (class_type p (method_at p m).class.0) ≡ true

-- what is selected is no method, or one for the class
abbrev pub SelectsFor : Program → (c : ℕ) → (descriptor : List ℕ) → Selected → Type 0
SelectsFor p c descriptor (Method m) = IsMethodFor p c is_instance descriptor m.0
SelectsFor p c descriptor Abstract = Unit {0}
SelectsFor p c descriptor Conflict = Unit {0}

-- a method of this descriptor that passes a test, declared by a class
record IsOwnMethod (p : Program) (c : ℕ) (test : LinkedMethod → Bool) (wanted : List ℕ) (m : ℕ) : Type 0 where
  declared : is_among m (methods_of p c) ≡ true
  descriptor : (method_at p m).descriptor ≡ wanted
  passes : test (method_at p m) ≡ true

own_named : (p : Program) (test : LinkedMethod → Bool) (name descriptor : List ℕ) (c m : ℕ) → own_method p test name descriptor c ≡ Some m → IsOwnMethod p c test descriptor m
own_named p test name descriptor c m e =
    let found = found_passes (λ n. bytes_eq (method_at p n).name name && (bytes_eq (method_at p n).descriptor descriptor && test (method_at p n))) (methods_of p c) m e in
    let rest = both_second (bytes_eq (method_at p m).name name) (bytes_eq (method_at p m).descriptor descriptor && test (method_at p m)) found.1 in
    record {
      declared = found.0;
      descriptor = (bytes_eq-Decides (method_at p m).descriptor descriptor).0 (both_first (bytes_eq (method_at p m).descriptor descriptor) (test (method_at p m)) rest);
      passes = both_second (bytes_eq (method_at p m).descriptor descriptor) (test (method_at p m)) rest;
    }

-- ---- lists

-- it holds of each of a list
abbrev pub Every : (ℕ → Type 0) → List ℕ → Type 0
Every P [] = Unit {0}
Every P (x ∷ xs) = P x × Every P xs

every_listed : (P : ℕ → Type 0) (xs : List ℕ) → ((x : ℕ) → is_among x xs ≡ true → P x) → Every P xs
every_listed P [] each = tt
every_listed P (x ∷ xs) each = (each x (or_first (nat_eq x x) (is_among x xs) ((Decides-eqb x x).1 refl)), every_listed P xs (λ y h. each y (later y h)))
  where
    later : (y : ℕ) → is_among y xs ≡ true → is_among y (x ∷ xs) ≡ true
    later y h = by (nat_eq y x)
      where
        by : (b : Bool) → (b || is_among y xs) ≡ true
        by true = refl
        by false = h

every_filtered : (P : ℕ → Type 0) (test : ℕ → Bool) (xs : List ℕ) → Every P xs → Every P (filter test xs)
every_filtered P test [] h = tt
every_filtered P test (x ∷ xs) h = by (test x) (every_filtered P test xs h.1)
  where
    by : (b : Bool) → Every P (filter test xs) → Every P (if b then x ∷ filter test xs else filter test xs)
    by true rest = (h.0, rest)
    by false rest = rest

every_distinct : (P : ℕ → Type 0) (xs : List ℕ) → Every P xs → Every P (distinct xs)
every_distinct P [] h = tt
every_distinct P (x ∷ xs) h = (h.0, every_filtered P (λ y. not (x == y)) (distinct xs) (every_distinct P xs h.1))

every_mapped : (Q P : ℕ → Type 0) (f : ℕ → Option ℕ) → ((c m : ℕ) → Q c → f c ≡ Some m → P m) → (cs : List ℕ) → Every Q cs → Every P (filter_map f cs)
every_mapped Q P f each [] h = tt
every_mapped Q P f each (c ∷ cs) h = by (f c) refl (every_mapped Q P f each cs h.1)
  where
    by : (o : Option ℕ) → f c ≡ o → Every P (filter_map f cs) → Every P (cons_option o (filter_map f cs))
    by (Some n) e rest = (each c n h.0 e, rest)
    by None e rest = rest

module _ (p : Program) (sound : HasHierarchy p) (members : HasMembers p) where
  -- ---- whose methods

  -- a class above a class, and an interface, take its objects
  above_takes : (c x : ℕ) → c < class_count p → is_among x (superclasses p c) ≡ true → fits p (type_of_class p c) (class_type p x) ≡ true
  above_takes c x less among =
      subst (λ (t : VerType). fits p (type_of_class p c) t ≡ true) (plain_type p x (plain_class p x (sound.within c x less among)))
      (class_assigned p sound c x (or_first (is_among x (superclasses p c)) (is_among x (superinterfaces p c)) among))

  interface_above : (c x : ℕ) → is_interface p x ≡ true → fits p (type_of_class p c) (class_type p x) ≡ true
  interface_above c x interface =
      subst (λ (t : VerType). fits p (type_of_class p c) t ≡ true) (plain_type p x (interface_plain p x interface)) (interface_takes p x interface (type_of_class p c) (class_reference p c))

  own_class : (test : LinkedMethod → Bool) (name descriptor : List ℕ) (c m : ℕ) → own_method p test name descriptor c ≡ Some m → (method_at p m).class.0 ≡ c
  own_class test name descriptor c m e =
      members.methods c m (own_named p test name descriptor c m e).declared

  -- ---- searches

  from_classes : (test : LinkedMethod → Bool) (name descriptor : List ℕ) (c m : ℕ) → c < class_count p → first_given (own_method p test name descriptor) (superclasses p c) ≡ Some m
      → IsMethodFor p c test descriptor m
  from_classes test name descriptor c m less e =
      let q = given_among (own_method p test name descriptor) (superclasses p c) m e in
      let own = own_named p test name descriptor q.class m q.gives in
      record {
        descriptor = own.descriptor;
        passes = own.passes;
        takes =
            subst (λ x. fits p (type_of_class p c) (class_type p x) ≡ true) (sym (own_class test name descriptor q.class m q.gives))
            (above_takes c q.class less q.listed);
      }

  of_interface : (test : LinkedMethod → Bool) (name descriptor : List ℕ) (c i m : ℕ) → is_interface p i ≡ true → own_method p test name descriptor i ≡ Some m → IsMethodFor p c test descriptor m
  of_interface test name descriptor c i m interface e =
      let own = own_named p test name descriptor i m e in
      record {
        descriptor = own.descriptor;
        passes = own.passes;
        takes = subst (λ x. fits p (type_of_class p c) (class_type p x) ≡ true) (sym (own_class test name descriptor i m e)) (interface_above c i interface);
      }

  interfaces_of_all : (c : ℕ) → Every (λ i. is_interface p i ≡ true) (superinterfaces p c)
  interfaces_of_all c = every_listed (λ i. is_interface p i ≡ true) (superinterfaces p c) (λ i among. sound.interfaces c i among)

  specific_for : (name descriptor : List ℕ) (c : ℕ) → Every (IsMethodFor p c is_inherited descriptor) (specific_methods p name descriptor c)
  specific_for name descriptor c =
      let own = own_method p is_inherited name descriptor in
      let declaring = declaring_interfaces p name descriptor c in
      every_filtered (IsMethodFor p c is_inherited descriptor) (λ m. not (is_abstract (method_at p m))) (filter_map own (maximally_specific p declaring))
      (every_mapped (λ i. is_interface p i ≡ true) (IsMethodFor p c is_inherited descriptor) own (λ i m interface e. of_interface is_inherited name descriptor c i m interface e) (maximally_specific p declaring)
      (every_filtered (λ i. is_interface p i ≡ true) (λ i. not (list_any (λ j. is_among i (interfaces_below p j)) declaring)) declaring
      (every_filtered (λ i. is_interface p i ≡ true) (λ i. is_some (own_method p is_inherited name descriptor i)) (distinct (superinterfaces p c))
      (every_distinct (λ i. is_interface p i ≡ true) (superinterfaces p c) (interfaces_of_all c)))))

  from_interfaces : (name descriptor : List ℕ) (c m : ℕ) → first_given (own_method p is_inherited name descriptor) (superinterfaces p c) ≡ Some m → IsMethodFor p c is_inherited descriptor m
  from_interfaces name descriptor c m e =
      let q = given_among (own_method p is_inherited name descriptor) (superinterfaces p c) m e in
      of_interface is_inherited name descriptor c q.class m (sound.interfaces c q.class q.listed) q.gives

  -- whatever test it passes
  any_for : (c : ℕ) (test : LinkedMethod → Bool) (descriptor : List ℕ) (m : ℕ) → IsMethodFor p c test descriptor m → IsMethodFor p c any_method descriptor m
  any_for c test descriptor m q = record { descriptor = q.descriptor; passes = refl; takes = q.takes }

  -- ---- resolution

  only_is : (P : ℕ → Type 0) (xs : List ℕ) (m : ℕ) → Every P xs → only xs ≡ Some m → P m
  only_is P [] m each e = none_some e
  only_is P (x ∷ []) m each e = subst P (some_same e) each.0
  only_is P (x ∷ y ∷ xs) m each e = none_some e

  either_for : (one other : Option ℕ) (m : ℕ) (P : ℕ → Type 0) → (one ≡ Some m → P m) → (other ≡ Some m → P m) → option_or one other ≡ Some m → P m
  either_for None other m P first second e = second e
  either_for (Some n) other m P first second e = first e

  resolved_in : (c : ℕ) (name descriptor : List ℕ) (m : ℕ) → c < class_count p → resolve_in_class p c name descriptor ≡ Some m → IsMethodFor p c any_method descriptor m
  resolved_in c name descriptor m less e = by (is_init name) e
    where
      Good : ℕ → Type 0
      Good n = IsMethodFor p c any_method descriptor n

      own_for : own_method p any_method name descriptor c ≡ Some m → IsMethodFor p c any_method descriptor m
      own_for k =
          let own = own_named p any_method name descriptor c m k in
          record {
            descriptor = own.descriptor;
            passes = own.passes;
            takes =
                subst (λ x. fits p (type_of_class p c) (class_type p x) ≡ true) (sym (own_class any_method name descriptor c m k))
                (subst (λ (t : VerType). fits p (type_of_class p c) t ≡ true) (plain_type p c (plain_class p c less)) (fits_itself p sound.ranked (type_of_class p c)));
          }

      by : (b : Bool)
          → (if b then own_method p any_method name descriptor c
          else option_or (first_given (own_method p any_method name descriptor) (superclasses p c))
          (option_or (only (specific_methods p name descriptor c)) (first_given (own_method p is_inherited name descriptor) (superinterfaces p c)))) ≡ Some m
          → IsMethodFor p c any_method descriptor m
      by true k = own_for k
      by false k =
          either_for (first_given (own_method p any_method name descriptor) (superclasses p c))
          (option_or (only (specific_methods p name descriptor c)) (first_given (own_method p is_inherited name descriptor) (superinterfaces p c))) m Good
          (λ l. from_classes any_method name descriptor c m less l)
          (either_for (only (specific_methods p name descriptor c)) (first_given (own_method p is_inherited name descriptor) (superinterfaces p c)) m Good
          (λ l. any_for c is_inherited descriptor m (only_is (IsMethodFor p c is_inherited descriptor) (specific_methods p name descriptor c) m (specific_for name descriptor c) l))
          (λ l. any_for c is_inherited descriptor m (from_interfaces name descriptor c m l))) k

  -- an array class has the methods of Object
  pub resolved_for : (named : ℕ) (name descriptor : List ℕ) (m : ℕ) → resolve_method p named name descriptor ≡ Some m → IsMethodFor p named any_method descriptor m
  resolved_for named name descriptor m e = by (is_array p named) refl e
    where
      of_base : (b : Bool) → is_array p named ≡ b → resolve_in_class p (if b then object_class p else named) name descriptor ≡ Some m → IsMethodFor p named any_method descriptor m
      of_base true array k =
          let q = resolved_in (object_class p) name descriptor m sound.root k in
          record {
            descriptor = q.descriptor;
            passes = q.passes;
            takes = fits_through p sound.ranked (type_of_class p named) (type_of_class p (object_class p)) (class_type p (method_at p m).class.0)
                (root_takes p sound (type_of_class p named) (class_reference p named)) q.takes;
          }
      of_base false plain k = resolved_in named name descriptor m (class_below p named plain) k

      unless : (b c : Bool) → is_array p named ≡ b → (if b && c then None else resolve_in_class p (if b then object_class p else named) name descriptor) ≡ Some m
          → resolve_in_class p (if b then object_class p else named) name descriptor ≡ Some m
      unless true true a k = none_some k
      unless true false a k = k
      unless false c a k = k

      by : (b : Bool) → is_array p named ≡ b → (if b && is_init name then None else resolve_in_class p (if b then object_class p else named) name descriptor) ≡ Some m
          → IsMethodFor p named any_method descriptor m
      by b a k = of_base b a (unless b (is_init name) a k)

  -- ---- selection

  inherited_instance : (x : LinkedMethod) → is_inherited x ≡ true → is_instance x ≡ true
  inherited_instance x h = both_second (not (has PRIVATE x.flags)) (not (has STATIC x.flags)) h

  instance_for : (c : ℕ) (descriptor : List ℕ) (m : ℕ) → IsMethodFor p c is_inherited descriptor m → IsMethodFor p c is_instance descriptor m
  instance_for c descriptor m q = record { descriptor = q.descriptor; passes = inherited_instance (method_at p m) q.passes; takes = q.takes }

  pub concrete_for : (c : ℕ) (descriptor : List ℕ) (m : ℕ) → IsMethodFor p c is_instance descriptor m → SelectsFor p c descriptor (selected_if_concrete p m)
  concrete_for c descriptor m q = by (is_abstract (method_at p m))
    where
      by : (b : Bool) → SelectsFor p c descriptor (if b then Abstract else Method (record { 0 = m }))
      by true = tt
      by false = q

  specific_selected : (c : ℕ) (descriptor : List ℕ) (ms : List ℕ) → Every (IsMethodFor p c is_inherited descriptor) ms → SelectsFor p c descriptor (of_specific ms)
  specific_selected c descriptor [] each = tt
  specific_selected c descriptor (m ∷ []) each = instance_for c descriptor m each.0
  specific_selected c descriptor (m ∷ n ∷ ms) each = tt

  found_selected : (c : ℕ) (descriptor : List ℕ) (o : Option ℕ) (ms : List ℕ) → ((m : ℕ) → o ≡ Some m → IsMethodFor p c is_instance descriptor m)
      → Every (IsMethodFor p c is_inherited descriptor) ms → SelectsFor p c descriptor (found_or p o ms)
  found_selected c descriptor None ms each specific = specific_selected c descriptor ms specific
  found_selected c descriptor (Some m) ms each specific = concrete_for c descriptor m (each m refl)

  pub from_for : (c : ℕ) (x : LinkedMethod) → c < class_count p → SelectsFor p c x.descriptor (select_from p c x)
  from_for c x less =
      found_selected c x.descriptor (first_given (own_method p is_inherited x.name x.descriptor) (superclasses p c)) (specific_methods p x.name x.descriptor c)
      (λ m e. instance_for c x.descriptor m (from_classes is_inherited x.name x.descriptor c m less e)) (specific_for x.name x.descriptor c)

  -- what is selected for a class is for each class whose objects it takes
  pub selects_below : (b c : ℕ) (descriptor : List ℕ) (s : Selected) → fits p (type_of_class p c) (type_of_class p b) ≡ true → SelectsFor p b descriptor s → SelectsFor p c descriptor s
  selects_below b c descriptor (Method m) fit q = record {
    descriptor = q.descriptor;
    passes = q.passes;
    takes = fits_through p sound.ranked (type_of_class p c) (type_of_class p b) (class_type p (method_at p m.0).class.0) fit q.takes;
  }
  selects_below b c descriptor Abstract fit q = tt
  selects_below b c descriptor Conflict fit q = tt

  -- a method that is resolved, as one of an object of a class that may stand where the class is named
  pub resolved_instance : (named c m : ℕ) (descriptor : List ℕ) → IsMethodFor p named any_method descriptor m → has STATIC (method_at p m).flags ≡ false
      → fits p (type_of_class p c) (type_of_class p named) ≡ true → IsMethodFor p c is_instance descriptor m
  resolved_instance named c m descriptor q instance fit = record {
    descriptor = q.descriptor;
    passes = ap not instance;
    takes = fits_through p sound.ranked (type_of_class p c) (type_of_class p named) (class_type p (method_at p m).class.0) fit q.takes;
  }

  -- of invokevirtual and invokeinterface
  pub select_for : (named c m : ℕ) (descriptor : List ℕ) → IsMethodFor p named any_method descriptor m → has STATIC (method_at p m).flags ≡ false
      → fits p (type_of_class p c) (type_of_class p named) ≡ true → SelectsFor p c descriptor (select p c m)
  select_for named c m descriptor q instance fit = by (has PRIVATE (method_at p m).flags)
    where
      of_receiver : (b : Bool) → is_array p c ≡ b → SelectsFor p c (method_at p m).descriptor (select_from p (if b then object_class p else c) (method_at p m))
      of_receiver true array =
          selects_below (object_class p) c (method_at p m).descriptor (select_from p (object_class p) (method_at p m)) (root_takes p sound (type_of_class p c) (class_reference p c))
          (from_for (object_class p) (method_at p m) sound.root)
      of_receiver false plain = from_for c (method_at p m) (class_below p c plain)

      by : (b : Bool) → SelectsFor p c descriptor (if b then selected_if_concrete p m else select_from p (class_of_receiver p c) (method_at p m))
      by true = concrete_for c descriptor m (resolved_instance named c m descriptor q instance fit)
      by false =
          subst (λ (d : List ℕ). SelectsFor p c d (select_from p (class_of_receiver p c) (method_at p m))) q.descriptor (of_receiver (is_array p c) refl)

  -- of invokespecial, where a search begins
  pub special_for : (from m : ℕ) (descriptor : List ℕ) → from < class_count p → (method_at p m).descriptor ≡ descriptor → SelectsFor p from descriptor (select_special p from m)
  special_for from m descriptor less same =
      subst (λ (d : List ℕ). SelectsFor p from d (select_special p from m)) same (by (is_interface p from))
    where
      by : (b : Bool) → SelectsFor p from (method_at p m).descriptor (
          if b then found_or p (first_given (own_method p is_instance (method_at p m).name (method_at p m).descriptor) (superclasses p from)) (specific_methods p (method_at p m).name (method_at p m).descriptor from)
          else select_from p from (method_at p m)
          )
      by true =
          found_selected from (method_at p m).descriptor (first_given (own_method p is_instance (method_at p m).name (method_at p m).descriptor) (superclasses p from))
          (specific_methods p (method_at p m).name (method_at p m).descriptor from)
          (λ n e. from_classes is_instance (method_at p m).name (method_at p m).descriptor from n less e) (specific_for (method_at p m).name (method_at p m).descriptor from)
      by false = from_for from (method_at p m) less
