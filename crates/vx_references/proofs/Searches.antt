-- What a search for a method finds has the name's descriptor, and passes the search's test.
use Rattle.std.proofs.Common.{◌≡◌, ℕ, Bool, true, false, List, [], ◌∷◌, Option, Some, None, refl, sym, ◌∙◌, ap, subst}
use Rattle.std.proofs.lemmas.Slice.Eq.{bytes_eq-Decides}
use Rattle.std.specs.List.{cons_option, filter_map}
use Rattle.std.specs.Option.{option_or}
use Rattle.std.specs.Prelude.{◌&&◌, bytes_eq, filter, find, if◌then◌else◌, not}
use Rattle.vx_desc.specs.Names.{is_init}
use Rattle.vx_link.specs.ClassNames.{is_array, object_class}
use Rattle.vx_link.specs.Hierarchy.{superclasses, superinterfaces}
use Rattle.vx_link.specs.Parts.{is_abstract, is_inherited, method_at, methods_of}
use Rattle.vx_link.specs.Resolution.{any_method, declaring_interfaces, first_given, maximally_specific, only, own_method, resolve_in_class, resolve_method, specific_methods}
use Rattle.vx_link.specs.declared.program.LinkedMethod.{LinkedMethod}
use Rattle.vx_link.specs.declared.program.Program.{Program}

-- a method of this descriptor that passes a test
pub record IsNamed (p : Program) (test : LinkedMethod → Bool) (wanted : List ℕ) (m : ℕ) : Type 0 where
  pub descriptor : (method_at p m).descriptor ≡ wanted
  pub passes : test (method_at p m) ≡ true

-- ---- in one class

first_holds : (a b : Bool) → (a && b) ≡ true → a ≡ true
first_holds true b h = refl
first_holds false b h = cc

second_holds : (a b : Bool) → (a && b) ≡ true → b ≡ true
second_holds true b h = h
second_holds false b h = cc

found_here : (test : ℕ → Bool) (x m : ℕ) (rest : Option ℕ) (b : Bool) → test x ≡ b → (rest ≡ Some m → test m ≡ true) → (if b then Some x else rest) ≡ Some m → test m ≡ true
found_here test x m rest true t f h =
    let same : x ≡ m = cc in
    ap test (sym same) ∙ t
found_here test x m rest false t f h = f h

found_passes : (test : ℕ → Bool) (xs : List ℕ) (m : ℕ) → find test xs ≡ Some m → test m ≡ true
found_passes test [] m h = cc
found_passes test (x ∷ xs) m h = found_here test x m (find test xs) (test x) refl (found_passes test xs m) h

pub own_named : (p : Program) (test : LinkedMethod → Bool) (name descriptor : List ℕ) (c m : ℕ) → own_method p test name descriptor c ≡ Some m → IsNamed p test descriptor m
own_named p test name descriptor c m h =
    let all = found_passes (λ n. bytes_eq (method_at p n).name name && (bytes_eq (method_at p n).descriptor descriptor && test (method_at p n))) (methods_of p c) m h in
    let rest = second_holds (bytes_eq (method_at p m).name name) (bytes_eq (method_at p m).descriptor descriptor && test (method_at p m)) all in
    record {
      descriptor = (bytes_eq-Decides (method_at p m).descriptor descriptor).0 (first_holds (bytes_eq (method_at p m).descriptor descriptor) (test (method_at p m)) rest);
      passes = second_holds (bytes_eq (method_at p m).descriptor descriptor) (test (method_at p m)) rest;
    }

-- ---- in several

pub given_by : (f : ℕ → Option ℕ) (P : ℕ → Type 0) → ((c m : ℕ) → f c ≡ Some m → P m) → (cs : List ℕ) (m : ℕ) → first_given f cs ≡ Some m → P m
given_by f P each [] m h = cc
given_by f P each (c ∷ cs) m h = by_own (f c) (each c) (first_given f cs) (given_by f P each cs m) h
  where
    by_own : (o : Option ℕ) → ((n : ℕ) → o ≡ Some n → P n) → (rest : Option ℕ) → (rest ≡ Some m → P m) → elim o [ Some n ↦ Some n | None ↦ rest ] ≡ Some m → P m
    by_own (Some n) here rest later h = here m h
    by_own None here rest later h = later h

-- it holds of each of a list
abbrev pub Every : (ℕ → Type 0) → List ℕ → Type 0
Every P [] = Unit {0}
Every P (x ∷ xs) = P x × Every P xs

every_kept : (P : ℕ → Type 0) (test : ℕ → Bool) (xs : List ℕ) → Every P xs → Every P (filter test xs)
every_kept P test [] h = tt
every_kept P test (x ∷ xs) h = by_test (test x) (every_kept P test xs h.1)
  where
    by_test : (b : Bool) → Every P (filter test xs) → Every P (if b then x ∷ filter test xs else filter test xs)
    by_test true rest = (h.0, rest)
    by_test false rest = rest

every_given : (f : ℕ → Option ℕ) (P : ℕ → Type 0) → ((c m : ℕ) → f c ≡ Some m → P m) → (cs : List ℕ) → Every P (filter_map f cs)
every_given f P each [] = tt
every_given f P each (c ∷ cs) = by_own (f c) (each c) (every_given f P each cs)
  where
    by_own : (o : Option ℕ) → ((n : ℕ) → o ≡ Some n → P n) → Every P (filter_map f cs) → Every P (cons_option o (filter_map f cs))
    by_own (Some n) here rest = (here n refl, rest)
    by_own None here rest = rest

pub specific_named : (p : Program) (name descriptor : List ℕ) (c : ℕ) → Every (IsNamed p is_inherited descriptor) (specific_methods p name descriptor c)
specific_named p name descriptor c =
    let own = own_method p is_inherited name descriptor in
    let interfaces = maximally_specific p (declaring_interfaces p name descriptor c) in
    every_kept (IsNamed p is_inherited descriptor) (λ m. not (is_abstract (method_at p m))) (filter_map own interfaces) (every_given own (IsNamed p is_inherited descriptor) (λ d m h. own_named p is_inherited name descriptor d m h) interfaces)

-- ---- resolution

only_of : (P : ℕ → Type 0) (xs : List ℕ) (m : ℕ) → Every P xs → only xs ≡ Some m → P m
only_of P [] m e h = cc
only_of P (x ∷ []) m e h =
    let same : x ≡ m = cc in
    subst P same e.0
only_of P (x ∷ y ∷ xs) m e h = cc

either_is : {A : Type 0} (a b : Option A) (m : A) (P : A → Type 0) → (a ≡ Some m → P m) → (b ≡ Some m → P m) → option_or a b ≡ Some m → P m
either_is None b m P f g h = g h
either_is (Some n) b m P f g h = f h

abbrev HasDescriptor : Program → (descriptor : List ℕ) → ℕ → Type 0
HasDescriptor p descriptor m = (method_at p m).descriptor ≡ descriptor

class_named : (p : Program) (c : ℕ) (name descriptor : List ℕ) (m : ℕ) → resolve_in_class p c name descriptor ≡ Some m → HasDescriptor p descriptor m
class_named p c name descriptor m h = by_init (is_init name) h
  where
    any : (d n : ℕ) → own_method p any_method name descriptor d ≡ Some n → HasDescriptor p descriptor n
    any d n e = (own_named p any_method name descriptor d n e).descriptor

    inherited : (d n : ℕ) → own_method p is_inherited name descriptor d ≡ Some n → HasDescriptor p descriptor n
    inherited d n e = (own_named p is_inherited name descriptor d n e).descriptor

    above : option_or (only (specific_methods p name descriptor c)) (first_given (own_method p is_inherited name descriptor) (superinterfaces p c)) ≡ Some m → HasDescriptor p descriptor m
    above = either_is (only (specific_methods p name descriptor c)) (first_given (own_method p is_inherited name descriptor) (superinterfaces p c)) m (HasDescriptor p descriptor) (λ e. (only_of (IsNamed p is_inherited descriptor) (specific_methods p name descriptor c) m (specific_named p name descriptor c) e).descriptor) (given_by (own_method p is_inherited name descriptor) (HasDescriptor p descriptor) inherited (superinterfaces p c) m)

    by_init : (b : Bool) → (if b then own_method p any_method name descriptor c else option_or (first_given (own_method p any_method name descriptor) (superclasses p c)) (option_or (only (specific_methods p name descriptor c)) (first_given (own_method p is_inherited name descriptor) (superinterfaces p c)))) ≡ Some m → HasDescriptor p descriptor m
    by_init true e = any c m e
    by_init false e = either_is (first_given (own_method p any_method name descriptor) (superclasses p c)) (option_or (only (specific_methods p name descriptor c)) (first_given (own_method p is_inherited name descriptor) (superinterfaces p c))) m (HasDescriptor p descriptor) (given_by (own_method p any_method name descriptor) (HasDescriptor p descriptor) any (superclasses p c) m) above e

-- a method that a name is resolved to has the name's descriptor
pub resolved_named : (p : Program) (c : ℕ) (name descriptor : List ℕ) (m : ℕ) → resolve_method p c name descriptor ≡ Some m → (method_at p m).descriptor ≡ descriptor
resolved_named p c name descriptor m h = by_array (is_array p c && is_init name) h
  where
    by_array : (b : Bool) → (if b then None else resolve_in_class p (if is_array p c then object_class p else c) name descriptor) ≡ Some m → (method_at p m).descriptor ≡ descriptor
    by_array true e = cc
    by_array false e = class_named p (if is_array p c then object_class p else c) name descriptor m e
