-- Each method of a linked program stands in a class file, or initialises a class whose file has no method that does.
use Rattle.std.proofs.Common.{Bool, List, None, Option, Some, [], ap, arith, false, if◌then◌else◌, inl, inr, is_some, length, refl, slice_get, subst, suc, sym, true, unwrap_or, zero, ℕ, ◌++◌, ◌+◌, ◌∙◌, ◌∷◌, ◌≡◌, ◌⊎◌}
use Rattle.std.specs.List.{list_all}
use Rattle.vx_class.specs.declared.class_file.ClassFile.{ClassFile}
use Rattle.vx_class.specs.declared.class_file.Method.{Method}
use Rattle.vx_pool.specs.Holding.{and_true}
use Rattle.vx_link.specs.Linked.{empty_clinit, linked_class, linked_classes, linked_method, linked_methods, method_count, methods_from, methods_of_class, own_clinit}
use Rattle.vx_link.specs.Parts.{no_class}
use Rattle.vx_link.specs.declared.program.LinkedClass.{LinkedClass}
use Rattle.vx_link.specs.declared.program.LinkedMethod.{LinkedMethod}
use Rattle.vx_list.specs.Places.{item_or}
use Rattle.vx_pool.specs.declared.pool.Pool.{Pool}

-- ---- lists

-- an item of two lists is one of the first or of the second
pub in_either : {A : Type 0} (xs ys : List A) (k : ℕ) (x : A) → slice_get (xs ++ ys) k ≡ Some x → (slice_get xs k ≡ Some x) ⊎ ((j : ℕ) × (slice_get ys j ≡ Some x))
in_either [] ys k x there = inr (k, there)
in_either (y ∷ xs) ys zero x there = inl there
in_either (y ∷ xs) ys (suc k) x there = in_either xs ys k x there

-- what stands at a place, if something does
pub item_cases : {A : Type 0} (xs : List A) (k : ℕ) (d : A) → (item_or xs k d ≡ d) ⊎ ((x : A) × (slice_get xs k ≡ Some x) × (item_or xs k d ≡ x))
item_cases {A} xs k d = by (slice_get xs k) refl
  where
    by : (o : Option A) → slice_get xs k ≡ o → (unwrap_or (slice_get xs k) d ≡ d) ⊎ ((x : A) × (slice_get xs k ≡ Some x) × (unwrap_or (slice_get xs k) d ≡ x))
    by None e = inl (ap (λ (o : Option A). unwrap_or o d) e)
    by (Some x) e = inr (x, e, ap (λ (o : Option A). unwrap_or o d) e)

-- what holds of all items holds of one at a place
pub at_place : {A : Type 0} (test : A → Bool) (xs : List A) (k : ℕ) (x : A) → list_all test xs ≡ true → slice_get xs k ≡ Some x → test x ≡ true
at_place test [] k x all there = absurd cc
at_place test (y ∷ xs) zero x all there = let same : y ≡ x = cc in subst (λ z. test z ≡ true) same (and_true (test y) (list_all test xs) all).0
at_place test (y ∷ xs) (suc k) x all there = at_place test xs k x (and_true (test y) (list_all test xs) all).1 there

-- ---- methods

-- a method of a class file, with its number if it is native
pub record IsWritten (class : ℕ) (pool : Pool) (methods : List Method) (numbers : List ℕ) (m : LinkedMethod) : Type 0 where
  pub file : Method
  pub place : ℕ
  pub there : slice_get methods place ≡ Some file
  pub is : m ≡ linked_method class pool file (item_or numbers place 0)

abbrev pub IsOfClass : ℕ → ClassFile → List ℕ → LinkedMethod → Type 0
IsOfClass class c numbers m = IsWritten class c.pool c.methods numbers m ⊎ (m ≡ empty_clinit class)

written : (class : ℕ) (pool : Pool) (methods : List Method) (numbers : List ℕ) (k : ℕ) (m : LinkedMethod) → slice_get (linked_methods class pool methods numbers) k ≡ Some m
    → IsWritten class pool methods numbers m
written class pool [] numbers k m there = absurd cc
written class pool (f ∷ methods) [] zero m there = record { file = f; place = 0; there = refl; is = cc }
written class pool (f ∷ methods) (n ∷ numbers) zero m there = record { file = f; place = 0; there = refl; is = cc }
written class pool (f ∷ methods) [] (suc k) m there =
    let q = written class pool methods [] k m there in
    record { file = q.file; place = suc q.place; there = q.there; is = q.is }
written class pool (f ∷ methods) (n ∷ numbers) (suc k) m there =
    let q = written class pool methods numbers k m there in
    record { file = q.file; place = suc q.place; there = q.there; is = q.is }

of_class : (class : ℕ) (c : ClassFile) (numbers : List ℕ) (k : ℕ) (m : LinkedMethod) → slice_get (methods_of_class class c numbers) k ≡ Some m → IsOfClass class c numbers m
of_class class c numbers k m there =
    elim (in_either (linked_methods class c.pool c.methods numbers) (if is_some (own_clinit c) then [] else empty_clinit class ∷ []) k m there) [
      | inl front ↦ inl (written class c.pool c.methods numbers k m front)
      | inr back ↦ inr (by (is_some (own_clinit c)) back.0 back.1)
    ]
  where
    by : (own : Bool) (j : ℕ) → slice_get (if own then [] else empty_clinit class ∷ []) j ≡ Some m → m ≡ empty_clinit class
    by true j there = absurd cc
    by false zero there = cc
    by false (suc j) there = absurd cc

-- a method of one of some classes, which are numbered from one on
pub record IsFrom (class : ℕ) (files : List ClassFile) (rows : List (List ℕ)) (m : LinkedMethod) : Type 0 where
  pub place : ℕ
  pub file : ClassFile
  pub there : slice_get files place ≡ Some file
  pub method : IsOfClass (class + place) file (item_or rows place []) m

-- behind a class
later_from : (class : ℕ) (c : ClassFile) (files : List ClassFile) (given rows : List (List ℕ)) (m : LinkedMethod) → ((place : ℕ) → item_or given (suc place) [] ≡ item_or rows place [])
    → IsFrom (suc class) files rows m → IsFrom class (c ∷ files) given m
later_from class c files given rows m same q =
    let number : suc class + q.place ≡ class + suc q.place = omega arith in
    record {
      place = suc q.place;
      file = q.file;
      there = q.there;
      method = subst (λ (ns : List ℕ). IsOfClass (class + suc q.place) q.file ns m) (sym (same q.place)) (subst (λ n. IsOfClass n q.file (item_or rows q.place []) m) number q.method);
    }

here_from : (class : ℕ) (c : ClassFile) (files : List ClassFile) (given : List (List ℕ)) (m : LinkedMethod) → IsOfClass class c (item_or given 0 []) m → IsFrom class (c ∷ files) given m
here_from class c files given m is =
    let number : class ≡ class + 0 = omega arith in
    record { place = 0; file = c; there = refl; method = subst (λ n. IsOfClass n c (item_or given 0 []) m) number is }

pub method_from : (class : ℕ) (files : List ClassFile) (rows : List (List ℕ)) (k : ℕ) (m : LinkedMethod) → slice_get (methods_from class files rows) k ≡ Some m → IsFrom class files rows m
method_from class [] rows k m there = absurd cc
method_from class (c ∷ files) [] k m there =
    elim (in_either (methods_of_class class c []) (methods_from (suc class) files []) k m there) [
      | inl front ↦ here_from class c files [] m (of_class class c [] k m front)
      | inr back ↦ later_from class c files [] [] m (λ place. refl) (method_from (suc class) files [] back.0 m back.1)
    ]
method_from class (c ∷ files) (numbers ∷ rows) k m there =
    elim (in_either (methods_of_class class c numbers) (methods_from (suc class) files rows) k m there) [
      | inl front ↦ here_from class c files (numbers ∷ rows) m (of_class class c numbers k m front)
      | inr back ↦ later_from class c files (numbers ∷ rows) rows m (λ place. refl) (method_from (suc class) files rows back.0 m back.1)
    ]

-- ---- classes

pub class_from : (names : List (List ℕ)) (files : List ClassFile) (methods fields k : ℕ) (c : ClassFile) → slice_get files k ≡ Some c
    → (m : ℕ) × (f : ℕ) × (slice_get (linked_classes names files methods fields) k ≡ Some (linked_class names c m f))
class_from names [] methods fields k c there = absurd cc
class_from names (d ∷ files) methods fields zero c there = let same : d ≡ c = cc in (methods, fields, ap (λ (x : ClassFile). Some (linked_class names x methods fields)) same)
class_from names (d ∷ files) methods fields (suc k) c there = class_from names files (methods + method_count d) (fields + length d.fields) k c there

-- its pool
pub pool_from : (names : List (List ℕ)) (files : List ClassFile) (methods fields k : ℕ) (c : ClassFile) → slice_get files k ≡ Some c → (item_or (linked_classes names files methods fields) k no_class).pool ≡ c.pool
pool_from names files methods fields k c there =
    let q = class_from names files methods fields k c there in
    ap (λ (o : Option LinkedClass). (unwrap_or o no_class).pool) q.2

-- ---- files behind others

pub file_front : (xs ys : List ClassFile) (k : ℕ) (c : ClassFile) → slice_get xs k ≡ Some c → slice_get (xs ++ ys) k ≡ Some c
file_front [] ys k c there = absurd cc
file_front (x ∷ xs) ys zero c there = there
file_front (x ∷ xs) ys (suc k) c there = file_front xs ys k c there

pub file_behind : (xs ys : List ClassFile) (k : ℕ) (c : ClassFile) → slice_get ys k ≡ Some c → slice_get (xs ++ ys) (length xs + k) ≡ Some c
file_behind [] ys k c there = let same : 0 + k ≡ k = omega arith in ap (slice_get ys) same ∙ there
file_behind (x ∷ xs) ys k c there = let same : suc (length xs) + k ≡ suc (length xs + k) = omega arith in ap (slice_get (x ∷ (xs ++ ys))) same ∙ file_behind xs ys k c there
