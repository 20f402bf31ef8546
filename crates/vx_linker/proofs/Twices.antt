-- Names that stand twice, as the tables find them.
use Rattle.std.proofs.Common.{◌≡◌, ℕ, List, [], ◌∷◌, ◌++◌, refl, ap, sym, ◌∙◌, Bool, true, false, Option, Some, None, ◌||◌, bytes_eq, cond, is_some, subst}
use Rattle.std.proofs.lemmas.List.Folds.{list_any-append}
use Rattle.vx_class.specs.declared.class_file.ClassFile.{ClassFile}
use Rattle.vx_names.specs.Names.{has_name}
use Rattle.vx_link.specs.Faults.{name_of, file_named, twice}
use Rattle.vx_linker.specs.Answers.{IsFault}
use Rattle.vx_link.specs.Tables.{names_of, twice_among}
use Rattle.vx_link.specs.declared.fault.LinkFault.{LinkFault}
use Rattle.vx_link.specs.declared.fault.LinkFault.TheVariants.{Twice}

-- a class file of a name is there exactly where the name is
pub found-names : (classes : List ClassFile) (name : List ℕ) → is_some (file_named classes name) ≡ has_name (names_of classes) name
found-names [] name = refl
found-names (c ∷ cs) name = found-at (bytes_eq (name_of c) name) (file_named cs name) ∙ ap (λ b. bytes_eq (name_of c) name || b) (found-names cs name)
  where
    found-at : (b : Bool) (rest : Option ClassFile) → is_some (cond b (Some c) rest) ≡ (b || is_some rest)
    found-at true rest = refl
    found-at false rest = refl

one-more-at : (here there found core folder : Bool) → found ≡ (core || folder) → there ≡ (folder || here) → (here || found) ≡ (core || there)
one-more-at true there found true folder e f = refl
one-more-at true there found false folder e f = sym (f ∙ or-true folder)
  where
    or-true : (b : Bool) → (b || true) ≡ true
    or-true true = refl
    or-true false = refl
one-more-at false there found core folder e f = e ∙ ap (λ b. core || b) (sym (f ∙ or-false folder))
  where
    or-false : (b : Bool) → (b || false) ≡ b
    or-false true = refl
    or-false false = refl

is_some-cond : {A : Type 0} (b : Bool) (x : A) (rest : Option A) → is_some (cond b (Some x) rest) ≡ (b || is_some rest)
is_some-cond true x rest = refl
is_some-cond false x rest = refl

or-false : (b : Bool) → (b || false) ≡ b
or-false true = refl
or-false false = refl

-- the files before a class are those of the core and of the folder before it
one-more : (before : List ClassFile) (core folder : List (List ℕ)) → ((name : List ℕ) → is_some (file_named before name) ≡ (has_name core name || has_name folder name))
    → (c : ClassFile) (name : List ℕ) → is_some (file_named (c ∷ before) name) ≡ (has_name core name || has_name (folder ++ name_of c ∷ []) name)
one-more before core folder h c name =
    is_some-cond (bytes_eq (name_of c) name) c (file_named before name)
    ∙ one-more-at (bytes_eq (name_of c) name) (has_name (folder ++ name_of c ∷ []) name) (is_some (file_named before name)) (has_name core name) (has_name folder name) (h name)
    (list_any-append (λ n. bytes_eq n name) folder (name_of c ∷ []) ∙ ap (λ b. has_name folder name || b) (or-false (bytes_eq (name_of c) name)))

abbrev first_or : Bool → LinkFault → Option LinkFault → Option LinkFault
first_or test f rest = elim test [ true ↦ Some f | false ↦ rest ]

twice-at : (test b : Bool) → test ≡ b → (f : LinkFault) (r s : Option LinkFault) → r ≡ s → first_or test f r ≡ first_or b f s
twice-at test b e f r s h = ap (λ t. first_or t f r) e ∙ ap (first_or b f) h

twice-same : (before : List ClassFile) (core folder : List (List ℕ)) → ((name : List ℕ) → is_some (file_named before name) ≡ (has_name core name || has_name folder name)) → (rest : List ClassFile) → twice before rest ≡ twice_among core folder rest
twice-same before core folder h [] = refl
twice-same before core folder h (c ∷ rest) =
    twice-at (is_some (file_named before (name_of c))) (has_name core (name_of c) || has_name folder (name_of c)) (h (name_of c)) (Twice (name_of c))
    (twice (c ∷ before) rest) (twice_among core (folder ++ name_of c ∷ []) rest)
    (twice-same (c ∷ before) core (folder ++ name_of c ∷ []) (one-more before core folder h c) rest)

-- the first class that is there twice
pub twice-tables : (core classes : List ClassFile) → twice core classes ≡ twice_among (names_of core) [] classes
twice-tables core classes = twice-same core (names_of core) [] (λ name. found-names core name ∙ sym (or-false (has_name (names_of core) name))) classes

pub twice_fault : (core classes : List ClassFile) (names : List (List ℕ)) (f : LinkFault) → names ≡ names_of core → IsFault f (twice_among names [] classes) → IsFault f (twice core classes)
twice_fault core classes names f e h =
    let P : Option LinkFault → Type 0 = IsFault f in subst P (ap (λ ns. twice_among ns [] classes) e ∙ sym (twice-tables core classes)) h

pub twice_none : (core classes : List ClassFile) (names : List (List ℕ)) → names ≡ names_of core → twice_among names [] classes ≡ None → twice core classes ≡ None
twice_none core classes names e h = twice-tables core classes ∙ ap (λ ns. twice_among ns [] classes) (sym e) ∙ h
