-- The program of class files without a fault: its classes are those of the files, and none is above itself.
use Rattle.std.proofs.Common.{All, Bool, List, None, Ok, Option, Some, [], ap, arith, bytes_eq, cond, false, inl, inr, is_some, length, option_map, option_to_list, refl, slice_get, subst, suc, sym, true, zero, ℕ, ◌++◌, ◌+◌, ◌<◌, ◌≤◌, ◌∙◌, ◌∷◌, ◌≡◌, ◌||◌}
use Rattle.std.proofs.lemmas.Bool.{ltb-true}
use Rattle.std.proofs.lemmas.Bool.Decides.{Decides-eqb}
use Rattle.std.proofs.lemmas.List.Folds.{list_any-append}
use Rattle.std.proofs.lemmas.Slice.Eq.{bytes_eq-Decides}
use Rattle.std.specs.Cmp.Derive.{both_true}
use Rattle.std.specs.List.{find, flat_map, list_all, list_any}
use Rattle.std.specs.Option.{option_and_then, option_or}
use Rattle.std.specs.Prelude.{nat_eq, ◌==◌}
use Rattle.vx_class.specs.File.{Holds}
use Rattle.vx_class.specs.declared.class_file.ClassFile.{ClassFile}
use Rattle.vx_pool.specs.Holding.{and_true}
use Rattle.vx_pool.specs.Lookups.{class, entry_of}
use Rattle.vx_jump_targets.proofs.Lists.{All-head, All-tail}
use Rattle.vx_jump_targets.proofs.WellPlaced.{made_is}
use Rattle.vx_link.specs.CoreFiles.{core_files, native_numbers}
use Rattle.vx_link.specs.Faults.{ancestors, bad_super, cycle, file_named, interface_names, is_interface_file, is_own_ancestor, link_fault, name_of, parents_of, passes, super_fits, super_is_final, super_name, twice}
use Rattle.vx_link.specs.Hierarchy.{chain_within, is_among, superclass_of}
use Rattle.vx_link.specs.Linked.{linked_program, program_of, unless_fault}
use Rattle.vx_link.specs.Names.{class_name}
use Rattle.vx_link.specs.Parts.{class_count}
use Rattle.vx_link.specs.declared.fault.LinkFault.{LinkFault}
use Rattle.vx_link.specs.declared.fault.LinkFault.TheVariants.{FinalSuper, NoSuper}
use Rattle.vx_link.specs.declared.program.Program.{Program}
use Rattle.vx_model.specs.declared.model.OptionField.{OptionField}
use Rattle.vx_names.proofs.Keys.{find-position, position-append}
use Rattle.vx_sound_classes.proofs.CoreFacts.{IsCore, fits_in, is_before, is_below_object, is_core, object_name, super_before, supers_before}
use Rattle.vx_sound_classes.proofs.Files.{either_at, found, in_all, no_place, not_in_folder, own_place, place_in, some_same}
use Rattle.vx_sound_classes.proofs.Linked.{IsOf, IsUp, count_is, no_superclass, up}
use Rattle.vx_sound_classes.proofs.Ranks.{AreApart, no_chain}
use Rattle.vx_types.proofs.Tests.{either, or_first, or_second}

-- ---- lists

pub all_at : {A : Type 0} (test : A → Bool) (xs : List A) (k : ℕ) (x : A) → list_all test xs ≡ true → slice_get xs k ≡ Some x → test x ≡ true
all_at test [] k x all at = cc
all_at test (y ∷ ys) zero x all at = ap test (sym (some_same y x at)) ∙ (and_true _ _ all).0
all_at test (y ∷ ys) (suc k) x all at = all_at test ys k x (and_true _ _ all).1 at

no_first : {A : Type 0} (b : Bool) (x : A) (rest : Option A) → cond b (Some x) rest ≡ None → (b ≡ false) × (rest ≡ None)
no_first true x rest is = cc
no_first false x rest is = (refl, is)

none_found : {A : Type 0} (test : A → Bool) (xs : List A) (k : ℕ) (x : A) → find test xs ≡ None → slice_get xs k ≡ Some x → test x ≡ false
none_found test [] k x none at = cc
none_found test (y ∷ ys) zero x none at = ap test (sym (some_same y x at)) ∙ (no_first (test y) y (find test ys) none).0
none_found test (y ∷ ys) (suc k) x none at = none_found test ys k x (no_first (test y) y (find test ys) none).1 at

-- ---- what classes name above them

first_fits : (b final : Bool) (x y : LinkFault) (rest : Option LinkFault)
    → ◌≡◌ {A = Option LinkFault} (elim b [ false ↦ Some x | true ↦ elim final [ true ↦ Some y | false ↦ rest ] ]) None → (b ≡ true) × (rest ≡ None)
first_fits true true x y rest is = cc
first_fits true false x y rest is = (refl, is)
first_fits false final x y rest is = cc

folder_fits : (all files : List ClassFile) (k : ℕ) (c : ClassFile) → bad_super all files ≡ None → slice_get files k ≡ Some c → fits_in all c ≡ true
folder_fits all [] k c none at = cc
folder_fits all (d ∷ files) zero c none at =
    ap (fits_in all) (sym (some_same d c at))
    ∙ (first_fits (fits_in all d) (super_is_final all (super_name d)) (NoSuper (name_of d)) (FinalSuper (name_of d)) (bad_super all files) none).0
folder_fits all (d ∷ files) (suc k) c none at =
    folder_fits all files k c (first_fits (fits_in all d) (super_is_final all (super_name d)) (NoSuper (name_of d)) (FinalSuper (name_of d)) (bad_super all files) none).1 at

-- what core files find they find behind a folder too
pub kept : (classes core : List ClassFile) → twice core classes ≡ None → (test : ClassFile → Bool) (name : List ℕ) → passes test (file_named core name) ≡ true
    → passes test (file_named (classes ++ core) name) ≡ true
kept classes core apart test name h = by (file_named core name) refl h
  where
    by : (o : Option ClassFile) → file_named core name ≡ o → passes test o ≡ true → passes test (file_named (classes ++ core) name) ≡ true
    by None e h = cc
    by (Some s) e h = ap (passes test) (in_all classes core name s apart e) ∙ h

kept_super : (classes core : List ClassFile) → twice core classes ≡ None → (c : ClassFile) (o : Option (List ℕ)) → super_fits core c o ≡ true → super_fits (classes ++ core) c o ≡ true
kept_super classes core apart c None h = refl
kept_super classes core apart c (Some name) h = let parts = and_true _ _ h in both_true (kept classes core apart _ name parts.0) parts.1

kept_interfaces : (classes core : List ClassFile) → twice core classes ≡ None → (names : List (List ℕ))
    → list_all (λ name. passes is_interface_file (file_named core name)) names ≡ true → list_all (λ name. passes is_interface_file (file_named (classes ++ core) name)) names ≡ true
kept_interfaces classes core apart [] h = refl
kept_interfaces classes core apart (name ∷ names) h =
    let parts = and_true _ _ h in both_true (kept classes core apart is_interface_file name parts.0) (kept_interfaces classes core apart names parts.1)

fits_all : (classes core : List ClassFile) → twice core classes ≡ None → IsCore core → bad_super (classes ++ core) classes ≡ None
    → (k : ℕ) (c : ClassFile) → slice_get (classes ++ core) k ≡ Some c → fits_in (classes ++ core) c ≡ true
fits_all classes core apart is good k c at = elim (either_at classes core k c at) [
  | inl here ↦ folder_fits (classes ++ core) classes k c good here
  | inr there ↦
      let parts = and_true _ _ (all_at (fits_in core) core there.0 c is.fits there.2) in
      both_true (kept_super classes core apart c (super_name c) parts.0) (kept_interfaces classes core apart (interface_names c) parts.1)
]

-- a class that a reading gives has a superclass
has_super : (c : ClassFile) → Holds c → is_below_object c ≡ true
has_super c holds = by (c.super_class == 0) refl
  where
    by : (b : Bool) → (c.super_class == 0) ≡ b → (is_some (cond b None (Some (class_name c.pool c.super_class))) || bytes_eq (name_of c) object_name) ≡ true
    by false e = refl
    by true e =
        let zero_is : c.super_class ≡ 0 = (Decides-eqb c.super_class 0).0 e in
        let none : is_some (class (entry_of c.pool c.super_class)) ≡ false =
        ap (λ i. is_some (class (entry_of c.pool i))) zero_is ∙ ap (λ es. is_some (class (slice_get es 0))) holds.pool.are in
        cc (sym none ∙ holds.super_class.0)

pub holds_at : (classes : List ClassFile) → All Holds classes → (k : ℕ) (c : ClassFile) → slice_get classes k ≡ Some c → Holds c
holds_at [] holds k c at = cc
holds_at (d ∷ classes) holds zero c at = subst Holds (some_same d c at) (All-head Holds d classes holds)
holds_at (d ∷ classes) holds (suc k) c at = holds_at classes (All-tail Holds d classes holds) k c at

below_all : (classes core : List ClassFile) → All Holds classes → IsCore core → (k : ℕ) (c : ClassFile) → slice_get (classes ++ core) k ≡ Some c → is_below_object c ≡ true
below_all classes core holds is k c at = elim (either_at classes core k c at) [
  | inl here ↦ has_super c (holds_at classes holds k c here)
  | inr there ↦ all_at is_below_object core there.0 c is.below there.2
]

-- ---- no class of the folder is above itself

own_file : (p : Program) (all : List ClassFile) → IsOf p all → (k : ℕ) (c : ClassFile) → slice_get all k ≡ Some c → file_named all (name_of c) ≡ Some c
own_file p all of k c at =
    sym (find-position (λ d. bytes_eq (name_of d) (name_of c)) all) ∙ ap (option_and_then (slice_get all)) (of.own k c at) ∙ at

-- what is above a class by numbers is an ancestor by its name
leads : (p : Program) (all : List ClassFile) → IsOf p all → (n k a : ℕ) (c t : ClassFile) → slice_get all k ≡ Some c → slice_get all a ≡ Some t
    → is_among a (chain_within p n (superclass_of p k)) ≡ true → list_any (bytes_eq (name_of t)) (ancestors all n (name_of c)) ≡ true
leads p all of zero k a c t at there h = cc
leads p all of (suc n) k a c t at there h = by (superclass_of p k) refl h (λ d above at h. leads p all of n d a above t at there h)
  where
    test : List ℕ → Bool
    test = bytes_eq (name_of t)

    more : List ℕ → List (List ℕ)
    more parent = parent ∷ ancestors all n parent

    by : (o : Option ℕ) → superclass_of p k ≡ o → is_among a (chain_within p (suc n) o) ≡ true
        → ((d : ℕ) (above : ClassFile) → slice_get all d ≡ Some above → is_among a (chain_within p n (superclass_of p d)) ≡ true → list_any (bytes_eq (name_of t)) (ancestors all n (name_of above)) ≡ true)
        → list_any (bytes_eq (name_of t)) (ancestors all (suc n) (name_of c)) ≡ true
    by None e h later = cc
    by (Some d) e h later =
        let u = up p all of k d e in
        let super : super_name c ≡ Some (name_of u.above) = ap super_name (some_same c u.class (sym at ∙ u.at)) ∙ u.super in
        let rest : List (List ℕ) = flat_map more (interface_names c) in
        let here : (test (name_of u.above) || list_any test (ancestors all n (name_of u.above) ++ rest)) ≡ true =
        elim (either (nat_eq a d) (is_among a (chain_within p n (superclass_of p d))) h) [
          | inl same ↦
              or_first (test (name_of u.above)) _
              ((bytes_eq-Decides (name_of t) (name_of u.above)).1
              (ap name_of (some_same t u.above (sym there ∙ ap (slice_get all) ((Decides-eqb a d).0 same) ∙ u.there))))
          | inr up ↦
              or_second (test (name_of u.above)) _
              (list_any-append test (ancestors all n (name_of u.above)) rest ∙ or_first _ _ (later d u.above u.there up))
        ] in
        ap (λ o. list_any test (flat_map more (parents_of o))) (own_file p all of k c at)
        ∙ ap (λ o. list_any test (flat_map more (option_to_list o ++ interface_names c))) super
        ∙ here

-- a longer chain has what a shorter one has
longer : (p : Program) (n m : ℕ) (o : Option ℕ) (a : ℕ) → n ≤ m → is_among a (chain_within p n o) ≡ true → is_among a (chain_within p m o) ≡ true
longer p zero m o a few h = cc
longer p (suc n) zero o a few h = absurd (omega (arith, few))
longer p (suc n) (suc m) None a few h = cc
longer p (suc n) (suc m) (Some c) a few h = elim (either (nat_eq a c) (is_among a (chain_within p n (superclass_of p c))) h) [
  | inl same ↦ or_first (nat_eq a c) _ same
  | inr more ↦ or_second (nat_eq a c) _ (longer p n m (superclass_of p c) a (omega (arith, few)) more)
]

refuted : (b : Bool) → (b ≡ true → true ≡ false) → b ≡ false
refuted true wrong = wrong refl
refuted false wrong = refl

unmapped : {A B : Type 0} (f : A → B) (o : Option A) → option_map f o ≡ None → o ≡ None
unmapped f None is = refl
unmapped f (Some x) is = cc

folder_apart : (p : Program) (classes core : List ClassFile) → IsOf p (classes ++ core) → cycle (classes ++ core) classes ≡ None
    → (k n : ℕ) (c : ClassFile) → n ≤ class_count p → slice_get classes k ≡ Some c → slice_get (classes ++ core) k ≡ Some c → is_among k (chain_within p n (superclass_of p k)) ≡ false
folder_apart p classes core of none k n c few here at =
    refuted (is_among k (chain_within p n (superclass_of p k))) λ h.
    let counted = count_is p (classes ++ core) of in
    let own : is_own_ancestor (classes ++ core) c ≡ true =
    leads p (classes ++ core) of (length (classes ++ core)) k k c c at at
    (longer p n (length (classes ++ core)) (superclass_of p k) k (omega (arith, counted, few)) h) in
    sym own ∙ none_found (is_own_ancestor (classes ++ core)) classes k c (unmapped _ (find (is_own_ancestor (classes ++ core)) classes) none) here

-- ---- what is above a core class stands before it

before_at : (core : List ClassFile) (from : ℕ) (rest : List ClassFile) (i j : ℕ) (c : ClassFile) → supers_before core from rest ≡ true → i ≡ from + j → slice_get rest j ≡ Some c
    → super_before core i (super_name c) ≡ true
before_at core from [] i j c all is at = cc
before_at core from (d ∷ rest) i zero c all is at =
    let same : i ≡ from = omega (arith, is) in
    ap (λ i. super_before core i (super_name c)) same ∙ ap (λ c. super_before core from (super_name c)) (sym (some_same d c at)) ∙ (and_true _ _ all).0
before_at core from (d ∷ rest) i (suc j) c all is at = before_at core (suc from) rest i j c (and_true _ _ all).1 (omega (arith, is)) at

pub behind_at : {A : Type 0} (xs ys : List A) (k j : ℕ) → k ≡ length xs + j → slice_get (xs ++ ys) k ≡ slice_get ys j
behind_at [] ys k j is =
    let same : k ≡ j = omega (arith, is) in
    ap (slice_get ys) same
behind_at (x ∷ xs) ys zero j is = absurd (omega (arith, is))
behind_at (x ∷ xs) ys (suc k) j is = behind_at xs ys k j (omega (arith, is))

-- one step up from a core class
record IsLower (classes core : List ClassFile) (j d : ℕ) : Type 0 where
  at : ℕ
  file : ClassFile
  is : d ≡ length classes + at
  there : slice_get core at ≡ Some file
  less : at < j

core_up : (p : Program) (classes core : List ClassFile) → IsOf p (classes ++ core) → twice core classes ≡ None → IsCore core → (k j d : ℕ) (c : ClassFile)
    → slice_get core j ≡ Some c → slice_get (classes ++ core) k ≡ Some c → superclass_of p k ≡ Some d → IsLower classes core j d
core_up p classes core of apart is k j d c here at e = by (file_named core name) refl
  where
    u : IsUp (classes ++ core) k d
    u = up p (classes ++ core) of k d e

    name : List ℕ
    name = name_of u.above

    super : super_name c ≡ Some name
    super = ap super_name (some_same c u.class (sym at ∙ u.at)) ∙ u.super

    before : is_before j (place_in core name) ≡ true
    before = ap (super_before core j) (sym super) ∙ before_at core 0 core j j c is.before (omega arith) here

    by : (o : Option ClassFile) → file_named core name ≡ o → IsLower classes core j d
    by None none = cc (sym (ap (is_before j) (no_place core name none)) ∙ before)
    by (Some s) some =
        let f = found core name s some in
        let place : place_in (classes ++ core) name ≡ Some (length classes + f.at) =
        position-append (λ c. bytes_eq (name_of c) name) classes core
        ∙ ap (λ o. option_or o (option_map (λ n. length classes + n) (place_in core name))) (no_place classes name (not_in_folder classes core name s apart some))
        ∙ ap (option_map (λ n. length classes + n)) f.place in
        record {
          at = f.at;
          file = s;
          is = some_same d (length classes + f.at) (sym u.place ∙ place);
          there = f.there;
          less = ltb-true f.at j (ap (is_before j) (sym f.place) ∙ before);
        }

core_below : (p : Program) (classes core : List ClassFile) → IsOf p (classes ++ core) → twice core classes ≡ None → IsCore core → (n k j a : ℕ) (c : ClassFile)
    → slice_get core j ≡ Some c → k ≡ length classes + j → is_among a (chain_within p n (superclass_of p k)) ≡ true → a < k
core_below p classes core of apart is zero k j a c here same h = cc
core_below p classes core of apart is (suc n) k j a c here same h =
    by (superclass_of p k) refl h (λ d low more. core_below p classes core of apart is n d low.at a low.file low.there low.is more)
  where
    by : (o : Option ℕ) → superclass_of p k ≡ o → is_among a (chain_within p (suc n) o) ≡ true
        → ((d : ℕ) (low : IsLower classes core j d) → is_among a (chain_within p n (superclass_of p d)) ≡ true → a < d) → a < k
    by None e h later = cc
    by (Some d) e h later =
        let low = core_up p classes core of apart is k j d c here (behind_at classes core k j same ∙ here) e in
        let is = low.is in
        let less = low.less in
        let under : d < k = omega (arith, is, less, same) in
        elim (either (nat_eq a d) (is_among a (chain_within p n (superclass_of p d))) h) [
          | inl same ↦ subst (λ (i : ℕ). i < k) (sym ((Decides-eqb a d).0 same)) under
          | inr more ↦ (let below = later d low more in omega (arith, below, under))
        ]

core_apart : (p : Program) (classes core : List ClassFile) → IsOf p (classes ++ core) → twice core classes ≡ None → IsCore core → (n k j : ℕ) (c : ClassFile)
    → slice_get core j ≡ Some c → k ≡ length classes + j → is_among k (chain_within p n (superclass_of p k)) ≡ false
core_apart p classes core of apart is n k j c here same =
    refuted (is_among k (chain_within p n (superclass_of p k))) λ h.
    let below = core_below p classes core of apart is n k j k c here same h in absurd (omega (arith, below))

-- ---- the whole

all_apart : (p : Program) (classes core : List ClassFile) → IsOf p (classes ++ core) → twice core classes ≡ None → IsCore core → cycle (classes ++ core) classes ≡ None → AreApart p
all_apart p classes core of apart is none k n few = by (slice_get (classes ++ core) k) refl
  where
    by : (o : Option ClassFile) → slice_get (classes ++ core) k ≡ o → is_among k (chain_within p n (superclass_of p k)) ≡ false
    by None at = ap (λ o. is_among k (chain_within p n o)) (no_superclass p (classes ++ core) of k at) ∙ ap (is_among k) (no_chain p n)
    by (Some c) at = elim (either_at classes core k c at) [
      | inl here ↦ folder_apart p classes core of none k n c few here at
      | inr there ↦ core_apart p classes core of apart is n k there.0 c there.2 there.1
    ]

-- what is known of a program whose classes are a folder's and then core classes
pub record IsLinked (p : Program) (classes core : List ClassFile) : Type 0 where
  pub of : IsOf p (classes ++ core)
  pub apart : AreApart p
  pub once : twice core classes ≡ None

parts_none : {A : Type 0} (first last : Option A) → option_or first last ≡ None → (first ≡ None) × (last ≡ None)
parts_none None last is = (refl, is)
parts_none (Some x) last is = cc

pub linked_of : (core : List ClassFile) → IsCore core → (numbers : List (List ℕ)) (classes : List ClassFile) (options : List OptionField) (main : List ℕ) → All Holds classes
    → link_fault classes core options main ≡ None → IsLinked (program_of classes core numbers options main) classes core
linked_of core is numbers classes options main holds none =
    let first = parts_none (twice core classes) _ none in
    let second = parts_none (bad_super (classes ++ core) classes) _ first.1 in
    let third = parts_none (cycle (classes ++ core) classes) _ second.1 in
    let p : Program = program_of classes core numbers options main in
    let of : IsOf p (classes ++ core) = record {
      linked = refl;
      own = own_place classes core first.0 is.single;
      fits = fits_all classes core first.0 is second.0;
      below = below_all classes core holds is;
      object = is.object;
      named = in_all classes core object_name is.object first.0 is.named;
      root = is.root;
    } in
    record { of = of; apart = all_apart p classes core of first.0 is third.0; once = first.0 }

fault_none : (fault : Option LinkFault) (made p : Program) → unless_fault fault made ≡ Ok p → fault ≡ None
fault_none None made p is = refl
fault_none (Some fault) made p is = cc

-- what is shown of the program of any files without a fault
pub of_linked : (P : Program → Type 0) (classes : List ClassFile) (options : List OptionField) (main : List ℕ) (p : Program)
    → (link_fault classes core_files options main ≡ None → P (program_of classes core_files native_numbers options main))
    → linked_program classes options main ≡ Ok p → P p
of_linked P classes options main p shown is =
    subst P (made_is (link_fault classes core_files options main) (program_of classes core_files native_numbers options main) p is)
    (shown (fault_none (link_fault classes core_files options main) (program_of classes core_files native_numbers options main) p is))

pub linked : (classes : List ClassFile) (options : List OptionField) (main : List ℕ) (p : Program) → All Holds classes → linked_program classes options main ≡ Ok p
    → IsLinked p classes core_files
linked classes options main p holds is =
    of_linked (λ q. IsLinked q classes core_files) classes options main p (linked_of core_files is_core native_numbers classes options main holds) is
