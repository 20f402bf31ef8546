-- Class files by their names: core files stand behind those of a folder, and each name stands once.
use Rattle.std.proofs.Common.{Bool, List, None, Option, Some, [], ap, arith, bytes_eq, cond, false, inl, inr, is_some, length, option_map, refl, slice_get, subst, suc, sym, true, zero, ℕ, ◌++◌, ◌+◌, ◌⊎◌, ◌∙◌, ◌∷◌, ◌≡◌}
use Rattle.std.proofs.lemmas.List.Folds.{find-append}
use Rattle.std.proofs.lemmas.Slice.Eq.{bytes_eq-Decides}
use Rattle.std.specs.List.{position}
use Rattle.std.specs.Option.{option_and_then, option_or}
use Rattle.vx_class.specs.declared.class_file.ClassFile.{ClassFile}
use Rattle.vx_link.specs.Faults.{file_named, name_of, twice}
use Rattle.vx_link.specs.declared.fault.LinkFault.{LinkFault}
use Rattle.vx_link.specs.declared.fault.LinkFault.TheVariants.{Twice}
use Rattle.vx_names.proofs.Keys.{find-position, position-append, position-cons}

pub some_same : {A : Type 0} (x y : A) → Some x ≡ Some y → x ≡ y
some_same x y is = cc

-- the place of a name
abbrev pub place_in : List ClassFile → List ℕ → Option ℕ
place_in all name = position (λ c. bytes_eq (name_of c) name) all

-- ---- a file that a name finds

pub record IsFound (all : List ClassFile) (name : List ℕ) (s : ClassFile) : Type 0 where
  pub at : ℕ
  pub there : slice_get all at ≡ Some s
  pub place : place_in all name ≡ Some at
  pub name_is : name_of s ≡ name

pub found : (all : List ClassFile) (name : List ℕ) (s : ClassFile) → file_named all name ≡ Some s → IsFound all name s
found [] name s is = cc
found (c ∷ all) name s is = by (bytes_eq (name_of c) name) refl is (found all name s)
  where
    by : (b : Bool) → bytes_eq (name_of c) name ≡ b → cond b (Some c) (file_named all name) ≡ Some s → (file_named all name ≡ Some s → IsFound all name s) → IsFound (c ∷ all) name s
    by true same is later = record {
      at = 0;
      there = is;
      place = position-cons (λ c. bytes_eq (name_of c) name) c all ∙ ap (λ b. cond b (Some 0) (option_map suc (place_in all name))) same;
      name_is = ap name_of (sym (some_same c s is)) ∙ (bytes_eq-Decides (name_of c) name).0 same;
    }
    by false other is later =
        let more = later is in
        record {
          at = suc more.at;
          there = more.there;
          place = position-cons (λ c. bytes_eq (name_of c) name) c all ∙ ap (λ b. cond b (Some 0) (option_map suc (place_in all name))) other ∙ ap (option_map suc) more.place;
          name_is = more.name_is;
        }

-- what no name finds has no place
pub no_place : (all : List ClassFile) (name : List ℕ) → file_named all name ≡ None → place_in all name ≡ None
no_place [] name is = refl
no_place (c ∷ all) name is =
    position-cons (λ c. bytes_eq (name_of c) name) c all ∙ by (bytes_eq (name_of c) name) is (no_place all name)
  where
    by : (b : Bool) → cond b (Some c) (file_named all name) ≡ None → (file_named all name ≡ None → place_in all name ≡ None)
        → cond b (Some 0) (option_map suc (place_in all name)) ≡ None
    by true is later = cc
    by false is later = ap (option_map suc) (later is)

-- ---- names that stand once

-- no file before has the name of a file, and none of its list stands before it with the name
pub record StandsOnce (before all : List ClassFile) (k : ℕ) (c : ClassFile) : Type 0 where
  pub place : place_in all (name_of c) ≡ Some k
  pub new : file_named before (name_of c) ≡ None

split : (o : Option ClassFile) (name : List ℕ) (rest : Option LinkFault)
    → ◌≡◌ {A = Option LinkFault} (elim (is_some o) [ true ↦ Some (Twice name) | false ↦ rest ]) None → (o ≡ None) × (rest ≡ None)
split None name rest is = (refl, is)
split (Some c) name rest is = cc

first_once : (before : List ClassFile) (d : ClassFile) (all : List ClassFile) → file_named before (name_of d) ≡ None → StandsOnce before (d ∷ all) 0 d
first_once before d all new = record {
  place = position-cons (λ c. bytes_eq (name_of c) (name_of d)) d all
      ∙ ap (λ b. cond b (Some 0) (option_map suc (place_in all (name_of d)))) ((bytes_eq-Decides (name_of d) (name_of d)).1 refl);
  new = new;
}

later_once : (before : List ClassFile) (d : ClassFile) (all : List ClassFile) (k : ℕ) (c : ClassFile) → StandsOnce (d ∷ before) all k c → StandsOnce before (d ∷ all) (suc k) c
later_once before d all k c later = by (bytes_eq (name_of d) (name_of c)) refl later.new
  where
    by : (b : Bool) → bytes_eq (name_of d) (name_of c) ≡ b → cond b (Some d) (file_named before (name_of c)) ≡ None → StandsOnce before (d ∷ all) (suc k) c
    by true same new = cc
    by false other new = record {
      place = position-cons (λ e. bytes_eq (name_of e) (name_of c)) d all
          ∙ ap (λ b. cond b (Some 0) (option_map suc (place_in all (name_of c)))) other ∙ ap (option_map suc) later.place;
      new = new;
    }

pub once : (before all : List ClassFile) (k : ℕ) (c : ClassFile) → twice before all ≡ None → slice_get all k ≡ Some c → StandsOnce before all k c
once before [] k c none at = cc
once before (d ∷ all) zero c none at =
    subst (StandsOnce before (d ∷ all) 0) (some_same d c at) (first_once before d all (split (file_named before (name_of d)) (name_of d) (twice (d ∷ before) all) none).0)
once before (d ∷ all) (suc k) c none at =
    later_once before d all k c (once (d ∷ before) all k c (split (file_named before (name_of d)) (name_of d) (twice (d ∷ before) all) none).1 at)

-- ---- core files behind those of a folder

-- a core file's name is none of the folder's
pub not_in_folder : (classes core : List ClassFile) (name : List ℕ) (s : ClassFile) → twice core classes ≡ None → file_named core name ≡ Some s → file_named classes name ≡ None
not_in_folder classes core name s apart is = by (file_named classes name) refl
  where
    by : (o : Option ClassFile) → file_named classes name ≡ o → o ≡ None
    by None e = refl
    by (Some d) e =
        let there = found classes name d e in
        let new : file_named core (name_of d) ≡ None = (once core classes there.at d apart there.there).new in
        let none : file_named core name ≡ None = ap (file_named core) (sym there.name_is) ∙ new in
        cc (sym is ∙ none)

pub in_all : (classes core : List ClassFile) (name : List ℕ) (s : ClassFile) → twice core classes ≡ None → file_named core name ≡ Some s → file_named (classes ++ core) name ≡ Some s
in_all classes core name s apart is =
    find-append (λ c. bytes_eq (name_of c) name) classes core
    ∙ ap (λ o. option_or o (file_named core name)) (not_in_folder classes core name s apart is)
    ∙ is

-- the file at a place is of the folder, or a core file
pub either_at : (classes core : List ClassFile) (k : ℕ) (c : ClassFile) → slice_get (classes ++ core) k ≡ Some c
    → (slice_get classes k ≡ Some c) ⊎ ((j : ℕ) × (k ≡ length classes + j) × (slice_get core j ≡ Some c))
either_at [] core k c at = inr (k, omega arith, at)
either_at (d ∷ classes) core zero c at = inl at
either_at (d ∷ classes) core (suc k) c at = elim (either_at classes core k c at) [
  | inl here ↦ inl here
  | inr there ↦ (let same = there.1 in inr (there.0, omega (arith, same), there.2))
]

-- each file stands where its name is found
pub own_place : (classes core : List ClassFile) → twice core classes ≡ None → twice [] core ≡ None → (k : ℕ) (c : ClassFile) → slice_get (classes ++ core) k ≡ Some c
    → place_in (classes ++ core) (name_of c) ≡ Some k
own_place classes core apart single k c at =
    position-append (λ d. bytes_eq (name_of d) (name_of c)) classes core ∙ by (either_at classes core k c at)
  where
    by : (slice_get classes k ≡ Some c) ⊎ ((j : ℕ) × (k ≡ length classes + j) × (slice_get core j ≡ Some c))
        → option_or (place_in classes (name_of c)) (option_map (λ n. length classes + n) (place_in core (name_of c))) ≡ Some k
    by (inl here) = ap (λ o. option_or o (option_map (λ n. length classes + n) (place_in core (name_of c)))) (once core classes k c apart here).place
    by (inr there) =
        let own = (once [] core there.0 c single there.2).place in
        let named : file_named core (name_of c) ≡ Some c =
        sym (find-position (λ d. bytes_eq (name_of d) (name_of c)) core) ∙ ap (option_and_then (slice_get core)) own ∙ there.2 in
        ap (λ o. option_or o (option_map (λ n. length classes + n) (place_in core (name_of c)))) (no_place classes (name_of c) (not_in_folder classes core (name_of c) c apart named))
        ∙ ap (option_map (λ n. length classes + n)) own
        ∙ ap Some (sym there.1)
