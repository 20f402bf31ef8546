-- The core classes that are raised are below Throwable, whatever classes stand before them.
use Rattle.std.proofs.Common.{Bool, List, None, Option, Some, [], ap, arith, bytes_eq, codes, cond, false, inl, inr, is_some, length, length-append, map, not, refl, slice_get, suc, sym, true, true≢false, unwrap_or, zero, ℕ, ◌++◌, ◌+◌, ◌<◌, ◌≢◌, ◌≤◌, ◌⊎◌, ◌∙◌, ◌∷◌, ◌≡◌, ◌||◌}
use Rattle.std.proofs.Math.Dec.{eqb}
use Rattle.std.proofs.lemmas.Bool.{lt-ltb, or_left}
use Rattle.std.proofs.lemmas.Bool.Decides.{eqb_tells}
use Rattle.std.proofs.lemmas.List.{length-map}
use Rattle.std.proofs.lemmas.List.Quantifiers.{position-Some}
use Rattle.std.proofs.lemmas.Slice.Eq.{bytes_eq-Decides}
use Prim.Native.String.{String}
use Rattle.std.specs.List.{list_all, position}
use Rattle.std.specs.Option.{option_and_then, option_map, option_or}
use Rattle.std.specs.Prelude.{nat_eq, ◌==◌}
use Rattle.vx_class.specs.declared.class_file.ClassFile.{ClassFile}
use Rattle.vx_kept_facts.proofs.Places.{or_right, same_place}
use Rattle.vx_kept_facts.specs.Kept.{is_throwable}
use Rattle.vx_kept_facts.specs.Law.{raised}
use Rattle.vx_link.specs.Assignability.{assignable, assignable_within, class_assignable}
use Rattle.vx_link.specs.ClassNames.{core_class, is_array}
use Rattle.vx_link.specs.CoreTable.{core_table}
use Rattle.vx_link.specs.Faults.{file_named, name_of, super_name, twice}
use Rattle.vx_link.specs.Hierarchy.{chain_within, is_among, superclass_of, superclasses}
use Rattle.vx_link.specs.Linked.{class_id, linked_class, linked_classes, method_count}
use Rattle.vx_link.specs.Parts.{class_count, no_class}
use Rattle.vx_link.specs.Tables.{names_of}
use Rattle.vx_link.specs.Written.{WrittenClass, class_file}
use Rattle.vx_link.specs.declared.fault.LinkFault.{LinkFault}
use Rattle.vx_link.specs.declared.fault.LinkFault.TheVariants.{Twice}
use Rattle.vx_link.specs.declared.program.LinkedClass.{LinkedClass}
use Rattle.vx_link.specs.declared.program.Program.{Program}
use Rattle.vx_names.proofs.Keys.{place_of-map, position-append, position-cons}
use Rattle.vx_program_bounds.proofs.ListLaws.{all_follow}
use Rattle.vx_program_bounds.proofs.ShortParts.{count_classes}

-- ---- rows

-- the place of a core class
abbrev pub place_in : List WrittenClass → List ℕ → Option ℕ
place_in rows name = position (λ row. bytes_eq (codes row.name) name) rows

-- that of its superclass
abbrev pub super_place : List WrittenClass → ℕ → Option ℕ
super_place rows k = option_and_then (λ row. option_and_then (λ name. place_in rows (codes name)) row.superclass) (slice_get rows k)

-- one class is reached from another by going up, in fewer steps than a number
abbrev pub reaches_by : (rows : List WrittenClass) → (steps top : ℕ) → Option ℕ → Bool
reaches_by rows zero top place = false
reaches_by rows (suc n) top None = false
reaches_by rows (suc n) top (Some k) = k == top || reaches_by rows n top (super_place rows k)

no_row : WrittenClass
no_row = record { major = 0; name = ""; superclass = None; interfaces = []; flags = 0; fields = []; methods = []; references = [] }

-- ---- the classes of a program, with others in front

-- a folder's classes, rows behind them, and the numbering of methods and fields
pub record AreRows (p : Program) (classes : List ClassFile) (rows : List WrittenClass) : Type 0 where
  pub linked : p.classes ≡ linked_classes (names_of (classes ++ map class_file rows)) (classes ++ map class_file rows) 0 0
  pub new : (name : List ℕ) → is_some (place_in rows name) ≡ true → position (λ c. bytes_eq (name_of c) name) classes ≡ None

-- ---- places of names

pub linked_place : (names : List (List ℕ)) (files : List ClassFile) (methods fields : ℕ) (name : List ℕ)
    → position (λ c. bytes_eq c.name name) (linked_classes names files methods fields) ≡ position (λ c. bytes_eq (name_of c) name) files
linked_place names [] methods fields name = refl
linked_place names (c ∷ files) methods fields name =
    position-cons (λ c. bytes_eq c.name name) (linked_class names c methods fields) (linked_classes names files (methods + method_count c) (fields + length c.fields))
    ∙ ap (λ o. cond (bytes_eq (name_of c) name) (Some 0) (option_map suc o)) (linked_place names files (methods + method_count c) (fields + length c.fields) name)
    ∙ sym (position-cons (λ c. bytes_eq (name_of c) name) c files)

pub row_place : (rows : List WrittenClass) (name : List ℕ) → position (λ c. bytes_eq (name_of c) name) (map class_file rows) ≡ place_in rows name
row_place [] name = refl
row_place (row ∷ rows) name =
    position-cons (λ c. bytes_eq (name_of c) name) (class_file row) (map class_file rows)
    ∙ ap (λ o. cond (bytes_eq (codes row.name) name) (Some 0) (option_map suc o)) (row_place rows name)
    ∙ sym (position-cons (λ row. bytes_eq (codes row.name) name) row rows)

-- a core class stands behind the folder's classes
pub place_behind : (p : Program) (classes : List ClassFile) (rows : List WrittenClass) → AreRows p classes rows → (name : List ℕ) (k : ℕ) → place_in rows name ≡ Some k
    → position (λ c. bytes_eq (name_of c) name) (classes ++ map class_file rows) ≡ Some (length classes + k)
place_behind p classes rows are name k is =
    position-append (λ c. bytes_eq (name_of c) name) classes (map class_file rows)
    ∙ ap (λ o. option_or o (option_map (λ n. length classes + n) (position (λ c. bytes_eq (name_of c) name) (map class_file rows)))) (are.new name (ap is_some is))
    ∙ ap (option_map (λ n. length classes + n)) (row_place rows name ∙ is)

pub core_is : (p : Program) (classes : List ClassFile) (rows : List WrittenClass) → AreRows p classes rows → (name : String) (k : ℕ) → place_in rows (codes name) ≡ Some k
    → core_class p name ≡ length classes + k
core_is p classes rows are name k is =
    ap (λ o. unwrap_or o 0)
    (ap (position (λ c. bytes_eq c.name (codes name))) are.linked
    ∙ linked_place (names_of (classes ++ map class_file rows)) (classes ++ map class_file rows) 0 0 (codes name)
    ∙ place_behind p classes rows are (codes name) k is)

-- ---- items by places

linked_at : (names : List (List ℕ)) (files : List ClassFile) (methods fields k : ℕ) (c : ClassFile) → slice_get files k ≡ Some c
    → (m : ℕ) × (f : ℕ) × (slice_get (linked_classes names files methods fields) k ≡ Some (linked_class names c m f))
linked_at names [] methods fields k c is = cc
linked_at names (d ∷ files) methods fields zero c is = (methods, fields, ap (option_map (λ c. linked_class names c methods fields)) is)
linked_at names (d ∷ files) methods fields (suc k) c is = linked_at names files (methods + method_count d) (fields + length d.fields) k c is

pub behind : {A : Type 0} (xs ys : List A) (i k : ℕ) → i ≡ length xs + k → slice_get (xs ++ ys) i ≡ slice_get ys k
behind [] ys i k is =
    let same : i ≡ k = omega (arith, is) in
    ap (slice_get ys) same
behind (x ∷ xs) ys zero k is = absurd (omega (arith, is))
behind (x ∷ xs) ys (suc i) k is = behind xs ys i k (omega (arith, is))

mapped : {A B : Type 0} (f : A → B) (xs : List A) (k : ℕ) (x : A) → slice_get xs k ≡ Some x → slice_get (map f xs) k ≡ Some (f x)
mapped f [] k x is = cc
mapped f (y ∷ ys) zero x is = ap (option_map f) is
mapped f (y ∷ ys) (suc k) x is = mapped f ys k x is

-- ---- superclasses

super_is : (row : WrittenClass) (o : Option String) → super_name (class_file (record row { superclass = o })) ≡ option_map codes o
super_is row None = refl
super_is row (Some name) = refl

number_of : (names : List (List ℕ)) (o : Option String) → option_map (λ s. s.0) (option_map (class_id names) (option_map codes o)) ≡ option_map (λ name. (class_id names (codes name)).0) o
number_of names None = refl
number_of names (Some name) = refl

pub super_of_row : (p : Program) (classes : List ClassFile) (rows : List WrittenClass) → AreRows p classes rows → (k : ℕ) (row : WrittenClass) → slice_get rows k ≡ Some row
    → superclass_of p (length classes + k) ≡ option_map (λ name. (class_id (names_of (classes ++ map class_file rows)) (codes name)).0) row.superclass
super_of_row p classes rows are k row is =
    let all : List ClassFile = classes ++ map class_file rows in
    let there = linked_at (names_of all) all 0 0 (length classes + k) (class_file row) (behind classes (map class_file rows) (length classes + k) k refl ∙ mapped class_file rows k row is) in
    let up : Option LinkedClass → Option ℕ = λ o. option_map (λ s. s.0) (unwrap_or o no_class).superclass in
    ap (λ cs. up (slice_get cs (length classes + k))) are.linked
    ∙ ap up there.2
    ∙ ap (λ o. option_map (λ s. s.0) (option_map (class_id (names_of all)) o)) (super_is row row.superclass)
    ∙ number_of (names_of all) row.superclass

-- one step up
pub goes_up : (p : Program) (classes : List ClassFile) (rows : List WrittenClass) → AreRows p classes rows → (k above : ℕ) → super_place rows k ≡ Some above
    → superclass_of p (length classes + k) ≡ Some (length classes + above)
goes_up p classes rows are k above is = by (slice_get rows k) refl is
  where
    all : List ClassFile
    all = classes ++ map class_file rows

    by_super : (o : Option String) → option_and_then (λ name. place_in rows (codes name)) o ≡ Some above
        → option_map (λ name. (class_id (names_of all) (codes name)).0) o ≡ Some (length classes + above)
    by_super None found = cc
    by_super (Some name) found =
        ap (λ place. Some (unwrap_or place 0)) (place_of-map name_of all (codes name) ∙ place_behind p classes rows are (codes name) above found)

    by : (o : Option WrittenClass) → slice_get rows k ≡ o → option_and_then (λ row. option_and_then (λ name. place_in rows (codes name)) row.superclass) o ≡ Some above
        → superclass_of p (length classes + k) ≡ Some (length classes + above)
    by None there found = cc
    by (Some row) there found = super_of_row p classes rows are k row there ∙ by_super row.superclass found

reaches_none : (rows : List WrittenClass) (steps top : ℕ) → reaches_by rows steps top None ≡ false
reaches_none rows zero top = refl
reaches_none rows (suc n) top = refl

pub climbs : (p : Program) (classes : List ClassFile) (rows : List WrittenClass) → AreRows p classes rows → (steps m top : ℕ) (place : Option ℕ) → steps ≤ m → reaches_by rows steps top place ≡ true
    → is_among (length classes + top) (chain_within p m (option_map (λ k. length classes + k) place)) ≡ true
climbs p classes rows are zero m top place enough reaches = cc
climbs p classes rows are (suc n) m top None enough reaches = cc
climbs p classes rows are (suc n) zero top (Some k) enough reaches = absurd (omega (arith, enough))
climbs p classes rows are (suc n) (suc m) top (Some k) enough reaches =
    by (eqb_tells k top) (λ above more. climbs p classes rows are n m top (Some above) (omega (arith, enough)) more)
  where
    Above : Type 0
    Above = (above : ℕ) → reaches_by rows n top (Some above) ≡ true → is_among (length classes + top) (chain_within p m (Some (length classes + above))) ≡ true

    higher : Above → (place : Option ℕ) → super_place rows k ≡ place → reaches_by rows n top place ≡ true
        → is_among (length classes + top) (chain_within p m (superclass_of p (length classes + k))) ≡ true
    higher later None is more = elim (true≢false (sym more ∙ reaches_none rows n top)) [ ]
    higher later (Some above) is more =
        ap (λ o. is_among (length classes + top) (chain_within p m o)) (goes_up p classes rows are k above is) ∙ later above more

    by : (((eqb k top ≡ true) × (k ≡ top)) ⊎ ((eqb k top ≡ false) × (k ≢ top))) → Above
        → is_among (length classes + top) ((length classes + k) ∷ chain_within p m (superclass_of p (length classes + k))) ≡ true
    by (inl same) later =
        or_left (nat_eq (length classes + top) (length classes + k)) _
        (ap (λ i. nat_eq (length classes + top) (length classes + i)) same.1 ∙ same_place (length classes + top))
    by (inr other) later =
        or_right (nat_eq (length classes + top) (length classes + k)) _ (higher later (super_place rows k) refl (rw other.0 at reaches))

-- ---- throwables

-- what is no array is assignable by its superclasses and superinterfaces
plain_assignable : (p : Program) (from to d : ℕ) → is_array p from ≡ false → assignable_within p (suc d) from to ≡ class_assignable p from to
plain_assignable p from to d plain = rw (plain, assignable_within) refl

-- core classes below Throwable
pub below_throwable : (p : Program) (classes : List ClassFile) (rows : List WrittenClass) → AreRows p classes rows → (steps top : ℕ) → steps ≤ length rows
    → place_in rows (codes "java/lang/Throwable") ≡ Some top → (name : String) → reaches_by rows steps top (place_in rows (codes name)) ≡ true
    → is_throwable p (core_class p name) ≡ true
below_throwable p classes rows are steps top few is_top name reaches = by (place_in rows (codes name)) refl reaches
  where
    count : class_count p ≡ length classes + length rows
    count =
        ap length are.linked ∙ count_classes (names_of (classes ++ map class_file rows)) (classes ++ map class_file rows) 0 0
        ∙ length-append classes (map class_file rows) ∙ ap (λ n. length classes + n) (length-map rows class_file)

    assigned : (k : ℕ) → place_in rows (codes name) ≡ Some k → reaches_by rows steps top (Some k) ≡ true → assignable p (length classes + k) (length classes + top) ≡ true
    assigned k is reaches =
        let less : k < length rows = (position-Some (λ row. bytes_eq (codes row.name) (codes name)) rows k no_row is).0 in
        let no_array : is_array p (length classes + k) ≡ false = ap not (lt-ltb (length classes + k) (class_count p) (omega (arith, less, count))) in
        plain_assignable p (length classes + k) (length classes + top) 254 no_array
        ∙ or_left (is_among (length classes + top) (superclasses p (length classes + k))) _
        (climbs p classes rows are steps (class_count p) top (Some k) (omega (arith, few, count)) reaches)

    by : (place : Option ℕ) → place_in rows (codes name) ≡ place → reaches_by rows steps top place ≡ true → is_throwable p (core_class p name) ≡ true
    by None is reaches = elim (true≢false (sym reaches ∙ reaches_none rows steps top)) [ ]
    by (Some k) is reaches =
        ap (assignable p (core_class p name)) (core_is p classes rows are "java/lang/Throwable" top is_top)
        ∙ ap (λ from. assignable p from (length classes + top)) (core_is p classes rows are name k is)
        ∙ assigned k is reaches

-- of some rows all that are raised are below Throwable
pub record AreBelow (rows : List WrittenClass) : Type 0 where
  pub steps : ℕ
  pub top : ℕ
  pub few : steps ≤ length rows
  pub is_top : place_in rows (codes "java/lang/Throwable") ≡ Some top
  pub below : list_all (λ name. reaches_by rows steps top (place_in rows (codes name))) raised ≡ true

pub raised_are_throwable : (p : Program) (classes : List ClassFile) (rows : List WrittenClass) → AreRows p classes rows → AreBelow rows
    → list_all (λ name. is_throwable p (core_class p name)) raised ≡ true
raised_are_throwable p classes rows are raise =
    all_follow
    (λ name. reaches_by rows raise.steps raise.top (place_in rows (codes name)))
    (λ name. is_throwable p (core_class p name))
    (below_throwable p classes rows are raise.steps raise.top raise.few raise.is_top)
    raised
    raise.below

pub core_below : AreBelow core_table
core_below = record { steps = 8; top = 18; few = omega arith; is_top = refl; below = refl }

-- ---- no class of the folder has a core class's name

none_named : (before classes : List ClassFile) (name : List ℕ) → twice before classes ≡ None → is_some (file_named before name) ≡ true
    → position (λ c. bytes_eq (name_of c) name) classes ≡ None
none_named before [] name once there = refl
none_named before (c ∷ classes) name once there =
    position-cons (λ c. bytes_eq (name_of c) name) c classes
    ∙ by_twice (is_some (file_named before (name_of c))) refl once (λ once there. none_named (c ∷ before) classes name once there)
  where
    Later : Type 0
    Later = twice (c ∷ before) classes ≡ None → is_some (file_named (c ∷ before) name) ≡ true → position (λ c. bytes_eq (name_of c) name) classes ≡ None

    P : Bool → Type 0
    P b = cond b (Some 0) (option_map suc (position (λ c. bytes_eq (name_of c) name) classes)) ≡ None

    by_name : (b : Bool) → bytes_eq (name_of c) name ≡ b → is_some (file_named before (name_of c)) ≡ false → twice (c ∷ before) classes ≡ None → Later → P b
    by_name true same new once later =
        let named : name_of c ≡ name = (bytes_eq-Decides (name_of c) name).0 same in
        elim (true≢false (sym there ∙ ap (λ n. is_some (file_named before n)) (sym named) ∙ new)) [ ]
    by_name false other new once later = ap (option_map suc) (later once (ap (λ b. is_some (cond b (Some c) (file_named before name))) other ∙ there))

    by_twice : (b : Bool) → is_some (file_named before (name_of c)) ≡ b → ◌≡◌ {A = Option LinkFault} (elim b [ true ↦ Some (Twice (name_of c)) | false ↦ twice (c ∷ before) classes ]) None → Later
        → P (bytes_eq (name_of c) name)
    by_twice true same once later = cc
    by_twice false new once later = by_name (bytes_eq (name_of c) name) refl new once later

file_there : (rows : List WrittenClass) (name : List ℕ) → is_some (place_in rows name) ≡ true → is_some (file_named (map class_file rows) name) ≡ true
file_there [] name there = cc
file_there (row ∷ rows) name there =
    by (bytes_eq (codes row.name) name) (sym (ap is_some (position-cons (λ row. bytes_eq (codes row.name) name) row rows)) ∙ there) (file_there rows name)
  where
    moved : (o : Option ℕ) → is_some (option_map suc o) ≡ is_some o
    moved None = refl
    moved (Some k) = refl

    by : (b : Bool) → is_some (cond b (Some 0) (option_map suc (place_in rows name))) ≡ true
        → (is_some (place_in rows name) ≡ true → is_some (file_named (map class_file rows) name) ≡ true)
        → is_some (cond b (Some (class_file row)) (file_named (map class_file rows) name)) ≡ true
    by true there later = refl
    by false there later = later (sym (moved (place_in rows name)) ∙ there)

pub new_names : (classes : List ClassFile) (rows : List WrittenClass) → twice (map class_file rows) classes ≡ None → (name : List ℕ) → is_some (place_in rows name) ≡ true
    → position (λ c. bytes_eq (name_of c) name) classes ≡ None
new_names classes rows once name there = none_named (map class_file rows) classes name once (file_there rows name there)
