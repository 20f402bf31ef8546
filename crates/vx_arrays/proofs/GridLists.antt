-- Arrays with their parts as plain objects: what one more part makes of them.
use Rattle.std.proofs.Common.{◌≡◌, ℕ, zero, suc, ◌+◌, ◌*◌, List, [], ◌∷◌, ◌++◌, refl, sym, ◌∙◌, ap, arith, length, replicate}
use Rattle.std.proofs.lemmas.List.{append-nil, append_assoc, length-append}
use Rattle.std.specs.Prelude.{slice_set}
use Rattle.vx_heap.specs.Changing.{with_cell_of}
use Rattle.vx_heap.specs.Heap.{Globals}
use Rattle.vx_java.specs.Arrays.{element_default, grid, grid_objects, parts_of, references_to}
use Rattle.vx_java.specs.Machine.{Object, Value, no_object}
use Rattle.vx_java.specs.Machine.{Ref as RefValue}
use Rattle.vx_link.specs.ClassNames.{component_of}
use Rattle.vx_link.specs.declared.program.Program.{Program}
use Rattle.vx_list.specs.Places.{item_or}
use Rattle.vx_arrays.specs.Making.{with_grid}

-- ---- lists

set_behind : {A : Type 0} (xs ys : List A) (y z : A) (n : ℕ) → length xs ≡ n → slice_set (xs ++ y ∷ ys) n z ≡ xs ++ z ∷ ys
set_behind [] ys y z zero l = refl
set_behind [] ys y z (suc n) l = absurd (omega (arith, l))
set_behind (x ∷ xs) ys y z zero l = absurd (omega (arith, l))
set_behind (x ∷ xs) ys y z (suc n) l = ap (λ zs. x ∷ zs) (set_behind xs ys y z n (omega (arith, l)))

item_behind : {A : Type 0} (xs ys : List A) (y d : A) → item_or (xs ++ y ∷ ys) (length xs) d ≡ y
item_behind [] ys y d = refl
item_behind (x ∷ xs) ys y d = item_behind xs ys y d

-- ---- references and parts

references_length : (n each from : ℕ) → length (references_to n each from) ≡ n
references_length zero each from = refl
references_length (suc n) each from = ap suc (references_length n each (from + each))

references_more : (n each from : ℕ) → references_to (suc n) each from ≡ references_to n each from ++ RefValue (from + n * each) ∷ []
references_more zero each from =
    let same : from ≡ from + 0 * each = omega arith in
    ap (λ k. RefValue k ∷ []) same
references_more (suc n) each from =
    let same : (from + each) + n * each ≡ from + suc n * each = further n each from in
    ap (λ rs. RefValue from ∷ rs) (references_more n each (from + each))
    ∙ ap (λ k. RefValue from ∷ (references_to n each (from + each) ++ RefValue k ∷ [])) same
  where
    further : (n each from : ℕ) → (from + each) + n * each ≡ from + suc n * each
    further n each from = grind arith

parts_length : (part : ℕ → List Object) (each : ℕ) → ((from : ℕ) → length (part from) ≡ each) → (n from : ℕ) → length (parts_of part n each from) ≡ n * each
parts_length part each h zero from = omega arith
parts_length part each h (suc n) from =
    let rest = parts_length part each h n (from + each) in
    let first = h from in
    length-append (part from) (parts_of part n each (from + each)) ∙ sums (length (part from)) (length (parts_of part n each (from + each))) n first rest
  where
    sums : (a b n : ℕ) → a ≡ each → b ≡ n * each → a + b ≡ suc n * each
    sums a b n e f = grind (arith, e, f)

parts_more : (part : ℕ → List Object) (n each from : ℕ) → parts_of part (suc n) each from ≡ parts_of part n each from ++ part (from + n * each)
parts_more part zero each from =
    let same : from ≡ from + 0 * each = omega arith in
    append-nil (part from) ∙ ap part same
parts_more part (suc n) each from =
    let same : (from + each) + n * each ≡ from + suc n * each = further n each from in
    ap (λ os. part from ++ os) (parts_more part n each (from + each))
    ∙ ap (λ k. part from ++ (parts_of part n each (from + each) ++ part k)) same
    ∙ sym (append_assoc (part from) (parts_of part n each (from + each)) (part (from + suc n * each)))
  where
    further : (n each from : ℕ) → (from + each) + n * each ≡ from + suc n * each
    further n each from = grind arith

grid_length : (p : Program) (class : ℕ) (lengths : List ℕ) (from : ℕ) → length (grid p class lengths from) ≡ grid_objects lengths
grid_length p class [] from = refl
grid_length p class (n ∷ []) from =
    let same : 1 ≡ 1 + n * 0 = omega arith in
    same
grid_length p class (n ∷ m ∷ ns) from =
    let parts = parts_length (grid p (component_of p class) (m ∷ ns)) (grid_objects (m ∷ ns)) (grid_length p (component_of p class) (m ∷ ns)) n (from + 1) in
    ap suc parts ∙ one (n * grid_objects (m ∷ ns))
  where
    one : (k : ℕ) → suc k ≡ 1 + k
    one k = omega arith

-- ---- an array with so many of its parts

-- of so many objects each, with these elements behind
abbrev pub with_parts : (class size : ℕ) (part : ℕ → List Object) (each : ℕ) (rest : List Value) (n : ℕ) → Globals → Globals
with_parts class size part each rest n g =
    record g {
      objects = g.objects
          ++ record { class = class; size = size; cells = references_to n each (length g.objects + 1) ++ rest }
          ∷ parts_of part n each (length g.objects + 1);
    }

abbrev with_objects_of : (part : ℕ → List Object) → Globals → Globals
with_objects_of part g = record g { objects = g.objects ++ part (length g.objects) }

-- one more
pub part_put : (class size : ℕ) (part : ℕ → List Object) (each : ℕ) (first : Value) (rest : List Value) (n : ℕ) (g : Globals) → ((from : ℕ) → length (part from) ≡ each) → with_cell_of (length g.objects) n (RefValue (length (with_parts class size part each (first ∷ rest) n g).objects)) (with_objects_of part (with_parts class size part each (first ∷ rest) n g)) ≡ with_parts class size part each rest (suc n) g
part_put class size part each first rest n g h = λ j. record g { objects = objects j }
  where
    xs : List Object
    xs = g.objects

    cells : List Value
    cells = references_to n each (length g.objects + 1)

    parts : List Object
    parts = parts_of part n each (length g.objects + 1)

    array : List Value → Object
    array vs = record { class = class; size = size; cells = vs }

    next : ℕ
    next = length (xs ++ array (cells ++ first ∷ rest) ∷ parts)

    place : next ≡ length xs + 1 + n * each
    place =
        let parts_are : length parts ≡ n * each = parts_length part each h n (length xs + 1) in
        let all : next ≡ length xs + length (array (cells ++ first ∷ rest) ∷ parts) = length-append xs (array (cells ++ first ∷ rest) ∷ parts) in
        omega (arith, all, parts_are)

    -- all objects, and the array among them
    before : (xs ++ array (cells ++ first ∷ rest) ∷ parts) ++ part next ≡ xs ++ array (cells ++ first ∷ rest) ∷ (parts ++ part next)
    before = append_assoc xs (array (cells ++ first ∷ rest) ∷ parts) (part next)

    after : List Object → List Object
    after os =
        let object = item_or os (length xs) no_object in
        slice_set os (length xs) (record object { cells = slice_set object.cells n (RefValue next) })

    written : after (xs ++ array (cells ++ first ∷ rest) ∷ (parts ++ part next)) ≡ xs ++ array (cells ++ RefValue next ∷ rest) ∷ (parts ++ part next)
    written =
        ap (λ (o : Object). slice_set (xs ++ array (cells ++ first ∷ rest) ∷ (parts ++ part next)) (length xs) (record o { cells = slice_set o.cells n (RefValue next) })) (item_behind xs (parts ++ part next) (array (cells ++ first ∷ rest)) no_object)
        ∙ ap (λ vs. slice_set (xs ++ array (cells ++ first ∷ rest) ∷ (parts ++ part next)) (length xs) (array vs)) (set_behind cells rest first (RefValue next) n (references_length n each (length xs + 1)))
        ∙ set_behind xs (parts ++ part next) (array (cells ++ first ∷ rest)) (array (cells ++ RefValue next ∷ rest)) (length xs) refl

    more_cells : cells ++ RefValue next ∷ rest ≡ references_to (suc n) each (length xs + 1) ++ rest
    more_cells =
        ap (λ k. cells ++ RefValue k ∷ rest) place
        ∙ sym (append_assoc cells (RefValue (length xs + 1 + n * each) ∷ []) rest)
        ∙ ap (λ vs. vs ++ rest) (sym (references_more n each (length xs + 1)))

    more_parts : parts ++ part next ≡ parts_of part (suc n) each (length xs + 1)
    more_parts = ap (λ k. parts ++ part k) place ∙ sym (parts_more part n each (length xs + 1))

    objects : after ((xs ++ array (cells ++ first ∷ rest) ∷ parts) ++ part next) ≡ xs ++ array (references_to (suc n) each (length xs + 1) ++ rest) ∷ parts_of part (suc n) each (length xs + 1)
    objects = ap after before ∙ written ∙ (λ j. xs ++ array (more_cells j) ∷ more_parts j)

-- ---- the array of a program

-- with so many of its parts, where so many elements are left
abbrev pub with_some : Program → (class size next : ℕ) → (others : List ℕ) → (left n : ℕ) → Globals → Globals
with_some p class size next others left n g =
    with_parts class size (grid p (component_of p class) (next ∷ others)) (grid_objects (next ∷ others)) (replicate left (element_default p class)) n g

pub some_more : (p : Program) (class size next : ℕ) (others : List ℕ) (left n : ℕ) (g : Globals) → with_cell_of (length g.objects) n (RefValue (length (with_some p class size next others (suc left) n g).objects)) (with_grid p (component_of p class) (next ∷ others) (with_some p class size next others (suc left) n g)) ≡ with_some p class size next others left (suc n) g
some_more p class size next others left n g = part_put class size (grid p (component_of p class) (next ∷ others)) (grid_objects (next ∷ others)) (element_default p class) (replicate left (element_default p class)) n g (grid_length p (component_of p class) (next ∷ others))

pub some_all : (p : Program) (class size next : ℕ) (others : List ℕ) (g : Globals) → with_some p class size next others 0 size g ≡ with_grid p class (size ∷ next ∷ others) g
some_all p class size next others g =
    ap (λ vs. record g { objects = g.objects ++ record { class = class; size = size; cells = vs } ∷ parts_of (grid p (component_of p class) (next ∷ others)) size (grid_objects (next ∷ others)) (length g.objects + 1) })
    (append-nil (references_to size (grid_objects (next ∷ others)) (length g.objects + 1)))
