-- One local variable, read and replaced.
use Rattle.std.proofs.Common.{List, [], ap, arith, length, length-take, refl, subst, suc, sym, take, zero, ℕ, ◌<◌, ◌^◌, ◌∙◌, ◌∷◌, ◌≡◌, ◌≤◌}
use Rattle.std.proofs.Math.Seq.{take-set-lt}
use Rattle.std.proofs.lemmas.List.{length-map, map-set}
use Rattle.std.proofs.lemmas.List.Elements.{All-get_or, All-set}
use Rattle.std.specs.Prelude.{All, map, slice_index, slice_set}
use Rattle.vx_list.specs.Places.{item_or}
use Rattle.vx_numbered.proofs.Growing.{grows_itself}
use Rattle.vx_numbered.proofs.TreeLaws.{leaves_count}
use Rattle.vx_numbered.specs.Trees.{Grows, IsMade}
use Rattle.vx_numbered.specs.declared.chains.Link.{Link}
use Rattle.vx_types.specs.declared.types.VerType.{VerType}
use Rattle.vx_types.specs.declared.types.VerType.TheVariants.{Top}
use Rattle.vx_verify.proofs.StoreLaws.{later_itself, store_grown, top_is}
use Rattle.vx_verify.specs.States.{AreTypes, HasLocals, IsRow, IsStore, locals_at, row_at, type_at, types_at}
use Rattle.vx_verify.specs.declared.rows.Frame.{Frame}
use Rattle.vx_verify.specs.declared.store.Store.{Store}

-- ---- places of lists

pub item_mapped : {A B : Type 0} (f : A → B) (xs : List A) (i : ℕ) (d : A) → item_or (map f xs) i (f d) ≡ f (item_or xs i d)
item_mapped f [] i d = refl
item_mapped f (x ∷ xs) zero d = refl
item_mapped f (x ∷ xs) (suc i) d = item_mapped f xs i d

index_item : (xs : List ℕ) (i : ℕ) → slice_index xs i ≡ item_or xs i 0
index_item [] i = refl
index_item (x ∷ xs) zero = refl
index_item (x ∷ xs) (suc i) = index_item xs i

item_taken : {A : Type 0} (xs : List A) (k i : ℕ) (d : A) → i < k → item_or (take k xs) i d ≡ item_or xs i d
item_taken xs zero i d l = absurd (omega (arith, l))
item_taken [] (suc k) i d l = refl
item_taken (x ∷ xs) (suc k) zero d l = refl
item_taken (x ∷ xs) (suc k) (suc i) d l = item_taken xs k i d (omega (arith, l))

pub item_past : {A : Type 0} (xs : List A) (i : ℕ) (d : A) → length xs ≤ i → item_or xs i d ≡ d
item_past [] i d l = refl
item_past (x ∷ xs) zero d l = absurd (omega (arith, l))
item_past (x ∷ xs) (suc i) d l = item_past xs i d (omega (arith, l))

pub set_past : {A : Type 0} (xs : List A) (i : ℕ) (v : A) → length xs ≤ i → slice_set xs i v ≡ xs
set_past [] i v l = refl
set_past (x ∷ xs) zero v l = absurd (omega (arith, l))
set_past (x ∷ xs) (suc i) v l = ap (λ ys. x ∷ ys) (set_past xs i v (omega (arith, l)))

pub set_itself : {A : Type 0} (xs : List A) (i : ℕ) (d : A) → slice_set xs i (item_or xs i d) ≡ xs
set_itself [] i d = refl
set_itself (x ∷ xs) zero d = refl
set_itself (x ∷ xs) (suc i) d = ap (λ ys. x ∷ ys) (set_itself xs i d)

-- ---- local variables

few_locals : (s : Store) (frame : Frame) (tree : ℕ) → length (locals_at s frame tree) ≤ frame.locals
few_locals s frame tree =
    let taken : length (take frame.locals (row_at s frame.levels tree)) ≤ frame.locals = omega (arith, length-take frame.locals (row_at s frame.levels tree)) in
    omega (arith, taken, length-map (take frame.locals (row_at s frame.levels tree)) (type_at s))

pub local_past : (s : Store) (frame : Frame) (tree place : ℕ) → IsStore s → frame.locals ≤ place → type_at s 0 ≡ item_or (locals_at s frame tree) place Top
local_past s frame tree place is l =
    let few = few_locals s frame tree in top_is s is ∙ sym (item_past (locals_at s frame tree) place Top (omega (arith, few, l)))

pub local_leaf : (s : Store) (frame : Frame) (tree place number : ℕ) → IsStore s → place < frame.locals → number ≡ slice_index (row_at s frame.levels tree) place
    → type_at s number ≡ item_or (locals_at s frame tree) place Top
local_leaf s frame tree place number is l e =
    ap (type_at s) (e ∙ index_item (row_at s frame.levels tree) place ∙ sym (item_taken (row_at s frame.levels tree) frame.locals place 0 l))
    ∙ sym (item_mapped (type_at s) (take frame.locals (row_at s frame.levels tree)) place 0)
    ∙ ap (λ (d : VerType). item_or (locals_at s frame tree) place d) (top_is s is)

pub leaf_within : (s : Store) (frame : Frame) (tree place number : ℕ) → IsRow s frame.levels tree → place < 2 ^ frame.levels → number ≡ slice_index (row_at s frame.levels tree) place
    → number < length s.types.items
leaf_within s frame tree place number row l e =
    let count = leaves_count s.trees.pairs.items frame.levels tree in
    subst (λ n. n < length s.types.items) (sym e)
    (All-get_or (λ n. n < length s.types.items) (row_at s frame.levels tree) place 0 (omega (arith, count, l)) row.are_types)

-- ---- with another type

pub locals_same : (s : Store) (frame : Frame) (tree place : ℕ) (t : VerType) → IsStore s → IsRow s frame.levels tree → frame.locals ≤ place
    → HasLocals s s frame tree (slice_set (locals_at s frame tree) place t)
locals_same s frame tree place t is row l =
    let few = few_locals s frame tree in
    record { later = later_itself s is; row = row; is = sym (set_past (locals_at s frame tree) place t (omega (arith, few, l))) }

-- the same types, whatever else a store has
same_types : (s t : Store) (ns : List ℕ) → t.types.items ≡ s.types.items → types_at t ns ≡ types_at s ns
same_types s t ns e = ap (λ (xs : List VerType). map (λ n. item_or xs n Top) ns) e

pub locals_set : (s t : Store) (frame : Frame) (tree place item made : ℕ) → IsStore s → t.types.items ≡ s.types.items → t.chains.links.items ≡ s.chains.links.items
    → IsRow s frame.levels tree → item < length s.types.items → place < frame.locals
    → IsMade s.trees.pairs.items t.trees.pairs.items frame.levels made (slice_set (row_at s frame.levels tree) place item)
    → HasLocals s t frame made (slice_set (locals_at s frame tree) place (type_at s item))
locals_set s t frame tree place item made is types links row within l set =
    let g : Grows s.types.items t.types.items = subst (λ (xs : List VerType). Grows s.types.items xs) (sym types) (grows_itself s.types.items) in
    let whole = row_at s frame.levels tree in
    record {
      later = record {
        types = g;
        pairs = set.grows;
        links = subst (λ (ls : List Link). Grows s.chains.links.items ls) (sym links) (grows_itself s.chains.links.items);
        store = store_grown s t is g links;
      };
      row = record {
        is_tree = set.is_tree;
        are_types = subst (λ ns. AreTypes t ns) (sym set.has)
            (subst (λ (xs : List VerType). All (λ n. n < length xs) (slice_set whole place item)) (sym types)
            (All-set (λ n. n < length s.types.items) whole place item within row.are_types));
      };
      is = ap (λ ns. types_at t (take frame.locals ns)) set.has
          ∙ same_types s t (take frame.locals (slice_set whole place item)) types
          ∙ ap (types_at s) (take-set-lt frame.locals whole place item l)
          ∙ map-set (type_at s) (take frame.locals whole) place item;
    }
