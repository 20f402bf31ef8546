-- The entries of constants are a pool that a reading can give.
use Rattle.std.specs.Prelude.{◌≡◌, ◌<◌, ◌^◌, List, [], ◌∷◌, ◌++◌, length, sum_by, false, refl}
use Rattle.std.specs.List.{flat_map, AllByRecursion}
use Rattle.std.proofs.Common.{ap, ◌∙◌, arith, length-append}
use Rattle.std.proofs.Math.Nat.{mod-lt}
use Rattle.std.proofs.lemmas.Bool.{lt-ltb}
use Rattle.std.proofs.lemmas.List.Concat.{flat_map-cons}
use Rattle.std.proofs.lemmas.List.Sums.{sum_by-cons}
use Rattle.vx_pool.specs.declared.pool.Entry.{Entry}
use Rattle.vx_pool.specs.Spelling.{ArePlaced, IsPool}
use Rattle.vx_class_parts.specs.Constants.{HasRoom, width, places, in_file, entries_of, pool_of}
use Rattle.vx_class_parts.specs.declared.constants.Constant.{Constant}
use Rattle.vx_class_parts.specs.declared.constants.Constant.TheVariants as constant
use Rattle.vx_class_parts.specs.declared.constants.Kind.TheVariants as kind

-- an index has room in the file
in_file_fits : (pool : List Constant) (c : Constant) → in_file pool c < 256 ^ 2
in_file_fits pool c = mod-lt _ (omega arith)

-- the places of a constant, before others
one_placed : (all : List Constant) (c : Constant) (others : List Entry) → HasRoom c → ArePlaced others false → ArePlaced (entries_of all c ++ others) false
one_placed all (constant.Text text) others h p = rw (lt-ltb _ _ h.1) (h, p)
one_placed all (constant.Integer n) others h p = (h, p)
one_placed all (constant.Long n) others h p = (h, (refl, p))
one_placed all (constant.Class name) others h p = (in_file_fits all (constant.Text name), p)
one_placed all (constant.Literal text) others h p = (in_file_fits all (constant.Text text), p)
one_placed all (constant.NameAndType name descriptor) others h p = ((in_file_fits all (constant.Text name), in_file_fits all (constant.Text descriptor)), p)
one_placed all (constant.Member kind.Field class name descriptor) others h p = ((in_file_fits all (constant.Class class), in_file_fits all (constant.NameAndType name descriptor)), p)
one_placed all (constant.Member kind.Method class name descriptor) others h p = ((in_file_fits all (constant.Class class), in_file_fits all (constant.NameAndType name descriptor)), p)
one_placed all (constant.Member kind.InterfaceMethod class name descriptor) others h p = ((in_file_fits all (constant.Class class), in_file_fits all (constant.NameAndType name descriptor)), p)

all_placed : (all pool : List Constant) → AllByRecursion HasRoom pool → ArePlaced (flat_map (entries_of all) pool) false
all_placed all [] h = refl
all_placed all (c ∷ cs) h = rw (flat_map-cons (entries_of all) c cs) (one_placed all c (flat_map (entries_of all) cs) h.0 (all_placed all cs h.1))

one_length : (all : List Constant) (c : Constant) → length (entries_of all c) ≡ width c
one_length all (constant.Long n) = refl
one_length all (constant.Text text) = refl
one_length all (constant.Integer n) = refl
one_length all (constant.Class name) = refl
one_length all (constant.Literal text) = refl
one_length all (constant.NameAndType name descriptor) = refl
one_length all (constant.Member k class name descriptor) = refl

all_length : (all pool : List Constant) → length (flat_map (entries_of all) pool) ≡ sum_by width pool
all_length all [] = refl
all_length all (c ∷ cs) =
    let one = one_length all c in
    let others = all_length all cs in
    let front = ap (length {A = Entry}) (flat_map-cons (entries_of all) c cs) ∙ length-append (entries_of all c) (flat_map (entries_of all) cs) in
    let sum = sum_by-cons width c cs in
    omega (arith, one, others, front, sum)

pub is_pool : (pool : List Constant) → AllByRecursion HasRoom pool → places pool < 65536 → IsPool (pool_of pool)
is_pool pool h few = record {
  entries = flat_map (entries_of pool) pool;
  are = refl;
  placed = all_placed pool pool h;
  few = let n = all_length pool pool in omega (arith, few, n);
}
