-- Class files that are read with what they say of their source.
use Rattle.std.proofs.Common.{Err, List, Ok, Option, Result, ap, ℕ, ◌∙◌, ◌≡◌, sym}
use Rattle.vx_class.specs.Class.{class_of}
use Rattle.vx_class.specs.declared.class_file.ClassFile.{ClassFile}
use Rattle.vx_pool.specs.Reading.{Fails, Fault, ◌>>=◌}
use Rattle.vx_pool.specs.declared.fault.ClassFault.{ClassFault}
use Rattle.vx_pool.specs.declared.fault.ClassFault.TheVariants.{Bad, NoMemory}
use Rattle.vx_inputs.specs.Traced.{file_of, traced_of, with_source}
use Rattle.vx_inputs.specs.declared.taken.Traced.{Traced}
use Rattle.vx_lines.specs.Sources.{IsName}
use Rattle.vx_pool.specs.declared.pool.Pool.{Pool}

-- what is read of a class, beside what is said of its source
abbrev sourced : List ℕ → Result ClassFile Fault → Result Traced Fault
sourced bytes r = r >>= λ class. Ok (with_source bytes class)

pub is_traced : (bytes : List ℕ) (class : ClassFile) (t : Traced) → class_of bytes ≡ Ok class → t ≡ with_source bytes class → traced_of bytes ≡ Ok t
is_traced bytes class t read is = ap (sourced bytes) read ∙ ap Ok (sym is)

pub is_no_class : (bytes : List ℕ) (fault : ClassFault) → Fails {A = ClassFile} fault (class_of bytes) → Fails {A = Traced} fault (traced_of bytes)
is_no_class bytes NoMemory fails = tt
is_no_class bytes (Bad at reason) fails = ap (sourced bytes) fails

-- the name that was read is that of the index
pub is_file : (pool : Pool) (index : Result (Option ℕ) Fault) (name : Option (List ℕ)) → IsName pool index name → name ≡ file_of pool index
is_file pool (Ok index) name is = cc
is_file pool (Err fault) name is = absurd cc
