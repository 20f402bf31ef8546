use Rattle.std.proofs.Common.{◌≡◌, ℕ, List, Result, Ok, Err, arith}
use Rattle.std.specs.Prelude.{IfOk}
use Rattle.vx_pool.specs.declared.fault.ClassFault.{ClassFault}
use Rattle.vx_pool.specs.declared.fault.ClassFault.TheVariants as fault
use Rattle.vx_pool.specs.Place.{IsBytes}
use Rattle.vx_pool.specs.Reading.{Fault, Answers, IsReadAs}
use Rattle.vx_class.specs.declared.class_file.ClassFile.{ClassFile}
use Rattle.vx_class.specs.Class.{class_of}
use Rattle.vx_class.specs.File.{File}
use Rattle.vx_class.proofs.ClassTook.{class_took}
use Rattle.vx_class.proofs.ClassReads.{class_reads_all}
use Rattle.vx_class.proofs.reading.read_class.Goals as goal

is_found : (bytes : List ℕ) (r : Result ClassFile ClassFault) → IsBytes bytes → Answers r (class_of bytes) → IfOk r (λ c. File bytes c)
is_found bytes (Ok c) fits e = class_took bytes c fits e
is_found bytes (Err f) fits e = tt

pub returns-clause-found : goal.returns-clause-found
returns-clause-found c = is_found c.args.bytes.now c.whole.result (λ i. omega (arith, c.type_inv.bytes i)) c.whole.ensures

is_only : (bytes : List ℕ) (r : Result ClassFile ClassFault) (x : ClassFile) → Answers r (class_of bytes) → class_of bytes ≡ Ok x → IsReadAs x r
is_only bytes (Ok y) x e f = cc
is_only bytes (Err fault.NoMemory) x e f = tt
is_only bytes (Err (fault.Bad at reason)) x e f = absurd cc

pub returns-clause-only : goal.returns-clause-only
returns-clause-only c = λ x file. is_only c.args.bytes.now c.whole.result x c.whole.ensures (class_reads_all c.args.bytes.now x file)

same : (x y : ClassFile) (r : Result ClassFile Fault) → r ≡ Ok x → r ≡ Ok y → x ≡ y
same x y (Ok z) e f = cc
same x y (Err z) e f = absurd cc

pub returns-clause-one : goal.returns-clause-one
returns-clause-one c = λ x y first second. same x y (class_of c.args.bytes.now) (class_reads_all c.args.bytes.now x first) (class_reads_all c.args.bytes.now y second)
