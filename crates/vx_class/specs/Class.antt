-- A class file, read from the front to the back.
use Rattle.std.specs.Prelude.{ℕ, ◌+◌, List, length, Result, Ok, is_some, not, nat_le, ◌==◌, ◌&&◌}
use Rattle.vx_pool.specs.declared.pool.Pool.{Pool}
use Rattle.vx_pool.specs.Place.{Place, start}
use Rattle.vx_pool.specs.Reading.{Fault, Read, ◌>>=◌, check, number, items}
use Rattle.vx_pool.specs.Pool.{pool_at}
use Rattle.vx_class.specs.declared.class_file.ClassFile.{ClassFile}
use Rattle.vx_class.specs.declared.reading.Head.{Head}
use Rattle.vx_pool.specs.Lookups.{entry_of, class, class_text, is_array}
use Rattle.vx_pool.specs.Entries.{where_read, usable, entries_checked}
use Rattle.vx_class.specs.Code.{all_skipped_at}
use Rattle.vx_class.specs.Members.{has, INTERFACE, fields_at, methods_at}

-- the magic number, and the minor and the major version
unfoldable pub versions_at : Place → Read (ℕ × ℕ)
versions_at s = do
  magic ← number 4 s
  check (magic.0 == 0xCAFEBABE) s.at 1 (do
    minor ← number 2 magic.1
    major ← number 2 minor.1
    check (nat_le 45 major.0 && nat_le major.0 52) minor.1.at 2 (Ok ((minor.0, major.0), major.1)))

-- the pool, whose entries meet their checks
unfoldable pub checked_pool_at : Place → Read Pool
checked_pool_at s = do
  pool ← pool_at s
  _ ← entries_checked pool.0 pool.0.entries (s.at + 2)
  Ok pool

-- the index of a class
unfoldable pub interface_at : Pool → Place → Read ℕ
interface_at pool s = do
  index ← number 2 s
  check (usable pool index.0) s.at 5 (check (is_some (class (entry_of pool index.0))) s.at 6 (Ok index))

-- the index of a class that is no array
unfoldable pub class_at : Pool → Place → Read ℕ
class_at pool s = do
  index ← interface_at pool s
  check (where_read (λ name. not (is_array name)) (class_text pool index.0)) s.at 6 (Ok index)

unfoldable pub interfaces_at : Pool → Place → Read (List ℕ)
interfaces_at pool s = do
  count ← number 2 s
  items (interface_at pool) count.0 count.1

-- the parts up to the superclass
unfoldable pub head_at : Place → Read Head
head_at s = do
  versions ← versions_at s
  pool ← checked_pool_at versions.1
  flags ← number 2 pool.1
  this_class ← class_at pool.0 flags.1
  super_class ← class_at pool.0 this_class.1
  Ok (
    record {
      minor = versions.0.0;
      major = versions.0.1;
      pool = pool.0;
      flags = flags.0;
      this_class = this_class.0;
      super_class = super_class.0;
    },
    super_class.1,
  )

-- the parts of a class file, one after the other, and then nothing
unfoldable pub file_at : Place → Read ClassFile
file_at s = do
  head ← head_at s
  interfaces ← interfaces_at head.0.pool head.1
  fields ← fields_at head.0.pool (has head.0.flags INTERFACE) interfaces.1
  methods ← methods_at head.0.pool head.0.major fields.1
  skipped ← all_skipped_at head.0.pool methods.1
  check (length skipped.1.rest == 0) skipped.1.at 13 (Ok (
    record {
      minor = head.0.minor;
      major = head.0.major;
      pool = head.0.pool;
      flags = head.0.flags;
      this_class = head.0.this_class;
      super_class = head.0.super_class;
      interfaces = interfaces.0;
      fields = fields.0;
      methods = methods.0;
    },
    skipped.1,
  ))

-- the class of a file, or the first check that fails
unfoldable pub class_of : List ℕ → Result ClassFile Fault
class_of bytes = do
  file ← file_at (start bytes)
  Ok file.0
