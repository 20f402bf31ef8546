-- The class files of the core classes, and the numbers of their native methods.
use Rattle.std.specs.Prelude.{List, length, map, ℕ}
use Rattle.vx_class.specs.declared.class_file.ClassFile.{ClassFile}
use Rattle.vx_link.specs.CoreTable.{core_table}
use Rattle.vx_link.specs.Written.{How, class_file, number}

abbrev pub core_files : List ClassFile
core_files = map class_file core_table

abbrev pub number_of : How → ℕ
number_of (number n) = n
number_of _ = 0

-- for each core class and each of its methods the number of a native one, and 0 for another
abbrev pub native_numbers : List (List ℕ)
native_numbers = map (λ c. map (λ m. number_of m.how) c.methods) core_table

abbrev pub core_count : ℕ
core_count = length core_table
