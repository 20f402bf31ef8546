-- How many members class files and programs have, so that numbers of 32 bits name them.
use Rattle.std.specs.Prelude.{length, ◌*◌, ◌<◌, ◌≤◌}
use Rattle.vx_class.specs.declared.class_file.ClassFile.{ClassFile}
use Rattle.vx_linker.specs.declared.parts.Parts.{Parts}
use Rattle.vx_link.specs.declared.program.LinkedClass.{LinkedClass}

-- a class file counts its methods and its fields in two bytes each (JVMS 4.1)
pub record HasFewMembers (c : ClassFile) : Type 0 where
  pub methods : length c.methods < 65536
  pub fields : length c.fields < 65536

-- at most so many members a class; a class without <clinit> has one more method
pub record AreFew (parts : Parts) : Type 0 where
  pub methods : length parts.methods ≤ 65536 * length parts.classes
  pub fields : length parts.fields ≤ 65536 * length parts.classes

pub record HasFewFields (c : LinkedClass) : Type 0 where
  pub fields : length c.fields < 65536
