use Rattle.std.specs.Char.{encode_utf8}
use Rattle.std.specs.Char.Utf16.{utf16_chars}
use Rattle.std.specs.Fmt.{digits}
use Rattle.std.specs.Prelude.{refl}
use Rattle.vx_desc.specs.Descriptors.{element_at, field_of, method_of, result_at, type_at, types_at}
use Rattle.vx_desc.specs.Names.{is_class_name}
use Rattle.vx_opcode.specs.Decode.{instruction_at, lookup_at, shaped_at, table_at, wide_at}
use Rattle.vx_opcode.specs.Numbers.{s1, s2, s4, u2, u4}
use Rattle.vx_computed.proofs.programs.single_runs.Goals as goal

pub returns-clause-grid : goal.returns-clause-grid
unfolding utf16_chars encode_utf8 digits is_class_name element_at type_at types_at result_at method_of field_of u2 u4 s1 s2 s4 table_at lookup_at wide_at shaped_at instruction_at
returns-clause-grid c = refl

pub returns-clause-array_store : goal.returns-clause-array_store
unfolding utf16_chars encode_utf8 digits is_class_name element_at type_at types_at result_at method_of field_of u2 u4 s1 s2 s4 table_at lookup_at wide_at shaped_at instruction_at
returns-clause-array_store c = refl

pub returns-clause-array_classes : goal.returns-clause-array_classes
unfolding utf16_chars encode_utf8 digits is_class_name element_at type_at types_at result_at method_of field_of u2 u4 s1 s2 s4 table_at lookup_at wide_at shaped_at instruction_at
returns-clause-array_classes c = refl

pub returns-clause-copy_that_stops : goal.returns-clause-copy_that_stops
unfolding utf16_chars encode_utf8 digits is_class_name element_at type_at types_at result_at method_of field_of u2 u4 s1 s2 s4 table_at lookup_at wide_at shaped_at instruction_at
returns-clause-copy_that_stops c = refl

pub returns-clause-table_switch : goal.returns-clause-table_switch
unfolding utf16_chars encode_utf8 digits is_class_name element_at type_at types_at result_at method_of field_of u2 u4 s1 s2 s4 table_at lookup_at wide_at shaped_at instruction_at
returns-clause-table_switch c = refl

pub returns-clause-longs : goal.returns-clause-longs
unfolding utf16_chars encode_utf8 digits is_class_name element_at type_at types_at result_at method_of field_of u2 u4 s1 s2 s4 table_at lookup_at wide_at shaped_at instruction_at
returns-clause-longs c = refl

pub returns-clause-full_stack : goal.returns-clause-full_stack
unfolding utf16_chars encode_utf8 digits is_class_name element_at type_at types_at result_at method_of field_of u2 u4 s1 s2 s4 table_at lookup_at wide_at shaped_at instruction_at
returns-clause-full_stack c = refl

pub returns-clause-narrow_fields : goal.returns-clause-narrow_fields
unfolding utf16_chars encode_utf8 digits is_class_name element_at type_at types_at result_at method_of field_of u2 u4 s1 s2 s4 table_at lookup_at wide_at shaped_at instruction_at
returns-clause-narrow_fields c = refl

pub returns-clause-builder : goal.returns-clause-builder
unfolding utf16_chars encode_utf8 digits is_class_name element_at type_at types_at result_at method_of field_of u2 u4 s1 s2 s4 table_at lookup_at wide_at shaped_at instruction_at
returns-clause-builder c = refl

pub returns-clause-integers : goal.returns-clause-integers
unfolding utf16_chars encode_utf8 digits is_class_name element_at type_at types_at result_at method_of field_of u2 u4 s1 s2 s4 table_at lookup_at wide_at shaped_at instruction_at
returns-clause-integers c = refl

pub returns-clause-null_cast : goal.returns-clause-null_cast
unfolding utf16_chars encode_utf8 digits is_class_name element_at type_at types_at result_at method_of field_of u2 u4 s1 s2 s4 table_at lookup_at wide_at shaped_at instruction_at
returns-clause-null_cast c = refl

pub returns-clause-gone_field : goal.returns-clause-gone_field
unfolding utf16_chars encode_utf8 digits is_class_name element_at type_at types_at result_at method_of field_of u2 u4 s1 s2 s4 table_at lookup_at wide_at shaped_at instruction_at
returns-clause-gone_field c = refl

pub returns-clause-gone_method : goal.returns-clause-gone_method
unfolding utf16_chars encode_utf8 digits is_class_name element_at type_at types_at result_at method_of field_of u2 u4 s1 s2 s4 table_at lookup_at wide_at shaped_at instruction_at
returns-clause-gone_method c = refl

pub returns-clause-left_out_native : goal.returns-clause-left_out_native
unfolding utf16_chars encode_utf8 digits is_class_name element_at type_at types_at result_at method_of field_of u2 u4 s1 s2 s4 table_at lookup_at wide_at shaped_at instruction_at
returns-clause-left_out_native c = refl

pub returns-clause-subroutine : goal.returns-clause-subroutine
unfolding utf16_chars encode_utf8 digits is_class_name element_at type_at types_at result_at method_of field_of u2 u4 s1 s2 s4 table_at lookup_at wide_at shaped_at instruction_at
returns-clause-subroutine c = refl

pub returns-clause-recursion_of_200 : goal.returns-clause-recursion_of_200
unfolding utf16_chars encode_utf8 digits is_class_name element_at type_at types_at result_at method_of field_of u2 u4 s1 s2 s4 table_at lookup_at wide_at shaped_at instruction_at
returns-clause-recursion_of_200 c = refl
