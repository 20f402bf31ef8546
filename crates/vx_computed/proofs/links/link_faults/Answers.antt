use Rattle.std.specs.Char.{encode_utf8}
use Rattle.std.specs.Char.Utf16.{utf16_chars}
use Rattle.std.specs.Fmt.{digits}
use Rattle.std.specs.Prelude.{refl}
use Rattle.vx_desc.specs.Descriptors.{element_at, field_of, method_of, result_at, type_at, types_at}
use Rattle.vx_desc.specs.Names.{is_class_name}
use Rattle.vx_opcode.specs.Decode.{instruction_at, lookup_at, shaped_at, table_at, wide_at}
use Rattle.vx_opcode.specs.Numbers.{s1, s2, s4, u2, u4}
use Rattle.vx_computed.proofs.links.link_faults.Goals as goal

pub returns-clause-no_fault : goal.returns-clause-no_fault
unfolding utf16_chars encode_utf8 digits is_class_name element_at type_at types_at result_at method_of field_of u2 u4 s1 s2 s4 table_at lookup_at wide_at shaped_at instruction_at
returns-clause-no_fault c = refl

pub returns-clause-twice_named : goal.returns-clause-twice_named
unfolding utf16_chars encode_utf8 digits is_class_name element_at type_at types_at result_at method_of field_of u2 u4 s1 s2 s4 table_at lookup_at wide_at shaped_at instruction_at
returns-clause-twice_named c = refl

pub returns-clause-gone_superclass : goal.returns-clause-gone_superclass
unfolding utf16_chars encode_utf8 digits is_class_name element_at type_at types_at result_at method_of field_of u2 u4 s1 s2 s4 table_at lookup_at wide_at shaped_at instruction_at
returns-clause-gone_superclass c = refl

pub returns-clause-interface_as_superclass : goal.returns-clause-interface_as_superclass
unfolding utf16_chars encode_utf8 digits is_class_name element_at type_at types_at result_at method_of field_of u2 u4 s1 s2 s4 table_at lookup_at wide_at shaped_at instruction_at
returns-clause-interface_as_superclass c = refl

pub returns-clause-own_ancestors : goal.returns-clause-own_ancestors
unfolding utf16_chars encode_utf8 digits is_class_name element_at type_at types_at result_at method_of field_of u2 u4 s1 s2 s4 table_at lookup_at wide_at shaped_at instruction_at
returns-clause-own_ancestors c = refl

pub returns-clause-final_superclass : goal.returns-clause-final_superclass
unfolding utf16_chars encode_utf8 digits is_class_name element_at type_at types_at result_at method_of field_of u2 u4 s1 s2 s4 table_at lookup_at wide_at shaped_at instruction_at
returns-clause-final_superclass c = refl

pub returns-clause-option_without_field : goal.returns-clause-option_without_field
unfolding utf16_chars encode_utf8 digits is_class_name element_at type_at types_at result_at method_of field_of u2 u4 s1 s2 s4 table_at lookup_at wide_at shaped_at instruction_at
returns-clause-option_without_field c = refl

pub returns-clause-without_main : goal.returns-clause-without_main
unfolding utf16_chars encode_utf8 digits is_class_name element_at type_at types_at result_at method_of field_of u2 u4 s1 s2 s4 table_at lookup_at wide_at shaped_at instruction_at
returns-clause-without_main c = refl
