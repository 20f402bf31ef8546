use Rattle.std.proofs.Common.{refl}
use Rattle.vx_core.specs.Rows.{field_pool, head_pool, instruction_bytes, method_pool, row_code, row_file, row_number, row_numbers, row_pool, with_class, with_field, with_field_file, with_interface, with_member, with_method, with_method_file, with_reference, with_super, with_text, with_typed, with_unusable}
use Rattle.vx_core.proofs.CoreRows.{has_more}
use Rattle.vx_core.proofs.draft.put_texts.Goals as goal

pub returns : goal.returns
unfolding field_pool head_pool instruction_bytes method_pool row_code row_file row_number row_numbers row_pool with_class with_field with_field_file with_interface with_member with_method with_method_file with_reference with_super with_text with_typed with_unusable
returns c = has_more 8 2 _ _ c.requires c.in_ok-put_rows.ensures refl refl
