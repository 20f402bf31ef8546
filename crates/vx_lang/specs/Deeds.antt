-- What native methods do, by their behaviours, at one configuration.
use Rattle.std.specs.Prelude.{if◌then◌else◌}
use Rattle.vx_heap.specs.Heap.{HeapView}
use Rattle.vx_link.specs.declared.program.Program.{Program}
use Rattle.vx_natives.specs.Deeds.{Deed}
use Rattle.vx_natives.specs.declared.behaviour.Behaviour.{Behaviour}
use Rattle.vx_natives.specs.declared.behaviour.Behaviour.TheVariants as behaviour
use Rattle.vx_natives.specs.declared.call.Call.{Call}
use Rattle.vx_strings.specs.Changes.{changed, initialised, is_of_text, is_text_maker, made}
use Rattle.vx_strings.specs.Printed.{printed}
use Rattle.vx_strings.specs.Questions.{asked, refused}
use Rattle.vx_lang.specs.Numbers.{begun, copied, made_number}
use Rattle.vx_lang.specs.Questions.{asked_cells}
use Rattle.vx_lang.specs.Values.{computed}

abbrev pub deed : {S I : Type 0} → Program → HeapView S I → Behaviour → Call → Deed
deed p heap behaviour.Missing call = refused
deed p heap (behaviour.Compute k) call = computed k call
deed p heap (behaviour.AskCells q) call = asked_cells heap q call
deed p heap (behaviour.AskTexts q) call = asked p heap q call
deed p heap (behaviour.Initialise i) call = if is_of_text i then initialised i call else begun i call
deed p heap (behaviour.Change b) call = changed heap.texts b call
deed p heap (behaviour.Make m) call = if is_text_maker m then made heap.texts m call else made_number p heap m call
deed p heap (behaviour.Print b) call = printed b call
deed p heap behaviour.CopyArray call = copied p heap call
