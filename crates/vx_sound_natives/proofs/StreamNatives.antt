-- The native methods of Class, PrintStream and Number, and the first ones of Object.
use Rattle.std.proofs.Common.{List, None, Some, [], false, ℕ, ◌∷◌}
use Prim.Native.String.{String}
use Rattle.vx_java.specs.Texts.{answer_false, object_init, print_line_end, print_of, same_object, spell_bool, spell_char, spell_chars, spell_int, spell_long, spell_string, stream_flush}
use Rattle.vx_sound_natives.proofs.Known.{Known, knows}
use Rattle.vx_sound_natives.proofs.Results.{bool_back, no_reference, nothing_back}
use Rattle.vx_sound_natives.proofs.TextNatives.{text}
use Rattle.vx_sound_natives.proofs.ValueKinds.{Kind, a_long, an_int, an_object, chars}

abbrev pub any_object : Kind
any_object = an_object "java/lang/Object"

unfoldable pub object_natives : List Known
object_natives =
    knows object_init (Some "java/lang/Object") [] None (λ typings h site rest on r at. nothing_back typings h site rest on)
    ∷ knows same_object (Some "java/lang/Object") (any_object ∷ []) (Some an_int) (λ typings h site rest on r at. (bool_back typings h site rest on false, λ s there. bool_back typings h site rest on _))
    ∷ []

unfoldable pub class_natives : List Known
class_natives = knows answer_false (Some "java/lang/Class") [] (Some an_int) (λ typings h site rest on r at. bool_back typings h site rest on false) ∷ []

abbrev stream : String
stream = "java/io/PrintStream"

-- print or println of each type
unfoldable pub print_natives : (line_end : List ℕ) → List Known
print_natives line_end =
    knows (print_of spell_bool line_end) (Some stream) (an_int ∷ []) None (λ typings h site rest on r at n. nothing_back typings h site rest on)
    ∷ knows (print_of spell_char line_end) (Some stream) (an_int ∷ []) None (λ typings h site rest on r at n. nothing_back typings h site rest on)
    ∷ knows (print_of spell_int line_end) (Some stream) (an_int ∷ []) None (λ typings h site rest on r at n. nothing_back typings h site rest on)
    ∷ knows (print_of spell_long line_end) (Some stream) (a_long ∷ []) None (λ typings h site rest on r at n. nothing_back typings h site rest on)
    ∷ knows (print_of spell_string line_end) (Some stream) (text ∷ []) None (λ typings h site rest on r at. (nothing_back typings h site rest on, λ s there. nothing_back typings h site rest on))
    ∷ knows (print_of spell_chars line_end) (Some stream) (chars ∷ []) None (λ typings h site rest on r at. (no_reference typings h site rest, λ a there. nothing_back typings h site rest on))
    ∷ []

unfoldable pub line_natives : List Known
line_natives =
    knows print_line_end (Some stream) [] None (λ typings h site rest on r at. nothing_back typings h site rest on)
    ∷ knows stream_flush (Some stream) [] None (λ typings h site rest on r at. nothing_back typings h site rest on)
    ∷ []
