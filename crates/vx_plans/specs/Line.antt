-- The line of a status.
use Rattle.std.specs.Prelude.{ℕ, List, [], ◌++◌, codes, decimal}
use Rattle.vx_value.specs.Words.{word_of}
use Rattle.vx_link.specs.declared.fault.LinkFault.{LinkFault}
use Rattle.vx_link.specs.declared.fault.LinkFault.TheVariants as link
use Rattle.vx_link.specs.declared.fault.LinkFault.TheVariants.{Twice, NoSuper, Cycle, NoMain, NoOption, FinalSuper}
use Rattle.vx_plans.specs.declared.status.Status.{Status}
use Rattle.vx_plans.specs.declared.status.Status.TheVariants.{Done, NoMemory, Usage, ReadFault, WriteFault, BadModel, NoConfiguration, BadClass, BadLink, BadReport, NotAllowed, BadSource, TooLarge, Unlike, NotJoinable, Failing, Differing, BadExpected}
use Rattle.vx_plans.specs.declared.line.Piece.{Piece}
use Rattle.vx_plans.specs.declared.line.Piece.TheVariants.{Text, Word, Number}

-- what a fault of linking says; want of memory is a status of its own
abbrev pub link_text : LinkFault → List ℕ
link_text link.NoMemory = codes "no memory"
link_text (Twice class) = codes "twice " ++ word_of class
link_text (NoSuper class) = codes "no super " ++ word_of class
link_text (Cycle class) = codes "cycle " ++ word_of class
link_text NoMain = codes "no main"
link_text (NoOption option) = codes "no option " ++ word_of option
link_text (FinalSuper class) = codes "final super " ++ word_of class

-- the line that says how a call ended; nothing where it is done
abbrev pub line_of : Status → List ℕ
line_of Done = []
line_of NoMemory = codes "no memory\n"
line_of Usage = codes "usage\n"
line_of (ReadFault path) = codes "read fault " ++ word_of path ++ codes "\n"
line_of WriteFault = codes "write fault\n"
line_of (BadModel line reason) = codes "bad model line " ++ decimal line ++ codes " reason " ++ decimal reason ++ codes "\n"
line_of NoConfiguration = codes "no configuration\n"
line_of (BadClass path at reason) = codes "bad class " ++ word_of path ++ codes " at " ++ decimal at ++ codes " reason " ++ decimal reason ++ codes "\n"
line_of (BadLink fault) = link_text fault ++ codes "\n"
line_of (BadReport line) = codes "bad report line " ++ decimal line ++ codes "\n"
line_of NotAllowed = codes "not allowed\n"
line_of (BadSource line reason) = codes "bad source line " ++ decimal line ++ codes " reason " ++ decimal reason ++ codes "\n"
line_of (TooLarge path room) = codes "too large " ++ word_of path ++ codes " " ++ decimal room ++ codes "\n"
line_of Unlike = codes "unlike\n"
line_of NotJoinable = codes "not joinable\n"
line_of Failing = codes "failing\n"
line_of Differing = codes "differing\n"
line_of (BadExpected line reason) = codes "bad expected line " ++ decimal line ++ codes " reason " ++ decimal reason ++ codes "\n"

-- the bytes of a piece of a line
abbrev pub piece_bytes : Piece → List ℕ
piece_bytes (Text text) = text.now
piece_bytes (Word name) = word_of name.now
piece_bytes (Number n) = decimal n
