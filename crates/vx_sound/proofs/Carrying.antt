-- What is carried out: an initialisation that begins, or a native method.
use Rattle.vx_java.specs.Machine.{Begin, Ended, Go, Native, Raise, Throw, Write}
use Rattle.vx_sound.proofs.Beginning.{begin_typed}
use Rattle.vx_sound.specs.Law.{CarryingKeepsTypes, NativesKeepTypes}

pub carrying_from : NativesKeepTypes → CarryingKeepsTypes
carrying_from natives p typings (Go s) sound are typed = typed
carrying_from natives p typings (Raise class message s) sound are typed = typed
carrying_from natives p typings (Throw object s) sound are typed = typed
carrying_from natives p typings (Begin class s) sound are typed = begin_typed p typings sound are s typed class
carrying_from natives p typings (Native m s) sound are typed = natives p typings s m sound are typed.0 typed.1
carrying_from natives p typings (Write stream units s) sound are typed = typed
carrying_from natives p typings (Ended end) sound are typed = typed
