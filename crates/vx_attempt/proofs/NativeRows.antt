-- A native method is left to be carried out with the frame on top with which its call was attempted: only initialisation states may have changed.
use Rattle.std.proofs.Common.{◌≡◌, List, [], ◌∷◌, refl}
use Rattle.vx_java.specs.Machine.{Frame, Here, Native, Outcome, State, Value}
use Rattle.vx_java.specs.Returns.{fits_caller, return_to}
use Rattle.vx_java.specs.Row.{row_of}
use Rattle.vx_java.specs.declared.operation.Operation.{Operation}
use Rattle.vx_kept_facts.proofs.Claims.{Claim, chosen}
use Rattle.vx_kept_facts.proofs.Operations.{operation_comes}
use Rattle.vx_kept_facts.proofs.RowClaims.{RowClaim, anything, anywhere}
use Rattle.vx_value.specs.declared.key.Kind.{Kind}
use Rattle.vx_value.specs.declared.key.Kind.TheVariants.{Call}

-- an outcome that is a native method's has this state's frame on top
abbrev pub StaysIn : State → Outcome → Type 0
StaysIn s (Native m t) = t.top ≡ s.top
StaysIn s _ = Unit {0}

module _ (s : State) where
  abbrev stays : Claim
  stays = record {
    At = λ h. h.state.top ≡ s.top;
    May = λ p o. StaysIn s o;
    passes = λ h at. tt;
    writes = λ h at. tt;
    raises = λ h at name among. tt;
    breaks = λ h. tt;
    exits = λ h code. tt;
  }

  return_stays : (h : Here) (kind : Kind) (value : List Value) (callers : List Frame) → StaysIn s (return_to h kind value callers)
  return_stays h kind value [] = tt
  return_stays h Call value (f ∷ below) = chosen stays h.program (fits_caller h.program f value) _ _ tt tt
  return_stays h _ value (f ∷ below) = tt

  abbrev rows_stay : RowClaim
  rows_stay = record {
    claim = stays;
    Lands = λ h offset. Unit {0};
    Begins = λ c. Unit {0};
    Lacks = λ word what. Unit {0};
    jumps = λ h at offset operands lands. tt;
    throws = λ h at r is. tt;
    begins = λ h at c may. tt;
    lacks = λ h at word what may. tt;
    natives = λ h at m. at;
    enters = λ h at m code is values rest. tt;
    returns = λ h at kind value. return_stays h kind value h.state.callers;
    ready = λ h at chain. at;
  }

pub row_stays : (h : Here) (o : Operation) → StaysIn h.state (row_of h o h.state.top.operands)
row_stays h o = operation_comes (rows_stay h.state) h refl o (anywhere h o) (anything (rows_stay h.state) (λ word what. tt) (λ c. tt) h.pool o) h.state.top.operands
