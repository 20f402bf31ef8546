-- Outcomes that lack nothing: no end as unsupported, and no beginning of an initialisation.
use Rattle.std.proofs.Common.{Bool, List, Option, [], false, refl, true, ℕ, ◌∷◌, ◌≡◌}
use Rattle.vx_java.specs.Machine.{Begin, Ended, Frame, Go, Here, Native, Outcome, Raise, State, Value}
use Rattle.vx_java.specs.Returns.{fits_caller, return_to}
use Rattle.vx_java.specs.Row.{row_of}
use Rattle.vx_java.specs.declared.operation.Operation.{Operation}
use Rattle.vx_kept_facts.proofs.Claims.{Claim, chosen}
use Rattle.vx_kept_facts.proofs.Operations.{operation_comes}
use Rattle.vx_kept_facts.proofs.RowClaims.{Asks, RowClaim, anywhere}
use Rattle.vx_value.specs.declared.end.End.TheVariants.{Illegal, Unsupported}
use Rattle.vx_value.specs.declared.key.Kind.{Kind}
use Rattle.vx_value.specs.declared.key.Kind.TheVariants.{Call}

abbrev pub is_quiet : Outcome → Bool
is_quiet (Ended (Unsupported word what place)) = false
is_quiet (Begin class s) = false
is_quiet _ = true

pub record IsQuiet (o : Outcome) : Type 0 where
  pub holds : is_quiet o ≡ true

pub goes : {s : State} → IsQuiet (Go s)
goes = record { holds = refl }

pub raises : {class : ℕ} {message : Option (List ℕ)} {s : State} → IsQuiet (Raise class message s)
raises = record { holds = refl }

pub native_comes : {method : ℕ} {s : State} → IsQuiet (Native method s)
native_comes = record { holds = refl }

pub illegal_ends : {at : List ℕ} → IsQuiet (Ended (Illegal at))
illegal_ends = record { holds = refl }

-- ---- rows

abbrev pub quiet : Claim
quiet = record {
  At = λ h. Unit {0};
  May = λ p o. IsQuiet o;
  passes = λ h at. record { holds = refl };
  writes = λ h at. record { holds = refl };
  raises = λ h at name among. record { holds = refl };
  breaks = λ h. record { holds = refl };
  exits = λ h code. record { holds = refl };
}

pub return_to_quiet : (h : Here) (kind : Kind) (value : List Value) (callers : List Frame) → IsQuiet (return_to h kind value callers)
return_to_quiet h kind value [] = record { holds = refl }
return_to_quiet h Call value (f ∷ below) = chosen quiet h.program (fits_caller h.program f value) _ _ goes illegal_ends
return_to_quiet h _ value (f ∷ below) = goes

-- of rows that leave nothing out and begin nothing
abbrev pub quiet_rows : RowClaim
quiet_rows = record {
  claim = quiet;
  Lands = λ h offset. Unit {0};
  Begins = λ c. false ≡ true;
  Lacks = λ word what. false ≡ true;
  jumps = λ h at offset operands lands. record { holds = refl };
  throws = λ h at r is. record { holds = refl };
  begins = λ h at c may. record { holds = may };
  lacks = λ h at word what may. record { holds = may };
  natives = λ h at m. record { holds = refl };
  enters = λ h at m code is values rest. record { holds = refl };
  returns = λ h at kind value. return_to_quiet h kind value h.state.callers;
  ready = λ h at chain. tt;
}

pub row_quiet : (h : Here) (o : Operation) → Asks quiet_rows h.pool o → IsQuiet (row_of h o h.state.top.operands)
row_quiet h o asks = operation_comes quiet_rows h tt o (anywhere h o) asks h.state.top.operands
