-- What a report can spell (own).
use Rattle.std.specs.Prelude.{◌≡◌, Bool, List, [], false, nat_le, true, ℕ, ◌&&◌, ◌∷◌}
use Rattle.std.specs.List.{list_all}
use Rattle.vx_java.specs.Lockstep.{Shared}
use Rattle.vx_java.specs.Report.{LockReport}
use Rattle.vx_named_classes.specs.Named.{is_given}
use Rattle.vx_report_line.specs.Forms.{is_named}
use Rattle.vx_value.specs.declared.end.End.{End}
use Rattle.vx_value.specs.declared.end.End.TheVariants.{Exit, Illegal, Return, Uncaught, Unfinished, Unsupported}

-- what an end names has a byte; what is left out is of one of the eight kinds, and the first four kinds name nothing
abbrev pub is_spelled : End → Bool
is_spelled Return = true
is_spelled (Exit code) = true
is_spelled (Uncaught class) = is_given class
is_spelled (Unsupported word what place) = (nat_le 1 word && nat_le word 8) && (is_given what && (is_named word what && is_given place))
is_spelled (Illegal place) = is_given place
is_spelled Unfinished = true

abbrev pub is_some_list : {A : Type 0} → List A → Bool
is_some_list [] = false
is_some_list (x ∷ xs) = true

-- a value passes a test, and has a configuration
abbrev pub is_shared : {A : Type 0} → (A → Bool) → Shared A → Bool
is_shared test group = test group.value && is_some_list group.configs

-- what a report of lockstep says can be spelled, but for the values of bytes
pub record IsSpelledReport (limit : ℕ) (r : LockReport) : Type 0 where
  pub pieces : list_all (is_shared (λ piece. is_given piece.1)) r.pieces ≡ true
  pub ends : list_all (is_shared is_spelled) r.ends ≡ true
  pub attempts : list_all (is_shared (λ n. nat_le n limit)) r.attempts ≡ true
