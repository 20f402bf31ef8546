-- The names and descriptors of members.
use Rattle.std.specs.Prelude.{◌≡◌, ℕ, ◌&&◌, List, Bool, Vec}
use Rattle.std.specs.Global.{Global}
use Rattle.std.specs.List.{list_any}
use Rattle.std.specs.Str.{bytes_eq}
use Rattle.vx_asm.specs.declared.signature_table.Signature.{Signature}

-- whether a member before has the same name and descriptor
abbrev pub is_taken : List Signature → List ℕ → List ℕ → Bool
is_taken signatures name descriptor = list_any (λ s. bytes_eq s.name name && bytes_eq s.descriptor descriptor) signatures

-- whether one of the keys has this name and this descriptor
abbrev pub has_key : List (Vec ℕ Global × Vec ℕ Global) → List ℕ → List ℕ → Bool
has_key keys name descriptor = list_any (λ k. bytes_eq name k.0.items && bytes_eq descriptor k.1.items) keys

-- just the signatures are among the keys
pub record AreTaken (signatures : List Signature) (keys : List (Vec ℕ Global × Vec ℕ Global)) : Type 0 where
  pub same : (name descriptor : List ℕ) → has_key keys name descriptor ≡ is_taken signatures name descriptor
