-- Texts as the nodes of a trie at which they end, each with the span that holds it.
use Rattle.std.specs.Prelude.{ℕ, ◌<◌, List, All, length, map}
use Rattle.vx_value.specs.Texts.{text_at}
use Rattle.vx_value.specs.Buffers.{Holds}
use Rattle.vx_value.specs.declared.buffers.Span.{Span}

-- the text that ends at the node of an entry
abbrev pub text_to : List (List ℕ) → ℕ × Span → List ℕ
text_to paths entry = text_at paths entry.0

-- the texts of entries
abbrev pub listed_texts : List (List ℕ) → List (ℕ × Span) → List (List ℕ)
listed_texts paths entries = map (text_to paths) entries

-- the node of an entry is there, and its span holds the text that ends there
pub record IsListed (paths buffers : List (List ℕ)) (entry : ℕ × Span) : Type 0 where
  pub known : entry.0 < length paths
  pub holds : Holds buffers entry.1 (text_at paths entry.0)

abbrev pub AreListed : (paths buffers : List (List ℕ)) → List (ℕ × Span) → Type 0
AreListed paths buffers entries = All (IsListed paths buffers) entries
