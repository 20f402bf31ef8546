-- Texts as the first units of buffers.
use Rattle.std.specs.Prelude.{◌≡◌, ℕ, ◌<◌, ◌≤◌, List, length, take}
use Rattle.vx_value.specs.Texts.{text_at}
use Rattle.vx_value.specs.declared.buffers.Span.{Span}

-- the text of a span
abbrev pub text_of : List (List ℕ) → Span → List ℕ
text_of buffers span = take span.length (text_at buffers span.buffer)

-- a span is within a buffer
pub record IsSpan (buffers : List (List ℕ)) (span : Span) : Type 0 where
  pub known : span.buffer < length buffers
  pub within : span.length ≤ length (text_at buffers span.buffer)

-- a span holds a text
pub record Holds (buffers : List (List ℕ)) (span : Span) (units : List ℕ) : Type 0 where
  pub is_span : IsSpan buffers span
  pub text : text_of buffers span ≡ units

-- each span keeps its text
abbrev pub Keeps : (before after : List (List ℕ)) → Type 0
Keeps before after = (span : Span) → IsSpan before span → Holds after span (text_of before span)
