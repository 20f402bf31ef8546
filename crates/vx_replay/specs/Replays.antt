-- What the run of one configuration comes to, and where its frames stand at the end.
use Rattle.std.specs.Prelude.{List, [], flat_map, if◌then◌else◌, map, ℕ, ◌++◌, ◌∷◌, ◌≡◌}
use Rattle.vx_java.specs.Step.{Run, result, trace}
use Rattle.vx_replay.specs.declared.pieces.PlainPiece.{PlainPiece}
use Rattle.vx_replay.specs.declared.running.Place.{Place}
use Rattle.vx_replay.specs.declared.running.Replay.{Replay}
use Rattle.vx_report.specs.Projection.{runs, same_stream}
use Rattle.vx_value.specs.declared.end.End.{End}
use Rattle.vx_value.specs.declared.end.Stream.{Stream}

-- the bytes of pieces, each with its stream
abbrev pub bytes_of : PlainPiece → List (Stream × ℕ)
bytes_of piece = map (λ b. (piece.stream, b)) piece.text

abbrev pub bytes_in : List PlainPiece → List (Stream × ℕ)
bytes_in pieces = flat_map bytes_of pieces

abbrev pub run_of : PlainPiece → Stream × List ℕ
run_of piece = (piece.stream, piece.text)

abbrev pub runs_in : List PlainPiece → List (Stream × List ℕ)
runs_in pieces = map run_of pieces

-- each piece is a longest run of bytes of one stream
pub record AreLongest (pieces : List PlainPiece) : Type 0 where
  pub same : runs_in pieces ≡ runs (bytes_in pieces)

-- a text behind a last run, which it continues where that is of the same stream
abbrev pub put_after : Stream → List ℕ → Stream × List ℕ → List (Stream × List ℕ) → List (Stream × List ℕ)
put_after s text last [] = if same_stream last.0 s then (last.0, last.1 ++ text) ∷ [] else last ∷ (s, text) ∷ []
put_after s text run (next ∷ rest) = run ∷ put_after s text next rest

-- a text behind runs
abbrev pub put_behind : Stream → List ℕ → List (Stream × List ℕ) → List (Stream × List ℕ)
put_behind s text [] = (s, text) ∷ []
put_behind s text (run ∷ rest) = put_after s text run rest

-- where frames stand
abbrev pub places_in : List Place → List (ℕ × ℕ)
places_in places = map (λ at. (at.method.0, at.position)) places

-- where the frames stand of the state in which the last attempt of a run was made, or of the state reached where it is unfinished, the one on top first
abbrev pub traced : Run → List (ℕ × ℕ)
traced r = map (λ f. (f.method, f.position)) (trace r)

-- the output of a run, its end, the attempts that it has used, and where its frames stand
pub record HasRun (r : Run) (pieces : List PlainPiece) (ended : End) (made : ℕ) (places : List (ℕ × ℕ)) : Type 0 where
  pub output : bytes_in pieces ≡ (result r).output
  pub longest : AreLongest pieces
  pub end : ended ≡ (result r).end
  pub attempts : made ≡ (result r).attempts
  pub frames : places ≡ traced r

abbrev pub IsReplay : Run → Replay → Type 0
IsReplay r replay = HasRun r replay.pieces.items replay.end replay.attempts (places_in replay.frames.items)
