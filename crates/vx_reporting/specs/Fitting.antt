-- What the types of its parts tell of a report: bytes, codes and counts are in their ranges.
use Rattle.std.specs.Prelude.{◌≡◌, ◌<◌, ◌^◌, ◌&&◌, Bool, List, length, nat_lt, true, ℕ}
use Rattle.std.specs.List.{list_all}
use Rattle.vx_report.specs.declared.report.Report.{Report}
use Rattle.vx_report_line.specs.Forms.{is_code}
use Rattle.vx_value.specs.declared.end.End.{End}
use Rattle.vx_value.specs.declared.end.End.TheVariants.{Exit, Illegal, Return, Uncaught, Unfinished, Unsupported}

abbrev pub are_bytes : List ℕ → Bool
are_bytes bytes = list_all (λ b. nat_lt b 256) bytes

abbrev pub is_fitting : End → Bool
is_fitting Return = true
is_fitting (Exit code) = is_code code
is_fitting (Uncaught class) = are_bytes class
is_fitting (Unsupported word what place) = are_bytes what && are_bytes place
is_fitting (Illegal place) = are_bytes place
is_fitting Unfinished = true

pub record IsFitting (r : Report) : Type 0 where
  pub rounds : r.rounds < 2 ^ 128
  pub nodes : length r.nodes < 2 ^ 63
  pub pieces : list_all (λ piece. are_bytes piece.text) r.pieces ≡ true
  pub ends : list_all (λ line. is_fitting line.end) r.ends ≡ true
