-- What the reading of a report answers.
use Rattle.std.specs.Prelude.{◌≡◌, ◌≢◌, ℕ, List, [], ◌++◌, Result, Ok, Err}
use Rattle.vx_report.specs.declared.report.Report.{Report}
use Rattle.vx_report_reader.specs.declared.reading.ReportFault.{ReportFault}
use Rattle.vx_report_reader.specs.declared.reading.ReportFault.TheVariants.{NoMemory, Line}
use Rattle.vx_report_reader.specs.Rules.{ReportText, IsBadLine}

-- this report, or want of memory
abbrev pub IsReadAs : Report → Result Report ReportFault → Type 0
IsReadAs r (Ok found) = found ≡ r
IsReadAs r (Err NoMemory) = Unit {0}
IsReadAs r (Err (Line n)) = ⊥

-- this line, or want of memory
abbrev pub IsFaultAt : ℕ → Result Report ReportFault → Type 0
IsFaultAt n (Ok found) = ⊥
IsFaultAt n (Err NoMemory) = Unit {0}
IsFaultAt n (Err (Line m)) = m ≡ n

-- where the bytes are the text of a report it is given, and where a line is the first bad one it is named, unless memory runs out
pub record IsOnlyReading (bytes : List ℕ) (answer : Result Report ReportFault) : Type 0 where
  pub report : (r : Report) → ReportText bytes r → IsReadAs r answer
  pub line : (n : ℕ) → IsBadLine bytes n → IsFaultAt n answer

-- the line that is named is the first bad one
abbrev pub Faults : List ℕ → ReportFault → Type 0
Faults bytes NoMemory = Unit {0}
Faults bytes (Line n) = IsBadLine bytes n

-- the bytes are the text of a report, of either version, without some bytes at its end
pub record IsCutOff (bytes : List ℕ) : Type 0 where
  pub report : Report
  pub rest : List ℕ
  pub some : rest ≢ []
  pub text : ReportText (bytes ++ rest) report

-- no text of a report is the front of another one
abbrev pub NoFrontIsAReport : Type 0
NoFrontIsAReport = (bytes : List ℕ) → IsCutOff bytes → (report : Report) → ¬ ReportText bytes report

-- no report is given, but its first bad line, unless memory runs out
abbrev pub IsRefused : List ℕ → Result Report ReportFault → Type 0
IsRefused bytes (Ok report) = ⊥
IsRefused bytes (Err fault) = Faults bytes fault
