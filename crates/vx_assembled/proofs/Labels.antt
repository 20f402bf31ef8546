-- The labels of a body.
use Rattle.std.proofs.Common.{◌≡◌, ℕ, ◌+◌, ◌≤◌, List, [], ◌∷◌, ◌++◌, Bool, true, false, Some, unwrap_or, if◌then◌else◌, sym, ap, subst, ◌∙◌, arith}
use Rattle.std.specs.List.{AllByRecursion}
use Rattle.std.specs.Str.{bytes_eq}
use Rattle.vx_source.specs.declared.lines.Said.{Said}
use Rattle.vx_source.specs.declared.lines.Said.TheVariants as said
use Rattle.vx_source.specs.declared.lines.SourceLine.{SourceLine}
use Rattle.vx_source.specs.declared.statement.Statement.{Statement}
use Rattle.vx_source.specs.declared.statement.Statement.TheVariants as statement
use Rattle.vx_code_parts.specs.Bodies.{after, labels_from, labels_of, find_label}
use Rattle.vx_code_parts.specs.Instructions.{number_of}
use Rattle.vx_code_parts.specs.declared.label_table.Label.{Label}
use Rattle.vx_code_parts.specs.declared.labels.Labels.{Labels}

-- each label stands before an instruction, or behind the last
abbrev pub AreFew : Labels → Type 0
AreFew l = AllByRecursion (λ (x : Label). x.at ≤ l.instructions) l.labels

few_more : (n m : ℕ) (ls : List Label) → n ≤ m → AllByRecursion (λ (x : Label). x.at ≤ n) ls → AllByRecursion (λ (x : Label). x.at ≤ m) ls
few_more n m [] le all = tt
few_more n m (l ∷ ls) le all = (let first = all.0 in omega (arith, first, le), few_more n m ls le all.1)

few_push : (n : ℕ) (ls : List Label) (l : Label) → AllByRecursion (λ (x : Label). x.at ≤ n) ls → l.at ≤ n → AllByRecursion (λ (x : Label). x.at ≤ n) (ls ++ l ∷ [])
few_push n [] l all this = (this, tt)
few_push n (x ∷ xs) l all this = (all.0, few_push n xs l all.1 this)

after_few : (l : Labels) (s : Said) → AreFew l → AreFew (after l s)
after_few l (said.Refused reason) few = few_more l.instructions (l.instructions + 1) l.labels (omega arith) few
after_few l (said.Statement (statement.Instruction i)) few = few_more l.instructions (l.instructions + 1) l.labels (omega arith) few
after_few l (said.Statement (statement.Label name)) few = few_push l.instructions l.labels (record { name = name; at = l.instructions }) few (omega arith)
after_few l (said.Statement (statement.Version major)) few = few
after_few l (said.Statement (statement.Class line)) few = few
after_few l (said.Statement (statement.Implements name)) few = few
after_few l (said.Statement (statement.Field line)) few = few
after_few l (said.Statement (statement.Method line)) few = few
after_few l (said.Statement statement.End) few = few
after_few l (said.Statement (statement.Catch line)) few = few

from_few : (l : Labels) (lines : List SourceLine) → AreFew l → AreFew (labels_from l lines)
unfolding labels_from
from_few l [] few = few
from_few l (line ∷ lines) few = by_end line.ends_body (from_few (after l line.said) lines (after_few l line.said few))
  where
    by_end : (b : Bool) → AreFew (labels_from (after l line.said) lines) → AreFew (if b then l else labels_from (after l line.said) lines)
    by_end true others = few
    by_end false others = others

pub labels_few : (lines : List SourceLine) → AreFew (labels_of lines)
labels_few lines = from_few (record { labels = []; instructions = 0 }) lines tt

-- a label that is there
found_few : (n : ℕ) (ls : List Label) (name : List ℕ) → AllByRecursion (λ (x : Label). x.at ≤ n) ls → unwrap_or (find_label ls name) 0 ≤ n
unfolding find_label
found_few n [] name all = omega arith
found_few n (l ∷ ls) name all = by_name (bytes_eq l.name name) (found_few n ls name all.1)
  where
    by_name : (b : Bool) → unwrap_or (find_label ls name) 0 ≤ n → unwrap_or (if b then Some l.at else find_label ls name) 0 ≤ n
    by_name true others = all.0
    by_name false others = others

pub number_few : (l : Labels) (name : List ℕ) → AreFew l → number_of l name ≤ l.instructions
number_few l name few = found_few l.instructions l.labels name few

-- a line of a body, and the labels of those behind it
pub line_passed : (l labels : Labels) (line : SourceLine) (behind : List SourceLine) (s : Statement) → line.ends_body ≡ false → line.said ≡ said.Statement s → labels_from l (line ∷ behind) ≡ labels
    → labels_from (after l (said.Statement s)) behind ≡ labels
unfolding labels_from
line_passed l labels line behind s goes_on is h =
    subst (λ (x : Said). labels_from (after l x) behind ≡ labels) is (sym (ap (λ (b : Bool). if b then l else labels_from (after l line.said) behind) goes_on) ∙ h)

-- the line at which it ends
pub line_last : (l labels : Labels) (line : SourceLine) (behind : List SourceLine) → line.ends_body ≡ true → labels_from l (line ∷ behind) ≡ labels → l ≡ labels
unfolding labels_from
line_last l labels line behind ends h = sym (ap (λ (b : Bool). if b then l else labels_from (after l line.said) behind) ends) ∙ h
