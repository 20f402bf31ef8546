-- Where two reports have equal ends.
use Rattle.std.specs.Prelude.{◌≡◌, Bool, false, List, [], ◌∷◌, Option, Some, None, find, option_map}
use Rattle.std.specs.Ordering.{is_eq}
use Rattle.std.specs.declared.cmp.Ordering.TheVariants.{Less}
use Rattle.vx_value.specs.declared.end.End.{End}
use Rattle.vx_value.specs.Ends.{compare_ends}
use Rattle.vx_bdd_tools.specs.declared.node.Node.{Node}
use Rattle.vx_bdd_tools.specs.Nodes.{holds}
use Rattle.vx_report.specs.Projection.{end_at}
use Rattle.vx_report.specs.declared.report.EndLine.{EndLine}
use Rattle.vx_report.specs.declared.report.Report.{Report}
use Rattle.vx_space.specs.Sets.{Sets, IsSet}
use Rattle.vx_agree.specs.declared.ends.Endings.{Endings}

-- ends that compare equal
abbrev pub is_same_end : End → End → Bool
is_same_end one other = is_eq (compare_ends one other)

-- there is an end, and it is this one
abbrev pub is_end : End → Option End → Bool
is_end end None = false
is_end end (Some other) = is_same_end end other

-- there are two ends, and they are one
abbrev pub are_one_end : Option End → Option End → Bool
are_one_end None other = false
are_one_end (Some end) other = is_end end other

-- both reports have an end at the configuration, and one
abbrev pub have_same_end : Report → Report → List Bool → Bool
have_same_end one other c = are_one_end (end_at one c) (end_at other c)

-- the first of some ends whose node holds a configuration
abbrev pub first_end : List Node → List Bool → List EndLine → Option End
first_end nodes c lines = option_map (λ line. line.end) (find (λ line. holds nodes line.node c) lines)

-- an end is less than those of some lines
abbrev pub IsBefore : End → List EndLine → Type 0
IsBefore end [] = Unit {0}
IsBefore end (line ∷ lines) = (compare_ends end line.end ≡ Less) × IsBefore end lines

-- each end is less than those behind it
abbrev pub AreAscending : List EndLine → Type 0
AreAscending [] = Unit {0}
AreAscending (line ∷ lines) = IsBefore line.end lines × AreAscending lines

-- the ids are those of these sets
pub record AreEndings {I : Type 0} (sets : Sets I) (endings : Endings I) (found one other : List Bool → Bool) : Type 0 where
  pub found_is : IsSet sets endings.found found
  pub one_is : IsSet sets endings.one one
  pub other_is : IsSet sets endings.other other
