-- Where reports differ, by what they say; so over the options of both they differ as their copies do.
use Rattle.std.proofs.Common.{◌≡◌, ℕ, Bool, true, false, cond, not, ◌&&◌, ◌||◌, List, [], ◌∷◌, length, map, find, option_map, is_some, refl, sym, ◌∙◌, ap}
use Rattle.std.specs.Prelude.{Option, Some, None}
use Rattle.std.specs.Cmp.{tied_itself}
use Rattle.std.specs.List.{list_any}
use Rattle.std.specs.Ordering.{is_eq}
use Rattle.vx_value.specs.declared.end.End.{End}
use Rattle.vx_end_order.proofs.EndOrder.{end_total}
use Rattle.vx_space.specs.Sets.{Sets}
use Rattle.vx_bdd_tools.specs.declared.node.Node.{Node}
use Rattle.vx_bdd_tools.specs.Nodes.{holds}
use Rattle.vx_report.specs.Projection.{Projection, attempts_at, end_at, output_at, project}
use Rattle.vx_report.specs.declared.report.EndLine.{EndLine}
use Rattle.vx_report.specs.declared.report.Report.{Report}
use Rattle.vx_agree.specs.Agreement.{AgreeAt, IsAgreement}
use Rattle.vx_agree.specs.Ends.{are_one_end, is_end, is_same_end}
use Rattle.vx_agree.specs.Equal.{are_equal}
use Rattle.vx_agree.proofs.Agreeing.{agree_of, both_ways}
use Rattle.vx_agree.proofs.Equal.{equal_lists, equal_self}
use Rattle.vx_agree.proofs.Places.{and_left, and_right}
use Rattle.vx_cover.specs.Covers.{has_end}
use Rattle.vx_count.specs.Settings.{number}
use Rattle.vx_compare.specs.Names.{IsWide, all_names, seen}
use Rattle.vx_compare.specs.Differ.{agrees_at, differing, differing_seen, differs, differs_at, differs_seen}

-- ---- by what reports say

abbrev agrees_by : Option Projection → Option Projection → Bool
agrees_by None q = false
agrees_by (Some p) None = false
agrees_by (Some p) (Some q) = is_same_end p.end q.end && are_equal p.output q.output

abbrev differs_by : Option Projection → Option Projection → Bool
differs_by p q = (is_some p || is_some q) && not (agrees_by p q)

-- what a report says where it has this end
abbrev with_end : Report → List Bool → Option End → Option Projection
with_end r c o = option_map (λ end. record { output = output_at r c; end = end; attempts = attempts_at r c }) o

some_end : (nodes : List Node) (c : List Bool) (lines : List EndLine) → is_some (option_map (λ (line : EndLine). line.end) (find (λ line. holds nodes line.node c) lines)) ≡ list_any (λ k. holds nodes k c) (map (λ line. line.node) lines)
some_end nodes c [] = refl
some_end nodes c (line ∷ lines) = by (holds nodes line.node c) (some_end nodes c lines)
  where
    by : (b : Bool) → is_some (option_map (λ (line : EndLine). line.end) (find (λ line. holds nodes line.node c) lines)) ≡ list_any (λ k. holds nodes k c) (map (λ line. line.node) lines)
        → is_some (option_map (λ (line : EndLine). line.end) (cond b (Some line) (find (λ line. holds nodes line.node c) lines))) ≡ (b || list_any (λ k. holds nodes k c) (map (λ line. line.node) lines))
    by true e = refl
    by false e = e

is_said : (r : Report) (c : List Bool) → has_end r c ≡ is_some (project r c)
is_said r c = sym (some_end r.nodes c r.ends) ∙ by (end_at r c)
  where
    by : (o : Option End) → is_some o ≡ is_some (with_end r c o)
    by None = refl
    by (Some end) = refl

agrees_said : (one : Report) (c : List Bool) (other : Report) (d : List Bool) → agrees_at one c other d ≡ agrees_by (project one c) (project other d)
agrees_said one c other d = by (end_at one c) (end_at other d)
  where
    by : (o p : Option End) → (are_one_end o p && are_equal (output_at one c) (output_at other d)) ≡ agrees_by (with_end one c o) (with_end other d p)
    by None p = refl
    by (Some x) None = refl
    by (Some x) (Some y) = refl

differs_said : (one : Report) (c : List Bool) (other : Report) (d : List Bool) → differs_at one c other d ≡ differs_by (project one c) (project other d)
differs_said one c other d = λ i. (is_said one c i || is_said other d i) && not (agrees_said one c other d i)

-- ---- over the options of both

differs_wide : (one other wide against : Report) → IsWide one (all_names one.options other.options) wide → IsWide other (all_names one.options other.options) against → (c : List Bool) → differs wide against c ≡ differs_seen one other c
differs_wide one other wide against w a c =
    let all : List (List ℕ) = all_names one.options other.options in
    differs_said wide c against c ∙ (λ i. differs_by (w.same c i) (a.same c i)) ∙ sym (differs_said one (seen one.options all c) other (seen other.options all c))

-- the copies of two reports differ at as many configurations
pub differing_wide : (one other wide against : Report) → IsWide one (all_names one.options other.options) wide → IsWide other (all_names one.options other.options) against → differing wide against ≡ differing_seen one other
differing_wide one other wide against w a = λ i. number (length (w.options i)) (λ c. differs_wide one other wide against w a c i)

-- ---- the agreement of two reports

agreed : (one other : Report) (c : List Bool) → AgreeAt one other c → agrees_at one c other c ≡ true
agreed one other c h =
    let same : Bool = are_equal (output_at one c) (output_at other c) in
    ap (λ x. are_one_end x (end_at other c) && same) h.of_one ∙ ap (λ y. is_end h.end y && same) h.of_other ∙ ap (λ o. is_eq o && same) (tied_itself end_total h.end)
    ∙ ap (are_equal (output_at one c)) (sym h.output) ∙ equal_self (output_at one c)

pub agreement_test : {I : Type 0} {s : Sets I} (one other : Report) (id : I) → IsAgreement s one other id → (c : List Bool) → s.test id c ≡ agrees_at one c other c
agreement_test {I} {s} one other id h c =
    let ends : Bool = are_one_end (end_at one c) (end_at other c) in
    let same : Bool = are_equal (output_at one c) (output_at other c) in
    both_ways (s.test id c) (agrees_at one c other c) (λ t. agreed one other c (h.agree c t))
    (λ t. h.all c (agree_of one other c (equal_lists (output_at one c) (output_at other c) (and_right ends same t)) (end_at one c) (end_at other c) refl refl (and_left ends same t)))
