-- The ends of two reports, gone through once in their order.
use Rattle.std.proofs.Common.{◌≡◌, ℕ, ◌+◌, ◌-◌, ◌<◌, Bool, true, false, List, [], ◌∷◌, length, drop, drop-cons, take, get_or, refl, sym, ◌∙◌, ap, subst, arith, zero, suc}
use Rattle.std.specs.Prelude.{Option, Some, ◌||◌, ◌&&◌, not, if◌then◌else◌, find, option_map, slice_get}
use Rattle.std.specs.Ordering.{is_eq, ordering_reverse}
use Rattle.std.specs.declared.cmp.Ordering.{Ordering}
use Rattle.std.specs.declared.cmp.Ordering.TheVariants.{Less, Equal, Greater}
use Rattle.vx_space.specs.Sets.{Sets, IsSet, IsLawful, Extends}
use Rattle.vx_space.proofs.Spaces.{Extends-refl, Extends-trans}
use Rattle.vx_value.specs.declared.end.End.{End}
use Rattle.vx_value.specs.Ends.{compare_ends}
use Rattle.vx_end_order.proofs.EndOrder.{end_equal, end_total}
use Rattle.vx_bdd_tools.specs.declared.node.Node.{Node}
use Rattle.vx_bdd_tools.specs.Nodes.{holds}
use Rattle.vx_report.specs.declared.report.EndLine.{EndLine}
use Rattle.vx_report.specs.declared.report.Report.{Report}
use Rattle.vx_report_reader.specs.Lawful.{IsLawful as lawful}
use Rattle.vx_report_reader.specs.Rules.{comes_after, is_less, last_of}
use Rattle.vx_agree.specs.Ends.{AreAscending, AreEndings, IsBefore, are_one_end, first_end, have_same_end, is_end, is_same_end}
use Rattle.vx_agree.specs.declared.ends.Endings.{Endings}

-- ---- ends in their order

not_less_twice : (o : Ordering) → o ≡ Less → is_eq o ≡ false
not_less_twice Less e = refl
not_less_twice Equal e = cc (e)
not_less_twice Greater e = refl

reversed : (a b : End) → compare_ends a b ≡ Less → compare_ends b a ≡ Greater
reversed a b e = end_total.antisymm b a ∙ ap ordering_reverse e

reversed_back : (a b : End) → compare_ends a b ≡ Greater → compare_ends b a ≡ Less
reversed_back a b e = end_total.antisymm b a ∙ ap ordering_reverse e

not_greater : (o : Ordering) → o ≡ Greater → is_eq o ≡ false
not_greater Less e = refl
not_greater Equal e = cc (e)
not_greater Greater e = refl

-- an end before some lines is none of theirs
before_none : (end : End) (nodes : List Node) (c : List Bool) (lines : List EndLine) → IsBefore end lines → is_end end (first_end nodes c lines) ≡ false
before_none end nodes c [] b = refl
before_none end nodes c (line ∷ lines) b = by (before_none end nodes c lines b.1) (holds nodes line.node c)
  where
    by : is_end end (first_end nodes c lines) ≡ false → (t : Bool) → is_end end (option_map (λ x. x.end) (if t then Some line else find (λ x. holds nodes x.node c) lines)) ≡ false
    by h true = not_less_twice (compare_ends end line.end) b.0
    by h false = h

none_before : (end : End) (nodes : List Node) (c : List Bool) (lines : List EndLine) → IsBefore end lines → are_one_end (first_end nodes c lines) (Some end) ≡ false
none_before end nodes c [] b = refl
none_before end nodes c (line ∷ lines) b = by (none_before end nodes c lines b.1) (holds nodes line.node c)
  where
    by : are_one_end (first_end nodes c lines) (Some end) ≡ false → (t : Bool) → are_one_end (option_map (λ x. x.end) (if t then Some line else find (λ x. holds nodes x.node c) lines)) (Some end) ≡ false
    by h true = not_greater (compare_ends line.end end) (reversed end line.end b.0)
    by h false = h

before-trans : (a b : End) → compare_ends a b ≡ Less → (lines : List EndLine) → IsBefore b lines → IsBefore a lines
before-trans a b l [] h = tt
before-trans a b l (line ∷ lines) h = (end_total.trans a b line.end l h.0, before-trans a b l lines h.1)

-- each end comes after the one before it
abbrev IsChain : List EndLine → Type 0
IsChain [] = Unit {0}
IsChain (line ∷ []) = Unit {0}
IsChain (line ∷ next ∷ lines) = (compare_ends line.end next.end ≡ Less) × IsChain (next ∷ lines)

chain_ascends : (lines : List EndLine) → IsChain lines → AreAscending lines
chain_ascends [] h = tt
chain_ascends (line ∷ []) h = (tt, tt)
chain_ascends (line ∷ next ∷ lines) h =
    let rest = chain_ascends (next ∷ lines) h.1 in
    ((h.0, before-trans line.end next.end h.0 lines rest.0), rest)

chain_of : (lines : List EndLine) → ((k : ℕ) (x y : EndLine) → slice_get lines k ≡ Some x → slice_get lines (suc k) ≡ Some y → compare_ends x.end y.end ≡ Less) → IsChain lines
chain_of [] f = tt
chain_of (line ∷ []) f = tt
chain_of (line ∷ next ∷ lines) f = (f 0 line next refl refl, chain_of (next ∷ lines) (λ k x y p q. f (suc k) x y p q))

last_taken : (lines : List EndLine) (k : ℕ) (x : EndLine) → slice_get lines k ≡ Some x → last_of (take (suc k) lines) ≡ Some x
last_taken [] k x e = cc (e)
last_taken (y ∷ ys) zero x e = e
last_taken (y ∷ ys) (suc k) x e = next (take (suc k) ys) (last_taken ys k x e)
  where
    next : (zs : List EndLine) → last_of zs ≡ Some x → last_of (y ∷ zs) ≡ Some x
    next [] h = cc (h)
    next (z ∷ zs) h =
        let more : suc (suc (length zs)) - 1 ≡ suc (length zs) = omega arith in
        let same : suc (length zs) - 1 ≡ length zs = omega arith in
        ap (slice_get (y ∷ z ∷ zs)) more ∙ ap (slice_get (z ∷ zs)) (sym same) ∙ h

less_of : (o : Ordering) → is_less o ≡ true → o ≡ Less
less_of Less t = refl
less_of Equal t = cc (t)
less_of Greater t = cc (t)

-- the ends of a report ascend
pub ends_ascend : (r : Report) → lawful r → AreAscending r.ends
ends_ascend r h = chain_ascends r.ends (chain_of r.ends (λ k x y p q.
    let follows = h.ends (suc k) y q in
    less_of (compare_ends x.end y.end) (ap (λ o. comes_after o y.end) (sym (last_taken r.ends k x p)) ∙ follows)))

ascending_behind : (lines : List EndLine) (i : ℕ) → AreAscending lines → AreAscending (drop i lines)
ascending_behind lines zero h = h
ascending_behind [] (suc i) h = tt
ascending_behind (line ∷ lines) (suc i) h = ascending_behind lines i h.1

-- ---- on the way through both

-- what is still to be told of two reports from some ends on
abbrev still : Report → Report → List Bool → (i j : ℕ) → Bool
still one other c i j = are_one_end (first_end one.nodes c (drop i one.ends)) (first_end other.nodes c (drop j other.ends))

pub record IsMerging {I : Type 0} (s0 s : Sets I) (one other : Report) (i j : ℕ) (endings : Endings I) : Type 0 where
  pub extends : Extends s0 s
  pub found : s.is_known endings.found ≡ true
  pub one_known : s.is_known endings.one ≡ true
  pub other_known : s.is_known endings.other ≡ true
  pub told : (c : List Bool) → have_same_end one other c ≡ (s.test endings.found c || ((s.test endings.one c && s.test endings.other c) && still one other c i j))

pub IsMerging-start : {I : Type 0} {s : Sets I} → IsLawful s → (one other : Report) → IsMerging s s one other 0 0 (record { found = s.never; one = s.always; other = s.always })
IsMerging-start {s = s} lawful one other = record {
  extends = Extends-refl s;
  found = lawful.never_known;
  one_known = lawful.always_known;
  other_known = lawful.always_known;
  told = λ c. start (s.test s.never c) (s.test s.always c) (have_same_end one other c) (lawful.never_test c) (lawful.always_test c);
}
  where
    start : (n a h : Bool) → n ≡ false → a ≡ true → h ≡ (n || ((a && a) && h))
    start false true h p q = refl
    start true a h p q = cc (p)
    start false false h p q = cc (q)

-- the first of some ends is that of the first line, or of those behind it
first_behind : (nodes : List Node) (c : List Bool) (lines : List EndLine) (i : ℕ) (line : EndLine) → i < length lines → line ≡ get_or lines i line → first_end nodes c (drop i lines) ≡ (if holds nodes line.node c then Some line.end else first_end nodes c (drop (i + 1) lines))
first_behind nodes c lines i line l e =
    let one : suc i ≡ i + 1 = omega arith in
    ap (first_end nodes c) (drop-cons lines i line l ∙ ap (λ x. x ∷ drop (suc i) lines) (sym e) ∙ ap (λ k. line ∷ drop k lines) one) ∙ by (holds nodes line.node c)
  where
    by : (t : Bool) → option_map (λ x. x.end) (if t then Some line else find (λ x. holds nodes x.node c) (drop (i + 1) lines)) ≡ (if t then Some line.end else first_end nodes c (drop (i + 1) lines))
    by true = refl
    by false = refl

before_behind : (lines : List EndLine) (i : ℕ) (line : EndLine) → i < length lines → line ≡ get_or lines i line → AreAscending lines → IsBefore line.end (drop (i + 1) lines)
before_behind lines i line l e h =
    let one : suc i ≡ i + 1 = omega arith in
    let rest : AreAscending (line ∷ drop (suc i) lines) = subst AreAscending (drop-cons lines i line l ∙ ap (λ x. x ∷ drop (suc i) lines) (sym e)) (ascending_behind lines i h) in
    subst (λ k. IsBefore line.end (drop k lines)) one rest.0

-- an end of the first report that the other hasn't
pub IsMerging-one : {I : Type 0} {s0 s s' : Sets I} (one other : Report) (i j : ℕ) (line other_line : EndLine) (set : I) (endings new : Endings I) → i < length one.ends → j < length other.ends → line ≡ get_or one.ends i line → other_line ≡ get_or other.ends j other_line → AreAscending other.ends → IsSet s set (holds one.nodes line.node) → compare_ends line.end other_line.end ≡ Less → Extends s s' → IsMerging s0 s one other i j endings
    → AreEndings s' new (s.test endings.found) (λ c. s.test endings.one c && not (s.test set c)) (s.test endings.other) → IsMerging s0 s' one other (i + 1) j new
IsMerging-one {s = s} {s' = s'} one other i j line other_line set endings new l m e f asc is_set less x w n = record {
  extends = Extends-trans w.extends x;
  found = n.found_is.known;
  one_known = n.one_is.known;
  other_known = n.other_is.known;
  told = λ c.
      w.told c
      ∙ ap (λ o. s.test endings.found c || ((s.test endings.one c && s.test endings.other c) && are_one_end o (first_end other.nodes c (drop j other.ends)))) (first_behind one.nodes c one.ends i line l e)
      ∙ step (s.test endings.found c) (s.test endings.one c) (s.test endings.other c) (holds one.nodes line.node c) (first_end one.nodes c (drop (i + 1) one.ends)) (first_end other.nodes c (drop j other.ends)) (none c)
      ∙ ap (λ b. s.test endings.found c || (((s.test endings.one c && not b) && s.test endings.other c) && still one other c (i + 1) j)) (sym (is_set.test c))
      ∙ ap (λ b. b || (((s.test endings.one c && not (s.test set c)) && s.test endings.other c) && still one other c (i + 1) j)) (sym (n.found_is.test c))
      ∙ ap (λ b. s'.test new.found c || ((b && s.test endings.other c) && still one other c (i + 1) j)) (sym (n.one_is.test c))
      ∙ ap (λ b. s'.test new.found c || ((s'.test new.one c && b) && still one other c (i + 1) j)) (sym (n.other_is.test c));
}
  where
    none : (c : List Bool) → is_end line.end (first_end other.nodes c (drop j other.ends)) ≡ false
    none c =
        let one_more : suc j ≡ j + 1 = omega arith in
        let lines : drop j other.ends ≡ other_line ∷ drop (j + 1) other.ends = drop-cons other.ends j other_line m ∙ ap (λ y. y ∷ drop (suc j) other.ends) (sym f) ∙ ap (λ k. other_line ∷ drop k other.ends) one_more in
        let behind = before_behind other.ends j other_line m f asc in
        ap (λ ys. is_end line.end (first_end other.nodes c ys)) lines ∙ before_none line.end other.nodes c (other_line ∷ drop (j + 1) other.ends) (less, before-trans line.end other_line.end less (drop (j + 1) other.ends) behind)

    step : (d p q h : Bool) (rest o : Option End) → is_end line.end o ≡ false → (d || ((p && q) && are_one_end (if h then Some line.end else rest) o)) ≡ (d || (((p && not h) && q) && are_one_end rest o))
    step true p q h rest o z = refl
    step false false q h rest o z = refl
    step false true false true rest o z = refl
    step false true false false rest o z = refl
    step false true true true rest o z = z
    step false true true false rest o z = refl

-- an end of the other report that the first hasn't
pub IsMerging-other : {I : Type 0} {s0 s s' : Sets I} (one other : Report) (i j : ℕ) (line other_line : EndLine) (set : I) (endings new : Endings I) → i < length one.ends → j < length other.ends → line ≡ get_or one.ends i line → other_line ≡ get_or other.ends j other_line → AreAscending one.ends → IsSet s set (holds other.nodes other_line.node) → compare_ends line.end other_line.end ≡ Greater → Extends s s' → IsMerging s0 s one other i j endings
    → AreEndings s' new (s.test endings.found) (s.test endings.one) (λ c. s.test endings.other c && not (s.test set c)) → IsMerging s0 s' one other i (j + 1) new
IsMerging-other {s = s} {s' = s'} one other i j line other_line set endings new l m e f asc is_set greater x w n = record {
  extends = Extends-trans w.extends x;
  found = n.found_is.known;
  one_known = n.one_is.known;
  other_known = n.other_is.known;
  told = λ c.
      w.told c
      ∙ ap (λ o. s.test endings.found c || ((s.test endings.one c && s.test endings.other c) && are_one_end (first_end one.nodes c (drop i one.ends)) o)) (first_behind other.nodes c other.ends j other_line m f)
      ∙ step (s.test endings.found c) (s.test endings.one c) (s.test endings.other c) (holds other.nodes other_line.node c) (first_end one.nodes c (drop i one.ends)) (first_end other.nodes c (drop (j + 1) other.ends)) (none c)
      ∙ ap (λ b. s.test endings.found c || ((s.test endings.one c && (s.test endings.other c && not b)) && still one other c i (j + 1))) (sym (is_set.test c))
      ∙ ap (λ b. b || ((s.test endings.one c && (s.test endings.other c && not (s.test set c))) && still one other c i (j + 1))) (sym (n.found_is.test c))
      ∙ ap (λ b. s'.test new.found c || ((b && (s.test endings.other c && not (s.test set c))) && still one other c i (j + 1))) (sym (n.one_is.test c))
      ∙ ap (λ b. s'.test new.found c || ((s'.test new.one c && b) && still one other c i (j + 1))) (sym (n.other_is.test c));
}
  where
    less : compare_ends other_line.end line.end ≡ Less
    less = reversed_back line.end other_line.end greater

    none : (c : List Bool) → are_one_end (first_end one.nodes c (drop i one.ends)) (Some other_line.end) ≡ false
    none c =
        let one_more : suc i ≡ i + 1 = omega arith in
        let lines : drop i one.ends ≡ line ∷ drop (i + 1) one.ends = drop-cons one.ends i line l ∙ ap (λ y. y ∷ drop (suc i) one.ends) (sym e) ∙ ap (λ k. line ∷ drop k one.ends) one_more in
        let behind = before_behind one.ends i line l e asc in
        ap (λ ys. are_one_end (first_end one.nodes c ys) (Some other_line.end)) lines ∙ none_before other_line.end one.nodes c (line ∷ drop (i + 1) one.ends) (less, before-trans other_line.end line.end less (drop (i + 1) one.ends) behind)

    step : (d p q h : Bool) (o rest : Option End) → are_one_end o (Some other_line.end) ≡ false → (d || ((p && q) && are_one_end o (if h then Some other_line.end else rest))) ≡ (d || ((p && (q && not h)) && are_one_end o rest))
    step true p q h o rest z = refl
    step false false q h o rest z = refl
    step false true false h o rest z = refl
    step false true true true o rest z = z
    step false true true false o rest z = refl

-- an end of both
pub IsMerging-both : {I : Type 0} {s0 s s' : Sets I} (one other : Report) (i j : ℕ) (line other_line : EndLine) (set other_set : I) (endings new : Endings I) → i < length one.ends → j < length other.ends → line ≡ get_or one.ends i line → other_line ≡ get_or other.ends j other_line → AreAscending one.ends → AreAscending other.ends → IsSet s set (holds one.nodes line.node) → IsSet s other_set (holds other.nodes other_line.node) → compare_ends line.end other_line.end ≡ Equal → Extends s s' → IsMerging s0 s one other i j endings
    → AreEndings s' new (λ c. s.test endings.found c || ((s.test endings.one c && s.test set c) && (s.test endings.other c && s.test other_set c))) (λ c. s.test endings.one c && not (s.test set c)) (λ c. s.test endings.other c && not (s.test other_set c)) → IsMerging s0 s' one other (i + 1) (j + 1) new
IsMerging-both {s = s} {s' = s'} one other i j line other_line set other_set endings new l m e f asc other_asc is_set is_other equal x w n = record {
  extends = Extends-trans w.extends x;
  found = n.found_is.known;
  one_known = n.one_is.known;
  other_known = n.other_is.known;
  told = λ c.
      w.told c
      ∙ ap (λ o. s.test endings.found c || ((s.test endings.one c && s.test endings.other c) && are_one_end o (first_end other.nodes c (drop j other.ends)))) (first_behind one.nodes c one.ends i line l e)
      ∙ ap (λ o. s.test endings.found c || ((s.test endings.one c && s.test endings.other c) && are_one_end (if holds one.nodes line.node c then Some line.end else first_end one.nodes c (drop (i + 1) one.ends)) o)) (first_behind other.nodes c other.ends j other_line m f)
      ∙ step (s.test endings.found c) (s.test endings.one c) (s.test endings.other c) (holds one.nodes line.node c) (holds other.nodes other_line.node c) (first_end one.nodes c (drop (i + 1) one.ends)) (first_end other.nodes c (drop (j + 1) other.ends)) (ap is_eq equal) (none_other c) (none_one c)
      ∙ ap (λ b. (s.test endings.found c || ((s.test endings.one c && b) && (s.test endings.other c && holds other.nodes other_line.node c))) || (((s.test endings.one c && not b) && (s.test endings.other c && not (holds other.nodes other_line.node c))) && still one other c (i + 1) (j + 1))) (sym (is_set.test c))
      ∙ ap (λ b. (s.test endings.found c || ((s.test endings.one c && s.test set c) && (s.test endings.other c && b))) || (((s.test endings.one c && not (s.test set c)) && (s.test endings.other c && not b)) && still one other c (i + 1) (j + 1))) (sym (is_other.test c))
      ∙ ap (λ b. b || (((s.test endings.one c && not (s.test set c)) && (s.test endings.other c && not (s.test other_set c))) && still one other c (i + 1) (j + 1))) (sym (n.found_is.test c))
      ∙ ap (λ b. s'.test new.found c || ((b && (s.test endings.other c && not (s.test other_set c))) && still one other c (i + 1) (j + 1))) (sym (n.one_is.test c))
      ∙ ap (λ b. s'.test new.found c || ((s'.test new.one c && b) && still one other c (i + 1) (j + 1))) (sym (n.other_is.test c));
}
  where
    same : line.end ≡ other_line.end
    same = end_equal line.end other_line.end equal

    none_other : (c : List Bool) → is_end line.end (first_end other.nodes c (drop (j + 1) other.ends)) ≡ false
    none_other c = ap (λ x. is_end x (first_end other.nodes c (drop (j + 1) other.ends))) same ∙ before_none other_line.end other.nodes c (drop (j + 1) other.ends) (before_behind other.ends j other_line m f other_asc)

    none_one : (c : List Bool) → are_one_end (first_end one.nodes c (drop (i + 1) one.ends)) (Some other_line.end) ≡ false
    none_one c = ap (λ x. are_one_end (first_end one.nodes c (drop (i + 1) one.ends)) (Some x)) (sym same) ∙ none_before line.end one.nodes c (drop (i + 1) one.ends) (before_behind one.ends i line l e asc)

    step : (d p q h k : Bool) (o r : Option End) → is_same_end line.end other_line.end ≡ true → is_end line.end r ≡ false → are_one_end o (Some other_line.end) ≡ false
        → (d || ((p && q) && are_one_end (if h then Some line.end else o) (if k then Some other_line.end else r))) ≡ ((d || ((p && h) && (q && k))) || (((p && not h) && (q && not k)) && are_one_end o r))
    step true p q h k o r a b z = refl
    step false false q h k o r a b z = refl
    step false true false true k o r a b z = refl
    step false true false false k o r a b z = refl
    step false true true true true o r a b z = a
    step false true true true false o r a b z = b
    step false true true false true o r a b z = z
    step false true true false false o r a b z = refl
