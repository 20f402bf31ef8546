-- What several reports say, one report more at a time.
use Rattle.std.proofs.Common.{◌≡◌, ℕ, Bool, true, false, List, [], ◌∷◌, ◌++◌, map, refl, sym, ◌∙◌, ap, subst, append_assoc, append-nil, arith}
use Rattle.std.proofs.lemmas.Bool.Decides.{nat_tests}
use Rattle.std.specs.Ordering.{nat_cmp}
use Rattle.std.specs.Prelude.{◌&&◌, not, nat_eq, Option, None, Some, is_some, option_and_then, option_map, if◌then◌else◌}
use Rattle.std.specs.Option.{option_or}
use Rattle.std.specs.declared.cmp.Ordering.{Ordering}
use Rattle.vx_value.specs.Ends.{compare_ends}
use Rattle.vx_value.specs.declared.end.End.{End}
use Rattle.vx_space.specs.Sets.{Sets, IsLawful as IsLawfulSpace, IsSet, Extends}
use Rattle.vx_space.proofs.Spaces.{Extends-refl, Extends-trans, IsSet-extends}
use Rattle.vx_cond.specs.declared.cond.Leaf.{Leaf}
use Rattle.vx_cond.specs.Leaves.{AreLeaves, AreLeavesOf, IsApart, value_at}
use Rattle.vx_cond.proofs.LeafLaws.{AreLeaves-extends, value_at-extends}
use Rattle.vx_bdd_tools.specs.Nodes.{holds}
use Rattle.vx_findings.specs.Shared.{leaves_of}
use Rattle.vx_report.specs.declared.report.AttemptLine.{AttemptLine}
use Rattle.vx_report.specs.declared.report.EndLine.{EndLine}
use Rattle.vx_report.specs.declared.report.Report.{Report}
use Rattle.vx_report.specs.Projection.{Projection, attempts_at, attempts_in, end_at, output_at, project}
use Rattle.vx_report_reader.specs.Lawful.{IsLawful}
use Rattle.vx_report_reader.specs.Rules.{is_nil}
use Rattle.vx_cover.specs.Covers.{has_end}
use Rattle.vx_join.specs.declared.collecting.Collected.{Collected}
use Rattle.vx_join.specs.Joined.{Told, attempts_said, end_said, first_said, told_by, told_of}
use Rattle.vx_join.specs.Steps.{AreCollected, AreTold, IsOneMore, IsPartly, inside}
use Rattle.vx_join.proofs.Firsts.{is_some_first}
use Rattle.vx_join.proofs.Texts.{AreTold-extends}

-- ---- leaves of the same values

pub leaves_as : {T S I : Type 0} (cmp : T → T → Ordering) {old new : Sets I} (value other : List Bool → Option T) (leaves : List (Leaf T S I)) → Extends old new → AreLeavesOf cmp old value leaves → ((c : List Bool) → value c ≡ other c) → AreLeavesOf cmp new other leaves
leaves_as cmp value other leaves e h same = record {
  are_leaves = AreLeaves-extends cmp e leaves h.are_leaves;
  values = λ c. value_at-extends cmp e leaves h.are_leaves c ∙ h.values c ∙ same c;
}

-- ---- one report

-- what a report says where it has this end
abbrev pub said_with : Report → List Bool → Option End → Option Projection
said_with r c o = option_map (λ end. record { output = output_at r c; end = end; attempts = attempts_at r c }) o

-- a report says something of a configuration just where it has an end there
pub is_some_project : (r : Report) (c : List Bool) → is_some (project r c) ≡ has_end r c
is_some_project r c = by (end_at r c) (is_some_first (λ (line : EndLine). line.node) (λ line. line.end) r.nodes r.ends c)
  where
    by : (o : Option End) → is_some o ≡ has_end r c → is_some (said_with r c o) ≡ has_end r c
    by None e = e
    by (Some end) e = e

-- of version 1 there are no numbers of attempts
pub attempts_lawful : (r : Report) → IsLawful r → (c : List Bool) → attempts_in r.nodes r.attempts c ≡ attempts_at r c
attempts_lawful r lawful c = by (nat_eq r.version 2) r.attempts lawful.spent
  where
    by : (b : Bool) (lines : List AttemptLine) → b ≡ not (is_nil lines) → attempts_in r.nodes lines c ≡ (if b then attempts_in r.nodes lines c else None)
    by true lines e = refl
    by false [] e = refl
    by false (line ∷ lines) e =
        let some : is_nil (line ∷ lines) ≡ false = grind (arith, nat_tests) in
        let wrong : false ≡ true = e ∙ ap not some in
        cc

scope_bool : (u h : Bool) → (u && not (u && not h)) ≡ (u && h)
scope_bool false h = refl
scope_bool true true = refl
scope_bool true false = refl

-- ---- those before, and one more

-- of which configurations nothing is said, among those of which nothing was said
abbrev pub unsaid_after : (List Bool → Bool) → List Report → List Bool → Bool
unsaid_after unsaid [] = unsaid
unsaid_after unsaid (r ∷ reports) = unsaid_after (λ c. unsaid c && not (has_end r c)) reports

told_more : (unsaid : List Bool → Bool) (reports : List Report) (r : Report) → told_by unsaid (reports ++ r ∷ []) ≡ told_by unsaid reports ++ map (told_of (λ c. unsaid_after unsaid reports c && has_end r c) r.nodes) r.pieces
told_more unsaid [] r = append-nil (map (told_of (λ c. unsaid c && has_end r c) r.nodes) r.pieces)
told_more unsaid (first ∷ reports) r =
    let own = map (told_of (λ c. unsaid c && has_end first c) first.nodes) first.pieces in
    ap (λ ts. own ++ ts) (told_more (λ c. unsaid c && not (has_end first c)) reports r) ∙ sym (append_assoc own (told_by (λ c. unsaid c && not (has_end first c)) reports) _)

or_assoc : {A : Type 0} (a b d : Option A) → option_or a (option_or b d) ≡ option_or (option_or a b) d
or_assoc None b d = refl
or_assoc (Some x) b d = refl

or_last : {A : Type 0} (o : Option A) → option_or o None ≡ o
or_last None = refl
or_last (Some x) = refl

pub said_more : (reports : List Report) (r : Report) (c : List Bool) → first_said (reports ++ r ∷ []) c ≡ option_or (first_said reports c) (project r c)
said_more [] r c = or_last (project r c)
said_more (first ∷ reports) r c = ap (λ o. option_or (project first c) o) (said_more reports r c) ∙ or_assoc (project first c) (first_said reports c) (project r c)

unsaid_is : (unsaid : List Bool → Bool) (reports : List Report) (c : List Bool) → unsaid_after unsaid reports c ≡ (unsaid c && not (is_some (first_said reports c)))
unsaid_is unsaid [] c = all (unsaid c)
  where
    all : (b : Bool) → b ≡ (b && true)
    all true = refl
    all false = refl
unsaid_is unsaid (r ∷ reports) c =
    unsaid_is (λ d. unsaid d && not (has_end r d)) reports c ∙ ap (λ b. (unsaid c && not b) && not (is_some (first_said reports c))) (sym (is_some_project r c)) ∙ by (unsaid c) (project r c)
  where
    by : (u : Bool) (o : Option Projection) → ((u && not (is_some o)) && not (is_some (first_said reports c))) ≡ (u && not (is_some (option_or o (first_said reports c))))
    by false o = refl
    by true None = refl
    by true (Some p) = refl

unsaid_more : (unsaid : List Bool → Bool) (reports : List Report) (r : Report) (c : List Bool) → unsaid_after unsaid (reports ++ r ∷ []) c ≡ (unsaid_after unsaid reports c && not (has_end r c))
unsaid_more unsaid [] r c = refl
unsaid_more unsaid (first ∷ reports) r c = unsaid_more (λ d. unsaid d && not (has_end first d)) reports r c

-- ---- the loop

abbrev pub always : List Bool → Bool
always c = true

-- what stands after some reports
pub record IsCollecting {S I : Type 0} (start now : Sets I) (reports : List Report) (unsaid : I) (collected : Collected S I) : Type 0 where
  pub extends : Extends start now
  pub unsaid_are : IsSet now unsaid (unsaid_after always reports)
  pub all : AreCollected now reports collected

none_said : (o : Option Projection) → (true && not (is_some o)) ≡ true → o ≡ None
none_said None e = refl
none_said (Some p) e = cc

pub IsCollecting-partly : {S I : Type 0} {start now : Sets I} (reports : List Report) (unsaid : I) (collected : Collected S I) → IsCollecting start now reports unsaid collected → IsPartly now unsaid collected
IsCollecting-partly {S} {I} {start} {now} reports unsaid collected h =
    let none : (c : List Bool) → now.test unsaid c ≡ true → first_said reports c ≡ None = λ c t. none_said (first_said reports c) (sym (unsaid_is always reports c) ∙ sym (h.unsaid_are.test c) ∙ t) in
    record {
      unsaid_known = h.unsaid_are.known;
      ends = h.all.ends.are_leaves;
      ends_apart = record { none = λ c t. h.all.ends.values c ∙ ap (option_map (λ (p : Projection). p.end)) (none c t) };
      spent = h.all.spent.are_leaves;
      spent_apart = record { none = λ c t. h.all.spent.values c ∙ ap (λ o. option_and_then (λ (p : Projection). p.attempts) o) (none c t) };
    }

pub IsCollecting-start : {S I : Type 0} {s : Sets I} → IsLawfulSpace s → (collected : Collected S I) → collected.found.items ≡ [] → collected.ends.items ≡ [] → collected.spent.items ≡ [] → IsCollecting s s [] s.always collected
IsCollecting-start {S} {I} {s} lawful collected found ends spent = record {
  extends = Extends-refl s;
  unsaid_are = record { known = lawful.always_known; test = lawful.always_test };
  all = record {
    found = rw found AreTold.none;
    ends = rw ends (record { are_leaves = tt; values = λ c. refl });
    spent = rw spent (record { are_leaves = tt; values = λ c. refl });
  };
}

end_more : (u : Bool) (f : Option Projection) (r : Report) (c : List Bool) → u ≡ not (is_some f) → (if u then end_at r c else option_map (λ (p : Projection). p.end) f) ≡ option_map (λ (p : Projection). p.end) (option_or f (project r c))
end_more true None r c e = by (end_at r c)
  where
    by : (o : Option End) → o ≡ option_map (λ (p : Projection). p.end) (said_with r c o)
    by None = refl
    by (Some end) = refl
end_more false None r c e = cc
end_more true (Some p) r c e = cc
end_more false (Some p) r c e = refl

attempts_more : (u : Bool) (f : Option Projection) (r : Report) (c : List Bool) → u ≡ not (is_some f) → (if (u && has_end r c) then attempts_at r c else option_and_then (λ (p : Projection). p.attempts) f) ≡ option_and_then (λ (p : Projection). p.attempts) (option_or f (project r c))
attempts_more true None r c e = ap (λ b. if b then attempts_at r c else None) (sym (is_some_project r c)) ∙ by (end_at r c)
  where
    by : (o : Option End) → (if is_some (said_with r c o) then attempts_at r c else None) ≡ option_and_then (λ (p : Projection). p.attempts) (said_with r c o)
    by None = refl
    by (Some end) = refl
attempts_more false None r c e = cc
attempts_more true (Some p) r c e = cc
attempts_more false (Some p) r c e = refl

pub IsCollecting-step : {S I : Type 0} {start old new : Sets I} (reports more : List Report) (r : Report) (unsaid rest : I) (before after : Collected S I) → more ≡ reports ++ r ∷ [] → IsCollecting start old reports unsaid before → Extends old new → IsOneMore old new unsaid r before rest after → IsCollecting start new more rest after
IsCollecting-step {S} {I} {start} {old} {new} reports more r unsaid rest before after grown h e one =
    let u : (c : List Bool) → old.test unsaid c ≡ not (is_some (first_said reports c)) = λ c. h.unsaid_are.test c ∙ unsaid_is always reports c in
    let said : (c : List Bool) → option_or (first_said reports c) (project r c) ≡ first_said more c = λ c. sym (said_more reports r c) ∙ ap (λ (rs : List Report). first_said rs c) (sym grown) in
    let same : old.test unsaid ≡ unsaid_after always reports = λ i c. h.unsaid_are.test c i in
    let texts = subst (λ (test : List Bool → Bool). AreTold new after.found.items (told_by always reports ++ map (told_of (λ c. test c && has_end r c) r.nodes) r.pieces)) same (one.found (told_by always reports) h.all.found) in
    record {
      extends = Extends-trans h.extends e;
      unsaid_are = record {
        known = one.rest_is.known;
        test = λ c. one.rest_is.test c ∙ ap (λ b. b && not (has_end r c)) (h.unsaid_are.test c) ∙ sym (unsaid_more always reports r c) ∙ ap (λ (rs : List Report). unsaid_after always rs c) (sym grown);
      };
      all = record {
        found = subst (λ (ts : List Told). AreTold new after.found.items ts) (sym (told_more always reports r) ∙ ap (told_by always) (sym grown)) texts;
        ends = leaves_as compare_ends _ (end_said more) (leaves_of after.ends.items) (Extends-refl new) one.ends (λ c.
            ap (λ o. if old.test unsaid c then end_at r c else o) (h.all.ends.values c)
            ∙ end_more (old.test unsaid c) (first_said reports c) r c (u c)
            ∙ ap (option_map (λ (p : Projection). p.end)) (said c));
        spent = leaves_as nat_cmp _ (attempts_said more) (leaves_of after.spent.items) (Extends-refl new) one.spent (λ c.
            ap (λ o. if (old.test unsaid c && has_end r c) then attempts_at r c else o) (h.all.spent.values c)
            ∙ attempts_more (old.test unsaid c) (first_said reports c) r c (u c)
            ∙ ap (λ o. option_and_then (λ (p : Projection). p.attempts) o) (said c));
      };
    }

-- ---- one report, in its stages

-- the stages of one report: its sets, its ends, its scope, its numbers of attempts, its pieces
pub IsOneMore-of : {S I : Type 0} {s0 s1 s2 s3 s4 s5 : Sets I} (r : Report) (unsaid rest scope : I) (before after : Collected S I) → IsLawful r
    → IsPartly s0 unsaid before → Extends s0 s1 → Extends s1 s2 → Extends s2 s3 → Extends s3 s4 → Extends s4 s5
    → AreLeavesOf compare_ends s2 (inside (s1.test unsaid) (end_at r) (value_at s1 (leaves_of before.ends.items))) (leaves_of after.ends.items)
    → IsSet s2 rest (λ c. s1.test unsaid c && not (has_end r c))
    → IsSet s3 scope (λ c. s2.test unsaid c && not (s2.test rest c))
    → AreLeavesOf nat_cmp s4 (inside (s3.test scope) (attempts_in r.nodes r.attempts) (value_at s3 (leaves_of before.spent.items))) (leaves_of after.spent.items)
    → ((told : List Told) → AreTold s4 before.found.items told → AreTold s5 after.found.items (told ++ map (told_of (s4.test scope) r.nodes) r.pieces))
    → IsOneMore s0 s5 unsaid r before rest after
IsOneMore-of {S} {I} {s0} {s1} {s2} {s3} {s4} {s5} r unsaid rest scope before after lawful partly e1 e2 e3 e4 e5 ends rest_is scope_is spent found =
    let known = partly.unsaid_known in
    let e02 : Extends s0 s2 = Extends-trans e1 e2 in
    let e03 : Extends s0 s3 = Extends-trans e02 e3 in
    let e04 : Extends s0 s4 = Extends-trans e03 e4 in
    let e25 : Extends s2 s5 = Extends-trans e3 (Extends-trans e4 e5) in
    let here : (c : List Bool) → s3.test scope c ≡ (s0.test unsaid c && has_end r c) = λ c.
    scope_is.test c
    ∙ ap (λ b. b && not (s2.test rest c)) (e02.test unsaid c known)
    ∙ ap (λ b. s0.test unsaid c && not b) (rest_is.test c ∙ ap (λ b. b && not (has_end r c)) (e1.test unsaid c known))
    ∙ scope_bool (s0.test unsaid c) (has_end r c) in
    let same : s4.test scope ≡ (λ c. s0.test unsaid c && has_end r c) = λ i c. (e4.test scope c scope_is.known ∙ here c) i in
    record {
      rest_is = IsSet-extends e25 rest (λ c. s0.test unsaid c && not (has_end r c)) (record { known = rest_is.known; test = λ c. rest_is.test c ∙ ap (λ b. b && not (has_end r c)) (e1.test unsaid c known) });
      found = λ told h. subst (λ (test : List Bool → Bool). AreTold s5 after.found.items (told ++ map (told_of test r.nodes) r.pieces)) same (found told (AreTold-extends e04 before.found.items told h));
      ends = leaves_as compare_ends _ _ (leaves_of after.ends.items) e25 ends (λ c.
          ap (λ b. if b then end_at r c else value_at s1 (leaves_of before.ends.items) c) (e1.test unsaid c known)
          ∙ ap (λ o. if s0.test unsaid c then end_at r c else o) (value_at-extends compare_ends e1 (leaves_of before.ends.items) partly.ends c));
      spent = leaves_as nat_cmp _ _ (leaves_of after.spent.items) e5 spent (λ c.
          ap (λ b. if b then attempts_in r.nodes r.attempts c else value_at s3 (leaves_of before.spent.items) c) (here c)
          ∙ ap (λ o. if (s0.test unsaid c && has_end r c) then o else value_at s3 (leaves_of before.spent.items) c) (attempts_lawful r lawful c)
          ∙ ap (λ o. if (s0.test unsaid c && has_end r c) then attempts_at r c else o) (value_at-extends nat_cmp e03 (leaves_of before.spent.items) partly.spent c));
    }

and_first : (a b : Bool) → (a && b) ≡ true → a ≡ true
and_first true b e = refl
and_first false b e = cc

-- nothing was collected in the scope of a report
pub scope_apart : {S I : Type 0} {s0 s1 s2 s3 : Sets I} (unsaid rest scope : I) (before : Collected S I) → IsPartly s0 unsaid before → Extends s0 s1 → Extends s1 s2 → Extends s2 s3 → IsSet s3 scope (λ c. s2.test unsaid c && not (s2.test rest c)) → IsApart s3 scope (leaves_of before.spent.items)
scope_apart {S} {I} {s0} {s1} {s2} {s3} unsaid rest scope before partly e1 e2 e3 scope_is =
    let e02 : Extends s0 s2 = Extends-trans e1 e2 in
    let e03 : Extends s0 s3 = Extends-trans e02 e3 in
    record {
      none = λ c t.
          value_at-extends nat_cmp e03 (leaves_of before.spent.items) partly.spent c
          ∙ partly.spent_apart.none c (sym (e02.test unsaid c partly.unsaid_known) ∙ and_first (s2.test unsaid c) (not (s2.test rest c)) (sym (scope_is.test c) ∙ t));
    }
