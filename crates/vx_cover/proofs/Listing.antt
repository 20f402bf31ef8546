-- The ends and pieces of a report as targets, one more at a time.
use Rattle.std.proofs.Common.{◌≡◌, ◌⊎◌, inl, inr, ℕ, ◌+◌, ◌<◌, ◌≤◌, zero, suc, Bool, true, false, List, [], ◌∷◌, ◌++◌, length, map, take, get_or, refl, sym, ◌∙◌, ap, subst, arith}
use Rattle.std.specs.Prelude.{◌&&◌, ◌||◌, not, Some, slice_get}
use Rattle.std.proofs.lemmas.List.{length-map, take_all}
use Rattle.std.proofs.lemmas.Option.{slice_get-get_or}
use Rattle.vx_list.specs.Places.{item_or}
use Rattle.vx_space.specs.Sets.{Sets, IsLawful, IsSet, Extends}
use Rattle.vx_space.proofs.Spaces.{Extends-refl, Extends-trans, IsSet-extends}
use Rattle.vx_bdd_tools.specs.declared.node.Node.{Node}
use Rattle.vx_bdd_tools.specs.Nodes.{holds}
use Rattle.vx_report.specs.declared.report.EndLine.{EndLine}
use Rattle.vx_report.specs.declared.report.Piece.{Piece}
use Rattle.vx_report.specs.declared.report.Report.{Report}
use Rattle.vx_cover.specs.declared.target.Target.{Target}
use Rattle.vx_cover.specs.Covers.{end_nodes, has_end, has_this_end, has_this_piece, piece_nodes, some_hold}
use Rattle.vx_cover.specs.Scopes.{AreFirstEnds}
use Rattle.vx_cover.specs.Targets.{AreFirst, IsPushed}
use Rattle.vx_cover.proofs.Ends.{number_at, some_hold-more}
use Rattle.vx_cover.proofs.Firsts.{AreFirst-extends, AreFirst-none, AreFirst-step}

-- the nodes so far, joined
pub record IsJoining {I : Type 0} (s0 s : Sets I) (nodes : List Node) (numbers : List ℕ) (found : I) : Type 0 where
  pub extends : Extends s0 s
  pub found_is : IsSet s found (some_hold nodes numbers)

pub IsJoining-start : {I : Type 0} {s : Sets I} → IsLawful s → (nodes : List Node) → IsJoining s s nodes [] s.never
IsJoining-start {I} {s} lawful nodes = record { extends = Extends-refl s; found_is = record { known = lawful.never_known; test = lawful.never_test } }

both_same : (a a' b b' : Bool) → a ≡ a' → b ≡ b' → (a || b) ≡ (a' || b')
both_same a a' b b' e f = rw (e, f) refl

pub IsJoining-step : {I : Type 0} {s0 s s' : Sets I} {A : Type 0} (number : A → ℕ) (nodes : List Node) (lines whole : List A) (i : ℕ) (line : A) (found set found' : I) → lines ≡ whole → i < length lines → line ≡ get_or lines i line → IsJoining s0 s nodes (take i (map number whole)) found → Extends s s' → IsSet s set (holds nodes (number line)) → IsSet s' found' (λ c. s.test found c || s.test set c) → IsJoining s0 s' nodes (take (i + 1) (map number whole)) found'
IsJoining-step {I} {s0} {s} {s'} number nodes lines whole i line found set found' same l here h x hs o =
    let l' : i < length whole = subst (λ xs. i < length xs) same l in
    let here' : line ≡ get_or whole i line = subst (λ xs. line ≡ get_or xs i line) same here in
    let at : item_or (map number whole) i 0 ≡ number line = number_at number whole i line l' here' in
    let within : i < length (map number whole) = omega (arith, l', length-map whole number) in
    record {
      extends = Extends-trans h.extends x;
      found_is = record {
        known = o.known;
        test = λ c. o.test c
            ∙ both_same (s.test found c) (some_hold nodes (take i (map number whole)) c) (s.test set c) (holds nodes (item_or (map number whole) i 0) c) (h.found_is.test c) (hs.test c ∙ ap (λ k. holds nodes k c) (sym at))
            ∙ sym (some_hold-more nodes (map number whole) i c within);
      };
    }

pub IsJoining-all : {I : Type 0} {s0 s : Sets I} {A : Type 0} (number : A → ℕ) (nodes : List Node) (lines whole : List A) (i : ℕ) (found : I) → lines ≡ whole → length lines ≤ i → IsJoining s0 s nodes (take i (map number whole)) found → IsSet s found (some_hold nodes (map number whole))
IsJoining-all {I} {s0} {s} number nodes lines whole i found same l h =
    let l' : length whole ≤ i = subst (λ xs. length xs ≤ i) same l in
    subst (λ ks. IsSet s found (some_hold nodes ks)) (take_all i (map number whole) (omega (arith, l', length-map whole number))) h.found_is

not_either : (a b : Bool) → (not a && not b) ≡ not (a || b)
not_either true b = refl
not_either false b = refl

-- an item of a list with one more
get_pushed : {A : Type 0} (xs : List A) (x y : A) (place : ℕ) → slice_get (xs ++ x ∷ []) place ≡ Some y → (slice_get xs place ≡ Some y) ⊎ ((place ≡ length xs) × (x ≡ y))
get_pushed [] x y zero e = inr (refl, cc)
get_pushed [] x y (suc place) e = cc
get_pushed (z ∷ xs) x y zero e = inl e
get_pushed (z ∷ xs) x y (suc place) e = elim (get_pushed xs x y place e) [
  | inl h ↦ inl h
  | inr h ↦ let at = h.0 in inr (omega (arith, at), h.1)
]

length_pushed : {A : Type 0} (xs : List A) (x : A) → length (xs ++ x ∷ []) ≡ length xs + 1
length_pushed [] x = refl
length_pushed (y ∷ xs) x = omega (arith, length_pushed xs x)

-- the sets of the first ends, and the configurations that have none of them
pub record IsListingEnds {I : Type 0} (s0 s : Sets I) (r : Report) (i : ℕ) (rest : I) (ids : List I) : Type 0 where
  pub extends : Extends s0 s
  pub rest_is : IsSet s rest (λ c. not (some_hold r.nodes (take i (end_nodes r)) c))
  pub number : length ids ≡ i
  pub each : (place : ℕ) (id : I) → slice_get ids place ≡ Some id → IsSet s id (has_this_end r (suc place))

pub IsListingEnds-start : {I : Type 0} {s : Sets I} → IsLawful s → (r : Report) → IsListingEnds s s r 0 s.always []
IsListingEnds-start {I} {s} lawful r = record {
  extends = Extends-refl s;
  rest_is = record { known = lawful.always_known; test = lawful.always_test };
  number = refl;
  each = λ place id e. cc;
}

pub IsListingEnds-step : {I : Type 0} {s0 s s1 s2 : Sets I} (r : Report) (lines : List EndLine) (i : ℕ) (line : EndLine) (rest set part rest' : I) (ids ids' : List I) → lines ≡ r.ends → i < length lines → line ≡ get_or lines i line → IsListingEnds s0 s r i rest ids → Extends s s1 → Extends s1 s2 → IsSet s set (holds r.nodes line.node) → IsSet s1 part (λ c. s.test rest c && s.test set c) → ids' ≡ ids ++ part ∷ [] → IsSet s2 rest' (λ c. s1.test rest c && not (s1.test set c)) → IsListingEnds s0 s2 r (i + 1) rest' ids'
IsListingEnds-step {I} {s0} {s} {s1} {s2} r lines i line rest set part rest' ids ids' same l here h x y hs hp more o =
    let l' : i < length r.ends = subst (λ xs. i < length xs) same l in
    let here' : line ≡ get_or r.ends i line = subst (λ xs. line ≡ get_or xs i line) same here in
    let at : item_or (end_nodes r) i 0 ≡ line.node = number_at (λ x. x.node) r.ends i line l' here' in
    let within : i < length (end_nodes r) = omega (arith, l', length-map r.ends (λ x. x.node)) in
    let node : (c : List Bool) → s.test set c ≡ holds r.nodes (item_or (end_nodes r) i 0) c = λ c. hs.test c ∙ ap (λ k. holds r.nodes k c) (sym at) in
    let part_is : IsSet s1 part (has_this_end r (suc i)) = record { known = hp.known; test = λ c. hp.test c ∙ ap (λ b. b && s.test set c) (h.rest_is.test c) ∙ ap (λ b. not (some_hold r.nodes (take i (end_nodes r)) c) && b) (node c) } in
    record {
      extends = Extends-trans h.extends (Extends-trans x y);
      rest_is = record {
        known = o.known;
        test = λ c. o.test c
            ∙ ap (λ b. b && not (s1.test set c)) (x.test rest c h.rest_is.known ∙ h.rest_is.test c)
            ∙ ap (λ b. not (some_hold r.nodes (take i (end_nodes r)) c) && not b) (x.test set c hs.known ∙ node c)
            ∙ not_either (some_hold r.nodes (take i (end_nodes r)) c) (holds r.nodes (item_or (end_nodes r) i 0) c)
            ∙ ap not (sym (some_hold-more r.nodes (end_nodes r) i c within));
      };
      number = ap length more ∙ length_pushed ids part ∙ ap (λ n. n + 1) h.number;
      each = λ place id e. elim (get_pushed ids part id place (ap (λ xs. slice_get xs place) (sym more) ∙ e)) [
        | inl g ↦ IsSet-extends (Extends-trans x y) id (has_this_end r (suc place)) (h.each place id g)
        | inr g ↦
            let last : place ≡ i = g.0 ∙ h.number in
            let one : IsSet s1 id (has_this_end r (suc i)) = subst (λ z. IsSet s1 z (has_this_end r (suc i))) g.1 part_is in
            IsSet-extends y id (has_this_end r (suc place)) (subst (λ n. IsSet s1 id (has_this_end r (suc n))) (sym last) one)
      ];
    }

pub AreFirstEnds-all : {I : Type 0} {s0 s : Sets I} (r : Report) (lines : List EndLine) (i : ℕ) (rest : I) (ids : List I) → lines ≡ r.ends → i ≤ length lines → length lines ≤ i → IsListingEnds s0 s r i rest ids → AreFirstEnds s r ids
AreFirstEnds-all r lines i rest ids same few all h = record { number = omega (arith, few, all, ap length same, h.number); each = h.each }

pub AreFirstEnds-extends : {I : Type 0} {old new : Sets I} → Extends old new → (r : Report) (ids : List I) → AreFirstEnds old r ids → AreFirstEnds new r ids
AreFirstEnds-extends x r ids h = record { number = h.number; each = λ place id e. IsSet-extends x id (has_this_end r (suc place)) (h.each place id e) }

-- the set of an end, by its place
pub first_end_at : {I : Type 0} {s : Sets I} (r : Report) (ids : List I) (i : ℕ) (id : I) → AreFirstEnds s r ids → i < length r.ends → id ≡ get_or ids i id → IsSet s id (has_this_end r (suc i))
first_end_at {I} {s} r ids i id h l here = h.each i id (slice_get-get_or ids i id (omega (arith, l, h.number)) ∙ ap Some (sym here))

-- the ends as targets, one more
pub first_targets-start : {I : Type 0} {s : Sets I} (r : Report) (ts : List (Target I)) → ts ≡ [] → AreFirst s (has_this_end r) 0 ts
first_targets-start {I} {s} r ts e = subst (λ xs. AreFirst s (has_this_end r) 0 xs) (sym e) (AreFirst-none s (has_this_end r) (λ c. refl))

pub first_targets-step : {I : Type 0} {s : Sets I} → IsLawful s → (r : Report) (ids : List I) (i m : ℕ) (id : I) (ts ts' : List (Target I)) → m ≡ suc i → AreFirstEnds s r ids → i < length r.ends → id ≡ get_or ids i id → AreFirst s (has_this_end r) i ts → IsPushed s m id ts ts' → AreFirst s (has_this_end r) (i + 1) ts'
first_targets-step {I} {s} lawful r ids i m id ts ts' next h l here f pushed =
    let one = first_end_at r ids i id h l here in
    let count : m ≡ i + 1 = omega (arith, next) in
    subst (λ n. AreFirst s (has_this_end r) n ts') count (AreFirst-step lawful (has_this_end r) i m id ts ts' next f (subst (λ n. IsSet s id (has_this_end r n)) (sym next) one) pushed)

-- the first pieces as targets
pub record IsListingPieces {I : Type 0} (s0 s : Sets I) (r : Report) (ended : I) (i : ℕ) (ts : List (Target I)) : Type 0 where
  pub extends : Extends s0 s
  pub ended_is : IsSet s ended (has_end r)
  pub targets : AreFirst s (has_this_piece r) i ts

pub IsListingPieces-start : {I : Type 0} {s : Sets I} (r : Report) (ended : I) (ts : List (Target I)) → IsSet s ended (has_end r) → ts ≡ [] → IsListingPieces s s r ended 0 ts
IsListingPieces-start {I} {s} r ended ts h e = record {
  extends = Extends-refl s;
  ended_is = h;
  targets = subst (λ xs. AreFirst s (has_this_piece r) 0 xs) (sym e) (AreFirst-none s (has_this_piece r) (λ c. refl));
}

pub IsListingPieces-step : {I : Type 0} {s0 s s1 : Sets I} → IsLawful s1 → (r : Report) (lines : List Piece) (i m : ℕ) (line : Piece) (ended set part : I) (ts ts' : List (Target I)) → m ≡ suc i → lines ≡ r.pieces → i < length lines → line ≡ get_or lines i line → IsListingPieces s0 s r ended i ts → Extends s s1 → IsSet s set (holds r.nodes line.node) → IsSet s1 part (λ c. s.test ended c && s.test set c) → IsPushed s1 m part ts ts' → IsListingPieces s0 s1 r ended (i + 1) ts'
IsListingPieces-step {I} {s0} {s} {s1} lawful r lines i m line ended set part ts ts' next same l here h x hs hp pushed =
    let l' : i < length r.pieces = subst (λ xs. i < length xs) same l in
    let here' : line ≡ get_or r.pieces i line = subst (λ xs. line ≡ get_or xs i line) same here in
    let at : item_or (piece_nodes r) i 0 ≡ line.node = number_at (λ x. x.node) r.pieces i line l' here' in
    let here_is : IsSet s1 part (has_this_piece r (suc i)) = record { known = hp.known; test = λ c. hp.test c ∙ ap (λ b. b && s.test set c) (h.ended_is.test c) ∙ ap (λ b. has_end r c && b) (hs.test c ∙ ap (λ k. holds r.nodes k c) (sym at)) } in
    let first = AreFirst-step lawful (has_this_piece r) i m part ts ts' next (AreFirst-extends x (has_this_piece r) i ts h.targets) (subst (λ n. IsSet s1 part (has_this_piece r n)) (sym next) here_is) pushed in
    let count : m ≡ i + 1 = omega (arith, next) in
    record {
      extends = Extends-trans h.extends x;
      ended_is = IsSet-extends x ended (has_end r) h.ended_is;
      targets = subst (λ n. AreFirst s1 (has_this_piece r) n ts') count first;
    }
