-- The lines of a cover, one line more.
use Rattle.std.proofs.Common.{◌≡◌, refl, inl, inr, ℕ, ◌+◌, ◌<◌, ◌≤◌, Bool, true, false, List, [], ◌∷◌, ◌++◌, length, sym, ◌∙◌, ap, subst, arith}
use Rattle.std.specs.Prelude.{Some, None, nat_eq}
use Rattle.std.specs.List.{AllByRecursion, count_by}
use Rattle.std.proofs.lemmas.List.Sums.{sum_by_push}
use Rattle.vx_space.specs.Sets.{Sets, Extends}
use Rattle.vx_report.specs.declared.report.Report.{Report}
use Rattle.vx_bdd_tools.proofs.NodeSets.{order_cases}
use Rattle.vx_cover.specs.declared.target.Target.{Target}
use Rattle.vx_cover.specs.declared.tries.Try.{Try}
use Rattle.vx_cover.specs.declared.tries.Covering.{Covering}
use Rattle.vx_cover.specs.Covers.{IsCover, IsCoverOf, IsRun, has_end, has_this_end, has_this_piece, times}
use Rattle.vx_cover.specs.Blocks.{flat}
use Rattle.vx_cover.specs.Steps.{IsOneMore, IsStart}
use Rattle.vx_cover.specs.Targets.{AreFirst, AreOpen, AreRight, covered, first_set, left_open, times_open}
use Rattle.vx_cover.proofs.Ends.{at_most_one, ended_by_end, ended_by_piece, no_end, no_piece}
use Rattle.vx_cover.proofs.Opening.{AreOpen-left, AreRight-extends, AreRight-left, covered_right, none_open, times_open-divided}

pub all-push : {A : Type 0} (P : A → Type 0) (xs : List A) (x : A) → AllByRecursion P xs → P x → AllByRecursion P (xs ++ x ∷ [])
all-push P [] x h p = (p, tt)
all-push P (y ∷ ys) x h p = (h.0, all-push P ys x h.1 p)

-- the lines so far and the targets that are open are all
pub record IsCoveringOf {I : Type 0} (s : Sets I) (has : ℕ → List Bool → Bool) (numbers : Try → List ℕ) (ts : List (Target I)) (tries : List Try) : Type 0 where
  pub targets : AreRight s has ts
  pub right : AllByRecursion (λ (t : Try). AllByRecursion (λ index. has index t.configuration ≡ true) (numbers t)) tries
  pub once : (index : ℕ) (c : List Bool) → has index c ≡ true → times numbers index tries + times_open index ts ≡ 1

pub IsCoveringOf-start : {I : Type 0} (s : Sets I) (has : ℕ → List Bool → Bool) (numbers : Try → List ℕ) (n : ℕ) (ts : List (Target I)) → ((index : ℕ) (c : List Bool) → n < index → has index c ≡ false) → AreFirst s has n ts → IsCoveringOf s has numbers ts []
IsCoveringOf-start s has numbers n ts past f = record {
  targets = f.right;
  right = tt;
  once = λ index c h. elim (order_cases n index) [
    | inl l ↦ let wrong : false ≡ true = sym (past index c l) ∙ h in cc (wrong)
    | inr m ↦ elim m [ inl l ↦ omega (arith, f.once index c (omega (arith, l)) h) | inr e ↦ omega (arith, f.once index c (omega (arith, e)) h) ]
  ];
}

pub IsCoveringOf-more : {I : Type 0} {s0 s1 : Sets I} → Extends s0 s1 → (has : ℕ → List Bool → Bool) (numbers : Try → List ℕ) (line : Try) (ts : List (Target I)) (tries : List Try) → AreOpen s0 ts → numbers line ≡ covered s0 line.configuration ts → IsCoveringOf s0 has numbers ts tries → IsCoveringOf s1 has numbers (left_open s0 line.configuration ts) (tries ++ line ∷ [])
IsCoveringOf-more {I} {s0} {s1} x has numbers line ts tries open_sets e h = record {
  targets = AreRight-extends x has (left_open s0 line.configuration ts) (AreOpen-left s0 line.configuration ts open_sets) (AreRight-left s0 has line.configuration ts h.targets);
  right = all-push (λ (t : Try). AllByRecursion (λ index. has index t.configuration ≡ true) (numbers t)) tries line h.right (subst (λ ns. AllByRecursion (λ index. has index line.configuration ≡ true) ns) (sym e) (covered_right s0 has line.configuration ts h.targets));
  once = λ index c p.
      let more : times numbers index (tries ++ line ∷ []) ≡ times numbers index tries + count_by (nat_eq index) (numbers line) = sum_by_push (λ t. count_by (nat_eq index) (numbers t)) tries line in
      let here : count_by (nat_eq index) (numbers line) ≡ count_by (nat_eq index) (covered s0 line.configuration ts) = ap (count_by (nat_eq index)) e in
      omega (arith, more, here, times_open-divided s0 line.configuration index ts, h.once index c p);
}

pub IsCoveringOf-done : {I : Type 0} (s : Sets I) (has : ℕ → List Bool → Bool) (numbers : Try → List ℕ) (ts : List (Target I)) (tries : List Try) → ts ≡ [] → IsCoveringOf s has numbers ts tries → IsCoverOf has numbers tries
IsCoveringOf-done s has numbers ts tries e h = record {
  right = h.right;
  once = λ index c p. omega (arith, h.once index c p, ap (times_open index) e);
}

pub record IsCovering {I : Type 0} (s : Sets I) (r : Report) (covering : Covering I) : Type 0 where
  pub runs : AllByRecursion (λ (t : Try). IsRun r t.configuration) covering.tries.items
  pub some : AllByRecursion (λ (t : Try). 1 ≤ length t.ends + length t.pieces) covering.tries.items
  pub ends : IsCoveringOf s (has_this_end r) (λ t. t.ends) (flat covering.ends.items) covering.tries.items
  pub one_end : AllByRecursion (λ (t : Try). length t.ends ≤ 1) covering.tries.items
  pub pieces : IsCoveringOf s (has_this_piece r) (λ t. t.pieces) (flat covering.pieces.items) covering.tries.items

pub IsCovering-start : {I : Type 0} (s : Sets I) (r : Report) (covering : Covering I) → IsStart s r covering → IsCovering s r covering
IsCovering-start {I} s r covering h = record {
  runs = subst (λ ts. AllByRecursion (λ (t : Try). IsRun r t.configuration) ts) (sym h.tries) tt;
  some = subst (λ ts. AllByRecursion (λ (t : Try). 1 ≤ length t.ends + length t.pieces) ts) (sym h.tries) tt;
  ends = subst (λ ts. IsCoveringOf s (has_this_end r) (λ t. t.ends) (flat covering.ends.items) ts) (sym h.tries) (IsCoveringOf-start s (has_this_end r) (λ t. t.ends) (length r.ends) (flat covering.ends.items) (no_end r) h.ends);
  one_end = subst (λ ts. AllByRecursion (λ (t : Try). length t.ends ≤ 1) ts) (sym h.tries) tt;
  pieces = subst (λ ts. IsCoveringOf s (has_this_piece r) (λ t. t.pieces) (flat covering.pieces.items) ts) (sym h.tries) (IsCoveringOf-start s (has_this_piece r) (λ t. t.pieces) (length r.pieces) (flat covering.pieces.items) (no_piece r) h.pieces);
}

-- a configuration in the set of the first target has an end
first_ended : {I : Type 0} (s : Sets I) (r : Report) (ends pieces : List (Target I)) (first : I) (c : List Bool) → first_set ends pieces ≡ Some first → AreRight s (has_this_end r) ends → AreRight s (has_this_piece r) pieces → s.test first c ≡ true → has_end r c ≡ true
first_ended s r [] [] first c f e p t = cc
first_ended s r [] (x ∷ xs) first c f e p t =
    let same : x.set ≡ first = cc in
    ended_by_piece r x.index c (sym (p.0 c) ∙ ap (λ y. s.test y c) same ∙ t)
first_ended s r (x ∷ xs) pieces first c f e p t =
    let same : x.set ≡ first = cc in
    ended_by_end r x.index c (sym (e.0 c) ∙ ap (λ y. s.test y c) same ∙ t)

-- the first of some targets is met
covered_some : {I : Type 0} (s : Sets I) (c : List Bool) (x : Target I) (xs : List (Target I)) → s.test x.set c ≡ true → 1 ≤ length (covered s c (x ∷ xs))
covered_some s c x xs t =
    let here : covered s c (x ∷ xs) ≡ x.index ∷ covered s c xs = rw t refl in
    rw here (omega (arith))

-- a configuration in the set of the first target meets that one
first_met : {I : Type 0} (s : Sets I) (ends pieces : List (Target I)) (first : I) (c : List Bool) → first_set ends pieces ≡ Some first → s.test first c ≡ true → 1 ≤ length (covered s c ends) + length (covered s c pieces)
first_met s [] [] first c f t = cc
first_met s [] (x ∷ xs) first c f t =
    let same : x.set ≡ first = cc in
    omega (arith, covered_some s c x xs (ap (λ y. s.test y c) same ∙ t))
first_met s (x ∷ xs) pieces first c f t =
    let same : x.set ≡ first = cc in
    omega (arith, covered_some s c x xs (ap (λ y. s.test y c) same ∙ t))

pub IsCovering-more : {I : Type 0} {s0 s1 : Sets I} → Extends s0 s1 → (r : Report) (first : I) (old new : Covering I) → s0.options ≡ length r.options → first_set (flat old.ends.items) (flat old.pieces.items) ≡ Some first → AreOpen s0 (flat old.ends.items) → AreOpen s0 (flat old.pieces.items) → IsOneMore s0 s1 first old new → IsCovering s0 r old → IsCovering s1 r new
IsCovering-more {I} {s0} {s1} x r first old new o f oe op m h =
    let line = m.line in
    let c = line.configuration in
    let ended : has_end r c ≡ true = first_ended s0 r (flat old.ends.items) (flat old.pieces.items) first c f h.ends.targets h.pieces.targets m.member in
    let met : 1 ≤ length line.ends + length line.pieces = rw (m.ends, m.pieces) (first_met s0 (flat old.ends.items) (flat old.pieces.items) first c f m.member) in
    let ends = IsCoveringOf-more x (has_this_end r) (λ t. t.ends) line (flat old.ends.items) old.tries.items oe m.ends h.ends in
    let right = covered_right s0 (has_this_end r) c (flat old.ends.items) h.ends.targets in
    let once : (k : ℕ) → has_this_end r k c ≡ true → count_by (nat_eq k) (covered s0 c (flat old.ends.items)) ≤ 1 = λ k t. omega (arith, h.ends.once k c t, times_open-divided s0 c k (flat old.ends.items)) in
    let few : length line.ends ≤ 1 = subst (λ ns. length ns ≤ 1) (sym m.ends) (at_most_one r c (covered s0 c (flat old.ends.items)) right once) in
    let pieces = IsCoveringOf-more x (has_this_piece r) (λ t. t.pieces) line (flat old.pieces.items) old.tries.items op m.pieces h.pieces in
    record {
      runs = subst (λ ts. AllByRecursion (λ (t : Try). IsRun r t.configuration) ts) (sym m.tries) (all-push (λ (t : Try). IsRun r t.configuration) old.tries.items line h.runs (record { values = m.values ∙ o; ended = ended }));
      some = subst (λ ts. AllByRecursion (λ (t : Try). 1 ≤ length t.ends + length t.pieces) ts) (sym m.tries) (all-push (λ (t : Try). 1 ≤ length t.ends + length t.pieces) old.tries.items line h.some met);
      ends = rw (m.tries, m.open_ends) ends;
      one_end = subst (λ ts. AllByRecursion (λ (t : Try). length t.ends ≤ 1) ts) (sym m.tries) (all-push (λ (t : Try). length t.ends ≤ 1) old.tries.items line h.one_end few);
      pieces = rw (m.tries, m.open_pieces) pieces;
    }

pub IsCovering-done : {I : Type 0} (s : Sets I) (r : Report) (covering : Covering I) → first_set (flat covering.ends.items) (flat covering.pieces.items) ≡ None → IsCovering s r covering → IsCover r covering.tries.items
IsCovering-done s r covering n h =
    let none = none_open (flat covering.ends.items) (flat covering.pieces.items) n in
    record {
      runs = h.runs;
      some = h.some;
      ends = IsCoveringOf-done s (has_this_end r) (λ t. t.ends) (flat covering.ends.items) covering.tries.items none.0 h.ends;
      one_end = h.one_end;
      pieces = IsCoveringOf-done s (has_this_piece r) (λ t. t.pieces) (flat covering.pieces.items) covering.tries.items none.1 h.pieces;
    }
