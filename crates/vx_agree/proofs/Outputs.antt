-- Two outputs as a whole.
use Rattle.std.proofs.Common.{◌≡◌, ℕ, ◌+◌, ◌<◌, ◌≤◌, Bool, true, false, List, [], ◌∷◌, ◌++◌, length, drop, take, get_or, refl, sym, ◌∙◌, ap, subst, arith, zero, suc, inl, inr}
use Rattle.std.specs.Prelude.{◌||◌, ◌&&◌, not}
use Rattle.std.proofs.lemmas.List.{drop_all, take_all, take_more}
use Rattle.std.proofs.Math.Seq.{drop-nil}
use Rattle.vx_space.specs.Sets.{Sets, IsSet, IsLawful, Extends}
use Rattle.vx_space.proofs.Spaces.{Extends-refl, Extends-trans}
use Rattle.vx_bdd_tools.specs.Nodes.{holds}
use Rattle.vx_report.specs.Projection.{bytes_of, output_at}
use Rattle.vx_report.specs.declared.report.Piece.{Piece}
use Rattle.vx_report.specs.declared.report.Report.{Report}
use Rattle.vx_value.specs.declared.end.Stream.{Stream}
use Rattle.vx_agree.specs.declared.reached.Reached.{Reached}
use Rattle.vx_agree.specs.Equal.{are_equal}
use Rattle.vx_agree.specs.Left.{bytes_if, left_from, said, written}
use Rattle.vx_agree.specs.Places.{AreKnownPlaces, is_covered}
use Rattle.vx_agree.specs.Taking.{from_place}
use Rattle.vx_agree.specs.Moving.{AreBehind, HaveMoved, IsAllSaid, IsLeft, IsSameOutput, IsUnsaid, is_same_output}
use Rattle.vx_agree.proofs.Equal.{equal_lists, equal_self, none_left, some_left}
use Rattle.vx_agree.proofs.Left.{left_end, left_here, left_start, said_more, said_output}
use Rattle.vx_agree.proofs.Moved.{IsLeft-value}
use Rattle.vx_agree.proofs.Places.{and_left, and_right, at_each, both_or, covered-push, not_both, or_left, or_right}

-- ---- along the first output

pub record IsFollowing {I : Type 0} (s0 s : Sets I) (one other : Report) (start : I) (i : ℕ) (reached : List (Reached I)) : Type 0 where
  pub extends : Extends s0 s
  pub known : AreKnownPlaces s reached
  pub left : (c : List Bool) → IsLeft s c (from_place other c (said one c (drop i one.pieces))) (is_same_output one other c) (s0.test start c) reached

pub IsFollowing-start : {I : Type 0} (s : Sets I) (one other : Report) (start : I) (reached : List (Reached I)) → s.is_known start ≡ true → reached ≡ record { piece = 0; byte = 0; condition = start } ∷ [] → IsFollowing s s one other start 0 reached
IsFollowing-start s one other start reached k e = subst (IsFollowing s s one other start 0) (sym e) (record {
  extends = Extends-refl s;
  known = (k, tt);
  left = λ c. record {
    each = ((λ t. whole c), tt);
    all = λ t q. ap (λ b. b || false) t;
  };
})
  where
    whole : (c : List Bool) → is_same_output one other c ≡ from_place other c (said one c one.pieces) 0 0
    whole c = ap (λ xs. are_equal xs (output_at other c)) (sym (said_output one c)) ∙ ap (are_equal (said one c one.pieces)) (sym (left_start other c 0 ∙ said_output other c))

pub IsFollowing-step : {I : Type 0} {s0 s s' : Sets I} (one other : Report) (start : I) (i : ℕ) (front : Piece) (reached new : List (Reached I)) → i < length one.pieces → front ≡ get_or one.pieces i front → Extends s s' → IsFollowing s0 s one other start i reached → HaveMoved s s' one other front reached new → IsFollowing s0 s' one other start (i + 1) new
IsFollowing-step {s0 = s0} {s = s} one other start i front reached new l is e f m = record {
  extends = Extends-trans f.extends e;
  known = m.known;
  left = λ c. m.left c (said one c (drop (i + 1) one.pieces)) (is_same_output one other c) (s0.test start c) (IsLeft-value s c (from_place other c (said one c (drop i one.pieces))) (λ piece byte. from_place other c (written one c front ++ said one c (drop (i + 1) one.pieces)) piece byte) (is_same_output one other c) (s0.test start c) reached (λ piece byte. ap (λ xs. are_equal xs (left_from other c piece byte)) (said_more one c i front l ∙ ap (λ x. written one c x ++ said one c (drop (i + 1) one.pieces)) (sym is))) (f.left c));
}

pub AreBehind-of : {I : Type 0} {s0 s : Sets I} (one other : Report) (start : I) (i : ℕ) (reached : List (Reached I)) → length one.pieces ≤ i → IsFollowing s0 s one other start i reached → AreBehind s0 s one other start reached
AreBehind-of {s0 = s0} {s = s} one other start i reached l f = record {
  known = f.known;
  left = λ c. IsLeft-value s c (from_place other c (said one c (drop i one.pieces))) (from_place other c []) (is_same_output one other c) (s0.test start c) reached (λ piece byte. ap (λ xs. are_equal (said one c xs) (left_from other c piece byte)) (drop_all i one.pieces l)) (f.left c);
}

-- ---- what is left of the second output

abbrev is_nothing : List (Stream × ℕ) → Bool
is_nothing xs = are_equal [] xs

nothing-append : (xs ys : List (Stream × ℕ)) → is_nothing (xs ++ ys) ≡ (is_nothing xs && is_nothing ys)
nothing-append [] ys = refl
nothing-append (x ∷ xs) ys = refl

-- a piece with nothing left silences nobody
pub IsSilent-none : {I : Type 0} (s : Sets I) (other : Report) (piece : Piece) (byte : ℕ) (rest : I) → s.is_known rest ≡ true → length (drop byte piece.text) ≡ 0 → IsSet s rest (λ c. s.test rest c && are_equal [] (drop byte (written other c piece)))
IsSilent-none s other piece byte rest k e = record {
  known = k;
  test = λ c. same (s.test rest c) _ (ap is_nothing (none (holds other.nodes piece.node c)));
}
  where
    same : (a b : Bool) → b ≡ true → a ≡ (a && b)
    same true b t = sym t
    same false b t = refl

    add_none : (n : ℕ) → n + 0 ≡ n
    add_none n = omega arith

    none : (b : Bool) → drop byte (bytes_if b piece) ≡ []
    none true = subst (λ n. drop n (bytes_of piece) ≡ []) (add_none byte) (none_left piece byte 0 (sym e))
    none false = drop-nil byte

-- those that don't write a piece of which something is left
pub IsSilent-some : {I : Type 0} {s0 s1 : Sets I} (other : Report) (piece : Piece) (byte : ℕ) (rest set id : I) → (length (drop byte piece.text) ≡ 0 → ⊥) → IsSet s0 set (holds other.nodes piece.node) → IsSet s1 id (λ c. s0.test rest c && not (s0.test set c)) → IsSet s1 id (λ c. s0.test rest c && are_equal [] (drop byte (written other c piece)))
IsSilent-some {s0 = s0} other piece byte rest set id some is_set n = record {
  known = n.known;
  test = λ c. n.test c ∙ ap (λ b. s0.test rest c && b) (ap not (is_set.test c) ∙ silent (holds other.nodes piece.node c));
}
  where
    within : (text : List ℕ) (k : ℕ) → (length (drop k text) ≡ 0 → ⊥) → k < length text
    within [] k f = absurd (f (ap length (drop-nil k)))
    within (b ∷ text) zero f = omega arith
    within (b ∷ text) (suc k) f = let rest = within text k f in omega (arith, rest)

    silent : (b : Bool) → not b ≡ are_equal [] (drop byte (bytes_if b piece))
    silent true = let x = some_left piece byte (within piece.text byte some) in sym (ap is_nothing x.2)
    silent false = sym (ap is_nothing (drop-nil byte))

-- on the way through what is left
pub record IsLeaving {I : Type 0} (s0 s : Sets I) (other : Report) (piece byte : ℕ) (condition : I) (index from : ℕ) (rest : I) : Type 0 where
  pub extends : Extends s0 s
  pub known : s.is_known rest ≡ true
  pub told : (c : List Bool) → (s0.test condition c && from_place other c [] piece byte) ≡ (s.test rest c && from_place other c [] index from)
  pub less : (c : List Bool) → s.test rest c ≡ true → s0.test condition c ≡ true

pub IsLeaving-start : {I : Type 0} (s : Sets I) (other : Report) (piece byte : ℕ) (condition : I) → s.is_known condition ≡ true → IsLeaving s s other piece byte condition piece byte condition
IsLeaving-start s other piece byte condition k = record { extends = Extends-refl s; known = k; told = λ c. refl; less = λ c t. t }

pub IsLeaving-step : {I : Type 0} {s0 s s' : Sets I} (other : Report) (piece byte : ℕ) (condition : I) (index from : ℕ) (there : Piece) (rest over : I) → index < length other.pieces → there ≡ get_or other.pieces index there → Extends s s' → IsLeaving s0 s other piece byte condition index from rest → IsSet s' over (λ c. s.test rest c && are_equal [] (drop from (written other c there))) → IsLeaving s0 s' other piece byte condition (index + 1) 0 over
IsLeaving-step {s0 = s0} {s = s} {s' = s'} other piece byte condition index from there rest over l is e w o = record {
  extends = Extends-trans w.extends e;
  known = o.known;
  told = λ c.
      w.told c
      ∙ ap (λ ys. s.test rest c && is_nothing ys) (left_here other c index there from l)
      ∙ ap (λ b. s.test rest c && b) (nothing-append (drop from (written other c (get_or other.pieces index there))) (left_from other c (index + 1) 0))
      ∙ ap (λ x. s.test rest c && (is_nothing (drop from (written other c x)) && is_nothing (left_from other c (index + 1) 0))) (sym is)
      ∙ later (s.test rest c) (is_nothing (drop from (written other c there))) (is_nothing (left_from other c (index + 1) 0))
      ∙ ap (λ b. b && is_nothing (left_from other c (index + 1) 0)) (sym (o.test c));
  less = λ c t. w.less c (and_left (s.test rest c) (is_nothing (drop from (written other c there))) (sym (o.test c) ∙ t));
}
  where
    later : (a b t : Bool) → (a && (b && t)) ≡ ((a && b) && t)
    later true b t = refl
    later false b t = refl

pub IsUnsaid-of : {I : Type 0} {s0 s : Sets I} (other : Report) (piece byte : ℕ) (condition : I) (index from : ℕ) (rest : I) → IsLeaving s0 s other piece byte condition index from rest → ((c : List Bool) → s.test rest c ≡ true → from_place other c [] index from ≡ true) → IsUnsaid s0 s other piece byte condition rest
IsUnsaid-of {s0 = s0} {s = s} other piece byte condition index from rest w ends = record {
  known = w.known;
  nothing = λ c t. (w.less c t, and_right (s0.test condition c) (from_place other c [] piece byte) (w.told c ∙ ap (λ b. b && from_place other c [] index from) t ∙ ends c t));
  all = λ c t e. and_left (s.test rest c) (from_place other c [] index from) (sym (w.told c) ∙ ap (λ b. b && from_place other c [] piece byte) t ∙ e);
}

pub ends_never : {I : Type 0} {s : Sets I} → IsLawful s → (other : Report) (index from : ℕ) (rest : I) → rest ≡ s.never → (c : List Bool) → s.test rest c ≡ true → from_place other c [] index from ≡ true
ends_never {s = s} lawful other index from rest e c t = absurd (not_both (s.test rest c) t (ap (λ y. s.test y c) e ∙ lawful.never_test c))

pub ends_past : (other : Report) (index from : ℕ) → length other.pieces ≤ index → (c : List Bool) → from_place other c [] index from ≡ true
ends_past other index from l c = ap is_nothing (left_end other c index from l)

-- ---- those at places from which on nothing is left

pub record IsCollecting {I : Type 0} (s0 s : Sets I) (other : Report) (whole entries : List (Reached I)) (all : I) : Type 0 where
  pub extends : Extends s0 s
  pub known : s.is_known all ≡ true
  pub sound : (c : List Bool) (same here : Bool) → IsLeft s0 c (from_place other c []) same here whole → s.test all c ≡ true → same ≡ true
  pub complete : (c : List Bool) (same here : Bool) → IsLeft s0 c (from_place other c []) same here whole → same ≡ true → is_covered s0 entries c ≡ true → s.test all c ≡ true

pub IsCollecting-start : {I : Type 0} {s : Sets I} → IsLawful s → (other : Report) (whole : List (Reached I)) → IsCollecting s s other whole [] s.never
IsCollecting-start {s = s} lawful other whole = record {
  extends = Extends-refl s;
  known = lawful.never_known;
  sound = λ c same here h t. absurd (not_both (s.test s.never c) t (lawful.never_test c));
  complete = λ c same here h e t. cc (t);
}

pub IsCollecting-step : {I : Type 0} {s0 s s1 s2 : Sets I} (other : Report) (whole : List (Reached I)) (i : ℕ) (entry : Reached I) (all rest all' : I) → i < length whole → entry ≡ get_or whole i entry → s0.is_known entry.condition ≡ true → IsCollecting s0 s other whole (take i whole) all → Extends s s1 → Extends s1 s2 → IsUnsaid s s1 other entry.piece entry.byte entry.condition rest → IsSet s2 all' (λ c. s1.test all c || s1.test rest c) → IsCollecting s0 s2 other whole (take (i + 1) whole) all'
IsCollecting-step {I = I} {s0 = s0} {s = s} {s1 = s1} {s2 = s2} other whole i entry all rest all' l is ke w e f u o = record {
  extends = Extends-trans w.extends (Extends-trans e f);
  known = o.known;
  sound = λ c same here h t. elim (both_or (s1.test all c) (s1.test rest c) (sym (o.test c) ∙ t)) [
    | inl a ↦ w.sound c same here h (sym (e.test all c w.known) ∙ a)
    | inr b ↦ let n = u.nothing c b in at c same here h (sym (there c) ∙ n.0) ∙ n.1
  ];
  complete = λ c same here h q t. o.test c ∙ elim (both_or (is_covered s0 (take i whole) c) (s0.test entry.condition c) (sym (covered-push s0 (take i whole) entry c) ∙ ap (λ xs. is_covered s0 xs c) (sym more_is) ∙ t)) [
    | inl a ↦ or_left (s1.test all c) (s1.test rest c) (e.test all c w.known ∙ w.complete c same here h q a)
    | inr b ↦ or_right (s1.test all c) (s1.test rest c) (u.all c (there c ∙ b) (sym (at c same here h b) ∙ q))
  ];
}
  where
    more_is : take (i + 1) whole ≡ take i whole ++ entry ∷ []
    more_is = take_more whole i entry l ∙ ap (λ x. take i whole ++ x ∷ []) (sym is)

    there : (c : List Bool) → s.test entry.condition c ≡ s0.test entry.condition c
    there c = w.extends.test entry.condition c ke

    at : (c : List Bool) (same here : Bool) → IsLeft s0 c (from_place other c []) same here whole → s0.test entry.condition c ≡ true → same ≡ from_place other c [] entry.piece entry.byte
    at c same here h t = at_each s0 c (from_place other c []) same whole i entry l h.each (ap (λ x. s0.test x.condition c) (sym is) ∙ t) ∙ ap (λ x. from_place other c [] x.piece x.byte) (sym is)

pub IsAllSaid-of : {I : Type 0} {s0 s : Sets I} (other : Report) (whole : List (Reached I)) (i : ℕ) (all : I) → length whole ≤ i → IsCollecting s0 s other whole (take i whole) all → IsAllSaid s0 s other whole all
IsAllSaid-of {s0 = s0} other whole i all l w = record {
  known = w.known;
  sound = w.sound;
  complete = λ c same here h t e. w.complete c same here h e (ap (λ xs. is_covered s0 xs c) (take_all i whole l) ∙ h.all t e);
}

-- ---- both outputs

pub IsSameOutput-of : {I : Type 0} {s0 s1 s2 : Sets I} (one other : Report) (start : I) (reached : List (Reached I)) (id : I) → AreBehind s0 s1 one other start reached → IsAllSaid s1 s2 other reached id → IsSameOutput s0 s2 one other start id
IsSameOutput-of {s0 = s0} one other start reached id b a = record {
  known = a.known;
  same = λ c t. equal_lists (output_at one c) (output_at other c) (a.sound c (is_same_output one other c) (s0.test start c) (b.left c) t);
  all = λ c t e. a.complete c (is_same_output one other c) (s0.test start c) (b.left c) t (ap (λ xs. are_equal xs (output_at other c)) e ∙ equal_self (output_at other c));
}
