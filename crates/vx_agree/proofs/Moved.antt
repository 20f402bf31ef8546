-- Configurations that are moved along the first output.
use Rattle.std.proofs.Common.{◌≡◌, ◌⊎◌, ℕ, ◌+◌, ◌<◌, ◌≤◌, Bool, true, false, List, [], ◌∷◌, ◌++◌, length, map, drop, take, get_or, refl, sym, ◌∙◌, ap, arith, inl, inr}
use Rattle.std.specs.Prelude.{◌&&◌, not}
use Rattle.std.proofs.lemmas.List.{drop_all, length-drop, length-map, take_all, take_more}
use Rattle.std.proofs.Math.Seq.{drop-nil}
use Rattle.vx_space.specs.Sets.{Sets, IsSet, IsLawful, Extends}
use Rattle.vx_space.proofs.Spaces.{Extends-refl, Extends-trans}
use Rattle.vx_bdd_tools.specs.Nodes.{holds}
use Rattle.vx_report.specs.Projection.{bytes_of}
use Rattle.vx_report.specs.declared.report.Piece.{Piece}
use Rattle.vx_report.specs.declared.report.Report.{Report}
use Rattle.vx_value.specs.declared.end.Stream.{Stream}
use Rattle.vx_agree.specs.declared.reached.Reached.{Reached}
use Rattle.vx_agree.specs.Equal.{are_equal, common_from}
use Rattle.vx_agree.specs.Left.{bytes_if, left_from}
use Rattle.vx_agree.specs.Places.{AreKnownPlaces, IsAdded, IsPlaced, IsRightAtEach, is_covered}
use Rattle.vx_agree.specs.Taking.{IsBehind, IsTaken, from_place}
use Rattle.vx_agree.specs.Moving.{AreMoved, GoesAlong, HaveMoved, IsLeft, IsMoved, IsSlid, SaysTheSame}
use Rattle.vx_agree.proofs.Equal.{common_from-within, none_left, with_common}
use Rattle.vx_agree.proofs.Left.{left_end, left_here, left_silent}
use Rattle.vx_agree.proofs.Places.{and_left, and_right, at_each, both_or, covered-push, each-value, not_both, not_true}
use Rattle.vx_agree.proofs.Sharing.{IsAdded-later, IsAdded-trans}

-- ---- a place slides

-- the configurations of a condition say the same from two places on, in a later space
pub record IsSliding {I : Type 0} (s0 s : Sets I) (other : Report) (condition : I) (piece byte index from : ℕ) : Type 0 where
  pub extends : Extends s0 s
  pub same : SaysTheSame s0 other condition piece byte index from

pub SaysTheSame-refl : {I : Type 0} (s : Sets I) (other : Report) (condition : I) (piece byte : ℕ) → SaysTheSame s other condition piece byte piece byte
SaysTheSame-refl s other condition piece byte = record { same = λ c t. refl }

pub IsSliding-start : {I : Type 0} (s : Sets I) (other : Report) (condition : I) (piece byte : ℕ) → IsSliding s s other condition piece byte piece byte
IsSliding-start s other condition piece byte = record { extends = Extends-refl s; same = SaysTheSame-refl s other condition piece byte }

-- a piece that no configuration of the condition writes
pub IsSliding-step : {I : Type 0} {s0 s s' : Sets I} → IsLawful s' → (other : Report) (condition : I) (piece byte index from : ℕ) (there : Piece) (set inside : I) → index < length other.pieces → there ≡ get_or other.pieces index there → s0.is_known condition ≡ true → IsSliding s0 s other condition piece byte index from → IsSet s set (holds other.nodes there.node) → Extends s s' → IsSet s' inside (λ c. s.test condition c && s.test set c) → inside ≡ s'.never → IsSliding s0 s' other condition piece byte (index + 1) 0
IsSliding-step {s0 = s0} {s = s} {s' = s'} lawful other condition piece byte index from there set inside l is k w is_set e n z = record {
  extends = Extends-trans w.extends e;
  same = record { same = λ c t. w.same.same c t ∙ left_silent other c index there from l (ap (λ x. holds other.nodes x.node c) (sym is) ∙ sym (is_set.test c) ∙ off c t (s.test set c) refl) };
}
  where
    off : (c : List Bool) → s0.test condition c ≡ true → (b : Bool) → s.test set c ≡ b → s.test set c ≡ false
    off c t false b = b
    off c t true b =
        let here : s.test condition c ≡ true = w.extends.test condition c k ∙ t in
        let both : s'.test inside c ≡ true = n.test c ∙ ap (λ x. x && s.test set c) here ∙ b in
        absurd (not_both (s'.test inside c) both (ap (λ y. s'.test y c) z ∙ lawful.never_test c))

pub SaysTheSame-end : {I : Type 0} {s0 s : Sets I} (other : Report) (condition : I) (piece byte index from : ℕ) → IsSliding s0 s other condition piece byte index from → length other.pieces ≤ index → SaysTheSame s0 other condition piece byte (length other.pieces) 0
SaysTheSame-end other condition piece byte index from w l = record { same = λ c t. w.same.same c t ∙ left_end other c index from l ∙ sym (left_end other c (length other.pieces) 0 (omega arith)) }

-- ---- all of an entry goes on together

-- ids that are equal have one set, and so have those that are equal within a condition
pub HoldTheSame-of : {I : Type 0} {s0 s1 s2 : Sets I} → Extends s0 s1 → Extends s1 s2 → (condition one other inside other_inside : I) → s0.is_known condition ≡ true → s0.is_known one ≡ true → s0.is_known other ≡ true → IsSet s1 inside (λ c. s0.test condition c && s0.test one c) → IsSet s2 other_inside (λ c. s1.test condition c && s1.test other c) → inside ≡ other_inside → (c : List Bool) → s0.test condition c ≡ true → s0.test one c ≡ s0.test other c
HoldTheSame-of {s0 = s0} {s1 = s1} {s2 = s2} e01 e12 condition one other inside other_inside kc k1 k2 n o q c t =
    ap (λ b. b && s0.test one c) (sym t)
    ∙ sym (n.test c) ∙ sym (e12.test inside c n.known) ∙ ap (λ y. s2.test y c) q ∙ o.test c
    ∙ ap (λ b. b && s1.test other c) (e01.test condition c kc ∙ t)
    ∙ e01.test other c k2

-- on the way along the pieces of the second output, so many bytes of the text are taken
pub record IsGoingAlong {I : Type 0} (s0 s : Sets I) (other : Report) (entry : Reached I) (front : Piece) (set : I) (index from taken : ℕ) : Type 0 where
  pub extends : Extends s0 s
  pub within : taken ≤ length front.text
  pub same : (c : List Bool) (rest : List (Stream × ℕ)) → s0.test entry.condition c ≡ true → are_equal (bytes_if (s0.test set c) front ++ rest) (left_from other c entry.piece entry.byte) ≡ are_equal (drop taken (bytes_if (s0.test set c) front) ++ rest) (left_from other c index from)

pub IsGoingAlong-start : {I : Type 0} (s : Sets I) (other : Report) (entry : Reached I) (front : Piece) (set : I) → IsGoingAlong s s other entry front set entry.piece entry.byte 0
IsGoingAlong-start s other entry front set = record { extends = Extends-refl s; within = omega arith; same = λ c rest t. refl }

-- a piece of the second output that just those write that write the first one's
along_here : {I : Type 0} {s0 s : Sets I} (other : Report) (entry : Reached I) (front : Piece) (set : I) (index from taken : ℕ) (there : Piece) (there_set : I) → index < length other.pieces → there ≡ get_or other.pieces index there → s0.is_known entry.condition ≡ true → s0.is_known set ≡ true → IsSet s there_set (holds other.nodes there.node) → ((c : List Bool) → s.test entry.condition c ≡ true → s.test set c ≡ s.test there_set c) → IsGoingAlong s0 s other entry front set index from taken
    → (c : List Bool) (rest : List (Stream × ℕ)) → s0.test entry.condition c ≡ true
    → are_equal (bytes_if (s0.test set c) front ++ rest) (left_from other c entry.piece entry.byte) ≡ are_equal (drop (taken + common_from front taken there from) (bytes_if (s0.test set c) front) ++ rest) (drop (from + common_from front taken there from) (bytes_if (s0.test set c) there) ++ left_from other c (index + 1) 0)
along_here {s0 = s0} {s = s} other entry front set index from taken there there_set l is ke ks is_set same w c rest t =
    w.same c rest t
    ∙ ap (are_equal (drop taken (bytes_if (s0.test set c) front) ++ rest)) (left_there from)
    ∙ by (s0.test set c)
  where
    more : List (Stream × ℕ)
    more = left_from other c (index + 1) 0

    n : ℕ
    n = common_from front taken there from

    on : holds other.nodes (get_or other.pieces index there).node c ≡ s0.test set c
    on = ap (λ x. holds other.nodes x.node c) (sym is) ∙ sym (is_set.test c) ∙ sym (same c (w.extends.test entry.condition c ke ∙ t)) ∙ w.extends.test set c ks

    left_there : (byte : ℕ) → left_from other c index byte ≡ drop byte (bytes_if (s0.test set c) there) ++ left_from other c (index + 1) 0
    left_there byte =
        left_here other c index there byte l
        ∙ ap (λ b. drop byte (bytes_if b (get_or other.pieces index there)) ++ left_from other c (index + 1) 0) on
        ∙ ap (λ x. drop byte (bytes_if (s0.test set c) x) ++ left_from other c (index + 1) 0) (sym is)

    by : (b : Bool) → are_equal (drop taken (bytes_if b front) ++ rest) (drop from (bytes_if b there) ++ more) ≡ are_equal (drop (taken + n) (bytes_if b front) ++ rest) (drop (from + n) (bytes_if b there) ++ more)
    by true = with_common front taken there from rest more
    by false =
        ap (λ xs. are_equal (xs ++ rest) (drop from [] ++ more)) (drop-nil taken ∙ sym (drop-nil (taken + n)))
        ∙ ap (λ xs. are_equal (drop (taken + n) [] ++ rest) (xs ++ more)) (drop-nil from ∙ sym (drop-nil (from + n)))

nothing_behind : (piece : Piece) (i n : ℕ) → n ≡ length (drop i piece.text) → (b : Bool) → drop (i + n) (bytes_if b piece) ≡ []
nothing_behind piece i n e true = none_left piece i n e
nothing_behind piece i n e false = drop-nil (i + n)

-- nothing is left of the piece
pub IsGoingAlong-next : {I : Type 0} {s0 s s' : Sets I} (other : Report) (entry : Reached I) (front : Piece) (set : I) (index from taken : ℕ) (there : Piece) (there_set : I) → index < length other.pieces → there ≡ get_or other.pieces index there → s0.is_known entry.condition ≡ true → s0.is_known set ≡ true → IsSet s there_set (holds other.nodes there.node) → ((c : List Bool) → s.test entry.condition c ≡ true → s.test set c ≡ s.test there_set c) → Extends s s' → common_from front taken there from ≡ length (drop from there.text) → IsGoingAlong s0 s other entry front set index from taken
    → IsGoingAlong s0 s' other entry front set (index + 1) 0 (taken + common_from front taken there from)
IsGoingAlong-next {s0 = s0} other entry front set index from taken there there_set l is ke ks is_set same x e w = record {
  extends = Extends-trans w.extends x;
  within = (let n = (common_from-within front taken there from).0 in let d = length-drop taken front.text in let before = w.within in omega (arith, n, d, before));
  same = λ c rest t.
      along_here other entry front set index from taken there there_set l is ke ks is_set same w c rest t
      ∙ ap (λ xs. are_equal (drop (taken + common_from front taken there from) (bytes_if (s0.test set c) front) ++ rest) (xs ++ left_from other c (index + 1) 0)) (nothing_behind there from _ e (s0.test set c));
}

nothing_taken : (front : Piece) (taken : ℕ) → taken ≡ length front.text → (b : Bool) → drop taken (bytes_if b front) ≡ []
nothing_taken front taken e true =
    let size : length (bytes_of front) ≡ length front.text = length-map front.text (λ b. (front.stream, b)) in
    drop_all taken (bytes_of front) (omega (arith, size, e))
nothing_taken front taken e false = drop-nil taken

-- the whole text is taken
pub GoesAlong-of : {I : Type 0} {s0 s : Sets I} (other : Report) (entry : Reached I) (front : Piece) (set : I) (index from taken : ℕ) (there : Piece) (there_set : I) (next byte : ℕ) → index < length other.pieces → there ≡ get_or other.pieces index there → s0.is_known entry.condition ≡ true → s0.is_known set ≡ true → IsSet s there_set (holds other.nodes there.node) → ((c : List Bool) → s.test entry.condition c ≡ true → s.test set c ≡ s.test there_set c) → taken + common_from front taken there from ≡ length front.text → IsBehind index there from (common_from front taken there from) next byte → IsGoingAlong s0 s other entry front set index from taken
    → GoesAlong s0 other entry front set next byte
GoesAlong-of {I = I} {s0 = s0} {s = s} other entry front set index from taken there there_set next byte l is ke ks is_set same e b w = record {
  same = λ c rest t.
      along_here other entry front set index from taken there there_set l is ke ks is_set same w c rest t
      ∙ ap (λ xs. are_equal (xs ++ rest) (drop (from + n) (bytes_if (s0.test set c) there) ++ left_from other c (index + 1) 0)) (nothing_taken front (taken + n) e (s0.test set c))
      ∙ ap (are_equal rest) (sym (left_next c t));
}
  where
    n : ℕ
    n = common_from front taken there from

    left_there : (c : List Bool) → s0.test entry.condition c ≡ true → left_from other c index (from + n) ≡ drop (from + n) (bytes_if (s0.test set c) there) ++ left_from other c (index + 1) 0
    left_there c t =
        let on : holds other.nodes (get_or other.pieces index there).node c ≡ s0.test set c = ap (λ x. holds other.nodes x.node c) (sym is) ∙ sym (is_set.test c) ∙ sym (same c (w.extends.test entry.condition c ke ∙ t)) ∙ w.extends.test set c ks in
        left_here other c index there (from + n) l
        ∙ ap (λ h. drop (from + n) (bytes_if h (get_or other.pieces index there)) ++ left_from other c (index + 1) 0) on
        ∙ ap (λ x. drop (from + n) (bytes_if (s0.test set c) x) ++ left_from other c (index + 1) 0) (sym is)

    left_next : (c : List Bool) → s0.test entry.condition c ≡ true → left_from other c next byte ≡ drop (from + n) (bytes_if (s0.test set c) there) ++ left_from other c (index + 1) 0
    left_next c t = elim b [
      | inl q ↦ ap (λ k. left_from other c k byte) q.1 ∙ ap (left_from other c (index + 1)) q.2 ∙ ap (λ ys. ys ++ left_from other c (index + 1) 0) (sym (nothing_behind there from n q.0 (s0.test set c)))
      | inr q ↦ ap (λ k. left_from other c k byte) q.1 ∙ ap (left_from other c index) q.2 ∙ left_there c t
    ]

-- they stay together
pub IsMoved-together : {I : Type 0} {s0 s1 s2 : Sets I} → Extends s0 s1 → (other : Report) (entry : Reached I) (front : Piece) (set : I) (piece byte : ℕ) (old new : List (Reached I)) → s0.is_known entry.condition ≡ true → AreKnownPlaces s0 old → GoesAlong s0 other entry front set piece byte → IsPlaced s1 s2 piece byte entry.condition old new → IsMoved s0 s2 other entry front set old new
IsMoved-together {s0 = s0} {s1 = s1} e other entry front set piece byte old new k ks w p = record {
  known = p.known;
  added = λ c rest same says. IsAdded-trans {here = s0.test entry.condition c} (IsAdded-later e c (from_place other c rest) same old ks) (p.added c (from_place other c rest) same (λ t.
      let here = sym (e.test entry.condition c k) ∙ t in
      says here ∙ w.same c rest here)) (λ t. inr (e.test entry.condition c k ∙ t));
}

-- moved from a later space on
pub IsMoved-later : {I : Type 0} {s0 s1 s2 : Sets I} → Extends s0 s1 → (other : Report) (entry : Reached I) (front : Piece) (set : I) (old new : List (Reached I)) → s0.is_known entry.condition ≡ true → s0.is_known set ≡ true → AreKnownPlaces s0 old → IsMoved s1 s2 other entry front set old new → IsMoved s0 s2 other entry front set old new
IsMoved-later {s0 = s0} {s1 = s1} e other entry front set old new k kset ks m = record {
  known = m.known;
  added = λ c rest same says. IsAdded-trans {here = s0.test entry.condition c} (IsAdded-later e c (from_place other c rest) same old ks) (m.added c rest same (λ t.
      says (sym (e.test entry.condition c k) ∙ t) ∙ ap (λ b. are_equal (bytes_if b front ++ rest) (left_from other c entry.piece entry.byte)) (sym (e.test set c kset)))) (λ t. inr (e.test entry.condition c k ∙ t));
}

-- ---- a set is divided by another one

-- what a set has inside of another one and what it has outside, each made by an operation
record AreDivided {I : Type 0} (s0 s2 : Sets I) (whole set inside outside : I) : Type 0 where
  extends : Extends s0 s2
  known : s2.is_known inside ≡ true
  known_outside : s2.is_known outside ≡ true
  in_is : (c : List Bool) → s2.test inside c ≡ (s0.test whole c && s0.test set c)
  out_is : (c : List Bool) → s2.test outside c ≡ (s0.test whole c && not (s0.test set c))

AreDivided-of : {I : Type 0} {s0 s1 s2 : Sets I} → Extends s0 s1 → Extends s1 s2 → (whole set inside outside : I) → s0.is_known whole ≡ true → s0.is_known set ≡ true → IsSet s1 inside (λ c. s0.test whole c && s0.test set c) → IsSet s2 outside (λ c. s1.test whole c && not (s1.test set c)) → AreDivided s0 s2 whole set inside outside
AreDivided-of {s0 = s0} {s1 = s1} e01 e12 whole set inside outside kw ks n o = record {
  extends = Extends-trans e01 e12;
  known = e12.known inside n.known;
  known_outside = o.known;
  in_is = λ c. e12.test inside c n.known ∙ n.test c;
  out_is = λ c. o.test c ∙ ap (λ b. b && not (s1.test set c)) (e01.test whole c kw) ∙ ap (λ b. s0.test whole c && not b) (e01.test set c ks);
}

-- a configuration of the whole is in one of the two
in_either : (a l i u : Bool) → i ≡ (a && l) → u ≡ (a && not l) → a ≡ true → (i ≡ true) ⊎ (u ≡ true)
in_either true true i u f g t = inl f
in_either true false i u f g t = inr g
in_either false l i u f g t = cc (t)

-- ---- those of a condition stay at their place where they write its piece, and the others go past pieces that they don't write
pub IsSlid-of : {I : Type 0} {s0 s1 s2 s3 s4 s5 : Sets I} → Extends s0 s1 → Extends s1 s2 → Extends s2 s3 → Extends s3 s4 → Extends s4 s5 → (other : Report) (piece byte : ℕ) (condition there here beyond : I) (later from : ℕ) (old mid new : List (Reached I)) → s0.is_known condition ≡ true → s0.is_known there ≡ true → AreKnownPlaces s0 old
    → IsSet s1 here (λ c. s0.test condition c && s0.test there c) → IsSet s2 beyond (λ c. s1.test condition c && not (s1.test there c))
    → IsPlaced s2 s3 piece byte here old mid → SaysTheSame s3 other beyond piece byte later from → IsPlaced s4 s5 later from beyond mid new
    → IsSlid s0 s5 other piece byte condition old new
IsSlid-of {s0 = s0} {s1 = s1} {s2 = s2} {s3 = s3} {s4 = s4} {s5 = s5} e01 e12 e23 e34 e45 other piece byte condition there here beyond later from old mid new kc kt ko n o p q r = record {
  known = r.known;
  added = λ c rest same says.
      let first = IsAdded-trans {here = s2.test here c} (IsAdded-later d.extends c (from_place other c rest) same old ko) (p.added c (from_place other c rest) same (λ t. says (and_left (s0.test condition c) (s0.test there c) (sym (d.in_is c) ∙ t)))) (λ t. inr t) in
      let second = IsAdded-trans {here = s4.test beyond c} (IsAdded-later e34 c (from_place other c rest) same mid p.known) (r.added c (from_place other c rest) same (λ t. says (and_left (s0.test condition c) (not (s0.test there c)) (sym (out_is c) ∙ t)) ∙ ap (are_equal rest) (q.same c (before c t)))) (λ t. inr t) in
      IsAdded-trans {here = s0.test condition c} first second (λ t. in_either (s0.test condition c) (s0.test there c) (s2.test here c) (s4.test beyond c) (d.in_is c) (out_is c) t);
}
  where
    d : AreDivided s0 s2 condition there here beyond
    d = AreDivided-of e01 e12 condition there here beyond kc kt n o

    out_is : (c : List Bool) → s4.test beyond c ≡ (s0.test condition c && not (s0.test there c))
    out_is c = (Extends-trans e23 e34).test beyond c d.known_outside ∙ d.out_is c

    before : (c : List Bool) → s4.test beyond c ≡ true → s3.test beyond c ≡ true
    before c t = sym (e34.test beyond c (e23.known beyond d.known_outside)) ∙ t

-- ---- an entry is moved: its configurations that write the piece take the text, the others stay or go past pieces that they don't write
pub IsMoved-of : {I : Type 0} {s0 s1 s2 s3 s4 : Sets I} → Extends s0 s1 → Extends s1 s2 → Extends s2 s3 → Extends s3 s4 → (other : Report) (entry : Reached I) (front : Piece) (set inside outside : I) (old mid new : List (Reached I)) → s0.is_known entry.condition ≡ true → s0.is_known set ≡ true → AreKnownPlaces s0 old
    → IsSet s1 inside (λ c. s0.test entry.condition c && s0.test set c) → IsSet s2 outside (λ c. s1.test entry.condition c && not (s1.test set c))
    → IsTaken s2 s3 other entry.piece entry.byte inside front old mid → IsSlid s3 s4 other entry.piece entry.byte outside mid new
    → IsMoved s0 s4 other entry front set old new
IsMoved-of {s0 = s0} {s2 = s2} {s3 = s3} e01 e12 e23 e34 other entry front set inside outside old mid new ke ks ko n o p q = record {
  known = q.known;
  added = λ c rest same says.
      let first = IsAdded-trans {here = s2.test inside c} (IsAdded-later d.extends c (from_place other c rest) same old ko) (p.added c rest same (λ t. says (and_left (s0.test entry.condition c) (s0.test set c) (sym (d.in_is c) ∙ t)) ∙ ap (λ b. are_equal (bytes_if b front ++ rest) (left_from other c entry.piece entry.byte)) (and_right (s0.test entry.condition c) (s0.test set c) (sym (d.in_is c) ∙ t)))) (λ t. inr t) in
      let second = q.added c rest same (λ t. says (and_left (s0.test entry.condition c) (not (s0.test set c)) (sym (out_is c) ∙ t)) ∙ ap (λ b. are_equal (bytes_if b front ++ rest) (left_from other c entry.piece entry.byte)) (not_true (s0.test set c) (and_right (s0.test entry.condition c) (not (s0.test set c)) (sym (out_is c) ∙ t)))) in
      IsAdded-trans {here = s0.test entry.condition c} first second (λ t. in_either (s0.test entry.condition c) (s0.test set c) (s2.test inside c) (s3.test outside c) (d.in_is c) (out_is c) t);
}
  where
    d : AreDivided s0 s2 entry.condition set inside outside
    d = AreDivided-of e01 e12 entry.condition set inside outside ke ks n o

    out_is : (c : List Bool) → s3.test outside c ≡ (s0.test entry.condition c && not (s0.test set c))
    out_is c = e23.test outside c d.known_outside ∙ d.out_is c

-- ---- all entries

pub record IsMoving {I : Type 0} (s0 s : Sets I) (other : Report) (front : Piece) (set : I) (whole entries new : List (Reached I)) : Type 0 where
  pub extends : Extends s0 s
  pub known : AreKnownPlaces s new
  pub added : (c : List Bool) (rest : List (Stream × ℕ)) (same : Bool) → IsRightAtEach s0 c (λ piece byte. from_place other c (bytes_if (s0.test set c) front ++ rest) piece byte) same whole → IsAdded s0 s c (from_place other c rest) same (is_covered s0 entries c) [] new

pub IsMoving-none : {I : Type 0} (s : Sets I) (other : Report) (front : Piece) (set : I) (whole : List (Reached I)) → IsMoving s s other front set whole [] []
IsMoving-none s other front set whole = record {
  extends = Extends-refl s;
  known = tt;
  added = λ c rest same h. record { each = λ x. x; keeps = λ x. x; adds = λ t e. t };
}

pub IsMoving-step : {I : Type 0} {s0 s s' : Sets I} (other : Report) (front : Piece) (set : I) (whole : List (Reached I)) (i : ℕ) (entry : Reached I) (mid new : List (Reached I)) → i < length whole → entry ≡ get_or whole i entry → s0.is_known entry.condition ≡ true → s0.is_known set ≡ true → Extends s s' → IsMoving s0 s other front set whole (take i whole) mid → IsMoved s s' other entry front set mid new → IsMoving s0 s' other front set whole (take (i + 1) whole) new
IsMoving-step {I = I} {s0 = s0} {s = s} {s' = s'} other front set whole i entry mid new l is ke ks e m v = record {
  extends = Extends-trans m.extends e;
  known = v.known;
  added = λ c rest same h.
      let on : s.test set c ≡ s0.test set c = m.extends.test set c ks in
      let now = v.added c rest same (λ t. at c rest same h (sym (m.extends.test entry.condition c ke) ∙ t) ∙ ap (λ b. are_equal (bytes_if b front ++ rest) (left_from other c entry.piece entry.byte)) (sym on)) in
      IsAdded-trans {here = is_covered s0 (take (i + 1) whole) c} (m.added c rest same h) now (λ t. elim (both_or (is_covered s0 (take i whole) c) (s0.test entry.condition c) (sym (covered-push s0 (take i whole) entry c) ∙ ap (λ xs. is_covered s0 xs c) (sym more_is) ∙ t)) [
        | inl a ↦ inl a
        | inr b ↦ inr (m.extends.test entry.condition c ke ∙ b)
      ]);
}
  where
    more_is : take (i + 1) whole ≡ take i whole ++ entry ∷ []
    more_is = take_more whole i entry l ∙ ap (λ x. take i whole ++ x ∷ []) (sym is)

    at : (c : List Bool) (rest : List (Stream × ℕ)) (same : Bool) → IsRightAtEach s0 c (λ piece byte. from_place other c (bytes_if (s0.test set c) front ++ rest) piece byte) same whole → s0.test entry.condition c ≡ true → same ≡ are_equal (bytes_if (s0.test set c) front ++ rest) (left_from other c entry.piece entry.byte)
    at c rest same h t =
        at_each s0 c (λ piece byte. from_place other c (bytes_if (s0.test set c) front ++ rest) piece byte) same whole i entry l h (ap (λ x. s0.test x.condition c) (sym is) ∙ t)
        ∙ ap (λ x. from_place other c (bytes_if (s0.test set c) front ++ rest) x.piece x.byte) (sym is)

pub AreMoved-of : {I : Type 0} {s0 s : Sets I} (other : Report) (front : Piece) (set : I) (whole : List (Reached I)) (i : ℕ) (new : List (Reached I)) → length whole ≤ i → IsMoving s0 s other front set whole (take i whole) new → AreMoved s0 s other front set whole new
AreMoved-of {s0 = s0} other front set whole i new l m = record {
  known = m.known;
  left = λ c rest same here h.
      let a = m.added c rest same h.each in
      record {
        each = a.each tt;
        all = λ t e. a.adds (ap (λ xs. is_covered s0 xs c) (take_all i whole l) ∙ h.all t e) e;
      };
}

-- ---- by a piece of a report

pub IsLeft-value : {I : Type 0} (s : Sets I) (c : List Bool) (v w : ℕ → ℕ → Bool) (same here : Bool) (rs : List (Reached I)) → ((piece byte : ℕ) → v piece byte ≡ w piece byte) → IsLeft s c v same here rs → IsLeft s c w same here rs
IsLeft-value s c v w same here rs e h = record { each = each-value s c v w same rs e h.each; all = h.all }

pub HaveMoved-of : {I : Type 0} {s0 s1 : Sets I} (one other : Report) (front : Piece) (set : I) (old new : List (Reached I)) → IsSet s0 set (holds one.nodes front.node) → AreMoved s0 s1 other front set old new → HaveMoved s0 s1 one other front old new
HaveMoved-of {s0 = s0} one other front set old new is_set m = record {
  known = m.known;
  left = λ c rest same here h. m.left c rest same here (IsLeft-value s0 c _ (λ piece byte. from_place other c (bytes_if (s0.test set c) front ++ rest) piece byte) same here old (λ piece byte. ap (λ b. are_equal (bytes_if b front ++ rest) (left_from other c piece byte)) (sym (is_set.test c))) h);
}

pub no_text : (text : List ℕ) → length text ≡ 0 → text ≡ []
no_text [] e = refl
no_text (b ∷ text) e = absurd (omega (arith, e))

-- a piece without text moves nothing
pub HaveMoved-none : {I : Type 0} (s : Sets I) (one other : Report) (front : Piece) (old : List (Reached I)) → AreKnownPlaces s old → front.text ≡ [] → HaveMoved s s one other front old old
HaveMoved-none s one other front old k e = record {
  known = k;
  left = λ c rest same here h. IsLeft-value s c _ (from_place other c rest) same here old (λ piece byte. ap (λ ys. are_equal (ys ++ rest) (left_from other c piece byte)) (nothing (holds one.nodes front.node c))) h;
}
  where
    nothing : (b : Bool) → bytes_if b front ≡ []
    nothing true = ap (λ text. map (λ x. (front.stream, x)) text) e
    nothing false = refl
