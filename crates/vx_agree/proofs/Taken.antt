-- A text that is taken from an output, piece by piece.
use Rattle.std.proofs.Common.{◌≡◌, ◌⊎◌, ℕ, ◌+◌, ◌<◌, ◌≤◌, Bool, true, false, List, [], ◌∷◌, ◌++◌, length, drop, take, get_or, refl, sym, ◌∙◌, ap, subst, arith, inl, inr}
use Rattle.std.specs.Prelude.{◌||◌, ◌&&◌, not}
use Rattle.std.proofs.lemmas.List.{length-drop, take_all, take_more}
use Rattle.std.proofs.Math.Seq.{drop-nil}
use Rattle.vx_space.specs.Sets.{Sets, IsSet, IsLawful, Extends}
use Rattle.vx_space.proofs.Spaces.{Extends-refl, Extends-trans}
use Rattle.vx_bdd_tools.specs.Nodes.{holds}
use Rattle.vx_report.specs.Projection.{bytes_of}
use Rattle.vx_report.specs.declared.report.Piece.{Piece}
use Rattle.vx_report.specs.declared.report.Report.{Report}
use Rattle.vx_value.specs.declared.end.Stream.{Stream}
use Rattle.vx_agree.specs.declared.reached.Reached.{Reached}
use Rattle.vx_agree.specs.Equal.{are_equal, common_from}
use Rattle.vx_agree.specs.Left.{bytes_if, left_from}
use Rattle.vx_agree.specs.Places.{AreBelow, AreKnownPlaces, IsPlaced, IsRightAtEach, is_covered}
use Rattle.vx_agree.specs.Taking.{HasTaken, IsBegun, IsBehind, IsHere, IsShared, IsTaken, Takes, TakesAll, from_place, with_taken}
use Rattle.vx_agree.proofs.Equal.{common_from-within, none_left, some_left, with_common, without_common}
use Rattle.vx_agree.proofs.Left.{left_end, left_here}
use Rattle.vx_agree.proofs.Places.{and_left, and_right, at_each, both_or, covered-push, each-value, not_both, not_true, places-extends}
use Rattle.vx_agree.proofs.Sharing.{IsShared-done, IsShared-none, IsShared-then, IsShared-trans, IsShared-waiting}

-- ---- from one piece

-- what is left to compare where what the text and the piece have in common is passed
common_passed : (front : Piece) (count : ℕ) (piece : Piece) (byte : ℕ) (rest more : List (Stream × ℕ)) (index : ℕ) → with_taken front rest (drop byte (bytes_of piece) ++ more) index count ≡ are_equal (drop (count + common_from front count piece byte) (bytes_of front) ++ rest) (drop (byte + common_from front count piece byte) (bytes_of piece) ++ more)
common_passed front count piece byte rest more index = with_common front count piece byte rest more

-- all of the text is taken
pub HasTaken-text : {I : Type 0} {s0 s1 : Sets I} → Extends s0 s1 → (index : ℕ) (piece : Piece) (byte : ℕ) (front : Piece) (count : ℕ) (condition : I) (next from : ℕ) (old new before : List (Reached I)) → AreKnownPlaces s0 before → common_from front count piece byte ≡ length (drop count front.text) → IsBehind index piece byte (common_from front count piece byte) next from → IsPlaced s0 s1 next from condition old new → HasTaken s0 s1 index piece byte front count condition old new before before
HasTaken-text {s0 = s0} x index piece byte front count condition next from old new before kw e b p = record {
  known = p.known;
  known_waiting = places-extends x before kw;
  below = λ l h. h;
  shared = λ c rest more done waiting same here right.
      let passed : with_taken front rest (drop byte (bytes_of piece) ++ more) index count ≡ are_equal rest (drop (byte + n) (bytes_of piece) ++ more) =
      common_passed front count piece byte rest more index ∙ ap (λ ys. are_equal (ys ++ rest) (drop (byte + n) (bytes_of piece) ++ more)) (none_left front count n e) in
      IsShared-done x c done waiting same (s0.test condition c) old new before kw (p.added c done same (λ t. right t ∙ passed ∙ sym (there c rest more done waiting here t)));
}
  where
    n : ℕ
    n = common_from front count piece byte

    there : (c : List Bool) (rest more : List (Stream × ℕ)) (done waiting : ℕ → ℕ → Bool) → IsHere index piece front (s0.test condition c) rest more done waiting → s0.test condition c ≡ true → done next from ≡ are_equal rest (drop (byte + n) (bytes_of piece) ++ more)
    there c rest more done waiting here t = elim b [
      | inl q ↦ ap (λ k. done k from) q.1 ∙ ap (done (index + 1)) q.2 ∙ here.behind ∙ ap (λ ys. are_equal rest (ys ++ more)) (sym (none_left piece byte n q.0))
      | inr q ↦ ap (λ k. done k from) q.1 ∙ ap (done index) q.2 ∙ here.inside (byte + n) t
    ]

below_it : (a b : ℕ) → a ≤ b → (a ≡ b → ⊥) → a < b
below_it a b l n = grind (arith)

-- nothing is left of the piece, and a part of the text waits
pub HasTaken-piece : {I : Type 0} {s0 s1 : Sets I} → Extends s0 s1 → (index : ℕ) (piece : Piece) (byte : ℕ) (front : Piece) (count : ℕ) (condition : I) (old before after : List (Reached I)) → AreKnownPlaces s0 old → (common_from front count piece byte ≡ length (drop count front.text) → ⊥) → common_from front count piece byte ≡ length (drop byte piece.text) → IsPlaced s0 s1 (index + 1) (count + common_from front count piece byte) condition before after → HasTaken s0 s1 index piece byte front count condition old old before after
HasTaken-piece {s0 = s0} x index piece byte front count condition old before after k e f p = record {
  known = places-extends x old k;
  known_waiting = p.known;
  below = λ l h. p.below (length front.text) (less l) h;
  shared = λ c rest more done waiting same here right.
      let n = common_from front count piece byte in
      let passed : with_taken front rest (drop byte (bytes_of piece) ++ more) index count ≡ are_equal (drop (count + n) (bytes_of front) ++ rest) more =
      common_passed front count piece byte rest more index ∙ ap (λ ys. are_equal (drop (count + n) (bytes_of front) ++ rest) (ys ++ more)) (none_left piece byte n f) in
      IsShared-waiting x c done waiting same (s0.test condition c) old before after k (p.added c waiting same (λ t. right t ∙ passed ∙ sym (here.waits (count + n))));
}
  where
    less : count < length front.text → count + common_from front count piece byte < length front.text
    less l =
        let m = below_it _ _ (common_from-within front count piece byte).0 e in
        let d = length-drop count front.text in
        omega (arith, l, m, d)

-- they write something else
pub HasTaken-none : {I : Type 0} (s : Sets I) (index : ℕ) (piece : Piece) (byte : ℕ) (front : Piece) (count : ℕ) (condition : I) (old before : List (Reached I)) → AreKnownPlaces s old → AreKnownPlaces s before → (common_from front count piece byte ≡ length (drop count front.text) → ⊥) → (common_from front count piece byte ≡ length (drop byte piece.text) → ⊥) → HasTaken s s index piece byte front count condition old old before before
HasTaken-none s index piece byte front count condition old before k kw e f = record {
  known = k;
  known_waiting = kw;
  below = λ l h. h;
  shared = λ c rest more done waiting same here right. IsShared-none (Extends-refl s) c done waiting same (s.test condition c) old before k kw (λ t q. not_both same q (right t ∙ without_common front count piece byte rest more less less_piece));
}
  where
    less : common_from front count piece byte < length (drop count front.text)
    less = below_it _ _ (common_from-within front count piece byte).0 e

    less_piece : common_from front count piece byte < length (drop byte piece.text)
    less_piece = below_it _ _ (common_from-within front count piece byte).1 f

-- ---- the configurations of an entry

IsHere-less : (index : ℕ) (piece front : Piece) (on off : Bool) (rest more : List (Stream × ℕ)) (done waiting : ℕ → ℕ → Bool) → (off ≡ true → on ≡ true) → IsHere index piece front on rest more done waiting → IsHere index piece front off rest more done waiting
IsHere-less index piece front on off rest more done waiting f h = record { inside = λ byte t. h.inside byte (f t); behind = h.behind; waits = h.waits }

-- where the piece is written, and where it isn't
pub Takes-of : {I : Type 0} {s0 s1 s2 s3 s4 : Sets I} → Extends s0 s1 → Extends s1 s2 → Extends s2 s3 → Extends s3 s4 → (index : ℕ) (piece : Piece) (set : I) (byte : ℕ) (front : Piece) (entry : Reached I) (inside outside : I) (old new before half after : List (Reached I))
    → s0.is_known entry.condition ≡ true → s0.is_known set ≡ true → AreKnownPlaces s0 old → AreKnownPlaces s0 before
    → IsSet s1 inside (λ c. s0.test entry.condition c && s0.test set c) → IsSet s2 outside (λ c. s1.test entry.condition c && not (s1.test set c))
    → HasTaken s2 s3 index piece byte front entry.byte inside old new before half → IsPlaced s3 s4 (index + 1) entry.byte outside half after
    → Takes s0 s4 index piece set byte front entry old new before after
Takes-of {I = I} {s0 = s0} {s1 = s1} {s2 = s2} {s3 = s3} {s4 = s4} e01 e12 e23 e34 index piece set byte front entry inside outside old new before half after ke ks ko kb n o p q = record {
  known = places-extends e34 new p.known;
  known_waiting = q.known;
  below = λ l h. q.below (length front.text) l (p.below l h);
  shared = λ c rest more done waiting same here right.
      let first = IsShared-none e02 c done waiting same false old before ko kb (λ t s. cc (t)) in
      let taken = p.shared c rest more done waiting same (IsHere-less index piece front (s0.test set c) (s2.test inside c) rest more done waiting (λ t. written_there c t) here) (λ t. right (there c t) ∙ ap (λ b. with_taken front rest (drop byte (bytes_if b piece) ++ more) index entry.byte) (written_there c t)) in
      let second = IsShared-waiting e34 c done waiting same (s3.test outside c) new half after p.known (q.added c waiting same (λ t. right (outside_there c t) ∙ ap (λ b. with_taken front rest (drop byte (bytes_if b piece) ++ more) index entry.byte) (unwritten c t) ∙ ap (λ ys. with_taken front rest (ys ++ more) index entry.byte) (drop-nil byte) ∙ sym (here.waits entry.byte))) in
      IsShared-trans {here = s0.test entry.condition c} (IsShared-trans {here = s2.test inside c} first taken (λ t. inr t)) second (λ t. either (s0.test entry.condition c) (s0.test set c) (s2.test inside c) (s3.test outside c) (in_is c) (out_is c) t);
}
  where
    e02 : Extends s0 s2
    e02 = Extends-trans e01 e12

    in_is : (c : List Bool) → s2.test inside c ≡ (s0.test entry.condition c && s0.test set c)
    in_is c = e12.test inside c n.known ∙ n.test c

    out_is : (c : List Bool) → s3.test outside c ≡ (s0.test entry.condition c && not (s0.test set c))
    out_is c = e23.test outside c o.known ∙ o.test c ∙ ap (λ b. b && not (s1.test set c)) (e01.test entry.condition c ke) ∙ ap (λ b. s0.test entry.condition c && not b) (e01.test set c ks)

    there : (c : List Bool) → s2.test inside c ≡ true → s0.test entry.condition c ≡ true
    there c t = and_left (s0.test entry.condition c) (s0.test set c) (sym (in_is c) ∙ t)

    written_there : (c : List Bool) → s2.test inside c ≡ true → s0.test set c ≡ true
    written_there c t = and_right (s0.test entry.condition c) (s0.test set c) (sym (in_is c) ∙ t)

    outside_there : (c : List Bool) → s3.test outside c ≡ true → s0.test entry.condition c ≡ true
    outside_there c t = and_left (s0.test entry.condition c) (not (s0.test set c)) (sym (out_is c) ∙ t)

    unwritten : (c : List Bool) → s3.test outside c ≡ true → s0.test set c ≡ false
    unwritten c t = not_true (s0.test set c) (and_right (s0.test entry.condition c) (not (s0.test set c)) (sym (out_is c) ∙ t))

    either : (a l i u : Bool) → i ≡ (a && l) → u ≡ (a && not l) → a ≡ true → (i ≡ true) ⊎ (u ≡ true)
    either true true i u f g t = inl f
    either true false i u f g t = inr g
    either false l i u f g t = cc (t)

-- ---- all entries

-- the entries so far took from the piece
pub record IsTaking {I : Type 0} (s0 s : Sets I) (index : ℕ) (piece : Piece) (set : I) (byte : ℕ) (front : Piece) (whole entries old new after : List (Reached I)) : Type 0 where
  pub extends : Extends s0 s
  pub known : AreKnownPlaces s new
  pub known_waiting : AreKnownPlaces s after
  pub below : AreBelow (length front.text) whole → AreBelow (length front.text) after
  pub shared : (c : List Bool) (rest more : List (Stream × ℕ)) (done waiting : ℕ → ℕ → Bool) (same : Bool) → IsHere index piece front (s0.test set c) rest more done waiting
      → IsRightAtEach s0 c (with_taken front rest (drop byte (bytes_if (s0.test set c) piece) ++ more)) same whole → IsShared s0 s c done waiting same (is_covered s0 entries c) old new [] after

pub IsTaking-none : {I : Type 0} (s : Sets I) (index : ℕ) (piece : Piece) (set : I) (byte : ℕ) (front : Piece) (whole old : List (Reached I)) → AreKnownPlaces s old → IsTaking s s index piece set byte front whole [] old old []
IsTaking-none s index piece set byte front whole old k = record {
  extends = Extends-refl s;
  known = k;
  known_waiting = tt;
  below = λ h. tt;
  shared = λ c rest more done waiting same here right. IsShared-none (Extends-refl s) c done waiting same false old [] k tt (λ t e. cc (t));
}

pub IsTaking-step : {I : Type 0} {s0 s s' : Sets I} (index : ℕ) (piece : Piece) (set : I) (byte : ℕ) (front : Piece) (whole : List (Reached I)) (i : ℕ) (entry : Reached I) (old mid new half after : List (Reached I)) → i < length whole → entry ≡ get_or whole i entry → s0.is_known entry.condition ≡ true → s0.is_known set ≡ true → Extends s s'
    → IsTaking s0 s index piece set byte front whole (take i whole) old mid half → Takes s s' index piece set byte front entry mid new half after → (AreBelow (length front.text) whole → entry.byte < length front.text) → IsTaking s0 s' index piece set byte front whole (take (i + 1) whole) old new after
IsTaking-step {I = I} {s0 = s0} {s = s} {s' = s'} index piece set byte front whole i entry old mid new half after l is ke ks e t n low = record {
  extends = Extends-trans t.extends e;
  known = n.known;
  known_waiting = n.known_waiting;
  below = λ h. n.below (low h) (t.below h);
  shared = λ c rest more done waiting same here right.
      let on : s.test set c ≡ s0.test set c = t.extends.test set c ks in
      let now = n.shared c rest more done waiting same (subst (λ b. IsHere index piece front b rest more done waiting) (sym on) here) (λ q. at c rest more same right (sym (t.extends.test entry.condition c ke) ∙ q) ∙ ap (λ b. with_taken front rest (drop byte (bytes_if b piece) ++ more) index entry.byte) (sym on)) in
      IsShared-trans {here = is_covered s0 (take (i + 1) whole) c} (t.shared c rest more done waiting same here right) now (λ q. elim (both_or (is_covered s0 (take i whole) c) (s0.test entry.condition c) (sym (covered-push s0 (take i whole) entry c) ∙ ap (λ xs. is_covered s0 xs c) (sym more_is) ∙ q)) [
        | inl a ↦ inl a
        | inr b ↦ inr (t.extends.test entry.condition c ke ∙ b)
      ]);
}
  where
    more_is : take (i + 1) whole ≡ take i whole ++ entry ∷ []
    more_is = take_more whole i entry l ∙ ap (λ x. take i whole ++ x ∷ []) (sym is)

    at : (c : List Bool) (rest more : List (Stream × ℕ)) (same : Bool) → IsRightAtEach s0 c (with_taken front rest (drop byte (bytes_if (s0.test set c) piece) ++ more)) same whole → s0.test entry.condition c ≡ true → same ≡ with_taken front rest (drop byte (bytes_if (s0.test set c) piece) ++ more) index entry.byte
    at c rest more same right q =
        at_each s0 c (with_taken front rest (drop byte (bytes_if (s0.test set c) piece) ++ more)) same whole i entry l right (ap (λ x. s0.test x.condition c) (sym is) ∙ q)
        ∙ ap (λ x. with_taken front rest (drop byte (bytes_if (s0.test set c) piece) ++ more) x.piece x.byte) (sym is)

pub TakesAll-of : {I : Type 0} {s0 s : Sets I} (index : ℕ) (piece : Piece) (set : I) (byte : ℕ) (front : Piece) (whole : List (Reached I)) (i : ℕ) (old new after : List (Reached I)) → length whole ≤ i → IsTaking s0 s index piece set byte front whole (take i whole) old new after → TakesAll s0 s index piece set byte front whole old new after
TakesAll-of {s0 = s0} {s = s} index piece set byte front whole i old new after l t = record {
  known = t.known;
  known_waiting = t.known_waiting;
  below = t.below;
  shared = λ c rest more done waiting same here right. subst (λ xs. IsShared s0 s c done waiting same (is_covered s0 xs c) old new [] after) (take_all i whole l) (t.shared c rest more done waiting same here right);
}

-- ---- a whole text

-- on the way through the pieces of the second output
pub record IsGoing {I : Type 0} (s0 s : Sets I) (other : Report) (piece byte : ℕ) (condition : I) (front : Piece) (old : List (Reached I)) (index from : ℕ) (new waiting : List (Reached I)) : Type 0 where
  pub extends : Extends s0 s
  pub known : AreKnownPlaces s new
  pub known_waiting : AreKnownPlaces s waiting
  pub below : AreBelow (length front.text) waiting
  pub right : (c : List Bool) (rest : List (Stream × ℕ)) (same : Bool) → (s0.test condition c ≡ true → same ≡ are_equal (bytes_of front ++ rest) (left_from other c piece byte)) → IsRightAtEach s c (with_taken front rest (left_from other c index from)) same waiting
  pub shared : (c : List Bool) (rest : List (Stream × ℕ)) (same : Bool) → (s0.test condition c ≡ true → same ≡ are_equal (bytes_of front ++ rest) (left_from other c piece byte)) → IsShared s0 s c (from_place other c rest) (with_taken front rest (left_from other c index from)) same (s0.test condition c) old new [] waiting

pub IsGoing-start : {I : Type 0} (s : Sets I) (other : Report) (piece byte : ℕ) (condition : I) (front : Piece) (old waiting : List (Reached I)) → 0 < length front.text → AreKnownPlaces s old → IsBegun s piece condition waiting → IsGoing s s other piece byte condition front old piece byte old waiting
IsGoing-start s other piece byte condition front old waiting some k b = record {
  extends = Extends-refl s;
  known = k;
  known_waiting = b.known;
  below = b.below (length front.text) some;
  right = λ c rest same h. b.right c (with_taken front rest (left_from other c piece byte)) same h;
  shared = λ c rest same h. record {
    each_done = λ x. x;
    each_waiting = λ x. b.right c (with_taken front rest (left_from other c piece byte)) same h;
    keeps_done = λ x. x;
    keeps_waiting = λ x. cc (x);
    adds = λ t e. covered c (b.covers c ∙ t);
  };
}
  where
    covered : (c : List Bool) → is_covered s waiting c ≡ true → (is_covered s old c || is_covered s waiting c) ≡ true
    covered c t = by (is_covered s old c)
      where
        by : (a : Bool) → (a || is_covered s waiting c) ≡ true
        by true = refl
        by false = t

-- what is left at a piece
here_left : {I : Type 0} (s : Sets I) (other : Report) (index : ℕ) (d : Piece) (set : I) (front : Piece) (c : List Bool) (rest : List (Stream × ℕ)) → index < length other.pieces → s.test set c ≡ holds other.nodes (get_or other.pieces index d).node c → IsHere index (get_or other.pieces index d) front (s.test set c) rest (left_from other c (index + 1) 0) (from_place other c rest) (with_taken front rest (left_from other c (index + 1) 0))
here_left s other index d set front c rest l t = record {
  inside = λ byte w. ap (are_equal rest) (left_here other c index d byte l ∙ ap (λ b. drop byte (bytes_if b (get_or other.pieces index d)) ++ left_from other c (index + 1) 0) (sym t ∙ w));
  behind = refl;
  waits = λ count. refl;
}

pub IsGoing-step : {I : Type 0} {s0 s s' : Sets I} (other : Report) (piece byte : ℕ) (condition : I) (front : Piece) (old : List (Reached I)) (index from : ℕ) (there : Piece) (set : I) (mid new half after : List (Reached I)) → index < length other.pieces → there ≡ get_or other.pieces index there → IsSet s set (holds other.nodes there.node) → Extends s s'
    → IsGoing s0 s other piece byte condition front old index from mid half → TakesAll s s' index there set from front half mid new after → IsGoing s0 s' other piece byte condition front old (index + 1) 0 new after
IsGoing-step {I = I} {s0 = s0} {s = s} {s' = s'} other piece byte condition front old index from there set mid new half after l is is_set e g t = record {
  extends = Extends-trans g.extends e;
  known = t.known;
  known_waiting = t.known_waiting;
  below = t.below g.below;
  right = λ c rest same h. (now c rest same h).each_waiting tt;
  shared = λ c rest same h. IsShared-then (g.shared c rest same h) (now c rest same h);
}
  where
    holds_there : (c : List Bool) → s.test set c ≡ holds other.nodes (get_or other.pieces index there).node c
    holds_there c = is_set.test c ∙ ap (λ x. holds other.nodes x.node c) is

    now : (c : List Bool) (rest : List (Stream × ℕ)) (same : Bool) → (s0.test condition c ≡ true → same ≡ are_equal (bytes_of front ++ rest) (left_from other c piece byte)) → IsShared s s' c (from_place other c rest) (with_taken front rest (left_from other c (index + 1) 0)) same (is_covered s half c) mid new [] after
    now c rest same h =
        let here = subst (λ x. IsHere index x front (s.test set c) rest (left_from other c (index + 1) 0) (from_place other c rest) (with_taken front rest (left_from other c (index + 1) 0))) (sym is) (here_left s other index there set front c rest l (holds_there c)) in
        let left : left_from other c index from ≡ drop from (bytes_if (s.test set c) there) ++ left_from other c (index + 1) 0 =
        left_here other c index there from l
        ∙ ap (λ b. drop from (bytes_if b (get_or other.pieces index there)) ++ left_from other c (index + 1) 0) (sym (holds_there c))
        ∙ ap (λ x. drop from (bytes_if (s.test set c) x) ++ left_from other c (index + 1) 0) (sym is) in
        t.shared c rest (left_from other c (index + 1) 0) (from_place other c rest) (with_taken front rest (left_from other c (index + 1) 0)) same here
        (each-value s c (with_taken front rest (left_from other c index from)) (with_taken front rest (drop from (bytes_if (s.test set c) there) ++ left_from other c (index + 1) 0)) same half (λ p count. ap (λ ys. with_taken front rest ys p count) left) (g.right c rest same h))

-- those that wait at the end have more to write
none_waits : {I : Type 0} (s : Sets I) (c : List Bool) (front : Piece) (rest left : List (Stream × ℕ)) (same : Bool) (waiting : List (Reached I)) → left ≡ [] → AreBelow (length front.text) waiting → IsRightAtEach s c (with_taken front rest left) same waiting → is_covered s waiting c ≡ true → same ≡ false
none_waits s c front rest left same [] e b h t = cc (t)
none_waits s c front rest left same (w ∷ ws) e b h t = elim (both_or (s.test w.condition c) (is_covered s ws c) t) [
  | inl a ↦
      let some = some_left front w.byte b.0 in
      h.0 a ∙ ap (λ ys. are_equal (drop w.byte (bytes_of front) ++ rest) ys) e ∙ ap (λ xs. are_equal (xs ++ rest) []) some.2
  | inr a ↦ none_waits s c front rest left same ws e b.1 h.1 a
]

pub IsTaken-of : {I : Type 0} {s0 s : Sets I} (other : Report) (piece byte : ℕ) (condition : I) (front : Piece) (old : List (Reached I)) (index from : ℕ) (new waiting : List (Reached I)) → IsGoing s0 s other piece byte condition front old index from new waiting
    → ((c : List Bool) (rest : List (Stream × ℕ)) (same : Bool) → (s0.test condition c ≡ true → same ≡ are_equal (bytes_of front ++ rest) (left_from other c piece byte)) → is_covered s waiting c ≡ true → same ≡ false) → IsTaken s0 s other piece byte condition front old new
IsTaken-of {s0 = s0} {s = s} other piece byte condition front old index from new waiting g ends = record {
  known = g.known;
  added = λ c rest same h.
      let shared = g.shared c rest same h in
      record {
        each = shared.each_done;
        keeps = shared.keeps_done;
        adds = λ t e. elim (both_or (is_covered s new c) (is_covered s waiting c) (shared.adds t e)) [
          | inl a ↦ a
          | inr b ↦ absurd (not_both same e (ends c rest same h b))
        ];
      };
}

-- nobody waits
pub IsTaken-early : {I : Type 0} {s0 s : Sets I} (other : Report) (piece byte : ℕ) (condition : I) (front : Piece) (old : List (Reached I)) (index from : ℕ) (new waiting : List (Reached I)) → IsGoing s0 s other piece byte condition front old index from new waiting → length waiting ≡ 0 → IsTaken s0 s other piece byte condition front old new
IsTaken-early {s = s} other piece byte condition front old index from new waiting g z = IsTaken-of other piece byte condition front old index from new waiting g (λ c rest same h t. absurd (not_both (is_covered s waiting c) t (none waiting z c)))
  where
    none : (ws : List (Reached _)) → length ws ≡ 0 → (c : List Bool) → is_covered s ws c ≡ false
    none [] e c = refl
    none (w ∷ ws) e c = absurd (omega (arith, e))

-- no piece is left
pub IsTaken-end : {I : Type 0} {s0 s : Sets I} (other : Report) (piece byte : ℕ) (condition : I) (front : Piece) (old : List (Reached I)) (index from : ℕ) (new waiting : List (Reached I)) → length other.pieces ≤ index → IsGoing s0 s other piece byte condition front old index from new waiting → IsTaken s0 s other piece byte condition front old new
IsTaken-end {s = s} other piece byte condition front old index from new waiting l g = IsTaken-of other piece byte condition front old index from new waiting g (λ c rest same h t. none_waits s c front rest (left_from other c index from) same waiting (left_end other c index from l) g.below (g.right c rest same h) t)

-- ---- those that begin

pub IsBegun-some : {I : Type 0} (s : Sets I) (piece : ℕ) (condition : I) (entries : List (Reached I)) → s.is_known condition ≡ true → entries ≡ record { piece = piece; byte = 0; condition = condition } ∷ [] → IsBegun s piece condition entries
IsBegun-some s piece condition entries k e = subst (IsBegun s piece condition) (sym e) (record {
  known = (k, tt);
  below = λ bound l. (l, tt);
  right = λ c waiting same h. (h, tt);
  covers = λ c. alone (s.test condition c);
})
  where
    alone : (b : Bool) → (b || false) ≡ b
    alone true = refl
    alone false = refl

pub IsBegun-none : {I : Type 0} {s : Sets I} → IsLawful s → (piece : ℕ) (condition : I) (entries : List (Reached I)) → condition ≡ s.never → entries ≡ [] → IsBegun s piece condition entries
IsBegun-none {s = s} lawful piece condition entries n e = subst (IsBegun s piece condition) (sym e) (record {
  known = tt;
  below = λ bound l. tt;
  right = λ c waiting same h. tt;
  covers = λ c. sym (ap (λ x. s.test x c) n ∙ lawful.never_test c);
})
