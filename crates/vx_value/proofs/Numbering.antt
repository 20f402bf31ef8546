-- Finding a text among texts, and putting one behind them.
use Rattle.std.proofs.Common.{◌≡◌, ℕ, ◌<◌, ◌≤◌, ◌^◌, ◌⊎◌, List, [], ◌∷◌, ◌++◌, refl, ap, sym, ◌∙◌, not, Bool, true, false, cond, position, Option, Some, None, unwrap_or, length, get_or, arith, bytes_eq, true≢false, if◌then◌else◌, nat_lt, inl, inr, Result, Ok, Err, IfOk, OnOk, OnErr, subst}
use Rattle.std.proofs.lemmas.List.{length-append, get_or_append_left}
use Rattle.std.proofs.Math.Seq.{get_or-append_seam}
use Rattle.std.proofs.lemmas.List.Sums.{prefix_len-le-length, fails_before_first}
use Rattle.std.proofs.lemmas.List.Quantifiers.{position-Some}
use Rattle.std.proofs.lemmas.Bool.{cases_lt}
use Rattle.std.proofs.lemmas.Grind.{common_steps}
use Rattle.std.proofs.lemmas.Option.{slice_get_past, unwrap_or-slice_get}
use Rattle.std.proofs.Math.Nat.{eq-or-lt_of_le}
use Rattle.std.proofs.lemmas.Slice.Eq.{bytes_eq-Decides}
use Rattle.vx_value.specs.Texts.{AreDistinct, AreShort, Extends, IsNumber, number_of, text_at, with_text}

text-get_or : (texts : List (List ℕ)) (number : ℕ) → text_at texts number ≡ get_or texts number []
text-get_or texts number = unwrap_or-slice_get texts number []

-- past the last one there is no text
pub text-past : (texts : List (List ℕ)) (number : ℕ) → length texts ≤ number → text_at texts number ≡ []
text-past texts number past = ap (λ (o : Option (List ℕ)). unwrap_or o []) (slice_get_past texts number past)

-- ---- the numbers so far keep their texts

pub Extends-refl : (texts : List (List ℕ)) → Extends texts texts
Extends-refl texts number known = record { known = known; text = refl }

pub Extends-trans : (a b c : List (List ℕ)) → Extends a b → Extends b c → Extends a c
Extends-trans a b c first second number known =
    let middle = first number known in
    let last = second number middle.known in
    record { known = last.known; text = last.text ∙ middle.text }

module _ (texts : List (List ℕ)) (units : List ℕ) where
  -- where a text was found it is the text of that place
  found-text : (place : ℕ) → position (bytes_eq units) texts ≡ Some place → IsNumber texts place units
  found-text place e =
      let at = position-Some (bytes_eq units) texts place [] e in
      record { known = at.0; text = text-get_or texts place ∙ sym ((bytes_eq-Decides units (get_or texts place [])).0 at.1) }

  -- where it was not found, its number is how many texts there are
  absent-number : position (bytes_eq units) texts ≡ None → number_of texts units ≡ length texts
  absent-number e =
      let within = prefix_len-le-length (λ t. not (bytes_eq units t)) texts in
      grind (arith, common_steps)

  -- a text that is put goes last
  pub last-text : IsNumber (texts ++ units ∷ []) (length texts) units
  last-text = record {
    known = omega (arith, length-append texts (units ∷ []));
    text = text-get_or (texts ++ units ∷ []) (length texts) ∙ get_or-append_seam texts units [] [];
  }

  earlier : (number : ℕ) → number < length texts → text_at (texts ++ units ∷ []) number ≡ text_at texts number
  earlier number known =
      text-get_or (texts ++ units ∷ []) number
      ∙ get_or_append_left texts (units ∷ []) [] number known
      ∙ sym (text-get_or texts number)

  -- the others keep theirs
  pub last-extends : Extends texts (texts ++ units ∷ [])
  last-extends number known =
      record { known = omega (arith, known, length-append texts (units ∷ [])); text = earlier number known }

  -- and all stay distinct, if it is new
  pub last-distinct : ((number : ℕ) → number < length texts → text_at texts number ≡ units → ⊥) → AreDistinct texts → AreDistinct (texts ++ units ∷ [])
  last-distinct is_new distinct a b at bt e = by (last a at) (last b bt)
    where
      last : (n : ℕ) → n < length (texts ++ units ∷ []) → (n ≡ length texts) ⊎ (n < length texts)
      last n small = eq-or-lt_of_le (omega (arith, small, length-append texts (units ∷ [])))

      its_text : (n : ℕ) → n ≡ length texts → text_at (texts ++ units ∷ []) n ≡ units
      its_text n h = ap (text_at (texts ++ units ∷ [])) h ∙ last-text.text

      by : (a ≡ length texts) ⊎ (a < length texts) → (b ≡ length texts) ⊎ (b < length texts) → a ≡ b
      by (inl x) (inl y) = x ∙ sym y
      by (inl x) (inr y) = absurd (is_new b y (sym (earlier b y) ∙ sym e ∙ its_text a x))
      by (inr x) (inl y) = absurd (is_new a x (sym (earlier a x) ∙ e ∙ its_text b y))
      by (inr x) (inr y) = distinct a b x y (sym (earlier a x) ∙ e ∙ earlier b y)

  -- and short, if it is
  last-short : length units < 2 ^ 31 → AreShort texts → AreShort (texts ++ units ∷ [])
  last-short few short number = by (cases_lt number (length texts)) (cases_lt (length texts) number)
    where
      by : (number < length texts) ⊎ (length texts ≤ number) → (length texts < number) ⊎ (number ≤ length texts) → length (text_at (texts ++ units ∷ []) number) < 2 ^ 31
      by (inl known) _ = rw (earlier number known) (short number)
      by (inr past) (inl behind) = rw (text-past (texts ++ units ∷ []) number (omega (arith, behind, length-append texts (units ∷ [])))) (omega arith)
      by (inr past) (inr last) =
          let same : number ≡ length texts = omega (arith, past, last) in
          rw (same, last-text.text) few

  -- ---- a text that is put unless it is there

  -- it is there
  pub known-number : (place : ℕ) → position (bytes_eq units) texts ≡ Some place → (number_of texts units ≡ place) × (with_text texts units ≡ texts)
  known-number place e = by (nat_lt (number_of texts units) (length texts)) e
    where
      by : (b : Bool) → cond b (Some (number_of texts units)) None ≡ Some place → (number_of texts units ≡ place) × ((if b then texts else texts ++ units ∷ []) ≡ texts)
      by true e = (cc, refl)
      by false e = absurd cc

  -- it is not there
  pub new-number : position (bytes_eq units) texts ≡ None → (number_of texts units ≡ length texts) × (with_text texts units ≡ texts ++ units ∷ [])
  new-number e = (absent-number e, by (nat_lt (number_of texts units) (length texts)) e)
    where
      by : (b : Bool) → cond b (Some (number_of texts units)) None ≡ None → (if b then texts else texts ++ units ∷ []) ≡ texts ++ units ∷ []
      by true e = absurd cc
      by false e = refl

  is_new : position (bytes_eq units) texts ≡ None → (number : ℕ) → number < length texts → text_at texts number ≡ units → ⊥
  is_new none number known e =
      let other : bytes_eq units (get_or texts number []) ≡ false = fails_before_first (bytes_eq units) texts number [] (rw (absent-number none) known) in
      let same : bytes_eq units (get_or texts number []) ≡ true = (bytes_eq-Decides units (get_or texts number [])).1 (sym e ∙ text-get_or texts number) in
      true≢false (sym same ∙ other)

  -- its number has it
  pub with-is : IsNumber (with_text texts units) (number_of texts units) units
  with-is = by (position (bytes_eq units) texts) refl
    where
      by : (o : Option ℕ) → position (bytes_eq units) texts ≡ o → IsNumber (with_text texts units) (number_of texts units) units
      by (Some place) e = let is = known-number place e in rw (is.1, is.0) (found-text place e)
      by None e = let is = new-number e in rw (is.1, is.0) last-text

  -- the others keep theirs
  pub with-extends : Extends texts (with_text texts units)
  with-extends = by (nat_lt (number_of texts units) (length texts))
    where
      by : (b : Bool) → Extends texts (if b then texts else texts ++ units ∷ [])
      by true = Extends-refl texts
      by false = last-extends

  with-distinct : AreDistinct texts → AreDistinct (with_text texts units)
  with-distinct distinct = by (position (bytes_eq units) texts) refl
    where
      by : (o : Option ℕ) → position (bytes_eq units) texts ≡ o → AreDistinct (with_text texts units)
      by (Some place) e = rw (known-number place e).1 distinct
      by None e = rw (new-number e).1 (last-distinct (is_new e) distinct)

  with-short : length units < 2 ^ 31 → AreShort texts → AreShort (with_text texts units)
  with-short few short = by (nat_lt (number_of texts units) (length texts))
    where
      by : (b : Bool) → AreShort (if b then texts else texts ++ units ∷ [])
      by true = short
      by false = last-short few short

  -- whether there was room for it or not
  pub put-distinct : {A E : Type 0} (r : Result A E) (after : List (List ℕ)) → OnOk r (after ≡ with_text texts units) → OnErr r (after ≡ texts)
      → AreDistinct texts → AreDistinct after
  put-distinct (Ok _) after ok err distinct = subst AreDistinct (sym ok) (with-distinct distinct)
  put-distinct (Err _) after ok err distinct = subst AreDistinct (sym err) distinct

  pub put-short : {A E : Type 0} (r : Result A E) (after : List (List ℕ)) → OnOk r (after ≡ with_text texts units) → OnErr r (after ≡ texts)
      → length units < 2 ^ 31 → AreShort texts → AreShort after
  put-short (Ok _) after ok err few short = subst AreShort (sym ok) (with-short few short)
  put-short (Err _) after ok err few short = subst AreShort (sym err) short

  pub put-is : {E : Type 0} (r : Result ℕ E) (after : List (List ℕ)) → IfOk r (λ number. number ≡ number_of texts units) → OnOk r (after ≡ with_text texts units)
      → IfOk r (λ number. IsNumber after number units)
  put-is (Ok number) after is ok = rw (ok, is) with-is
  put-is (Err _) after is ok = tt

  pub put-extends : {A E : Type 0} (r : Result A E) (after : List (List ℕ)) → OnOk r (after ≡ with_text texts units) → OnErr r (after ≡ texts) → Extends texts after
  put-extends (Ok _) after ok err = rw ok with-extends
  put-extends (Err _) after ok err = rw err (Extends-refl texts)
