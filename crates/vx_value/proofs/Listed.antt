-- Texts that are listed by the nodes at which they end.
use Rattle.std.proofs.Common.{◌≡◌, ℕ, ◌+◌, ◌<◌, List, [], ◌∷◌, ◌++◌, refl, ap, sym, ◌∙◌, Bool, true, false, not, cond, position, Option, Some, None, unwrap_or, option_map, slice_get, length, nat_eq, bytes_eq, Result, Ok, Err, IfOk, OnOk, OnErr, subst}
use Rattle.std.specs.Bool.{Decides}
use Rattle.std.specs.List.{position_or_len}
use Rattle.std.specs.Map.{keys_of}
use Rattle.std.proofs.lemmas.Bool.Decides.{Decides-eqb}
use Rattle.std.proofs.lemmas.List.{length-map, map-append}
use Rattle.std.proofs.lemmas.List.Elements.{All-get_or, All-head, All-push, All-same, All-tail, All-weaker}
use Rattle.std.proofs.lemmas.Map.Entries.{length-keys_of}
use Rattle.std.proofs.lemmas.Option.{get_or_from_slice_get, slice_get-map, slice_get_within}
use Rattle.std.proofs.lemmas.Result.{IfOk-weaker, on_err_weaker, on_ok_weaker}
use Rattle.std.proofs.lemmas.Slice.Eq.{bytes_eq-Decides}
use Rattle.vx_value.specs.Buffers.{Holds, Keeps, text_of}
use Rattle.vx_value.specs.Listed.{AreListed, IsListed, listed_texts, text_to}
use Rattle.vx_value.specs.Texts.{AreDistinct, Extends, IsNumber, number_of, text_at, with_text}
use Rattle.vx_value.specs.Trie.{paths}
use Rattle.vx_value.specs.declared.buffers.Span.{Span}
use Rattle.vx_value.proofs.Nodes.{first_node}
use Rattle.vx_value.proofs.Spans.{Holds-keeps}
use Rattle.vx_value.proofs.Numbering.{known-number, new-number}

-- two tests of one fact
same_test : (a b : Bool) (P Q : Type 0) → Decides a P → Decides b Q → (P → Q) → (Q → P) → a ≡ b
same_test true b P Q tells other there back = sym (other.1 (there (tells.0 refl)))
same_test false true P Q tells other there back = tells.1 (back (other.0 refl))
same_test false false P Q tells other there back = refl

module _ (before after buffers : List (List ℕ)) where
  -- the trie grows
  pub texts-same : (entries : List (ℕ × Span)) → AreListed before buffers entries → Extends before after → listed_texts after entries ≡ listed_texts before entries
  texts-same [] listed extends = refl
  texts-same (entry ∷ entries) listed extends =
      let is = All-head (IsListed before buffers) entry entries listed in
      let rest = All-tail (IsListed before buffers) entry entries listed in
      λ i. (extends entry.0 is.known).text i ∷ texts-same entries rest extends i

  -- the trie and the buffers grow
  listed-keeps : (held : List (List ℕ)) (entries : List (ℕ × Span)) → AreListed before buffers entries → Extends before after → Keeps buffers held → AreListed after held entries
  listed-keeps held entries listed extends keeps = All-weaker (IsListed before buffers) (IsListed after held) kept entries listed
    where
      kept : (entry : ℕ × Span) → IsListed before buffers entry → IsListed after held entry
      kept entry is =
          let there = extends entry.0 is.known in
          record {
            known = there.known;
            holds = Holds-keeps buffers held entry.1 (text_at after entry.0) keeps (subst (Holds buffers entry.1) (sym there.text) is.holds);
          }

-- ---- an entry of the list

module _ (paths buffers : List (List ℕ)) (entries : List (ℕ × Span)) (place : ℕ) (entry : ℕ × Span) (at : slice_get entries place ≡ Some entry) where
  pub entry-is : AreListed paths buffers entries → IsListed paths buffers entry
  entry-is listed =
      subst (IsListed paths buffers) (get_or_from_slice_get entries place entry entry at) (All-get_or (IsListed paths buffers) entries place entry (slice_get_within entries place entry at) listed)

  entry-text : text_at (listed_texts paths entries) place ≡ text_at paths entry.0
  entry-text = ap (λ (o : Option (List ℕ)). unwrap_or o []) (slice_get-map (text_to paths) entries place ∙ ap (option_map (text_to paths)) at)

  -- what a span holds that was made of the entry's and units
  pub appended-holds : AreListed paths buffers entries → (held : List (List ℕ)) (span : Span) (units : List ℕ) → Holds held span (text_of buffers entry.1 ++ units)
      → Holds held span (text_at (listed_texts paths entries) place ++ units)
  appended-holds listed held span units holds =
      subst (λ text. Holds held span (text ++ units)) ((entry-is listed).holds.text ∙ sym entry-text) holds

-- ---- a text that was walked: it ends at a node of the later trie

pub record IsWalked (before after : List (List ℕ)) (end : ℕ) (units : List ℕ) : Type 0 where
  pub distinct : AreDistinct after
  pub extends : Extends before after
  pub is : IsNumber after end units

-- from the first node
pub walked-first : (steps : List (ℕ × ℕ)) (after : List (List ℕ)) (end : ℕ) (units : List ℕ) → AreDistinct after → Extends (paths steps) after
    → IsNumber after end (text_at (paths steps) 0 ++ units) → IsWalked (paths steps) after end units
walked-first steps after end units distinct extends is = record {
  distinct = distinct;
  extends = extends;
  is = subst (λ text. IsNumber after end (text ++ units)) (first_node steps).text is;
}

-- from where a listed text ends
pub walked-on : (before after : List (List ℕ)) (entries : List (ℕ × Span)) (place : ℕ) (entry : ℕ × Span) (end : ℕ) (units : List ℕ)
    → AreDistinct after → Extends before after → slice_get entries place ≡ Some entry → IsNumber after end (text_at before entry.0 ++ units)
    → IsWalked before after end (text_at (listed_texts before entries) place ++ units)
walked-on before after entries place entry end units distinct extends at is = record {
  distinct = distinct;
  extends = extends;
  is = subst (λ text. IsNumber after end (text ++ units)) (sym (entry-text before [] entries place entry at)) is;
}

module _ (before after buffers : List (List ℕ)) (end : ℕ) (units : List ℕ) (walked : IsWalked before after end units) where
  same_text : (entry : ℕ × Span) → entry.0 < length before → nat_eq end entry.0 ≡ bytes_eq units (text_to before entry)
  same_text entry known =
      let there = walked.extends entry.0 known in
      same_test (nat_eq end entry.0) (bytes_eq units (text_to before entry)) (end ≡ entry.0) (units ≡ text_to before entry)
      (Decides-eqb end entry.0) (bytes_eq-Decides units (text_to before entry))
      (λ e. sym walked.is.text ∙ ap (text_at after) e ∙ there.text)
      (λ e. walked.distinct end entry.0 walked.is.known there.known (walked.is.text ∙ e ∙ sym there.text))

  number-ends : (entries : List (ℕ × Span)) → AreListed before buffers entries → position_or_len (nat_eq end) (keys_of entries) ≡ number_of (listed_texts before entries) units
  number-ends [] listed = refl
  number-ends (entry ∷ entries) listed =
      let is = All-head (IsListed before buffers) entry entries listed in
      let rest = All-tail (IsListed before buffers) entry entries listed in
      λ i. cond (not (same_text entry is.known i)) (1 + number-ends entries rest i) 0

  module _ (entries : List (ℕ × Span)) (listed : AreListed before buffers entries) where
    place-ends : position (nat_eq end) (keys_of entries) ≡ position (bytes_eq units) (listed_texts before entries)
    place-ends = rw (number-ends entries listed, length-keys_of entries, length-map entries (text_to before)) refl

    texts-stay : listed_texts after entries ≡ listed_texts before entries
    texts-stay = texts-same before after buffers entries listed walked.extends

    -- it is listed
    pub known-text : (place : ℕ) → Some place ≡ position (nat_eq end) (keys_of entries)
        → (place ≡ number_of (listed_texts before entries) units) × (listed_texts after entries ≡ with_text (listed_texts before entries) units)
    known-text place found =
        let known = known-number (listed_texts before entries) units place (sym (found ∙ place-ends)) in
        (sym known.0, texts-stay ∙ sym known.1)

    -- it is put behind the others, or there is no memory for it
    module _ {E : Type 0} (span : Span) (none : position (nat_eq end) (keys_of entries) ≡ None) (r : Result ℕ E) (later : List (ℕ × Span))
        (ok : OnOk r (later ≡ entries ++ (end, span) ∷ [])) (err : OnErr r (later ≡ entries)) where
      new-is : (number_of (listed_texts before entries) units ≡ length (listed_texts before entries)) × (with_text (listed_texts before entries) units ≡ listed_texts before entries ++ units ∷ [])
      new-is = new-number (listed_texts before entries) units (sym place-ends ∙ none)

      pub listed-number : IfOk r (λ number. number ≡ length entries) → IfOk r (λ number. number ≡ number_of (listed_texts before entries) units)
      listed-number is_last = IfOk-weaker r (λ number. number ≡ length entries) (λ number. number ≡ number_of (listed_texts before entries) units)
          (λ number e. e ∙ sym (new-is.0 ∙ length-map entries (text_to before))) is_last

      pub listed-with : OnOk r (listed_texts after later ≡ with_text (listed_texts before entries) units)
      listed-with = on_ok_weaker r
          (λ e. ap (listed_texts after) e
          ∙ map-append (text_to after) entries ((end, span) ∷ [])
          ∙ (λ i. texts-stay i ++ walked.is.text i ∷ [])
          ∙ sym new-is.1)
          ok

      pub listed-err : OnErr r (listed_texts after later ≡ listed_texts before entries)
      listed-err = on_err_weaker r (λ e. ap (listed_texts after) e ∙ texts-stay) err

      pub listed-after : (held : List (List ℕ)) → Keeps buffers held → Holds held span units → AreListed after held later
      listed-after held keeps holds = by r ok err
        where
          kept : AreListed after held entries
          kept = listed-keeps before after buffers held entries listed walked.extends keeps

          last : IsListed after held (end, span)
          last = record { known = walked.is.known; holds = subst (Holds held span) (sym walked.is.text) holds }

          by : (r : Result ℕ E) → OnOk r (later ≡ entries ++ (end, span) ∷ []) → OnErr r (later ≡ entries) → AreListed after held later
          by (Ok _) e _ = All-same (IsListed after held) later (entries ++ (end, span) ∷ []) e (All-push (IsListed after held) entries (end, span) kept last)
          by (Err _) _ e = All-same (IsListed after held) later entries e kept

-- what is said of an error holds anyway
pub on_err : {A E P : Type 0} (r : Result A E) → P → OnErr r P
on_err (Ok _) p = tt
on_err (Err _) p = p
