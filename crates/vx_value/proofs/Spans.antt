-- Spans keep their texts while buffers grow.
use Rattle.std.proofs.Common.{◌≡◌, ℕ, ◌<◌, List, [], ◌∷◌, ◌++◌, refl, ap, sym, ◌∙◌, Bool, true, false, nat_eq, length, map, take, set, get_or, subst, arith}
use Rattle.std.proofs.lemmas.Bool.{eqb-false, eqb-true}
use Rattle.std.proofs.lemmas.List.{get_or-map, get_or-set_other, get_or-set_same, length-append, length-map, map-append, map-set, take-append-le}
use Rattle.std.proofs.Math.ListN.{length-set}
use Rattle.std.proofs.Math.Seq.{map-set_same, take-length}
use Rattle.std.proofs.lemmas.Option.{unwrap_or-slice_get}
use Rattle.vx_value.specs.Buffers.{Holds, IsSpan, Keeps, text_of}
use Rattle.vx_value.specs.Texts.{Extends, IsNumber, text_at}
use Rattle.vx_value.specs.declared.buffers.Span.{Span}
use Rattle.vx_value.proofs.Numbering.{Extends-refl, last-extends}

-- a span whose buffer stays
same_buffer : (before after : List (List ℕ)) (span : Span) → IsSpan before span → IsNumber after span.buffer (text_at before span.buffer) → Holds after span (text_of before span)
same_buffer before after span is there = record {
  is_span = record { known = there.known; within = rw there.text is.within };
  text = ap (take span.length) there.text;
}

pub Keeps-extends : (before after : List (List ℕ)) → Extends before after → Keeps before after
Keeps-extends before after extends span is = same_buffer before after span is (extends span.buffer is.known)

pub Keeps-refl : (buffers : List (List ℕ)) → Keeps buffers buffers
Keeps-refl buffers = Keeps-extends buffers buffers (Extends-refl buffers)

-- a held text that stays
pub Holds-keeps : (before after : List (List ℕ)) (span : Span) (text : List ℕ) → Keeps before after → Holds before span text → Holds after span text
Holds-keeps before after span text keeps holds =
    let kept = keeps span holds.is_span in
    record { is_span = kept.is_span; text = kept.text ∙ holds.text }

-- the whole of a buffer
pub Holds-whole : (buffers : List (List ℕ)) (span : Span) (text : List ℕ) → IsNumber buffers span.buffer text → span.length ≡ length text → Holds buffers span text
Holds-whole buffers span text there all = record {
  is_span = record { known = there.known; within = rw (there.text, all) (omega arith) };
  text = ap (take span.length) there.text ∙ ap (λ count. take count text) all ∙ take-length text;
}

-- units are put behind those of a buffer
module _ (before : List (List ℕ)) (buffer : ℕ) (units : List ℕ) (known : buffer < length before) where
  abbrev pub longer : List (List ℕ)
  longer = set before buffer (text_at before buffer ++ units)

  longer-length : length longer ≡ length before
  longer-length = length-set before buffer (text_at before buffer ++ units)

  pub longer-is : IsNumber longer buffer (text_at before buffer ++ units)
  longer-is = record {
    known = rw longer-length known;
    text = unwrap_or-slice_get longer buffer [] ∙ get_or-set_same before buffer (text_at before buffer ++ units) [] known;
  }

  other-is : (other : ℕ) → other < length before → (other ≡ buffer → ⊥) → IsNumber longer other (text_at before other)
  other-is other there different = record {
    known = rw longer-length there;
    text = unwrap_or-slice_get longer other [] ∙ get_or-set_other before buffer other (text_at before buffer ++ units) [] different ∙ sym (unwrap_or-slice_get before other []);
  }

  pub Keeps-longer : Keeps before longer
  Keeps-longer span is = by (nat_eq span.buffer buffer) refl
    where
      by : (b : Bool) → nat_eq span.buffer buffer ≡ b → Holds longer span (text_of before span)
      by false e = same_buffer before longer span is (other-is span.buffer is.known (eqb-false span.buffer buffer e))
      by true e =
          let same = eqb-true span.buffer buffer e in
          let there : text_at longer span.buffer ≡ text_at before span.buffer ++ units =
          ap (text_at longer) same ∙ longer-is.text ∙ ap (λ b. text_at before b ++ units) (sym same) in
          let within = is.within in
          record {
            is_span = record { known = rw longer-length is.known; within = rw there (omega (arith, within, length-append (text_at before span.buffer) units)) };
            text = ap (take span.length) there ∙ take-append-le span.length (text_at before span.buffer) units within;
          }

-- ---- buffers as what some items hold

module _ {X : Type 0} (h : X → List ℕ) (xs : List X) (now : List (List ℕ)) (is : map h xs ≡ now) where
  pub Keeps-push : (after : List X) (x : X) → after ≡ xs ++ x ∷ [] → Keeps now (map h after)
  Keeps-push after x e =
      let same : map h after ≡ now ++ h x ∷ [] = ap (map h) e ∙ map-append h xs (x ∷ []) ∙ ap (λ texts. texts ++ h x ∷ []) is in
      subst (Keeps now) (sym same) (Keeps-extends now (now ++ h x ∷ []) (last-extends now (h x)))

  module _ (buffer : ℕ) (old new : X) (at : old ≡ get_or xs buffer old) where
    -- the item of a buffer is replaced by one that holds the same
    pub Keeps-same : h new ≡ h old → Keeps now (map h (set xs buffer new))
    Keeps-same e = subst (Keeps now) (sym (map-set_same h xs buffer new old (e ∙ ap h at) ∙ is)) (Keeps-refl now)

    -- by one that holds more
    module _ (units : List ℕ) (known : buffer < length now) (e : h new ≡ h old ++ units) where
      there : buffer < length xs
      there = let same = ap length is in let count = length-map xs h in omega (arith, known, same, count)

      its_text : h old ≡ text_at now buffer
      its_text = ap h at ∙ sym (get_or-map h xs buffer old [] there) ∙ sym (unwrap_or-slice_get (map h xs) buffer []) ∙ ap (λ texts. text_at texts buffer) is

      is_longer : map h (set xs buffer new) ≡ longer now buffer units known
      is_longer = map-set h xs buffer new ∙ (λ i. set (is i) buffer ((e ∙ ap (λ text. text ++ units) its_text) i))

      pub Keeps-more : Keeps now (map h (set xs buffer new))
      Keeps-more = subst (Keeps now) (sym is_longer) (Keeps-longer now buffer units known)

      pub Holds-more : (read : X) (all : ℕ) → read ≡ get_or (set xs buffer new) buffer read → all ≡ length (h read)
          → Holds (map h (set xs buffer new)) (record { buffer = buffer; length = all }) (text_at now buffer ++ units)
      Holds-more read all read_is count =
          let same : h read ≡ text_at now buffer ++ units = ap h (read_is ∙ get_or-set_same xs buffer new read there) ∙ e ∙ ap (λ text. text ++ units) its_text in
          Holds-whole (map h (set xs buffer new)) (record { buffer = buffer; length = all }) (text_at now buffer ++ units)
          (subst (λ texts. IsNumber texts buffer (text_at now buffer ++ units)) (sym is_longer) (longer-is now buffer units known)) (count ∙ ap length same)
