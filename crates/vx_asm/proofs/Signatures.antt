-- A table of signatures has a key for just those that are taken.
use Rattle.std.proofs.Common.{◌≡◌, ℕ, List, [], ◌∷◌, ◌++◌, Bool, true, false, ◌||◌, length, refl, sym, take, ap, ◌∙◌, Vec, Global, if◌then◌else◌}
use Rattle.std.specs.Prelude.{◌&&◌, Err, Ok, OnErr, OnOk, Result}
use Rattle.std.specs.List.{list_any}
use Rattle.std.specs.Str.{bytes_eq}
use Rattle.std.proofs.lemmas.Bool.Decides.{Decides-and}
use Rattle.std.proofs.lemmas.Cmp.{nat_list_eq_equiv}
use Rattle.std.proofs.lemmas.List.Folds.{list_any-append}
use Rattle.std.proofs.lemmas.Slice.Eq.{bytes_eq-Decides}
use Rattle.indexmap.specs.IndexSet.{insert_key}
use Rattle.vx_list.proofs.CutLaws.{cut_back}
use Rattle.vx_asm.specs.Signatures.{AreTaken, has_key, is_taken}
use Rattle.vx_asm.specs.declared.signature_table.Signature.{Signature}

false_behind : (b : Bool) → (b || false) ≡ b
false_behind true = refl
false_behind false = refl

abbrev Key : Type 0
Key = Vec ℕ Global × Vec ℕ Global

abbrev is_key : List ℕ → List ℕ → Key → Bool
is_key name descriptor k = bytes_eq name k.0.items && bytes_eq descriptor k.1.items

abbrev same_keys : Key → Key → Bool
same_keys k l = is_key k.0.items k.1.items l

-- what has a key is asked for by it
asked_by : (name descriptor : List ℕ) (k : Key) → is_key name descriptor k ≡ true → (name ≡ k.0.items) × (descriptor ≡ k.1.items)
asked_by name descriptor k h = (Decides-and (bytes_eq name k.0.items) (bytes_eq descriptor k.1.items) (bytes_eq-Decides name k.0.items) (bytes_eq-Decides descriptor k.1.items)).0 h

-- a key more, which may be there
pub has_key-more : (keys : List Key) (k : Key) (name descriptor : List ℕ) → has_key (insert_key same_keys keys k) name descriptor ≡ (has_key keys name descriptor || is_key name descriptor k)
has_key-more keys k name descriptor = by_there (list_any (same_keys k) keys) refl
  where
    there : list_any (same_keys k) keys ≡ true → (b : Bool) → is_key name descriptor k ≡ b → has_key keys name descriptor ≡ (has_key keys name descriptor || b)
    there h false e = sym (false_behind (has_key keys name descriptor))
    there h true e =
        let parts = asked_by name descriptor k e in
        let has : has_key keys name descriptor ≡ true = (λ i. has_key keys (parts.0 i) (parts.1 i)) ∙ h in
        rw has refl

    by_there : (b : Bool) → list_any (same_keys k) keys ≡ b → has_key (if b then keys else keys ++ k ∷ []) name descriptor ≡ (has_key keys name descriptor || is_key name descriptor k)
    by_there true h = there h (is_key name descriptor k) refl
    by_there false h = list_any-append (is_key name descriptor) keys (k ∷ []) ∙ ap (λ b. has_key keys name descriptor || b) (false_behind (is_key name descriptor k))

pub with_key-is : (old new : List Key) (k : Key) (name descriptor : List ℕ) → new ≡ insert_key same_keys old k → k.0.items ≡ name → k.1.items ≡ descriptor
    → (n d : List ℕ) → has_key new n d ≡ (has_key old n d || (bytes_eq n name && bytes_eq d descriptor))
with_key-is old new k name descriptor e is_name is_descriptor n d =
    ap (λ ks. has_key ks n d) e
    ∙ has_key-more old k n d
    ∙ (λ i. has_key old n d || (bytes_eq n (is_name i) && bytes_eq d (is_descriptor i)))

-- a signature more, whose key is among the keys
pub AreTaken-more : (signatures : List Signature) (old new : List Key) (own : Signature) → AreTaken signatures old
    → ((name descriptor : List ℕ) → has_key new name descriptor ≡ (has_key old name descriptor || (bytes_eq name own.name && bytes_eq descriptor own.descriptor)))
    → AreTaken (signatures ++ own ∷ []) new
AreTaken-more signatures old new own taken more = record { same = same }
  where
    turned : (name descriptor : List ℕ) → (bytes_eq name own.name && bytes_eq descriptor own.descriptor) ≡ (bytes_eq own.name name && bytes_eq own.descriptor descriptor)
    turned name descriptor = rw (nat_list_eq_equiv.symm name own.name, nat_list_eq_equiv.symm descriptor own.descriptor) refl

    same : (name descriptor : List ℕ) → has_key new name descriptor ≡ is_taken (signatures ++ own ∷ []) name descriptor
    same name descriptor =
        more name descriptor
        ∙ (λ i. taken.same name descriptor i || turned name descriptor i)
        ∙ ap (λ b. is_taken signatures name descriptor || b) (sym (false_behind (bytes_eq own.name name && bytes_eq own.descriptor descriptor)))
        ∙ sym (list_any-append (λ (s : Signature). bytes_eq s.name name && bytes_eq s.descriptor descriptor) signatures (own ∷ []))

-- a signature more with its key, or neither
pub AreTaken-put : {E : Type 0} (r put : Result (Unit {0}) E) (signatures mid new : List Signature) (old keys : List Key) (own : Signature) (held : ℕ) → r ≡ put → OnOk r (new ≡ mid)
    → OnErr r (new ≡ take held mid) → mid ≡ signatures ++ own ∷ [] → length signatures ≡ held → AreTaken signatures old
    → OnOk put ((name descriptor : List ℕ) → has_key keys name descriptor ≡ (has_key old name descriptor || (bytes_eq name own.name && bytes_eq descriptor own.descriptor)))
    → OnErr put (keys ≡ old) → AreTaken new keys
AreTaken-put (Ok x) put signatures mid new old keys own held same kept cut is count taken more none = rw (kept ∙ is) (AreTaken-more signatures old keys own taken (rw (← same) at more))
AreTaken-put (Err x) put signatures mid new old keys own held same kept cut is count taken more none =
    rw (cut_back signatures mid mid new (own ∷ []) held cut refl is count, (rw (← same) at none)) taken

pub none_taken : (signatures : List Signature) (keys : List Key) → signatures ≡ [] → keys ≡ [] → AreTaken signatures keys
none_taken signatures keys e f = rw (e, f) (record { same = λ name descriptor. refl })

-- a signature is taken where its key is there
pub is_taken-there : (signatures : List Signature) (keys : List Key) (name descriptor : List ℕ) (k : Key) → AreTaken signatures keys → k.0.items ≡ name → k.1.items ≡ descriptor
    → list_any (same_keys k) keys ≡ is_taken signatures name descriptor
is_taken-there signatures keys name descriptor k taken n d = (λ i. has_key keys (n i) (d i)) ∙ taken.same name descriptor
