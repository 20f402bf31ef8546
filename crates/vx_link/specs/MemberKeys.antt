-- Keys by which members are found: a hash of the name and the descriptor, and below it the number of the member.
use Rattle.std.specs.BTreeSet.{BTreeSet, contains}
use Rattle.std.specs.Hash.DefaultHasher as sip
use Rattle.std.specs.Int.{to_le_bytes, w64}
use Rattle.std.specs.Ordering.{nat_cmp}
use Rattle.std.specs.Prelude.{List, Option, None, Some, [], false, length, true, ℕ, ◌*◌, ◌+◌, ◌<◌, ◌≡◌, ◌≤◌}
use Rattle.vx_list.specs.Places.{item_or}

-- SipHash-1-3 of a text
abbrev pub hash_of : List ℕ → ℕ
hash_of text = sip.finish (sip.write sip.initial text)

-- SipHash-1-3 of two hashes
abbrev pub hash_of_both : ℕ → ℕ → ℕ
hash_of_both one other = sip.finish (sip.write (sip.write sip.initial (to_le_bytes w64 one)) (to_le_bytes w64 other))

-- the hash of a name and a descriptor
abbrev pub hash_of_signature : List ℕ × List ℕ → ℕ
hash_of_signature s = hash_of_both (hash_of s.0) (hash_of s.1)

-- the key of a member, whose number has 64 bits
abbrev pub key_of : (hash number : ℕ) → ℕ
key_of hash number = hash * 18446744073709551616 + number

abbrev pub key_at : List (List ℕ × List ℕ) → (number : ℕ) → ℕ
key_at signatures number = key_of (hash_of_signature (item_or signatures number ([], []))) number

-- the keys are those of members with these names and descriptors, of which there are at most 2^64
pub record AreKeys (signatures : List (List ℕ × List ℕ)) (keys : BTreeSet ℕ) : Type 0 where
  pub few : length signatures ≤ 18446744073709551616
  pub there : (number : ℕ) → number < length signatures → contains nat_cmp keys (key_at signatures number) ≡ true
  pub only : (key : ℕ) → contains nat_cmp keys key ≡ true → (number : ℕ) × (number < length signatures) × (key ≡ key_at signatures number)

-- the least key from one on, if there is one
abbrev pub IsNext : BTreeSet ℕ → (from : ℕ) → Option ℕ → Type 0
IsNext keys from None = (key : ℕ) → from ≤ key → contains nat_cmp keys key ≡ false
IsNext keys from (Some next) = (from ≤ next) × (contains nat_cmp keys next ≡ true) × ((key : ℕ) → from ≤ key → key < next → contains nat_cmp keys key ≡ false)

-- the number in a key that is not below the least one of a hash, if the key is of this hash
abbrev pub IsNumber : (hash key : ℕ) → Option ℕ → Type 0
IsNumber hash key None = key_of hash 18446744073709551616 ≤ key
IsNumber hash key (Some number) = (key ≡ key_of hash number) × (number < 18446744073709551616)

-- the least number from one on that has a key of a hash, if there is one
abbrev pub IsNextNumber : BTreeSet ℕ → (hash from : ℕ) → Option ℕ → Type 0
IsNextNumber keys hash from None = (number : ℕ) → from ≤ number → number < 18446744073709551616 → contains nat_cmp keys (key_of hash number) ≡ false
IsNextNumber keys hash from (Some next) =
    (from ≤ next)
    × (next < 18446744073709551616)
    × (contains nat_cmp keys (key_of hash next) ≡ true)
    × ((number : ℕ) → from ≤ number → number < next → contains nat_cmp keys (key_of hash number) ≡ false)
