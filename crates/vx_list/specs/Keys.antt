-- Hashes that begin with a key.
use Rattle.std.specs.Hash as fed
use Rattle.std.specs.Hash.DefaultHasher as sip
use Rattle.std.specs.Hash.FoldHasher as folding
use Rattle.std.specs.List.{fold}
use Rattle.std.specs.Prelude.{List, ℕ}

-- what a hasher that has read a key, and nothing else, would answer
abbrev pub begun : (key : ℕ) → ℕ
begun key = folding.finish (fold folding.write folding.initial (fed.u64 key))

-- SipHash of a text
abbrev pub key_of : List ℕ → ℕ
key_of text = sip.finish (sip.write sip.initial text)
