-- Texts put behind one another are the longest runs of their bytes.
use Rattle.std.proofs.Common.{arith, ◌≡◌, ℕ, suc, length, Bool, true, false, List, [], ◌∷◌, ◌++◌, map, refl, sym, ap, ◌∙◌, append_assoc}
use Rattle.std.proofs.lemmas.Bool.Decides.{nat_tests}
use Rattle.std.proofs.lemmas.List.{append-nil, map-append}
use Rattle.std.proofs.lemmas.List.Concat.{flat_map-cons}
use Rattle.std.proofs.lemmas.Result.{on_ok_weaker}
use Rattle.std.specs.List.{flat_map}
use Rattle.std.specs.Prelude.{OnOk, Option, Result, Some, if◌then◌else◌, ◌==◌}
use Rattle.vx_replay.specs.Attempts.{bytes_written}
use Rattle.vx_replay.specs.Replays.{AreLongest, bytes_in, bytes_of, put_after, put_behind, run_of, runs_in}
use Rattle.vx_replay.specs.declared.attempting.Written.{Written}
use Rattle.vx_replay.specs.declared.pieces.PlainPiece.{PlainPiece}
use Rattle.vx_report.specs.Projection.{run_before, runs, same_stream}
use Rattle.vx_value.specs.declared.end.Stream.{Stream}
use Rattle.vx_value.specs.declared.end.Stream.TheVariants.{Err, Out}

-- the bytes of a text, each with its stream
abbrev tagged : Stream → List ℕ → List (Stream × ℕ)
tagged s text = map (λ b. (s, b)) text

some_length : (n : ℕ) → suc n ≡ 0 → ⊥
some_length n e = cc

is_none : (n : ℕ) → true ≡ (n == 0) → n ≡ 0
is_none n e = grind (arith, nat_tests)

is_some : (n : ℕ) → false ≡ (n == 0) → n ≡ 0 → ⊥
is_some n e none = grind (arith, nat_tests)

-- ---- runs of bytes

run_longer : (s : Stream) (b : ℕ) (text : List ℕ) → run_before s b ((s, text) ∷ []) ≡ (s, b ∷ text) ∷ []
run_longer Out b text = refl
run_longer Err b text = refl

runs_tagged : (s : Stream) (b : ℕ) (text : List ℕ) → runs (tagged s (b ∷ text)) ≡ (s, b ∷ text) ∷ []
runs_tagged s b [] = refl
runs_tagged s b (next ∷ text) = ap (run_before s b) (runs_tagged s next text) ∙ run_longer s b (next ∷ text)

-- a byte before one run, and a text behind it
both_one : (t u s : Stream) (b : ℕ) (run text : List ℕ) → run_before t b (put_behind s text ((u, run) ∷ [])) ≡ put_behind s text (run_before t b ((u, run) ∷ []))
both_one Out Out Out b run text = refl
both_one Out Out Err b run text = refl
both_one Out Err Out b run text = refl
both_one Out Err Err b run text = refl
both_one Err Out Out b run text = refl
both_one Err Out Err b run text = refl
both_one Err Err Out b run text = refl
both_one Err Err Err b run text = refl

both_more : (same : Bool) (t s : Stream) (b : ℕ) (text : List ℕ) (run next : Stream × List ℕ) (rest : List (Stream × List ℕ))
    → (if same then (t, b ∷ run.1) ∷ put_after s text next rest else (t, b ∷ []) ∷ run ∷ put_after s text next rest)
    ≡ put_behind s text ((if same then (t, b ∷ run.1) ∷ next ∷ rest else (t, b ∷ []) ∷ run ∷ next ∷ rest))
both_more true t s b text run next rest = refl
both_more false t s b text run next rest = refl

both : (t : Stream) (b : ℕ) (s : Stream) (text : List ℕ) (rs : List (Stream × List ℕ)) → run_before t b (put_behind s text rs) ≡ put_behind s text (run_before t b rs)
both t b s text [] = refl
both t b s text ((u, run) ∷ []) = both_one t u s b run text
both t b s text (run ∷ next ∷ rest) = both_more (same_stream t run.0) t s b text run next rest

runs_more : (o : List (Stream × ℕ)) (s : Stream) (b : ℕ) (text : List ℕ) → runs (o ++ tagged s (b ∷ text)) ≡ put_behind s (b ∷ text) (runs o)
runs_more [] s b text = runs_tagged s b text
runs_more ((t, c) ∷ o) s b text = ap (run_before t c) (runs_more o s b text) ∙ both t c s (b ∷ text) (runs o)

-- ---- bytes of runs

abbrev joined : List (Stream × List ℕ) → List (Stream × ℕ)
joined [] = []
joined (run ∷ rest) = tagged run.0 run.1 ++ joined rest

continues : (t s : Stream) (run text : List ℕ) → joined (put_after s text (t, run) []) ≡ (tagged t run ++ []) ++ tagged s text
continues Out Out run text = append-nil (tagged Out (run ++ text)) ∙ map-append (λ b. (Out, b)) run text ∙ ap (λ x. x ++ tagged Out text) (sym (append-nil (tagged Out run)))
continues Err Err run text = append-nil (tagged Err (run ++ text)) ∙ map-append (λ b. (Err, b)) run text ∙ ap (λ x. x ++ tagged Err text) (sym (append-nil (tagged Err run)))
continues Out Err run text = ap (λ x. tagged Out run ++ x) (append-nil (tagged Err text)) ∙ ap (λ x. x ++ tagged Err text) (sym (append-nil (tagged Out run)))
continues Err Out run text = ap (λ x. tagged Err run ++ x) (append-nil (tagged Out text)) ∙ ap (λ x. x ++ tagged Out text) (sym (append-nil (tagged Err run)))

joined_after : (s : Stream) (text : List ℕ) (run : Stream × List ℕ) (rest : List (Stream × List ℕ)) → joined (put_after s text run rest) ≡ joined (run ∷ rest) ++ tagged s text
joined_after s text (t, run) [] = continues t s run text
joined_after s text (t, run) (next ∷ rest) = ap (λ x. tagged t run ++ x) (joined_after s text next rest) ∙ sym (append_assoc (tagged t run) (joined (next ∷ rest)) (tagged s text))

joined_behind : (s : Stream) (text : List ℕ) (rs : List (Stream × List ℕ)) → joined (put_behind s text rs) ≡ joined rs ++ tagged s text
joined_behind s text [] = append-nil (tagged s text)
joined_behind s text (run ∷ rest) = joined_after s text run rest

joined_runs : (pieces : List PlainPiece) → bytes_in pieces ≡ joined (runs_in pieces)
joined_runs [] = refl
joined_runs (piece ∷ pieces) = flat_map-cons bytes_of piece pieces ∙ ap (λ x. bytes_of piece ++ x) (joined_runs pieces)

-- ---- pieces

-- one piece that continues the last one
pub one_put : (pieces : List PlainPiece) (last next whole : PlainPiece) → true ≡ same_stream last.stream next.stream → whole ≡ record { stream = last.stream; text = last.text ++ next.text }
    → runs_in (pieces ++ whole ∷ []) ≡ runs_in pieces ++ put_after next.stream next.text (last.stream, last.text) []
one_put pieces last next whole same is = map-append run_of pieces (whole ∷ []) ∙ rw (← same, is) refl

pub two_put : (pieces : List PlainPiece) (last next : PlainPiece) → false ≡ same_stream last.stream next.stream
    → runs_in ((pieces ++ last ∷ []) ++ next ∷ []) ≡ runs_in pieces ++ put_after next.stream next.text (last.stream, last.text) []
two_put pieces last next other = ap runs_in (append_assoc pieces (last ∷ []) (next ∷ [])) ∙ map-append run_of pieces (last ∷ next ∷ []) ∙ rw (← other) refl

after_last : (s : Stream) (text : List ℕ) (run : Stream × List ℕ) (rest : List (Stream × List ℕ)) (last : Stream × List ℕ) → put_after s text run (rest ++ last ∷ []) ≡ run ∷ (rest ++ put_after s text last [])
after_last s text run [] last = refl
after_last s text run (next ∷ rest) last = ap (λ x. run ∷ x) (after_last s text next rest last)

last_behind : (s : Stream) (text : List ℕ) (rs : List (Stream × List ℕ)) (last : Stream × List ℕ) → put_behind s text (rs ++ last ∷ []) ≡ rs ++ put_after s text last []
last_behind s text [] last = refl
last_behind s text (run ∷ rs) last = after_last s text run rs last

pub behind_last : (old taken new : List PlainPiece) (last next : PlainPiece) → old ≡ taken ++ last ∷ [] → runs_in new ≡ runs_in taken ++ put_after next.stream next.text (last.stream, last.text) []
    → runs_in new ≡ put_behind next.stream next.text (runs_in old)
behind_last old taken new last next is e =
    e ∙ sym (ap (put_behind next.stream next.text) (ap runs_in is ∙ map-append run_of taken (last ∷ [])) ∙ last_behind next.stream next.text (runs_in taken) (last.stream, last.text))

pub behind_none : (old taken : List PlainPiece) (next : PlainPiece) → old ≡ taken ++ [] → length taken ≡ 0 → runs_in (taken ++ next ∷ []) ≡ put_behind next.stream next.text (runs_in old)
behind_none old [] next is none = rw is refl
behind_none old (piece ∷ taken) next is none = absurd (some_length (length taken) none)

-- what was written behind the others, where it is not empty
bytes_put : (old new : List PlainPiece) (s : Stream) (text : List ℕ) → runs_in new ≡ put_behind s text (runs_in old) → bytes_in new ≡ bytes_in old ++ map (λ b. (s, b)) text
bytes_put old new s text e = joined_runs new ∙ ap joined e ∙ joined_behind s text (runs_in old) ∙ ap (λ x. x ++ tagged s text) (sym (joined_runs old))

pub all_put : {T E : Type 0} (r : Result T E) (old new : List PlainPiece) (written : Option Written) (w : Written) (text : List ℕ) → written ≡ Some w → text ≡ w.bytes.items → OnOk r (runs_in new ≡ put_behind w.stream text (runs_in old))
    → OnOk r (bytes_in new ≡ bytes_in old ++ bytes_written written)
all_put r old new written w text is spelled =
    on_ok_weaker r (λ e. bytes_put old new w.stream text e ∙ ap (λ b. bytes_in old ++ b) (ap (λ t. map (λ b. (w.stream, b)) t) spelled ∙ sym (ap bytes_written is)))

pub longest_put : (old new : List PlainPiece) (s : Stream) (text : List ℕ) → runs_in new ≡ put_behind s text (runs_in old) → false ≡ (length text == 0) → AreLongest old → AreLongest new
longest_put old new s [] e some longest = absurd (is_some 0 some refl)
longest_put old new s (b ∷ text) e some longest =
    record { same = e ∙ ap (put_behind s (b ∷ text)) longest.same ∙ sym (runs_more (bytes_in old) s b text) ∙ ap runs (sym (bytes_put old new s (b ∷ text) e)) }

-- nothing was written
pub none_put : (pieces : List PlainPiece) (s : Stream) (text : List ℕ) → true ≡ (length text == 0) → bytes_in pieces ≡ bytes_in pieces ++ map (λ b. (s, b)) text
none_put pieces s [] none = sym (append-nil (bytes_in pieces))
none_put pieces s (b ∷ text) none = absurd (some_length (length text) (is_none (suc (length text)) none))
