-- What is written line by line.
use Rattle.std.proofs.Common.{◌≡◌, ◌≤◌, ◌<◌, ◌⊎◌, ◌+◌, ◌*◌, ℕ, List, [], ◌∷◌, ◌++◌, length, Some, None, inl, inr, refl, sym, ap, subst, ◌∙◌, arith, append-nil, append_assoc, length-append, Option}
use Rattle.std.specs.Prelude.{IfSome}
use Rattle.std.specs.List.{flat_map}
use Rattle.vx_io.specs.Sink.{Gains, SinkState, gains_then}
use Rattle.vx_engine.proofs.Rounds.{rounds_counted}
use Rattle.vx_engine.specs.Rounds.{HasGoneOn}
use Rattle.vx_link.specs.declared.program.Program.{Program}
use Rattle.vx_space.specs.Sets.{Sets}
use Rattle.vx_standing.specs.State.{StateView}
use Rattle.vx_watch.specs.Progress.{progress_of}
use Rattle.vx_watch.specs.Telling.{AreAfter, HasHeard, HasRefused, HasWatched, progress_line}
use Rattle.vx_watch.specs.declared.progress.Progress.{Progress}

-- nothing was written
pub heard_none : (s : SinkState) → HasHeard s s []
heard_none s = record { heard = inl (record { told = told s.written }); faults = omega (arith); shortages = omega (arith) }
  where
    told : (w : Option (List ℕ)) → IfSome w (λ before. w ≡ Some (before ++ []))
    told None = tt
    told (Some xs) = ap Some (sym (append-nil xs))

-- bytes were written, and others behind them
pub heard_then : (a b c : SinkState) (p q : List ℕ) → HasHeard a b p → HasHeard b c q → HasHeard a c (p ++ q)
heard_then a b c p q h k = record {
  heard = by h.heard k.heard;
  faults = omega (arith, h.faults, k.faults);
  shortages = omega (arith, h.shortages, k.shortages);
}
  where
    first : HasRefused a b → HasRefused a c
    first (inl rose) = inl (omega (arith, rose, k.faults))
    first (inr rose) = inr (omega (arith, rose, k.shortages))

    last : HasRefused b c → HasRefused a c
    last (inl rose) = inl (omega (arith, rose, h.faults))
    last (inr rose) = inr (omega (arith, rose, h.shortages))

    by : Gains a b p ⊎ HasRefused a b → Gains b c q ⊎ HasRefused b c → Gains a c (p ++ q) ⊎ HasRefused a c
    by (inl one) (inl other) = inl (gains_then a b c p q one other)
    by (inr refused) other = inr (first refused)
    by (inl one) (inr refused) = inr (last refused)

after_push : (rounds : ℕ) (list : List Progress) (p : Progress) → AreAfter rounds 100000 list → p.rounds ≡ rounds + length list * 100000 → AreAfter rounds 100000 (list ++ p ∷ [])
after_push rounds [] p h e = (omega (arith, e), tt)
after_push rounds (x ∷ list) p h e = (h.0, after_push (rounds + 100000) list p h.1 (omega (arith, e)))

lines_behind : (list : List Progress) (p : Progress) → flat_map progress_line (list ++ p ∷ []) ≡ flat_map progress_line list ++ progress_line p
lines_behind [] p = append-nil (progress_line p)
lines_behind (x ∷ list) p = ap (λ rest. progress_line x ++ rest) (lines_behind list p) ∙ sym (append_assoc (progress_line x) (flat_map progress_line list) (progress_line p))

-- while rounds are made: as many lines as there were 100,000 rounds
pub record IsWatching {S I : Type 0} (old new : SinkState) (st : StateView S I) : Type 0 where
  pub list : List Progress
  pub after : AreAfter 100000 100000 list
  pub lines : HasHeard old new (flat_map progress_line list)
  pub rounds : (st.groups ≡ []) ⊎ (st.rounds ≡ length list * 100000)

pub watching_none : {S I : Type 0} (s : SinkState) (st : StateView S I) → st.rounds ≡ 0 → IsWatching s s st
watching_none s st e = record { list = []; after = tt; lines = heard_none s; rounds = inr e }

pub watching_over : {S I : Type 0} (old new : SinkState) (before after : StateView S I) → IsWatching old new before → after.groups ≡ [] → IsWatching old new after
watching_over old new before after h e = record { list = h.list; after = h.after; lines = h.lines; rounds = inl e }

pub watched_none : (s : SinkState) → HasWatched s s
watched_none s = record { list = []; after = tt; lines = heard_none s }

pub watched : {S I : Type 0} (old new : SinkState) (st : StateView S I) → IsWatching old new st → HasWatched old new
watched old new st h = record { list = h.list; after = h.after; lines = h.lines }

-- 100,000 rounds behind, and a line
pub watching_on : {S I : Type 0} (p : Program) (First : Type 0) (old between new : SinkState) (sets next : Sets I) (of : ℕ) (before after : StateView S I) → 0 < length before.groups → 0 < length after.groups → IsWatching old between before → HasGoneOn p First 100000 sets next before after → HasHeard between new (progress_line (progress_of next of after)) → IsWatching old new after
watching_on p First old between new sets next of before after some more h made line =
    let counted = rounds_counted p First sets before made.made next after made.rounds in
    let all : made.made ≡ 100000 = elim made.all [ inl none ↦ absurd (no_group after.groups more none) | inr full ↦ full ] in
    let reached : before.rounds ≡ length h.list * 100000 = elim h.rounds [ inl none ↦ absurd (no_group before.groups some none) | inr e ↦ e ] in
    let told = progress_of next of after in
    record {
      list = h.list ++ told ∷ [];
      after = after_push 100000 h.list told h.after (omega (arith, counted, all, reached));
      lines = subst (HasHeard old new) (sym (lines_behind h.list told)) (heard_then old between new (flat_map progress_line h.list) (progress_line told) h.lines line);
      rounds = let long = length-append h.list (told ∷ []) in inr (omega (arith, counted, all, reached, long));
    }
  where
    no_group : {A : Type 0} (list : List A) → 0 < length list → list ≡ [] → ⊥
    no_group list some none = let e = ap length none in omega (arith, some, e)
