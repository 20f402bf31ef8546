use Rattle.std.proofs.Common.{[], ap, arith, subst, suc, sym, zero, ◌∙◌, ◌∷◌}
use Rattle.std.proofs.lemmas.List.Elements.{All-append}
use Rattle.std.specs.List.{All}
use Rattle.vx_types.specs.Rows.{row_of}
use Rattle.vx_verify.specs.KnownRows.{AreKnown, IsKnown}
use Rattle.vx_verify.specs.declared.known_rows.KnownRow.{KnownRow}
use Rattle.vx_verify.proofs.known_rows.KnownRows.put.Goals as goal

one : {X : Type 0} (P : X → Type 0) (x : X) → P x → All P (x ∷ [])
one P x h zero d l = h
one P x h (suc k) d l = absurd (omega arith)

pub returns-clause-ok : goal.returns-clause-ok
returns-clause-ok c =
    let p = c.args.program.now in
    let m = c.args.method.0 in
    let known : KnownRow = record { naming = c.args.naming; row = c.in_ok-row.row } in
    subst (AreKnown p m) (sym c.in_ok-push.ensures.items)
    (All-append (IsKnown p m) c.args.self.now.rows.items (known ∷ []) c.requires.rows
    (one (IsKnown p m) known (c.in_ok-row.ensures ∙ ap (row_of p m) (sym c.requires.naming))))
