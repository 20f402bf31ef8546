use Rattle.std.proofs.lemmas.Result.{IfOk-weaker}
use Rattle.vx_verify.proofs.MadeLaws.{uncut, whole_cut, words_rest, words_tops}
use Rattle.vx_verify.proofs.rows.cut_off.Goals as goal

pub cut_under-requires-clause-tops : goal.cut_under-requires-clause-tops
cut_under-requires-clause-tops c = words_tops c.args.store.now _ _ (rw c.in-Some.is at c.in_ok-found.ensures)

pub cut_under-requires-clause-rest : goal.cut_under-requires-clause-rest
cut_under-requires-clause-rest c = words_rest c.args.store.now _ _ (rw c.in-Some.is at c.in_ok-found.ensures)

pub returns-in-Some : goal.returns-in-Some
returns-in-Some c =
    IfOk-weaker c.cut_under.result _ _
    (λ found h. whole_cut c.args.store.now c.args.form c.args.operands c.in-Some.tops.items c.in-Some.rest found (rw (c.in-Some.is, c.upper.ensures) at c.in_ok-found.ensures) h)
    c.cut_under.ensures

pub returns-in-None : goal.returns-in-None
returns-in-None c = uncut c.args.store.now c.args.form c.args.operands (rw (c.in-None.is, c.upper.ensures) at c.in_ok-found.ensures)
