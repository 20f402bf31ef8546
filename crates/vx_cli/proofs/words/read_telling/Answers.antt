use Rattle.std.proofs.Common.{codes, refl, sym}
use Rattle.std.proofs.lemmas.Slice.Eq.{bytes_eq-Decides}
use Rattle.vx_cli.proofs.words.read_telling.Goals as goal

pub returns-then-eq : goal.returns-then-eq
returns-then-eq c = ((bytes_eq-Decides c.args.word.now (codes "interact")).0 (sym c.if-eq.ensures), refl, tt)

pub returns-then-eq-2 : goal.returns-then-eq-2
returns-then-eq-2 c = ((bytes_eq-Decides c.args.word.now (codes "picture")).0 (sym c.if-eq-2.ensures), refl, tt)

pub returns-then-eq-3 : goal.returns-then-eq-3
returns-then-eq-3 c = ((bytes_eq-Decides c.args.word.now (codes "cover")).0 (sym c.if-eq-3.ensures), refl, tt)

pub returns-then-eq-4 : goal.returns-then-eq-4
returns-then-eq-4 c = ((bytes_eq-Decides c.args.word.now (codes "explain")).0 (sym c.if-eq-4.ensures), refl, tt)

pub returns-then-eq-5 : goal.returns-then-eq-5
returns-then-eq-5 c = ((bytes_eq-Decides c.args.word.now (codes "count")).0 (sym c.if-eq-5.ensures), refl, tt)

pub returns-then-eq-6 : goal.returns-then-eq-6
returns-then-eq-6 c = ((bytes_eq-Decides c.args.word.now (codes "list")).0 (sym c.if-eq-6.ensures), refl, tt)

pub returns-then-eq-7 : goal.returns-then-eq-7
returns-then-eq-7 c = ((bytes_eq-Decides c.args.word.now (codes "page")).0 (sym c.if-eq-7.ensures), refl, tt)
