use Rattle.std.proofs.Common.{◌≡◌, ◌+◌, get_or, set, subst, arith}
use Rattle.passes.specs.Rows.{Rowed, with_pieces}
use Rattle.passes.proofs.add.Goals as goal

pub returns-clause-added : goal.returns-clause-added
returns-clause-added c n f ps rows spare rest held fits =
    let who = c.args.who in
    let read = c.word_at-pieces.ensures.value n f ps rows spare rest held in
    let sum : c.saturating_add.result ≡ get_or rows.pieces who 0 + c.args.more = omega (arith, c.saturating_add.ensures) in
    subst (λ v. Rowed c.put_word.new.memory n f ps (with_pieces rows (set rows.pieces who v)) spare rest) sum (c.put_word.ensures.left n f ps rows spare rest held)
