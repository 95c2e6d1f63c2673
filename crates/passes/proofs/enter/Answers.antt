use Rattle.std.proofs.Common.{◌≡◌, suc, ◌+◌, ◌∷◌, set, length, replicate, ap, ◌∙◌, subst, arith}
use Rattle.amounts.specs.Passes.{count_step, multiple_step}
use Rattle.amounts.specs.Lines.{divided_among}
use Rattle.passes.specs.Rows.{Rows, Rowed, with_order, with_counts, with_multiples}
use Rattle.passes.specs.Listings.{order_row, counts_row, multiples_row, listed_rows}
use Rattle.passes.proofs.Rows.{rowed_limit}
use Rattle.passes.proofs.Listings.{order_front, filled_front}
use Rattle.passes.proofs.enter.Goals as goal

pub returns-then-count-memory-clause-entered : goal.returns-then-count-memory-clause-entered
returns-then-count-memory-clause-entered c n f ps out spare rest held long h = absurd (omega (arith, rowed_limit held))

pub returns-clause-entered : goal.returns-clause-entered
returns-clause-entered c n f ps out spare rest held long h =
    let who = c.args.who in
    let rows = listed_rows n f out in
    let v = c.line_of-line.ensures.value n f ps rows spare rest held in
    let at : c.args.count ≡ length out = omega arith in
    let next : who + 1 ≡ suc who = omega arith in
    let order : set (order_row n out) c.args.count (who + 1) ≡ order_row n (who ∷ out) = (λ j. set (order_row n out) (at j) (next j)) ∙ order_front n who out in
    let counts : set (counts_row n f out) who c.line_of-line.result.parts ≡ counts_row n f (who ∷ out) =
    ap (λ x. set (counts_row n f out) who x) v.0 ∙ filled_front count_step (divided_among f) who out (replicate n 0) in
    let multiples : set (multiples_row n f out) who c.unwrap_or.result ≡ multiples_row n f (who ∷ out) =
    ap (λ x. set (multiples_row n f out) who x) (c.unwrap_or.ensures ∙ v.1) ∙ filled_front multiple_step (divided_among f) who out (replicate n 0) in
    let placed = c.put_word.ensures.left n f ps rows spare rest held in
    let counted = c.put_word-2.ensures.left n f ps (with_order rows (set (order_row n out) c.args.count (who + 1))) spare rest placed in
    let left =
    c.put_word-3.ensures.left n f ps (with_counts (with_order rows (set (order_row n out) c.args.count (who + 1))) (set (counts_row n f out) who c.line_of-line.result.parts)) spare rest counted in
    (omega arith, subst (λ (r : Rows). Rowed c.put_word-3.new.memory n f ps r spare rest) (λ i. with_multiples (with_counts (with_order rows (order i)) (counts i)) (multiples i)) left)
