use Rattle.std.proofs.Common.{◌≡◌, ◌/◌, ◌<◌, ℕ, List, length, get_or, set, sum, sym, ap, ◌∙◌, subst, arith}
use Rattle.std.proofs.ByRecursion.{All-weaker}
use Rattle.law.specs.Family.{Family}
use Rattle.living.specs.Places.{Held}
use Rattle.theory.specs.Living.{alive}
use Rattle.amounts.specs.Passes.{added_each}
use Rattle.amounts.specs.Lines.{divided_among}
use Rattle.amounts.proofs.Downward.{handed_many, handed_on_most}
use Rattle.passes.specs.Rows.{Rowed, rows_area, with_pieces}
use Rattle.passes.specs.declared.Lines.{Lines}
use Rattle.passes.proofs.Walks.{lines_there, all_walked}
use Rattle.passes.proofs.Rows.{rowed_limit}
use Rattle.passes.proofs.Downward.{handed_none}
use Rattle.passes.proofs.hand_on.Goals as goal
use Rattle.passes.proofs.hand_on.Goals.{After-count-lines}

-- how many lines were counted
counted : (c : After-count-lines) (n : ℕ) (f : Family) (work rest : List ℕ) → Held c.args.memory.now n f (alive f) work rest → c.count-lines.result ≡ length (divided_among f c.args.who)
counted c n f work rest held =
    let ran = c.count-lines.ensures.ran in
    ran.2
    ∙ ap length
    (all_walked (λ (s : Lines). s.memory.now) (λ (s : Lines). s.walk) f n work rest ran.0 (divided_among f c.args.who) c.lines_below.result ran.1.1.0 ran.1.0 ran.1.1.1 ran.1.1.2
    (subst (λ ws. Held ws n f (alive f) work rest) (sym c.lines_below.ensures.words) held) (c.lines_below.ensures.start n f work rest held))

pub returns-then-lines-eq0-clause-handed : goal.returns-then-lines-eq0-clause-handed
returns-then-lines-eq0-clause-handed c n f ps rows spare rest held small =
    let k = counted (goal.at.returns-then-lines-eq0-clause-handed c).After-count-lines n f (rows_area ps rows spare) rest (held.words, held.room) in
    subst (λ r. Rowed c.args.memory.now n f ps (with_pieces rows r) spare rest) (sym (handed_none c.args.who rows.pieces (divided_among f c.args.who) (sym k ∙ c.if-lines-eq0.true))) held

pub returns-clause-handed : goal.returns-clause-handed
returns-clause-handed c n f ps rows spare rest held small =
    let who = c.args.who in
    let ds = divided_among f who in
    let k = counted (goal.at.returns-clause-handed c).After-count-lines n f (rows_area ps rows spare) rest (held.words, held.room) in
    let read = c.word_at.ensures.value n f ps rows spare rest held in
    let each : c.word_at.result / c.count-lines.result ≡ get_or rows.pieces who 0 / length ds = λ i. read i / k i in
    let some : 0 < length ds = let z = c.if-lines-eq0.false in omega (arith, k) in
    let l = rowed_limit held in
    let long = held.pieces_long in
    let most =
    handed_on_most who rows.pieces ds (length ds) (omega arith) (All-weaker (λ x. x < length f) (λ x. x < length rows.pieces) (λ x h. omega (arith, held.room)) ds (lines_there f who)) (omega arith) in
    let cleared = c.put_word.ensures.left n f ps rows spare rest held in
    let done =
    c.add_below.ensures.added n f ps (with_pieces rows (set rows.pieces who 0)) spare rest cleared
    (subst (λ x. sum (added_each ds x (set rows.pieces who 0)) < 4294967296) (sym each) (omega arith)) in
    subst (λ r. Rowed c.add_below.new.memory n f ps (with_pieces rows r) spare rest) (ap (λ x. added_each ds x (set rows.pieces who 0)) each ∙ sym (handed_many ds who rows.pieces some)) done
