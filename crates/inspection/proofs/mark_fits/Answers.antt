use Rattle.std.proofs.Common.{◌≡◌, Bool, true, false, sym, refl, ap, ◌∙◌}
use mathlib.Core.Bool.{beq, false≢true}
use Rattle.children.proofs.Links.{links_wide}
use Rattle.children.specs.Links.{link_row}
use Rattle.living.proofs.Bits.{member_laid}
use Rattle.inspection.proofs.mark_fits.Goals as goal

same_bools : (a b : Bool) → beq a b ≡ true → a ≡ b
same_bools true true e = refl
same_bools true false e = absurd (false≢true e)
same_bools false true e = absurd (false≢true e)
same_bools false false e = refl

bools_same : (a b : Bool) → a ≡ b → beq a b ≡ true
bools_same true b e = ap (λ x. beq true x) (sym e)
bools_same false b e = ap (λ x. beq false x) (sym e)

pub returns-clause-yes : goal.returns-clause-yes
returns-clause-yes c n f s work rest held e =
    let ws = c.args.memory.now in
    let h : c.contains.result ≡ s c.args.who =
    member_laid ws n _ f (link_row f) s work rest c.marks_at.result c.args.who c.contains.result held.0 (links_wide f) c.marks_at.ensures.value c.requires.number c.contains.ensures.sets in
    sym h ∙ same_bools c.contains.result c.is_marked.result e ∙ c.is_marked.ensures.value n f s work rest held

pub returns-clause-no : goal.returns-clause-no
returns-clause-no c n f s work rest held right =
    let ws = c.args.memory.now in
    let h : c.contains.result ≡ s c.args.who =
    member_laid ws n _ f (link_row f) s work rest c.marks_at.result c.args.who c.contains.result held.0 (links_wide f) c.marks_at.ensures.value c.requires.number c.contains.ensures.sets in
    bools_same c.contains.result c.is_marked.result (h ∙ right ∙ sym (c.is_marked.ensures.value n f s work rest held))
